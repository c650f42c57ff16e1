-- The instants of a run, as they are sorted.
use Rattle.std.proofs.Common.{◌≡◌, ℤ, List, [], map, sym, ◌∙◌, subst}
use Rattle.river_base.specs.declared.item.Item as item
use Rattle.river_base.specs.Instants.{instants, spread}
use Rattle.cql_model.specs.Instants.{program_means}
use Rattle.cql_model.specs.Meaning.{answers}
use Rattle.cql_model.specs.Streams.{Rises}
use Rattle.cql_model.proofs.Stamps.{instants_are}
use Rattle.cql_text.specs.declared.tree.Unit as code_unit
use Rattle.cql_text.specs.Tree.{unit_forms}
use Rattle.slow_cql.specs.Kept.{Entry}

-- sorted instants rise
pub sorted_rise : (files : List (List Entry)) (ts : List ℤ) → ts ≡ instants files → Rises ts
sorted_rise files ts e = subst Rises (sym e) (instants_are files).rise

-- the answers at them are what the program means
pub sorted_mean : (ps parts : List code_unit.Unit) (fs files : List (List Entry)) (ts : List ℤ) (outs : List (List item.Item)) → ts ≡ instants files → ps ≡ parts
    → fs ≡ files
    → outs ≡ map (spread ts) (answers ts [] (unit_forms ps) fs) → outs ≡ program_means (unit_forms parts) files
sorted_mean ps parts fs files ts outs e a b h =
    h ∙ (λ j. map (spread (e j)) (answers (e j) [] (unit_forms (a j)) (b j)))
