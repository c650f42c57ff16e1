-- The tables of a program that is accepted have few keys.
use Rattle.std.proofs.Common.{◌≡◌, ◌≤◌, List, [], ◌∷◌, arith}
use Rattle.std.specs.Prelude.{All, Ok}
use Rattle.std.proofs.lemmas.List.Elements.{All-head, All-tail, All-nil, All-cons}
use Rattle.work_code.specs.Steps.{Steps}
use Rattle.kern_tables.specs.declared.kind.TableKind.{TableKind}
use Rattle.kern_tables.specs.declared.kind.TableKind.TheVariants.{Sum, Collection, Maximum}
use Rattle.kern_tables.specs.Tables.{table_width}
use Rattle.river_plan.specs.declared.plan.TableDecl.{TableDecl}
use Rattle.saw_text.specs.Tree.{TableUnit, StatementUnit, Program}
use Rattle.saw_model.specs.Elaborate.{At, keys_in, nothing_read}
use Rattle.saw_model.specs.Judged.{judged}
use Rattle.saw_model.specs.Meaning.{tables_in, table_decl, table_kind}
use Rattle.saw_model.proofs.Elaborated.{fine}
use Rattle.saw_model.proofs.Parts.{parts_read, reads_parts, tabled_parts, split_parts}

-- no table has more than 8 keys
keys-fit-parts : (p : Program) (s : At) (y : Steps × At) → parts_read p s ≡ fine y → All (λ t. keys_in t.kind ≤ 8) (tables_in p)
keys-fit-parts [] s y h = All-nil (λ t. keys_in t.kind ≤ 8)
keys-fit-parts (TableUnit tb ∷ ps) s y h =
    let d = split_parts (TableUnit tb) ps s y h in
    let here = tabled_parts tb.name (table_kind tb) s d.first d.first_is in
    All-cons (λ t. keys_in t.kind ≤ 8) (table_decl tb) (tables_in ps) here.keys (keys-fit-parts ps d.first.1 d.others d.others_is)
keys-fit-parts (StatementUnit c ∷ ps) s y h =
    let d = split_parts (StatementUnit c) ps s y h in
    keys-fit-parts ps d.first.1 d.others d.others_is

-- the tables of a program that is accepted have at most 8 keys
pub keys_fit : (p : Program) (read : Steps × At) → judged p ≡ Ok read → All (λ t. keys_in t.kind ≤ 8) (tables_in p)
keys_fit p read j = keys-fit-parts p nothing_read read (reads_parts 1 p nothing_read read j)

-- so a row has at most 10 values
narrow-kind : (kind : TableKind) → keys_in kind ≤ 8 → table_width kind ≤ 16
narrow-kind (Sum keys) h = omega (arith, h)
narrow-kind (Collection keys) h = omega (arith, h)
narrow-kind (Maximum best keys) h = omega (arith, h)

narrow-tables : (ts : List TableDecl) → All (λ t. keys_in t.kind ≤ 8) ts → All (λ t. table_width t.kind ≤ 16) ts
narrow-tables [] h = All-nil (λ t. table_width t.kind ≤ 16)
narrow-tables (t ∷ ts) h =
    All-cons (λ t. table_width t.kind ≤ 16) t ts (narrow-kind t.kind (All-head (λ t. keys_in t.kind ≤ 8) t ts h))
    (narrow-tables ts (All-tail (λ t. keys_in t.kind ≤ 8) t ts h))

-- a row of each table of a program that is accepted has at most 16 values
pub narrow_fit : (p : Program) (read : Steps × At) → judged p ≡ Ok read → All (λ t. table_width t.kind ≤ 16) (tables_in p)
narrow_fit p read j = narrow-tables (tables_in p) (keys_fit p read j)
