use Rattle.std.proofs.Common.{rules, ◌≡◌, true, List, ℤ, [], ◌∷◌, ap, ◌∙◌}
use Rattle.river_road.specs.Load.{load_records, takes_pairs}
use Rattle.river_road.specs.declared.content.FileContent.TheVariants.{Rows as Plain}
use Rattle.river_road.proofs.Loaded.{load_records-wide, pairs-fit}
use Rattle.river_road.proofs.loading.files_for.Goals as goal

pub returns-clause-contents : goal.returns-clause-contents
returns-clause-contents c =
    let one : takes_pairs c.args.decls.now ≡ true = search rules in
    let all : c.in_ok-files_of.field-0 ≡ Plain (load_records c.args.number) ∷ [] =
    c.in_ok-files_of.ensures ∙ ap (λ (rows : List (List ℤ)). Plain rows ∷ []) c.in_ok-records.ensures in
    rw all (pairs-fit c.args.decls.now (load_records c.args.number) one (load_records-wide c.args.number))
