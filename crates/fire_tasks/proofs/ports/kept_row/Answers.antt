use Rattle.std.proofs.Common.{◌≡◌, ◌+◌, take, ◌++◌, ◌∷◌, [], ap, ◌∙◌, rules}
use Rattle.std.proofs.lemmas.List.{take_more}
use Rattle.std.proofs.lemmas.Option.{get_or_from_slice_get}
use Rattle.river_rings.specs.Rows.{row_item}
use Rattle.fire_tasks.proofs.ports.kept_row.Goals as goal

pub returns-clause-taken : goal.returns-clause-taken
returns-clause-taken c = λ t.
    let line = c.args.kept.now.line in
    let at = c.args.kept.now.taken in
    let x = row_item c.copy_row.new.row in
    let e : c.in-Some.after ≡ at + 1 = search rules in
    let f = get_or_from_slice_get line at x x (c.copy_row.ensures c.if-not-copy_row.false) in
    ap (λ n. take n line) e ∙ take_more line at x c.requires ∙ ap (λ y. take at line ++ y ∷ []) f
