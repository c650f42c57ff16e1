use Rattle.std.proofs.Common.{◌≡◌, sym, ap, ◌∙◌, subst}
use Rattle.std.specs.Prelude.{slice_set}
use Rattle.std.proofs.lemmas.Option.{get_or_from_slice_get}
use Rattle.std.proofs.lemmas.Result.{on_ok_weaker}
use Rattle.class_locks.specs.Logs.{Holding, TakesRows}
use Rattle.class_locks.specs.Piles.{Piled}
use Rattle.fire_tasks.specs.Turns.{cell_with_rows}
use Rattle.fire_tasks.proofs.adding.add_at.Goals as goal

pub add_to_cell-requires : goal.add_to_cell-requires
add_to_cell-requires c =
    let t = c.requires in
    let at = c.index_mut-at.result.now in
    let same : at ≡ t.0 = c.index_mut-at.ensures.value ∙ get_or_from_slice_get c.args.pile.now.items c.args.to.place t.0 at t.1 in
    subst (λ (y : Piled). TakesRows y.1.kinds c.args.to.table c.args.rows.now) (sym same) t.2

pub returns-clause-ok : goal.returns-clause-ok
returns-clause-ok c = λ x g.
    let items = c.args.pile.now.items in
    let to = c.args.to in
    let at = c.index_mut-at.result.now in
    let same : at ≡ x = c.index_mut-at.ensures.value ∙ get_or_from_slice_get items to.place x at g in
    on_ok_weaker c.add_to_cell.result
    (λ e. ap (λ (h : Holding). slice_set items to.place (at.0, h)) e
    ∙ ap (λ (y : Piled). slice_set items to.place (cell_with_rows c.args.op to.table c.args.rows.now y)) same)
    c.add_to_cell.ensures.ok
