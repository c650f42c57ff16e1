use Rattle.std.proofs.Common.{ℕ, sym, subst}
use Rattle.std.specs.Prelude.{slice_index_or}
use Rattle.fire_run.specs.Closed.{AreInClassLists, ArePlaced}
use Rattle.fire_run.proofs.SortLemmas.{sorted_by, placed_by}
use Rattle.fire_run.proofs.sorting.in_order.Goals as goal

pub place_all-requires-clause-sorted : goal.place_all-requires-clause-sorted
place_all-requires-clause-sorted c =
    let s = c.requires.sorted in
    let f = λ (n : ℕ). slice_index_or c.in_ok-classes.classes n 0 in (
      s.0,
      subst (λ ds. AreInClassLists f s.0 ds c.args.lists.now) (sym c.requires.decls)
          (sorted_by c.args.plan.now c.in_ok-classes.classes s.0 c.args.lists.now c.in_ok-classes.ensures s.1),
    )

pub returns : goal.returns
returns c =
    λ logs s.
    let f = λ (n : ℕ). slice_index_or c.in_ok-classes.classes n 0 in
    placed_by c.args.plan.now c.in_ok-classes.classes logs c.place_all.new.tables c.in_ok-classes.ensures
    (subst (λ ds. ArePlaced f logs 0 ds c.place_all.new.tables) c.requires.decls
    (c.place_all.ensures logs
    (subst (λ ds. AreInClassLists f logs ds c.args.lists.now) (sym c.requires.decls)
    (sorted_by c.args.plan.now c.in_ok-classes.classes logs c.args.lists.now c.in_ok-classes.ensures s))))
