use Rattle.std.proofs.Common.{◌≡◌, [], sym, subst}
use Rattle.std.specs.Prelude.{IfOk, slice_index_or}
use Rattle.class_locks.specs.Logs.{AreDistinct}
use Rattle.fire_open.proofs.ClassLemmas.{kinds_distinct}
use Rattle.fire_open.proofs.cells.empty_cell.Goals as goal

pub empty-requires : goal.empty-requires
empty-requires c = subst AreDistinct (sym c.in_ok-kinds.ensures) (kinds_distinct (λ n. slice_index_or c.args.classes.now n 0) c.args.class 0 c.args.tables.now)

pub returns : goal.returns
returns c = subst (λ ks. IfOk c.empty.result (λ cell. cell ≡ record { kinds = ks; log = [] })) c.in_ok-kinds.ensures c.empty.ensures
