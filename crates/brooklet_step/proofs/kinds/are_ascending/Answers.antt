use Rattle.std.proofs.Common.{List, ℤ, subst}
use Rattle.std.specs.Prelude.{IsTrue}
use Rattle.river_base.specs.Held.{IsAscending}
use Rattle.brooklet_step.proofs.FitsLemmas.{ascends_by}
use Rattle.brooklet_step.proofs.kinds.are_ascending.Goals as goal

pub returns : goal.returns
returns c =
    subst (λ (rows : List (List ℤ)). (IsTrue c.is_sorted.result → IsAscending rows) × (IsAscending rows → IsTrue c.is_sorted.result)) c.as_slice.ensures
    (ascends_by c.as_slice.result.now c.is_sorted.result c.is_sorted.ensures.cases)
