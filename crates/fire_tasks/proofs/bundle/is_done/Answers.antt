use Rattle.fire_tasks.proofs.BundleLemmas.{not_done}
use Rattle.fire_tasks.proofs.bundle.is_done.Goals as goal

pub returns-in-Some-clause-done : goal.returns-in-Some-clause-done
returns-in-Some-clause-done c = (
  λ f. absurd (cc f),
  λ d. absurd (not_done c.first_ready.new.ins c.in-Some.field-0 c.in-Some.ensures.some d.received),
)
