-- The first queue that is not used as it may be, where the names are in order.
use Rattle.std.proofs.Common.{Some, None, Err, inl, inr, refl}
use Rattle.river_plan.specs.declared.fault.Named.{Named}
use Rattle.river_plan.specs.declared.fault.PlanFault.TheVariants.{P3, P4, P5}
use Rattle.river_plan.specs.Faults.{WrittenTwice, ReadTwice, ReadTooEarly}
use Rattle.river_plan.specs.Forms.{PlanForm}
use Rattle.river_plan.specs.Valid.{IsJudged}
use Rattle.river_plan.specs.Wired.{AreNamed}

pub written_fault : (p : PlanForm) (n : Named) → AreNamed p → WrittenTwice p (Some n) → IsJudged p (Err (P3 n))
written_fault p n a h = inr (a.0, inr (a.1, inl (n, refl, h)))

pub read_fault : (p : PlanForm) (n : Named) → AreNamed p → WrittenTwice p None → ReadTwice p (Some n) → IsJudged p (Err (P4 n))
read_fault p n a w h = inr (a.0, inr (a.1, inr (w, inl (n, refl, h))))

pub early_fault : (p : PlanForm) (n : Named) → AreNamed p → WrittenTwice p None → ReadTwice p None → ReadTooEarly p (Some n) → IsJudged p (Err (P5 n))
early_fault p n a w r h = inr (a.0, inr (a.1, inr (w, inr (r, inl (n, refl, h)))))
