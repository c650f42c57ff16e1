-- The first fault, put together.
use Rattle.std.proofs.Common.{◌≡◌, List, [], Option, Some, None, Err, refl, subst, inl, inr}
use Rattle.river_plan.specs.declared.fault.Named.{Named}
use Rattle.river_plan.specs.declared.fault.Named.TheVariants.{Queue, Variable, Label}
use Rattle.river_plan.specs.declared.fault.PlanFault.{PlanFault}
use Rattle.river_plan.specs.declared.fault.PlanFault.TheVariants.{P1, P2, P3, P4, P5, P6, P7, P8, P9, NoMemory}
use Rattle.river_plan.specs.First.{Along, IsFirst}
use Rattle.river_plan.specs.Forms.{Name, PlanForm, queue_names, variable_names, labels}
use Rattle.river_plan.specs.Limits.{OverLimit}
use Rattle.river_plan.specs.Faults.{IsNew, UndeclaredAt, Repeated, Undeclared, WrittenTwice, ReadTwice, ReadTooEarly, Mistyped, Misfit}
use Rattle.river_plan.specs.Valid.{FirstFault, IsJudged}
use Rattle.river_plan.specs.Wired.{AreNamed, LaterFault}
use Rattle.river_plan.specs.Told.{first_fault_found, fault_of, IsTold}
use Rattle.river_plan.proofs.OneFirst.{fault-one}

-- where no fault of the kinds before a limit holds, the exceeded limit is the first
pub limit-first : (p : PlanForm) (f : PlanFault) → WrittenTwice p None → ReadTwice p None → ReadTooEarly p None → Mistyped p None → Misfit p None
    → OverLimit p (Some f) → LaterFault p (Some f)
limit-first p f c d e g h l = inr (c, inr (d, inr (e, inr (g, inr (h, inl l)))))

-- where the names are in order, the first fault is one of the later ones
pub fault-first : (p : PlanForm) (o : Option PlanFault) → AreNamed p → LaterFault p o → FirstFault p o
fault-first p None n l = (n.0, (n.1, l))
fault-first p (Some f) n l = inr (n.0, inr (n.1, l))

-- THE NAMES

pub queue-again : (p : PlanForm) (q : Name) → IsFirst IsNew (queue_names p) (Some q) → FirstFault p (Some (P1 (Queue q)))
queue-again p q h = inl (Queue q, refl, inl (q, refl, h))

-- the first variable that stands twice is the fault, where no queue does
pub variable-again : (p : PlanForm) (v : Name) → IsFirst IsNew (queue_names p) None → IsFirst IsNew (variable_names p) (Some v)
    → FirstFault p (Some (P1 (Variable v)))
variable-again p v q h = inl (Variable v, refl, inr (q, inl (v, refl, h)))

-- the first label that stands twice is the fault, where no queue and no variable does
pub label-again : (p : PlanForm) (l : Name) → IsFirst IsNew (queue_names p) None → IsFirst IsNew (variable_names p) None
    → IsFirst IsNew (labels p.ops) (Some l) → FirstFault p (Some (P1 (Label l)))
label-again p l q v h = inl (Label l, refl, inr (q, inr (v, (l, refl, h))))

-- no name stands twice
pub names-once : (p : PlanForm) → IsFirst IsNew (queue_names p) None → IsFirst IsNew (variable_names p) None → IsFirst IsNew (labels p.ops) None
    → Repeated p None
names-once p q v l = (q, (v, l))

-- a name that is in neither list is not declared
pub undeclared-among : (p : PlanForm) (queues variables : List Name) → queues ≡ queue_names p → variables ≡ variable_names p → (o : Option Named)
    → Along (λ before op. UndeclaredAt queues variables op) [] p.ops o → Undeclared p o
undeclared-among p queues variables q v o h =
    subst (λ (l : List Name). Along (λ before op. UndeclaredAt (queue_names p) l op) [] p.ops o) v
    (subst (λ (l : List Name). Along (λ before op. UndeclaredAt l variables op) [] p.ops o) q h)

-- the first name that is not declared is the fault, where no name stands twice
pub undeclared-first : (p : PlanForm) (n : Named) → Repeated p None → Undeclared p (Some n) → FirstFault p (Some (P2 n))
undeclared-first p n r u = inr (r, inl (n, refl, u))

-- the first fault may be answered
pub judged-fault : (p : PlanForm) (f : PlanFault) → FirstFault p (Some f) → IsJudged p (Err f)
judged-fault p (P1 n) h = h
judged-fault p (P2 n) h = h
judged-fault p (P3 n) h = h
judged-fault p (P4 n) h = h
judged-fault p (P5 n) h = h
judged-fault p (P6 n) h = h
judged-fault p (P7 n) h = h
judged-fault p (P8 l n) h = h
judged-fault p (P9 n) h = h
judged-fault p NoMemory h = tt

-- the first fault is the one that is told
pub fault_of-is : (p : PlanForm) (o : Option PlanFault) → FirstFault p o → fault_of p ≡ o
fault_of-is p o h = fault-one p (fault_of p) o (first_fault_found p).1 h

-- what may be answered is what is told
pub told-judged : (p : PlanForm) (f : PlanFault) → IsJudged p (Err f) → IsTold p (Err f)
told-judged p (P1 n) h = fault_of-is p (Some (P1 n)) h
told-judged p (P2 n) h = fault_of-is p (Some (P2 n)) h
told-judged p (P3 n) h = fault_of-is p (Some (P3 n)) h
told-judged p (P4 n) h = fault_of-is p (Some (P4 n)) h
told-judged p (P5 n) h = fault_of-is p (Some (P5 n)) h
told-judged p (P6 n) h = fault_of-is p (Some (P6 n)) h
told-judged p (P7 n) h = fault_of-is p (Some (P7 n)) h
told-judged p (P8 l n) h = fault_of-is p (Some (P8 l n)) h
told-judged p (P9 n) h = fault_of-is p (Some (P9 n)) h
told-judged p NoMemory h = tt
