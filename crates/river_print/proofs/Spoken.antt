-- Plans whose operators are, one by one, within the bounds of River text.
use Rattle.std.proofs.Common.{List, [], ◌∷◌, ◌++◌}
use Rattle.river_plan.specs.Forms.{OpForm, PlanForm}
use Rattle.river_print.specs.Printable.{IsShallow, HasForward, IsPrintable}
use Rattle.river_print.specs.Writable.{Every}

-- an operator within the bounds of River text
abbrev pub IsSpoken : OpForm → Type 0
IsSpoken op = IsShallow op.kernel × HasForward op.kernel

-- what holds of each of two lists, holds of each of both
pub every-joined : {A : Type 0} (P : A → Type 0) (xs ys : List A) → Every P xs → Every P ys → Every P (xs ++ ys)
every-joined P [] ys h g = g
every-joined P (x ∷ xs) ys h g = (h.0, every-joined P xs ys h.1 g)

all-shallow : (ops : List OpForm) → Every IsSpoken ops → Every (λ op. IsShallow op.kernel) ops
all-shallow [] h = tt
all-shallow (op ∷ ops) h = (h.0.0, all-shallow ops h.1)

all-forward : (ops : List OpForm) → Every IsSpoken ops → Every (λ op. HasForward op.kernel) ops
all-forward [] h = tt
all-forward (op ∷ ops) h = (h.0.1, all-forward ops h.1)

all-spoken : (ops : List OpForm) → Every (λ op. IsShallow op.kernel) ops → Every (λ op. HasForward op.kernel) ops → Every IsSpoken ops
all-spoken [] h g = tt
all-spoken (op ∷ ops) h g = ((h.0, g.0), all-spoken ops h.1 g.1)

-- a plan of such operators is printable
pub spoken-printable : (p : PlanForm) → Every IsSpoken p.ops → IsPrintable p
spoken-printable p h = record { shallow = all-shallow p.ops h; forward = all-forward p.ops h }

-- and a plan that is has such operators
pub printable-spoken : (p : PlanForm) → IsPrintable p → Every IsSpoken p.ops
printable-spoken p h = all-spoken p.ops h.shallow h.forward
