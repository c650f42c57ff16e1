-- The steps by which code reads whole units.
use Rattle.std.proofs.Common.{◌≡◌, List, [], ◌∷◌, Some, None, refl}
use Rattle.text_tokens.specs.Tok.{Tok}
use Rattle.text_forms.specs.Texts.{whole}
use Rattle.river_script.specs.Script.{StepForm}
use Rattle.river_script.specs.Reading.{step_at}

-- a unit that is no step
pub whole-none : (ts : List Tok) → step_at ts ≡ None → whole step_at ts ≡ None
whole-none ts e = rw e refl

-- a unit that is a step
pub whole-all : (ts : List Tok) (e : StepForm) → step_at ts ≡ Some (e, []) → whole step_at ts ≡ Some e
whole-all ts e read = rw read refl

-- a unit that goes on behind a step
pub whole-more : (ts rest : List Tok) (e : StepForm) → step_at ts ≡ Some (e, rest) → (rest ≡ [] → ⊥) → whole step_at ts ≡ None
whole-more ts [] e read more = absurd (more refl)
whole-more ts (t ∷ rest) e read more = rw read refl

pub ruleset wholes = (whole-none, whole-all, whole-more)
