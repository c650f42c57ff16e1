-- Why a making is refused, from why a part of it is.
use Rattle.std.proofs.Common.{◌≡◌, ℕ, Result, Ok, Err, sym, ap, ◌∙◌, subst}
use Rattle.params_model.specs.declared.fault.Fault.{Fault}
use Rattle.params_model.specs.declared.fault.Refusal.{Refusal}
use Rattle.params_model.specs.Making.{on_fine}
use Rattle.params_build.specs.declared.refused.Refused.{Refused}
use Rattle.params_build.specs.declared.refused.Refused.TheVariants as refused
use Rattle.params_build.specs.Judging.{IsWhyRefused}
use Rattle.params_front.specs.Standing.{Blames}

-- a result without a fault
abbrev pub fine : {A : Type 0} → A → Result A Refusal
fine x = Ok x

-- a fault of one making is one of another
pub told-more : {A B : Type 0} (e : Refused) (r : Result A Refusal) (r' : Result B Refusal) → ((g : Refusal) → r ≡ Err g → r' ≡ Err g) → IsWhyRefused r e
    → IsWhyRefused r' e
told-more (refused.Program g) r r' h is = h g is
told-more refused.NoMemory r r' h is = tt

-- the first part's fault is that of the whole
pub told-on : {A B : Type 0} (e : Refused) (r : Result A Refusal) (g : A → Result B Refusal) → IsWhyRefused r e → IsWhyRefused (on_fine r g) e
told-on e r g h = told-more e r (on_fine r g) (λ f q. ap (λ x. on_fine x g) q) h

-- so is that of the part behind it
pub told-behind : {A B : Type 0} (e : Refused) (r : Result A Refusal) (x : A) (g : A → Result B Refusal) → r ≡ Ok x → IsWhyRefused (g x) e
    → IsWhyRefused (on_fine r g) e
told-behind e r x g is h = told-more e (g x) (on_fine r g) (λ f q. ap (λ y. on_fine y g) is ∙ q) h

-- of want of memory nothing is told
pub told-memory : {A : Type 0} (e : Refused) (r : Result A Refusal) → e ≡ refused.NoMemory → IsWhyRefused r e
told-memory e r h = subst (IsWhyRefused r) (sym h) tt

same-refusal : {A B : Type 0} (f g : Refusal) → ◌≡◌ {A = Result A Refusal} (Err f) (Err g) → ◌≡◌ {A = Result B Refusal} (Err f) (Err g)
same-refusal f g q = cc q

-- a fault that is blamed on a unit
pub told-blamed : {B : Type 0} (e : Refused) (k : ℕ) (f : Fault) (r : Result B Refusal) → Blames e k f → r ≡ Err (record { unit = k; fault = f })
    → IsWhyRefused r e
told-blamed {B = B} e k f r h is =
    told-more {A = Unit {0}} e (Err (record { unit = k; fault = f })) r
    (λ g q. is ∙ same-refusal {A = Unit {0}} {B = B} (record { unit = k; fault = f }) g q) h
