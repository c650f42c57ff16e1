-- Names and their values in memory.
use Rattle.std.proofs.Common.{◌≡◌, ℕ, ℤ, ◌+◌, ◌<◌, ◌≤◌, List, [], ◌∷◌, length, drop, get_or, Some}
use Rattle.std.proofs.Common.{refl, ap, ◌∙◌, subst, ⊎_elim, drop-cons, add-one}
use Rattle.std.specs.Prelude.{if◌then◌else◌}
use Rattle.std.proofs.lemmas.List.{drop_all}
use Rattle.indexmap.specs.IndexMap.{IndexMap, get}
use Rattle.river_base.specs.Name.{name_eq}
use Rattle.river_plan.specs.Forms.{Name}
use Rattle.river_plan.proofs.NameLemmas.{cases_name}
use Rattle.streamit_model.specs.Meaning.{look}
use Rattle.params_model.specs.Environment.{bound}
use Rattle.params_print.specs.Known.{known_in, IsByName}
use Rattle.params_print.specs.declared.bindings.Binding.{Binding}

-- the newest has a value
pub by_name-there : {S : Type 0} (bs : List Binding) (b : Binding) (newest : IndexMap Name ℤ S) → IsByName (b ∷ bs) newest
    → get name_eq newest b.name ≡ Some b.value
by_name-there bs b newest h = ⊎_elim
    (λ s. h.found b.name ∙ ap (λ t. if t then Some b.value else look (known_in bs) b.name) s.1)
    (λ d. absurd (d.0 refl))
    (cases_name b.name b.name)

-- without the newest its name has what it hid
pub by_name-pop : {S : Type 0} (bs : List Binding) (b : Binding) (old new : IndexMap Name ℤ S) → IsByName (b ∷ bs) old
    → ((n : Name) → get name_eq new n ≡ (if name_eq b.name n then b.hidden else get name_eq old n)) → IsByName bs new
by_name-pop bs b old new h is = record {
  found = λ n. is n ∙ ⊎_elim
      (λ s. ap (λ t. if t then b.hidden else get name_eq old n) s.1 ∙ subst (λ m. b.hidden ≡ look (known_in bs) m) s.0 h.hidden.0)
      (λ d. ap (λ t. if t then b.hidden else get name_eq old n) d.1 ∙ h.found n ∙ ap (λ t. if t then Some b.value else look (known_in bs) n) d.1)
      (cases_name b.name n);
  hidden = h.hidden.1;
}

bound-nil : (ps : List Name) → bound ps [] ≡ []
bound-nil [] = refl
bound-nil (p ∷ ps) = refl

-- where either list ends nothing is bound
pub bound-end : (ps : List Name) (zs : List ℤ) (i : ℕ) → length ps ≤ i → bound (drop i ps) (drop i zs) ≡ []
bound-end ps zs i h = ap (λ l. bound l (drop i zs)) (drop_all i ps h)

pub bound-short : (ps : List Name) (zs : List ℤ) (i : ℕ) → length zs ≤ i → bound (drop i ps) (drop i zs) ≡ []
bound-short ps zs i h = ap (λ l. bound (drop i ps) l) (drop_all i zs h) ∙ bound-nil (drop i ps)

pub ruleset ends = (bound-end, bound-short)

-- what is bound from a place on
pub bound-at : (ps : List Name) (zs : List ℤ) (i : ℕ) (p : Name) (z : ℤ) → i < length ps → i < length zs
    → bound (drop i ps) (drop i zs) ≡ (get_or ps i p, get_or zs i z) ∷ bound (drop (i + 1) ps) (drop (i + 1) zs)
bound-at ps zs i p z a b = rw (drop-cons ps i p a, drop-cons zs i z b, add-one) refl
