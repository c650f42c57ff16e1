-- Classes are a function of the lists of users.
use Rattle.std.proofs.Common.{◌≡◌, ℕ, zero, suc, ◌<◌, ℤ, pos, nat_abs, List, length, sym, ap, ◌∙◌, lt_of_not-le, ext_get_or, arith}
use mathlib.Core.Logic.{dite}
use native.Mathlib.Decide.{dec_le, ℕ_discrete}
use Rattle.plan_classes.specs.Classes.{AreClasses, ClassesAreUnique, class_of}

module _ (users : List (List ℤ)) where
  -- a table cannot have a lesser number in a than in b, if all tables before it agree
  one_way : (a b : List ℤ) → AreClasses users a → AreClasses users b → (t x y : ℕ) → t < length users → class_of a t ≡ pos x → class_of b t ≡ pos y → x < y
      → ((s : ℕ) → s < t → s < length users → class_of a s ≡ class_of b s) → ⊥
  one_way a b of_a of_b t x y lt ax by less before =
      let g = of_b.by_first t y x lt by less in
      let low = g.1 in
      let sl : g.0 < length users = omega (arith, lt, low) in
      let same = (of_a.together g.0 t sl lt).0 (before g.0 g.1 sl ∙ (g.2 ∙ sym ax)) in
      let e : x ≡ y = ap nat_abs (sym g.2 ∙ ((of_b.together g.0 t sl lt).1 same ∙ by)) in
      omega arith

  agree : (a b : List ℤ) → AreClasses users a → AreClasses users b → (m t : ℕ) → t < m → t < length users → class_of a t ≡ class_of b t
  agree a b of_a of_b zero t tm lt = absurd (omega arith)
  agree a b of_a of_b (suc m) t tm lt =
      let x = of_a.numbers t lt in
      let y = of_b.numbers t lt in
      dite (ℕ_discrete x.0 y.0)
      (λ e. x.1 ∙ (ap pos e ∙ sym y.1))
      (λ ne. dite (dec_le (suc x.0) y.0)
      (λ less. absurd (one_way a b of_a of_b t x.0 y.0 lt x.1 y.1 less (λ s st sl. agree a b of_a of_b m s (omega arith) sl)))
      (λ ge. absurd (one_way b a of_b of_a t y.0 x.0 lt y.1 x.1 (let z = lt_of_not-le ge in omega arith)
      (λ s st sl. sym (agree a b of_a of_b m s (omega arith) sl)))))

-- the law: no other list numbers the same classes
pub classes_are_unique : ClassesAreUnique
classes_are_unique users a b of_a of_b =
    ext_get_or (pos 0) a b (of_a.as_many ∙ sym of_b.as_many)
    (λ t lt. let e = of_a.as_many in agree users a b of_a of_b (suc t) t (omega arith) (omega (arith, e, lt)))
