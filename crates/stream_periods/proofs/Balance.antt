-- Two branches keep step exactly where their rates balance.
use Rattle.std.proofs.Common.{◌≡◌, ℕ, ◌*◌, ◌/◌, ◌<◌, max, Bool, true, false, nat_eq, Ok, Err, refl, sym, ap, ◌∙◌, arith, ⊎_elim, mul-lt-mul_of_pos_right}
use Rattle.std.specs.Prelude.{if◌then◌else◌}
use Rattle.std.proofs.lemmas.Bool.{eqb-true, cases_order}
use Rattle.river_base.proofs.PlaceLemmas.{if_eq}
use Rattle.stream_periods.specs.Laws.{BesideIsBalance}
use Rattle.stream_periods.specs.Periods.{Period, Unbalanced, beside, common}
use Rattle.stream_periods.proofs.Numbers.{parted, positive_common}

cancelled : (a b g : ℕ) → 0 < g → a * g ≡ b * g → a ≡ b
cancelled a b g lt e = ⊎_elim
    (λ same. same)
    (λ other. absurd (⊎_elim
    (λ less. let m = mul-lt-mul_of_pos_right less lt in omega (arith, m, e))
    (λ more. let m = mul-lt-mul_of_pos_right more lt in omega (arith, m, e))
    other))
    (cases_order a b)

module _ (p q : Period) (some : 0 < p.takes) (one : 0 < q.takes) where
  g : ℕ
  g = common p.takes q.takes

  m : ℕ
  m = q.takes / g

  n : ℕ
  n = p.takes / g

  turned_m : p.gives * q.takes ≡ m * p.gives * g
  unfolding m g
  turned_m =
      let parts = parted p.takes q.takes in
      ap (λ t. p.gives * t) (sym parts.second) ∙ (let e : p.gives * (m * g) ≡ m * p.gives * g = omega arith in e)

  turned_n : q.gives * p.takes ≡ n * q.gives * g
  unfolding n g
  turned_n =
      let parts = parted p.takes q.takes in
      ap (λ t. q.gives * t) (sym parts.first) ∙ (let e : q.gives * (n * g) ≡ n * q.gives * g = omega arith in e)

  g_some : 0 < g
  unfolding g n
  g_some = let parts = parted p.takes q.takes in positive_common n g p.takes parts.first some

  forth : (r : Period) → beside p q ≡ Ok r → p.gives * q.takes ≡ q.gives * p.takes
  unfolding m n g
  forth r h = go (nat_eq (m * p.gives) (n * q.gives)) refl h
    where
      go : (b : Bool) → nat_eq (m * p.gives) (n * q.gives) ≡ b
          → (if b then Ok (record { takes = m * p.takes; gives = m * p.gives; reach = max p.reach q.reach }) else Err Unbalanced) ≡ Ok r
          → p.gives * q.takes ≡ q.gives * p.takes
      go false e f = absurd (cc f)
      go true e f = turned_m ∙ ap (λ t. t * g) (eqb-true (m * p.gives) (n * q.gives) e) ∙ sym turned_n

  back : p.gives * q.takes ≡ q.gives * p.takes → (r : Period) × (beside p q ≡ Ok r)
  unfolding m n g
  back e = (
    record { takes = m * p.takes; gives = m * p.gives; reach = max p.reach q.reach },
    if_eq (m * p.gives) (n * q.gives) _ _ (cancelled (m * p.gives) (n * q.gives) g g_some (sym turned_m ∙ e ∙ turned_n)),
  )

-- both ways
pub beside_is_balance : BesideIsBalance
beside_is_balance p q some one = ((λ h. forth p q some one h.0 h.1), back p q some one)
