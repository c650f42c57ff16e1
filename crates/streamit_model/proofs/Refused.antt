-- A program is refused with the first fault of its places, and accepted where none has one.
use Rattle.std.proofs.Common.{◌≡◌, ℕ, suc, ℤ, ◌+◌, ◌⊎◌, inl, inr, List, [], ◌∷◌, ◌++◌, length, map, Result, Ok, Err, refl, sym, ap, ◌∙◌, subst, arith, ⊎_elim}
use Rattle.std.proofs.Common.{nat_le, Bool, true, false}
use Rattle.std.specs.List.{AllByRecursion}
use Rattle.std.proofs.lemmas.Bool.{cases_lt, leb-true, leb-false}
use Rattle.streamit_model.specs.Unrolled.{Stream}
use Rattle.streamit_model.specs.Plan.{ops_in}
use Rattle.streamit_model.specs.Elaborate.{demand}
use Rattle.streamit_model.specs.declared.fault.Fault.{Fault}
use Rattle.streamit_model.specs.declared.fault.Fault.TheVariants.{UnknownName, NameTwice, Rates, PeekRange, NotConstant, BranchRates, Limit, Weights}
use Rattle.streamit_text.specs.Program.{UnitForm, Program}
use Rattle.streamit_model.specs.Judged.{Streamed, on_fine, in_unit, unit_of, all_streams, few_operators, judged}
use Rattle.streamit_model.specs.declared.fault.Refusal.{Refusal}
use Rattle.streamit_model.specs.Words.{Peeks}
use Rattle.streamit_model.specs.Places.{Spot, Reads, Rated, Counts, Finishes, Place, place_of_spot, places_behind, places_of, unit_spots, last_operators}
use Rattle.streamit_model.specs.Faults.{AreRatesApart, IsOutside, HasFault, rank, IsFirstFault, IsFaultless, RefusalsAre, AcceptedAre}
use Rattle.streamit_model.proofs.Meeting.{AllFree, FirstIn, Meets, free, first_limit}
use Rattle.streamit_model.proofs.UnitMet.{LastIs, KnowsAbove, one_more, IsBodyAs, unit_met}

-- ONE FAULT IS THE FIRST

same_rates : (d c d' c' : ℕ) (s : Spot) → AreRatesApart d c s → AreRatesApart d' c' s → Rates d c ≡ Rates d' c'
same_rates d c d' c' (Rated least push pop peek) h g = ap (λ x. Rates x c) (h.1 ∙ sym g.1) ∙ ap (Rates d') (h.2 ∙ sym g.2)
same_rates d c d' c' (Counts x y) h g = ap (λ x. Rates x c) (h.1 ∙ sym g.1) ∙ ap (Rates d') (h.2 ∙ sym g.2)
same_rates d c d' c' s h g = absurd h

same_peeks : (i : ℤ) (e : ℕ) (i' : ℤ) (e' : ℕ) (s : Spot) → IsOutside i e s → IsOutside i' e' s → PeekRange i e ≡ PeekRange i' e'
same_peeks i e i' e' (Reads peek before (Peeks j)) h g = ap (λ x. PeekRange x e) (h.1 ∙ sym g.1) ∙ ap (PeekRange i') (h.2 ∙ sym g.2)
same_peeks i e i' e' s h g = absurd h

same_rank : (above : List UnitForm) (s : Spot) (f g : Fault) → rank f ≡ rank g → HasFault above s f → HasFault above s g → f ≡ g
same_rank above s UnknownName UnknownName r h g = refl
same_rank above s UnknownName NameTwice r h g = absurd (omega (arith, r))
same_rank above s UnknownName (Rates d' c') r h g = absurd (omega (arith, r))
same_rank above s UnknownName (PeekRange i' e') r h g = absurd (omega (arith, r))
same_rank above s UnknownName NotConstant r h g = absurd (omega (arith, r))
same_rank above s UnknownName BranchRates r h g = absurd (omega (arith, r))
same_rank above s UnknownName Limit r h g = absurd (omega (arith, r))
same_rank above s UnknownName Weights r h g = absurd (omega (arith, r))
same_rank above s NameTwice UnknownName r h g = absurd (omega (arith, r))
same_rank above s NameTwice NameTwice r h g = refl
same_rank above s NameTwice (Rates d' c') r h g = absurd (omega (arith, r))
same_rank above s NameTwice (PeekRange i' e') r h g = absurd (omega (arith, r))
same_rank above s NameTwice NotConstant r h g = absurd (omega (arith, r))
same_rank above s NameTwice BranchRates r h g = absurd (omega (arith, r))
same_rank above s NameTwice Limit r h g = absurd (omega (arith, r))
same_rank above s NameTwice Weights r h g = absurd (omega (arith, r))
same_rank above s (Rates d c) UnknownName r h g = absurd (omega (arith, r))
same_rank above s (Rates d c) NameTwice r h g = absurd (omega (arith, r))
same_rank above s (Rates d c) (Rates d' c') r h g = same_rates d c d' c' s h g
same_rank above s (Rates d c) (PeekRange i' e') r h g = absurd (omega (arith, r))
same_rank above s (Rates d c) NotConstant r h g = absurd (omega (arith, r))
same_rank above s (Rates d c) BranchRates r h g = absurd (omega (arith, r))
same_rank above s (Rates d c) Limit r h g = absurd (omega (arith, r))
same_rank above s (Rates d c) Weights r h g = absurd (omega (arith, r))
same_rank above s (PeekRange i e) UnknownName r h g = absurd (omega (arith, r))
same_rank above s (PeekRange i e) NameTwice r h g = absurd (omega (arith, r))
same_rank above s (PeekRange i e) (Rates d' c') r h g = absurd (omega (arith, r))
same_rank above s (PeekRange i e) (PeekRange i' e') r h g = same_peeks i e i' e' s h g
same_rank above s (PeekRange i e) NotConstant r h g = absurd (omega (arith, r))
same_rank above s (PeekRange i e) BranchRates r h g = absurd (omega (arith, r))
same_rank above s (PeekRange i e) Limit r h g = absurd (omega (arith, r))
same_rank above s (PeekRange i e) Weights r h g = absurd (omega (arith, r))
same_rank above s NotConstant UnknownName r h g = absurd (omega (arith, r))
same_rank above s NotConstant NameTwice r h g = absurd (omega (arith, r))
same_rank above s NotConstant (Rates d' c') r h g = absurd (omega (arith, r))
same_rank above s NotConstant (PeekRange i' e') r h g = absurd (omega (arith, r))
same_rank above s NotConstant NotConstant r h g = refl
same_rank above s NotConstant BranchRates r h g = absurd (omega (arith, r))
same_rank above s NotConstant Limit r h g = absurd (omega (arith, r))
same_rank above s NotConstant Weights r h g = absurd (omega (arith, r))
same_rank above s BranchRates UnknownName r h g = absurd (omega (arith, r))
same_rank above s BranchRates NameTwice r h g = absurd (omega (arith, r))
same_rank above s BranchRates (Rates d' c') r h g = absurd (omega (arith, r))
same_rank above s BranchRates (PeekRange i' e') r h g = absurd (omega (arith, r))
same_rank above s BranchRates NotConstant r h g = absurd (omega (arith, r))
same_rank above s BranchRates BranchRates r h g = refl
same_rank above s BranchRates Limit r h g = absurd (omega (arith, r))
same_rank above s BranchRates Weights r h g = absurd (omega (arith, r))
same_rank above s Limit UnknownName r h g = absurd (omega (arith, r))
same_rank above s Limit NameTwice r h g = absurd (omega (arith, r))
same_rank above s Limit (Rates d' c') r h g = absurd (omega (arith, r))
same_rank above s Limit (PeekRange i' e') r h g = absurd (omega (arith, r))
same_rank above s Limit NotConstant r h g = absurd (omega (arith, r))
same_rank above s Limit BranchRates r h g = absurd (omega (arith, r))
same_rank above s Limit Limit r h g = refl
same_rank above s Limit Weights r h g = absurd (omega (arith, r))
same_rank above s Weights UnknownName r h g = absurd (omega (arith, r))
same_rank above s Weights NameTwice r h g = absurd (omega (arith, r))
same_rank above s Weights (Rates d' c') r h g = absurd (omega (arith, r))
same_rank above s Weights (PeekRange i' e') r h g = absurd (omega (arith, r))
same_rank above s Weights NotConstant r h g = absurd (omega (arith, r))
same_rank above s Weights BranchRates r h g = absurd (omega (arith, r))
same_rank above s Weights Limit r h g = absurd (omega (arith, r))
same_rank above s Weights Weights r h g = refl

same_fault : (above : List UnitForm) (s : Spot) (f g : Fault) → IsFirstFault above s f → IsFirstFault above s g → f ≡ g
same_fault above s f g h k = ⊎_elim
    (λ lt. absurd (k.first f lt h.has))
    (λ le. ⊎_elim
    (λ lt. absurd (h.first g lt k.has))
    (λ le'. same_rank above s f g (omega (arith, le, le')) h.has k.has)
    (cases_lt (rank g) (rank f)))
    (cases_lt (rank f) (rank g))

-- PLACES

abbrev FirstPlace : List Place → Refusal → Type 0
FirstPlace [] r = ⊥
FirstPlace (p ∷ ps) r = (IsFirstFault p.above p.spot r.fault × (r.unit ≡ p.unit)) ⊎ (IsFaultless p × FirstPlace ps r)

abbrev Told : {A : Type 0} → List Place → Result A Refusal → Type 0
Told ps (Ok x) = AllByRecursion IsFaultless ps
Told ps (Err r) = FirstPlace ps r

right_join : (ps qs : List Place) → AllByRecursion IsFaultless ps → AllByRecursion IsFaultless qs → AllByRecursion IsFaultless (ps ++ qs)
right_join [] qs a b = b
right_join (p ∷ ps) qs a b = (a.0, right_join ps qs a.1 b)

first_front : (ps qs : List Place) (r : Refusal) → FirstPlace ps r → FirstPlace (ps ++ qs) r
first_front [] qs r h = absurd h
first_front (p ∷ ps) qs r (inl h) = inl h
first_front (p ∷ ps) qs r (inr h) = inr (h.0, first_front ps qs r h.1)

first_back : (ps qs : List Place) (r : Refusal) → AllByRecursion IsFaultless ps → FirstPlace qs r → FirstPlace (ps ++ qs) r
first_back [] qs r a h = h
first_back (p ∷ ps) qs r a h = inr (a.0, first_back ps qs r a.1 h)

behind : {A : Type 0} (ps qs : List Place) (r : Result A Refusal) → AllByRecursion IsFaultless ps → Told qs r → Told (ps ++ qs) r
behind ps qs (Ok x) a h = right_join ps qs a h
behind ps qs (Err r) a h = first_back ps qs r a h

right_map : (k : ℕ) (above : List UnitForm) (ss : List Spot) → AllFree above ss → AllByRecursion IsFaultless (map (place_of_spot k above) ss)
right_map k above [] h = tt
right_map k above (s ∷ ss) h = (h.0, right_map k above ss h.1)

first_map : (k : ℕ) (above : List UnitForm) (ss : List Spot) (f : Fault) → FirstIn above ss f
    → FirstPlace (map (place_of_spot k above) ss) (record { unit = k; fault = f })
first_map k above [] f h = absurd h
first_map k above (s ∷ ss) f (inl h) = inl (h, refl)
first_map k above (s ∷ ss) f (inr h) = inr (h.0, first_map k above ss f h.1)

abbrev fine : {A : Type 0} → A → Result A Refusal
fine x = Ok x

-- THE PROGRAM

-- the end of the program
abbrev ends : ℕ → Streamed → Result Streamed Refusal
ends n known = in_unit n (few_operators known) (λ u. Ok known)

finishes : (k n : ℕ) (above : List UnitForm) (known : Streamed) → n ≡ k → LastIs known (last_operators above)
    → Told (place_of_spot k above Finishes ∷ []) (ends n known)
finishes k n above [] same h =
    (free above Finishes (λ h. h) (λ h. h) (λ d c h. h) (λ i r h. h) (λ h. h) (λ h. h) (λ x. omega (arith, h, x)) (λ h. h), tt)
finishes k n above (e ∷ known) same h = by_test (nat_le (ops_in e.1) 256)
    (λ t. let le = leb-true (ops_in e.1) 256 t in
    (free above Finishes (λ h. h) (λ h. h) (λ d c h. h) (λ i r h. h) (λ h. h) (λ h. h) (λ x. omega (arith, h, le, x)) (λ h. h), tt))
    (λ f. let lt = leb-false (ops_in e.1) 256 f in
    inl (first_limit above Finishes (omega (arith, h, lt)) (λ h. h) (λ h. h) (λ h. h) (λ h. h) (λ i r h. h), same))
  where
    by_test : (b : Bool) → (b ≡ true → AllByRecursion IsFaultless (place_of_spot k above Finishes ∷ []))
        → (b ≡ false → FirstPlace (place_of_spot k above Finishes ∷ []) (record { unit = n; fault = Limit }))
        → Told (place_of_spot k above Finishes ∷ []) (in_unit n (demand b Limit) (λ u. fine (e ∷ known)))
    by_test true good bad = good refl
    by_test false good bad = bad refl

unit_told : (k n : ℕ) (above : List UnitForm) (known : Streamed) (u : UnitForm) (us : Program) (r : Result Stream Fault)
    → Meets above (unit_spots u) r (IsBodyAs above u.body)
    → ((s : Stream) → IsBodyAs above u.body s
    → Told (places_behind (suc k) (u ∷ above) us) (on_fine (all_streams (suc (suc k)) ((u.name, s) ∷ known) us) (ends n)))
    → Told (map (place_of_spot (suc k) above) (unit_spots u) ++ places_behind (suc k) (u ∷ above) us)
    (on_fine (in_unit (suc k) r (λ s. all_streams (suc (suc k)) ((u.name, s) ∷ known) us)) (ends n))
unit_told k n above known u us (Ok s) m go =
    behind (map (place_of_spot (suc k) above) (unit_spots u)) (places_behind (suc k) (u ∷ above) us)
    (on_fine (all_streams (suc (suc k)) ((u.name, s) ∷ known) us) (ends n))
    (right_map (suc k) above (unit_spots u) m.0) (go s m.1)
unit_told k n above known u us (Err f) m go =
    first_front (map (place_of_spot (suc k) above) (unit_spots u)) (places_behind (suc k) (u ∷ above) us) (record { unit = suc k; fault = f })
    (first_map (suc k) above (unit_spots u) f m)

units_told : (us : Program) (k n : ℕ) (above : List UnitForm) (known : Streamed) → KnowsAbove above known → n ≡ k + length us
    → Told (places_behind k above us) (on_fine (all_streams (suc k) known us) (ends n))
units_told [] k n above known h same = finishes k n above known (omega (arith, same)) h.last
units_told (u ∷ us) k n above known h same =
    unit_told k n above known u us (unit_of known u) (unit_met above known h u)
    (λ s b. units_told us (suc k) n (u ∷ above) ((u.name, s) ∷ known) (one_more above known u s h b.0 b.1) (omega (arith, same)))

judged_told : (p : Program) → Told (places_of p) (judged p)
judged_told p = units_told p 0 (length p) [] [] (record { each = λ n. refl; last = refl }) (omega arith)

-- THE LAWS

first_right : (ps : List Place) (r : Refusal) → FirstPlace ps r → AllByRecursion IsFaultless ps → ⊥
first_right [] r h a = h
first_right (p ∷ ps) r (inl h) a = a.0 r.fault h.0.has
first_right (p ∷ ps) r (inr h) a = first_right ps r h.1 a.1

same_first : (ps : List Place) (q r : Refusal) → FirstPlace ps q → FirstPlace ps r → q ≡ r
same_first [] q r h g = absurd h
same_first (p ∷ ps) q r (inl h) (inl g) =
    ap (λ x. record { unit = x; fault = q.fault }) (h.1 ∙ sym g.1) ∙ ap (λ x. record { unit = r.unit; fault = x })
    (same_fault p.above p.spot q.fault r.fault h.0 g.0)
same_first (p ∷ ps) q r (inl h) (inr g) = absurd (g.0 q.fault h.0.has)
same_first (p ∷ ps) q r (inr h) (inl g) = absurd (h.0 r.fault g.0.has)
same_first (p ∷ ps) q r (inr h) (inr g) = same_first ps q r h.1 g.1

record Parted (ps : List Place) (r : Refusal) : Type 0 where
  before : List Place
  at : Place
  rest : List Place
  parts : ps ≡ before ++ at ∷ rest
  right : AllByRecursion IsFaultless before
  faulty : IsFirstFault at.above at.spot r.fault
  there : r.unit ≡ at.unit

parted : (ps : List Place) (r : Refusal) → FirstPlace ps r → Parted ps r
parted [] r h = absurd h
parted (p ∷ ps) r (inl h) = record { before = []; at = p; rest = ps; parts = refl; right = tt; faulty = h.0; there = h.1 }
parted (p ∷ ps) r (inr h) =
    let q = parted ps r h.1 in
    record { before = p ∷ q.before; at = q.at; rest = q.rest; parts = ap (λ l. p ∷ l) q.parts; right = (h.0, q.right); faulty = q.faulty; there = q.there }

refused_as : (ps : List Place) (x : Result Streamed Refusal) (r : Refusal) → Told ps x → FirstPlace ps r → x ≡ Err r
refused_as ps (Ok known) r h g = absurd (first_right ps r g h)
refused_as ps (Err q) r h g = ap Err (same_first ps q r h g)

accepted_as : (ps : List Place) (x : Result Streamed Refusal) → Told ps x → AllByRecursion IsFaultless ps → (known : Streamed) × (x ≡ Ok known)
accepted_as ps (Ok known) h a = (known, refl)
accepted_as ps (Err q) h a = absurd (first_right ps q h a)

-- the law: a program is refused exactly with its first fault
pub refusals_are : RefusalsAre
refusals_are p unit f =
    let r : Refusal = record { unit = unit; fault = f } in (
      (λ h.
          let q = parted (places_of p) r (subst (Told (places_of p)) h (judged_told p)) in
          record { before = q.before; place = q.at; behind = q.rest; parts = q.parts; right = q.right; faulty = q.faulty; there = q.there }),
      (λ h. refused_as (places_of p) (judged p) r (judged_told p) (subst (λ ps. FirstPlace ps r) (sym h.parts)
          (first_back h.before (h.place ∷ h.behind) r h.right (inl (h.faulty, h.there))))),
    )

-- the law: it is accepted exactly where no place has one
pub accepted_are : AcceptedAre
accepted_are p = (
  (λ h. subst (Told (places_of p)) h.1 (judged_told p)),
  (λ a. accepted_as (places_of p) (judged p) (judged_told p) a),
)
