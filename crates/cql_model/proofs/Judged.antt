-- A program is refused exactly for its first fault.
use Rattle.std.proofs.Common.{◌≡◌, ℕ, zero, suc, ◌+◌, ◌<◌, ◌≤◌, Bool, true, false, Option, Some, None, List, [], ◌∷◌, ◌++◌, length}
use Rattle.std.proofs.Common.{refl, sym, ap, ◌∙◌, subst, arith}
use Rattle.std.proofs.Common.{◌⊎◌, inl, inr, ⊎_elim}
use Rattle.std.specs.Prelude.{flat_map, if◌then◌else◌}
use Rattle.std.specs.List.{AllByRecursion}
use Rattle.std.proofs.lemmas.Bool.{cases_lt}
use Rattle.std.proofs.lemmas.List.{length_push}
use Rattle.river_plan.proofs.NameLemmas.{true_false}
use Rattle.cql_model.specs.declared.fault.Fault.{Fault}
use Rattle.cql_model.specs.declared.fault.Fault.TheVariants.{UnknownStream, UnknownField, AmbiguousField, NameTwice, Limit}
use Rattle.cql_model.specs.declared.fault.Refusal.{Refusal}
use Rattle.cql_model.specs.Judged.{query_fault, stream_fault, in_unit, first_fault, then_refusal, refusal_of}
use Rattle.cql_model.specs.Places.{known_by, Spot, spots, Place, unit_places, program_places}
use Rattle.cql_model.specs.Plannable.{exceeds, KeepsLimits}
use Rattle.cql_model.specs.Program.{registered}
use Rattle.cql_text.specs.Tree.{Register, AQuery, UnitForm, Program}
use Rattle.cql_model.specs.Faults.{rank, IsFirstFault, IsFaultless, IsFaultOf, IsRefused, RefusalsAre, AcceptedAre, AcceptedPlannable}
use Rattle.cql_model.specs.Scopes.{Named}
use Rattle.cql_model.specs.Plan.{query_named, plan_of}
use Rattle.cql_model.proofs.Earlier.{behind, behind-none, behind-nil, behind-cons}
use Rattle.cql_model.proofs.Faultless.{faultless_plannable}
use Rattle.cql_model.proofs.First.{first_of, Finds, finds_both, finds_none, none_finds, finds_some, some_finds, finds_same, named_as, finds_map}
use Rattle.cql_model.proofs.OnlyLimits.{within_where, where_within}
use Rattle.cql_model.proofs.SpotFaults.{Silent, Says, Found}
use Rattle.cql_model.proofs.UnitFaults.{query, stream, known-more, registered-more, registered-same}

-- PLACES

-- this is told of a program for the place
pub record Tells (place : Place) (r : Refusal) : Type 0 where
  pub faulty : IsFirstFault place r.fault
  pub unit : r.unit ≡ length place.before + 1

abbrev Judged : List Place → Option Refusal → Type 0
Judged = Finds IsFaultless Tells

abbrev at_unit : Program → Fault → Refusal
at_unit before f = record { unit = length before + 1; fault = f }

unit_found : (before : Program) (u : UnitForm) (o : Option Fault) → Found before (spots u) o → Judged (unit_places (before, u)) (named_as (at_unit before) o)
unit_found before u o f =
    finds_map (Silent before) (Says before) IsFaultless Tells (λ (spot : Spot). record { before = before; unit = u; spot = spot }) (at_unit before)
    (λ s h. h) (λ s g h. record { faulty = record { has = h.0; first = h.1 }; unit = refl }) (spots u) o f

unit_then : (n : ℕ) (o : Option Fault) (rest : Option Refusal) → first_of (named_as (λ (f : Fault). record { unit = n; fault = f }) o) rest ≡ in_unit n o rest
unit_then n None rest = refl
unit_then n (Some f) rest = refl

-- one unit, and those behind it
one_unit : (before : Program) (u : UnitForm) (ps : Program) (o : Option Fault) (rest : Option Refusal) → Found before (spots u) o
    → Judged (flat_map unit_places (behind (before ++ u ∷ []) ps)) rest
    → Judged (flat_map unit_places (behind before (u ∷ ps))) (in_unit (length before + 1) o rest)
one_unit before u ps o rest f g =
    subst (λ (l : List (Program × UnitForm)). Judged (flat_map unit_places l) (in_unit (length before + 1) o rest)) (sym (behind-cons before u ps))
    (subst (Judged (unit_places (before, u) ++ flat_map unit_places (behind (before ++ u ∷ []) ps))) (unit_then (length before + 1) o rest)
    (finds_both IsFaultless Tells (unit_places (before, u)) (flat_map unit_places (behind (before ++ u ∷ []) ps)) (named_as (at_unit before) o) rest
    (unit_found before u o f) g))

-- the same is known, as many streams are registered, and the unit has the same number
same_state : {ks ls : List Named} {m n i j : ℕ} → ks ≡ ls → m ≡ n → i ≡ j → (ps : Program) → first_fault ks m (i + 1) ps ≡ first_fault ls n (j + 1) ps
same_state a b c ps = λ k. first_fault (a k) (b k) (c k + 1) ps

units : (before ps : Program)
    → Judged (flat_map unit_places (behind before ps)) (first_fault (known_by before) (length (registered before)) (length before + 1) ps)
units before [] = subst (λ (l : List (Program × UnitForm)). Judged (flat_map unit_places l) None) (sym (behind-nil before)) refl
units before (Register name fields ∷ ps) =
    let u = Register name fields in
    let more = before ++ u ∷ [] in
    one_unit before u ps (stream_fault (known_by before) (length (registered before)) name fields) _ (stream before name fields)
    (subst (Judged (flat_map unit_places (behind more ps)))
    (same_state (known-more before u) (registered-more before name fields) (length_push before u) ps) (units more ps))
units before (AQuery q ∷ ps) =
    let u = AQuery q in
    let more = before ++ u ∷ [] in
    one_unit before u ps (query_fault (known_by before) q) _ (query before q)
    (subst (Judged (flat_map unit_places (behind more ps)))
    (same_state (known-more before u) (registered-same before q) (length_push before u) ps) (units more ps))

-- the first fault of a program
judged : (p : Program) → Judged (program_places p) (first_fault [] 0 1 p)
judged p = subst (λ (l : List (Program × UnitForm)). Judged (flat_map unit_places l) (first_fault [] 0 1 p)) (behind-none p) (units [] p)

-- ONE FAULT

-- the fault of a rank
fault_at : ℕ → Fault
fault_at zero = UnknownStream
fault_at (suc zero) = UnknownField
fault_at (suc (suc zero)) = AmbiguousField
fault_at (suc (suc (suc zero))) = NameTwice
fault_at (suc (suc (suc (suc n)))) = Limit

ranked : (f : Fault) → fault_at (rank f) ≡ f
unfolding fault_at
ranked UnknownStream = refl
ranked UnknownField = refl
ranked AmbiguousField = refl
ranked NameTwice = refl
ranked Limit = refl

below_or_same : (m n : ℕ) → n ≤ m → (n < m) ⊎ (m ≡ n)
below_or_same m n le = ⊎_elim (λ lt. inl lt) (λ ge. inr (omega (arith, le, ge))) (cases_lt n m)

one_fault : (place : Place) (f g : Fault) → IsFirstFault place f → IsFirstFault place g → f ≡ g
one_fault place f g a b = by (rank f) (rank g) refl refl where
  by : (m n : ℕ) → rank f ≡ m → rank g ≡ n → f ≡ g
  by m n e h = ⊎_elim (λ lt. absurd (b.first f (omega (arith, lt, e, h)) a.has))
      (λ le. ⊎_elim (λ lt. absurd (a.first g (omega (arith, lt, e, h)) b.has))
      (λ same. sym (ranked f) ∙ ap fault_at (e ∙ same ∙ sym h) ∙ ranked g) (below_or_same m n le))
      (cases_lt m n)

one_refusal : (place : Place) (r s : Refusal) → Tells place r → Tells place s → r ≡ s
one_refusal place r s a b =
    let f = one_fault place r.fault s.fault a.faulty b.faulty in
    let u : r.unit ≡ s.unit = a.unit ∙ sym b.unit in
    λ i. record { unit = u i; fault = f i }

silent_tells : (place : Place) (r : Refusal) → IsFaultless place → Tells place r → ⊥
silent_tells place r s t = s r.fault t.faulty.has

-- THE LAWS

last_limit : Program → Refusal
last_limit p = record { unit = length p; fault = Limit }

or_limit : Bool → Program → Option Refusal
or_limit b p = if b then Some (last_limit p) else None

first_is : (p : Program) (r : Refusal) → first_fault [] 0 1 p ≡ Some r → IsFaultOf p r
first_is p r e =
    let s = finds_some IsFaultless Tells (program_places p) r (subst (Judged (program_places p)) e (judged p)) in
    record { before = s.before; place = s.element; behind = s.behind; places = s.parts; faultless = s.silent; faulty = s.says.faulty; unit = s.says.unit }

is_first : (p : Program) (r : Refusal) → IsFaultOf p r → first_fault [] 0 1 p ≡ Some r
is_first p r h =
    finds_same IsFaultless Tells silent_tells one_refusal (program_places p) (first_fault [] 0 1 p) (Some r) (judged p)
    (subst (λ l. Judged l (Some r)) (sym h.places)
    (some_finds IsFaultless Tells h.before h.place h.behind r h.faultless (record { faulty = h.faulty; unit = h.unit })))

none_faulty : (p : Program) → first_fault [] 0 1 p ≡ None → AllByRecursion IsFaultless (program_places p)
none_faulty p e = finds_none IsFaultless Tells (program_places p) (subst (Judged (program_places p)) e (judged p))

faulty_none : (p : Program) → AllByRecursion IsFaultless (program_places p) → first_fault [] 0 1 p ≡ None
faulty_none p a =
    finds_same IsFaultless Tells silent_tells one_refusal (program_places p) (first_fault [] 0 1 p) None (judged p)
    (none_finds IsFaultless Tells (program_places p) a)

-- whether it exceeds a limit
over : (p : Program) (b : Bool) → exceeds (plan_of p) ≡ b → (r : Refusal) → or_limit b p ≡ Some r → (KeepsLimits (plan_of p) → ⊥) × (r ≡ last_limit p)
unfolding or_limit
over p true e r h = ((λ k. true_false (sym e ∙ where_within (plan_of p) k)), some_same r h) where
  some_same : (r : Refusal) → Some (last_limit p) ≡ Some r → r ≡ last_limit p
  some_same r g = cc
over p false e r h = absurd (cc h)

within : (p : Program) (b : Bool) → exceeds (plan_of p) ≡ b → or_limit b p ≡ None → KeepsLimits (plan_of p)
unfolding or_limit
within p true e h = absurd (cc h)
within p false e h = within_where (plan_of p) e

told : (p : Program) (o : Option Refusal) (b : Bool) → first_fault [] 0 1 p ≡ o → exceeds (plan_of p) ≡ b → (r : Refusal)
    → then_refusal o (or_limit b p) ≡ Some r → IsRefused p r
unfolding last_limit
told p None b e x r h =
    let t = over p b x r h in
    inr (record { faultless = none_faulty p e; exceeds = t.0; fault = ap (λ (q : Refusal). q.fault) t.1; unit = ap (λ (q : Refusal). q.unit) t.1 })
told p (Some s) b e x r h = inl (first_is p r (e ∙ h))

refusal-is : (p : Program) → refusal_of p ≡ then_refusal (first_fault [] 0 1 p) (or_limit (exceeds (plan_of p)) p)
unfolding or_limit last_limit
refusal-is p = refl

limit_told : (p : Program) (b : Bool) → exceeds (plan_of p) ≡ b → (KeepsLimits (plan_of p) → ⊥) → (r : Refusal) → r.fault ≡ Limit → r.unit ≡ length p
    → or_limit b p ≡ Some r
unfolding or_limit last_limit
limit_told p true e n r f u = λ i. Some (record { unit = sym u i; fault = sym f i })
limit_told p false e n r f u = absurd (n (within_where (plan_of p) e))

-- the law: a program is refused exactly for its first fault
pub refusals_are : RefusalsAre
refusals_are p r = (
  (λ h. told p (first_fault [] 0 1 p) (exceeds (plan_of p)) refl refl r (sym (refusal-is p) ∙ h)),
  ⊎_elim (λ h. refusal-is p ∙ ap (λ o. then_refusal o (or_limit (exceeds (plan_of p)) p)) (is_first p r h))
      (λ h. refusal-is p ∙ ap (λ o. then_refusal o (or_limit (exceeds (plan_of p)) p)) (faulty_none p h.faultless)
      ∙ limit_told p (exceeds (plan_of p)) refl h.exceeds r h.fault h.unit),
)

both_none : (a b : Option Refusal) → then_refusal a b ≡ None → (a ≡ None) × (b ≡ None)
both_none None b h = (refl, h)
both_none (Some r) b h = absurd (cc h)

none_over : (p : Program) (b : Bool) → exceeds (plan_of p) ≡ b → b ≡ false → or_limit b p ≡ None
unfolding or_limit
none_over p true e h = absurd (cc h)
none_over p false e h = refl

-- the law: and not refused exactly where it is accepted
pub accepted_are : AcceptedAre
accepted_are p = (
  (λ h. let b = both_none (first_fault [] 0 1 p) (or_limit (exceeds (plan_of p)) p) (sym (refusal-is p) ∙ h) in
      record { faultless = none_faulty p b.0; within = within p (exceeds (plan_of p)) refl b.1 }),
  λ h. refusal-is p ∙ ap (λ o. then_refusal o (or_limit (exceeds (plan_of p)) p)) (faulty_none p h.faultless)
      ∙ none_over p (exceeds (plan_of p)) refl (where_within (plan_of p) h.within),
)

-- the law: of an accepted program a plan can be made
pub accepted_plannable : AcceptedPlannable
accepted_plannable p s a = faultless_plannable p s (faulty_none p a.faultless)

-- THE UNIT OF A REFUSAL

in_unit_low : (unit n : ℕ) (o : Option Fault) (rest : Option Refusal) (r : Refusal) → in_unit unit o rest ≡ Some r → (rest ≡ Some r → r.unit < unit + 1 + n)
    → r.unit < unit + suc n
in_unit_low unit n None rest r e low = let m = low e in omega (arith, m)
in_unit_low unit n (Some f) rest r e low = let s : unit ≡ r.unit = here e in omega (arith, s) where
  here : (Some (record { unit = unit; fault = f })) ≡ Some r → unit ≡ r.unit
  here g = ap (λ o. unit_or unit o) g where
    unit_or : ℕ → Option Refusal → ℕ
    unit_or n None = n
    unit_or n (Some s) = s.unit

first_low : (ks : List Named) (many unit : ℕ) (ps : Program) (r : Refusal) → first_fault ks many unit ps ≡ Some r → r.unit < unit + length ps
first_low ks many unit [] r e = absurd (cc e)
first_low ks many unit (Register name fields ∷ ps) r e =
    in_unit_low unit (length ps) (stream_fault ks many name fields) _ r e (first_low (record { name = name; fields = fields } ∷ ks) (many + 1) (unit + 1) ps r)
first_low ks many unit (AQuery q ∷ ps) r e = in_unit_low unit (length ps) (query_fault ks q) _ r e (first_low (query_named ks q ∷ ks) many (unit + 1) ps r)

-- it is a unit of the program
pub unit_low : (p : Program) (r : Refusal) → refusal_of p ≡ Some r → r.unit ≤ length p
unit_low p r e = ⊎_elim
    (λ h. let m = first_low [] 0 1 p r (is_first p r h) in omega (arith, m))
    (λ h. let u = h.unit in omega (arith, u))
    ((refusals_are p r).0 e)
