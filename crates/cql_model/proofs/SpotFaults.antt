-- The faults of what is read in a unit, against the tests that look for them.
use Rattle.std.proofs.Common.{◌≡◌, ℕ, zero, suc, ◌+◌, ◌<◌, Bool, true, false, Option, List, [], ◌∷◌}
use Rattle.std.proofs.Common.{refl, sym, arith, inl, inr, ⊎_elim}
use Rattle.std.specs.Prelude.{◌⊎◌, nat_lt, nat_eq, ◌||◌}
use Rattle.std.proofs.lemmas.Bool.{ltb-true, ltb-false, or_parts}
use Rattle.cql_text.specs.Tree.{Window, Now, Range, Unbounded, Latest}
use Rattle.river_plan.specs.Forms.{Name}
use Rattle.river_plan.specs.Names.{count}
use Rattle.cql_model.specs.declared.fault.Fault.{Fault}
use Rattle.cql_model.specs.declared.fault.Fault.TheVariants.{UnknownStream, UnknownField, AmbiguousField, NameTwice, Limit}
use Rattle.cql_model.specs.Judged.{then_fault, fault_if, field_fault, is_rows_fault}
use Rattle.cql_model.specs.Places.{known_by, Mention, Spot, QueryName, ItemStream}
use Rattle.cql_model.specs.Places.{FieldUse}
use Rattle.cql_text.specs.Tree.{Source, Program}
use Rattle.cql_model.specs.Faults.{meant, field_of, HasBadRows, HasFault, rank}
use Rattle.cql_model.specs.Scopes.{scope_of}
use Rattle.cql_model.proofs.First.{Finds, finds_silent, finds_one}

-- TESTS

-- a test says whether something holds
pub record Tests (b : Bool) (P : Type 0) : Type 0 where
  pub yes : b ≡ true → P
  pub no : b ≡ false → P → ⊥

eq_yes : (n : ℕ) → nat_eq n 0 ≡ true → n ≡ 0
eq_yes n h = grind (arith, h)

-- a number that is not zero
pub eq_no : (n : ℕ) → nat_eq n 0 ≡ false → 0 < n
eq_no n h = grind (arith, h)

-- a name that stands among others is found there
pub some_among : (n m : ℕ) → n ≡ m → Tests (nat_lt 0 n) (0 < m)
some_among n m e = record { yes = λ h. let y = ltb-true 0 n h in omega (arith, y, e); no = λ h p. let y = ltb-false 0 n h in omega (arith, y, e, p) }

-- one that does not is not
pub none_among : (n m : ℕ) → n ≡ m → Tests (nat_eq n 0) (0 < m → ⊥)
none_among n m e = record {
  yes = λ h p. let y = eq_yes n h in omega (arith, y, e, p);
  no = λ h p. p (let y = eq_no n h in omega (arith, y, e));
}

-- with one more there are more than k + 1
pub one_more : (k n m : ℕ) → n ≡ m → Tests (nat_lt k n) (k + 1 < m + 1)
one_more k n m e = record { yes = λ h. let y = ltb-true k n h in omega (arith, y, e); no = λ h p. let y = ltb-false k n h in omega (arith, y, e, p) }

-- a number above a bound is found to be so
pub above : (k n m : ℕ) → n ≡ m → Tests (nat_lt k n) (k < m)
above k n m e = record { yes = λ h. let y = ltb-true k n h in omega (arith, y, e); no = λ h p. let y = ltb-false k n h in omega (arith, y, e, p) }

either_yes : (a b : Bool) → a || b ≡ true → (a ≡ true) ⊎ (b ≡ true)
either_yes true b h = inl refl
either_yes false b h = inr h

-- a window of too few or too many rows is found to be one
pub bad_rows : (w : Window) → Tests (is_rows_fault w) (HasBadRows w)
bad_rows Now = record { yes = λ h. absurd (cc h); no = λ h p. p }
bad_rows (Range n unit) = record { yes = λ h. absurd (cc h); no = λ h p. p }
bad_rows Unbounded = record { yes = λ h. absurd (cc h); no = λ h p. p }
bad_rows (Latest n) = record {
  yes = λ h. ⊎_elim (λ e. inl (eq_yes n e)) (λ e. inr (ltb-true 1000000 n e)) (either_yes (nat_eq n 0) (nat_lt 1000000 n) h);
  no = λ h p. let b = or_parts (nat_eq n 0) (nat_lt 1000000 n) h in let y = eq_no n b.0 in let z = ltb-false 1000000 n b.1 in
      ⊎_elim (λ e. omega (arith, e, y)) (λ e. omega (arith, e, z)) p;
}

-- FAULTS OF ONE SPOT

by_fault : (P : Fault → Type 0) → P UnknownStream → P UnknownField → P AmbiguousField → P NameTwice → P Limit → (f : Fault) → P f
by_fault P a b c d e UnknownStream = a
by_fault P a b c d e UnknownField = b
by_fault P a b c d e AmbiguousField = c
by_fault P a b c d e NameTwice = d
by_fault P a b c d e Limit = e

-- a place without a fault
abbrev pub Silent : Program → Spot → Type 0
Silent before s = (f : Fault) → HasFault before s f → ⊥

-- a place with its first fault
abbrev pub Says : Program → Spot → Fault → Type 0
Says before s f = HasFault before s f × ((g : Fault) → rank g < rank f → HasFault before s g → ⊥)

-- the first fault of places
abbrev pub Found : Program → List Spot → Option Fault → Type 0
Found before = Finds (Silent before) (Says before)

abbrev Never : Program → Spot → Fault → Type 0
Never before s f = HasFault before s f → ⊥

-- a spot with a name that may stand there twice, and be one too many
pub twice_or_many : (before : Program) (s : Spot) (b c : Bool) → Never before s UnknownStream → Never before s UnknownField → Never before s AmbiguousField
    → Tests b (HasFault before s NameTwice) → Tests c (HasFault before s Limit) → Found before (s ∷ []) (then_fault (fault_if b NameTwice) (fault_if c Limit))
twice_or_many before s true c n1 n2 n3 t u = finds_one (Silent before) (Says before) s NameTwice (
  t.yes refl,
  by_fault (λ g. rank g < 3 → Never before s g) (λ lt. n1) (λ lt. n2) (λ lt. n3)
      (λ lt. absurd (omega (arith, lt))) (λ lt. absurd (omega (arith, lt))),
)
twice_or_many before s false true n1 n2 n3 t u = finds_one (Silent before) (Says before) s Limit
    (u.yes refl, by_fault (λ g. rank g < 4 → Never before s g) (λ lt. n1) (λ lt. n2) (λ lt. n3) (λ lt. t.no refl) (λ lt. absurd (omega (arith, lt))))
twice_or_many before s false false n1 n2 n3 t u = finds_silent (Silent before) (Says before) s (by_fault (Never before s) n1 n2 n3 (t.no refl) (u.no refl))

-- the stream of an item
pub stream_or_many : (before : Program) (past : List Source) (i : Source) (b c : Bool) → Tests b (HasFault before (ItemStream past i) UnknownStream)
    → Tests c (HasFault before (ItemStream past i) Limit)
    → Found before (ItemStream past i ∷ []) (then_fault (fault_if b UnknownStream) (fault_if c Limit))
stream_or_many before past i true c t u = finds_one (Silent before) (Says before) (ItemStream past i) UnknownStream
    (t.yes refl, λ g lt. absurd (omega (arith, lt)))
stream_or_many before past i false true t u = let s = ItemStream past i in finds_one (Silent before) (Says before) s Limit
    (u.yes refl, by_fault (λ g. rank g < 4 → Never before s g) (λ lt. t.no refl) (λ lt h. h) (λ lt h. h) (λ lt h. h) (λ lt. absurd (omega (arith, lt))))
stream_or_many before past i false false t u = let s = ItemStream past i in
    finds_silent (Silent before) (Says before) s (by_fault (Never before s) (t.no refl) (λ h. h) (λ h. h) (λ h. h) (u.no refl))

-- a window, or the beginning of a column
pub only_limit : (before : Program) (s : Spot) (c : Bool) → Never before s UnknownStream → Never before s UnknownField → Never before s AmbiguousField
    → Never before s NameTwice → Tests c (HasFault before s Limit) → Found before (s ∷ []) (fault_if c Limit)
only_limit before s true n1 n2 n3 n4 u = finds_one (Silent before) (Says before) s Limit
    (u.yes refl, by_fault (λ g. rank g < 4 → Never before s g) (λ lt. n1) (λ lt. n2) (λ lt. n3) (λ lt. n4) (λ lt. absurd (omega (arith, lt))))
only_limit before s false n1 n2 n3 n4 u = finds_silent (Silent before) (Says before) s (by_fault (Never before s) n1 n2 n3 n4 (u.no refl))

-- the name of a query
pub only_twice : (before : Program) (n : Name) (b : Bool) → Tests b (HasFault before (QueryName n) NameTwice)
    → Found before (QueryName n ∷ []) (fault_if b NameTwice)
only_twice before n true t = let s = QueryName n in finds_one (Silent before) (Says before) s NameTwice (
  t.yes refl,
  by_fault (λ g. rank g < 3 → Never before s g) (λ lt h. h) (λ lt h. h) (λ lt h. h)
      (λ lt. absurd (omega (arith, lt))) (λ lt. absurd (omega (arith, lt))),
)
only_twice before n false t = let s = QueryName n in
    finds_silent (Silent before) (Says before) s (by_fault (Never before s) (λ h. h) (λ h. h) (λ h. h) (t.no refl) (λ h. h))

-- a field that stands in so many places
pub field_use : (before : Program) (items : List Source) (m : Mention) (n : ℕ) → n ≡ count (field_of m) (meant (scope_of (known_by before) items) m)
    → Found before (FieldUse items m ∷ []) (field_fault n)
field_use before items m zero e = let s = FieldUse items m in finds_one (Silent before) (Says before) s UnknownField (
  sym e,
  by_fault (λ g. rank g < 1 → Never before s g) (λ lt h. h)
      (λ lt. absurd (omega (arith, lt))) (λ lt. absurd (omega (arith, lt))) (λ lt. absurd (omega (arith, lt))) (λ lt. absurd (omega (arith, lt))),
)
field_use before items m (suc zero) e = let s = FieldUse items m in
    finds_silent (Silent before) (Says before) s
    (by_fault (Never before s) (λ h. h) (λ h. absurd (omega (arith, h, e))) (λ h. absurd (omega (arith, h, e))) (λ h. h) (λ h. h))
field_use before items m (suc (suc k)) e = let s = FieldUse items m in finds_one (Silent before) (Says before) s AmbiguousField (
  omega (arith, e),
  by_fault (λ g. rank g < 2 → Never before s g) (λ lt h. h) (λ lt h. absurd (omega (arith, h, e)))
      (λ lt. absurd (omega (arith, lt))) (λ lt. absurd (omega (arith, lt))) (λ lt. absurd (omega (arith, lt))),
)
