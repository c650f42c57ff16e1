-- What judging says of the spots that it goes over: all are right, and the answer is there; or the fault is the first of them.
use Rattle.std.proofs.Common.{◌≡◌, ℕ, ◌<◌, ◌⊎◌, inl, inr, Bool, true, false, List, [], ◌∷◌, ◌++◌, Result, Ok, Err, refl, sym, ap, ◌∙◌, subst, arith}
use Rattle.std.proofs.Common.{append_assoc}
use Rattle.std.specs.Prelude.{if◌then◌else◌, ℤ}
use Rattle.std.proofs.lemmas.List.{append-nil}
use Rattle.streamit_model.specs.Elaborate.{on_ok}
use Rattle.streamit_model.specs.declared.fault.Fault.{Fault}
use Rattle.streamit_model.specs.declared.fault.Fault.TheVariants.{UnknownName, NameTwice, Rates, PeekRange, NotConstant, BranchRates, Limit, Weights}
use Rattle.streamit_text.specs.Program.{UnitForm}
use Rattle.streamit_model.specs.Words.{ReadWord}
use Rattle.streamit_model.specs.Places.{Spot, Reads, each_word}
use Rattle.streamit_model.specs.Faults.{IsUnknown, IsTwice, AreRatesApart, IsOutside, IsVariable, AreArmsApart, IsOverLimit, AreWeightsWrong, HasFault, rank}
use Rattle.streamit_model.specs.Faults.{IsFirstFault}

-- the spot has no fault
abbrev pub IsFree : List UnitForm → Spot → Type 0
IsFree above s = (f : Fault) → HasFault above s f → ⊥

-- places without a fault
abbrev pub AllFree : List UnitForm → List Spot → Type 0
AllFree above [] = Unit {0}
AllFree above (s ∷ ss) = IsFree above s × AllFree above ss

-- it is the first fault of the first spot that has one
abbrev pub FirstIn : List UnitForm → List Spot → Fault → Type 0
FirstIn above [] f = ⊥
FirstIn above (s ∷ ss) f = IsFirstFault above s f ⊎ (IsFree above s × FirstIn above ss f)

-- what is read has no fault, or its first one
abbrev pub Meets : {A : Type 0} → List UnitForm → List Spot → Result A Fault → (A → Type 0) → Type 0
Meets above ss (Ok x) P = AllFree above ss × P x
Meets above ss (Err f) P = FirstIn above ss f

-- ONE SPOT

-- no row of the table holds there
pub free : (above : List UnitForm) (s : Spot) → (IsUnknown above s → ⊥) → (IsTwice above s → ⊥) → ((d c : ℕ) → AreRatesApart d c s → ⊥)
    → ((i : ℤ) (r : ℕ) → IsOutside i r s → ⊥) → (IsVariable s → ⊥) → (AreArmsApart s → ⊥) → (IsOverLimit above s → ⊥) → (AreWeightsWrong s → ⊥)
    → IsFree above s
free above s u t r p v a l w UnknownName h = u h
free above s u t r p v a l w NameTwice h = t h
free above s u t r p v a l w (Rates d c) h = r d c h
free above s u t r p v a l w (PeekRange i e) h = p i e h
free above s u t r p v a l w NotConstant h = v h
free above s u t r p v a l w BranchRates h = a h
free above s u t r p v a l w Limit h = l h
free above s u t r p v a l w Weights h = w h

-- a fault that is told before all others
pub first_twice : (above : List UnitForm) (s : Spot) → IsTwice above s → IsFirstFault above s NameTwice
first_twice above s h = record { has = h; first = λ g lt k. absurd (omega (arith, lt)) }

-- an unknown name is told first, where no name is declared twice
pub first_unknown : (above : List UnitForm) (s : Spot) → IsUnknown above s → (IsTwice above s → ⊥) → IsFirstFault above s UnknownName
first_unknown above s h t = record { has = h; first = others }
  where
    others : (g : Fault) → rank g < 1 → HasFault above s g → ⊥
    others NameTwice lt k = t k
    others UnknownName lt k = omega (arith, lt)
    others NotConstant lt k = omega (arith, lt)
    others Weights lt k = omega (arith, lt)
    others (PeekRange i e) lt k = omega (arith, lt)
    others Limit lt k = omega (arith, lt)
    others (Rates d c) lt k = omega (arith, lt)
    others BranchRates lt k = omega (arith, lt)

-- what is no constant is told first, where no fault of names is
pub first_variable : (above : List UnitForm) (s : Spot) → IsVariable s → (IsTwice above s → ⊥) → (IsUnknown above s → ⊥) → IsFirstFault above s NotConstant
first_variable above s h t u = record { has = h; first = others }
  where
    others : (g : Fault) → rank g < 2 → HasFault above s g → ⊥
    others NameTwice lt k = t k
    others UnknownName lt k = u k
    others NotConstant lt k = omega (arith, lt)
    others Weights lt k = omega (arith, lt)
    others (PeekRange i e) lt k = omega (arith, lt)
    others Limit lt k = omega (arith, lt)
    others (Rates d c) lt k = omega (arith, lt)
    others BranchRates lt k = omega (arith, lt)

-- wrong weights are told first, where no fault of names or constants is
pub first_weights : (above : List UnitForm) (s : Spot) → AreWeightsWrong s → (IsTwice above s → ⊥) → (IsUnknown above s → ⊥) → (IsVariable s → ⊥)
    → IsFirstFault above s Weights
first_weights above s h t u v = record { has = h; first = others }
  where
    others : (g : Fault) → rank g < 3 → HasFault above s g → ⊥
    others NameTwice lt k = t k
    others UnknownName lt k = u k
    others NotConstant lt k = v k
    others Weights lt k = omega (arith, lt)
    others (PeekRange i e) lt k = omega (arith, lt)
    others Limit lt k = omega (arith, lt)
    others (Rates d c) lt k = omega (arith, lt)
    others BranchRates lt k = omega (arith, lt)

-- an item out of reach is told first, where none of these is
pub first_peek : (above : List UnitForm) (s : Spot) (i : ℤ) (e : ℕ) → IsOutside i e s → (IsTwice above s → ⊥) → (IsUnknown above s → ⊥) → (IsVariable s → ⊥)
    → (AreWeightsWrong s → ⊥) → IsFirstFault above s (PeekRange i e)
first_peek above s i e h t u v w = record { has = h; first = others }
  where
    others : (g : Fault) → rank g < 4 → HasFault above s g → ⊥
    others NameTwice lt k = t k
    others UnknownName lt k = u k
    others NotConstant lt k = v k
    others Weights lt k = w k
    others (PeekRange j f) lt k = omega (arith, lt)
    others Limit lt k = omega (arith, lt)
    others (Rates d c) lt k = omega (arith, lt)
    others BranchRates lt k = omega (arith, lt)

-- a limit is told first, where none of these is
pub first_limit : (above : List UnitForm) (s : Spot) → IsOverLimit above s → (IsTwice above s → ⊥) → (IsUnknown above s → ⊥) → (IsVariable s → ⊥)
    → (AreWeightsWrong s → ⊥) → ((i : ℤ) (e : ℕ) → IsOutside i e s → ⊥) → IsFirstFault above s Limit
first_limit above s h t u v w p = record { has = h; first = others }
  where
    others : (g : Fault) → rank g < 5 → HasFault above s g → ⊥
    others NameTwice lt k = t k
    others UnknownName lt k = u k
    others NotConstant lt k = v k
    others Weights lt k = w k
    others (PeekRange j f) lt k = p j f k
    others Limit lt k = omega (arith, lt)
    others (Rates d c) lt k = omega (arith, lt)
    others BranchRates lt k = omega (arith, lt)

-- rates apart are told first, where none of these is
pub first_rates : (above : List UnitForm) (s : Spot) (d c : ℕ) → AreRatesApart d c s → (IsTwice above s → ⊥) → (IsUnknown above s → ⊥) → (IsVariable s → ⊥)
    → (AreWeightsWrong s → ⊥) → ((i : ℤ) (e : ℕ) → IsOutside i e s → ⊥) → (IsOverLimit above s → ⊥) → IsFirstFault above s (Rates d c)
first_rates above s d c h t u v w p l = record { has = h; first = others }
  where
    others : (g : Fault) → rank g < 6 → HasFault above s g → ⊥
    others NameTwice lt k = t k
    others UnknownName lt k = u k
    others NotConstant lt k = v k
    others Weights lt k = w k
    others (PeekRange j f) lt k = p j f k
    others Limit lt k = l k
    others (Rates d c) lt k = omega (arith, lt)
    others BranchRates lt k = omega (arith, lt)

-- arms apart are told first, where nothing else is
pub first_arms : (above : List UnitForm) (s : Spot) → AreArmsApart s → (IsTwice above s → ⊥) → (IsUnknown above s → ⊥) → (IsVariable s → ⊥)
    → (AreWeightsWrong s → ⊥) → ((i : ℤ) (e : ℕ) → IsOutside i e s → ⊥) → (IsOverLimit above s → ⊥) → ((d c : ℕ) → AreRatesApart d c s → ⊥)
    → IsFirstFault above s BranchRates
first_arms above s h t u v w p l r = record { has = h; first = others }
  where
    others : (g : Fault) → rank g < 7 → HasFault above s g → ⊥
    others NameTwice lt k = t k
    others UnknownName lt k = u k
    others NotConstant lt k = v k
    others Weights lt k = w k
    others (PeekRange j f) lt k = p j f k
    others Limit lt k = l k
    others (Rates d c) lt k = r d c k
    others BranchRates lt k = omega (arith, lt)

-- ONE AFTER ANOTHER

module _ (above : List UnitForm) where
  free_join : (ss ts : List Spot) → AllFree above ss → AllFree above ts → AllFree above (ss ++ ts)
  free_join [] ts a b = b
  free_join (s ∷ ss) ts a b = (a.0, free_join ss ts a.1 b)

  first_front : (ss ts : List Spot) (f : Fault) → FirstIn above ss f → FirstIn above (ss ++ ts) f
  first_front [] ts f h = absurd h
  first_front (s ∷ ss) ts f (inl h) = inl h
  first_front (s ∷ ss) ts f (inr h) = inr (h.0, first_front ss ts f h.1)

  first_back : (ss ts : List Spot) (f : Fault) → AllFree above ss → FirstIn above ts f → FirstIn above (ss ++ ts) f
  first_back [] ts f a h = h
  first_back (s ∷ ss) ts f a h = inr (a.0, first_back ss ts f a.1 h)

  -- behind spots that are right
  pub behind : {A : Type 0} (ss ts : List Spot) (r : Result A Fault) (P : A → Type 0) → AllFree above ss → Meets above ts r P → Meets above (ss ++ ts) r P
  behind ss ts (Ok x) P a h = (free_join ss ts a h.0, h.1)
  behind ss ts (Err f) P a h = first_back ss ts f a h

  -- one answer, and then the next
  pub chain : {A B : Type 0} (ss ts : List Spot) (r : Result A Fault) (g : A → Result B Fault) (P : A → Type 0) (Q : B → Type 0) → Meets above ss r P
      → ((x : A) → P x → Meets above ts (g x) Q) → Meets above (ss ++ ts) (on_ok r g) Q
  chain ss ts (Ok x) g P Q h k = behind ss ts (g x) Q h.0 (k x h.1)
  chain ss ts (Err f) g P Q h k = first_front ss ts f h

  -- an answer, and what is made of it
  pub finish : {A B : Type 0} (ss : List Spot) (r : Result A Fault) (g : A → B) (P : A → Type 0) (Q : B → Type 0) → Meets above ss r P
      → ((x : A) → P x → Q (g x))
      → Meets above ss (on_ok r (λ x. Ok (g x))) Q
  finish ss (Ok x) g P Q h k = (h.0, k x h.1)
  finish ss (Err f) g P Q h k = h

  -- another thing is said of the answer
  pub weaken : {A : Type 0} (ss : List Spot) (r : Result A Fault) (P Q : A → Type 0) → Meets above ss r P → ((x : A) → P x → Q x) → Meets above ss r Q
  weaken ss (Ok x) P Q h k = (h.0, k x h.1)
  weaken ss (Err f) P Q h k = h

  -- right spots behind those of an answer
  pub before_free : {A : Type 0} (ss ts : List Spot) (r : Result A Fault) (P Q : A → Type 0) → Meets above ss r P → AllFree above ts → ((x : A) → P x → Q x)
      → Meets above (ss ++ ts) r Q
  before_free ss ts (Ok x) P Q h a k = (free_join ss ts h.0 a, k x h.1)
  before_free ss ts (Err f) P Q h a k = first_front ss ts f h

  -- a test, and what comes then
  pub test : {A B : Type 0} (ss : List Spot) (b : Bool) (x : A) (f : Fault) (g : A → Result B Fault) (Q : B → Type 0) → (b ≡ true → Meets above ss (g x) Q)
      → (b ≡ false → FirstIn above ss f) → Meets above ss (on_ok (if b then Ok x else Err f) g) Q
  test ss true x f g Q good bad = good refl
  test ss false x f g Q good bad = bad refl

  -- a test alone
  pub last_test : {A : Type 0} (ss : List Spot) (b : Bool) (x : A) (f : Fault) (Q : A → Type 0) → (b ≡ true → AllFree above ss × Q x)
      → (b ≡ false → FirstIn above ss f) → Meets above ss (if b then Ok x else Err f) Q
  last_test ss true x f Q good bad = good refl
  last_test ss false x f Q good bad = bad refl

  -- WORDS

  read-append : (e : ℕ) (before xs ys : List ReadWord) → each_word e before (xs ++ ys) ≡ each_word e before xs ++ each_word e (before ++ xs) ys
  read-append e before [] ys = ap (λ b. each_word e b ys) (sym (append-nil before))
  read-append e before (x ∷ xs) ys =
      ap (λ l. Reads e before x ∷ l) (read-append e (before ++ x ∷ []) xs ys ∙ ap (λ b. each_word e (before ++ x ∷ []) xs ++ each_word e b ys)
      (append_assoc before (x ∷ []) xs))

  -- the words of one answer, and then those of the next
  pub next : {A B : Type 0} (e : ℕ) (before xs ys : List ReadWord) (r : Result A Fault) (g : A → Result B Fault) (P : A → Type 0) (Q : B → Type 0)
      → Meets above (each_word e before xs) r P → ((x : A) → P x → Meets above (each_word e (before ++ xs) ys) (g x) Q)
      → Meets above (each_word e before (xs ++ ys)) (on_ok r g) Q
  next e before xs ys r g P Q h k =
      subst (λ ss. Meets above ss (on_ok r g) Q) (sym (read-append e before xs ys)) (chain (each_word e before xs) (each_word e (before ++ xs) ys) r g P Q h k)

  -- right words behind those of an answer
  pub ended : {A : Type 0} (e : ℕ) (before xs ys : List ReadWord) (r : Result A Fault) (P Q : A → Type 0) → Meets above (each_word e before xs) r P
      → AllFree above (each_word e (before ++ xs) ys) → ((x : A) → P x → Q x) → Meets above (each_word e before (xs ++ ys)) r Q
  ended e before xs ys r P Q h a k =
      subst (λ ss. Meets above ss r Q) (sym (read-append e before xs ys)) (before_free (each_word e before xs) (each_word e (before ++ xs) ys) r P Q h a k)

  -- words that are right, and the words behind them
  pub beyond : {A : Type 0} (e : ℕ) (before xs ys : List ReadWord) (r : Result A Fault) (Q : A → Type 0) → AllFree above (each_word e before xs)
      → Meets above (each_word e (before ++ xs) ys) r Q → Meets above (each_word e before (xs ++ ys)) r Q
  beyond e before xs ys r Q a h =
      subst (λ ss. Meets above ss r Q) (sym (read-append e before xs ys)) (behind (each_word e before xs) (each_word e (before ++ xs) ys) r Q a h)
