-- Whether a text has a fault, spot by spot, and the first that it has.
use Rattle.std.proofs.Common.{◌≡◌, ℕ, ◌<◌, ◌⊎◌, inl, inr, Bool, true, false, List, [], ◌∷◌, ◌++◌, refl, sym, ap, subst, arith, ⊎_elim, append_assoc, append-nil}
use Rattle.std.specs.List.{AllByRecursion}
use Rattle.std.specs.Prelude.{Result, Ok, Err, if◌then◌else◌}
use Rattle.saw_model.specs.declared.fault.Fault.{Fault}
use Rattle.saw_model.specs.declared.fault.Fault.TheVariants.{UnknownName, NameTwice, Shape, Limit}
use Rattle.saw_model.specs.Elaborate.{on_ok}
use Rattle.saw_model.specs.Faults.{IsUnknown, IsTwice, IsMisshapen, IsTooMuch, HasFault, rank, IsFirstFault, IsFaultless}
use Rattle.saw_model.specs.Places.{Spot, places_behind}

-- ONE PLACE

-- a spot without a fault
abbrev pub IsFine : List Spot → Spot → Type 0
IsFine b m = IsFaultless (record { before = b; spot = m })

-- it is the first fault of this spot behind this text
abbrev pub IsFirstAt : List Spot → Spot → Fault → Type 0
IsFirstAt b m f = IsFirstFault (record { before = b; spot = m }) f

-- a spot that has none of the faults
pub fine_by : (b : List Spot) (m : Spot) → (IsUnknown b m → ⊥) → (IsTwice b m → ⊥) → (IsMisshapen b m → ⊥) → (IsTooMuch b m → ⊥) → IsFine b m
fine_by b m p q r s UnknownName h = p h
fine_by b m p q r s NameTwice h = q h
fine_by b m p q r s Shape h = r h
fine_by b m p q r s Limit h = s h

-- an unknown name is told first
pub first_unknown : (b : List Spot) (m : Spot) → IsUnknown b m → IsFirstAt b m UnknownName
first_unknown b m h = record { has = h; first = λ g lt. absurd (omega (arith, lt)) }

-- then a name that stands twice
pub first_twice : (b : List Spot) (m : Spot) → (IsUnknown b m → ⊥) → IsTwice b m → IsFirstAt b m NameTwice
first_twice b m p h = record { has = h; first = first }
  where
    first : (g : Fault) → rank g < rank NameTwice → HasFault b m g → ⊥
    first UnknownName lt d = p d
    first NameTwice lt d = omega (arith, lt)
    first Shape lt d = omega (arith, lt)
    first Limit lt d = omega (arith, lt)

-- then a wrong shape
pub first_shape : (b : List Spot) (m : Spot) → (IsUnknown b m → ⊥) → (IsTwice b m → ⊥) → IsMisshapen b m → IsFirstAt b m Shape
first_shape b m p q h = record { has = h; first = first }
  where
    first : (g : Fault) → rank g < rank Shape → HasFault b m g → ⊥
    first UnknownName lt d = p d
    first NameTwice lt d = q d
    first Shape lt d = omega (arith, lt)
    first Limit lt d = omega (arith, lt)

-- then a limit
pub first_limit : (b : List Spot) (m : Spot) → (IsUnknown b m → ⊥) → (IsTwice b m → ⊥) → (IsMisshapen b m → ⊥) → IsTooMuch b m → IsFirstAt b m Limit
first_limit b m p q r h = record { has = h; first = first }
  where
    first : (g : Fault) → rank g < rank Limit → HasFault b m g → ⊥
    first UnknownName lt d = p d
    first NameTwice lt d = q d
    first Shape lt d = r d
    first Limit lt d = omega (arith, lt)

rank_same : (f g : Fault) → rank f ≡ rank g → f ≡ g
rank_same UnknownName UnknownName e = refl
rank_same UnknownName NameTwice e = absurd (omega (arith, e))
rank_same UnknownName Shape e = absurd (omega (arith, e))
rank_same UnknownName Limit e = absurd (omega (arith, e))
rank_same NameTwice UnknownName e = absurd (omega (arith, e))
rank_same NameTwice NameTwice e = refl
rank_same NameTwice Shape e = absurd (omega (arith, e))
rank_same NameTwice Limit e = absurd (omega (arith, e))
rank_same Shape UnknownName e = absurd (omega (arith, e))
rank_same Shape NameTwice e = absurd (omega (arith, e))
rank_same Shape Shape e = refl
rank_same Shape Limit e = absurd (omega (arith, e))
rank_same Limit UnknownName e = absurd (omega (arith, e))
rank_same Limit NameTwice e = absurd (omega (arith, e))
rank_same Limit Shape e = absurd (omega (arith, e))
rank_same Limit Limit e = refl

which : (a b : ℕ) → (a < b) ⊎ ((b < a) ⊎ (a ≡ b))
which a b = grind arith

one_first : (b : List Spot) (m : Spot) (f g : Fault) → IsFirstAt b m f → IsFirstAt b m g → f ≡ g
one_first b m f g x y = ⊎_elim
    (λ lt. absurd (y.first f lt x.has))
    (λ r. ⊎_elim (λ lt. absurd (x.first g lt y.has)) (λ e. rank_same f g e) r)
    (which (rank f) (rank g))

-- ALL PLACES OF A TEXT, BEHIND ANOTHER

-- spots without a fault
abbrev pub AreFine : List Spot → List Spot → Type 0
AreFine b ms = AllByRecursion IsFaultless (places_behind b ms)

-- the first of them that has a fault has this one
abbrev pub HasFirst : List Spot → List Spot → Fault → Type 0
HasFirst b [] f = ⊥
HasFirst b (m ∷ ms) f = IsFirstAt b m f ⊎ (IsFine b m × HasFirst (b ++ m ∷ []) ms f)

-- two lists of such spots
pub fine_both : (b ms ns : List Spot) → AreFine b ms → AreFine (b ++ ms) ns → AreFine b (ms ++ ns)
fine_both b [] ns a c = subst (λ x. AreFine x ns) (append-nil b) c
fine_both b (m ∷ ms) ns a c = (a.0, fine_both (b ++ m ∷ []) ms ns a.1 (subst (λ x. AreFine x ns) (sym (append_assoc b (m ∷ []) ms)) c))

pub first_front : (b ms ns : List Spot) (f : Fault) → HasFirst b ms f → HasFirst b (ms ++ ns) f
first_front b [] ns f h = absurd h
first_front b (m ∷ ms) ns f h = ⊎_elim (λ x. inl x) (λ x. inr (x.0, first_front (b ++ m ∷ []) ms ns f x.1)) h

pub first_behind : (b ms ns : List Spot) (f : Fault) → AreFine b ms → HasFirst (b ++ ms) ns f → HasFirst b (ms ++ ns) f
first_behind b [] ns f a h = subst (λ x. HasFirst x ns f) (append-nil b) h
first_behind b (m ∷ ms) ns f a h = inr (a.0, first_behind (b ++ m ∷ []) ms ns f a.1 (subst (λ x. HasFirst x ns f) (sym (append_assoc b (m ∷ []) ms)) h))

-- spots without a fault have no first one
pub not_both : (b ms : List Spot) (f : Fault) → AreFine b ms → HasFirst b ms f → ⊥
not_both b [] f a h = h
not_both b (m ∷ ms) f a h = ⊎_elim (λ x. a.0 f x.has) (λ x. not_both (b ++ m ∷ []) ms f a.1 x.1) h

-- there is one first fault
pub one_fault : (b ms : List Spot) (f g : Fault) → HasFirst b ms f → HasFirst b ms g → f ≡ g
one_fault b [] f g x y = absurd x
one_fault b (m ∷ ms) f g x y = ⊎_elim
    (λ a. ⊎_elim (λ c. one_first b m f g a c) (λ c. absurd (c.0 f a.has)) y)
    (λ a. ⊎_elim (λ c. absurd (a.0 g c.has)) (λ c. one_fault (b ++ m ∷ []) ms f g a.1 c.1) y)
    x

-- where it stands
pub record Stands (b ms : List Spot) (f : Fault) : Type 0 where
  pub read : List Spot
  pub here : Spot
  pub left : List Spot
  pub spots : ms ≡ read ++ here ∷ left
  pub fine : AreFine b read
  pub fault : IsFirstAt (b ++ read) here f

-- the first fault stands at a place
pub first_stands : (b ms : List Spot) (f : Fault) → HasFirst b ms f → Stands b ms f
first_stands b [] f h = absurd h
first_stands b (m ∷ ms) f h = ⊎_elim
    (λ x. record { read = []; here = m; left = ms; spots = refl; fine = tt; fault = subst (λ y. IsFirstAt y m f) (sym (append-nil b)) x })
    (λ x.
    let s = first_stands (b ++ m ∷ []) ms f x.1 in
    record {
      read = m ∷ s.read;
      here = s.here;
      left = s.left;
      spots = ap (λ l. m ∷ l) s.spots;
      fine = (x.0, s.fine);
      fault = subst (λ y. IsFirstAt y s.here f) (append_assoc b (m ∷ []) s.read) s.fault;
    })
    h

-- and what stands so is the first
pub stands_first : (b read : List Spot) (here : Spot) (left : List Spot) (f : Fault) → AreFine b read → IsFirstAt (b ++ read) here f
    → HasFirst b (read ++ here ∷ left) f
stands_first b [] here left f a h = inl (subst (λ y. IsFirstAt y here f) (append-nil b) h)
stands_first b (m ∷ read) here left f a h =
    inr (a.0, stands_first (b ++ m ∷ []) read here left f a.1 (subst (λ y. IsFirstAt y here f) (sym (append_assoc b (m ∷ []) read)) h))

-- WHAT IS ANSWERED OF A TEXT

-- the text ms behind b: no place has a fault, and Q holds behind it; or the first that has one has the fault that is told
abbrev pub Verdict : {A : Type 0} → (List Spot → A → Type 0) → List Spot → List Spot → Result A Fault → Type 0
Verdict Q b ms (Ok a) = AreFine b ms × Q (b ++ ms) a
Verdict Q b ms (Err f) = HasFirst b ms f

pub behind : {A : Type 0} (Q : List Spot → A → Type 0) (b ms ns : List Spot) (r : Result A Fault) → AreFine b ms → Verdict Q (b ++ ms) ns r
    → Verdict Q b (ms ++ ns) r
behind Q b ms ns (Ok a) f v = (fine_both b ms ns f v.0, subst (λ x. Q x a) (append_assoc b ms ns) v.1)
behind Q b ms ns (Err e) f v = first_behind b ms ns e f v

-- one text, and then another
pub then_read : {A B : Type 0} (Q : List Spot → A → Type 0) (R : List Spot → B → Type 0) (b ms ns : List Spot) (r : Result A Fault)
    (g : A → Result B Fault)
    → Verdict Q b ms r
    → ((a : A) → Q (b ++ ms) a → Verdict R (b ++ ms) ns (g a))
    → Verdict R b (ms ++ ns) (on_ok r g)
then_read Q R b ms ns (Ok a) g v h = behind R b ms ns (g a) v.0 (h a v.1)
then_read Q R b ms ns (Err e) g v h = first_front b ms ns e v

-- the value of a text
pub then_is : {A B : Type 0} (Q : List Spot → A → Type 0) (R : List Spot → B → Type 0) (b ms : List Spot) (r : Result A Fault) (g : A → B)
    → Verdict Q b ms r
    → ((a : A) → Q (b ++ ms) a → R (b ++ ms) (g a))
    → Verdict R b ms (on_ok r (λ a. Ok (g a)))
then_is Q R b ms (Ok a) g v h = (v.0, h a v.1)
then_is Q R b ms (Err e) g v h = v

-- a place without a fault, and then a text
pub next : {A : Type 0} (Q : List Spot → A → Type 0) (b : List Spot) (m : Spot) (ms : List Spot) (r : Result A Fault) → IsFine b m
    → Verdict Q (b ++ m ∷ []) ms r
    → Verdict Q b (m ∷ ms) r
next Q b m ms r f v = behind Q b (m ∷ []) ms r (f, tt) v

-- by the cases of a test
pub by_test : {A : Type 0} (Q : List Spot → A → Type 0) (b ms : List Spot) (t : Bool) (x y : Result A Fault) → (t ≡ true → Verdict Q b ms x)
    → (t ≡ false → Verdict Q b ms y)
    → Verdict Q b ms (if t then x else y)
by_test Q b ms true x y f g = f refl
by_test Q b ms false x y f g = g refl
