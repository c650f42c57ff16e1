-- The first element of a list that has something to say.
use Rattle.std.proofs.Common.{◌≡◌, ◌⊎◌, Option, Some, None, List, [], ◌∷◌, ◌++◌, map, refl, sym, ap, ◌∙◌, subst, inl, inr, ⊎_elim}
use Rattle.std.specs.List.{AllByRecursion}

-- what is said first, where something is
abbrev pub first_of : {R : Type 0} → Option R → Option R → Option R
first_of None o = o
first_of (Some r) o = Some r

-- an element is silent, or says something; this is said first in a list
abbrev pub Finds : {X R : Type 0} → (X → Type 0) → (X → R → Type 0) → List X → Option R → Type 0
Finds {R = R} Silent Says [] o = o ≡ None
Finds {R = R} Silent Says (x ∷ xs) o = ((r : R) × (o ≡ Some r) × Says x r) ⊎ (Silent x × Finds Silent Says xs o)

module _ {X R : Type 0} (Silent : X → Type 0) (Says : X → R → Type 0) where
  -- one element
  pub finds_silent : (x : X) → Silent x → Finds Silent Says (x ∷ []) None
  finds_silent x s = inr (s, refl)

  -- a place that has a fault is found
  pub finds_one : (x : X) (r : R) → Says x r → Finds Silent Says (x ∷ []) (Some r)
  finds_one x r s = inl (r, refl, s)

  -- one list behind another
  pub finds_both : (xs ys : List X) (a b : Option R) → Finds Silent Says xs a → Finds Silent Says ys b → Finds Silent Says (xs ++ ys) (first_of a b)
  finds_both [] ys a b f g = subst (λ (o : Option R). Finds Silent Says ys (first_of o b)) (sym f) g
  finds_both (x ∷ xs) ys a b f g =
      ⊎_elim (λ s. inl (s.0, ap (λ o. first_of o b) s.1, s.2)) (λ s. inr (s.0, finds_both xs ys a b s.1 g)) f

  -- where nothing is said
  pub finds_none : (xs : List X) → Finds Silent Says xs None → AllByRecursion Silent xs
  finds_none [] f = tt
  finds_none (x ∷ xs) f = ⊎_elim (λ s. absurd (cc (s.1))) (λ s. (s.0, finds_none xs s.1)) f

  -- among places without a fault none is found
  pub none_finds : (xs : List X) → AllByRecursion Silent xs → Finds Silent Says xs None
  none_finds [] a = refl
  none_finds (x ∷ xs) a = inr (a.0, none_finds xs a.1)

  -- where something is said: by an element behind some that are silent
  pub record Split (xs : List X) (r : R) : Type 0 where
    pub before : List X
    pub element : X
    pub behind : List X
    pub parts : xs ≡ before ++ element ∷ behind
    pub silent : AllByRecursion Silent before
    pub says : Says element r

  some_is : (r s : R) → Some r ≡ Some s → s ≡ r
  some_is r s e = cc

  -- a fault that is found has its place, and no place before it has one
  pub finds_some : (xs : List X) (r : R) → Finds Silent Says xs (Some r) → Split xs r
  finds_some [] r f = absurd (cc f)
  finds_some (x ∷ xs) r f =
      ⊎_elim (λ s. record { before = []; element = x; behind = xs; parts = refl; silent = tt; says = subst (Says x) (some_is r s.0 s.1) s.2 })
      (λ s. let m = finds_some xs r s.1 in
      record { before = x ∷ m.before; element = m.element; behind = m.behind; parts = ap (λ l. x ∷ l) m.parts; silent = (s.0, m.silent); says = m.says }) f

  -- and where it is so, it is found
  pub some_finds : (before : List X) (x : X) (behind : List X) (r : R) → AllByRecursion Silent before → Says x r
      → Finds Silent Says (before ++ x ∷ behind) (Some r)
  some_finds [] x behind r a s = inl (r, refl, s)
  some_finds (y ∷ ys) x behind r a s = inr (a.0, some_finds ys x behind r a.1 s)

  -- only one thing is said first, where each element says one thing or is silent
  pub finds_same : ((x : X) (r : R) → Silent x → Says x r → ⊥) → ((x : X) (r s : R) → Says x r → Says x s → r ≡ s)
      → (xs : List X) (a b : Option R) → Finds Silent Says xs a → Finds Silent Says xs b → a ≡ b
  finds_same apart same [] a b f g = f ∙ sym g
  finds_same apart same (x ∷ xs) a b f g =
      ⊎_elim (λ s. ⊎_elim (λ t. s.1 ∙ ap (λ (r : R). Some r) (same x s.0 t.0 s.2 t.2) ∙ sym t.1) (λ t. absurd (apart x s.0 t.0 s.2)) g)
      (λ s. ⊎_elim (λ t. absurd (apart x t.0 s.0 t.2)) (λ t. finds_same apart same xs a b s.1 t.1) g) f

-- the elements and what they say, named otherwise
abbrev pub named_as : {R S : Type 0} → (R → S) → Option R → Option S
named_as h None = None
named_as h (Some r) = Some (h r)

-- the same over what a function gives for each place
pub finds_map : {X Y R S : Type 0} (Silent : X → Type 0) (Says : X → R → Type 0) (Quiet : Y → Type 0) (Tells : Y → S → Type 0) (g : X → Y) (h : R → S)
    → ((x : X) → Silent x → Quiet (g x)) → ((x : X) (r : R) → Says x r → Tells (g x) (h r))
    → (xs : List X) (o : Option R) → Finds Silent Says xs o → Finds Quiet Tells (map g xs) (named_as h o)
finds_map Silent Says Quiet Tells g h q t [] o f = ap (named_as h) f
finds_map Silent Says Quiet Tells g h q t (x ∷ xs) o f =
    ⊎_elim (λ s. inl (h s.0, ap (named_as h) s.1, t x s.0 s.2)) (λ s. inr (q x s.0, finds_map Silent Says Quiet Tells g h q t xs o s.1)) f
