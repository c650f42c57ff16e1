-- Inputs that fit, place by place.
use Rattle.std.proofs.Common.{◌≡◌, ℕ, ℤ, zero, suc, ◌+◌, ◌<◌, ◌<ℤ◌, Some, None, Bool, true, false, List, [], ◌∷◌, length, refl, sym, ap, ◌∙◌, subst, arith}
use Rattle.std.proofs.Common.{get_or, ⊎_elim}
use Rattle.std.specs.Prelude.{All, IsTrue, slice_get}
use Rattle.std.proofs.lemmas.Bool.{cases_lt}
use Rattle.std.proofs.lemmas.Option.{slice_get_within, slice_get-get_or, same_Some}
use Rattle.brooklet_step.proofs.StartLemmas.{inputs_many}
use Rattle.river_base.specs.declared.item.Item as item
use Rattle.river_base.specs.declared.kind.FlatType.TheVariants.{Rows, Stream, Relation}
use Rattle.river_base.specs.declared.kind.QueueType.{QueueType}
use Rattle.river_base.specs.declared.kind.QueueType.TheVariants.{Flat as FlatOf, Pack as PackOf}
use Rattle.river_base.specs.Held.{HasType}
use Rattle.river_base.specs.Places.{list_at}
use Rattle.river_plan.specs.declared.plan.Decl.{Decl}
use Rattle.river_plan.specs.Forms.{PlanForm}
use Rattle.brooklet_model.specs.Typed.{AreInputs}
use Rattle.brooklet_model.specs.Fit.{Fit, instant_of, instants_in, Rises, HasInstants, AreInstants}
use Rattle.brooklet_step.specs.Fit.{IsStream, NoStream, IsStreamAt}

-- what holds at each place of two lists
abbrev pub EachAt : (Decl → List item.Item → Type 0) → List Decl → List (List item.Item) → Type 0
EachAt P ds ls = (i : ℕ) (d : Decl) → slice_get ds i ≡ Some d → P d (list_at ls i)

pub inputs_at : (ds : List Decl) (ls : List (List item.Item)) → AreInputs ds ls → EachAt (λ d xs. All (HasType d.kind) xs) ds ls
inputs_at [] ls a i d g = absurd (cc g)
inputs_at (e ∷ ds) [] a i d g = absurd a
inputs_at (e ∷ ds) (xs ∷ ls) a zero d g = subst (λ (x : Decl). All (HasType x.kind) xs) (same_Some e d g) a.0
inputs_at (e ∷ ds) (xs ∷ ls) a (suc i) d g = inputs_at ds ls a.1 i d g

-- lists that have the declared types, place by place, are inputs
pub inputs_by : (ds : List Decl) (ls : List (List item.Item)) → length ds ≡ length ls → EachAt (λ d xs. All (HasType d.kind) xs) ds ls → AreInputs ds ls
inputs_by [] [] e h = tt
inputs_by [] (xs ∷ ls) e h = absurd (omega (arith, e))
inputs_by (d ∷ ds) [] e h = absurd (omega (arith, e))
inputs_by (d ∷ ds) (xs ∷ ls) e h = (h 0 d refl, inputs_by ds ls (omega (arith, e)) (λ i x g. h (suc i) x g))

pub instants_at : (ds : List Decl) (ts : List ℤ) (ls : List (List item.Item)) → length ls ≡ length ds → AreInstants ds ts ls
    → EachAt (λ d xs. HasInstants d.kind ts xs) ds ls
instants_at [] ts ls e a i d g = absurd (cc g)
instants_at (x ∷ ds) ts [] e a i d g = absurd (omega (arith, e))
instants_at (x ∷ ds) ts (xs ∷ ls) e a zero d g = subst (λ (y : Decl). HasInstants y.kind ts xs) (same_Some x d g) a.0
instants_at (x ∷ ds) ts (xs ∷ ls) e a (suc i) d g = instants_at ds ts ls (omega (arith, e)) a.1 i d g

-- lists that follow these instants, place by place
pub instants_by : (ds : List Decl) (ts : List ℤ) (ls : List (List item.Item)) → EachAt (λ d xs. HasInstants d.kind ts xs) ds ls → AreInstants ds ts ls
instants_by [] ts ls h = tt
instants_by (d ∷ ds) ts [] h = tt
instants_by (d ∷ ds) ts (xs ∷ ls) h = (h 0 d refl, instants_by ds ts ls (λ i x g. h (suc i) x g))

-- streams have instants, and others any
pub stream_has : (t : QueueType) (ts : List ℤ) (xs : List item.Item) → (IsStream t → instants_in xs ≡ ts) → HasInstants t ts xs
stream_has (FlatOf (Rows w)) ts xs h = tt
stream_has (FlatOf (Stream w)) ts xs h = h tt
stream_has (FlatOf (Relation w)) ts xs h = tt
stream_has (PackOf t) ts xs h = tt

pub has_stream : (t : QueueType) (ts : List ℤ) (xs : List item.Item) → HasInstants t ts xs → IsStream t → instants_in xs ≡ ts
has_stream (FlatOf (Rows w)) ts xs h s = absurd s
has_stream (FlatOf (Stream w)) ts xs h s = h
has_stream (FlatOf (Relation w)) ts xs h s = absurd s
has_stream (PackOf t) ts xs h s = absurd s

-- without streams any typed inputs fit
pub fit_none : (p : PlanForm) (ls : List (List item.Item)) → AreInputs p.inputs ls → NoStream (length p.inputs) p.inputs → Fit p ls
fit_none p ls a n = record {
  typed = a;
  instants_of = [];
  ascending = tt;
  streams = instants_by p.inputs [] ls (λ i d g. stream_has d.kind [] (list_at ls i) (λ s. absurd (n i d (slice_get_within p.inputs i d g) g s)));
}

-- the first stream tells the instants
pub fit_some : (p : PlanForm) (ls : List (List item.Item)) (i : ℕ) (xs : List item.Item) → AreInputs p.inputs ls → xs ≡ list_at ls i → Rises (instants_in xs)
    → AreInstants p.inputs (instants_in xs) ls → Fit p ls
fit_some p ls i xs a e r s = record { typed = a; instants_of = instants_in xs; ascending = r; streams = s }

pub some_fit : (p : PlanForm) (ls : List (List item.Item)) (i : ℕ) (d : Decl) (xs : List item.Item) → slice_get p.inputs i ≡ Some d → IsStream d.kind
    → xs ≡ list_at ls i → Fit p ls → Rises (instants_in xs) × AreInstants p.inputs (instants_in xs) ls
some_fit p ls i d xs g s e f =
    let h = instants_at p.inputs f.instants_of ls (inputs_many p.inputs ls f.typed) f.streams i d g in
    let same : f.instants_of ≡ instants_in xs = sym (has_stream d.kind f.instants_of (list_at ls i) h s) ∙ ap instants_in (sym e) in
    (subst Rises same f.ascending, subst (λ ts. AreInstants p.inputs ts ls) same f.streams)

-- RISING, AND THE SAME

head_later : (t u : ℤ) (ts : List ℤ) → Rises (t ∷ u ∷ ts) → t <ℤ u
head_later t u ts r = r.0

pub rises_at : (xs : List item.Item) → Rises (instants_in xs) → (i : ℕ) (x y : item.Item) → slice_get xs i ≡ Some x → slice_get xs (suc i) ≡ Some y
    → instant_of x <ℤ instant_of y
rises_at [] r i x y g h = absurd (cc g)
rises_at (a ∷ []) r zero x y g h = absurd (let e : None ≡ Some y = h in cc e)
rises_at (a ∷ []) r (suc i) x y g h = absurd (let e : None ≡ Some x = g in cc e)
rises_at (a ∷ b ∷ xs) r zero x y g h = subst (λ z. instant_of z <ℤ instant_of y) (same_Some a x g) (subst (λ z. instant_of a <ℤ instant_of z) (same_Some b y h) r.0)
rises_at (a ∷ b ∷ xs) r (suc i) x y g h = rises_at (b ∷ xs) r.1 i x y g h

-- instants rise, where each is below the next
pub rises_by : (xs : List item.Item) → ((i : ℕ) (x y : item.Item) → slice_get xs i ≡ Some x → slice_get xs (suc i) ≡ Some y → instant_of x <ℤ instant_of y)
    → Rises (instants_in xs)
rises_by [] h = tt
rises_by (a ∷ []) h = tt
rises_by (a ∷ b ∷ xs) h = (h 0 a b refl refl, rises_by (b ∷ xs) (λ i x y g k. h (suc i) x y g k))

pub same_at : (xs ys : List item.Item) → instants_in xs ≡ instants_in ys → (i : ℕ) (x y : item.Item) → slice_get xs i ≡ Some x → slice_get ys i ≡ Some y
    → instant_of x ≡ instant_of y
same_at xs ys e i x y g h =
    let s : Some (instant_of x) ≡ Some (instant_of y) = sym (got_map xs i x g) ∙ ap (λ (l : List ℤ). slice_get l i) e ∙ got_map ys i y h in cc
  where
    got_map : (zs : List item.Item) (n : ℕ) (z : item.Item) → slice_get zs n ≡ Some z → slice_get (instants_in zs) n ≡ Some (instant_of z)
    got_map [] n z k = absurd (cc k)
    got_map (w ∷ ws) zero z k = let q : w ≡ z = cc in ap (λ v. Some (instant_of v)) q
    got_map (w ∷ ws) (suc n) z k = got_map ws n z k

-- instants are the same, where they are at each place
pub same_by : (xs ys : List item.Item) → length xs ≡ length ys
    → ((i : ℕ) (x y : item.Item) → slice_get xs i ≡ Some x → slice_get ys i ≡ Some y → instant_of x ≡ instant_of y) → instants_in xs ≡ instants_in ys
same_by [] [] e h = refl
same_by [] (y ∷ ys) e h = absurd (omega (arith, e))
same_by (x ∷ xs) [] e h = absurd (omega (arith, e))
same_by (x ∷ xs) (y ∷ ys) e h =
    ap (λ t. t ∷ instants_in xs) (h 0 x y refl refl) ∙ ap (λ l. instant_of y ∷ l) (same_by xs ys (omega (arith, e)) (λ i a b g k. h (suc i) a b g k))

pub instants_long : (xs ys : List item.Item) → instants_in xs ≡ instants_in ys → length xs ≡ length ys
instants_long [] [] e = refl
instants_long [] (y ∷ ys) e = absurd (cc e)
instants_long (x ∷ xs) [] e = absurd (cc e)
instants_long (x ∷ xs) (y ∷ ys) e = ap suc (instants_long xs ys (let t : instants_in xs ≡ instants_in ys = cc in t))

-- LOOPS

-- what holds below n and at n holds below n + 1
pub until : (P : ℕ → Type 0) (n : ℕ) → ((i : ℕ) → i < n → P i) → P n → (i : ℕ) → i < n + 1 → P i
until P n h last i lt = ⊎_elim (λ below. h i below) (λ ge. subst P (let e : n ≡ i = omega (arith, lt, ge) in e) last) (cases_lt i n)

got_here : {A : Type 0} (xs : List A) (n : ℕ) (x y : A) → n < length xs → x ≡ get_or xs n x → slice_get xs n ≡ Some y → x ≡ y
got_here xs n x y lt e g = let s : Some x ≡ Some y = ap Some e ∙ sym (slice_get-get_or xs n x lt) ∙ g in cc

got_at : {A : Type 0} (xs : List A) (n : ℕ) (x : A) → n < length xs → x ≡ get_or xs n x → slice_get xs n ≡ Some x
got_at xs n x lt e = slice_get-get_or xs n x lt ∙ ap Some (sym e)

-- the list at this place has its type
pub typed_here : (ds : List Decl) (ls : List (List item.Item)) (n : ℕ) (d : Decl) (xs : List item.Item) → n < length ds → d ≡ get_or ds n d → xs ≡ list_at ls n
    → All (HasType d.kind) xs → (e : Decl) → slice_get ds n ≡ Some e → All (HasType e.kind) (list_at ls n)
typed_here ds ls n d xs lt de xe a e g =
    subst (λ (x : Decl). All (HasType x.kind) (list_at ls n)) (got_here ds n d e lt de g) (subst (All (HasType d.kind)) xe a)

-- a list without its type is no input
pub not_typed : (ds : List Decl) (ls : List (List item.Item)) (n : ℕ) (d : Decl) (xs : List item.Item) → n < length ds → d ≡ get_or ds n d → xs ≡ list_at ls n
    → (All (HasType d.kind) xs → ⊥) → AreInputs ds ls → ⊥
not_typed ds ls n d xs lt de xe h a = h (subst (All (HasType d.kind)) (sym xe) (inputs_at ds ls a n d (got_at ds n d lt de)))

pub stream_here : (ds : List Decl) (n : ℕ) (d : Decl) → n < length ds → d ≡ get_or ds n d → (IsStream d.kind → ⊥) → (e : Decl) → slice_get ds n ≡ Some e
    → IsStream e.kind → ⊥
stream_here ds n d lt de h e g s = h (subst (λ (x : Decl). IsStream x.kind) (sym (got_here ds n d e lt de g)) s)

pub stream_found : (ds : List Decl) (n : ℕ) (d : Decl) → n < length ds → d ≡ get_or ds n d → IsStream d.kind
    → (e : Decl) × (slice_get ds n ≡ Some e) × IsStream e.kind
stream_found ds n d lt de s = (d, got_at ds n d lt de, s)

-- the list at this place follows the instants
pub follows_here : (ds : List Decl) (ts : List ℤ) (ls : List (List item.Item)) (n : ℕ) (d : Decl) (xs : List item.Item) → n < length ds → d ≡ get_or ds n d
    → xs ≡ list_at ls n → HasInstants d.kind ts xs → (e : Decl) → slice_get ds n ≡ Some e → HasInstants e.kind ts (list_at ls n)
follows_here ds ts ls n d xs lt de xe h e g =
    subst (λ (x : Decl). HasInstants x.kind ts (list_at ls n)) (got_here ds n d e lt de g) (subst (HasInstants d.kind ts) xe h)

-- a list that does not follow them is told
pub not_follows : (ds : List Decl) (ts : List ℤ) (ls : List (List item.Item)) (n : ℕ) (d : Decl) (xs : List item.Item) → length ls ≡ length ds → n < length ds
    → d ≡ get_or ds n d → xs ≡ list_at ls n → (HasInstants d.kind ts xs → ⊥) → AreInstants ds ts ls → ⊥
not_follows ds ts ls n d xs l lt de xe h a = h (subst (HasInstants d.kind ts) (sym xe) (instants_at ds ts ls l a n d (got_at ds n d lt de)))

pub later_here : (xs : List item.Item) (n m : ℕ) (a b : item.Item) → n + 1 < length xs → a ≡ get_or xs n a → b ≡ get_or xs m b → m ≡ suc n
    → instant_of a <ℤ instant_of b → (x y : item.Item) → slice_get xs n ≡ Some x → slice_get xs (suc n) ≡ Some y → instant_of x <ℤ instant_of y
later_here xs n m a b lt ae be me h x y g k =
    let ea : a ≡ x = got_here xs n a x (omega (arith, lt)) ae g in
    let eb : b ≡ y = got_here xs (suc n) b y (omega (arith, lt)) (be ∙ ap (λ i. get_or xs i b) me) k in
    subst (λ z. instant_of x <ℤ instant_of z) eb (subst (λ z. instant_of z <ℤ instant_of b) ea h)

-- an instant that is not below the next is told
pub not_later : (xs : List item.Item) (n m : ℕ) (a b : item.Item) → n + 1 < length xs → a ≡ get_or xs n a → b ≡ get_or xs m b → m ≡ suc n
    → (instant_of a <ℤ instant_of b → ⊥) → Rises (instants_in xs) → ⊥
not_later xs n m a b lt ae be me h r =
    h (rises_at xs r n a b (got_at xs n a (omega (arith, lt)) ae) (got_at xs (suc n) b (omega (arith, lt)) (be ∙ ap (λ i. get_or xs i b) me)))

-- the instants at this place are the same
pub same_here : (xs ys : List item.Item) (n : ℕ) (a b : item.Item) → n < length xs → n < length ys → a ≡ get_or xs n a → b ≡ get_or ys n b
    → instant_of a ≡ instant_of b → (x y : item.Item) → slice_get xs n ≡ Some x → slice_get ys n ≡ Some y → instant_of x ≡ instant_of y
same_here xs ys n a b lx ly ae be h x y g k = ap instant_of (sym (got_here xs n a x lx ae g)) ∙ h ∙ ap instant_of (got_here ys n b y ly be k)

-- instants that differ are told
pub not_same : (xs ys : List item.Item) (n : ℕ) (a b : item.Item) → n < length xs → n < length ys → a ≡ get_or xs n a → b ≡ get_or ys n b
    → (instant_of a ≡ instant_of b → ⊥) → instants_in xs ≡ instants_in ys → ⊥
not_same xs ys n a b lx ly ae be h e = h (same_at xs ys e n a b (got_at xs n a lx ae) (got_at ys n b ly be))

-- A TEST'S ANSWER

-- what is not so is decided by false
pub never : {A : Type 0} → (A → ⊥) → (IsTrue false → A) × (A → IsTrue false)
never h = ((λ t. absurd (let e : false ≡ true = t in cc e)), (λ a. absurd (h a)))

-- what is so is decided by true
pub always : {A : Type 0} → A → (IsTrue true → A) × (A → IsTrue true)
always a = ((λ t. a), (λ b. refl))

-- what is decided by false is not so
pub not_so : {A : Type 0} (b : Bool) → b ≡ false → (IsTrue b → A) × (A → IsTrue b) → A → ⊥
not_so b f h a = let t : b ≡ true = h.1 a in let e : false ≡ true = sym f ∙ t in absurd (cc e)

-- one place more is later than the one before it
pub later_next : (xs : List item.Item) (n m : ℕ) (a b : item.Item) → n + 1 < length xs → a ≡ get_or xs n a → b ≡ get_or xs m b → m ≡ suc n
    → instant_of a <ℤ instant_of b
    → ((i : ℕ) → i + 1 < m → (x y : item.Item) → slice_get xs i ≡ Some x → slice_get xs (suc i) ≡ Some y → instant_of x <ℤ instant_of y)
    → (i : ℕ) → i + 1 < m + 1 → (x y : item.Item) → slice_get xs i ≡ Some x → slice_get xs (suc i) ≡ Some y → instant_of x <ℤ instant_of y
later_next xs n m a b lt ae be me l h i li = ⊎_elim
    (λ below. h i below)
    (λ ge. subst (λ k. (x y : item.Item) → slice_get xs k ≡ Some x → slice_get xs (suc k) ≡ Some y → instant_of x <ℤ instant_of y)
    (let e : n ≡ i = omega (arith, me, ge, li) in e) (later_here xs n m a b lt ae be me l))
    (cases_lt (i + 1) m)

-- THE WHOLE TEST

module _ (p : PlanForm) (ds : List Decl) (ls : List (List item.Item)) (e : ds ≡ p.inputs) (a : AreInputs ds ls) where
  typed : AreInputs p.inputs ls
  typed = subst (λ (x : List Decl). AreInputs x ls) e a

  -- the place of a stream is that of a list
  pub stream_in : (i : ℕ) → IsStreamAt ds (Some i) → i < length ls
  stream_in i s = let w = slice_get_within ds i s.0 s.1 in let l = inputs_many ds ls a in omega (arith, w, l)

  -- where the first stream's instants rise, the others decide
  pub fits_then : (i : ℕ) (xs : List item.Item) (b : Bool) → IsStreamAt ds (Some i) → xs ≡ list_at ls i → Rises (instants_in xs)
      → (IsTrue b → AreInstants ds (instants_in xs) ls) × (AreInstants ds (instants_in xs) ls → IsTrue b) → (IsTrue b → Fit p ls) × (Fit p ls → IsTrue b)
  fits_then i xs b s x r h =
      let s' : IsStreamAt p.inputs (Some i) = subst (λ (y : List Decl). IsStreamAt y (Some i)) e s in (
        (λ t. fit_some p ls i xs typed x r (subst (λ (y : List Decl). AreInstants y (instants_in xs) ls) e (h.0 t))),
        (λ f. h.1 (subst (λ (y : List Decl). AreInstants y (instants_in xs) ls) (sym e) (some_fit p ls i s'.0 xs s'.1 s'.2 x f).1)),
      )

  -- where they do not, nothing fits
  pub fits_else : (i : ℕ) (xs : List item.Item) (b : Bool) → IsStreamAt ds (Some i) → xs ≡ list_at ls i → b ≡ false
      → (IsTrue b → Rises (instants_in xs)) × (Rises (instants_in xs) → IsTrue b) → (IsTrue b → Fit p ls) × (Fit p ls → IsTrue b)
  fits_else i xs b s x f h =
      let s' : IsStreamAt p.inputs (Some i) = subst (λ (y : List Decl). IsStreamAt y (Some i)) e s in (
        (λ t. absurd (let k : false ≡ true = sym f ∙ t in cc k)),
        (λ k. h.1 (some_fit p ls i s'.0 xs s'.1 s'.2 x k).0),
      )

  -- without streams there are no instants to follow
  pub fits_none : IsStreamAt ds None → Fit p ls
  fits_none n = fit_none p ls typed (subst (λ (y : List Decl). NoStream (length y) y) e n)
