-- Types are told apart, and what the inferences of types say where they give something.
use Rattle.std.proofs.Common.{◌≡◌, ℕ, zero, suc, ◌+◌, ◌≤◌, Bool, true, false, ◌&&◌, nat_eq, Option, Some, None, List, [], ◌∷◌, length, refl, sym, ap, ◌∙◌}
use Rattle.std.proofs.Common.{arith}
use Rattle.std.specs.Prelude.{if◌then◌else◌, replicate}
use Rattle.std.specs.List.{list_all}
use Rattle.std.proofs.lemmas.Bool.{true≢false, and_from, and_parts}
use Rattle.std.proofs.lemmas.List.{length-replicate}
use Rattle.std.proofs.lemmas.Option.{same_Some}
use Rattle.river_base.proofs.PlaceLemmas.{if_true}
use Rattle.river_base.proofs.Tests.{eq_by}
use Rattle.river_base.specs.declared.kind.FlatType.{FlatType}
use Rattle.river_base.specs.declared.kind.QueueType.{QueueType}
use Rattle.river_base.specs.declared.kind.FlatType.TheVariants.{Rows, Stream, Relation}
use Rattle.river_base.specs.declared.kind.QueueType.TheVariants.{Flat, Pack}
use Rattle.river_kernels.specs.declared.types.VarKind.{VarKind}
use Rattle.river_kernels.specs.declared.types.Types.{Types}
use Rattle.river_kernels.specs.Fits.{relation}
use Rattle.river_kernels.specs.Types.{given, given_if, bind, on_only_type, on_rows_width, stream_in, relation_in, same_flat, same_type, flats_in, packs_in, two_relations}
use Rattle.river_kernels.specs.Types.{MayAnswer}

-- a number is equal to itself
pub eq_same : (n : ℕ) → nat_eq n n ≡ true
eq_same n = grind arith

-- nothing is not something
pub not_some : {A : Type 0} {x : A} → (None ≡ Some x) → ⊥
not_some {A} {x} h = absurd (cc)

pub flat_same : (t : FlatType) → same_flat t t ≡ true
flat_same (Rows n) = eq_same n
flat_same (Stream n) = eq_same n
flat_same (Relation n) = eq_same n

pub same_flat_is : (t u : FlatType) → same_flat t u ≡ true → t ≡ u
same_flat_is (Rows m) (Rows n) h = ap (λ k. Rows k) (eq_by m n h)
same_flat_is (Rows m) (Stream n) h = absurd (true≢false (sym h))
same_flat_is (Rows m) (Relation n) h = absurd (true≢false (sym h))
same_flat_is (Stream m) (Rows n) h = absurd (true≢false (sym h))
same_flat_is (Stream m) (Stream n) h = ap (λ k. Stream k) (eq_by m n h)
same_flat_is (Stream m) (Relation n) h = absurd (true≢false (sym h))
same_flat_is (Relation m) (Rows n) h = absurd (true≢false (sym h))
same_flat_is (Relation m) (Stream n) h = absurd (true≢false (sym h))
same_flat_is (Relation m) (Relation n) h = ap (λ k. Relation k) (eq_by m n h)

-- a type is equal to itself
pub type_same : (t : QueueType) → same_type t t ≡ true
type_same (Flat t) = flat_same t
type_same (Pack t) = flat_same t

-- types that are found equal are equal
pub same_type_is : (t u : QueueType) → same_type t u ≡ true → t ≡ u
same_type_is (Flat t) (Flat u) h = ap (λ k. Flat k) (same_flat_is t u h)
same_type_is (Flat t) (Pack u) h = absurd (true≢false (sym h))
same_type_is (Pack t) (Flat u) h = absurd (true≢false (sym h))
same_type_is (Pack t) (Pack u) h = ap (λ k. Pack k) (same_flat_is t u h)

-- a list of one type
pub all_same : (t : QueueType) (n : ℕ) → list_all (same_type t) (replicate n t) ≡ true
all_same t zero = refl
all_same t (suc n) = and_from (same_type t t) (list_all (same_type t) (replicate n t)) (type_same t) (all_same t n)

pub all_same_is : (t : QueueType) (ts : List QueueType) → list_all (same_type t) ts ≡ true → ts ≡ replicate (length ts) t
all_same_is t [] h = refl
all_same_is t (u ∷ us) h =
    let p = and_parts (same_type t u) (list_all (same_type t) us) h in
    let e : t ≡ u = same_type_is t u p.0 in
    let f : us ≡ replicate (length us) t = all_same_is t us p.1 in
    λ i. sym e i ∷ f i

-- what is given under a condition
pub gives_if : (b : Bool) (os os' : List QueueType) (vs vs' : List VarKind) → b ≡ true → os' ≡ os → vs' ≡ vs → given_if b os vs ≡ Some (given os' vs')
gives_if true os os' vs vs' h e f = λ i. Some (given (sym e i) (sym f i))
gives_if false os os' vs vs' h e f = absurd (true≢false (sym h))

pub record Gives (b : Bool) (os : List QueueType) (vs : List VarKind) (p : Types) : Type 0 where
  pub holds : b ≡ true
  pub outs : p.outs ≡ os
  pub vars : p.vars ≡ vs

-- what is given under a condition, where it is given
pub gives_some : (b : Bool) (os : List QueueType) (vs : List VarKind) (p : Types) → given_if b os vs ≡ Some p → Gives b os vs p
gives_some true os vs p h =
    let e : given os vs ≡ p = same_Some _ _ h in
    record { holds = refl; outs = sym (ap (λ (q : Types). q.outs) e); vars = sym (ap (λ (q : Types). q.vars) e) }
gives_some false os vs p h = absurd (not_some h)

pub record OneFlat (is : List QueueType) (f : FlatType → Option Types) (p : Types) : Type 0 where
  pub type : FlatType
  pub reads : is ≡ Flat type ∷ []
  pub some : f type ≡ Some p

-- the one flat type that is read
pub flat_some : (is : List QueueType) (f : FlatType → Option Types) (p : Types) → on_only_type is f ≡ Some p → OneFlat is f p
flat_some [] f p h = absurd (not_some h)
flat_some (Flat t ∷ []) f p h = record { type = t; reads = refl; some = h }
flat_some (Pack t ∷ []) f p h = absurd (not_some h)
flat_some (Flat t ∷ u ∷ us) f p h = absurd (not_some h)
flat_some (Pack t ∷ u ∷ us) f p h = absurd (not_some h)

pub record Width (t : FlatType) (of : ℕ → FlatType) (f : ℕ → Option Types) (p : Types) : Type 0 where
  pub width : ℕ
  pub is : t ≡ of width
  pub some : f width ≡ Some p

-- the width of rows
pub rows_some : (t : FlatType) (f : ℕ → Option Types) (p : Types) → on_rows_width t f ≡ Some p → Width t (λ n. Rows n) f p
rows_some (Rows n) f p h = record { width = n; is = refl; some = h }
rows_some (Stream n) f p h = absurd (not_some h)
rows_some (Relation n) f p h = absurd (not_some h)

-- the width of a stream
pub stream_some : (t : FlatType) (f : ℕ → Option Types) (p : Types) → stream_in t f ≡ Some p → Width t (λ n. Stream n) f p
stream_some (Rows n) f p h = absurd (not_some h)
stream_some (Stream n) f p h = record { width = n; is = refl; some = h }
stream_some (Relation n) f p h = absurd (not_some h)

-- the width of a relation
pub relation_some : (t : FlatType) (f : ℕ → Option Types) (p : Types) → relation_in t f ≡ Some p → Width t (λ n. Relation n) f p
relation_some (Rows n) f p h = absurd (not_some h)
relation_some (Stream n) f p h = absurd (not_some h)
relation_some (Relation n) f p h = record { width = n; is = refl; some = h }

-- many queues of one type
pub record Many (n : ℕ) (of : FlatType → QueueType) (is : List QueueType) (f : FlatType → Option Types) (p : Types) : Type 0 where
  pub type : FlatType
  pub reads : is ≡ replicate n (of type)
  pub some : f type ≡ Some p

if_some : {A B : Type 0} (b : Bool) (x : A) (f : A → Option B) (y : B) → bind (if b then Some x else None) f ≡ Some y → (b ≡ true) × (f x ≡ Some y)
if_some true x f y h = (refl, h)
if_some false x f y h = absurd (not_some h)

many_reads : (n : ℕ) (t : QueueType) (ts : List QueueType) → (nat_eq (length ts + 1) n && list_all (same_type t) ts) ≡ true → t ∷ ts ≡ replicate n t
many_reads n t ts h =
    let p = and_parts (nat_eq (length ts + 1) n) (list_all (same_type t) ts) h in
    let e : n ≡ suc (length ts) = omega (arith, eq_by (length ts + 1) n p.0) in
    ap (λ l. t ∷ l) (all_same_is t ts p.1) ∙ sym (ap (λ k. replicate k t) e)

-- the flat type that all ports read
pub flats_some : (n : ℕ) (is : List QueueType) (f : FlatType → Option Types) (p : Types) → flats_in n is f ≡ Some p → Many n (λ t. Flat t) is f p
flats_some n [] f p h = absurd (not_some h)
flats_some n (Flat t ∷ ts) f p h =
    let c = if_some (nat_eq (length ts + 1) n && list_all (same_type (Flat t)) ts) t f p h in
    record { type = t; reads = many_reads n (Flat t) ts c.0; some = c.1 }
flats_some n (Pack t ∷ ts) f p h = absurd (not_some h)

-- the packed type that all ports read
pub packs_some : (n : ℕ) (is : List QueueType) (f : FlatType → Option Types) (p : Types) → packs_in n is f ≡ Some p → Many n (λ t. Pack t) is f p
packs_some n [] f p h = absurd (not_some h)
packs_some n (Flat t ∷ ts) f p h = absurd (not_some h)
packs_some n (Pack t ∷ ts) f p h =
    let c = if_some (nat_eq (length ts + 1) n && list_all (same_type (Pack t)) ts) t f p h in
    record { type = t; reads = many_reads n (Pack t) ts c.0; some = c.1 }

many_test : (m : ℕ) (t : QueueType) → (nat_eq (length (replicate m t) + 1) (suc m) && list_all (same_type t) (replicate m t)) ≡ true
many_test m t =
    let e : length (replicate m t) + 1 ≡ suc m = omega (arith, length-replicate m t) in
    and_from (nat_eq (length (replicate m t) + 1) (suc m)) (list_all (same_type t) (replicate m t)) (ap (λ k. nat_eq k (suc m)) e ∙ eq_same (suc m))
    (all_same t m)

-- ports that read one flat type
pub flats_all : (n : ℕ) (t : FlatType) (f : FlatType → Option Types) → 1 ≤ n → flats_in n (replicate n (Flat t)) f ≡ f t
flats_all zero t f h = absurd (omega arith)
flats_all (suc m) t f h =
    ap (λ o. bind o f) (if_true (nat_eq (length (replicate m (Flat t)) + 1) (suc m) && list_all (same_type (Flat t)) (replicate m (Flat t))) (Some t) None
    (many_test m (Flat t)))

-- ports that read one packed type
pub packs_all : (n : ℕ) (t : FlatType) (f : FlatType → Option Types) → 1 ≤ n → packs_in n (replicate n (Pack t)) f ≡ f t
packs_all zero t f h = absurd (omega arith)
packs_all (suc m) t f h =
    ap (λ o. bind o f) (if_true (nat_eq (length (replicate m (Pack t)) + 1) (suc m) && list_all (same_type (Pack t)) (replicate m (Pack t))) (Some t) None
    (many_test m (Pack t)))

-- two relations
pub record Two (is : List QueueType) (f : ℕ × ℕ → Option Types) (p : Types) : Type 0 where
  pub left : ℕ
  pub right : ℕ
  pub reads : is ≡ relation left ∷ relation right ∷ []
  pub some : f (left, right) ≡ Some p

-- the two relations of a product
pub pair_some : (is : List QueueType) (f : ℕ × ℕ → Option Types) (p : Types) → bind (two_relations is) f ≡ Some p → Two is f p
pair_some [] f p h = absurd (not_some h)
pair_some (t ∷ []) f p h = absurd (not_some h)
pair_some (Flat (Relation a) ∷ Flat (Relation b) ∷ []) f p h = record { left = a; right = b; reads = refl; some = h }
pair_some (Flat (Relation a) ∷ Flat (Rows b) ∷ []) f p h = absurd (not_some h)
pair_some (Flat (Relation a) ∷ Flat (Stream b) ∷ []) f p h = absurd (not_some h)
pair_some (Flat (Relation a) ∷ Pack b ∷ []) f p h = absurd (not_some h)
pair_some (Flat (Rows a) ∷ u ∷ []) f p h = absurd (not_some h)
pair_some (Flat (Stream a) ∷ u ∷ []) f p h = absurd (not_some h)
pair_some (Pack a ∷ u ∷ []) f p h = absurd (not_some h)
pair_some (t ∷ u ∷ v ∷ vs) f p h = absurd (not_some h)

-- what is inferred may be answered
pub found_is : (most : ℕ) (o r : Option Types) → r ≡ o → MayAnswer most o r
found_is most (Some p) (Some r) h = same_Some _ _ h
found_is most (Some p) None h = absurd (not_some h)
found_is most None (Some r) h = absurd (not_some (sym h))
found_is most None None h = tt
