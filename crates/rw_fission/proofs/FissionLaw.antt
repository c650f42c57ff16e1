-- Fission keeps a plan valid, and what it means.
use Rattle.std.proofs.Common.{◌≡◌, ℕ, ◌<◌, Some, List, [], ◌∷◌, sym, subst, arith, ⊎_elim, Bool, true, ◌&&◌, ◌≤◌, refl, ap}
use Rattle.std.specs.Prelude.{All, nat_le, Ok}
use Rattle.std.specs.List.{list_all}
use Rattle.std.proofs.lemmas.Bool.{and_parts, and_from}
use Rattle.river_kernels.specs.declared.limit.Limit.{Limit}
use Rattle.river_kernels.specs.declared.limit.Limit.TheVariants.{Inputs, Operators, Queues, Variables, Ports, Statements, Slots, Rates, Weights, Nesting}
use Rattle.river_kernels.specs.declared.limit.Limit.TheVariants.{Latest, Best}
use Rattle.river_plan.specs.Forms.{queue_names, variable_names, labels, Name, OpForm, PlanForm, all_decls}
use Rattle.river_plan.specs.Limits.{most_of, numbers, limits}
use Rattle.river_plan.specs.Names.{count, one_if}
use Rattle.river_plan.specs.Uses.{named_it}
use Rattle.river_plan.proofs.NameLemmas.{cases_name, more_or_zero}
use Rattle.std.proofs.lemmas.List.Elements.{All-nil, All-cons, All-head, All-tail}
use Rattle.river_plan.proofs.ValidLaw.{total-labels}
use Rattle.river_base.specs.Held.{HasType}
use Rattle.river_base.specs.declared.item.Item as item
use Rattle.river_base.specs.declared.kind.FlatType.{FlatType}
use Rattle.river_base.specs.declared.kind.QueueType.{QueueType}
use Rattle.river_base.specs.declared.kind.QueueType.TheVariants.{Flat}
use Rattle.river_kernels.specs.Fits.{rows}
use Rattle.river_plan.specs.Kinds.{kind_of}
use Rattle.river_plan.specs.Valid.{IsPlan}
use Rattle.brooklet_model.specs.Histories.{hist}
use Rattle.rw_fission.specs.Fission.{Way, split_by, by_packs, by_blocks, by_adds}
use Rattle.plan_edits.specs.Lists.{first_with}
use Rattle.plan_edits.specs.Meaning.{SameOuter, SameMeaning}
use Rattle.plan_edits.proofs.MeaningSame.{AreTypedHistories}
use Rattle.brooklet_model.proofs.TypedPlan.{typed_law}
use Rattle.plan_edits.proofs.MeaningSame.{meaning_same}
use Rattle.rw_fission.specs.Asked.{fission_of}
use Rattle.rw_fission.specs.Laws.{FissionKeeps, FissionApart}
use Rattle.rw_fission.specs.Made.{FissionNames, made_of}
use Rattle.rw_fission.specs.May.{is_apart, is_within, stand_once}
use Rattle.rw_fission.proofs.ApartPlan.{IsApartPlan}
use Rattle.rw_fission.proofs.Accepted.{accepted, IsPacks, IsBlocks, IsAdds, IsWay, way_is}
use Rattle.rw_fission.proofs.ByAdds as adding
use Rattle.rw_fission.proofs.ByBlocks as blocking
use Rattle.rw_fission.proofs.ByPacks as packing
use Rattle.rw_fission.proofs.Flatness.{gives_flat, typed_flat}
use Rattle.rw_fission.proofs.Packs.{GivesFlat}
use Rattle.rw_fission.proofs.SplitLaw as law
use Rattle.rw_fission.proofs.SplitValid as split

-- WHAT STANDS ONCE

all_once : (ws vs : List Name) → list_all (λ w. nat_le (count w ws) 1) vs ≡ true → (q : Name) → 0 < count q vs → count q ws ≤ 1
all_once ws [] h q lt = absurd (omega (arith, lt))
all_once ws (v ∷ vs) h q lt =
    let a = and_parts (nat_le (count v ws) 1) (list_all (λ w. nat_le (count w ws) 1) vs) h in
    let first : count v ws ≤ 1 = grind (arith, a.0) in
    ⊎_elim
    (λ c. subst (λ y. count y ws ≤ 1) c.0 first)
    (λ c. all_once ws vs a.1 q (let e = ap one_if c.1 in omega (arith, lt, e)))
    (cases_name v q)

once_all : (ws vs : List Name) → ((q : Name) → count q ws ≤ 1) → list_all (λ w. nat_le (count w ws) 1) vs ≡ true
once_all ws [] h = refl
once_all ws (v ∷ vs) h = and_from (nat_le (count v ws) 1) (list_all (λ w. nat_le (count w ws) 1) vs) (let a = h v in grind (arith, a)) (once_all ws vs h)

once_is : (ws : List Name) → stand_once ws ≡ true → (q : Name) → count q ws ≤ 1
once_is ws h q = ⊎_elim (λ lt. all_once ws ws h q lt) (λ z. omega (arith, z)) (more_or_zero (count q ws))

all_below : (m : ℕ) (ks : List ℕ) → list_all (λ k. nat_le k m) ks ≡ true → All (λ k. k ≤ m) ks
all_below m [] h = All-nil (λ k. k ≤ m)
all_below m (k ∷ ks) h =
    let a = and_parts (nat_le k m) (list_all (λ j. nat_le j m) ks) h in All-cons (λ j. j ≤ m) k ks (grind (arith, a.0)) (all_below m ks a.1)

below_all : (m : ℕ) (ks : List ℕ) → All (λ k. k ≤ m) ks → list_all (λ k. nat_le k m) ks ≡ true
below_all m [] h = refl
below_all m (k ∷ ks) h =
    and_from (nat_le k m) (list_all (λ j. nat_le j m) ks) (let a = All-head (λ j. j ≤ m) k ks h in grind (arith, a))
    (below_all m ks (All-tail (λ j. j ≤ m) k ks h))

-- each limit is in the list of all
pub limit_in : (t : Limit → Bool) → list_all t limits ≡ true → (limit : Limit) → t limit ≡ true
limit_in t h Inputs = grind (arith, h)
limit_in t h Operators = grind (arith, h)
limit_in t h Queues = grind (arith, h)
limit_in t h Variables = grind (arith, h)
limit_in t h Ports = grind (arith, h)
limit_in t h Statements = grind (arith, h)
limit_in t h Slots = grind (arith, h)
limit_in t h Rates = grind (arith, h)
limit_in t h Weights = grind (arith, h)
limit_in t h Nesting = grind (arith, h)
limit_in t h Latest = grind (arith, h)
limit_in t h Best = grind (arith, h)

all_limits : (t : Limit → Bool) (ls : List Limit) → ((limit : Limit) → t limit ≡ true) → list_all t ls ≡ true
all_limits t [] h = refl
all_limits t (x ∷ xs) h = and_from (t x) (list_all t xs) (h x) (all_limits t xs h)

-- what the tests of a result say
pub apart_is : (p : PlanForm) → is_apart p ≡ true → IsApartPlan p
apart_is p h =
    let rest2 = stand_once (labels p.ops) && list_all (is_within p) limits in
    let a = and_parts (stand_once (queue_names p)) (stand_once (variable_names p) && rest2) h in
    let b = and_parts (stand_once (variable_names p)) rest2 a.1 in
    let c = and_parts (stand_once (labels p.ops)) (list_all (is_within p) limits) b.1 in
    record {
      queues_once = once_is (queue_names p) a.0;
      variables_once = once_is (variable_names p) b.0;
      labels_once = λ k. let i = once_is (labels p.ops) c.0 k in let e = total-labels k p.ops in omega (arith, i, e);
      within = λ limit. all_below (most_of limit) (numbers limit p) (limit_in (is_within p) c.1 limit);
    }

-- a valid plan passes these tests
pub is_apart_of : (p : PlanForm) → IsPlan p → is_apart p ≡ true
is_apart_of p v =
    let rest2 = stand_once (labels p.ops) && list_all (is_within p) limits in
    and_from (stand_once (queue_names p)) (stand_once (variable_names p) && rest2) (once_all (queue_names p) (queue_names p) v.queues_once)
    (and_from (stand_once (variable_names p)) rest2 (once_all (variable_names p) (variable_names p) v.variables_once)
    (and_from (stand_once (labels p.ops)) (list_all (is_within p) limits)
    (once_all (labels p.ops) (labels p.ops) (λ k. let i = v.labels_once k in let e = total-labels k p.ops in omega (arith, i, e)))
    (all_limits (is_within p) limits (λ limit. below_all (most_of limit) (numbers limit p) (v.within limit)))))

-- ITEMS

each_good : (P Q : item.Item → Type 0) (xs : List item.Item) → ((x : item.Item) → P x → Q x) → All P xs → All Q xs
each_good P Q [] f h = All-nil Q
each_good P Q (x ∷ xs) f h = All-cons Q x xs (f x (All-head P x xs h)) (each_good P Q xs f (All-tail P x xs h))

any_good : (xs : List item.Item) → All (λ x. Unit {0}) xs
any_good [] = All-nil (λ x. Unit {0})
any_good (x ∷ xs) = All-cons (λ x. Unit {0}) x xs tt (any_good xs)

-- THE RESULT OF A FORM IS VALID, AND MEANS THE SAME

abbrev pub Keeps : PlanForm → PlanForm → Type 0
Keeps p p' = IsPlan p' × SameOuter p p' × ((inputs : List (List item.Item)) → AreTypedHistories p inputs → SameMeaning p p' inputs)

module _ (p : PlanForm) (l : Name) (op : OpForm) (n : ℕ) (source : Name) (v : IsPlan p) (here : first_with (named_it l) p.ops ≡ Some op) (some : 0 < n) where
  abbrev m : FissionNames
  m = made_of l

  by_packs_keeps : (t : FlatType) (w : Way) → IsPacks p op m n source t w → IsApartPlan (split_by p l op m n (Flat t) w)
      → Keeps p (split_by p l op m n (Flat t) w)
  by_packs_keeps t w k =
      subst (λ x. IsApartPlan (split_by p l op m n (Flat t) x) → Keeps p (split_by p l op m n (Flat t) x)) (sym k.is) (λ a.
      let s = packing.splits_packs p l op m n source k.out t k.type v here some k.may a in
      let ft = packing.fit p l op m n source k.out t k.type v here some k.may in
      let none = packing.no_privates p l op m n source k.out t k.type v here some k.may in (
        split.valid (GivesFlat op.kernel) p l op m n source (Flat t) (by_packs p op m n k.type) v here s,
        record { outputs = refl; inputs = refl; tables = refl },
        λ inputs i. law.same_meaning (GivesFlat op.kernel) p l op m n source (Flat t) (by_packs p op m n k.type) v here s inputs
            (each_good (HasType (Flat t)) (GivesFlat op.kernel) (hist p inputs source)
            (λ x h. gives_flat op.kernel (Flat t ∷ []) k.type [] x ft none (typed_flat t x h))
            (subst (λ q. All (HasType q) (hist p inputs source)) k.may.kind_in (i source))),
      ))

  by_blocks_keeps : (w : Way) → IsBlocks p op m n source w → IsApartPlan (split_by p l op m n (rows 1) w) → Keeps p (split_by p l op m n (rows 1) w)
  by_blocks_keeps w k =
      subst (λ x. IsApartPlan (split_by p l op m n (rows 1) x) → Keeps p (split_by p l op m n (rows 1) x)) (sym k.is) (λ a.
      let s = blocking.splits_blocks p l op m n source k.form v here some k.may a in (
        split.valid (λ x. Unit {0}) p l op m n source (rows 1) (by_blocks p op m n k.form.pop k.form.push) v here s,
        record { outputs = refl; inputs = refl; tables = refl },
        λ inputs i. law.same_meaning (λ x. Unit {0}) p l op m n source (rows 1) (by_blocks p op m n k.form.pop k.form.push) v here s inputs
            (any_good (hist p inputs source)),
      ))

  by_adds_keeps : (t : FlatType) (w : Way) → IsAdds p op m source t w → IsApartPlan (split_by p l op m n (Flat t) w) → Keeps p (split_by p l op m n (Flat t) w)
  by_adds_keeps t w k =
      subst (λ x. IsApartPlan (split_by p l op m n (Flat t) x) → Keeps p (split_by p l op m n (Flat t) x)) (sym k.is) (λ a.
      let s = adding.splits_adds p l op m n source t v here some k.may a in (
        split.valid (λ x. Unit {0}) p l op m n source (Flat t) (by_adds p op m) v here s,
        record { outputs = refl; inputs = refl; tables = refl },
        λ inputs i. law.same_meaning (λ x. Unit {0}) p l op m n source (Flat t) (by_adds p op m) v here s inputs (any_good (hist p inputs source)),
      ))

  -- whatever the way, a result that passes the tests is valid, and means the same
  pub way_keeps : (w : Way) → IsWay p op m n source w → IsApartPlan (split_by p l op m n (kind_of (all_decls p) source) w)
      → Keeps p (split_by p l op m n (kind_of (all_decls p) source) w)
  way_keeps w k a = ⊎_elim
      (λ s. by_type (Flat k.type) k.kind (by_packs_keeps k.type w s))
      (λ r. ⊎_elim
      (λ s. by_type (rows 1) (blocking.kind_in p l op m n source s.form v here some s.may) (by_blocks_keeps w s))
      (λ s. by_type (Flat k.type) k.kind (by_adds_keeps k.type w s)) r)
      k.one
    where
      by_type : (t : QueueType) → kind_of (all_decls p) source ≡ t → (IsApartPlan (split_by p l op m n t w) → Keeps p (split_by p l op m n t w))
          → Keeps p (split_by p l op m n (kind_of (all_decls p) source) w)
      by_type t e f = subst (λ q. IsApartPlan (split_by p l op m n q w) → Keeps p (split_by p l op m n q w)) (sym e) f a

-- fission keeps a plan valid, and all its histories and rows, where all items are of their queues' types
pub fission_same : (p p' : PlanForm) (l : Name) (n : ℕ) → IsPlan p → fission_of p l n ≡ Ok p' → Keeps p p'
fission_same p p' l n v h =
    let c = accepted p l n p' h in
    let some : 0 < n = (let a = c.many in omega (arith, a)) in
    subst (Keeps p) (sym c.is)
    (way_keeps p l c.op n c.source v c.here some c.way (way_is p c.op (made_of l) n c.source c.way c.reads c.way_is) (apart_is _ c.apart))

-- the law of fission
pub fission_keeps : FissionKeeps
fission_keeps p p' l n v h =
    let k = fission_same p p' l n v h in (k.0, k.1, λ inputs a. meaning_same p p' inputs k.1 (k.2 inputs (typed_law p inputs v a)))

-- the last condition is exact
pub fission_apart : FissionApart
fission_apart p l n op source w v here r some e = (
  (λ a. (way_keeps p l op n source v here some w (way_is p op (made_of l) n source w r e) (apart_is _ a)).0),
  (λ u. is_apart_of _ u),
)
