-- What the code of fusion stands on.
use Rattle.std.proofs.Common.{◌≡◌, ℕ, zero, suc, ◌+◌, ◌<◌, ◌≤◌, ◌^◌, true, false, Some, List, [], ◌∷◌, ◌++◌, length, take, drop, get_or, sym, ap, ◌∙◌, subst}
use Rattle.std.proofs.Common.{arith, ⊎_elim, nat_lt}
use Rattle.std.specs.Prelude.{All, Ok, Err, None}
use Rattle.std.proofs.lemmas.Bool.{or_parts, ltb-false, cases_Bool}
use Rattle.river_plan.proofs.ValidLaw.{total-append}
use Rattle.river_base.proofs.PlaceLemmas.{if_lt, if_true, if_false, if_eq}
use Rattle.river_base.specs.Name.{name_eq}
use Rattle.river_kernels.specs.Limits.{nesting}
use Rattle.river_kernels.specs.declared.limit.Limit.TheVariants.{Ports}
use Rattle.river_plan.specs.declared.plan.Decl.{Decl}
use Rattle.river_plan.specs.Forms.{Name, OpForm, PlanForm, decl_names, queue_names}
use Rattle.river_plan.specs.Names.{count, one_if}
use Rattle.river_plan.specs.Uses.{Each, total, writes_it, reads_it}
use Rattle.river_plan.specs.Valid.{IsPlan}
use Rattle.river_plan.proofs.ShareLemmas.{each_back}
use Rattle.plan_edits.specs.Lists.{place_of_name, undeclared, first_with}
use Rattle.rw_local.specs.Fuse.{fused_op, fused_plan, share, is_large, fuse_two, fuse_found, fuse_of}
use Rattle.plan_edits.specs.declared.unfit.Unfit.TheVariants.{U2}
use Rattle.plan_edits.proofs.Surgery.{found}
use Rattle.rw_local.proofs.Types.{flat_each}
use Rattle.rw_local.proofs.FuseLaw.{names_of, fuse_keeps}
use Rattle.rw_local.proofs.FuseSteps.{shares_none}

-- DECLARATIONS

decl_next : (q : Name) (ds : List Decl) (i : ℕ) (d : Decl) → i < length ds → d ≡ get_or ds i d → name_eq d.name q ≡ false → count q (decl_names (take i ds)) ≡ 0
    → count q (decl_names (take (i + 1) ds)) ≡ 0
decl_next q [] i d lt e n z = absurd (omega (arith, lt))
decl_next q (x ∷ ds) zero d lt e n z = let k = ap one_if (sym (ap (λ y. name_eq y.name q) e) ∙ n) in omega (arith, k)
decl_next q (x ∷ ds) (suc i) d lt e n z =
    let k : suc i + 1 ≡ suc (i + 1) = omega arith in
    let r = decl_next q ds i d (omega (arith, lt)) e n (omega (arith, z)) in
    let s = ap (λ m. count q (decl_names (take m (x ∷ ds)))) k in
    omega (arith, r, s, z)

-- a declaration of another name
pub decl_next_at : (q : Name) (ds : List Decl) (i : ℕ) (d : Decl) → i < length ds → d ≡ get_or ds i d → name_eq d.name q ≡ false
    → count q (decl_names (take i ds)) ≡ 0 → count q (decl_names (take (i + 1) ds)) ≡ 0
decl_next_at q ds i d lt e n z = decl_next q ds i d lt e n z

-- a name that is declared
pub decl_there : (q : Name) (ds : List Decl) (i : ℕ) (d : Decl) → i < length ds → d ≡ get_or ds i d → name_eq d.name q ≡ true → 0 < count q (decl_names ds)
decl_there q [] i d lt e t = absurd (omega (arith, lt))
decl_there q (x ∷ ds) zero d lt e t = let k = ap one_if (sym (ap (λ y. name_eq y.name q) e) ∙ t) in omega (arith, k)
decl_there q (x ∷ ds) (suc i) d lt e t = let r = decl_there q ds i d (omega (arith, lt)) e t in omega (arith, r)

-- the place of the declaration
pub decl_at : (q : Name) (ds : List Decl) (i : ℕ) (d : Decl) → i < length ds → d ≡ get_or ds i d → name_eq d.name q ≡ true
    → count q (decl_names (take i ds)) ≡ 0 → i ≡ place_of_name q (decl_names ds)
decl_at q [] i d lt e t z = absurd (omega (arith, lt))
decl_at q (x ∷ ds) zero d lt e t z = sym (if_true (name_eq x.name q) 0 (suc (place_of_name q (decl_names ds))) (sym (ap (λ y. name_eq y.name q) e) ∙ t))
decl_at q (x ∷ ds) (suc i) d lt e t z = ⊎_elim
    (λ c. absurd (let k = ap one_if c in omega (arith, k, z)))
    (λ c. ap suc (decl_at q ds i d (omega (arith, lt)) e t (omega (arith, z))) ∙ sym (if_false (name_eq x.name q) 0 (suc (place_of_name q (decl_names ds))) c))
    (cases_Bool (name_eq x.name q))

-- where there is none, the place is the length
pub decl_past : (q : Name) (ds : List Decl) (i : ℕ) → length ds ≤ i → i ≤ length ds → count q (decl_names (take i ds)) ≡ 0 → i ≡ place_of_name q (decl_names ds)
decl_past q [] i ge le z = omega (arith, le)
decl_past q (x ∷ ds) zero ge le z = absurd (omega (arith, ge))
decl_past q (x ∷ ds) (suc i) ge le z = ⊎_elim
    (λ c. absurd (let k = ap one_if c in omega (arith, k, z)))
    (λ c. ap suc (decl_past q ds i (omega (arith, ge)) (omega (arith, le)) (omega (arith, z)))
    ∙ sym (if_false (name_eq x.name q) 0 (suc (place_of_name q (decl_names ds))) c))
    (cases_Bool (name_eq x.name q))

-- the place of a declaration that is there
pub decl_below : (q : Name) (ds : List Decl) → 0 < count q (decl_names ds) → place_of_name q (decl_names ds) < length ds
decl_below q [] lt = absurd (omega (arith, lt))
decl_below q (x ∷ ds) lt = ⊎_elim
    (λ c. let e = if_true (name_eq x.name q) 0 (suc (place_of_name q (decl_names ds))) c in omega (arith, e))
    (λ c. let e = if_false (name_eq x.name q) 0 (suc (place_of_name q (decl_names ds))) c in let z = ap one_if c in let i =
    decl_below q ds (omega (arith, z, lt)) in omega (arith, e, i))
    (cases_Bool (name_eq x.name q))

-- the declarations without one
pub undeclared_is : (q : Name) (ds : List Decl) (n : ℕ) → 0 < count q (decl_names ds) → n ≡ place_of_name q (decl_names ds)
    → take n ds ++ drop (n + 1) ds ≡ undeclared q ds
undeclared_is q ds n lt e = ap (λ m. take m ds ++ drop (m + 1) ds) e ∙ go ds lt
  where
    go : (xs : List Decl) → 0 < count q (decl_names xs)
        → take (place_of_name q (decl_names xs)) xs ++ drop (place_of_name q (decl_names xs) + 1) xs ≡ undeclared q xs
    go [] l = absurd (omega (arith, l))
    go (x ∷ xs) l = ⊎_elim
        (λ c. ap (λ m. take m (x ∷ xs) ++ drop (m + 1) (x ∷ xs)) (if_true (name_eq x.name q) 0 (suc (place_of_name q (decl_names xs))) c)
        ∙ sym (if_true (name_eq x.name q) xs (x ∷ undeclared q xs) c))
        (λ c.
        let k : suc (place_of_name q (decl_names xs)) + 1 ≡ suc (place_of_name q (decl_names xs) + 1) = omega arith in
        ap (λ m. take m (x ∷ xs) ++ drop (m + 1) (x ∷ xs)) (if_false (name_eq x.name q) 0 (suc (place_of_name q (decl_names xs))) c)
        ∙ ap (λ m. x ∷ (take (place_of_name q (decl_names xs)) xs ++ drop m (x ∷ xs))) k
        ∙ ap (λ m. x ∷ m) (go xs (let z = ap one_if c in omega (arith, z, l))) ∙ sym (if_false (name_eq x.name q) xs (x ∷ undeclared q xs) c))
        (cases_Bool (name_eq x.name q))

-- OPERATORS

module _ (p : PlanForm) (q : Name) (w r : OpForm) (v : IsPlan p) (hw : first_with (writes_it q) p.ops ≡ Some w)
    (hr : first_with (reads_it q) p.ops ≡ Some r) where
  -- the writer writes the queue
  pub writes_there : 0 < count q w.writes
  writes_there = (found (writes_it q) p.ops w hw).has

  written : 0 < total (writes_it q) p.ops
  written =
      let f = found (writes_it q) p.ops w hw in let a = ap (total (writes_it q)) f.is ∙ total-append (writes_it q) f.before (w ∷ f.behind) in let b = f.has in
      omega (arith, a, b)

  read : 0 < total (reads_it q) p.ops
  read =
      let f = found (reads_it q) p.ops r hr in let a = ap (total (reads_it q)) f.is ∙ total-append (reads_it q) f.before (r ∷ f.behind) in let b = f.has in
      omega (arith, a, b)

  -- the queue is neither an input nor an output
  pub declared_there : 0 < count q (decl_names p.queues)
  declared_there =
      let a = v.writes_declared q written in
      let b = v.written_once q in
      let d = v.read_once q in
      let f = names_of (decl_names p.outputs) (decl_names p.inputs) (decl_names p.queues) q in
      let g = written in
      let k = read in
      omega (arith, a, b, d, f, g, k)

  -- as few outputs as a plan may have
  pub few : length w.writes < 2 ^ 32
  few =
      let f = found (writes_it q) p.ops w hw in
      let a = each_back (λ op. All (λ n. n ≤ 64) (length op.reads ∷ length op.writes ∷ [])) f.before (w ∷ f.behind)
      (subst (Each (λ op. All (λ n. n ≤ 64) (length op.reads ∷ length op.writes ∷ []))) f.is
      (flat_each (λ op. length op.reads ∷ length op.writes ∷ []) (λ n. n ≤ 64) p.ops (v.within Ports))) in
      let b = a.0 1 0 (omega arith) in
      omega (arith, b)

  -- the new lists are valid
  pub fused_valid : length r.reads ≡ 1 → is_large (fused_op q w r) ≡ false → share w.vars r.vars ≡ false → IsPlan (fused_plan p q w r)
  fused_valid one small none =
      let l = or_parts (nat_lt 32 (nesting (fused_op q w r).kernel)) (nat_lt 64 (length (fused_op q w r).writes)) small in
      (fuse_keeps p q w r v (record {
        writer = hw;
        reader = hr;
        only_input = one;
        nested = ltb-false 32 (nesting (fused_op q w r).kernel) l.0;
        ports = ltb-false 64 (length (fused_op q w r).writes) l.1;
        apart = shares_none w.vars r.vars none;
      })).0

-- a name among the queues of a plan
pub in_any : (p : PlanForm) (q : Name)
    → (0 < count q (decl_names p.outputs) + (count q (decl_names p.inputs) + count q (decl_names p.queues)) → 0 < count q (queue_names p))
    × (0 < count q (queue_names p) → 0 < count q (decl_names p.outputs) + (count q (decl_names p.inputs) + count q (decl_names p.queues)))
in_any p q =
    let a = names_of (decl_names p.outputs) (decl_names p.inputs) (decl_names p.queues) q in
    ((λ lt. omega (arith, a, lt)), (λ lt. omega (arith, a, lt)))

-- where all conditions hold, the step is accepted
pub two_ok : (p : PlanForm) (q : Name) (w r : OpForm) → length r.reads ≡ 1 → is_large (fused_op q w r) ≡ false → share w.vars r.vars ≡ false
    → fuse_two p q w r ≡ Ok (fused_plan p q w r)
two_ok p q w r one small none = if_eq (length r.reads) 1 _ _ one ∙ if_false (is_large (fused_op q w r)) _ _ small ∙ if_false (share w.vars r.vars) _ _ none

-- the step at a queue is that of its writer and its reader
pub fuse_found_two : (p : PlanForm) (q : Name) (w r : OpForm) → 0 < count q (queue_names p) → first_with (writes_it q) p.ops ≡ Some w
    → first_with (reads_it q) p.ops ≡ Some r → fuse_of p q ≡ fuse_two p q w r
fuse_found_two p q w r lt hw hr =
    if_lt 0 (count q (queue_names p)) _ _ lt ∙ ap (λ o. fuse_found p q o (first_with (reads_it q) p.ops)) hw ∙ ap (fuse_found p q (Some w)) hr

-- its writer or its reader is not there
pub no_writer : (p : PlanForm) (q : Name) → 0 < count q (queue_names p) → first_with (writes_it q) p.ops ≡ None → fuse_of p q ≡ Err U2
no_writer p q lt hw = if_lt 0 (count q (queue_names p)) _ _ lt ∙ ap (λ o. fuse_found p q o (first_with (reads_it q) p.ops)) hw

-- a queue that nobody reads is not fused at
pub no_reader : (p : PlanForm) (q : Name) (w : OpForm) → 0 < count q (queue_names p) → first_with (writes_it q) p.ops ≡ Some w
    → first_with (reads_it q) p.ops ≡ None → fuse_of p q ≡ Err U2
no_reader p q w lt hw hr =
    if_lt 0 (count q (queue_names p)) _ _ lt ∙ ap (λ o. fuse_found p q o (first_with (reads_it q) p.ops)) hw ∙ ap (fuse_found p q (Some w)) hr
