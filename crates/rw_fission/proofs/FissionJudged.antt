-- What fission answers, by its conditions.
use Rattle.std.proofs.Common.{◌≡◌, ℕ, zero, suc, ◌+◌, ◌-◌, ◌<◌, ◌≤◌, ◌⊎◌, inl, inr, Bool, true, false, ◌&&◌, Option, Some, None, List, [], ◌∷◌, ◌++◌}
use Rattle.std.proofs.Common.{length, refl, sym, ap, ◌∙◌, subst, arith, ⊎_elim}
use Rattle.std.proofs.Common.{length-append}
use Rattle.std.specs.Prelude.{Result, nat_le, slice_get}
use Rattle.std.specs.List.{list_all}
use Rattle.std.proofs.lemmas.Bool.{and_parts, and_cases, leb-true, leb-false, cases_Bool}
use Rattle.std.proofs.lemmas.List.{map-append}
use Rattle.std.proofs.lemmas.Option.{same_Some, none-some}
use Rattle.river_base.proofs.Lists.{alone_same, each_passes}
use Rattle.river_plan.proofs.ValidLaw.{total-append}
use Rattle.river_base.proofs.PlaceLemmas.{if_lt}
use Rattle.river_base.specs.Name.{name_eq}
use Rattle.river_kernels.specs.Kern.{Kern}
use Rattle.river_base.specs.declared.kind.QueueType.{QueueType}
use Rattle.river_plan.specs.Forms.{Name, OpForm, PlanForm, all_decls, queue_names, variable_names, labels}
use Rattle.river_plan.specs.Kinds.{kind_of}
use Rattle.river_plan.specs.Limits.{most_of, numbers, limits}
use Rattle.river_plan.specs.Names.{count, one_if}
use Rattle.river_plan.specs.Uses.{total, named_it}
use Rattle.river_plan.specs.Valid.{IsPlan}
use Rattle.river_plan.proofs.NameLemmas.{cases_name, name_is, name_same, count-append, one_same}
use Rattle.plan_edits.specs.declared.unfit.Unfit.{Unfit}
use Rattle.plan_edits.specs.declared.unfit.Unfit.TheVariants.{U1, U2, U3, U4, U5, H1, H2, H3, H4, N1, N2, N3, N4, N5, NoMemory}
use Rattle.plan_edits.specs.Judged.{rank, IsJudgedBy}
use Rattle.plan_edits.specs.Lists.{first_with, swapped}
use Rattle.plan_edits.proofs.Judging.{rank_most, judged_law, by_if}
use Rattle.plan_edits.proofs.Surgery.{first_past, found}
use Rattle.rw_fission.proofs.Swap.{swapped_past}
use Rattle.rw_fission.specs.Asked.{all_made, are_short, way_of, by_way, by_reads, by_op, fission_of}
use Rattle.rw_fission.specs.Code.{longest}
use Rattle.rw_fission.specs.Fission.{Way, replica_op, each_op, joiner_ops, split_ops, split_by}
use Rattle.rw_fission.specs.Made.{FissionNames, made_of, each_name, digits}
use Rattle.rw_fission.specs.May.{is_apart, is_within, stand_once}
use Rattle.rw_fission.specs.Splits.{given_names}
use Rattle.rw_fission.specs.Splitting.{IsLabelled, SplitsBy, IsSplitInto, IsAboveLimit, HasTwice, all_made_names, HasLong, FissionFails, FissionIsJudged}
use Rattle.rw_fission.proofs.ByBlocks as blocking
use Rattle.rw_fission.proofs.FissionLaw.{limit_in}
use Rattle.rw_fission.proofs.FormJudged.{WayJudged, way_judged, one_way}
use Rattle.rw_fission.proofs.MadeNames.{all_both, all_parts, fits_64, digits_length, short_is}

-- TESTS OF LISTS

some_fails : {A : Type 0} (t : A → Bool) (xs : List A) → list_all t xs ≡ false → (i : ℕ) × (x : A) × (slice_get xs i ≡ Some x) × (t x ≡ false)
some_fails t [] h = absurd (cc h)
some_fails t (x ∷ xs) h = ⊎_elim
    (λ e. (0, x, refl, e))
    (λ e. let r = some_fails t xs e in (suc r.0, r.1, r.2, r.3))
    (and_cases (t x) (list_all t xs) h)

name_passes : (t : Name → Bool) (ws : List Name) (q : Name) → list_all t ws ≡ true → 0 < count q ws → t q ≡ true
name_passes t [] q h lt = absurd (omega (arith, lt))
name_passes t (w ∷ ws) q h lt =
    let a = and_parts (t w) (list_all t ws) h in ⊎_elim
    (λ c. ap t (sym c.0) ∙ a.0)
    (λ c. name_passes t ws q a.1 (let e = ap one_if c.1 in omega (arith, lt, e)))
    (cases_name w q)

-- a name stands twice
twice : (ws : List Name) → stand_once ws ≡ false → (x : Name) × (1 < count x ws)
twice ws h = let r = some_fails (λ w. nat_le (count w ws) 1) ws h in (r.1, leb-false (count r.1 ws) 1 r.3)

once : (ws : List Name) (x : Name) → stand_once ws ≡ true → 1 < count x ws → ⊥
once ws x h lt =
    let e = name_passes (λ w. nat_le (count w ws) 1) ws x h (omega (arith, lt)) in
    let le = leb-true (count x ws) 1 e in
    omega (arith, lt, le)

over : (r : PlanForm) → list_all (is_within r) limits ≡ false → IsAboveLimit r
over r h =
    let a = some_fails (is_within r) limits h in
    let b = some_fails (λ k. nat_le k (most_of a.1)) (numbers a.1 r) a.3 in
    (a.1, b.0, b.1, b.2, leb-false b.1 (most_of a.1) b.3)

-- what the test of a result says
apart_fails : (r : PlanForm) → is_apart r ≡ false → IsAboveLimit r ⊎ HasTwice r
apart_fails r h = ⊎_elim
    (λ e. let x = twice (queue_names r) e in inr (x.0, inl x.1))
    (λ e. ⊎_elim
    (λ d. let x = twice (variable_names r) d in inr (x.0, inr (inl x.1)))
    (λ d. ⊎_elim
    (λ c. let x = twice (labels r.ops) c in inr (x.0, inr (inr x.1)))
    (λ c. inl (over r c))
    (and_cases (stand_once (labels r.ops)) (list_all (is_within r) limits) d))
    (and_cases (stand_once (variable_names r)) (stand_once (labels r.ops) && list_all (is_within r) limits) e))
    (and_cases (stand_once (queue_names r)) (stand_once (variable_names r) && (stand_once (labels r.ops) && list_all (is_within r) limits)) h)

not_over : (r : PlanForm) → is_apart r ≡ true → IsAboveLimit r → ⊥
not_over r h o =
    let a = and_parts (stand_once (queue_names r)) (stand_once (variable_names r) && (stand_once (labels r.ops) && list_all (is_within r) limits)) h in
    let b = and_parts (stand_once (variable_names r)) (stand_once (labels r.ops) && list_all (is_within r) limits) a.1 in
    let c = and_parts (stand_once (labels r.ops)) (list_all (is_within r) limits) b.1 in
    let d = each_passes (λ k. nat_le k (most_of o.0)) (numbers o.0 r) o.1 o.2 (limit_in (is_within r) c.1 o.0) o.3 in
    let le = leb-true o.2 (most_of o.0) d in
    let lt = o.4 in
    omega (arith, le, lt)

not_twice : (r : PlanForm) → is_apart r ≡ true → HasTwice r → ⊥
not_twice r h o =
    let a = and_parts (stand_once (queue_names r)) (stand_once (variable_names r) && (stand_once (labels r.ops) && list_all (is_within r) limits)) h in
    let b = and_parts (stand_once (variable_names r)) (stand_once (labels r.ops) && list_all (is_within r) limits) a.1 in
    let c = and_parts (stand_once (labels r.ops)) (list_all (is_within r) limits) b.1 in
    ⊎_elim
    (λ lt. once (queue_names r) o.0 a.0 lt)
    (λ s. ⊎_elim (λ lt. once (variable_names r) o.0 b.0 lt) (λ lt. once (labels r.ops) o.0 c.0 lt) s)
    o.1

-- NAMES

-- the names of the replicas are among those that are made
each_labels : (f : ℕ → OpForm) (g : ℕ → Name) (n : ℕ) → ((i : ℕ) → (f i).label ≡ g i) → labels (each_op f n) ≡ each_name g n
each_labels f g zero e = refl
each_labels f g (suc n) e =
    ap (λ x. x ∷ labels (each_op (λ i. f (suc i)) n)) (e 0) ∙ ap (λ xs. g 0 ∷ xs) (each_labels (λ i. f (suc i)) (λ i. g (suc i)) n (λ i. e (suc i)))

each_count : (f : ℕ → Name) (n i : ℕ) → i < n → 0 < count (f i) (each_name f n)
each_count f zero i lt = absurd (omega (arith, lt))
each_count f (suc n) zero lt = let s = one_same (f 0) in omega (arith, s)
each_count f (suc n) (suc i) lt = let r = each_count (λ j. f (suc j)) n i (omega (arith, lt)) in omega (arith, r)

module _ (l : Name) (n : ℕ) (op : OpForm) (w : Way) (some : 1 ≤ n) where
  abbrev m : FissionNames
  m = made_of l

  abbrev rest : List Name
  rest = each_name m.dealt n ++ (given_names m.given n w.join ++ w.new)

  -- where the longest is too long, a name that is made is
  long_name : are_short (all_made m n) ≡ false → HasLong (all_made_names op m n w)
  long_name h =
      let e : nat_le (length l + longest n) 64 ≡ false = short_is l n (length l) (longest n) some refl refl ∙ h in
      let gt = leb-false (length l + longest n) 64 e in
      let x = m.dealt (n - 1) in
      let there = each_count m.dealt n (n - 1) (omega (arith, some)) in
      let a = count-append x (labels (split_ops op m n w)) rest in
      let b = count-append x (each_name m.dealt n) (given_names m.given n w.join ++ w.new) in
      let c = length-append l (64 ∷ 97 ∷ digits (n - 1 + 1)) in
      let d = digits_length (n - 1 + 1) in
      let f : longest (n - 1 + 1) ≡ longest n = ap longest (let z : n - 1 + 1 ≡ n = omega (arith, some) in z) in
      (x, omega (arith, there, a, b), omega (arith, gt, c, d, f))

  -- the names of the joiner
  joined_short : (j : Option (Kern × QueueType)) → fits_64 m.joiner ≡ true → list_all fits_64 (labels (joiner_ops op m n j)) ≡ true
  joined_short None h = refl
  joined_short (Some j) h = ap (λ b. b && true) h

  given_short : (j : Option (Kern × QueueType)) → list_all fits_64 (each_name m.given n) ≡ true → list_all fits_64 (given_names m.given n j) ≡ true
  given_short None h = refl
  given_short (Some j) h = h

  -- where all are short that can be made, all are that are
  no_long : ((fits_64 m.splitter ≡ true) → (fits_64 m.joiner ≡ true) → (list_all fits_64 (each_name m.replica n) ≡ true) → list_all fits_64 w.new ≡ true)
      → are_short (all_made m n) ≡ true → HasLong (all_made_names op m n w) → ⊥
  no_long new h o =
      let more = each_name m.replica n ++ (each_name m.dealt n ++ each_name m.given n) in
      let a = and_parts (fits_64 m.splitter) (fits_64 m.joiner && list_all fits_64 more) h in
      let b = and_parts (fits_64 m.joiner) (list_all fits_64 more) a.1 in
      let c = all_parts fits_64 (each_name m.replica n) (each_name m.dealt n ++ each_name m.given n) b.1 in
      let d = all_parts fits_64 (each_name m.dealt n) (each_name m.given n) c.1 in
      let replicas = each_op (replica_op w m) n in
      let ls : labels (replicas ++ joiner_ops op m n w.join) ≡ each_name m.replica n ++ labels (joiner_ops op m n w.join) =
      map-append (λ (x : OpForm). x.label) replicas (joiner_ops op m n w.join)
      ∙ ap (λ xs. xs ++ labels (joiner_ops op m n w.join)) (each_labels (replica_op w m) m.replica n (λ i. refl)) in
      let behind = ap (list_all fits_64) ls ∙ all_both fits_64 (each_name m.replica n) (labels (joiner_ops op m n w.join)) c.0 (joined_short w.join b.0) in
      let front : list_all fits_64 (labels (split_ops op m n w)) ≡ true =
      ap (λ t. t && list_all fits_64 (labels (replicas ++ joiner_ops op m n w.join))) a.0 ∙ behind in
      let all = all_both fits_64 (labels (split_ops op m n w)) rest front
      (all_both fits_64 (each_name m.dealt n) (given_names m.given n w.join ++ w.new) d.0
      (all_both fits_64 (given_names m.given n w.join) w.new (given_short w.join d.1) (new a.0 b.0 c.0))) in
      let le = leb-true (length o.0) 64 (name_passes fits_64 (all_made_names op m n w) o.0 all o.1) in
      let lt = o.2 in
      omega (arith, le, lt)

-- the new variables have names that can be made
new_short : (p : PlanForm) (l : Name) (op : OpForm) (n : ℕ) (source : Name) (w : Way) → SplitsBy p op (made_of l) n source w
    → fits_64 (made_of l).splitter ≡ true
    → fits_64 (made_of l).joiner ≡ true
    → list_all fits_64 (each_name (made_of l).replica n) ≡ true
    → list_all fits_64 w.new ≡ true
new_short p l op n source w t a b c =
    let two : list_all fits_64 ((made_of l).splitter ∷ (made_of l).joiner ∷ []) ≡ true = ap (λ x. x && (fits_64 (made_of l).joiner && true)) a
    ∙ ap (λ x. x && true) b in
    let one : list_all fits_64 ((made_of l).splitter ∷ []) ≡ true = ap (λ x. x && true) a in
    let last : list_all fits_64 ((made_of l).joiner ∷ []) ≡ true = ap (λ x. x && true) b in
    ⊎_elim
    (λ x. ap (λ (u : Way). list_all fits_64 u.new) x.4 ∙ two)
    (λ r. ⊎_elim
    (λ x. ap (λ (u : Way). list_all fits_64 u.new) x.3
    ∙ ap (λ y. y && list_all fits_64 (each_name (made_of l).replica n ++ (made_of l).joiner ∷ [])) a
    ∙ all_both fits_64 (each_name (made_of l).replica n) ((made_of l).joiner ∷ []) c last)
    (λ x. ap (λ (u : Way). list_all fits_64 u.new) x.3 ∙ one)
    r)
    t

two_one : (a b c : Name) (cs : List Name) → a ∷ b ∷ cs ≡ c ∷ [] → ⊥
two_one a b c cs h = cc h

none_one : (c : Name) → [] ≡ c ∷ [] → ⊥
none_one c h = cc h

module _ (p : PlanForm) (l : Name) (n : ℕ) (v : IsPlan p) where
  abbrev Fails : Unfit → Type 0
  Fails = FissionFails p l n

  abbrev Judged : Result PlanForm Unfit → Type 0
  Judged = IsJudgedBy (FissionFails p l n) (IsSplitInto p l n)

  -- THE OPERATOR

  none_before : (op : OpForm) (a : IsLabelled p l op) → (0 < named_it l op) × (total (named_it l) a.before ≡ 0)
  none_before op a =
      let k : named_it l op ≡ 1 = ap one_if (subst (λ x. name_eq op.label x ≡ true) a.label (name_same op.label)) in
      let s = ap (total (named_it l)) a.ops ∙ total-append (named_it l) a.before (op ∷ a.behind) in
      let o = v.labels_once l in
      (omega (arith, k), omega (arith, k, s, o))

  labelled_first : (op : OpForm) → IsLabelled p l op → first_with (named_it l) p.ops ≡ Some op
  labelled_first op a =
      let k = none_before op a in
      ap (first_with (named_it l)) a.ops
      ∙ first_past (named_it l) a.before (op ∷ a.behind) k.1
      ∙ if_lt 0 (named_it l op) (Some op) (first_with (named_it l) a.behind) k.0

  one_labelled : (a b : OpForm) → IsLabelled p l a → IsLabelled p l b → a ≡ b
  one_labelled a b x y = same_Some a b (sym (labelled_first a x) ∙ labelled_first b y)

  labelled : (op : OpForm) → first_with (named_it l) p.ops ≡ Some op → IsLabelled p l op
  labelled op h =
      let f = found (named_it l) p.ops op h in
      let lt = f.has in
      record {
        before = f.before;
        behind = f.behind;
        ops = f.is;
        label = ⊎_elim (λ b. name_is op.label l b) (λ b. absurd (let e = ap one_if b in omega (arith, e, lt))) (cases_Bool (name_eq op.label l));
      }

  swapped_is : (op : OpForm) (a : IsLabelled p l op) (news : List OpForm) → swapped l news p.ops ≡ a.before ++ (news ++ a.behind)
  swapped_is op a news =
      let k = none_before op a in
      ap (swapped l news) a.ops ∙ swapped_past l news a.before (op ∷ a.behind) k.1 ∙ ap (λ t. a.before ++ t) (if_lt 0 (named_it l op) _ _ k.0)

  one_source : (a b : OpForm) (s t : Name) → IsLabelled p l a → a.reads ≡ s ∷ [] → IsLabelled p l b → b.reads ≡ t ∷ [] → (a ≡ b) × (s ≡ t)
  one_source a b s t x e y d =
      let k = one_labelled a b x y in (k, alone_same s t (sym e ∙ ap (λ (o : OpForm). o.reads) k ∙ d))

  -- THE RESULT

  split_is : (p' : PlanForm) (k : IsSplitInto p l n p') → p' ≡ split_by p l k.op (made_of l) n (kind_of (all_decls p) k.source) k.way
  split_is p' k =
      let ops = k.ops ∙ sym (swapped_is k.op k.at (split_ops k.op (made_of l) n k.way)) in
      λ i. record { outputs = k.outputs i; inputs = k.inputs i; queues = k.queues i; tables = k.tables i; vars = k.vars i; ops = ops i }

  -- a split by the same operator, input and way
  parts_same : (a b : PlanForm) (k : IsSplitInto p l n a) (m : IsSplitInto p l n b) → (k.op ≡ m.op) × (k.source ≡ m.source) × (k.way ≡ m.way)
  parts_same a b k m =
      let e = one_source k.op m.op k.source m.source k.at k.reads m.at m.reads in
      let t = subst (λ o. SplitsBy p o (made_of l) n k.source k.way) e.0 k.takes in
      let u = subst (λ s. SplitsBy p m.op (made_of l) n s k.way) e.1 t in
      (e.0, e.1, one_way p m.op (made_of l) n m.source k.way m.way u m.takes)

  one_split : (a b : PlanForm) → IsSplitInto p l n a → IsSplitInto p l n b → a ≡ b
  one_split a b k m =
      let e = parts_same a b k m in
      split_is a k
      ∙ ap (λ o. split_by p l o (made_of l) n (kind_of (all_decls p) k.source) k.way) e.0
      ∙ ap (λ s. split_by p l m.op (made_of l) n (kind_of (all_decls p) s) k.way) e.1
      ∙ ap (split_by p l m.op (made_of l) n (kind_of (all_decls p) m.source)) e.2
      ∙ sym (split_is b m)

  -- THE CONDITIONS BELOW A RANK

  nots : (k : ℕ) → (9 < k → Fails N1 → ⊥) → (10 < k → Fails N2 → ⊥) → (11 < k → Fails N3 → ⊥) → (12 < k → Fails N4 → ⊥) → (13 < k → Fails N5 → ⊥) → (g : Unfit)
      → rank g < k
      → Fails g
      → ⊥
  nots k a b c d e U1 lt h = h
  nots k a b c d e U2 lt h = h
  nots k a b c d e U3 lt h = h
  nots k a b c d e U4 lt h = h
  nots k a b c d e U5 lt h = h
  nots k a b c d e H1 lt h = h
  nots k a b c d e H2 lt h = h
  nots k a b c d e H3 lt h = h
  nots k a b c d e H4 lt h = h
  nots k a b c d e N1 lt h = a lt h
  nots k a b c d e N2 lt h = b lt h
  nots k a b c d e N3 lt h = c lt h
  nots k a b c d e N4 lt h = d lt h
  nots k a b c d e N5 lt h = e lt h
  nots k a b c d e NoMemory lt h = h

  -- WITH AN OPERATOR

  module _ (op : OpForm) (at : IsLabelled p l op) where
    no1 : Fails N1 → ⊥
    no1 h = h op at

    module _ (many : 2 ≤ n) (few : n ≤ 16) where
      no2 : Fails N2 → ⊥
      no2 h = ⊎_elim (λ lt. omega (arith, lt, many)) (λ lt. omega (arith, lt, few)) h

      module _ (source : Name) (reads : op.reads ≡ source ∷ []) where
        no3 : Fails N3 → ⊥
        no3 h = h.2 source (ap (λ (o : OpForm). o.reads) (one_labelled h.0 op h.1 at) ∙ reads)

        abbrev type : QueueType
        type = kind_of (all_decls p) source

        module _ (w : Way) (takes : SplitsBy p op (made_of l) n source w) where
          no4 : Fails N4 → ⊥
          no4 h =
              let e = one_source h.0 op h.1 source h.2 h.3 at reads in
              let t = subst (λ o. SplitsBy p o (made_of l) n source w) (sym e.0) takes in
              let u = subst (λ s. SplitsBy p h.0 (made_of l) n s w) (sym e.1) t in
              ⊎_elim
              (λ x. h.4 (x.0, x.1, x.2, x.3))
              (λ r. ⊎_elim (λ x. h.5 (x.1, x.2)) (λ x. h.6 x.2) r)
              u

          abbrev whole : PlanForm
          whole = split_by p l op (made_of l) n type w

          abbrev is_split : IsSplitInto p l n whole
          is_split = record {
            op = op;
            source = source;
            way = w;
            at = at;
            reads = reads;
            takes = takes;
            ops = swapped_is op at (split_ops op (made_of l) n w);
            queues = refl;
            vars = refl;
            outputs = refl;
            inputs = refl;
            tables = refl;
          }

          no5 : are_short (all_made (made_of l) n) ≡ true → is_apart whole ≡ true → Fails N5 → ⊥
          no5 short apart h =
              let e = one_split h.0 whole h.1 is_split in
              ⊎_elim
              (λ o. not_over whole apart (subst IsAboveLimit e o))
              (λ r. ⊎_elim
              (λ o. no_long l n h.1.op h.1.way (omega (arith, many)) (new_short p l h.1.op n h.1.source h.1.way h.1.takes) short o)
              (λ o. not_twice whole apart (subst HasTwice e o))
              r)
              h.2

          fails5 : are_short (all_made (made_of l) n) && is_apart whole ≡ false → IsAboveLimit whole ⊎ (HasLong (all_made_names op (made_of l) n w) ⊎ HasTwice whole)
          fails5 h = ⊎_elim
              (λ e. inr (inl (long_name l n op w (omega (arith, many)) e)))
              (λ e. ⊎_elim (λ o. inl o) (λ o. inr (inr o)) (apart_fails whole e))
              (and_cases (are_short (all_made (made_of l) n)) (is_apart whole) h)

          with_way : Judged (by_way p l op n type (Some w))
          with_way = by_if Judged (are_short (all_made (made_of l) n) && is_apart whole) _ _
              (λ t.
              let a = and_parts (are_short (all_made (made_of l) n)) (is_apart whole) t in
              ((λ g. nots 15 (λ x. no1) (λ x. no2) (λ x. no3) (λ x. no4) (λ x. no5 a.0 a.1) g (rank_most g)), is_split))
              (λ f. record {
                fails = (whole, is_split, fails5 f);
                first = nots 13 (λ x. no1) (λ x. no2) (λ x. no3) (λ x. no4) (λ x. absurd (omega (arith, x)));
              })

        way : (o : Option Way) → WayJudged p op (made_of l) n source o → Judged (by_way p l op n type o)
        way None k = record {
          fails = (op, source, at, reads, k.0, k.1, k.2);
          first = nots 12 (λ x. no1) (λ x. no2) (λ x. no3) (λ x. absurd (omega (arith, x))) (λ x. absurd (omega (arith, x)));
        }
        way (Some w) k = with_way w k

      -- with any inputs
      inputs : (rs : List Name) → op.reads ≡ rs → Judged (by_reads p l op n rs)
      inputs [] e = record {
        fails = (op, at, λ s h. none_one s (sym e ∙ h));
        first = nots 11 (λ x. no1) (λ x. no2) (λ x. absurd (omega (arith, x))) (λ x. absurd (omega (arith, x))) (λ x. absurd (omega (arith, x)));
      }
      inputs (source ∷ []) e =
          way source e (way_of p op (made_of l) n (kind_of (all_decls p) source))
          (way_judged p op (made_of l) n source e (λ f k. blocking.kind_in p l op (made_of l) n source f v (labelled_first op at) (omega (arith, many)) k))
      inputs (source ∷ q ∷ qs) e = record {
        fails = (op, at, λ s h. two_one source q s qs (sym e ∙ h));
        first = nots 11 (λ x. no1) (λ x. no2) (λ x. absurd (omega (arith, x))) (λ x. absurd (omega (arith, x))) (λ x. absurd (omega (arith, x)));
      }

    -- with any number
    number : Judged (by_op p l n (Some op))
    number = by_if Judged (nat_le 2 n && nat_le n 16) _ _
        (λ t.
        let a = and_parts (nat_le 2 n) (nat_le n 16) t in
        inputs (leb-true 2 n a.0) (leb-true n 16 a.1) op.reads refl)
        (λ f. record {
          fails = ⊎_elim (λ e. inl (leb-false 2 n e)) (λ e. inr (leb-false n 16 e)) (and_cases (nat_le 2 n) (nat_le n 16) f);
          first = nots 10 (λ x. no1) (λ x. absurd (omega (arith, x))) (λ x. absurd (omega (arith, x))) (λ x. absurd (omega (arith, x)))
              (λ x. absurd (omega (arith, x)));
        })

  any : (o : Option OpForm) → first_with (named_it l) p.ops ≡ o → Judged (by_op p l n o)
  any None h = record {
    fails = λ op a. none-some op (sym h ∙ labelled_first op a);
    first = nots 9 (λ x. absurd (omega (arith, x))) (λ x. absurd (omega (arith, x))) (λ x. absurd (omega (arith, x)))
        (λ x. absurd (omega (arith, x))) (λ x. absurd (omega (arith, x)));
  }
  any (Some op) h = number op (labelled op h)

  pub fission_judged : Judged (fission_of p l n)
  fission_judged = any (first_with (named_it l) p.ops) refl

  pub one_result : (a b : PlanForm) → IsSplitInto p l n a → IsSplitInto p l n b → a ≡ b
  one_result a b k m = one_split a b k m

-- fission answers what its conditions say
pub fission_is_judged : FissionIsJudged
fission_is_judged p l n made v = judged_law (FissionFails p l n) (IsSplitInto p l n) (fission_of p l n) (fission_judged p l n v) (one_result p l n v) made
