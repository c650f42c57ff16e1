-- What fusion answers, by its conditions.
use Rattle.std.proofs.Common.{◌≡◌, ℕ, ◌+◌, ◌<◌, ◌≤◌, ◌⊎◌, inl, inr, Bool, true, false, Some, None, List, [], ◌∷◌, ◌++◌, length, refl, sym, ap}
use Rattle.std.proofs.Common.{◌∙◌, subst, arith, ⊎_elim}
use Rattle.std.specs.Prelude.{Option, Result, Err, ◌||◌, nat_eq, nat_lt}
use Rattle.std.proofs.lemmas.Bool.{ltb-true, ltb-false, eqb-true, eqb-false, or_parts}
use Rattle.std.proofs.lemmas.Option.{same_Some, none-some}
use Rattle.river_plan.proofs.DeclLemmas.{names_append}
use Rattle.rw_local.proofs.FuseLemmas.{one_counted}
use Rattle.river_plan.proofs.ValidLaw.{total-append}
use Rattle.river_base.proofs.PlaceLemmas.{if_lt, if_ge}
use Rattle.river_kernels.specs.Fits.{spliced}
use Rattle.river_kernels.specs.Kern.{fused}
use Rattle.river_kernels.specs.Limits.{nesting}
use Rattle.river_plan.specs.Forms.{Name, OpForm, PlanForm, decl_names, queue_names}
use Rattle.river_plan.specs.Names.{count}
use Rattle.river_plan.specs.Uses.{total, writes_it, reads_it}
use Rattle.river_plan.specs.Valid.{IsPlan}
use Rattle.river_plan.proofs.NameLemmas.{count-append, one_same}
use Rattle.plan_edits.specs.declared.unfit.Unfit.{Unfit}
use Rattle.plan_edits.specs.declared.unfit.Unfit.TheVariants.{U1, U2, U3, U4, U5, H1, H2, H3, H4, N1, N2, N3, N4, N5, NoMemory}
use Rattle.plan_edits.specs.Judged.{rank, IsJudgedBy}
use Rattle.plan_edits.specs.Lists.{first_with, place_of_name, undeclared}
use Rattle.rw_local.proofs.Edit.{Cut, cut_of, replaced_is}
use Rattle.plan_edits.proofs.Judging.{rank_most, judged_law, by_if}
use Rattle.plan_edits.proofs.Surgery.{first_past}
use Rattle.rw_local.specs.Fuse.{fused_op, fused_plan, share, is_large, fuse_two, fuse_found, fuse_of}
use Rattle.rw_local.specs.Fusion.{Feeds, IsBothAsOne, FuseFails, IsFused, FusionIsJudged}
use Rattle.rw_local.proofs.Cuts.{parted, place_cut, spliced_cut, declared, undeclared_cut}
use Rattle.rw_local.proofs.FuseCode.{declared_there}
use Rattle.rw_local.proofs.FuseLaw.{names_of}
use Rattle.rw_local.proofs.FuseSteps.{shares_none}

-- TESTS

-- one of two tests holds
pub one_of : (b c : Bool) → b || c ≡ true → (b ≡ true) ⊎ (c ≡ true)
one_of true c h = inl refl
one_of false c h = inr h

shared : (vs us : List Name) → share vs us ≡ true → (v : Name) × (0 < count v vs) × (0 < count v us)
shared [] us h = absurd (cc h)
shared (v ∷ vs) us h = ⊎_elim
    (λ b. let s = one_same v in (v, omega (arith, s), ltb-true 0 (count v us) b))
    (λ b. let r = shared vs us b in (r.0, (let l = r.1 in omega (arith, l)), r.2))
    (one_of (nat_lt 0 (count v us)) (share vs us) h)

large : (op : OpForm) → is_large op ≡ true → (32 < nesting op.kernel) ⊎ (64 < length op.writes)
large op h = ⊎_elim
    (λ b. inl (ltb-true 32 (nesting op.kernel) b))
    (λ b. inr (ltb-true 64 (length op.writes) b))
    (one_of (nat_lt 32 (nesting op.kernel)) (nat_lt 64 (length op.writes)) h)

small : (op : OpForm) → is_large op ≡ false → (32 < nesting op.kernel) ⊎ (64 < length op.writes) → ⊥
small op h b =
    let l = or_parts (nat_lt 32 (nesting op.kernel)) (nat_lt 64 (length op.writes)) h in
    ⊎_elim
    (λ lt. let n = ltb-false 32 (nesting op.kernel) l.0 in omega (arith, lt, n))
    (λ lt. let n = ltb-false 64 (length op.writes) l.1 in omega (arith, lt, n))
    b

module _ (p : PlanForm) (q : Name) (v : IsPlan p) where
  -- WRITER AND READER

  module _ (w r : OpForm) (f : Feeds p q w r) where
    pub sums : (g : OpForm → ℕ) → total g p.ops ≡ total g f.before + (g w + (total g f.middle + (g r + total g f.behind)))
    sums g =
        let a = ap (total g) f.ops ∙ total-append g f.before (w ∷ (f.middle ++ r ∷ f.behind)) in
        let b = total-append g f.middle (r ∷ f.behind) in
        omega (arith, a, b)

    -- the queue is used nowhere else
    abbrev pub cut : Cut p.ops q w r
    cut =
        let a = sums (writes_it q) in
        let b = sums (reads_it q) in
        let o = v.written_once q in
        let o' = v.read_once q in
        let w0 = f.written in
        let r0 = f.read in
        record {
          before = f.before;
          middle = f.middle;
          behind = f.behind;
          is = f.ops;
          w_writes = f.written;
          r_reads = f.read;
          w_reads = omega (arith, b, o', r0);
          r_writes = omega (arith, a, o, w0);
          before_w = omega (arith, a, o, w0);
          before_r = omega (arith, b, o', r0);
          middle_w = omega (arith, a, o, w0);
          middle_r = omega (arith, b, o', r0);
          behind_w = omega (arith, a, o, w0);
          behind_r = omega (arith, b, o', r0);
        }

    -- so it is the first that writes it, and the reader the first that reads it
    pub written_first : first_with (writes_it q) p.ops ≡ Some w
    written_first =
        ap (first_with (writes_it q)) f.ops
        ∙ first_past (writes_it q) f.before (w ∷ (f.middle ++ r ∷ f.behind)) cut.before_w
        ∙ if_lt 0 (count q w.writes) (Some w) (first_with (writes_it q) (f.middle ++ r ∷ f.behind)) f.written

    -- the first operator that reads the queue is the reader
    pub read_first : first_with (reads_it q) p.ops ≡ Some r
    read_first =
        ap (first_with (reads_it q)) f.ops
        ∙ first_past (reads_it q) f.before (w ∷ (f.middle ++ r ∷ f.behind)) cut.before_r
        ∙ if_ge 0 (count q w.reads) (Some w) (first_with (reads_it q) (f.middle ++ r ∷ f.behind)) (let z = cut.w_reads in omega (arith, z))
        ∙ first_past (reads_it q) f.middle (r ∷ f.behind) cut.middle_r
        ∙ if_lt 0 (count q r.reads) (Some r) (first_with (reads_it q) f.behind) f.read

    written_once : count q w.writes ≤ 1
    written_once = let a = sums (writes_it q) in let o = v.written_once q in omega (arith, a, o)

    -- how q stands among the writer's outputs
    outs_cut : (left right : List Name) → w.writes ≡ left ++ q ∷ right → place_of_name q w.writes ≡ length left
    outs_cut left right e =
        let c = ap (count q) e ∙ count-append q left (q ∷ right) in
        let s = one_same q in
        let o = written_once in
        ap (place_of_name q) e ∙ place_cut left right q (omega (arith, c, s, o))

    outs_spliced : (left right : List Name) → w.writes ≡ left ++ q ∷ right → spliced (place_of_name q w.writes) w.writes r.writes ≡ left ++ (r.writes ++ right)
    outs_spliced left right e =
        ap (λ n. spliced n w.writes r.writes) (outs_cut left right e)
        ∙ ap (λ ws. spliced (length left) ws r.writes) e
        ∙ spliced_cut left q right r.writes

    -- the two as one are one operator
    pub whole_is : (op : OpForm) → IsBothAsOne q w r op → op ≡ fused_op q w r
    whole_is op k =
        let kern : op.kernel ≡ fused w.kernel r.kernel (place_of_name q w.writes) = k.kernel
        ∙ ap (fused w.kernel r.kernel) (sym (outs_cut k.left k.right k.outs)) in
        let outs : op.writes ≡ spliced (place_of_name q w.writes) w.writes r.writes = k.writes ∙ sym (outs_spliced k.left k.right k.outs) in
        λ i. record { label = k.label i; kernel = kern i; reads = k.reads i; writes = outs i; vars = k.vars i }

    is_whole : IsBothAsOne q w r (fused_op q w r)
    is_whole =
        let c = parted q w.writes f.written in
        record {
          left = c.left;
          right = c.right;
          outs = c.is;
          label = refl;
          kernel = ap (fused w.kernel r.kernel) (outs_cut c.left c.right c.is);
          reads = refl;
          writes = outs_spliced c.left c.right c.is;
          vars = refl;
        }

    is_queue : 0 < count q (queue_names p)
    is_queue = v.writes_declared q (let a = sums (writes_it q) in let l = f.written in omega (arith, a, l))

  -- there is only one writer and one reader
  feeds_same : (w r w' r' : OpForm) → Feeds p q w r → Feeds p q w' r' → (w ≡ w') × (r ≡ r')
  feeds_same w r w' r' f g =
      (same_Some w w' (sym (written_first w r f) ∙ written_first w' r' g), same_Some r r' (sym (read_first w r f) ∙ read_first w' r' g))

  -- THE RESULT

  fused_is : (p' : PlanForm) (k : IsFused p q p') → p' ≡ fused_plan p q k.writer k.reader
  fused_is p' k =
      let w = k.writer in let r = k.reader in let f = k.feeds in
      let op = ap (λ x. f.before ++ x ∷ (f.middle ++ f.behind)) (whole_is w r f k.whole k.is_whole) in
      let ops = k.ops ∙ op ∙ sym (replaced_is p.ops q w r (fused_op q w r ∷ []) (cut w r f)) in
      let a = ap (λ ds. count q (decl_names ds)) k.queues in
      let b = ap (count q) (names_append k.above (k.decl ∷ k.below)) ∙ count-append q (decl_names k.above) (decl_names (k.decl ∷ k.below)) in
      let c = ap (λ n. count q (n ∷ decl_names k.below)) k.named in
      let s = one_same q in
      let o = v.queues_once q in
      let n = names_of (decl_names p.outputs) (decl_names p.inputs) (decl_names p.queues) q in
      let queues = k.queues' ∙ sym (undeclared_cut k.above k.below k.decl q k.named (omega (arith, a, b, c, s, o, n))) ∙ sym (ap (undeclared q) k.queues) in
      λ i. record { outputs = k.outputs i; inputs = k.inputs i; queues = queues i; tables = k.tables i; vars = k.vars i; ops = ops i }

  pub one_fused : (a b : PlanForm) → IsFused p q a → IsFused p q b → a ≡ b
  one_fused a b k m =
      let e = feeds_same k.writer k.reader m.writer m.reader k.feeds m.feeds in
      fused_is a k ∙ ap (λ w. fused_plan p q w k.reader) e.0 ∙ ap (fused_plan p q m.writer) e.1 ∙ sym (fused_is b m)

  -- THE CONDITIONS

  abbrev Fails : Unfit → Type 0
  Fails = FuseFails p q

  -- of these conditions those below a rank do not fail
  nots : (n : ℕ) → (0 < n → Fails U1 → ⊥) → (1 < n → Fails U2 → ⊥) → (2 < n → Fails U3 → ⊥) → (3 < n → Fails U4 → ⊥) → (4 < n → Fails U5 → ⊥) → (g : Unfit)
      → rank g < n
      → Fails g
      → ⊥
  nots n a b c d e U1 lt h = a lt h
  nots n a b c d e U2 lt h = b lt h
  nots n a b c d e U3 lt h = c lt h
  nots n a b c d e U4 lt h = d lt h
  nots n a b c d e U5 lt h = e lt h
  nots n a b c d e H1 lt h = h
  nots n a b c d e H2 lt h = h
  nots n a b c d e H3 lt h = h
  nots n a b c d e H4 lt h = h
  nots n a b c d e N1 lt h = h
  nots n a b c d e N2 lt h = h
  nots n a b c d e N3 lt h = h
  nots n a b c d e N4 lt h = h
  nots n a b c d e N5 lt h = h
  nots n a b c d e NoMemory lt h = h

  abbrev Judged : Result PlanForm Unfit → Type 0
  Judged = IsJudgedBy (FuseFails p q) (IsFused p q)

  module _ (w r : OpForm) (f : Feeds p q w r) where
    no1 : Fails U1 → ⊥
    no1 h = let l = is_queue w r f in omega (arith, l, h)

    no2 : Fails U2 → ⊥
    no2 h = h w r f

    no3 : r.reads ≡ q ∷ [] → Fails U3 → ⊥
    no3 e h = let s = feeds_same w r h.0 h.1 f h.2 in h.3 (ap (λ (x : OpForm). x.reads) (sym s.1) ∙ e)

    no4 : is_large (fused_op q w r) ≡ false → Fails U4 → ⊥
    no4 e h =
        let s = feeds_same w r h.0 h.1 f h.3 in
        let k = whole_is h.0 h.1 h.3 h.2 h.4 in
        small h.2 (ap is_large (k ∙ ap (λ x. fused_op q x h.1) (sym s.0) ∙ ap (fused_op q w) (sym s.1)) ∙ e) h.5

    no5 : share w.vars r.vars ≡ false → Fails U5 → ⊥
    no5 e h =
        let s = feeds_same w r h.0 h.1 f h.2 in
        let a = subst (λ x. 0 < count h.3 x.vars) (sym s.0) h.4 in
        let b = subst (λ x. 0 < count h.3 x.vars) (sym s.1) h.5 in
        let z = shares_none w.vars r.vars e h.3 a in
        omega (arith, z, b)

    is_fused : 0 < count q (decl_names p.queues) → IsFused p q (fused_plan p q w r)
    is_fused lt =
        let d = declared q p.queues lt in
        record {
          writer = w;
          reader = r;
          whole = fused_op q w r;
          feeds = f;
          is_whole = is_whole w r f;
          ops = replaced_is p.ops q w r (fused_op q w r ∷ []) (cut w r f);
          above = d.ahead;
          decl = d.decl;
          below = d.after;
          named = d.named;
          queues = d.is;
          queues' = ap (undeclared q) d.is ∙ undeclared_cut d.ahead d.after d.decl q d.named d.none;
          outputs = refl;
          inputs = refl;
          tables = refl;
          vars = refl;
        }

    -- with a writer and a reader
    two : 0 < count q (decl_names p.queues) → Judged (fuse_two p q w r)
    two lt = by_if Judged (nat_eq (length r.reads) 1) _ _
        (λ one.
        let reads = one_counted r.reads q (eqb-true (length r.reads) 1 one) f.read in
        by_if Judged (is_large (fused_op q w r)) _ _
        (λ b. record {
          fails = (w, r, fused_op q w r, f, is_whole w r f, large (fused_op q w r) b);
          first = nots 3 (λ l. no1) (λ l. no2) (λ l. no3 reads) (λ l. absurd (omega (arith, l))) (λ l. absurd (omega (arith, l)));
        })
        (λ b. by_if Judged (share w.vars r.vars) _ _
        (λ s. record {
          fails = (let h = shared w.vars r.vars s in (w, r, f, h.0, h.1, h.2));
          first = nots 4 (λ l. no1) (λ l. no2) (λ l. no3 reads) (λ l. no4 b) (λ l. absurd (omega (arith, l)));
        })
        (λ s. ((λ g. nots 15 (λ l. no1) (λ l. no2) (λ l. no3 reads) (λ l. no4 b) (λ l. no5 s) g (rank_most g)), is_fused lt))))
        (λ more. record {
          fails = (w, r, f, λ e. eqb-false (length r.reads) 1 more (ap length e));
          first = nots 2 (λ l. no1) (λ l. no2) (λ l. absurd (omega (arith, l))) (λ l. absurd (omega (arith, l))) (λ l. absurd (omega (arith, l)));
        })

  unfed : 0 < count q (queue_names p) → Fails U2 → Judged (Err U2)
  unfed lt h = record {
    fails = h;
    first = nots 1 (λ l z. omega (arith, lt, z)) (λ l. absurd (omega (arith, l))) (λ l. absurd (omega (arith, l))) (λ l. absurd (omega (arith, l)))
        (λ l. absurd (omega (arith, l)));
  }

  both : 0 < count q (queue_names p) → (o o' : Option OpForm) → first_with (writes_it q) p.ops ≡ o → first_with (reads_it q) p.ops ≡ o'
      → Judged (fuse_found p q o o')
  both lt None o' a b = unfed lt (λ w r f. none-some w (sym a ∙ written_first w r f))
  both lt (Some w) None a b = unfed lt (λ x r f. none-some r (sym b ∙ read_first x r f))
  both lt (Some w) (Some r) a b =
      let c = cut_of p q w r v a b in
      two w r (record { before = c.before; middle = c.middle; behind = c.behind; ops = c.is; written = c.w_writes; read = c.r_reads })
      (declared_there p q w r v a b)

  pub fuse_judged : Judged (fuse_of p q)
  fuse_judged = by_if Judged (nat_lt 0 (count q (queue_names p))) _ _
      (λ lt. both (ltb-true 0 (count q (queue_names p)) lt) (first_with (writes_it q) p.ops) (first_with (reads_it q) p.ops) refl refl)
      (λ ge. record {
        fails = let l = ltb-false 0 (count q (queue_names p)) ge in omega (arith, l);
        first = λ g lt. absurd (omega (arith, lt));
      })

-- fusion answers what its conditions say
pub fusion_is_judged : FusionIsJudged
fusion_is_judged p q made v = judged_law (FuseFails p q) (IsFused p q) (fuse_of p q) (fuse_judged p q v) (one_fused p q v) made
