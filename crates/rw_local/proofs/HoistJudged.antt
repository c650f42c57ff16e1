-- What hoisting answers, by its conditions.
use Rattle.std.proofs.Common.{◌≡◌, ℕ, zero, suc, ◌<◌, true, Some, None, List, [], ◌∷◌, ◌++◌, length, map, refl, sym, ap, ◌∙◌, subst}
use Rattle.std.proofs.Common.{arith, ⊎_elim, append_assoc}
use Rattle.std.specs.Prelude.{Option, Result, Ok, Err, nat_eq, slice_get}
use Rattle.std.proofs.lemmas.Bool.{eqb-true, eqb-false, cases_Bool}
use Rattle.std.proofs.lemmas.List.{length-map}
use Rattle.std.proofs.lemmas.Option.{same_Some, none-some}
use Rattle.river_plan.proofs.DeclLemmas.{names_append}
use Rattle.river_base.proofs.Options.{ok_same}
use Rattle.river_base.proofs.Lists.{alone_same, got_mid}
use Rattle.rw_local.proofs.FuseLemmas.{one_counted}
use Rattle.river_plan.proofs.ValidLaw.{total-append}
use Rattle.river_base.proofs.PlaceLemmas.{if_lt}
use Rattle.river_base.specs.Name.{name_eq}
use Rattle.river_base.specs.declared.kind.QueueType.{QueueType}
use Rattle.river_base.specs.declared.kind.QueueType.TheVariants.{Flat}
use Rattle.work_code.specs.Term.{Term}
use Rattle.river_kernels.specs.Fits.{Fits, spliced}
use Rattle.river_kernels.specs.Kern.{Kern, select}
use Rattle.river_kernels.specs.declared.types.VarKind.{VarKind}
use Rattle.river_plan.specs.Forms.{Name, OpForm, PlanForm, all_decls, decl_names}
use Rattle.river_plan.specs.Kinds.{kind_of, var_kind, IsFit}
use Rattle.river_plan.specs.Names.{count, one_if}
use Rattle.river_plan.specs.Uses.{Each, total, writes_it, reads_it, named_it}
use Rattle.river_plan.specs.Valid.{IsPlan}
use Rattle.river_plan.proofs.NameLemmas.{name_is, name_same, count-append, one_same}
use Rattle.river_plan.proofs.ShareLemmas.{each_back}
use Rattle.plan_edits.specs.declared.unfit.Unfit.{Unfit}
use Rattle.plan_edits.specs.declared.unfit.Unfit.TheVariants.{U1, U2, U3, U4, U5, H1, H2, H3, H4, N1, N2, N3, N4, N5, NoMemory}
use Rattle.plan_edits.specs.Judged.{rank, IsJudgedBy}
use Rattle.plan_edits.specs.Lists.{first_with, replaced, retyped}
use Rattle.rw_local.proofs.Edit.{cut_of, replaced_is}
use Rattle.plan_edits.proofs.Judging.{rank_most, judged_law, by_if}
use Rattle.plan_edits.proofs.Surgery.{first_past, found}
use Rattle.rw_local.specs.Fusion.{Feeds}
use Rattle.rw_local.specs.Hoist.{first_width, passes, raised, lowered, hoisted_plan, hoist_at, hoist_passed, hoist_past, hoist_between}
use Rattle.rw_local.specs.Hoist.{hoist_kernel, hoist_found}
use Rattle.rw_local.specs.Hoist.{hoist_of}
use Rattle.rw_local.specs.Hoisting.{SelectsBy, IsFed, HasFirstWidth, LetsPass, StopsHoisting, Goes, HoistFails, IsHoisted, HoistingIsJudged}
use Rattle.rw_local.proofs.Becoming.{PassJudged, passes_judged, goes_passes, goes_below, passed_reads}
use Rattle.rw_local.proofs.Cuts.{spliced_cut, declared, retyped_cut}
use Rattle.rw_local.proofs.FuseCode.{declared_there}
use Rattle.rw_local.proofs.FuseJudged.{cut, written_first, read_first}
use Rattle.rw_local.proofs.FuseLaw.{names_of}
use Rattle.rw_local.proofs.HoistCode.{hoist_upto}
use Rattle.rw_local.proofs.HoistLemmas.{found_too}

-- LISTS

-- a list that a map makes one long
one_mapped : {A : Type 0} (f : Name → A) (ws : List Name) (k : A) → map f ws ≡ k ∷ [] → (w : Name) × (ws ≡ w ∷ [])
one_mapped f [] k e = absurd (cc e)
one_mapped f (w ∷ []) k e = (w, refl)
one_mapped f (w ∷ u ∷ ws) k e = absurd (cc e)

same_cond : (a b : Term) → select a ≡ select b → a ≡ b
same_cond a b h = cc h

-- the names on both sides of a place
record Placed (ws : List Name) (i : ℕ) (x : Name) : Type 0 where
  left : List Name
  right : List Name
  is : ws ≡ left ++ x ∷ right
  at : length left ≡ i

placed : (ws : List Name) (i : ℕ) (x : Name) → slice_get ws i ≡ Some x → Placed ws i x
placed [] i x h = absurd (cc h)
placed (w ∷ ws) zero x h = let e : w ≡ x = cc h in record { left = []; right = ws; is = ap (λ n. n ∷ ws) e; at = refl }
placed (w ∷ ws) (suc i) x h =
    let r = placed ws i x h in record { left = w ∷ r.left; right = r.right; is = ap (λ l. w ∷ l) r.is; at = ap suc r.at }

one_read : (ws : List Name) (mid : Name) → ws ≡ mid ∷ [] → 0 < count mid ws
one_read ws mid e = let a = ap (count mid) e in let s = one_same mid in omega (arith, a, s)

-- a selection has this number, and no other kernel
abbrev selecting : Kern → ℕ
selecting (select e) = 1
selecting kernel = 0

no_select : (k : Kern) (t : Term) → selecting k ≡ 0 → k ≡ select t → ⊥
no_select k t z e = let a = ap selecting e in omega (arith, z, a)

no_src : (ws : List Name) (i : ℕ) → i < length ws → slice_get ws i ≡ None → ⊥
no_src [] i lt h = omega (arith, lt)
no_src (w ∷ ws) zero lt h = cc h
no_src (w ∷ ws) (suc i) lt h = no_src ws i (omega (arith, lt)) h

module _ (p : PlanForm) (l : Name) (v : IsPlan p) where
  abbrev kind : Name → QueueType
  kind = kind_of (all_decls p)

  abbrev var : Name → VarKind
  var = var_kind p.tables p.vars

  abbrev Fails : Unfit → Type 0
  Fails = HoistFails p l

  abbrev Judged : Result PlanForm Unfit → Type 0
  Judged = IsJudgedBy (HoistFails p l) (IsHoisted p l)

  -- THE SELECTION

  selects_first : (u : OpForm) (t : Term) → SelectsBy p l u t → first_with (named_it l) p.ops ≡ Some u
  selects_first u t s =
      let n : named_it l u ≡ 1 = ap one_if (subst (λ m. name_eq u.label m ≡ true) s.label (name_same u.label)) in
      let a = ap (total (named_it l)) s.ops ∙ total-append (named_it l) s.before (u ∷ s.behind) in
      let o = v.labels_once l in
      ap (first_with (named_it l)) s.ops
      ∙ first_past (named_it l) s.before (u ∷ s.behind) (omega (arith, n, a, o))
      ∙ if_lt 0 (named_it l u) (Some u) (first_with (named_it l) s.behind) (omega (arith, n))

  selected : (u : OpForm) (t : Term) → first_with (named_it l) p.ops ≡ Some u → u.kernel ≡ select t → SelectsBy p l u t
  selected u t h k =
      let f = found (named_it l) p.ops u h in
      let lt = f.has in
      record {
        before = f.before;
        behind = f.behind;
        ops = f.is;
        label = ⊎_elim (λ b. name_is u.label l b) (λ b. absurd (let e = ap one_if b in omega (arith, e, lt))) (cases_Bool (name_eq u.label l));
        kernel = k;
      }

  fed_selects : (x u : OpForm) (mid : Name) (t : Term) → IsFed p l x u mid t → SelectsBy p l u t
  fed_selects x u mid t f = record {
    before = f.before ++ x ∷ f.middle;
    behind = f.behind;
    ops = f.ops ∙ sym (append_assoc f.before (x ∷ f.middle) (u ∷ f.behind));
    label = f.label;
    kernel = f.kernel;
  }

  abbrev feeds : (x u : OpForm) (mid : Name) (t : Term) → IsFed p l x u mid t → Feeds p mid x u
  feeds x u mid t f = record {
    before = f.before;
    middle = f.middle;
    behind = f.behind;
    ops = f.ops;
    written = one_read x.writes mid f.writes;
    read = one_read u.reads mid f.reads;
  }

  -- there is one selection of the label
  selects_same : (u w : OpForm) (t s : Term) → SelectsBy p l u t → SelectsBy p l w s → (u ≡ w) × (t ≡ s)
  selects_same u w t s a b =
      let e = same_Some u w (sym (selects_first u t a) ∙ selects_first w s b) in
      (e, same_cond t s (sym a.kernel ∙ ap (λ (o : OpForm). o.kernel) e ∙ b.kernel))

  -- one queue that it reads, and one operator that writes it
  fed_same : (x u y w : OpForm) (m n : Name) (t s : Term) → IsFed p l x u m t → IsFed p l y w n s → (x ≡ y) × (u ≡ w) × (m ≡ n) × (t ≡ s)
  fed_same x u y w m n t s a b =
      let e = selects_same u w t s (fed_selects x u m t a) (fed_selects y w n s b) in
      let d = alone_same m n (sym a.reads ∙ ap (λ (o : OpForm). o.reads) e.0 ∙ b.reads) in
      let f = written_first p m v x u (feeds x u m t a) in
      let g = written_first p n v y w (feeds y w n s b) in
      (same_Some x y (sym (subst (λ q. first_with (writes_it q) p.ops ≡ Some x) d f) ∙ g), e.0, d, e.1)

  fit_at : (before : List OpForm) (u : OpForm) (behind : List OpForm) → p.ops ≡ before ++ u ∷ behind → IsFit p u
  fit_at before u behind e = (each_back (IsFit p) before (u ∷ behind) (subst (Each (IsFit p)) e v.fits)).0

  -- THE CONDITIONS BELOW A RANK

  nots : (n : ℕ) → (5 < n → Fails H1 → ⊥) → (6 < n → Fails H2 → ⊥) → (7 < n → Fails H3 → ⊥) → (8 < n → Fails H4 → ⊥) → (g : Unfit) → rank g < n → Fails g → ⊥
  nots n a b c d U1 lt h = h
  nots n a b c d U2 lt h = h
  nots n a b c d U3 lt h = h
  nots n a b c d U4 lt h = h
  nots n a b c d U5 lt h = h
  nots n a b c d H1 lt h = a lt h
  nots n a b c d H2 lt h = b lt h
  nots n a b c d H3 lt h = c lt h
  nots n a b c d H4 lt h = d lt h
  nots n a b c d N1 lt h = h
  nots n a b c d N2 lt h = h
  nots n a b c d N3 lt h = h
  nots n a b c d N4 lt h = h
  nots n a b c d N5 lt h = h
  nots n a b c d NoMemory lt h = h

  unselected : ((u : OpForm) (t : Term) → SelectsBy p l u t → ⊥) → Judged (Err H1)
  unselected h = record {
    fails = h;
    first = nots 5 (λ m. absurd (omega (arith, m))) (λ m. absurd (omega (arith, m))) (λ m. absurd (omega (arith, m))) (λ m. absurd (omega (arith, m)));
  }

  unfed : (u : OpForm) (t : Term) → SelectsBy p l u t → ((x : OpForm) (mid : Name) → IsFed p l x u mid t → ⊥) → Judged (Err H2)
  unfed u t s h = record {
    fails = (u, t, s, h);
    first = nots 6 (λ m z. z u t s) (λ m. absurd (omega (arith, m))) (λ m. absurd (omega (arith, m))) (λ m. absurd (omega (arith, m)));
  }

  -- WITH A SELECTION AND THE OPERATOR THAT FEEDS IT

  module _ (b u : OpForm) (mid : Name) (t : Term) (f : IsFed p l b u mid t) where
    no1 : Fails H1 → ⊥
    no1 h = h u t (fed_selects b u mid t f)

    no2 : Fails H2 → ⊥
    no2 h =
        let e = selects_same u h.0 t h.1 (fed_selects b u mid t f) h.2 in
        h.3 b mid (subst (λ w. IsFed p l b w mid h.1) e.0 (subst (λ s. IsFed p l b u mid s) e.1 f))

    no3 : LetsPass b.kernel → Fails H3 → ⊥
    no3 g h = let e = fed_same b u h.0 h.1 mid h.2 t h.3 f h.4 in h.5 (subst (λ (x : OpForm). LetsPass x.kernel) e.0 g)

    abbrev width : ℕ
    width = first_width (map kind b.reads)

    has_width : (w : ℕ) → HasFirstWidth p b w → width ≡ w
    has_width w h = ap (λ rs. first_width (map kind rs)) h.reads ∙ h.width

    no4 : (StopsHoisting width b.kernel t → ⊥) → Fails H4 → ⊥
    no4 g h =
        let e = fed_same b u h.0 h.1 mid h.2 t h.3 f h.5 in
        let w = has_width h.4 (subst (λ x. HasFirstWidth p x h.4) (sym e.0) h.6) in
        g (subst (λ n. StopsHoisting n b.kernel t) (sym w)
        (subst (λ (x : OpForm). StopsHoisting h.4 x.kernel t) (sym e.0) (subst (λ s. StopsHoisting h.4 h.0.kernel s) (sym e.3) h.7)))

    fit : IsFit p b
    fit = fit_at f.before b (f.middle ++ u ∷ f.behind) f.ops

    first_is : LetsPass b.kernel → HasFirstWidth p b width
    first_is g = by b.reads refl (passed_reads b.kernel (map kind b.reads) (map kind b.writes) (map var b.vars) g fit)
      where
        by : (rs : List Name) → b.reads ≡ rs → 0 < length (map kind b.reads) → HasFirstWidth p b width
        by [] e lt = absurd (let a = ap (λ xs. length (map kind xs)) e in omega (arith, a, lt))
        by (r ∷ rs) e lt = record { first = r; others = rs; reads = e; width = sym (ap (λ xs. first_width (map kind xs)) e) }

    at_mid : first_with (writes_it mid) p.ops ≡ Some b
    at_mid = written_first p mid v b u (feeds b u mid t f)

    read_there : first_with (reads_it mid) p.ops ≡ Some u
    read_there = read_first p mid v b u (feeds b u mid t f)

    module _ (side : ℕ) (t' : Term) (src out : Name) (g : Goes width b.kernel t side t') (first : HasFirstWidth p b width)
        (so : slice_get b.reads side ≡ Some src) (wo : u.writes ≡ out ∷ []) where
      is_hoisted : IsHoisted p l (hoisted_plan p u b side t' src mid out)
      is_hoisted =
          let c = placed b.reads side src so in
          let d = declared mid p.queues (declared_there p mid b u v at_mid read_there) in
          let s : spliced side b.reads (mid ∷ []) ≡ c.left ++ mid ∷ c.right =
          ap (λ n. spliced n b.reads (mid ∷ [])) (sym c.at) ∙ ap (λ rs. spliced (length c.left) rs (mid ∷ [])) c.is
          ∙ spliced_cut c.left src c.right (mid ∷ []) in
          record {
            below = b;
            above = u;
            mid = mid;
            cond = t;
            fed = f;
            left = c.left;
            src = src;
            right = c.right;
            sides = c.is;
            width = width;
            first = first;
            moved = t';
            goes = subst (λ n. Goes width b.kernel t n t') (sym c.at) g;
            out = out;
            wrote = wo;
            ops =
                replaced_is p.ops mid b u (raised u t' src mid ∷ lowered b side mid out ∷ []) (cut p mid v b u (feeds b u mid t f))
                ∙ ap (λ rs. f.before ++ raised u t' src mid ∷ record b { reads = rs; writes = out ∷ [] } ∷ (f.middle ++ f.behind)) s;
            ahead = d.ahead;
            decl = d.decl;
            after = d.after;
            named = d.named;
            queues = d.is;
            queues' = ap (retyped mid (kind src)) d.is ∙ retyped_cut d.ahead d.after d.decl mid (kind src) d.named d.none;
            outputs = refl;
            inputs = refl;
            tables = refl;
            vars = refl;
          }

    -- an operator that is passed
    source : (out : Name) → u.writes ≡ out ∷ [] → (x : ℕ × Term) → LetsPass b.kernel → (StopsHoisting width b.kernel t → ⊥) → Goes width b.kernel t x.0 x.1
        → (o : Option Name)
        → slice_get b.reads x.0 ≡ o
        → Judged (hoist_at p u b mid out x o)
    source out wo x pass stop g None e =
        let lt = goes_below width t b.kernel x.0 x.1 (map kind b.reads) (map kind b.writes) (map var b.vars) g fit in
        let n = length-map b.reads kind in
        absurd (no_src b.reads x.0 (omega (arith, lt, n)) e)
    source out wo x pass stop g (Some src) e = (
      (λ h. nots 15 (λ m. no1) (λ m. no2) (λ m. no3 pass) (λ m. no4 stop) h (rank_most h)),
      is_hoisted x.0 x.1 src out g (first_is pass) e wo,
    )

    passing : (out : Name) → u.writes ≡ out ∷ [] → (r : Result (ℕ × Term) Unfit) → PassJudged width t b.kernel r → Judged (hoist_passed p u b mid out r)
    passing out wo (Ok x) k = source out wo x k.0 k.1 k.2 (slice_get b.reads x.0) refl
    passing out wo (Err H3) k = record {
      fails = (b, u, mid, t, f, k);
      first = nots 7 (λ m. no1) (λ m. no2) (λ m. absurd (omega (arith, m))) (λ m. absurd (omega (arith, m)));
    }
    passing out wo (Err H4) k = record {
      fails = (b, u, mid, t, width, f, first_is k.0, k.1);
      first = nots 8 (λ m. no1) (λ m. no2) (λ m. no3 k.0) (λ m. absurd (omega (arith, m)));
    }
    passing out wo (Err U1) k = absurd k
    passing out wo (Err U2) k = absurd k
    passing out wo (Err U3) k = absurd k
    passing out wo (Err U4) k = absurd k
    passing out wo (Err U5) k = absurd k
    passing out wo (Err H1) k = absurd k
    passing out wo (Err H2) k = absurd k
    passing out wo (Err N1) k = absurd k
    passing out wo (Err N2) k = absurd k
    passing out wo (Err N3) k = absurd k
    passing out wo (Err N4) k = absurd k
    passing out wo (Err N5) k = absurd k
    passing out wo (Err NoMemory) k = absurd k

  -- THE STEP

  module _ (u : OpForm) (t : Term) (h : first_with (named_it l) p.ops ≡ Some u) (k : u.kernel ≡ select t) where
    s : SelectsBy p l u t
    s = selected u t h k

    past : (mid out : Name) → u.reads ≡ mid ∷ [] → u.writes ≡ out ∷ [] → (o : Option OpForm) → first_with (writes_it mid) p.ops ≡ o
        → Judged (hoist_past p u t mid out o)
    past mid out r w None e = unfed u t s (λ x m f.
        let d = alone_same m mid (sym f.reads ∙ r) in
        none-some x (sym e ∙ subst (λ q. first_with (writes_it q) p.ops ≡ Some x) d (written_first p m v x u (feeds x u m t f))))
    past mid out r w (Some b) e = by_if Judged (nat_eq (length b.writes) 1) _ _
        (λ one.
        let has = (found (writes_it mid) p.ops b e).has in
        let total_read = ap (total (reads_it mid)) s.ops ∙ total-append (reads_it mid) s.before (u ∷ s.behind) in
        let once = v.read_once mid in
        let reads = one_read u.reads mid r in
        let rd = found_too (named_it l) (reads_it mid) p.ops u h reads (omega (arith, once)) in
        let c = cut_of p mid b u v e rd in
        let f : IsFed p l b u mid t = record {
          before = c.before;
          middle = c.middle;
          behind = c.behind;
          ops = c.is;
          label = s.label;
          kernel = k;
          reads = r;
          writes = one_counted b.writes mid (eqb-true (length b.writes) 1 one) has;
        } in
        passing b u mid t f out w (passes (first_width (map kind b.reads)) b.kernel t) (passes_judged (first_width (map kind b.reads)) t b.kernel))
        (λ more. unfed u t s (λ x m f.
        let d = alone_same m mid (sym f.reads ∙ r) in
        let a = subst (λ q. first_with (writes_it q) p.ops ≡ Some x) d (written_first p m v x u (feeds x u m t f)) in
        let i = same_Some x b (sym a ∙ e) in
        eqb-false (length b.writes) 1 more (sym (ap (λ (o : OpForm). length o.writes) i) ∙ ap length f.writes)))

    between : Judged (hoist_between p u t u.reads u.writes)
    between =
        let g : Fits (select t) (map kind u.reads) (map kind u.writes) (map var u.vars) =
        subst (λ x. Fits x (map kind u.reads) (map kind u.writes) (map var u.vars)) k (fit_at s.before u s.behind s.ops) in
        let r = one_mapped kind u.reads (Flat g.0) g.1 in
        let w = one_mapped kind u.writes (Flat g.0) g.2 in
        subst Judged (sym (ap (λ rs. hoist_between p u t rs u.writes) r.1 ∙ ap (hoist_between p u t (r.0 ∷ [])) w.1))
        (past r.0 w.0 r.1 w.1 (first_with (writes_it r.0) p.ops) refl)

  other : (u : OpForm) (k : Kern) → first_with (named_it l) p.ops ≡ Some u → u.kernel ≡ k → selecting k ≡ 0 → Judged (Err H1)
  other u k h e z = unselected (λ w t s.
      let d = same_Some u w (sym h ∙ selects_first w t s) in
      no_select k t z (sym e ∙ ap (λ (o : OpForm). o.kernel) d ∙ s.kernel))

  kernel : (u : OpForm) (k : Kern) → first_with (named_it l) p.ops ≡ Some u → u.kernel ≡ k → Judged (hoist_kernel p u k)
  kernel u (select t) h e = between u t h e
  kernel u any h e = other u any h e refl

  labelled : (o : Option OpForm) → first_with (named_it l) p.ops ≡ o → Judged (hoist_found p o)
  labelled None h = unselected (λ u t s. none-some u (sym h ∙ selects_first u t s))
  labelled (Some u) h = kernel u u.kernel h refl

  pub hoist_judged : Judged (hoist_of p l)
  hoist_judged = labelled (first_with (named_it l) p.ops) refl

  -- THE RESULT

  -- a plan that hoisting makes by its words is the one that it answers
  made_is : (p' : PlanForm) → IsHoisted p l p' → hoist_of p l ≡ Ok p'
  made_is p' k =
      let u = k.above in
      let b = k.below in
      let f = k.fed in
      let side = length k.left in
      let width = first_width (map kind b.reads) in
      let e : width ≡ k.width = ap (λ rs. first_width (map kind rs)) k.first.reads ∙ k.first.width in
      let goes = goes_passes width k.cond b.kernel side k.moved (subst (λ n. Goes n b.kernel k.cond side k.moved) (sym e) k.goes) in
      let src : slice_get b.reads side ≡ Some k.src = ap (λ rs. slice_get rs side) k.sides ∙ got_mid k.left k.src k.right in
      let feed = feeds b u k.mid k.cond f in
      let s : spliced side b.reads (k.mid ∷ []) ≡ k.left ++ k.mid ∷ k.right = ap (λ rs. spliced side rs (k.mid ∷ [])) k.sides
      ∙ spliced_cut k.left k.src k.right (k.mid ∷ []) in
      let ops : p'.ops ≡ replaced k.mid (raised u k.moved k.src k.mid ∷ lowered b side k.mid k.out ∷ []) p.ops =
      k.ops ∙ ap (λ rs. f.before ++ raised u k.moved k.src k.mid ∷ record b { reads = rs; writes = k.out ∷ [] } ∷ (f.middle ++ f.behind)) (sym s)
      ∙ sym (replaced_is p.ops k.mid b u (raised u k.moved k.src k.mid ∷ lowered b side k.mid k.out ∷ []) (cut p k.mid v b u feed)) in
      let a = ap (λ ds. count k.mid (decl_names ds)) k.queues in
      let c = ap (count k.mid) (names_append k.ahead (k.decl ∷ k.after)) ∙ count-append k.mid (decl_names k.ahead) (decl_names (k.decl ∷ k.after)) in
      let d = ap (λ n. count k.mid (n ∷ decl_names k.after)) k.named in
      let one = one_same k.mid in
      let o = v.queues_once k.mid in
      let n = names_of (decl_names p.outputs) (decl_names p.inputs) (decl_names p.queues) k.mid in
      let queues : p'.queues ≡ retyped k.mid (kind k.src) p.queues =
      k.queues' ∙ sym (retyped_cut k.ahead k.after k.decl k.mid (kind k.src) k.named (omega (arith, a, c, d, one, o, n)))
      ∙ sym (ap (retyped k.mid (kind k.src)) k.queues) in
      let same : hoisted_plan p u b side k.moved k.src k.mid k.out ≡ p' =
      λ i. record {
        outputs = sym k.outputs i;
        inputs = sym k.inputs i;
        queues = sym queues i;
        tables = sym k.tables i;
        vars = sym k.vars i;
        ops =
            sym ops i;
      } in
      hoist_upto p l u b k.cond k.mid k.out width (selects_first u k.cond (fed_selects b u k.mid k.cond f)) f.kernel
      (sym (ap (λ rs. slice_get rs 0) f.reads)) (sym (ap (λ rs. slice_get rs 0) k.wrote)) (written_first p k.mid v b u feed) (ap length f.writes) refl
      ∙ ap (hoist_passed p u b k.mid k.out) goes
      ∙ ap (hoist_at p u b k.mid k.out (side, k.moved)) src
      ∙ ap (λ x. Ok x) same

  pub one_hoisted : (a b : PlanForm) → IsHoisted p l a → IsHoisted p l b → a ≡ b
  one_hoisted a b k m = ok_same (hoist_of p l) a b (made_is a k) (made_is b m)

-- hoisting answers what its conditions say
pub hoisting_is_judged : HoistingIsJudged
hoisting_is_judged p l made v = judged_law (HoistFails p l) (IsHoisted p l) (hoist_of p l) (hoist_judged p l v) (one_hoisted p l v) made
