-- Two operators (or one) are taken out of a plan, and others are put in the place of the first.
use Rattle.std.proofs.Common.{◌≡◌, ℕ, ◌+◌, ◌<◌, ◌≤◌, Bool, Some, ℤ, List, [], ◌∷◌, ◌++◌, refl, sym, ap, ◌∙◌, subst, arith, ⊎_elim}
use Rattle.std.specs.Prelude.{count_by}
use Rattle.river_plan.proofs.ValidLaw.{total-append}
use Rattle.river_base.proofs.PlaceLemmas.{if_lt, if_ge}
use Rattle.river_plan.specs.Forms.{Name, OpForm, PlanForm, decl_names}
use Rattle.river_plan.specs.Names.{count}
use Rattle.river_plan.specs.Uses.{Each, total, writes_it, reads_it, ReadsBefore}
use Rattle.river_plan.specs.Valid.{IsPlan}
use Rattle.river_plan.proofs.NameLemmas.{more_or_zero}
use Rattle.river_plan.proofs.ShareLemmas.{each_append, each_front, each_back}
use Rattle.brooklet_model.specs.Histories.{History, histories, adds, Solves}
use Rattle.brooklet_model.proofs.Lists.{funext}
use Rattle.brooklet_model.proofs.Solutions.{plan_solves, plan_unique}
use Rattle.brooklet_model.proofs.Traces.{adds_it, adds_total}
use Rattle.plan_edits.specs.Lists.{first_with, replaced}
use Rattle.plan_edits.proofs.Surgery.{after, before_more, before_append, before_front, before_back, unread, found, first_past, all_agree}
use Rattle.plan_edits.proofs.Surgery.{adds_it_same}

-- two runs of operators are taken out, and others are put in the place of the first
pub record Edit (ops ops' : List OpForm) : Type 0 where
  pub before : List OpForm
  pub first : List OpForm
  pub middle : List OpForm
  pub second : List OpForm
  pub behind : List OpForm
  pub put : List OpForm
  pub is : ops ≡ before ++ (first ++ (middle ++ (second ++ behind)))
  pub is' : ops' ≡ before ++ (put ++ (middle ++ behind))

-- at an operator that stays
abbrev pub Stays : (ops ops' : List OpForm) → Edit ops ops' → (OpForm → ℕ) → ℕ
Stays ops ops' e f = total f e.before + (total f e.middle + total f e.behind)

module _ (ops ops' : List OpForm) (e : Edit ops ops') where
  -- a sum over the operators: those that stay, and those that are taken out
  pub sum_old : (f : OpForm → ℕ) → total f ops ≡ Stays ops ops' e f + (total f e.first + total f e.second)
  sum_old f =
      let a = ap (total f) e.is ∙ total-append f e.before (e.first ++ (e.middle ++ (e.second ++ e.behind))) in
      let b = total-append f e.first (e.middle ++ (e.second ++ e.behind)) in
      let c = total-append f e.middle (e.second ++ e.behind) in
      let d = total-append f e.second e.behind in
      omega (arith, a, b, c, d)

  -- a sum over the new operators: those that stay, and those that are put
  pub sum_new : (f : OpForm → ℕ) → total f ops' ≡ Stays ops ops' e f + total f e.put
  sum_new f =
      let a = ap (total f) e.is' ∙ total-append f e.before (e.put ++ (e.middle ++ e.behind)) in
      let b = total-append f e.put (e.middle ++ e.behind) in
      let c = total-append f e.middle e.behind in
      omega (arith, a, b, c)

  -- a property of each of the five parts
  pub record Parts (P : OpForm → Type 0) : Type 0 where
    pub front : Each P e.before
    pub one : Each P e.first
    pub mid : Each P e.middle
    pub two : Each P e.second
    pub back : Each P e.behind

  -- what holds of all operators holds of the parts
  pub parts : (P : OpForm → Type 0) → Each P ops → Parts P
  parts P h =
      let h1 = subst (Each P) e.is h in
      let h2 = each_back P e.before (e.first ++ (e.middle ++ (e.second ++ e.behind))) h1 in
      let h3 = each_back P e.first (e.middle ++ (e.second ++ e.behind)) h2 in
      let h4 = each_back P e.middle (e.second ++ e.behind) h3 in
      record {
        front = each_front P e.before (e.first ++ (e.middle ++ (e.second ++ e.behind))) h1;
        one = each_front P e.first (e.middle ++ (e.second ++ e.behind)) h2;
        mid = each_front P e.middle (e.second ++ e.behind) h3;
        two = each_front P e.second e.behind h4;
        back = each_back P e.second e.behind h4;
      }

  -- what holds of the parts that stay, and of what is put, holds of all new operators
  pub together : (P : OpForm → Type 0) → Each P e.before → Each P e.put → Each P e.middle → Each P e.behind → Each P ops'
  together P a n b c =
      subst (Each P) (sym e.is')
      (each_append P e.before (e.put ++ (e.middle ++ e.behind)) a (each_append P e.put (e.middle ++ e.behind) n (each_append P e.middle e.behind b c)))

  -- what is put reads what was known, and writes all that is still read
  pub reordered : (k : Name → ℕ) → ReadsBefore k ops → (ReadsBefore (after k e.before) e.first → ReadsBefore (after k e.before) e.put)
      → ((q : Name) → 0 < total (reads_it q) e.middle + total (reads_it q) e.behind
      → total (writes_it q) e.first + total (writes_it q) e.second ≤ total (writes_it q) e.put)
      → ReadsBefore k ops'
  reordered k h new more =
      let kb = after k e.before in
      let rest2 : List OpForm = e.second ++ e.behind in
      let rest1 : List OpForm = e.middle ++ rest2 in
      let h1 = subst (ReadsBefore k) e.is h in
      let h2 = before_back e.before (e.first ++ rest1) k h1 in
      let h3 = before_back e.first rest1 kb h2 in
      let h4 = before_back e.middle rest2 (after kb e.first) h3 in
      let h5 = before_back e.second e.behind (after (after kb e.first) e.middle) h4 in
      subst (ReadsBefore k) (sym e.is')
      (before_append e.before (e.put ++ (e.middle ++ e.behind)) k (before_front e.before (e.first ++ rest1) k h1)
      (before_append e.put (e.middle ++ e.behind) kb (new (before_front e.first rest1 kb h2))
      (before_append e.middle e.behind (after kb e.put)
      (before_more e.middle (after kb e.first) (after kb e.put) (λ q lr lt. let m = more q (omega (arith, lr)) in omega (arith, m, lt))
      (before_front e.middle rest2 (after kb e.first) h3))
      (before_more e.behind (after (after (after kb e.first) e.middle) e.second) (after (after kb e.put) e.middle)
      (λ q lr lt. let m = more q (omega (arith, lr)) in omega (arith, m, lt)) h5))))

module _ (p p' : PlanForm) (v : IsPlan p) (v' : IsPlan p') (e : Edit p.ops p'.ops) (g h' : History)
    (s : Each (Solves h') e.put)
    (same : (q : Name) → 0 < Stays p.ops p'.ops e (reads_it q) + Stays p.ops p'.ops e (writes_it q) → histories p.ops g q ≡ h' q)
    (in_put : (q : Name) → total (writes_it q) p'.ops ≡ 0 → h' q ≡ g q)
  where
    -- histories that solve what is put, and are the old ones at all that stays, are those of the new plan
    pub edited : (q : Name) → h' q ≡ histories p'.ops g q
    edited q =
        let h = histories p.ops g in
        let a = parts p.ops p'.ops e (Solves h) (plan_solves p v g) in
        let go = λ (xs : List OpForm)
        (le : (q : Name) → 0 < total (reads_it q) xs + total (writes_it q) xs → 0 < Stays p.ops p'.ops e (reads_it q) + Stays p.ops p'.ops e (writes_it q))
        (hs : Each (Solves h) xs). all_agree xs h h' (λ q lt. same q (le q lt)) hs in
        plan_unique p' v' g h' in_put
        (together p.ops p'.ops e (Solves h')
        (go e.before (λ q lt. omega (arith, lt)) a.front) s (go e.middle (λ q lt. omega (arith, lt)) a.mid) (go e.behind (λ q lt. omega (arith, lt)) a.back)) q

    -- the rows, but for those of what was taken and put
    pub edited_adds : (tables : List Name) (t : Name) (test : List ℤ → Bool)
        → count_by test (adds tables p'.ops (histories p'.ops g) t) +
        (total (adds_it tables (histories p.ops g) t test) e.first + total (adds_it tables (histories p.ops g) t test) e.second) ≡ count_by test
        (adds tables p.ops (histories p.ops g) t) + total (adds_it tables h' t test) e.put
    edited_adds tables t test =
        let h = histories p.ops g in
        let a = ap (λ u. count_by test (adds tables p'.ops u t)) (funext (histories p'.ops g) h' (λ q. sym (edited q))) in
        let b = adds_total tables p'.ops h' t test in
        let c = adds_total tables p.ops h t test in
        let d = sum_new p.ops p'.ops e (adds_it tables h' t test) in
        let f = sum_old p.ops p'.ops e (adds_it tables h t test) in
        let x = adds_it_same tables e.before h h' t test (λ q lt. same q (omega (arith, lt))) in
        let y = adds_it_same tables e.middle h h' t test (λ q lt. same q (omega (arith, lt))) in
        let z = adds_it_same tables e.behind h h' t test (λ q lt. same q (omega (arith, lt))) in
        omega (arith, a, b, c, d, f, x, y, z)

-- the writer of a queue and its reader
pub record Cut (ops : List OpForm) (q : Name) (w r : OpForm) : Type 0 where
  pub before : List OpForm
  pub middle : List OpForm
  pub behind : List OpForm
  pub is : ops ≡ before ++ w ∷ (middle ++ r ∷ behind)
  pub w_writes : 0 < count q w.writes
  pub r_reads : 0 < count q r.reads
  pub w_reads : count q w.reads ≡ 0
  pub r_writes : count q r.writes ≡ 0
  pub before_w : total (writes_it q) before ≡ 0
  pub before_r : total (reads_it q) before ≡ 0
  pub middle_w : total (writes_it q) middle ≡ 0
  pub middle_r : total (reads_it q) middle ≡ 0
  pub behind_w : total (writes_it q) behind ≡ 0
  pub behind_r : total (reads_it q) behind ≡ 0

-- in a valid plan, all that is written to a queue stands before its reader
pub cut_of : (p : PlanForm) (q : Name) (w r : OpForm) → IsPlan p → first_with (writes_it q) p.ops ≡ Some w → first_with (reads_it q) p.ops ≡ Some r
    → Cut p.ops q w r
cut_of p q w r v mw mr =
    let k : Name → ℕ = λ x. count x (decl_names p.inputs) in
    let fw = found (writes_it q) p.ops w mw in
    let b = fw.before in let x = fw.behind in
    let tw = ap (total (writes_it q)) fw.is ∙ total-append (writes_it q) b (w ∷ x) in
    let tr = ap (total (reads_it q)) fw.is ∙ total-append (reads_it q) b (w ∷ x) in
    let once = v.written_once q in
    let once_r = v.read_once q in
    let has = fw.has in
    let none = fw.none in
    let z : count q (decl_names p.inputs) ≡ 0 = omega (arith, tw, once, has) in
    let zx : total (writes_it q) x ≡ 0 = omega (arith, tw, once, has) in
    let order = subst (ReadsBefore k) fw.is v.in_order in
    let ub = unread b k q (before_front b (w ∷ x) k order) z none in
    let wk = (before_back b (w ∷ x) k order).0 q in
    let w_reads : count q w.reads ≡ 0 = ⊎_elim (λ lt. absurd (let c = wk lt in omega (arith, c, z, none))) (λ n. n) (more_or_zero (count q w.reads)) in
    let at_x : first_with (reads_it q) x ≡ Some r =
    sym (if_ge 0 (count q w.reads) (Some w) (first_with (reads_it q) x) (omega (arith, w_reads)))
    ∙ sym (first_past (reads_it q) b (w ∷ x) ub) ∙ sym (ap (first_with (reads_it q)) fw.is) ∙ mr in
    let fr = found (reads_it q) x r at_x in
    let mid = fr.before in let a = fr.behind in
    let tw' = ap (total (writes_it q)) fr.is ∙ total-append (writes_it q) mid (r ∷ a) in
    let tr' = ap (total (reads_it q)) fr.is ∙ total-append (reads_it q) mid (r ∷ a) in
    let has_r = fr.has in
    let none_r = fr.none in
    record {
      before = b;
      middle = mid;
      behind = a;
      is = fw.is ∙ ap (λ l. b ++ w ∷ l) fr.is;
      w_writes = has;
      r_reads = has_r;
      w_reads = w_reads;
      r_writes = omega (arith, tw', zx);
      before_w = none;
      before_r = ub;
      middle_w = omega (arith, tw', zx);
      middle_r = none_r;
      behind_w = omega (arith, tw', zx);
      behind_r = omega (arith, tr, tr', once_r, has_r);
    }

replaced_past : (q : Name) (news xs ys : List OpForm) → total (writes_it q) xs ≡ 0 → total (reads_it q) xs ≡ 0
    → replaced q news (xs ++ ys) ≡ xs ++ replaced q news ys
replaced_past q news [] ys a b = refl
replaced_past q news (x ∷ xs) ys a b =
    if_ge 0 (count q x.writes) _ _ (omega (arith, a)) ∙ if_ge 0 (count q x.reads) _ _ (omega (arith, b))
    ∙ ap (λ l. x ∷ l) (replaced_past q news xs ys (omega (arith, a)) (omega (arith, b)))

replaced_all : (q : Name) (news xs : List OpForm) → total (writes_it q) xs ≡ 0 → total (reads_it q) xs ≡ 0 → replaced q news xs ≡ xs
replaced_all q news [] a b = refl
replaced_all q news (x ∷ xs) a b =
    if_ge 0 (count q x.writes) _ _ (omega (arith, a)) ∙ if_ge 0 (count q x.reads) _ _ (omega (arith, b))
    ∙ ap (λ l. x ∷ l) (replaced_all q news xs (omega (arith, a)) (omega (arith, b)))

-- what the replacing makes of the operators that are cut there
pub replaced_is : (ops : List OpForm) (q : Name) (w r : OpForm) (news : List OpForm) (c : Cut ops q w r)
    → replaced q news ops ≡ c.before ++ (news ++ (c.middle ++ c.behind))
replaced_is ops q w r news c =
    ap (replaced q news) c.is
    ∙ replaced_past q news c.before _ c.before_w c.before_r
    ∙ ap (λ l. c.before ++ l) (if_lt 0 (count q w.writes) _ _ c.w_writes
    ∙ ap (λ l. news ++ l) (replaced_past q news c.middle _ c.middle_w c.middle_r
    ∙ ap (λ l. c.middle ++ l) (if_ge 0 (count q r.writes) _ _ (let z = c.r_writes in omega (arith, z))
    ∙ if_lt 0 (count q r.reads) _ _ c.r_reads
    ∙ replaced_all q news c.behind c.behind_w c.behind_r)))

-- the replacing as an edit
abbrev pub edit_of : (ops : List OpForm) (q : Name) (w r : OpForm) (news : List OpForm) → Cut ops q w r → Edit ops (replaced q news ops)
edit_of ops q w r news c =
    record {
      before = c.before;
      first = w ∷ [];
      middle = c.middle;
      second = r ∷ [];
      behind = c.behind;
      put = news;
      is = c.is;
      is' =
          replaced_is ops q w r news c;
    }
