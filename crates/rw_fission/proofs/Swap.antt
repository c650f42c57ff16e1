-- One operator gives way to others.
use Rattle.std.proofs.Common.{◌≡◌, ℕ, ◌+◌, ◌<◌, ◌≤◌, Bool, List, [], ◌∷◌, ◌++◌, ℤ, refl, sym, ap, ◌∙◌, subst, arith}
use Rattle.std.specs.Prelude.{count_by}
use Rattle.river_plan.proofs.ValidLaw.{total-append}
use Rattle.river_base.proofs.PlaceLemmas.{if_lt, if_ge}
use Rattle.river_plan.specs.Forms.{Name, OpForm, PlanForm}
use Rattle.river_plan.specs.Names.{count}
use Rattle.river_plan.specs.Uses.{Each, total, writes_it, reads_it, named_it, and_writes, ReadsBefore}
use Rattle.river_plan.specs.Valid.{IsPlan}
use Rattle.brooklet_model.specs.Histories.{History, histories, adds, Solves}
use Rattle.brooklet_model.proofs.Lists.{funext}
use Rattle.brooklet_model.proofs.Solutions.{plan_solves, plan_unique}
use Rattle.brooklet_model.proofs.Traces.{adds_it, adds_total}
use Rattle.plan_edits.specs.Lists.{swapped}
use Rattle.plan_edits.proofs.Surgery.{after, before_more, before_append, before_front, before_back, Found, all_agree, adds_it_same}
use Rattle.river_plan.proofs.ShareLemmas.{each_append, each_front, each_back}

-- operators of other labels stay
pub swapped_past : (l : Name) (news xs ys : List OpForm) → total (named_it l) xs ≡ 0 → swapped l news (xs ++ ys) ≡ xs ++ swapped l news ys
swapped_past l news [] ys z = refl
swapped_past l news (x ∷ xs) ys z = if_ge 0 (named_it l x) _ _ (omega (arith, z)) ∙ ap (λ t. x ∷ t) (swapped_past l news xs ys (omega (arith, z)))

-- one operator gives way to others
pub record Swap (ops ops' : List OpForm) (op : OpForm) (put : List OpForm) : Type 0 where
  pub before : List OpForm
  pub behind : List OpForm
  pub is : ops ≡ before ++ op ∷ behind
  pub is' : ops' ≡ before ++ (put ++ behind)

-- the swap at the operator that was found
abbrev pub swap_of : (l : Name) (ops : List OpForm) (op : OpForm) (put : List OpForm) → Found (named_it l) ops op → Swap ops (swapped l put ops) op put
swap_of l ops op put f = record {
  before = f.before;
  behind = f.behind;
  is = f.is;
  is' = ap (swapped l put) f.is ∙ swapped_past l put f.before (op ∷ f.behind) f.none ∙ ap (λ t. f.before ++ t) (if_lt 0 (named_it l op) _ _ f.has);
}

module _ (ops ops' : List OpForm) (op : OpForm) (put : List OpForm) (e : Swap ops ops' op put) where
  -- at the operators that stay
  abbrev pub stay : (OpForm → ℕ) → ℕ
  stay f = total f e.before + total f e.behind

  -- a sum over the operators: those that stay, and the one
  pub sum_old : (f : OpForm → ℕ) → total f ops ≡ stay f + f op
  sum_old f = let a = ap (total f) e.is ∙ total-append f e.before (op ∷ e.behind) in omega (arith, a)

  -- a sum over the new operators: those that stay, and those that are put
  pub sum_new : (f : OpForm → ℕ) → total f ops' ≡ stay f + total f put
  sum_new f = let a = ap (total f) e.is' ∙ total-append f e.before (put ++ e.behind) in let b = total-append f put e.behind in omega (arith, a, b)

  -- what holds of all operators holds of the one
  pub it_is : (P : OpForm → Type 0) → Each P ops → P op
  it_is P h = (each_back P e.before (op ∷ e.behind) (subst (Each P) e.is h)).0

  -- what holds of those that stay, and of those that are put
  pub together : (P Q : OpForm → Type 0) → Each P ops → ((xs : List OpForm) → ((f : OpForm → ℕ) → total f xs ≤ stay f) → Each P xs → Each Q xs) → Each Q put
      → Each Q ops'
  together P Q h keep n =
      let h1 = subst (Each P) e.is h in
      subst (Each Q) (sym e.is')
      (each_append Q e.before (put ++ e.behind) (keep e.before (λ f. omega arith) (each_front P e.before (op ∷ e.behind) h1))
      (each_append Q put e.behind n (keep e.behind (λ f. omega arith) (each_back P e.before (op ∷ e.behind) h1).1)))

  -- what is put reads what was known, and writes all that is still read
  pub reordered : (k : Name → ℕ) → ReadsBefore k ops → ((k' : Name → ℕ) → ReadsBefore k' (op ∷ []) → ReadsBefore k' put)
      → ((q : Name) → 0 < stay (reads_it q) → count q op.writes ≤ total (writes_it q) put) → ReadsBefore k ops'
  reordered k h new more =
      let kb = after k e.before in
      let h1 = subst (ReadsBefore k) e.is h in
      let h2 = before_back e.before (op ∷ e.behind) k h1 in
      subst (ReadsBefore k) (sym e.is')
      (before_append e.before (put ++ e.behind) k (before_front e.before (op ∷ e.behind) k h1)
      (before_append put e.behind kb (new kb (h2.0, tt))
      (before_more e.behind (and_writes kb op) (after kb put) (λ q lr lt. let m = more q (omega (arith, lr)) in omega (arith, m, lt)) h2.1)))

-- histories that solve what is put, and are the old ones at all that stays, are the new plan's
module _ (p p' : PlanForm) (v : IsPlan p) (v' : IsPlan p') (op : OpForm) (put : List OpForm) (e : Swap p.ops p'.ops op put) (g h' : History)
    (s : Each (Solves h') put)
    (same : (q : Name) → 0 < stay p.ops p'.ops op put e (reads_it q) + stay p.ops p'.ops op put e (writes_it q) → histories p.ops g q ≡ h' q)
    (in_put : (q : Name) → total (writes_it q) p'.ops ≡ 0 → h' q ≡ g q)
  where
    -- so these are the histories of the new plan
    pub swapped_hist : (q : Name) → h' q ≡ histories p'.ops g q
    swapped_hist q =
        let h = histories p.ops g in
        plan_unique p' v' g h' in_put
        (together p.ops p'.ops op put e (Solves h) (Solves h') (plan_solves p v g)
        (λ xs le a. all_agree xs h h' (λ x lt. same x (let b = le (reads_it x) in let c = le (writes_it x) in omega (arith, b, c, lt))) a) s) q

    -- the rows added, but for those of what was taken and put
    pub swapped_adds : (tables : List Name) (t : Name) (test : List ℤ → Bool)
        → count_by test (adds tables p'.ops (histories p'.ops g) t) + adds_it tables (histories p.ops g) t test op ≡ count_by test
        (adds tables p.ops (histories p.ops g) t) + total (adds_it tables h' t test) put
    swapped_adds tables t test =
        let h = histories p.ops g in
        let a = ap (λ u. count_by test (adds tables p'.ops u t)) (funext (histories p'.ops g) h' (λ q. sym (swapped_hist q))) in
        let b = adds_total tables p'.ops h' t test in
        let c = adds_total tables p.ops h t test in
        let d = sum_new p.ops p'.ops op put e (adds_it tables h' t test) in
        let f = sum_old p.ops p'.ops op put e (adds_it tables h t test) in
        let x = adds_it_same tables e.before h h' t test (λ q lt. same q (omega (arith, lt))) in
        let y = adds_it_same tables e.behind h h' t test (λ q lt. same q (omega (arith, lt))) in
        omega (arith, a, b, c, d, f, x, y)
