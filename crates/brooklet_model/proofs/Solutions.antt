-- A plan's histories are the one solution of its operators' equations.
use Rattle.std.proofs.Common.{◌≡◌, ℕ, zero, suc, ◌+◌, ◌<◌, ◌≤◌, List, [], ◌∷◌, refl, sym, ap, ◌∙◌, subst, arith, ⊎_elim}
use Rattle.river_base.proofs.PlaceLemmas.{if_true, if_false}
use Rattle.river_base.specs.declared.item.Item as item
use Rattle.river_base.specs.Name.{name_eq}
use Rattle.river_plan.specs.Forms.{Name, OpForm, PlanForm, decl_names}
use Rattle.river_plan.specs.Names.{one_if, count}
use Rattle.river_plan.specs.Uses.{Each, total, writes_it, and_writes, ReadsBefore}
use Rattle.river_plan.specs.Valid.{IsPlan}
use Rattle.river_plan.proofs.NameLemmas.{cases_name, one_same, more_or_zero}
use Rattle.brooklet_model.specs.Fire.{first_kept}
use Rattle.brooklet_model.specs.Histories.{History, lists_of, given_on, written, histories, Lists, Solves}
use Rattle.brooklet_model.specs.Laws.{given_to, HistoriesSolve, OneSolution}
use Rattle.brooklet_model.specs.Words.{feed_all}
use Rattle.brooklet_model.proofs.Lists.{funext}

-- the first name of a list stands in it
pub count_here : (w : Name) (ws : List Name) → 0 < count w (w ∷ ws)
count_here w ws = let e = one_same w in omega (arith, e)

-- equal names count as one
pub one_of : (a b : Name) → a ≡ b → one_if (name_eq a b) ≡ 1
one_of a b e = subst (λ c. one_if (name_eq a c) ≡ 1) e (one_same a)

-- the same histories at what is read
pub lists_by_place : (h h' : History) (rs : List Name) → ((q : Name) → 0 < count q rs → h q ≡ h' q) → (p : ℕ) → lists_of h rs p ≡ lists_of h' rs p
lists_by_place h h' [] e p = refl
lists_by_place h h' (r ∷ rs) e zero = e r (count_here r rs)
lists_by_place h h' (r ∷ rs) e (suc p) = lists_by_place h h' rs (λ q lt. e q (omega (arith, lt))) p

pub lists_same : (h h' : History) (rs : List Name) → ((q : Name) → 0 < count q rs → h q ≡ h' q) → lists_of h rs ≡ lists_of h' rs
lists_same h h' rs e = funext (lists_of h rs) (lists_of h' rs) (lists_by_place h h' rs e)

-- an operator gives the same for histories that agree at what it reads
pub given_same : (op : OpForm) (h h' : History) → ((q : Name) → 0 < count q op.reads → h q ≡ h' q) → given_on op h ≡ given_on op h'
given_same op h h' e = ap (λ l. feed_all op.kernel l (first_kept op.kernel)) (lists_same h h' op.reads e)

-- two that have these lists are the same there
pub lists_one : (ws : List Name) (f : ℕ → List item.Item) (h h' : History) → Lists ws f h → Lists ws f h' → (q : Name) → 0 < count q ws → h q ≡ h' q
lists_one [] f h h' a b q lt = absurd (omega (arith, lt))
lists_one (w ∷ ws) f h h' a b q lt = ⊎_elim
    (λ c. subst (λ n. h n ≡ h' n) c.0 (a.0 ∙ sym b.0))
    (λ c. lists_one ws (λ j. f (suc j)) h h' a.1 b.1 q (let e = ap one_if c.1 in omega (arith, lt, e)))
    (cases_name w q)

pub unique : (ops : List OpForm) (known : Name → ℕ) (h h' : History) → ((q : Name) → 0 < known q → h q ≡ h' q) → ReadsBefore known ops → Each (Solves h) ops
    → Each (Solves h') ops → (q : Name) → 0 < known q + total (writes_it q) ops → h q ≡ h' q
unique [] known h h' e r s s' q lt = e q (omega (arith, lt))
unique (op ∷ ops) known h h' e r s s' q lt =
    let g = given_same op h h' (λ p lp. e p (r.0 p lp)) in
    let s1 : Lists op.writes (given_on op h').outs h = subst (λ f. Lists op.writes f.outs h) g s.0 in
    unique ops (and_writes known op) h h'
    (λ p lp. ⊎_elim (λ k. e p k) (λ z. lists_one op.writes (given_on op h').outs h h' s1 s'.0 p (omega (arith, lp, z))) (more_or_zero (known p)))
    r.1 s.1 s'.1 q (omega (arith, lt))

-- what is not written stays
pub written_out : (ws : List Name) (f : ℕ → List item.Item) (h : History) (q : Name) → count q ws ≡ 0 → written ws f h q ≡ h q
written_out [] f h q z = refl
written_out (w ∷ ws) f h q z = ⊎_elim
    (λ c. absurd (let e = ap one_if c.1 in omega (arith, e, z)))
    (λ c. if_false (name_eq w q) _ _ c.1 ∙ written_out ws (λ j. f (suc j)) h q (omega (arith, z)))
    (cases_name w q)

-- a queue that no operator writes keeps its history
pub stays : (ops : List OpForm) (h : History) (q : Name) → total (writes_it q) ops ≡ 0 → histories ops h q ≡ h q
stays [] h q z = refl
stays (op ∷ ops) h q z = stays ops (written op.writes (given_on op h).outs h) q (omega (arith, z))
    ∙ written_out op.writes (given_on op h).outs h q (omega (arith, z))

-- a list whose names stand once each is written place by place
pub lists_written : (ws : List Name) (f : ℕ → List item.Item) (h g : History) → ((q : Name) → count q ws ≤ 1)
    → ((q : Name) → 0 < count q ws → g q ≡ written ws f h q) → Lists ws f g
lists_written [] f h g once e = tt
lists_written (w ∷ ws) f h g once e = (
  e w (count_here w ws) ∙ if_true (name_eq w w) _ _ (⊎_elim (λ c. c.1) (λ c. absurd (c.0 refl)) (cases_name w w)),
  lists_written ws (λ j. f (suc j)) h g
      (λ q. let o = once q in omega (arith, o))
      (λ q lt. e q (omega (arith, lt)) ∙ ⊎_elim
      (λ c. absurd (let o = once q in let k = ap one_if c.1 in omega (arith, o, k, lt)))
      (λ c. if_false (name_eq w q) _ _ c.1)
      (cases_name w q)),
)

pub solves : (ops : List OpForm) (known : Name → ℕ) (h : History) → ReadsBefore known ops → ((q : Name) → 0 < known q → total (writes_it q) ops ≡ 0)
    → ((q : Name) → total (writes_it q) ops ≤ 1) → Each (Solves (histories ops h)) ops
solves [] known h r k once = tt
solves (op ∷ ops) known h r k once =
    let h1 = written op.writes (given_on op h).outs h in
    let last = histories ops h1 in
    let g : given_on op h ≡ given_on op last = given_same op h last (λ q lt.
    let z = k q (r.0 q lt) in
    sym (stays ops h1 q (omega (arith, z)) ∙ written_out op.writes (given_on op h).outs h q (omega (arith, z)))) in (
      subst (λ f. Lists op.writes f.outs last) g
          (lists_written op.writes (given_on op h).outs h last
          (λ q. let o = once q in omega (arith, o))
          (λ q lt. stays ops h1 q (let o = once q in omega (arith, o, lt)))),
      solves ops (and_writes known op) h1 r.1
          (λ q lt. ⊎_elim (λ p. let z = k q p in omega (arith, z)) (λ z. let o = once q in omega (arith, o, z, lt)) (more_or_zero (known q)))
          (λ q. let o = once q in omega (arith, o)),
    )

-- the histories of a plan solve the equations of its operators
pub plan_solves : (p : PlanForm) → IsPlan p → (g : History) → Each (Solves (histories p.ops g)) p.ops
plan_solves p v g = solves p.ops (λ q. count q (decl_names p.inputs)) g v.in_order
    (λ q lt. let o = v.written_once q in omega (arith, o, lt))
    (λ q. let o = v.written_once q in omega (arith, o))

-- whatever solves a valid plan's equations is its histories
pub plan_unique : (p : PlanForm) → IsPlan p → (g h : History) → ((q : Name) → total (writes_it q) p.ops ≡ 0 → h q ≡ g q) → Each (Solves h) p.ops → (q : Name)
    → h q ≡ histories p.ops g q
plan_unique p v g h e s q = ⊎_elim
    (λ lt. unique p.ops (λ x. count x (decl_names p.inputs)) h (histories p.ops g)
    (λ x lx. let z : total (writes_it x) p.ops ≡ 0 = (let o = v.written_once x in omega (arith, o, lx)) in e x z ∙ sym (stays p.ops g x z))
    v.in_order s (plan_solves p v g) q (omega (arith, lt)))
    (λ z. e q z ∙ sym (stays p.ops g q z))
    (more_or_zero (total (writes_it q) p.ops))

-- the histories of every valid plan do
pub solve_law : HistoriesSolve
solve_law p inputs v = (plan_solves p v (given_to p inputs), λ q z. stays p.ops (given_to p inputs) q z)

-- nothing else does
pub one_solution_law : OneSolution
one_solution_law p inputs h v s e q = plan_unique p v (given_to p inputs) h e s q
