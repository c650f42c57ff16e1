-- What operators give on the words that they received.
use Rattle.std.proofs.Common.{◌≡◌, ℕ, zero, suc, ◌+◌, ◌<◌, ◌≤◌, Some, List, [], ◌∷◌, ◌++◌, length, refl, sym, ◌∙◌, subst, arith, ⊎_elim, ◌⊎◌, inl, inr}
use Rattle.std.specs.Prelude.{slice_get}
use Rattle.std.proofs.lemmas.Option.{same_Some}
use Rattle.river_base.specs.declared.item.Item as item
use Rattle.river_plan.specs.Forms.{Name, OpForm, PlanForm}
use Rattle.river_plan.specs.Names.{count}
use Rattle.river_plan.specs.Uses.{total, writes_it, and_writes, ReadsBefore}
use Rattle.river_plan.specs.Valid.{IsPlan}
use Rattle.river_plan.proofs.NameLemmas.{more_or_zero}
use Rattle.brooklet_model.specs.Histories.{History, written, Lists}
use Rattle.brooklet_model.specs.Laws.{given_to}
use Rattle.brooklet_model.specs.Words.{Word}
use Rattle.brooklet_model.proofs.Solutions.{written_out, lists_written, lists_one}
use Rattle.brooklet_model.specs.Traced.{ran}
use Rattle.brooklet_model.specs.Received.{hist_from, hist_by}

-- the item behind a list of n items is at place n
pub got_mid : {A : Type 0} (xs ys : List A) (x : A) (n : ℕ) → length xs ≡ n → slice_get (xs ++ x ∷ ys) n ≡ Some x
got_mid [] ys x zero e = refl
got_mid [] ys x (suc n) e = absurd (omega (arith, e))
got_mid (a ∷ xs) ys x zero e = absurd (omega (arith, e))
got_mid (a ∷ xs) ys x (suc n) e = got_mid xs ys x n (omega (arith, e))

-- a queue that is written is written by an operator
pub writer_of : (ops : List OpForm) (q : Name) → 0 < total (writes_it q) ops → (o : ℕ) × (op : OpForm) × (slice_get ops o ≡ Some op) × (0 < count q op.writes)
writer_of [] q lt = absurd (omega (arith, lt))
writer_of (a ∷ ops) q lt = ⊎_elim
    (λ k. (0, a, refl, k))
    (λ z. let w = writer_of ops q (omega (arith, lt, z)) in (suc w.0, w.1, w.2, w.3))
    (more_or_zero (count q a.writes))

-- what an operator reads is known, or written by one before it
pub writer_before : (ops : List OpForm) (known : Name → ℕ) (o : ℕ) (op : OpForm) (q : Name) → slice_get ops o ≡ Some op → 0 < count q op.reads
    → ReadsBefore known ops
    → (0 < known q) ⊎ ((o' : ℕ) × (op' : OpForm) × (o' < o) × (slice_get ops o' ≡ Some op') × (0 < count q op'.writes))
writer_before [] known o op q g lt r = absurd (cc g)
writer_before (a ∷ ops) known zero op q g lt r = inl (r.0 q (subst (λ (b : OpForm). 0 < count q b.reads) (sym (same_Some a op g)) lt))
writer_before (a ∷ ops) known (suc o) op q g lt r = ⊎_elim
    (λ k. ⊎_elim (λ h. inl h) (λ z. inr (0, a, omega arith, refl, omega (arith, k, z))) (more_or_zero (known q)))
    (λ w. inr (suc w.0, w.1, omega (arith, w.2), w.3, w.4))
    (writer_before ops (and_writes known a) o op q g lt r.1)

-- what is not written stays
came_out : (ops : List OpForm) (o : ℕ) (ws : ℕ → Word) (h : History) (q : Name) → total (writes_it q) ops ≡ 0 → hist_from o ops ws h q ≡ h q
came_out [] o ws h q z = refl
came_out (op ∷ ops) o ws h q z = came_out ops (suc o) ws (written op.writes (ran op (ws o)).outs h) q (omega (arith, z))
    ∙ written_out op.writes (ran op (ws o)).outs h q (omega (arith, z))

-- what an operator gives is the histories that it writes, since nobody else writes them
came_lists : (ops : List OpForm) (o : ℕ) (ws : ℕ → Word) (h : History) → ((q : Name) → total (writes_it q) ops ≤ 1) → (i : ℕ) (op : OpForm)
    → slice_get ops i ≡ Some op
    → Lists op.writes (ran op (ws (o + i))).outs (hist_from o ops ws h)
came_lists [] o ws h once i op g = absurd (cc g)
came_lists (a ∷ ops) o ws h once zero op g =
    let z : o ≡ o + 0 = omega arith in
    subst (λ (b : OpForm). Lists b.writes (ran b (ws (o + 0))).outs (hist_from o (a ∷ ops) ws h)) (same_Some a op g)
    (subst (λ n. Lists a.writes (ran a (ws n)).outs (hist_from o (a ∷ ops) ws h)) z
    (lists_written a.writes (ran a (ws o)).outs h (hist_from o (a ∷ ops) ws h)
    (λ q. let w = once q in omega (arith, w))
    (λ q lt. came_out ops (suc o) ws (written a.writes (ran a (ws o)).outs h) q (let w = once q in omega (arith, w, lt)))))
came_lists (a ∷ ops) o ws h once (suc i) op g =
    let z : suc o + i ≡ o + suc i = omega arith in
    subst (λ n. Lists op.writes (ran op (ws n)).outs (hist_from o (a ∷ ops) ws h)) z
    (came_lists ops (suc o) ws (written a.writes (ran a (ws o)).outs h) (λ q. let w = once q in omega (arith, w)) i op g)

-- each operator's outputs are the histories of the queues that it writes
pub by_words : (p : PlanForm) (inputs : List (List item.Item)) (ws : ℕ → Word) → IsPlan p → (o : ℕ) (op : OpForm) → slice_get p.ops o ≡ Some op
    → Lists op.writes (ran op (ws o)).outs (hist_by p inputs ws)
by_words p inputs ws v o op g =
    let z : 0 + o ≡ o = omega arith in
    subst (λ n. Lists op.writes (ran op (ws n)).outs (hist_by p inputs ws)) z
    (came_lists p.ops 0 ws (given_to p inputs) (λ q. let w = v.written_once q in omega (arith, w)) o op g)

-- the history of a queue that nobody writes is the input
pub unwritten_by : (p : PlanForm) (inputs : List (List item.Item)) (ws : ℕ → Word) (q : Name) → total (writes_it q) p.ops ≡ 0
    → hist_by p inputs ws q ≡ given_to p inputs q
unwritten_by p inputs ws q z = came_out p.ops 0 ws (given_to p inputs) q z

-- whatever has these outputs has these histories
pub only_words : (p : PlanForm) (inputs : List (List item.Item)) (ws : ℕ → Word) (h : History) → IsPlan p
    → ((o : ℕ) (op : OpForm) → slice_get p.ops o ≡ Some op → Lists op.writes (ran op (ws o)).outs h)
    → ((q : Name) → total (writes_it q) p.ops ≡ 0 → h q ≡ given_to p inputs q)
    → (q : Name) → h q ≡ hist_by p inputs ws q
only_words p inputs ws h v l u q = ⊎_elim
    (λ k. let w = writer_of p.ops q k in lists_one w.1.writes (ran w.1 (ws w.0)).outs h (hist_by p inputs ws) (l w.0 w.1 w.2)
    (by_words p inputs ws v w.0 w.1 w.2) q w.3)
    (λ z. u q z ∙ sym (unwritten_by p inputs ws q z))
    (more_or_zero (total (writes_it q) p.ops))
