-- There are few moves.
use Rattle.std.proofs.Common.{◌≡◌, ℕ, suc, ◌+◌, ◌<◌, ◌≤◌, Some, List, [], ◌∷◌, ◌++◌, length, refl, sym, ap, ◌∙◌, subst, arith, ⊎_elim, length-append}
use Rattle.std.specs.Prelude.{if◌then◌else◌, slice_get}
use Rattle.std.proofs.lemmas.Option.{slice_get_within}
use Rattle.river_base.proofs.PlaceLemmas.{if_true, if_false}
use Rattle.river_base.specs.declared.item.Item as item
use Rattle.river_base.specs.Name.{name_eq}
use Rattle.river_plan.specs.Forms.{Name, OpForm, decl_names, queue_names}
use Rattle.river_plan.specs.Names.{one_if, count}
use Rattle.river_plan.specs.Uses.{total, writes_it, reads_it}
use Rattle.river_plan.proofs.NameLemmas.{cases_name, more_or_zero, count-append, one_same}
use Rattle.brooklet_model.specs.Fire.{ins}
use Rattle.brooklet_model.specs.Histories.{History, lists_of, hist, Lists, lengths}
use Rattle.brooklet_model.specs.Words.{Word, PortsBelow, port_by_port}
use Rattle.brooklet_model.proofs.Complete.{nothing_given}
use Rattle.brooklet_model.proofs.Traces.{word_lengths, got_read}
use Rattle.river_base.specs.Places.{list_at}
use Rattle.brooklet_model.specs.NetLaws.{MovesAreFew}
use Rattle.brooklet_model.specs.Traced.{ran}
use Rattle.brooklet_model.specs.Received.{hist_by, IsFront, lengths_at, moves_from}
use Rattle.brooklet_model.proofs.Received.{by_words}
use Rattle.brooklet_model.proofs.Complete.{reads_are}
use Rattle.brooklet_model.proofs.Fronts.{front_length, rests, filled, filled_is, early_words, all_fronts, at_ports, below_ins}

lengths-append : (h : History) (xs ys : List Name) → lengths h (xs ++ ys) ≡ lengths h xs + lengths h ys
lengths-append h [] ys = omega arith
lengths-append h (x ∷ xs) ys = let i = lengths-append h xs ys in omega (arith, i)

-- the list without one that is there
without : Name → List Name → List Name
without q [] = []
without q (w ∷ ws) = if name_eq w q then ws else w ∷ without q ws

without_lengths : (h : History) (q : Name) (ws : List Name) → 0 < count q ws → lengths h ws ≡ length (h q) + lengths h (without q ws)
unfolding without
without_lengths h q [] lt = absurd (omega (arith, lt))
without_lengths h q (w ∷ ws) lt = ⊎_elim
    (λ c. let e = ap (lengths h) (if_true (name_eq w q) ws (w ∷ without q ws) c.1) in let d = ap (λ n. length (h n)) c.0 in omega (arith, e, d))
    (λ c. let e = ap (lengths h) (if_false (name_eq w q) ws (w ∷ without q ws) c.1) in let o = ap one_if c.1 in
    let i = without_lengths h q ws (omega (arith, o, lt)) in omega (arith, e, i))
    (cases_name w q)

without_count : (q n : Name) (ws : List Name) → 0 < count q ws → count n ws ≡ one_if (name_eq q n) + count n (without q ws)
unfolding without
without_count q n [] lt = absurd (omega (arith, lt))
without_count q n (w ∷ ws) lt = ⊎_elim
    (λ c. let e = ap (count n) (if_true (name_eq w q) ws (w ∷ without q ws) c.1) in let d = ap (λ (x : Name). one_if (name_eq x n)) c.0 in omega (arith, e, d))
    (λ c. let e = ap (count n) (if_false (name_eq w q) ws (w ∷ without q ws) c.1) in let o = ap one_if c.1 in
    let i = without_count q n ws (omega (arith, o, lt)) in omega (arith, e, i))
    (cases_name w q)

-- fewer names have fewer items
sub_lengths : (h : History) (rs qs : List Name) → ((q : Name) → count q rs ≤ count q qs) → lengths h rs ≤ lengths h qs
sub_lengths h [] qs e = omega arith
sub_lengths h (r ∷ rs) qs e =
    let o = one_same r in
    let c = e r in
    let lt : 0 < count r qs = omega (arith, o, c) in
    let a = without_lengths h r qs lt in
    let i = sub_lengths h rs (without r qs) (λ q. let x = e q in let y = without_count r q qs lt in omega (arith, x, y)) in
    omega (arith, a, i)

-- the names of all operators, by a list of each
flat : (OpForm → List Name) → List OpForm → List Name
flat f [] = []
flat f (op ∷ ops) = f op ++ flat f ops

flat_count : (f : OpForm → List Name) (ops : List OpForm) (q : Name) → count q (flat f ops) ≡ total (λ op. count q (f op)) ops
unfolding flat
flat_count f [] q = refl
flat_count f (op ∷ ops) q = let i = flat_count f ops q in let c = count-append q (f op) (flat f ops) in omega (arith, i, c)

flat_lengths : (h : History) (f : OpForm → List Name) (ops : List OpForm) → lengths h (flat f ops) ≡ total (λ op. lengths h (f op)) ops
unfolding flat
flat_lengths h f [] = refl
flat_lengths h f (op ∷ ops) = let i = flat_lengths h f ops in let c = lengths-append h (f op) (flat f ops) in omega (arith, i, c)

total_lengths : (h : History) (f : OpForm → List Name) (ops : List OpForm) (qs : List Name) → ((q : Name) → total (λ op. count q (f op)) ops ≤ count q qs)
    → total (λ op. lengths h (f op)) ops ≤ lengths h qs
total_lengths h f ops qs e =
    let a = flat_lengths h f ops in
    let b = sub_lengths h (flat f ops) qs (λ q. let x = e q in let y = flat_count f ops q in omega (arith, x, y)) in
    omega (arith, a, b)

-- the lists of an operator's outputs are as long as the histories
pub lists_lengths : (ws : List Name) (f : ℕ → List item.Item) (h : History) → Lists ws f h → lengths_at ws f ≡ lengths h ws
lists_lengths [] f h l = refl
lists_lengths (w ∷ ws) f h l = let e = ap length l.0 in let i = lists_lengths ws (λ j. f (suc j)) h l.1 in omega (arith, e, i)

longer : (ws : List Name) (h h' : History) → ((q : Name) → IsFront (h q) (h' q)) → lengths h ws ≤ lengths h' ws
longer [] h h' e = omega arith
longer (w ∷ ws) h h' e = let a = front_length (h w) (h' w) (e w) in let i = longer ws h h' e in omega (arith, a, i)

moves_most : (ops : List OpForm) (o : ℕ) (ws : ℕ → Word) (sent : ℕ → ℕ) (h : History)
    → ((i : ℕ) (op : OpForm) → slice_get ops i ≡ Some op → (length (ws (o + i)) ≤ lengths h op.reads) × (sent (o + i) ≤ lengths h op.writes))
    → moves_from o ops ws sent ≤ total (λ op. lengths h op.reads) ops + total (λ op. lengths h op.writes) ops
moves_most [] o ws sent h e = omega arith
moves_most (op ∷ ops) o ws sent h e =
    let z : o + 0 ≡ o = omega arith in
    let a : (length (ws o) ≤ lengths h op.reads) × (sent o ≤ lengths h op.writes) = subst
    (λ n. (length (ws n) ≤ lengths h op.reads) × (sent n ≤ lengths h op.writes)) z (e 0 op refl) in
    let i = moves_most ops (suc o) ws sent h
    (λ i b g. let y : o + suc i ≡ suc o + i = omega arith in
    subst (λ n. (length (ws n) ≤ lengths h b.reads) × (sent n ≤ lengths h b.writes)) y (e (suc i) b g)) in
    let a0 = a.0 in
    let a1 = a.1 in
    omega (arith, a0, a1, i)

-- there are at most twice as many moves as items in the histories
pub few_law : MovesAreFew
few_law p inputs ws sent v a hs =
    let h = hist p inputs in
    let early = early_words p inputs ws v a in
    let fronts = all_fronts p inputs v ws (hist_by p inputs ws) early in
    let e = λ (q : Name) (z : count q (decl_names p.inputs) ≡ 0). nothing_given (decl_names p.inputs) (list_at inputs) q z in
    let m = moves_most p.ops 0 ws sent h (λ i op g.
    let z : i ≡ 0 + i = omega arith in
    subst (λ n. (length (ws n) ≤ lengths h op.reads) × (sent n ≤ lengths h op.writes)) z
    (let n = reads_are p v i op g in
    let l = lists_of h op.reads in
    let f = filled_is op.kernel (ws i) l (below_ins p inputs v ws (hist_by p inputs ws) early i op g)
    (at_ports p inputs v ws (hist_by p inputs ws) early i op h g (λ q lt. fronts q)) in
    let long = word_lengths op.reads h (filled op.kernel (ws i) l) (subst (λ k. PortsBelow k (filled op.kernel (ws i) l)) (sym n) f.below)
    (λ port q r. f.lists port (let b = slice_get_within op.reads port q r in omega (arith, b, n)) ∙ got_read h op.reads port q r) in
    let more = length-append (ws i) (port_by_port (ins op.kernel) 0 (rests (ws i) l)) in
    let s = hs i op g in
    let t = lists_lengths op.writes (ran op (ws i)).outs (hist_by p inputs ws) (by_words p inputs ws v i op g) in
    let u = longer op.writes (hist_by p inputs ws) h fronts in
    (omega (arith, long, more), omega (arith, s, t, u)))) in
    let r = total_lengths h (λ op. op.reads) p.ops (queue_names p)
    (λ q. let w = v.read_once q in ⊎_elim (λ lt. let d = v.reads_declared q lt in omega (arith, w, d)) (λ z. omega (arith, z))
    (more_or_zero (total (reads_it q) p.ops))) in
    let w = total_lengths h (λ op. op.writes) p.ops (queue_names p)
    (λ q. let w = v.written_once q in ⊎_elim (λ lt. let d = v.writes_declared q lt in omega (arith, w, d)) (λ z. omega (arith, z))
    (more_or_zero (total (writes_it q) p.ops))) in
    omega (arith, m, r, w)
