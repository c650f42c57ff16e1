-- What is given early is the front of what is given in the end.
use Rattle.std.proofs.Common.{◌≡◌, ℕ, suc, ◌<◌, ◌≤◌, Some, List, [], ◌∷◌, ◌++◌, length, drop, refl, sym, ap, ◌∙◌, subst, arith, ⊎_elim, append_assoc}
use Rattle.std.proofs.Common.{length-append}
use Rattle.std.specs.Prelude.{slice_get}
use Rattle.std.proofs.lemmas.List.{append-nil, take-append-drop}
use Rattle.std.proofs.Math.Seq.{drop-append_seam}
use Rattle.river_base.proofs.Lists.{there_is}
use Rattle.river_base.specs.declared.item.Item as item
use Rattle.river_base.specs.Places.{list_at}
use Rattle.river_plan.specs.Forms.{Name, OpForm, PlanForm, decl_names}
use Rattle.river_plan.specs.Kinds.{IsFit}
use Rattle.river_plan.specs.Names.{one_if, count}
use Rattle.river_plan.specs.Uses.{total, writes_it}
use Rattle.river_plan.specs.Valid.{IsPlan}
use Rattle.river_plan.proofs.NameLemmas.{cases_name, more_or_zero}
use Rattle.brooklet_model.specs.Firings.{Kept, Fired, and_then, Same}
use Rattle.brooklet_model.specs.Fire.{fire, ins, first_kept}
use Rattle.brooklet_model.specs.Histories.{History, lists_of, given_on, hist, Lists, Solves}
use Rattle.brooklet_model.specs.Laws.{given_to}
use Rattle.brooklet_model.specs.Machine.{start}
use Rattle.brooklet_model.specs.Shapes.{IsShaped, HasShape}
use Rattle.brooklet_model.specs.Words.{Word, run, at_port, PortsBelow, port_by_port, feed_all, IsInterleaving}
use Rattle.brooklet_model.proofs.Complete.{traced_start, traced_run, nothing_given}
use Rattle.brooklet_model.proofs.Free.{at_port-append, at_port-port_by_port, below-append, below-port_by_port, order_is_free}
use Rattle.brooklet_model.proofs.Ports.{shaped}
use Rattle.brooklet_model.proofs.Shapes.{first_shape}
use Rattle.brooklet_model.proofs.Solutions.{plan_solves, stays}
use Rattle.brooklet_model.proofs.Traces.{each_at, each_of, got_read, got_count}
use Rattle.brooklet_model.proofs.TypedPlan.{by_order}
use Rattle.river_kernels.specs.Kern.{Kern}
use Rattle.brooklet_model.specs.NetLaws.{RunsAreFronts, WordsAreFronts}
use Rattle.brooklet_model.specs.Traced.{ran}
use Rattle.brooklet_model.specs.Received.{hist_by, AreWords, IsFront}
use Rattle.brooklet_model.proofs.Received.{by_words, unwritten_by}
use Rattle.brooklet_model.proofs.Complete.{reads_are}

-- a list is its own front
pub front_refl : {A : Type 0} (xs : List A) → IsFront xs xs
front_refl xs = ([], append-nil xs)

-- a front of a front is a front
pub front_trans : {A : Type 0} (xs ys zs : List A) → IsFront xs ys → IsFront ys zs → IsFront xs zs
front_trans xs ys zs a b = (a.0 ++ b.0, sym (append_assoc xs a.0 b.0) ∙ ap (λ l. l ++ b.0) a.1 ∙ b.1)

-- a front is not longer
pub front_length : {A : Type 0} (xs ys : List A) → IsFront xs ys → length xs ≤ length ys
front_length xs ys a = let e = ap length a.1 in let l = length-append xs a.0 in omega (arith, e, l)

-- firings go on where they ended
run-append : (f : ℕ → item.Item → List Kept → Fired) (u w : Word) (ss : List Kept)
    → Same (run f (u ++ w) ss) (and_then (run f u ss) (run f w (run f u ss).states))
run-append f [] w ss = record { outs = λ q. refl; adds = λ t. refl; states = refl }
run-append f (e ∷ es) w ss =
    let r = f e.0 e.1 ss in
    let h = run-append f es w r.states in
    let s = run f es r.states in
    record {
      outs = λ q. ap (λ l. r.outs q ++ l) (h.outs q) ∙ sym (append_assoc (r.outs q) (s.outs q) ((run f w s.states).outs q));
      adds = λ t. ap (λ l. r.adds t ++ l) (h.adds t) ∙ sym (append_assoc (r.adds t) (s.adds t) ((run f w s.states).adds t));
      states = h.states;
    }

-- what is left of each list behind a word
abbrev pub rests : Word → (ℕ → List item.Item) → ℕ → List item.Item
rests w l port = drop (length (at_port port w)) (l port)

-- the word, and then all that is left, port by port
abbrev pub filled : Kern → Word → (ℕ → List item.Item) → Word
filled k w l = w ++ port_by_port (ins k) 0 (rests w l)

-- where what came is fronts of these lists, it is an order of them
pub filled_is : (k : Kern) (w : Word) (l : ℕ → List item.Item) → PortsBelow (ins k) w → ((port : ℕ) → port < ins k → IsFront (at_port port w) (l port))
    → IsInterleaving (ins k) l (filled k w l)
filled_is k w l b f = record {
  below = below-append (ins k) w (port_by_port (ins k) 0 (rests w l)) b (below-port_by_port (ins k) (ins k) 0 (rests w l) (omega arith));
  lists = λ port lt.
      let xs = at_port port w in
      let g = f port lt in
      at_port-append port w (port_by_port (ins k) 0 (rests w l))
      ∙ ap (λ t. xs ++ t) (at_port-port_by_port (ins k) 0 (rests w l) port (omega arith) (omega (arith, lt))
      ∙ ap (drop (length xs)) (sym g.1) ∙ drop-append_seam xs g.0)
      ∙ g.1;
}

-- a kernel that received the fronts of its lists gave the fronts of what it gives on the lists
fronts_give : (k : Kern) (w : Word) (ss : List Kept) (l : ℕ → List item.Item) → IsShaped k → HasShape k ss → PortsBelow (ins k) w
    → ((port : ℕ) → port < ins k → IsFront (at_port port w) (l port))
    → (j : ℕ) → IsFront ((run (fire k) w ss).outs j) ((feed_all k l ss).outs j)
fronts_give k w ss l s h b f j =
    let more = port_by_port (ins k) 0 (rests w l) in
    let r = run (fire k) w ss in
    let a = run-append (fire k) w more ss in
    let o = order_is_free k l (filled k w l) ss s h (filled_is k w l b f) in
    ((run (fire k) more r.states).outs j, sym (a.outs j) ∙ o.outs j)

lists_front : (ws : List Name) (f g : ℕ → List item.Item) (h h' : History) → Lists ws f h → Lists ws g h' → ((j : ℕ) → IsFront (f j) (g j)) → (q : Name)
    → 0 < count q ws → IsFront (h q) (h' q)
lists_front [] f g h h' a b e q lt = absurd (omega (arith, lt))
lists_front (w ∷ ws) f g h h' a b e q lt = ⊎_elim
    (λ c. subst (λ n. IsFront (h n) (h' n)) c.0 (subst (λ l. IsFront (h w) l) (sym b.0) (subst (λ l. IsFront l (g 0)) (sym a.0) (e 0))))
    (λ c. lists_front ws (λ j. f (suc j)) (λ j. g (suc j)) h h' a.1 b.1 (λ j. e (suc j)) q (let k = ap one_if c.1 in omega (arith, lt, k)))
    (cases_name w q)

-- words of the operators, and histories that they gave, of which what each received is fronts
pub record Early (p : PlanForm) (first : History) (ws : ℕ → Word) (h : History) : Type 0 where
  pub written : (o : ℕ) (op : OpForm) → slice_get p.ops o ≡ Some op → Lists op.writes (ran op (ws o)).outs h
  pub unwritten : (q : Name) → total (writes_it q) p.ops ≡ 0 → h q ≡ first q
  pub below : (o : ℕ) (op : OpForm) → slice_get p.ops o ≡ Some op → PortsBelow (length op.reads) (ws o)
  pub fronts : (o : ℕ) (op : OpForm) → slice_get p.ops o ≡ Some op → (port : ℕ) (q : Name) → slice_get op.reads port ≡ Some q
      → IsFront (at_port port (ws o)) (h q)

module _ (p : PlanForm) (inputs : List (List item.Item)) (v : IsPlan p) (ws : ℕ → Word) (h : History) (a : Early p (given_to p inputs) ws h) where
  abbrev last : History
  last = hist p inputs

  abbrev first : History
  first = given_to p inputs

  empty : (q : Name) → count q (decl_names p.inputs) ≡ 0 → given_to p inputs q ≡ []
  empty q z = nothing_given (decl_names p.inputs) (list_at inputs) q z

  -- the fronts at an operator's ports, by place
  pub at_ports : (o : ℕ) (op : OpForm) (l : History) → slice_get p.ops o ≡ Some op → ((q : Name) → 0 < count q op.reads → IsFront (h q) (l q)) → (port : ℕ)
      → port < ins op.kernel → IsFront (at_port port (ws o)) (lists_of l op.reads port)
  at_ports o op l g e port lt =
      let n = reads_are p v o op g in
      let r = there_is op.reads port (omega (arith, n, lt)) in
      subst (IsFront (at_port port (ws o))) (sym (got_read l op.reads port r.0 r.1))
      (front_trans (at_port port (ws o)) (h r.0) (l r.0) (a.fronts o op g port r.0 r.1) (e r.0 (got_count op.reads port r.0 r.1)))

  -- the ports of a word are ports of the kernel
  pub below_ins : (o : ℕ) (op : OpForm) → slice_get p.ops o ≡ Some op → PortsBelow (ins op.kernel) (ws o)
  below_ins o op g = subst (λ n. PortsBelow n (ws o)) (reads_are p v o op g) (a.below o op g)

  -- each of these histories is the front of the defined one
  pub all_fronts : (q : Name) → IsFront (h q) (last q)
  all_fronts q = ⊎_elim
      (λ lt. by_order (λ n. IsFront (h n) (last n)) p.ops (λ n. count n (decl_names p.inputs)) v.in_order
      (λ n lk. let z : total (writes_it n) p.ops ≡ 0 = (let w = v.written_once n in omega (arith, w, lk)) in at_rest n z)
      (each_of (λ op. ((n : Name) → 0 < count n op.reads → IsFront (h n) (last n)) → (n : Name) → 0 < count n op.writes → IsFront (h n) (last n)) p.ops
      (λ o op g e n ln.
      let fit : IsFit p op = each_at (IsFit p) p.ops o op v.fits g in
      let s = shaped op.kernel _ _ _ fit in
      lists_front op.writes (ran op (ws o)).outs (given_on op last).outs h last (a.written o op g) (each_at (Solves last) p.ops o op (plan_solves p v first) g)
      (fronts_give op.kernel (ws o) (first_kept op.kernel) (lists_of last op.reads) s (first_shape op.kernel s) (below_ins o op g)
      (at_ports o op last g e)) n ln))
      q (omega (arith, lt)))
      (λ z. at_rest q z)
      (more_or_zero (total (writes_it q) p.ops))
    where
      at_rest : (n : Name) → total (writes_it n) p.ops ≡ 0 → IsFront (h n) (last n)
      at_rest n z = subst (IsFront (h n)) (a.unwritten n z ∙ sym (stays p.ops first n z)) (front_refl (h n))

-- what operators received is such a beginning
pub early_words : (p : PlanForm) (inputs : List (List item.Item)) (ws : ℕ → Word) → IsPlan p → AreWords p inputs ws
    → Early p (given_to p inputs) ws (hist_by p inputs ws)
early_words p inputs ws v a = record { written = by_words p inputs ws v; unwritten = unwritten_by p inputs ws; below = a.below; fronts = a.fronts }

-- the histories of what operators received are fronts of the defined ones
pub words_fronts_law : WordsAreFronts
words_fronts_law p inputs ws v a = all_fronts p inputs v ws (hist_by p inputs ws) (early_words p inputs ws v a)

-- the histories of a run that stopped early are fronts of the defined ones
pub runs_fronts_law : RunsAreFronts
runs_fronts_law p inputs es s v r =
    let e = λ (q : Name) (z : count q (decl_names p.inputs) ≡ 0). nothing_given (decl_names p.inputs) (list_at inputs) q z in
    let w = traced_run p (given_to p inputs) v e es (start p inputs) s (λ o. []) (traced_start p (given_to p inputs) v e) r in
    let t = w.1 in
    all_fronts p inputs v w.0 s.hist (record {
      written = t.written_by;
      unwritten = t.unwritten;
      below = t.below;
      fronts = λ o op g port q is. let old = (t.taken o op g port q is).0 in
          (drop (s.taken q) (s.hist q), ap (λ l. l ++ drop (s.taken q) (s.hist q)) old ∙ take-append-drop (s.taken q) (s.hist q));
    })
