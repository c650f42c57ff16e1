-- The numbers of tasks that are a net are bounded.
use Rattle.std.proofs.Common.{◌≡◌, ℕ, zero, suc, ◌+◌, ◌<◌, ◌≤◌, Some, List, [], ◌∷◌, length, refl, sym, ap, ◌∙◌, arith, subst, length-append}
use Rattle.std.specs.Prelude.{slice_get}
use Rattle.std.proofs.lemmas.Option.{slice_get_within}
use Rattle.river_base.proofs.Lists.{there_is}
use Rattle.river_base.specs.declared.item.Item as item
use Rattle.river_base.specs.Places.{list_at}
use Rattle.river_plan.specs.Forms.{Name, OpForm}
use Rattle.river_plan.specs.Names.{count}
use Rattle.river_plan.specs.Uses.{reads_it}
use Rattle.brooklet_model.specs.Histories.{History, written, Lists}
use Rattle.brooklet_model.specs.Words.{Word, at_port, PortsBelow}
use Rattle.brooklet_model.proofs.Solutions.{lists_written}
use Rattle.brooklet_model.proofs.Traces.{word_lengths, at_most}
use Rattle.brooklet_model.specs.Traced.{ran}
use Rattle.brooklet_step.proofs.GivenLemmas.{at-length}
use Rattle.fire_tasks.specs.Fired.{kinds_out}
use Rattle.brooklet_model.specs.Received.{lengths_at, moves_from}
use Rattle.brooklet_model.proofs.FewMoves.{few_law, lists_lengths}
use Rattle.fire_tasks.proofs.Joining.{lists_at}
use Rattle.fire_tasks.specs.Inlet as inlet
use Rattle.fire_tasks.specs.Outlet as outlet
use Rattle.fire_tasks.specs.declared.task.Task.{Task}
use Rattle.fire_tasks.specs.Facts.{NumbersAreFew}
use Rattle.fire_tasks.specs.Ports.{received_in, received_count, sent_in, sent_count}
use Rattle.fire_tasks.specs.Tasks.{all_moves, seen_task}
use Rattle.fire_tasks.proofs.NetLemmas.{joins_by, word_at, at_op, received_by, as_long}

-- as long as all that came at its ports together
ports_length : (op : OpForm) (w : Word) → ((q : Name) → count q op.reads ≤ 1) → PortsBelow (length op.reads) w
    → length w ≡ lengths_at op.reads (λ port. at_port port w)
ports_length op w once b =
    let h : History = written op.reads (λ port. at_port port w) (λ q. []) in
    let l : Lists op.reads (λ port. at_port port w) h = lists_written op.reads (λ port. at_port port w) (λ q. []) h once (λ q lt. refl) in
    word_lengths op.reads h w b (λ port q g. sym (lists_at op.reads (λ i. at_port i w) h l port q g))
    ∙ sym (lists_lengths op.reads (λ port. at_port port w) h l)

received_counts : (ins : List inlet.Inlet) (rs : List Name) (f : ℕ → List item.Item) → length ins ≡ length rs
    → ((port : ℕ) → list_at (received_in ins) port ≡ f port) → received_count ins ≡ lengths_at rs f
received_counts [] [] f e h = refl
received_counts [] (r ∷ rs) f e h = absurd (omega (arith, e))
received_counts (i ∷ ins) [] f e h = absurd (omega (arith, e))
received_counts (i ∷ ins) (r ∷ rs) f e h = let a = ap length (h 0) in let b =
    received_counts ins rs (λ port. f (suc port)) (omega (arith, e)) (λ port. h (suc port)) in omega (arith, a, b)

sent_counts : (outs : List outlet.Outlet) (ws : List Name) (f : ℕ → List item.Item) (pending : ℕ → List item.Item) → length outs ≡ length ws
    → ((j : ℕ) → j < length ws → length (list_at (sent_in outs) j) + length (pending j) ≡ length (f j)) → sent_count outs ≤ lengths_at ws f
sent_counts [] [] f pending e h = omega arith
sent_counts [] (r ∷ rs) f pending e h = absurd (omega (arith, e))
sent_counts (i ∷ outs) [] f pending e h = absurd (omega (arith, e))
sent_counts (i ∷ outs) (r ∷ rs) f pending e h =
    let a = h 0 (omega arith) in
    let b = sent_counts outs rs (λ j. f (suc j)) (λ j. pending (suc j)) (omega (arith, e)) (λ j lt. h (suc j) (omega (arith, lt))) in
    omega (arith, a, b)

-- how many items a task sent
sent_by : List Task → ℕ → ℕ
sent_by [] o = 0
sent_by (t ∷ ts) zero = sent_count t.outs
sent_by (t ∷ ts) (suc o) = sent_by ts o

sent_by_is : (ts : List Task) (o : ℕ) (t : Task) → slice_get ts o ≡ Some t → sent_by ts o ≡ sent_count t.outs
unfolding sent_by
sent_by_is [] o t g = absurd (cc g)
sent_by_is (x ∷ ts) zero t g = let e : x ≡ t = cc g in ap (λ (y : Task). sent_count y.outs) e
sent_by_is (x ∷ ts) (suc o) t g = sent_by_is ts o t g

-- the numbers of the tasks are those of the words
moves_are : (ts all : List Task) (ops : List OpForm) (o : ℕ) (ws : ℕ → Word) → length ts ≡ length ops
    → ((i : ℕ) (t : Task) → slice_get ts i ≡ Some t → (received_count t.ins ≡ length (ws (o + i))) × (sent_by all (o + i) ≡ sent_count t.outs))
    → all_moves ts ≡ moves_from o ops ws (sent_by all)
moves_are [] all [] o ws e h = refl
moves_are [] all (op ∷ ops) o ws e h = absurd (omega (arith, e))
moves_are (t ∷ ts) all [] o ws e h = absurd (omega (arith, e))
moves_are (t ∷ ts) all (op ∷ ops) o ws e h =
    let z : o + 0 ≡ o = omega arith in
    let a : (received_count t.ins ≡ length (ws o)) × (sent_by all o ≡ sent_count t.outs) =
    subst (λ n. (received_count t.ins ≡ length (ws n)) × (sent_by all n ≡ sent_count t.outs)) z (h 0 t refl) in
    let b = moves_are ts all ops (suc o) ws (omega (arith, e))
    (λ i u g. let y : o + suc i ≡ suc o + i =
    omega arith in subst (λ n. (received_count u.ins ≡ length (ws n)) × (sent_by all n ≡ sent_count u.outs)) y (h (suc i) u g)) in
    let a0 = a.0 in
    let a1 = a.1 in
    omega (arith, a0, a1, b)

-- the numbers are few: the law
pub numbers_law : NumbersAreFew
numbers_law p inputs caps adds ts v laid tasks settled typed =
    let n = joins_by p inputs caps adds ts v laid tasks settled typed in
    let items = word_at p adds ts tasks.each in
    let words = n.words in
    let few = few_law p inputs words (sent_by ts) v n.net.words
    (λ o op g.
    let m = laid.many in
    let t = there_is ts o (let l = slice_get_within p.ops o op g in omega (arith, l, m)) in
    let a = at_op p inputs caps adds ts v laid tasks settled o op t.0 g t.1 in
    let c = sent_counts t.0.outs op.writes (ran op (words o)).outs (list_at (seen_task t.0).pending) a.outs (λ j lj.
    let e = ap length ((a.fired.given (words o) (n.typed o op g) (n.held o op g)).outs j lj) in
    let l = length-append (list_at (seen_task t.0).sent j) (list_at (seen_task t.0).pending j) in
    let h = at-length (kinds_out p op) j [] ((ran op (words o)).outs j) in
    omega (arith, e, l, h)) in
    let d = sent_by_is ts o t.0 t.1 in
    omega (arith, c, d)) in
    let e = moves_are ts ts p.ops 0 words laid.many (λ i t g.
    let z : i ≡ 0 + i = omega arith in
    subst (λ k. (received_count t.ins ≡ length (words k)) × (sent_by ts k ≡ sent_count t.outs)) z
    (let m = laid.many in
    let op = there_is p.ops i (let l = slice_get_within ts i t g in omega (arith, l, m)) in
    let a = at_op p inputs caps adds ts v laid tasks settled i op.0 t op.1 g in (
      received_counts t.ins op.0.reads (λ port. at_port port (items i)) a.ins
          (λ port. received_by p inputs caps adds ts v laid tasks settled typed i op.0 t op.1 g port)
          ∙ sym (ports_length op.0 (items i)
          (λ q. let x = at_most (reads_it q) p.ops i op.0 op.1 in let y = v.read_once q in omega (arith, x, y)) a.fired.below)
          ∙ sym (as_long (words i) (items i) (n.held i op.0 op.1).ports),
      sent_by_is ts i t g,
    ))) in
    omega (arith, few, e)
