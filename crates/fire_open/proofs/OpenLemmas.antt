-- Fresh tasks with rings between them are a net.
use Rattle.std.proofs.Common.{◌≡◌, ℕ, ℤ, suc, Some, List, [], ◌∷◌, length, refl, sym, ap, ◌∙◌, arith, subst}
use Rattle.std.specs.Prelude.{slice_get}
use Rattle.std.proofs.lemmas.Option.{slice_get_within, same_Some}
use Rattle.river_base.proofs.Lists.{there_is}
use Rattle.river_base.specs.declared.item.Item as item
use Rattle.river_plan.specs.Forms.{OpForm, PlanForm}
use Rattle.river_plan.specs.Valid.{IsPlan}
use Rattle.brooklet_model.proofs.Traces.{got_count}
use Rattle.brooklet_model.specs.Fire.{first_kept}
use Rattle.brooklet_step.specs.Given.{FitState, StandsAfter}
use Rattle.brooklet_step.specs.Took.{IsBlank}
use Rattle.brooklet_model.proofs.BoundedMoves.{reader_behind}
use Rattle.fire_tasks.specs.Fired.{SeenTask, HasFired, kinds_in, kinds_out}
use Rattle.fire_tasks.specs.Inlet as inlet
use Rattle.fire_tasks.specs.Outlet as outlet
use Rattle.fire_open.specs.declared.settling.Link.{Link}
use Rattle.fire_tasks.specs.declared.task.Task.{Task}
use Rattle.fire_tasks.specs.Ports.{out_ends, received_of, received_count, sent_of, sent_count}
use Rattle.fire_tasks.specs.Tasks.{FitRings, IsTask, all_moves, seen_task}
use Rattle.fire_tasks.specs.Adds.{AreHomes}
use Rattle.fire_open.specs.Fresh.{AreFresh}
use Rattle.fire_open.specs.Links.{IsLinkOf, AreLinks, IsThere}
use Rattle.fire_open.specs.Rings.{AreUnmoved, AreThere, TaskBody, body, AreRung}
use Rattle.fire_open.proofs.Laid.{apart_net}
use Rattle.fire_open.proofs.Lists.{map_long}
use Rattle.fire_open.proofs.RingLemmas.{bodies_unmoved}

-- a task is known by its body
pub body_task : (p : PlanForm) (adds : ℕ → List (List ℤ)) (t t' : Task) → body t' ≡ body t → (k : IsTask p adds t)
    → FitRings (kinds_out p k.op) (out_ends t'.outs) → IsTask p adds t'
body_task p adds t t' e k fit =
    let o : t'.op ≡ t.op = ap (λ (s : TaskBody). s.op) e in
    let s : seen_task t' ≡ seen_task t = ap (λ (x : TaskBody). x.seen) e in
    let ks : t'.kinds ≡ t.kinds = ap (λ (x : TaskBody). x.kinds) e in
    let st : t'.states ≡ t.states = ap (λ (x : TaskBody). x.states) e in
    let pe : t'.pending ≡ t.pending = ap (λ (x : TaskBody). x.pending) e in
    let ou : t'.out ≡ t.out = ap (λ (x : TaskBody). x.out) e in
    let ta : t'.tables ≡ t.tables = ap (λ (x : TaskBody). x.tables) e in
    let cl : t'.classes ≡ t.classes = ap (λ (x : TaskBody). x.classes) e in
    let co : t'.count ≡ t.count = ap (λ (x : TaskBody). x.count) e in
    record {
      op = k.op;
      op_is = ap (slice_get p.ops) o ∙ k.op_is;
      ins = map_long received_of t'.ins t.ins (ap (λ (x : SeenTask). x.received) s) ∙ k.ins;
      kinds = ks ∙ k.kinds;
      outs = map_long sent_of t'.outs t.outs (ap (λ (x : SeenTask). x.sent) s) ∙ k.outs;
      pending = ap length pe ∙ k.pending;
      rings = fit;
      blank = subst (IsBlank k.op.kernel) (sym ou) k.blank;
      homes = subst (λ c. AreHomes p t'.op t'.tables c) (sym cl)
          (subst (λ a. AreHomes p t'.op a t.classes) (sym ta) (subst (λ i. AreHomes p i t.tables t.classes) (sym o) k.homes));
      word = k.word;
      count = co ∙ k.count;
      fired = subst (λ x. HasFired p k.op adds x k.word) (sym s) k.fired;
      stands = record {
        fit = subst (FitState k.op.kernel (kinds_in p k.op)) (sym st) k.stands.fit;
        after =
            λ w a h. subst (λ x. StandsAfter k.op.kernel (kinds_in p k.op) (first_kept k.op.kernel) x w) (sym st) (k.stands.after w a h);
      };
    }

-- fresh tasks have the ends of all links, and nothing moved
pub fresh_there : (p : PlanForm) (inputs : List (List item.Item)) (ts : List Task) (ls : List Link) → IsPlan p → AreFresh p inputs ts → AreLinks p ls
    → AreThere ts ls
fresh_there p inputs ts ls v h k = record {
  each = λ n l g. there l (k.right n l g);
  apart = apart_net p ls v k;
  unmoved = record { ins = λ o port t i g gi. (h.each o t g).ins port i gi; outs = λ o j t f g gf. ((h.each o t g).outs j f gf).1 };
}
  where
    task_here : (o : ℕ) (op : OpForm) → slice_get p.ops o ≡ Some op
        → (t : Task) × (slice_get ts o ≡ Some t) × (length t.ins ≡ length op.reads) × (length t.outs ≡ length op.writes)
    task_here o op g =
        let x = there_is ts o (let b = slice_get_within p.ops o op g in let m = h.many in omega (arith, b, m)) in
        let f = h.each o x.0 x.1 in
        let e : f.task.op ≡ op = same_Some f.task.op op (sym f.task.op_is ∙ ap (slice_get p.ops) f.number ∙ g) in
        (x.0, x.1, f.task.ins ∙ ap (λ (y : OpForm). length y.reads) e, f.task.outs ∙ ap (λ (y : OpForm). length y.writes) e)

    there : (l : Link) → IsLinkOf p l → IsThere ts l
    there l x =
        let r = task_here l.reader x.read x.read_is in
        let w = task_here l.writer x.write x.write_is in
        let i = there_is r.0.ins l.port (let a = r.2 in let b = slice_get_within x.read.reads l.port x.queue x.reads in omega (arith, a, b)) in
        let f = there_is w.0.outs l.out (let a = w.3 in let b = slice_get_within x.write.writes l.out x.queue x.writes in omega (arith, a, b)) in
        record {
          order = reader_behind p v l.writer l.reader x.write x.read x.queue x.write_is (got_count x.write.writes l.out x.queue x.writes) x.read_is
              (got_count x.read.reads l.port x.queue x.reads);
          out = f.0;
          in_ = i.0;
          ends = record { t = r.0; t' = w.0; t_is = r.1; t_is' = w.1; in_is = i.1; out_is = f.1 };
        }

none_received : (xs : List inlet.Inlet) → ((port : ℕ) (i : inlet.Inlet) → slice_get xs port ≡ Some i → received_of i ≡ []) → received_count xs ≡ 0
none_received [] h = refl
none_received (x ∷ xs) h = let a = ap length (h 0 x refl) in let b = none_received xs (λ n i g. h (suc n) i g) in omega (arith, a, b)

none_sent : (xs : List outlet.Outlet) → ((j : ℕ) (f : outlet.Outlet) → slice_get xs j ≡ Some f → sent_of f ≡ []) → sent_count xs ≡ 0
none_sent [] h = refl
none_sent (x ∷ xs) h = let a = ap length (h 0 x refl) in let b = none_sent xs (λ n f g. h (suc n) f g) in omega (arith, a, b)

no_moves : (ts : List Task) → AreUnmoved ts → all_moves ts ≡ 0
no_moves [] u = refl
no_moves (t ∷ ts) u =
    let a = none_received t.ins (λ n i g. u.ins 0 n t i refl g) in
    let b = none_sent t.outs (λ n f g. u.outs 0 n t f refl g) in
    let c = no_moves ts (record { ins = λ o n x i g gi. u.ins (suc o) n x i g gi; outs = λ o n x f g gf. u.outs (suc o) n x f g gf }) in
    omega (arith, a, b, c)

-- rings that are put between tasks move nothing
pub none_moved : (room : Link → ℕ) (ts0 ts : List Task) (ls : List Link) (n : ℕ) → AreThere ts0 ls → AreRung room ts0 ts ls n → all_moves ts ≡ 0
none_moved room ts0 ts ls n h r = no_moves ts (bodies_unmoved ts0 ts r.bodies h.unmoved)
