-- A ring in two nets whose tasks sent the same.
use Rattle.std.proofs.Common.{◌≡◌, ℕ, ◌<◌, Some, List, [], ◌∷◌, map, refl, sym, ap, ◌∙◌, arith}
use Rattle.std.specs.Prelude.{slice_get}
use Rattle.std.proofs.lemmas.Option.{slice_get_within, same_Some}
use Rattle.river_base.proofs.Lists.{there_is}
use Rattle.river_base.specs.declared.item.Item as item
use Rattle.river_base.specs.Places.{list_at}
use Rattle.river_plan.specs.Forms.{Name, OpForm, PlanForm}
use Rattle.river_plan.specs.Uses.{total, writes_it}
use Rattle.brooklet_model.specs.Bounded.{Capacities}
use Rattle.brooklet_model.proofs.Received.{writer_of}
use Rattle.fire_tasks.specs.Inlet as inlet
use Rattle.fire_tasks.specs.Outlet as outlet
use Rattle.fire_tasks.specs.declared.task.Task.{Task}
use Rattle.fire_tasks.specs.Adds.{added, logs_of}
use Rattle.fire_tasks.specs.Layout.{IsSettled}
use Rattle.fire_tasks.specs.Ports.{sent_in, sent_of}
use Rattle.fire_tasks.proofs.Joining.{place_of}
use Rattle.fire_tasks.proofs.NetLemmas.{sent_here}
use Rattle.fire_open.specs.TaskCores.{TaskCore, task_core}
use Rattle.fire_open.proofs.Laid.{task_at}
use Rattle.fire_open.proofs.Lists.{same_got}
use Rattle.fire_run.specs.declared.net.Net.{Net}
use Rattle.fire_run.specs.NetOf.{IsNetOf}

-- what each task sent
abbrev pub sents : List Task → List (List (List item.Item))
sents ts = map (λ (t : Task). sent_in t.outs) ts

sents_of_cores : (ts : List Task) → map (λ (c : TaskCore). c.seen.sent) (map task_core ts) ≡ sents ts
sents_of_cores [] = refl
sents_of_cores (t ∷ ts) = ap (λ l. sent_in t.outs ∷ l) (sents_of_cores ts)

-- tasks whose cores are the same sent the same
pub same_sents : (ts us : List Task) → map task_core ts ≡ map task_core us → sents ts ≡ sents us
same_sents ts us e = sym (sents_of_cores ts) ∙ ap (map (λ (c : TaskCore). c.seen.sent)) e ∙ sents_of_cores us

-- the outlets of a ring in both nets, which sent the same, over the inlets at one port
pub record RingPair (i i' : inlet.Inlet) : Type 0 where
  pub out : outlet.Outlet
  pub out' : outlet.Outlet
  pub settled : IsSettled out i
  pub settled' : IsSettled out' i'
  pub sent : sent_of out' ≡ sent_of out

module _ (p : PlanForm) (inputs : List (List item.Item)) (caps : Capacities) (net net' : Net) (n : IsNetOf p inputs caps net)
    (n' : IsNetOf p inputs caps net') (same : sents net'.tasks ≡ sents net.tasks) where
  -- where somebody writes the queue that is read at a port
  pub ring_pair : (o port : ℕ) (op : OpForm) (q : Name) (t t' : Task) (i i' : inlet.Inlet) → slice_get p.ops o ≡ Some op
      → slice_get op.reads port ≡ Some q → slice_get net.tasks o ≡ Some t → slice_get net'.tasks o ≡ Some t' → slice_get t.ins port ≡ Some i
      → slice_get t'.ins port ≡ Some i' → 0 < total (writes_it q) p.ops → RingPair i i'
  ring_pair o port op q t t' i i' op_is r g g' gi gi' w =
      let wr = writer_of p.ops q w in
      let j = place_of wr.1.writes q wr.3 in
      let a = task_at p inputs caps (added p (logs_of net.cells)) net.tasks n.laid n.tasks wr.0 wr.1 wr.2 in
      let b = task_at p inputs caps (added p (logs_of net'.cells)) net'.tasks n'.laid n'.tasks wr.0 wr.1 wr.2 in
      let f = there_is a.t.outs j.0 (let e = a.outs in let c = slice_get_within wr.1.writes j.0 q j.1 in omega (arith, e, c)) in
      let f' = there_is b.t.outs j.0 (let e = b.outs in let c = slice_get_within wr.1.writes j.0 q j.1 in omega (arith, e, c)) in
      let y = same_got (λ (z : Task). sent_in z.outs) net'.tasks net.tasks same wr.0 b.t b.t_is in
      let st : sent_in b.t.outs ≡ sent_in a.t.outs = y.2 ∙ ap (λ (z : Task). sent_in z.outs) (same_Some y.0 a.t (sym y.1 ∙ a.t_is)) in
      record {
        out = f.0;
        out' = f'.0;
        settled = n.settled.each o wr.0 port j.0 q f.0 i (record {
          op = op;
          op' = wr.1;
          op_is = op_is;
          reads = r;
          op_is' = wr.2;
          writes = j.1;
          t = t;
          t' = a.t;
          t_is = g;
          t_is' = a.t_is;
          in_is = gi;
          out_is = f.1;
        });
        settled' = n'.settled.each o wr.0 port j.0 q f'.0 i' (record {
          op = op;
          op' = wr.1;
          op_is = op_is;
          reads = r;
          op_is' = wr.2;
          writes = j.1;
          t = t';
          t' = b.t;
          t_is = g';
          t_is' = b.t_is;
          in_is = gi';
          out_is = f'.1;
        });
        sent = sym (sent_here b.t.outs j.0 f'.0 f'.1) ∙ ap (λ ls. list_at ls j.0) st ∙ sent_here a.t.outs j.0 f.0 f.1;
      }
