-- Where all was received, all is as defined.
use Rattle.std.proofs.Common.{◌≡◌, [], ◌∷◌, length, refl, sym, ap, ◌∙◌, subst, arith}
use Rattle.std.proofs.lemmas.List.{append-nil}
use Rattle.river_base.proofs.Lists.{there_is}
use Rattle.river_plan.specs.Forms.{Name, decl_names}
use Rattle.river_plan.specs.Kinds.{IsFit}
use Rattle.river_plan.specs.Names.{count}
use Rattle.brooklet_model.specs.Fire.{fire, ins, first_kept}
use Rattle.brooklet_model.specs.Histories.{lists_of, hist}
use Rattle.brooklet_model.specs.Machine.{IsComplete}
use Rattle.brooklet_model.specs.Words.{Word, run, at_port, PortsBelow, port_by_port, word_of}
use Rattle.brooklet_model.proofs.Complete.{runs_law, nothing_given}
use Rattle.brooklet_model.proofs.Free.{order_is_free}
use Rattle.brooklet_model.proofs.Ports.{shaped}
use Rattle.brooklet_model.proofs.Shapes.{first_shape}
use Rattle.brooklet_model.proofs.Swaps.{at_port_here}
use Rattle.brooklet_model.proofs.Traces.{each_at, got_read}
use Rattle.river_base.specs.Places.{list_at}
use Rattle.brooklet_model.specs.NetLaws.{DoneIsWhole}
use Rattle.brooklet_model.specs.Received.{hist_by}
use Rattle.brooklet_model.proofs.Complete.{reads_are}
use Rattle.brooklet_model.proofs.NamedRun.{named_law}

-- a word at one port is its list
one_port : (w : Word) → PortsBelow 1 w → w ≡ word_of 0 (at_port 0 w)
one_port [] b = refl
one_port (e ∷ es) b =
    let z : e.0 ≡ 0 = (let l = b.0 in omega (arith, l)) in
    let i = one_port es b.1 in
    let first : e ≡ (0, e.1) = (λ j. (z j, e.1)) in
    ap (λ x. x ∷ es) first ∙ ap (λ l. (0, e.1) ∷ l) i ∙ sym (ap (word_of 0) (at_port_here 0 e es z))

-- where each operator received all, histories, rows and firings are as defined
pub done_law : DoneIsWhole
done_law p inputs ws v a d =
    let r = named_law p inputs ws v a in
    let s = r.0 in
    let k = r.1 in
    let complete : IsComplete p s = λ o port op q g is. k.taken o op g port q is ∙ ap length (d o op g port q is) ∙ sym (ap length (k.hist q)) in
    let whole = runs_law p inputs _ s v k.run complete in
    let same : (q : Name) → hist_by p inputs ws q ≡ hist p inputs q = (λ q. sym (k.hist q) ∙ whole.queues q) in
    let e = λ (q : Name) (z : count q (decl_names p.inputs) ≡ 0). nothing_given (decl_names p.inputs) (list_at inputs) q z in
    let h = hist p inputs in
    record {
      queues = same;
      tables = λ t test. sym (k.rows t test) ∙ whole.tables t test;
      firings = λ o op g. sym (k.times_of o op g) ∙ whole.firings o op g;
      bags = λ o op g t.
          let fit : IsFit p op = each_at (IsFit p) p.ops o op v.fits g in
          let n = reads_are p v o op g in
          let f = shaped op.kernel _ _ _ fit in
          let free = order_is_free op.kernel (lists_of h op.reads) (ws o) (first_kept op.kernel) f (first_shape op.kernel f) (record {
            below = subst (λ m. PortsBelow m (ws o)) n (a.below o op g);
            lists = λ port lt.
                let q = there_is op.reads port (omega (arith, n, lt)) in
                d o op g port q.0 q.1 ∙ same q.0 ∙ sym (got_read h op.reads port q.0 q.1);
          }) in
          free.adds t;
      rows = λ o op g one t.
          let n = reads_are p v o op g in
          let q = there_is op.reads 0 (omega (arith, one)) in
          let is : ws o ≡ word_of 0 (lists_of h op.reads 0) = one_port (ws o) (subst (λ m. PortsBelow m (ws o)) one (a.below o op g))
          ∙ ap (word_of 0) (d o op g 0 q.0 q.1 ∙ same q.0 ∙ sym (got_read h op.reads 0 q.0 q.1)) in
          let m : ins op.kernel ≡ 1 = sym n ∙ one in
          let w : port_by_port (ins op.kernel) 0 (lists_of h op.reads) ≡ word_of 0 (lists_of h op.reads 0) =
          ap (λ i. port_by_port i 0 (lists_of h op.reads)) m ∙ append-nil (word_of 0 (lists_of h op.reads 0)) in
          ap (λ u. (run (fire op.kernel) u (first_kept op.kernel)).adds t) (is ∙ sym w);
    }
