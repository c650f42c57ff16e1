use Rattle.std.proofs.Common.{◌≡◌, length, sym, ap, ◌∙◌, arith, subst}
use Rattle.river_base.specs.Places.{list_at}
use Rattle.river_base.proofs.PlaceLemmas.{each_grew-upto_none, upto_step, upto_length, each_grew-upto_all}
use Rattle.brooklet_model.specs.Firings.{splice}
use Rattle.brooklet_step.specs.Took.{StayApart}
use Rattle.brooklet_step.proofs.Fused.{leaves_all, leaves_next}
use Rattle.brooklet_step.proofs.emit.splice_items.Goals as goal

pub loop-port-init : goal.loop-port-init
loop-port-init c =
    let join = splice c.args.at (length c.args.second.now) in
    record {
      outs = sym (each_grew-upto_none c.args.outs.now (join (list_at c.args.first.now) (list_at c.args.second.now)));
      left = leaves_all join c.args.first.now c.args.second.now;
    }

pub spliced_port-requires-clause-place : goal.spliced_port-requires-clause-place
spliced_port-requires-clause-place c = let m = c.loop-port.invariant.left.many in let r = c.requires.place in omega (arith, m, r)

pub spliced_port-requires-clause-port : goal.spliced_port-requires-clause-port
spliced_port-requires-clause-port c =
    let m = c.loop-port.invariant.left.many in
    let n = c.loop-port.invariant.left.many_more in
    let r = c.requires.ports in
    omega (arith, m, n, r)

pub add_line-requires : goal.add_line-requires
add_line-requires c =
    let e = upto_length _ _
    (splice c.args.at (length c.args.second.now) (list_at c.args.first.now) (list_at c.args.second.now)) c.loop-port.port c.loop-port.invariant.outs in
    omega arith

pub loop-port-preserved : goal.loop-port-preserved
loop-port-preserved c =
    let join = splice c.args.at (length c.args.second.now) in
    let left = c.loop-port.invariant.left in
    let same = left.many_more in
    let p = c.loop-port.port in
    let one : c.spliced_port.result ≡ join (list_at c.args.first.now) (list_at c.args.second.now) p =
    c.spliced_port.ensures.taken ∙ ap (λ n. splice c.args.at n (list_at c.loop-port.first) (list_at c.loop-port.second) p) same ∙ left.rest p (omega arith) in
    record {
      outs = upto_step _ _ _ (join (list_at c.args.first.now) (list_at c.args.second.now)) p _ c.loop-port.invariant.outs one c.in_ok-add_line.ensures;
      left = leaves_next join p c.args.first.now c.loop-port.first c.spliced_port.new.first c.args.second.now c.loop-port.second c.spliced_port.new.second left
          (subst (λ n. StayApart
          (splice c.args.at n) p c.loop-port.first c.spliced_port.new.first c.loop-port.second c.spliced_port.new.second) same c.spliced_port.ensures.left);
    }

pub returns : goal.returns
returns c =
    c.loop-port.invariant.outs
    ∙ each_grew-upto_all c.args.outs.now
    (splice c.args.at (length c.args.second.now) (list_at c.args.first.now) (list_at c.args.second.now)) c.loop-port.port (omega arith)
