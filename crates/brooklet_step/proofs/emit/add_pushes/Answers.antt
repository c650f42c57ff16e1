use Rattle.std.proofs.Common.{ℕ, ℤ, List, sym, ap, ◌∙◌, arith, length}
use Rattle.std.proofs.lemmas.Option.{get_or_from_slice_get, slice_get_within}
use Rattle.river_base.proofs.PlaceLemmas.{each_grew-none, length-each_grew}
use Rattle.brooklet_step.proofs.Leaves.{push_step}
use Rattle.brooklet_step.proofs.emit.add_pushes.Goals as goal

pub loop-i-init : goal.loop-i-init
loop-i-init c = sym (each_grew-none c.args.outs.now)

pub push_row-requires-clause-place : goal.push_row-requires-clause-place
push_row-requires-clause-place c =
    let l = ap length c.loop-i.invariant ∙ length-each_grew c.args.outs.now _ in
    let es = c.args.pushes.now in
    let e : ℕ × List ℤ = (c.at-port.result.0, c.at-port.result.1.now) in
    let r = c.requires c.loop-i.i e (slice_get_within es c.loop-i.i e c.at-port.ensures.row) in
    let p = ap (λ x. x.0) (get_or_from_slice_get es c.loop-i.i e e c.at-port.ensures.row) in
    omega (arith, l, r, p)

pub loop-i-preserved : goal.loop-i-preserved
loop-i-preserved c =
    let es = c.args.pushes.now in
    let e : ℕ × List ℤ = (c.at-port.result.0, c.at-port.result.1.now) in
    push_step c.args.outs.now c.loop-i.outs c.push_row.new.outs es c.loop-i.i e (slice_get_within es c.loop-i.i e c.at-port.ensures.row)
    (sym (get_or_from_slice_get es c.loop-i.i e e c.at-port.ensures.row)) c.loop-i.invariant c.in_ok-push_row.ensures
