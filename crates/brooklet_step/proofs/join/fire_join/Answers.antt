use Rattle.std.proofs.Common.{refl, ap, ◌∙◌, get_or}
use Rattle.work_code.specs.Term.{term}
use Rattle.river_kernels.proofs.KernLemmas.{kern_of-select}
use Rattle.river_kernels.specs.Kern.{kern_of, cross, select, fused}
use Rattle.brooklet_step.proofs.Fires.{on_ok}
use Rattle.brooklet_step.proofs.Ones.{ports_can, ports_fires}
use Rattle.brooklet_step.proofs.SelectedCross.{join_can, join_room, join_fires}
use Rattle.brooklet_step.proofs.join.fire_join.Goals as goal

pub give_pairs-requires : goal.give_pairs-requires
give_pairs-requires c =
    let at = c.args.at in
    let e = term c.in-Select.cond in
    let d = c.index-states-0.result in
    let s = get_or c.args.states.now 0 d in
    let t = ports_can (fused cross (kern_of c.args.second.now) at) (fused cross (select e) at) c.args.port c.args.item c.args.states.now d s
    c.args.out.now (ap (λ k. fused cross k at) (ap kern_of c.in-Select.is ∙ kern_of-select c.in-Select.cond)) refl refl
    c.requires.can in
    record { can = join_can e at c.args.port c.args.item s c.args.out.now t; room = join_room e at c.args.port c.args.item s c.args.out.now t }

pub returns : goal.returns
returns c =
    let at = c.args.at in
    let e = term c.in-Select.cond in
    let d = c.index-states-0.result in
    let s = get_or c.args.states.now 0 d in
    let is = ap (λ k. fused cross k at) (ap kern_of c.in-Select.is ∙ kern_of-select c.in-Select.cond) in
    let t = ports_can (fused cross (kern_of c.args.second.now) at) (fused cross (select e) at) c.args.port c.args.item c.args.states.now d s
    c.args.out.now is refl refl c.requires.can in
    on_ok _ _ c.give_pairs.result
    (λ k. ports_fires (fused cross (kern_of c.args.second.now) at) (fused cross (select e) at) c.args.port c.args.item c.args.states.now d s
    c.give_pairs.new.state c.args.out.now c.give_pairs.new.out is refl refl c.requires.can
    (join_fires e at c.args.port c.args.item s c.give_pairs.new.state c.args.out.now c.give_pairs.new.out t k))
    c.give_pairs.ensures
