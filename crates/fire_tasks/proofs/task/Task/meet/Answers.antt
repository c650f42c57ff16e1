use Rattle.std.proofs.Common.{sym, ap, ◌∙◌, subst, get_or, refl}
use Rattle.fire_tasks.specs.Ports.{IsPair, in_end, out_end, received_of, sent_of}
use Rattle.fire_tasks.proofs.task.Task.meet.Goals as goal

pub meet-requires : goal.meet-requires
meet-requires c =
    let f = c.at_mut.result.now in
    let i = c.at_mut-2.result.now in
    subst (λ x. IsPair x i) (sym (c.at_mut.ensures.value f))
    (subst (λ y. IsPair (get_or c.args.self.now.outs c.args.out f) y) (sym (c.at_mut-2.ensures.value i)) (c.requires.pair f i))

pub returns : goal.returns
returns c = record {
  sends = c.meet.new.outlet;
  takes = c.meet.new.inlet;
  settled = c.meet.ensures.settled;
  same_out = λ d. (c.meet.ensures.outlet.0 ∙ ap out_end (c.at_mut.ensures.value d), c.meet.ensures.outlet.1 ∙ ap sent_of (c.at_mut.ensures.value d));
  same_in = λ d. (c.meet.ensures.inlet.0 ∙ ap in_end (c.at_mut-2.ensures.value d), c.meet.ensures.inlet.1 ∙ ap received_of (c.at_mut-2.ensures.value d));
  writer = refl;
  reader = refl;
}
