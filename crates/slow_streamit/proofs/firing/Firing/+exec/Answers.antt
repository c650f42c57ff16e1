use Rattle.std.proofs.Common.{◌<◌, ap, ◌∙◌, rules}
use Rattle.brooklet_model.specs.Machine.{at_name}
use Rattle.streamit_model.specs.Meaning.{Store, exec_all}
use Rattle.streamit_text.specs.Tree.{block}
use Rattle.slow_streamit.specs.Firing.{named_values, firing_state}
use Rattle.slow_streamit.proofs.Blocks.{turn_value, turns_next}
use Rattle.slow_streamit.proofs.firing.Firing.+exec.Goals as goal

pub turns-loop-v-preserved : goal.turns-loop-v-preserved
turns-loop-v-preserved t c =
    let body = exec_all (block c.args.body.now) c.args.items.now in
    let v = c.loop-v.v in
    let now = c.loop-v.self in
    let lt : v < c.args.end = search rules in
    turns_next body c.args.name c.args.low v c.args.end (firing_state c.args.self.now) (firing_state now) (firing_state c.block.new.self) lt c.loop-v.invariant
    (c.in_ok-block.ensures {u = tt}
    ∙ ap (λ (f : Store). body (record { values = f; popped = now.popped; pushed = now.pushed })) (c.in_ok-set.ensures {u = tt})
    ∙ ap (λ z. body (record { values = at_name c.args.name z (named_values now.values); popped = now.popped; pushed = now.pushed }))
    (turn_value v c.args.end lt c.requires.end))
