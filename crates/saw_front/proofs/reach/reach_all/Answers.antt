use Rattle.std.proofs.Common.{◌+◌, drop, rules, sym, ap, ◌∙◌}
use Rattle.std.specs.Prelude.{max}
use Rattle.river_base.proofs.Lists.{map_next, map_none}
use Rattle.saw_model.specs.Meaning.{reach, reach_all}
use Rattle.saw_text.specs.Tree.{expression}
use Rattle.saw_text.specs.View.{expressions}
use Rattle.saw_front.proofs.Reaching.{so_far_next, so_far_end}
use Rattle.saw_front.proofs.reach.reach_all.Goals as goal

pub loop-e-preserved : goal.loop-e-preserved
loop-e-preserved c =
    let es = c.args.es.now in
    let i = c.loop-e.e-index in
    let e = c.e-item.result in
    so_far_next c.loop-e.most (reach (expression e)) (reach_all (expressions (drop (i + 1) es))) (reach_all (expressions es)) c.greater-most.result
    (ap (λ l. max c.loop-e.most (reach_all l)) (sym (map_next expression es i e (search rules) c.e-item.is)) ∙ c.loop-e.invariant)
    (c.greater-most.ensures ∙ ap (max c.loop-e.most) c.reach.ensures)

pub returns : goal.returns
returns c =
    let es = c.args.es.now in
    so_far_end c.loop-e.most (reach_all (expressions es))
    (ap (λ l. max c.loop-e.most (reach_all l)) (sym (map_none expression es c.loop-e.e-index (search rules))) ∙ c.loop-e.invariant)
