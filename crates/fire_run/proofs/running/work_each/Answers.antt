use Rattle.std.proofs.Common.{◌≡◌, rules, List, ap, ◌∙◌, sym, subst, length, slice_index_or, ◌<◌}
use Rattle.river_base.proofs.Lists.{written_back}
use Rattle.fire_tasks.specs.declared.bundle.Bundle.{Bundle}
use Rattle.fire_tasks.specs.Bundles.{HasMadeRound}
use Rattle.fire_run.specs.Frames.{HaveWorked}
use Rattle.fire_run.proofs.running.work_each.Goals as goal

pub returns : goal.returns
returns g c =
    let raw = c.args.raw.now in
    let old = c.args.bundles.now.items in
    let new = c.round_of.new.bundles in
    let value = c.as_mut_slice.ensures.value in
    let many : length new ≡ length old = c.round_of.ensures.many ∙ ap length value in
    let whole : c.args.bundles.now.len ≡ length old = search rules in
    subst (HaveWorked raw old) (sym (written_back new old c.args.bundles.now.len many whole)) (record {
      many = many;
      each = λ i d lt. subst (λ (l : List Bundle). HasMadeRound raw (slice_index_or l i d) (slice_index_or new i d)) value
          (c.round_of.ensures.each i d (subst (λ (l : List Bundle). i < length l) (sym value) lt));
    })
