use Rattle.std.proofs.Common.{◌≡◌, w64, to_z, of_z, ap, ◌∙◌, rules}
use Rattle.river_base.specs.Row.{in_order}
use Rattle.river_base.specs.declared.item.Batch.{Batch}
use Rattle.kern_bags.proofs.Streaming.{all_streams, all_fit}
use Rattle.kern_bags.proofs.streamer.rstream.Goals as goal

pub returns-clause-contents : goal.returns-clause-contents
returns-clause-contents c =
    let at : to_z w64 (of_z w64 c.args.change.at) ≡ c.args.change.at = search rules in
    let rows = c.in_ok-sort.ensures.ok ∙ ap in_order c.in_ok-rows.ensures in
    let g : Batch = record { at = to_z w64 (of_z w64 c.args.change.at); rows = c.sort.new.self } in
    all_streams c.args.change c.args.content.now c.make.new.self g c.in_ok-make.ensures (λ i. record { at = at i; rows = rows i })

pub returns-clause-fits : goal.returns-clause-fits
returns-clause-fits c = λ w.
    all_fit w c.args.change c.args.content.now c.make.new.self c.sort.new.self c.in_ok-make.ensures (c.in_ok-sort.ensures.ok ∙ ap in_order c.in_ok-rows.ensures)
