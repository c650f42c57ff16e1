use Rattle.std.proofs.Common.{suc, length, ap}
use Rattle.streamit_text.specs.Program as plain
use Rattle.params_front.proofs.Parts.{written-by}
use Rattle.params_front.proofs.making.Making.write_pipeline.Goals as goal

pub returns : goal.returns
returns c = λ m a h g.
    let s = c.args.self.now in
    written-by c.wrote.result s (record s { text = c.print_pipeline.new.to }) c.wrote.new.self m (suc (length c.args.above.now)) c.args.stream
    (plain.APipeline a) c.in_ok-instance.instance h
    c.in_ok-instance.ensures.stream c.in_ok-instance.ensures.number
    (ap (λ t. record s { text = t }) (c.in_ok-print_pipeline.ensures {u = tt} a g)) c.wrote.ensures.same c.wrote.ensures.noted
