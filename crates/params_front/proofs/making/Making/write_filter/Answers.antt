use Rattle.std.proofs.Common.{suc, length, ap}
use Rattle.streamit_text.specs.Program as plain
use Rattle.params_text.specs.Program.{filter_of}
use Rattle.params_model.specs.Plain.{plain_filter}
use Rattle.params_front.proofs.Parts.{written-by}
use Rattle.params_front.proofs.making.Making.write_filter.Goals as goal

pub returns : goal.returns
returns c = λ m h.
    let s = c.args.self.now in
    let b = plain.AFilter (plain_filter c.args.known.now (filter_of c.args.tree.now)) in
    written-by c.wrote.result s (record s { text = c.print_filter.new.to }) c.wrote.new.self m
    (suc (length c.args.above.now)) c.args.stream b c.in_ok-instance.instance h
    c.in_ok-instance.ensures.stream c.in_ok-instance.ensures.number
    (ap (λ t. record s { text = t }) (c.in_ok-print_filter.ensures {u = tt})) c.wrote.ensures.same c.wrote.ensures.noted
