use Rattle.std.proofs.Common.{suc, length, ap, ◌∙◌}
use Rattle.streamit_text.specs.Program as plain
use Rattle.params_text.specs.Program.{dealing_of, rounds_of}
use Rattle.params_model.specs.Environment.{dealing, option_counts}
use Rattle.params_print.specs.Heads.{names_written}
use Rattle.params_front.proofs.Parts.{written-by}
use Rattle.params_front.proofs.making.Making.write_split_join.Goals as goal

pub returns : goal.returns
returns c = λ m a h g.
    let s = c.args.self.now in
    let scope = c.args.scope.now in
    let all = c.args.all.now in
    let b = plain.ASplitJoin (dealing scope.known (dealing_of all.split)) a (option_counts scope.known (rounds_of all.join)) in
    written-by c.wrote.result s (record s { text = c.print_split_join.new.to }) c.wrote.new.self m
    (suc (length c.args.above.now)) c.args.stream b c.in_ok-instance.instance h
    c.in_ok-instance.ensures.stream c.in_ok-instance.ensures.number
    (ap (λ t. record s { text = t })
    (c.in_ok-print_split_join.ensures {u = tt} a (ap names_written c.as_slice.ensures ∙ g))) c.wrote.ensures.same c.wrote.ensures.noted
