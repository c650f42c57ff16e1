use Rattle.std.proofs.Common.{drop}
use Rattle.table_texts.proofs.Splits.{line-none}
use Rattle.table_texts.proofs.split.behind_line.Goals as goal

pub returns-clause-none : goal.returns-clause-none
returns-clause-none c =
    let out = c.args.out.now in
    line-none c.args.name.now (drop c.args.place out) (drop c.in_ok-at_name.at_name out) (drop c.in_ok-at_end.at_end out) c.behind-3.result
    c.in_ok-at_name.ensures.word c.in_ok-at_end.ensures.word c.behind-3.ensures.none
