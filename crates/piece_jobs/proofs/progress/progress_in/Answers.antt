use Rattle.std.proofs.Common.{sym, ◌∙◌}
use Rattle.piece_jobs.proofs.Loops.{some-alone, none-alone}
use Rattle.piece_jobs.proofs.progress.progress_in.Goals as goal

pub returns-clause-some : goal.returns-clause-some
returns-clause-some c =
    some-alone c.args.rows.now c.at.result.now c.of_row.result (sym c.len.ensures ∙ c.if-len-ne1.false) (c.at.ensures.row c.at.result.now)
    c.of_row.ensures.some

pub returns-clause-none : goal.returns-clause-none
returns-clause-none c =
    none-alone c.args.rows.now c.at.result.now c.of_row.result (sym c.len.ensures ∙ c.if-len-ne1.false) (c.at.ensures.row c.at.result.now)
    c.of_row.ensures.none
