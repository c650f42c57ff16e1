use Rattle.std.proofs.lemmas.Result.{err_from_is_err_and}
use Rattle.table_texts.proofs.split.split_next.Goals as goal

pub returns-in_err-from_slice-clause-none : goal.returns-in_err-from_slice-clause-none
returns-in_err-from_slice-clause-none c = let p = err_from_is_err_and c.from_residual.result c.from_residual.ensures.1 in rw (p.1, p.2) tt

pub returns-in_err-push-clause-none : goal.returns-in_err-push-clause-none
returns-in_err-push-clause-none c =
    let p = err_from_is_err_and c.from_residual-in_err-push.result c.from_residual-in_err-push.ensures.1 in rw (p.1, p.2) tt
