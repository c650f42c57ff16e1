use Rattle.brooklet_step.proofs.KindLemmas.{missing_in}
use Rattle.brooklet_step.proofs.kinds.is_missing.Goals as goal

pub returns : goal.returns
returns c =
    missing_in c.args.row.now c.args.rows.now c.as_slice.result.now c.binary_search.result c.is_err.result c.as_slice.ensures c.is_err.ensures.value
    c.requires c.binary_search.ensures.bound c.binary_search.ensures.position
