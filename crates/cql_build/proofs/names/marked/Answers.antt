use Rattle.cql_build.proofs.MadeNames.{marked_is_name}
use Rattle.cql_build.proofs.names.marked.Goals as goal

pub of-requires : goal.of-requires
of-requires c =
    rw (c.as_slice.ensures, c.in_ok-text.ensures.is) (marked_is_name c.args.base c.args.mark c.in_ok-text.ensures.named c.requires c.in_ok-text.ensures.low)
