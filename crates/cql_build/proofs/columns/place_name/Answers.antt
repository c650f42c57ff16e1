use Rattle.cql_build.proofs.MadeNames.{place_is_name}
use Rattle.cql_build.proofs.columns.place_name.Goals as goal

pub of-requires : goal.of-requires
of-requires c = rw (c.as_slice.ensures, c.in_ok-text.ensures) (place_is_name c.args.place c.ranges.place.fits)
