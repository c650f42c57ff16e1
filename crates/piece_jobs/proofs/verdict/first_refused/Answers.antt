use Rattle.std.specs.Prelude.{None}
use Rattle.piece_jobs.proofs.Loops.{refused-front}
use Rattle.piece_jobs.proofs.verdict.first_refused.Goals as goal

pub returns-in-Refused-clause-some : goal.returns-in-Refused-clause-some
returns-in-Refused-clause-some c =
    refused-front c.args.found.now c.loop-place.place None c.in-Some.came c.loop-place-test.true c.in-Some.is c.in-Refused.is
    c.loop-place.invariant.all
