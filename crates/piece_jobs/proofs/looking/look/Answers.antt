use Rattle.std.proofs.Common.{◌∙◌, arith}
use Rattle.piece_jobs.proofs.Loops.{found-more, found-many}
use Rattle.piece_jobs.proofs.looking.look.Goals as goal

pub loop-job-preserved : goal.loop-job-preserved
loop-job-preserved g c =
    let inv = c.loop-job.invariant in
    record {
      held = c.try_that_came.ensures.stays ∙ inv.held;
      later = omega (arith, inv.later, c.try_that_came.ensures.later);
      many = found-many c.loop-job.found c.push.new.self c.loop-job.job c.in_ok-try_that_came.field-0 inv.many c.in_ok-push.ensures.ok;
      so =
          found-more (g.J.JobFiles.held c.args.files.now) (g.J.JobFiles.held c.loop-job.files) c.args.turns c.loop-job.job c.loop-job.found c.push.new.self
          c.in_ok-try_that_came.field-0 inv.held inv.many c.in_ok-push.ensures.ok inv.so (rw c.from.ensures at c.in_ok-try_that_came.ensures.came);
    }
