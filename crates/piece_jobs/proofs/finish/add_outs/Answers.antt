use Rattle.std.proofs.Common.{◌∙◌, arith}
use Rattle.std.specs.Prelude.{None}
use Rattle.piece_jobs.proofs.Merges.{outs-next}
use Rattle.piece_jobs.proofs.finish.add_outs.Goals as goal

pub loop-place-preserved : goal.loop-place-preserved
loop-place-preserved g c =
    let inv = c.loop-place.invariant in
    record {
      held = c.add_job.ensures.stays ∙ inv.held;
      later = omega (arith, inv.later, c.add_job.ensures.later);
      tables = c.add_job.ensures.tables ∙ inv.tables;
      so =
          outs-next (g.J.JobFiles.held c.args.files.now) (g.J.JobFiles.held c.loop-place.files) c.args.found.now c.loop-place.place None c.args.to.now
          c.loop-place.to c.add_job.new.to c.loop-place-test.true inv.held inv.so c.in_ok-add_job.ensures.added;
    }
