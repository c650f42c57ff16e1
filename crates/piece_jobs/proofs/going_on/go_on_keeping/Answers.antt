use Rattle.std.proofs.Common.{◌∙◌, sym, subst}
use Rattle.std.specs.Prelude.{Option, IfSome}
use Rattle.piece_files.specs.Held.{HeldFiles}
use Rattle.piece_jobs.specs.Looked.{AreCame}
use Rattle.piece_jobs.proofs.Keeps.{keeps-next}
use Rattle.piece_jobs.proofs.going_on.go_on_keeping.Goals as goal

pub returns-clause-kept : goal.returns-clause-kept
returns-clause-kept g c =
    let p = c.in_ok-progress.progress in
    let found = c.in_ok-found.found in
    let there = g.J.JobFiles.held c.look.new.files in
    keeps-next (g.J.JobFiles.held c.args.files.now) there (g.J.JobFiles.held c.follow_keeping.new.files) p found (g.K.JobFiles.held c.args.keep.now) _
    c.follow_keeping.result (c.look.ensures.stays ∙ c.read_progress.ensures.stays) c.in_ok-progress.ensures.says c.in_ok-found.ensures.all
    (subst (λ (o : Option HeldFiles). IfSome o (λ h. AreCame h p.turn 1 found)) (sym c.look.ensures.stays) c.in_ok-found.ensures.came)
    (rw c.as_slice.ensures at c.follow_keeping.ensures.follows) (rw c.as_slice.ensures at c.follow_keeping.ensures.kept)
