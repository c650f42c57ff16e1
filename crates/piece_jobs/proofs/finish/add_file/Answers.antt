use Rattle.river_outside.specs.Causes.{Rose}
use Rattle.piece_jobs.specs.Merged.{WhyNotAdded}
use Rattle.piece_jobs.specs.Next.{WhyNotNext}
use Rattle.piece_jobs.proofs.Merges.{not-added-why}
use Rattle.piece_jobs.proofs.Whys.{err-map}
use Rattle.piece_jobs.proofs.finish.add_file.Goals as goal

pub returns-clause-refused : goal.returns-clause-refused
returns-clause-refused g c =
    let held = g.J.JobFiles.held c.args.files.now in
    let rose = Rose g.J.JobFiles.stays_at_last (g.J.JobFiles.faults c.args.files.now) (g.J.JobFiles.faults c.fetch_file.new.files) in
    err-map (WhyNotAdded c.args.to.now.tables c.in_ok-text.text) (WhyNotNext held rose) c.add_text.result
    (λ fault w. not-added-why held held rose c.args.to.now.tables c.args.file c.in_ok-text.text fault c.requires.plan c.requires.printed
    c.in_ok-text.ensures.bytes w)
    c.add_text.ensures.refused
