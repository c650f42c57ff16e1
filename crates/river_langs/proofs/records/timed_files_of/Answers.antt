use Rattle.std.proofs.Common.{◌∙◌, [], ◌∷◌, ◌++◌, sym, ap}
use Rattle.river_road.specs.Inputs.{timed_files}
use Rattle.river_langs.proofs.Files.{timed-more}
use Rattle.river_langs.proofs.records.timed_files_of.Goals as goal

pub loop-file-preserved : goal.loop-file-preserved
loop-file-preserved c =
    c.in_ok-add_timed.ensures ∙ ap (λ l. l ++ timed_files (c.in-Some.file ∷ [])) c.loop-file.invariant ∙ sym (timed-more c.loop-file.yielded c.in-Some.file)
