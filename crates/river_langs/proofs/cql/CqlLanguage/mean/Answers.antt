use Rattle.std.proofs.Common.{sym, subst}
use Rattle.cql_model.specs.Laws.{AreFiles}
use Rattle.cql_text.specs.Tree.{program_of}
use Rattle.river_langs.proofs.Files.{known-files}
use Rattle.river_langs.proofs.cql.CqlLanguage.mean.Goals as goal

pub mean_cql-requires-clause-files : goal.mean_cql-requires-clause-files
mean_cql-requires-clause-files c =
    subst (AreFiles (program_of c.args.compiled.now.program)) (sym c.in_ok-timed_files_of.ensures)
    (known-files c.args.compiled.now c.args.files c.requires.known c.requires.contents)
