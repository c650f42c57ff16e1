-- The files of inputs with timestamps.
use Rattle.std.proofs.Common.{◌≡◌, List, [], ◌∷◌, ◌++◌, refl, ap, ◌∙◌, subst}
use Rattle.cql_model.specs.Laws.{AreFiles}
use Rattle.cql_text.specs.Tree.{program_of}
use Rattle.cql_text.specs.declared.tree.CqlProgram.{CqlProgram}
use Rattle.river_road.specs.Contents.{AreContents}
use Rattle.river_road.specs.Inputs.{timed_files}
use Rattle.river_road.specs.Source.{HasSource}
use Rattle.river_road.specs.declared.content.FileContent.{FileContent}
use Rattle.river_road.specs.declared.content.FileContent.TheVariants.{Rows as Plain, Timed}
use Rattle.river_road.specs.declared.language.Compiled.{Compiled}
use Rattle.river_langs.specs.Sources.{IsCql}
use Rattle.river_langs.proofs.CqlCompiled.{files-are}

-- the files of a CQL program fit its registered streams
pub known-files : (c : Compiled CqlProgram) (all : List FileContent) → HasSource (λ s t. IsCql s (program_of t)) c → AreContents c.plan.inputs all
    → AreFiles (program_of c.program) (timed_files all)
known-files c all (source, is) typed =
    files-are (program_of c.program) all (subst (λ ds. AreContents ds all) (is.planned.plan.inputs ∙ is.program.inputs) typed)

-- files with timestamps, one after another
pub timed-more : (fs : List FileContent) (f : FileContent) → timed_files (fs ++ f ∷ []) ≡ timed_files fs ++ timed_files (f ∷ [])
timed-more [] f = refl
timed-more (Plain rows ∷ fs) f = timed-more fs f
timed-more (Timed rows ∷ fs) f = ap (λ l. rows ∷ l) (timed-more fs f)
