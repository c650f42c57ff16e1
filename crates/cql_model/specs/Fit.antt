-- The inputs of a plan, made of files, fit it.
use Rattle.std.specs.Prelude.{ℤ, List}
use Rattle.brooklet_model.specs.Fit.{Fit}
use Rattle.cql_model.specs.Instants.{AreInstantsOf, inputs_for}
use Rattle.cql_model.specs.Laws.{AreFiles}
use Rattle.cql_text.specs.Tree.{Program}
use Rattle.cql_model.specs.Plan.{plan_of}

-- files whose rows have the widths of a program's streams fit its plan, at the instants of the files
abbrev pub FilesFit : Type 0
FilesFit = (p : Program) (files : List (List (ℤ × List ℤ))) → AreFiles p files
    → (fit : Fit (plan_of p) (inputs_for files)) × AreInstantsOf files fit.instants_of
