-- What was compiled of a River text stands for what the text means.
use Rattle.std.proofs.Common.{◌≡◌, List, refl}
use Rattle.std.specs.Prelude.{Result, Ok}
use Rattle.river_outside.specs.Passes.{StandsFor}
use Rattle.river_plan.specs.Caps.{AreCaps}
use Rattle.river_plan.specs.Forms.{PlanForm}
use Rattle.river_plan.specs.declared.caps.Cap.{Cap}
use Rattle.river_text.specs.Plans.{TextForm}
use Rattle.river_text.specs.Words.{river_words}
use Rattle.river_text.specs.declared.river_fault.RiverFault.{RiverFault}
use Rattle.river_road.specs.Source.{SourceProgram, source_or_refused, IsCompiled}
use Rattle.river_langs.specs.Sources.{river_source}

-- the plan that was read of a River text, and its capacities, stand for what the text means
pub river-compiled : (meant : Result TextForm RiverFault) (p : PlanForm) (caps : List Cap) → meant ≡ Ok (record { plan = p; caps = caps }) → AreCaps caps
    → StandsFor (IsCompiled (λ (s : SourceProgram) (t : Unit {0}). Unit {0})) (source_or_refused river_source river_words meant)
    (record { plan = p; caps = caps; program = tt })
river-compiled meant p caps is fit =
    rw is (record {
      planned = record {
        plan =
            record { plan = refl; inputs = refl; outputs = refl; tables = refl; means = λ rows t. refl };
        caps_are = refl;
        fit = fit;
      };
      program = tt;
    })
