-- What is true of the text and the script that `load` runs.
use Rattle.std.specs.Prelude.{◌≡◌, ℕ, [], ◌∷◌, Ok}
use Rattle.river_plan.specs.Forms.{PlanForm}
use Rattle.river_script.specs.Meaning.{rewritten}
use Rattle.saw_front.specs.Meaning.{Accepted, compiled, plan_in}
use Rattle.river_road.specs.Load.{load_program, load_script, load_records}
use Rattle.river_road.specs.Points.{load_supplied}
use Rattle.river_road.specs.Source.{SourceProgram}
use Rattle.river_road.specs.declared.content.FileContent.TheVariants.{Rows as Plain}
use Rattle.river_langs.specs.Sources.{saw_in, saw_source}

-- a Sawzall program with this plan in place of its own
abbrev pub loaded_source : Accepted → PlanForm → SourceProgram
loaded_source a plan = record (saw_source a) { plan = plan }

-- the text is a program of Sawzall, and its script makes a plan of the program's plan. So for each number of records `load` is not
-- refused: it runs this program, by this plan, over records 1 to n
abbrev pub LoadStands : Type 0
LoadStands =
    (a : Accepted) × (plan : PlanForm) × (compiled load_program ≡ Ok a) × (rewritten (plan_in a) load_script ≡ Ok plan)
    × ((n : ℕ) → load_supplied saw_in n ≡ Ok (record { source = loaded_source a plan; files = Plain (load_records n) ∷ [] }))
