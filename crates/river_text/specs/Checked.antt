-- A plan that was read and checked, and its capacities.
use Rattle.river_text.specs.Plans.{TextForm}
use Rattle.river_text.specs.declared.front.RiverPlan.{RiverPlan}

abbrev pub text_form_of : RiverPlan → TextForm
text_form_of read = record { plan = read.plan; caps = read.caps }
