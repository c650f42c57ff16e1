-- The private variables that a step adds.
use Rattle.std.specs.Prelude.{List, [], ◌∷◌, ◌++◌}
use Rattle.river_plan.specs.Forms.{Name}
use Rattle.rw_fission.specs.declared.made.MadeNames.{MadeNames}
use Rattle.rw_fission.specs.declared.form.Form.{Form}
use Rattle.rw_fission.specs.declared.form.Form.TheVariants.{Packs, Blocks, Adds}

-- the new private variables of a form, without that of the splitter
abbrev pub behind_splitter : MadeNames → Form → List Name
behind_splitter names (Packs u) = names.joiner ∷ []
behind_splitter names (Blocks pop push) = names.replicas ++ names.joiner ∷ []
behind_splitter names Adds = []
