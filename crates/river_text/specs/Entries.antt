-- Entries that were read.
use Rattle.river_plan.specs.Forms.{op_form, plan_form}
use Rattle.river_text.specs.declared.entry.Entry as read
use Rattle.river_text.specs.declared.entry.Entry.TheVariants as kind
use Rattle.river_text.specs.declared.entry.RiverText.{RiverText}
use Rattle.river_text.specs.Plans.{EntryForm, header, output, input, inner, table, private, operator, TextForm}

abbrev pub entry_form : read.Entry → EntryForm
entry_form kind.Header = header
entry_form (kind.Output d) = output d
entry_form (kind.Input d) = input d
entry_form (kind.Queue q) = inner q
entry_form (kind.Table t) = table t
entry_form (kind.Var v) = private v
entry_form (kind.Op o) = operator (op_form o)

-- what a text stands for, as it was read
abbrev pub text_form : RiverText → TextForm
text_form t = record { plan = plan_form t.raw; caps = t.caps }
