use Rattle.std.proofs.Common.{◌≡◌, length}
use Rattle.text_forms.specs.Parse.{many_turn, many}
use Rattle.text_forms.specs.Repeat.{repeated}
use Rattle.streamit_text.specs.Reading.{no_field, field_at}
use Rattle.streamit_text.proofs.filter.fields.Given as goal

abbrev pub invariant-items : goal.invariant-items
invariant-items l = repeated (many_turn no_field field_at) l.names.items l.reader ≡ many no_field field_at l.fn.reader

abbrev pub decreases-items : goal.decreases-items
decreases-items l = length l.reader
