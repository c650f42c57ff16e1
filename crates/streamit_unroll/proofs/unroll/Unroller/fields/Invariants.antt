use Rattle.std.proofs.Common.{◌≡◌, drop}
use Rattle.streamit_model.specs.ElaborateFilter.{read_fields}
use Rattle.streamit_unroll.specs.Unrolling.{at_of}
use Rattle.streamit_unroll.proofs.unroll.Unroller.fields.Given as goal

abbrev pub invariant-loop-name : goal.invariant-loop-name
invariant-loop-name l = read_fields l.fields (at_of l.initial.self) ≡ read_fields (drop l.name-index l.fields) (at_of l.self)
