use Rattle.std.proofs.Common.{◌-◌, take, drop}
use Rattle.table_texts.specs.Split.{HasNoName}
use Rattle.table_texts.proofs.split.section_end.Given as goal

abbrev pub invariant-loop-place : goal.invariant-loop-place
invariant-loop-place l = record {
  none : HasNoName (take (l.place - l.from) (drop l.from l.out));
}
