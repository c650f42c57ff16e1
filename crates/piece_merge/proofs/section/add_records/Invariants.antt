use Rattle.std.proofs.Common.{◌≡◌}
use Rattle.kern_tables.specs.Kept.{kind_of_table}
use Rattle.piece_merge.proofs.Sections.{ReadFront}
use Rattle.piece_merge.proofs.section.add_records.Given as goal

abbrev pub invariant-loop-n : goal.invariant-loop-n
invariant-loop-n l = record {
  kind : kind_of_table l.table ≡ kind_of_table l.initial.table;
  front : ReadFront l.section l._n l.rdr l.initial.table l.table;
}
