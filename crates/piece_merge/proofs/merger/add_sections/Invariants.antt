use Rattle.std.proofs.Common.{◌≡◌, map}
use Rattle.kern_tables.specs.Kept.{kind_of_table}
use Rattle.piece_merge.specs.Added.{table_kinds}
use Rattle.piece_merge.proofs.Sections.{AddedFront}
use Rattle.piece_merge.proofs.merger.add_sections.Given as goal

abbrev pub invariant-loop-i : goal.invariant-loop-i
invariant-loop-i l = record {
  kinds : map kind_of_table l.kept.items ≡ table_kinds l.tables;
  front : AddedFront l.tables l.sections l.i l.initial.kept.items l.kept.items;
}
