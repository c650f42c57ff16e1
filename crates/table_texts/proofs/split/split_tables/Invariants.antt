use Rattle.table_texts.proofs.Splits.{SplitFront}
use Rattle.table_texts.proofs.split.split_tables.Given as goal

abbrev pub invariant-loop-i : goal.invariant-loop-i
invariant-loop-i l = record {
  front : SplitFront l.tables l.out l.i l.place l.sections;
}
