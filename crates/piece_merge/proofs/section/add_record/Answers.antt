use Rattle.std.proofs.Common.{◌∙◌, false}
use Rattle.csv.specs.Records.{fields_of}
use Rattle.csv_streams.proofs.WrittenRows.{row-width}
use Rattle.piece_merge.proofs.section.add_record.Goals as goal

pub add-requires : goal.add-requires
add-requires c = row-width c.args.width false (fields_of c.args.raw.now) c.in-Some.row c.in-Some.ensures.row ∙ c.requires.width
