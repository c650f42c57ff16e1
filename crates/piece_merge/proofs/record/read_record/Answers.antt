use Rattle.std.proofs.Common.{rules}
use Rattle.csv.specs.Records.{fields_of}
use Rattle.csv_streams.proofs.Records.{reads-next}
use Rattle.piece_merge.proofs.record.read_record.Goals as goal
use Rattle.piece_merge.proofs.record.read_record.Goals.{in-Ok, in-Err}

pub returns : goal.returns
returns c =
    elim c.match-read_byte_record.branch [
      | in-Ok w ↦ rw w.result-is
          (λ bytes recs h. reads-next bytes recs c.args.rdr.now c.read_byte_record.new.self (fields_of c.read_byte_record.new.row) w.in-Ok.found h
          ((rw w.in-Ok.is at c.read_byte_record.ensures.reads) h.trims h.ready)
          ((rw w.in-Ok.is at c.read_byte_record.ensures.ready) h.trims))
      | in-Err w ↦ rw w.result-is (search rules)
    ]
