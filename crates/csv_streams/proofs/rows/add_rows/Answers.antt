use Rattle.std.proofs.lemmas.Result.{IfErr-weaker, on_ok_weaker}
use Rattle.csv_streams.proofs.rows.add_rows.Goals as goal

-- the reader stands before the first record of these bytes
pub add_records-requires-clause-first : goal.add_records-requires-clause-first
add_records-requires-clause-first c = (c.args.bytes.now, c.reader_of-rdr.ensures)

pub returns-clause-ok : goal.returns-clause-ok
returns-clause-ok c = on_ok_weaker c.add_records.result (λ all. all c.args.bytes.now c.reader_of-rdr.ensures) c.add_records.ensures.ok

pub returns-clause-fault : goal.returns-clause-fault
returns-clause-fault c = IfErr-weaker c.add_records.result _ _ (λ f told. told c.args.bytes.now c.reader_of-rdr.ensures) c.add_records.ensures.fault
