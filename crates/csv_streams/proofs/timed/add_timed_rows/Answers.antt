use Rattle.std.proofs.lemmas.Result.{IfErr-weaker, on_ok_weaker}
use Rattle.csv_streams.proofs.timed.add_timed_rows.Goals as goal

-- the reader stands before the first record of these bytes
pub add_timed_records-requires-clause-first : goal.add_timed_records-requires-clause-first
add_timed_records-requires-clause-first c = (c.args.bytes.now, c.reader_of-rdr.ensures)

pub returns-clause-ok : goal.returns-clause-ok
returns-clause-ok c = on_ok_weaker c.add_timed_records.result (λ all. all c.args.bytes.now c.reader_of-rdr.ensures) c.add_timed_records.ensures.ok

pub returns-clause-fault : goal.returns-clause-fault
returns-clause-fault c = IfErr-weaker c.add_timed_records.result _ _ (λ f told. told c.args.bytes.now c.reader_of-rdr.ensures) c.add_timed_records.ensures.fault
