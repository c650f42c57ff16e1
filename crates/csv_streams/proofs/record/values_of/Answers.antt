use Rattle.std.proofs.Common.{rules, arith, ◌≡◌, ◌<◌, ◌+◌, take, length}
use Rattle.std.specs.Prelude.{Ok, Err, option_and_then}
use Rattle.std.proofs.lemmas.List.{take_more_set}
use Rattle.std.proofs.lemmas.Result.{err_from_is_err_and}
use Rattle.csv.specs.Records.{fields_of, field_at}
use Rattle.csv_streams.specs.Number.{number_in}
use Rattle.csv_streams.specs.Rows.{value_or}
use Rattle.csv_streams.proofs.Fields.{fields-push, fields-fault}
use Rattle.csv_streams.proofs.record.values_of.Goals as goal

pub returns-in_err-values-clause-fault : goal.returns-in_err-values-clause-fault
returns-in_err-values-clause-fault c =
    let place = c.loop-place.place in
    let fields = fields_of c.args.raw.now in
    let below : place < c.args.width = search (rules, arith) in
    let is : value_or c.args.rec (place + 1) (option_and_then number_in (field_at fields place)) ≡ Err c.in_err-values.field-0.0 = search rules in
    let p = err_from_is_err_and c.from_residual.result c.from_residual.ensures.1 in
    rw (p.1, p.2) (fields-fault c.args.rec c.args.width place fields
    (take place c.loop-place.values) c.in_err-values.field-0.0 below c.requires.within c.loop-place.invariant.read is)

pub loop-place-preserved : goal.loop-place-preserved
loop-place-preserved c =
    let place = c.loop-place.place in
    let fields = fields_of c.args.raw.now in
    let values = c.loop-place.values in
    let x = c.in_ok-values.field-0 in
    let below : place < c.args.width = search (rules, arith) in
    let room : place < length values = omega (arith, below, c.requires.at_most, c.loop-place.invariant.room) in
    let is : value_or c.args.rec (place + 1) (option_and_then number_in (field_at fields place)) ≡ Ok x = search rules in
    let read = fields-push c.args.rec c.args.width place fields (take place values) x below c.requires.within c.loop-place.invariant.read is in
    let grown = take_more_set values place x room in
    record {
      room = search rules;
      read = search (rules, read, grown);
    }
