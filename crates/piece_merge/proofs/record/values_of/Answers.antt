use Rattle.std.proofs.Common.{◌<◌, ◌∙◌, length, take, sym, rules, arith}
use Rattle.std.proofs.lemmas.List.{take_more_set}
use Rattle.csv.specs.Records.{fields_of}
use Rattle.piece_merge.proofs.Records.{write-after, write-none}
use Rattle.piece_merge.proofs.record.values_of.Goals as goal

pub loop-place-preserved : goal.loop-place-preserved
loop-place-preserved c =
    let place = c.loop-place.place in
    let fields = fields_of c.args.raw.now in
    let values = c.loop-place.values in
    let x = c.in_ok-values.field-0 in
    let below : place < c.args.width = search (rules, arith) in
    let room : place < length values = omega (arith, below, c.requires.at_most, c.loop-place.invariant.room) in
    let grown = take_more_set values place x room in
    record {
      room = search rules;
      all =
          write-after fields place (take place values) _ x c.loop-place.invariant.all (sym c.value_at.ensures ∙ c.in_ok-values.was)
          (search (rules, grown));
    }

pub returns-in_err-values-clause-none : goal.returns-in_err-values-clause-none
returns-in_err-values-clause-none c =
    let below : c.loop-place.place < c.args.width = search (rules, arith) in
    rw c.from_residual.ensures
    (write-none (fields_of c.args.raw.now) c.args.width c.loop-place.place below c.requires.within (sym c.value_at.ensures ∙ c.in_err-values.was))
