use Rattle.std.proofs.Common.{◌≡◌, ◌<◌, ◌≤◌, None, length, min, sym, ◌∙◌, arith}
use Rattle.std.proofs.lemmas.List.{length-map}
use Rattle.cql_model.specs.Meaning.{field_in}
use Rattle.slow_cql.specs.Kept.{named_input, input_scope}
use Rattle.slow_cql.proofs.Tuples.{map_at, field_value_at, field_value_here, field_value_end}
use Rattle.slow_cql.proofs.value.field_value.Goals as goal

pub returns-in_default : goal.returns-in_default
returns-in_default c =
    let inputs = c.args.inputs.now in
    let i = c.loop-i.i in
    let x = c.index-inputs-i.result in
    let row = c.index-tuple-i.result in
    let li : i < length inputs = omega arith in
    let ls : i < length (input_scope inputs) = (let l = length-map inputs named_input in omega (arith, l, li)) in
    let lt : i < length c.args.tuple.now = omega arith in
    let e : c.value_in.result ≡ field_in c.args.field x.fields.now row = cc in
    field_value_here c.args.field (input_scope inputs) c.args.tuple.now i (named_input x) row c.value_in.result ls lt
    (map_at named_input inputs i x li c.index-inputs-i.is) c.index-tuple-i.is e c.in_default.not-None c.loop-i.invariant

pub loop-i-preserved : goal.loop-i-preserved
loop-i-preserved c =
    let inputs = c.args.inputs.now in
    let i = c.loop-i.i in
    let x = c.index-inputs-i.result in
    let row = c.index-tuple-i.result in
    let li : i < length inputs = omega arith in
    let ls : i < length (input_scope inputs) = (let l = length-map inputs named_input in omega (arith, l, li)) in
    let lt : i < length c.args.tuple.now = omega arith in
    let e : None ≡ field_in c.args.field x.fields.now row = cc in
    c.loop-i.invariant ∙ field_value_at c.args.field (input_scope inputs) c.args.tuple.now i (named_input x) row None ls lt
    (map_at named_input inputs i x li c.index-inputs-i.is) c.index-tuple-i.is e

pub returns : goal.returns
returns c =
    let inputs = c.args.inputs.now in
    let l = length-map inputs named_input in
    let le : min (length (input_scope inputs)) (length c.args.tuple.now) ≤ c.loop-i.i = omega (arith, l) in
    sym (c.loop-i.invariant ∙ field_value_end c.args.field (input_scope inputs) c.args.tuple.now c.loop-i.i le)
