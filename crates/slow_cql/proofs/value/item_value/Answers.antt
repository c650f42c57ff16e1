use Rattle.std.proofs.Common.{◌≡◌, ◌<◌, ◌≤◌, true, false, [], length, get_or, min, sym, ap, ◌∙◌, arith}
use Rattle.std.proofs.lemmas.List.{length-map, get_or_default}
use Rattle.river_base.specs.Name.{name_eq}
use Rattle.cql_model.specs.Meaning.{field_in}
use Rattle.slow_cql.specs.declared.kept.Input.{Input}
use Rattle.slow_cql.specs.Kept.{named_input, input_scope}
use Rattle.slow_cql.proofs.Tuples.{map_at, item_value_at, item_value_end}
use Rattle.slow_cql.proofs.value.item_value.Goals as goal

pub returns-then-eq : goal.returns-then-eq
returns-then-eq c =
    let inputs = c.args.inputs.now in
    let i = c.loop-i.i in
    let x = c.index-inputs-i-then-eq.result in
    let row = c.index-tuple-i.result in
    let li : i < length inputs = omega arith in
    let ls : i < length (input_scope inputs) = (let l = length-map inputs named_input in omega (arith, l, li)) in
    let lt : i < length c.args.tuple.now = omega arith in
    let t : name_eq x.name c.args.item ≡ true = ap (λ (y : Input). name_eq y.name c.args.item) (c.index-inputs-i-then-eq.is
    ∙ get_or_default inputs i x c.index-inputs-i.result li) ∙ sym c.if-eq.ensures in
    let e : c.value_in.result ≡ field_in c.args.field x.fields.now row = cc in
    e ∙ sym (c.loop-i.invariant ∙ item_value_at c.args.item c.args.field (input_scope inputs) c.args.tuple.now i (named_input x) row true ls lt
    (map_at named_input inputs i x li c.index-inputs-i-then-eq.is) c.index-tuple-i.is t)

pub loop-i-preserved : goal.loop-i-preserved
loop-i-preserved c =
    let inputs = c.args.inputs.now in
    let i = c.loop-i.i in
    let x = c.index-inputs-i.result in
    let row = get_or c.args.tuple.now i [] in
    let li : i < length inputs = omega arith in
    let ls : i < length (input_scope inputs) = (let l = length-map inputs named_input in omega (arith, l, li)) in
    let lt : i < length c.args.tuple.now = omega arith in
    let t : name_eq x.name c.args.item ≡ false = cc in
    c.loop-i.invariant
    ∙ item_value_at c.args.item c.args.field (input_scope inputs) c.args.tuple.now i (named_input x) row false ls lt
    (map_at named_input inputs i x li c.index-inputs-i.is)
    (get_or_default c.args.tuple.now i [] row lt) t

pub returns : goal.returns
returns c =
    let inputs = c.args.inputs.now in
    let l = length-map inputs named_input in
    let le : min (length (input_scope inputs)) (length c.args.tuple.now) ≤ c.loop-i.i = omega (arith, l) in
    sym (c.loop-i.invariant ∙ item_value_end c.args.item c.args.field (input_scope inputs) c.args.tuple.now c.loop-i.i le)
