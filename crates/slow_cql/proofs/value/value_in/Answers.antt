use Rattle.std.proofs.Common.{◌<◌, ◌≤◌, pos, false, length, get_or, min, sym, ap, ◌∙◌, arith}
use Rattle.std.proofs.lemmas.List.{get_or_default}
use Rattle.cql_model.specs.Meaning.{field_in}
use Rattle.slow_cql.proofs.Tuples.{value_in_at, value_in_end}
use Rattle.slow_cql.proofs.value.value_in.Goals as goal

pub loop-i-preserved : goal.loop-i-preserved
loop-i-preserved c =
    let fields = c.args.fields.now in
    let values = c.values-values.result.now in
    let i = c.loop-i.i in
    let lf : i < length fields = omega arith in
    let lv : i < length values = omega arith in
    let z = get_or values i (pos 0) in
    c.loop-i.invariant
    ∙ value_in_at c.args.field fields values i c.index-fields-i.result z false lf lv c.index-fields-i.is (get_or_default values i (pos 0) z lv)
    (sym c.eq.ensures ∙ c.if-eq.false)

pub returns : goal.returns
returns c =
    let fields = c.args.fields.now in
    let values = c.values-values.result.now in
    let le : min (length fields) (length values) ≤ c.loop-i.i = omega arith in
    sym (ap (field_in c.args.field fields) (sym c.values-values.ensures.values) ∙ c.loop-i.invariant ∙ value_in_end c.args.field fields values c.loop-i.i le)
