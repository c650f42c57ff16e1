use Rattle.std.proofs.Common.{◌≡◌, ap, ◌∙◌}
use Rattle.cql_model.specs.Meaning.{answer}
use Rattle.cql_model.specs.Streams.{as_stream, spread}
use Rattle.cql_text.specs.Tree.{query_of}
use Rattle.slow_cql.specs.Contents.{content_over}
use Rattle.slow_cql.proofs.Contents.{contents_are}
use Rattle.slow_cql.proofs.Standing.{inputs_same}
use Rattle.slow_cql.proofs.Results.{if_ok}
use Rattle.slow_cql.proofs.answer.answer.Goals as goal

pub returns : goal.returns
returns c = λ ks st.
    let ts = c.args.instants.now in
    let q = query_of c.args.query.now in
    let is = c.as_slice-2.result.now in
    let a = inputs_same ts ks c.as_slice.result.now c.args.query.now.items.items c.in_ok-inputs.inputs.items is c.as_slice.ensures.value
    c.as_slice-2.ensures.value (c.in_ok-inputs.ensures ts ks c.requires.rises st) in
    if_ok c.over_inputs.result (λ items. items ≡ spread ts (as_stream q.kind ts (content_over is q))) (λ items. items ≡ spread ts (answer ts ks q))
    (λ items e. e ∙ ap (λ r. spread ts (as_stream q.kind ts r)) (contents_are ts ks q is a)) c.over_inputs.ensures
