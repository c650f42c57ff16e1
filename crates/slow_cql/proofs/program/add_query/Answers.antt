use Rattle.std.proofs.Common.{◌≡◌, [], ◌∷◌, ◌++◌, ap, ◌∙◌}
use Rattle.cql_model.specs.Meaning.{answer, query_known}
use Rattle.cql_model.specs.Streams.{spread}
use Rattle.cql_text.specs.Tree.{query_of}
use Rattle.slow_cql.specs.Kept.{StandsKept}
use Rattle.slow_cql.proofs.Standing.{stands_same}
use Rattle.slow_cql.proofs.Results.{on_ok, always_ok}
use Rattle.slow_cql.proofs.program.add_query.Goals as goal

pub returns-clause-known : goal.returns-clause-known
returns-clause-known c = λ ks st.
    let ts = c.args.instants.now in
    let all = c.args.known.now in
    let q = query_of c.args.query.now in
    let items : c.in_ok-items.items ≡ spread ts (answer ts ks q) =
    c.in_ok-items.ensures ks (stands_same ts c.as_slice-2.result.now all c.as_slice.result.now ks c.as_slice-2.ensures c.as_slice.ensures st)
    ∙ ap (λ l. spread l (answer l ks q)) c.as_slice-2.ensures in
    always_ok c.push.result (StandsKept ts c.declare_answer.new.known (query_known ts ks q ∷ ks)) (c.in_ok-declare_answer.ensures ks items st)

pub returns-clause-outs : goal.returns-clause-outs
returns-clause-outs c = λ ks st.
    let ts = c.args.instants.now in
    let all = c.args.known.now in
    let q = query_of c.args.query.now in
    let items : c.in_ok-items.items ≡ spread ts (answer ts ks q) =
    c.in_ok-items.ensures ks (stands_same ts c.as_slice-2.result.now all c.as_slice.result.now ks c.as_slice-2.ensures c.as_slice.ensures st)
    ∙ ap (λ l. spread l (answer l ks q)) c.as_slice-2.ensures in
    on_ok c.push.result (c.push.new.self ≡ c.args.outs.now ++ c.from_items.result ∷ []) (c.push.new.self ≡ c.args.outs.now ++ spread ts (answer ts ks q) ∷ [])
    (λ e. e ∙ ap (λ l. c.args.outs.now ++ l ∷ []) (c.from_items.ensures ∙ items)) c.push.ensures.ok
