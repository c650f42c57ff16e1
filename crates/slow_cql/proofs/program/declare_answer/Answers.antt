use Rattle.std.proofs.Common.{◌≡◌, List, ℕ, ◌∷◌, OnOk, subst}
use Rattle.cql_model.specs.Meaning.{named_of, answer}
use Rattle.cql_model.specs.Scopes.{scope_of, column_names}
use Rattle.cql_text.specs.Tree.{query_of}
use Rattle.slow_cql.specs.Kept.{StandsKept}
use Rattle.slow_cql.proofs.Standing.{stands_same}
use Rattle.slow_cql.proofs.program.declare_answer.Goals as goal

pub returns : goal.returns
returns c = λ ks items st.
    let ts = c.args.instants.now in
    let all = c.args.known.now in
    let q = query_of c.args.query.now in
    let fields : c.in_ok-fields.fields ≡ column_names (scope_of (named_of ks) q.items) q.columns =
    c.in_ok-fields.ensures ks (stands_same ts c.as_slice-2.result.now all c.as_slice.result.now ks c.as_slice-2.ensures c.as_slice.ensures st) in
    subst (λ (fs : List (List ℕ)). OnOk c.declare.result
    (StandsKept ts c.declare.new.known (record { named = record { name = q.name; fields = fs }; rows = answer ts ks q } ∷ ks))) fields
    (c.declare.ensures ts ks (answer ts ks q) items st)
