use Rattle.std.proofs.Common.{◌≡◌, List, ◌∷◌, ◌++◌, [], refl, sym, ap, ◌∙◌, subst}
use Rattle.cql_model.specs.Meaning.{KnownStream}
use Rattle.slow_cql.specs.declared.kept.Kept.{Kept}
use Rattle.slow_cql.specs.Kept.{timed, entries_in, StandsKept}
use Rattle.slow_cql.proofs.Standing.{stands_more}
use Rattle.slow_cql.proofs.Results.{on_ok}
use Rattle.slow_cql.proofs.Timed.{entries-spread}
use Rattle.slow_cql.proofs.kept.declare.Goals as goal

pub returns : goal.returns
returns c = λ ts ks s is st.
    let x : Kept = record { name = c.args.name; fields = c.args.fields; entries = c.in_ok-entries.entries } in
    let k : KnownStream = record { named = record { name = c.args.name; fields = c.args.fields }; rows = s } in
    let rows : c.in_ok-entries.entries ≡ timed ts s = c.in_ok-entries.ensures ∙ ap entries_in (c.as_slice.ensures ∙ is) ∙ entries-spread ts s in
    on_ok c.push.result (c.push.new.self ≡ c.args.known.now ++ x ∷ []) (StandsKept ts c.push.new.self (k ∷ ks))
    (λ e. subst (λ (l : List Kept). StandsKept ts l (k ∷ ks)) (sym e) (stands_more ts c.args.known.now ks x k st refl refl rows)) c.push.ensures.ok
