use Rattle.std.proofs.Common.{subst, sym}
use Rattle.std.specs.Prelude.{OnOk}
use Rattle.cql_text.specs.Tree.{unit_form}
use Rattle.cql_build.specs.Grown.{AddsUnit, Used, IsPlannableUnit, IsShortUnit, unit_uses}
use Rattle.cql_build.proofs.known.Known.unit.Goals as goal

pub query-requires-clause-good : goal.query-requires-clause-good
query-requires-clause-good c =
    let g = c.requires.good in
    (g.0, g.1, subst (λ p. IsPlannableUnit g.0 (unit_form p)) c.in-Query.is g.2)

pub query-requires-clause-short : goal.query-requires-clause-short
query-requires-clause-short c = (subst (λ p. IsShortUnit (unit_form p)) c.in-Query.is c.requires.short).0

pub query-requires-clause-streams : goal.query-requires-clause-streams
query-requires-clause-streams c = (subst (λ p. IsShortUnit (unit_form p)) c.in-Query.is c.requires.short).1

pub returns-in-Query-clause-grew : goal.returns-in-Query-clause-grew
returns-in-Query-clause-grew c = λ ks k.
    subst (λ p. OnOk c.query.result (AddsUnit c.args.uses.now ks (unit_form p) c.args.raw.now c.query.new.raw)) (sym c.in-Query.is) (c.query.ensures.grew ks k)

pub returns-in-Query-clause-used : goal.returns-in-Query-clause-used
returns-in-Query-clause-used c =
    subst (λ p. OnOk c.query.result (Used c.args.uses.now c.query.new.uses (unit_uses (unit_form p)))) (sym c.in-Query.is) c.query.ensures.used
