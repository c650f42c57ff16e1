-- The plan of an accepted program means what the program means, at the instants of the files.
use Rattle.std.proofs.Common.{◌≡◌, ◌<◌, List, [], ◌∷◌, arith}
use Rattle.river_base.specs.Instants.{instants}
use Rattle.river_plan.specs.Forms.{Name}
use Rattle.river_plan.specs.Names.{count}
use Rattle.river_plan.proofs.NameLemmas.{one_same}
use Rattle.cql_model.specs.Plannable.{AreQueries}
use Rattle.cql_model.specs.Instants.{PlansMean}
use Rattle.cql_model.specs.Laws.{AreSourced}
use Rattle.cql_model.specs.Program.{registered}
use Rattle.cql_text.specs.Tree.{Register, AQuery, Program}
use Rattle.cql_model.specs.Scopes.{Named}
use Rattle.cql_model.specs.Plan.{query_named}
use Rattle.cql_model.proofs.Means.{translation_means}
use Rattle.cql_model.proofs.Valid.{asked, declared_split}
use Rattle.cql_model.proofs.OnlyLimits.{plans_are_valid}
use Rattle.cql_model.proofs.Stamps.{instants_are}

-- THE LAW

asked_in : (inputs : List Name) (ks : List Named) (ps : Program) → AreQueries ks ps → ((n : Name) → 0 < count n (asked ps) → count n inputs ≡ 0)
    → AreSourced inputs ks ps
asked_in inputs ks [] a f = tt
asked_in inputs ks (Register name fields ∷ ps) a f = asked_in inputs (record { name = name; fields = fields } ∷ ks) ps a.1 f
asked_in inputs ks (AQuery q ∷ ps) a f = (
  record { some = a.0.some; streams = a.0.streams; apart = f q.name (let o = one_same q.name in omega (arith, o)) },
  asked_in inputs (query_named ks q ∷ ks) ps a.1 (λ n lt. f n (omega (arith, lt))),
)

-- the law: a plan within the limits means what the program means
pub plans_mean : PlansMean
plans_mean p files a within are =
    translation_means p (instants files) files
    (asked_in (registered p) [] p a.queries (λ n lt. let s = declared_split n p in let o = a.once n in omega (arith, s, o, lt)))
    are (instants_are files).rise (plans_are_valid p a within)
