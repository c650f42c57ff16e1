-- The program of a text that is not refused has what its meaning asks for.
use Rattle.std.proofs.Common.{Ok, List, [], ◌∷◌}
use Rattle.text_tokens.specs.Cut.{units_of}
use Rattle.text_tokens.specs.Tok.{toks}
use Rattle.cql_model.specs.Plannable.{AreQueries}
use Rattle.cql_text.specs.Tree.{Register, AQuery, Program}
use Rattle.cql_model.specs.Scopes.{Named}
use Rattle.cql_model.specs.Plan.{query_named}
use Rattle.cql_model.proofs.Judged.{accepted_plannable}
use Rattle.slow_cql.specs.Contents.{HaveColumns}
use Rattle.slow_cql.specs.Laws.{CompiledHaveColumns}
use Rattle.cql_front.specs.Laws.{Has}
use Rattle.cql_front.proofs.Fronts.{means_what_it_has}
use Rattle.cql_front.proofs.Spoken.{spoken}

have_columns : (known : List Named) (ps : Program) → AreQueries known ps → HaveColumns known ps
have_columns known [] h = tt
have_columns known (Register name fields ∷ ps) h = have_columns (record { name = name; fields = fields } ∷ known) ps h.1
have_columns known (AQuery q ∷ ps) h = (h.0.columns, have_columns (query_named known q ∷ known) ps h.1)

-- the law: the program of a text has what its meaning asks for
pub accepted_columns : CompiledHaveColumns
accepted_columns text p e =
    let h : Has text (Ok p) = (means_what_it_has text (Ok p)).0 e in
    let s = spoken p (units_of (toks h.0.marks)) h.0.formed in
    have_columns [] p (accepted_plannable p s h.1).queries
