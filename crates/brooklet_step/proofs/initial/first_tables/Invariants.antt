use Rattle.std.proofs.Common.{◌≡◌, take, []}
use Rattle.brooklet_step.specs.Tables.{kept_tables}
use Rattle.brooklet_step.proofs.initial.first_tables.Given as goal

abbrev pub invariant-loop-decl : goal.invariant-loop-decl
invariant-loop-decl l = l.tables ≡ kept_tables (take l.decl-index l.decl-items) (λ name. [])
