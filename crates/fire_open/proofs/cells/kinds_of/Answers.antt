use Rattle.std.proofs.Common.{ap, ◌∙◌, arith, refl}
use Rattle.std.specs.Prelude.{slice_index_or}
use Rattle.std.proofs.lemmas.List.{take_all}
use Rattle.fire_open.specs.Homes.{kinds_from}
use Rattle.fire_open.proofs.ClassLemmas.{kinds_next}
use Rattle.fire_open.proofs.cells.kinds_of.Goals as goal

pub loop-table-preserved : goal.loop-table-preserved
loop-table-preserved c =
    kinds_next (λ n. slice_index_or c.args.classes.now n 0) c.args.class c.loop-table.table c.at-of.result.now _ c.args.tables.now c.at-decl.result.now
    c.loop-table.kinds c.add_kind.new.kinds
    (omega arith) (c.at-of.ensures 0) (c.at-decl.ensures c.at-decl.result.now) refl c.loop-table.invariant c.in_ok-add_kind.ensures

pub returns : goal.returns
returns c = c.loop-table.invariant
    ∙ ap (kinds_from (λ n. slice_index_or c.args.classes.now n 0) c.args.class 0) (take_all c.loop-table.table c.args.tables.now (omega arith))
