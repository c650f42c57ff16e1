use Rattle.std.proofs.Common.{◌∙◌, arith}
use Rattle.std.proofs.lemmas.Result.{err_from_is_err_and}
use Rattle.piece_merge.proofs.Sections.{kinds-at, kinds-many, front-none, front-more, front-all, sections-fault}
use Rattle.piece_merge.proofs.merger.add_sections.Goals as goal

pub add_at-requires-clause-kind : goal.add_at-requires-clause-kind
add_at-requires-clause-kind c = λ d. kinds-at c.loop-i.kept.items c.args.tables.now c.loop-i.i d c.index-tables-i.result c.loop-i.invariant.kinds c.loop-i-test.true

pub loop-i-init : goal.loop-i-init
loop-i-init c = record { kinds = c.requires.kinds; front = front-none c.args.tables.now c.args.sections.now c.args.kept.now.items }

pub loop-i-preserved : goal.loop-i-preserved
loop-i-preserved c =
    let tables = c.args.tables.now in
    let old = c.args.kept.now.items in
    let inside = c.loop-i-test.true in
    let many = kinds-many old tables c.requires.kinds in
    record {
      kinds = c.in_ok-add_at.ensures.kinds ∙ c.loop-i.invariant.kinds;
      front =
          front-more tables c.args.sections.now c.loop-i.i old c.loop-i.kept.items c.add_at.new.kept.items c.index-tables-i.result
          c.index-sections-i.result inside (omega (arith, inside, c.requires.as_many)) (omega (arith, inside, many)) c.index-sections-i.is c.loop-i.invariant.kinds
          c.loop-i.invariant.front c.in_ok-add_at.ensures.ok;
    }

pub returns-in_err-add_at-clause-none : goal.returns-in_err-add_at-clause-none
returns-in_err-add_at-clause-none c =
    let p = err_from_is_err_and c.from_residual.result c.from_residual.ensures.1 in
    rw (p.1, p.2) (sections-fault c.args.tables.now c.args.sections.now c.loop-i.i c.index-tables-i.result c.index-sections-i.result
    c.in_err-add_at.field-0.0 c.loop-i-test.true c.index-sections-i.is c.in_err-add_at.ensures.none)

pub returns-clause-ok : goal.returns-clause-ok
returns-clause-ok c =
    let end = c.loop-i-test.false in
    front-all c.args.tables.now c.args.sections.now c.loop-i.i c.args.kept.now.items c.loop-i.kept.items (omega (arith, end)) c.requires.as_many
    (kinds-many c.args.kept.now.items c.args.tables.now c.requires.kinds) c.loop-i.invariant.front
