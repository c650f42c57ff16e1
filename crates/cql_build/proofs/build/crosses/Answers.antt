use Rattle.std.proofs.Common.{◌+◌, ◌≤◌, length, sym, ap, arith}
use Rattle.cql_build.specs.declared.item.Item.{Item}
use Rattle.cql_build.proofs.Growing.{crosses_start, crosses_next, crosses_end}
use Rattle.cql_build.proofs.build.crosses.Goals as goal

pub loop-i-init : goal.loop-i-init
loop-i-init c =
    crosses_start c.args.raw.now c.args.query c.args.sources.now c.args.items.now c.in_ok-last.last _ c.index-items-0.result c.requires.some
    c.requires.each c.index-items-0.is
    (ap (λ (u : Item). length u.fields.now) (sym c.index-items-0.is)) c.in_ok-last.ensures c.requires.narrow

pub loop-i-preserved : goal.loop-i-preserved
loop-i-preserved c =
    let i = c.loop-i.i in
    let e = c.requires.each in
    let lt = c.loop-i-test.true in
    crosses_next c.args.raw.now c.loop-i.raw c.cross.new.raw c.args.query c.args.sources.now c.args.items.now c.loop-i.last c.in_ok-name.name
    c.in_ok-right.right c.loop-i.width _ i
    c.index-items-i.result c.loop-i.invariant lt (omega (arith, e, lt)) c.index-items-i.is c.in_ok-name.ensures c.in_ok-right.ensures
    (ap (λ (u : Item). c.loop-i.width + length u.fields.now) (sym c.index-items-i.is)) c.in_ok-cross.ensures

pub returns-clause-grew : goal.returns-clause-grew
returns-clause-grew c =
    let e = c.requires.each in
    let le = c.loop-i-test.false in
    let none : length c.args.items.now ≤ c.loop-i.i = omega (arith, e, le) in
    (crosses_end c.args.raw.now c.loop-i.raw c.args.query c.args.sources.now c.args.items.now c.loop-i.last c.loop-i.width c.loop-i.i
    c.loop-i.invariant le none).0

pub returns-clause-last : goal.returns-clause-last
returns-clause-last c =
    let e = c.requires.each in
    let le = c.loop-i-test.false in
    let none : length c.args.items.now ≤ c.loop-i.i = omega (arith, e, le) in
    (crosses_end c.args.raw.now c.loop-i.raw c.args.query c.args.sources.now c.args.items.now c.loop-i.last c.loop-i.width c.loop-i.i
    c.loop-i.invariant le none).1
