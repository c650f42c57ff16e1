use Rattle.std.proofs.Common.{◌<◌, ◌≤◌, length, sym, ap, ◌∙◌, arith}
use Rattle.river_kernels.specs.Fits.{relation}
use Rattle.cql_build.specs.declared.item.Item.{Item}
use Rattle.cql_build.proofs.Growing.{width_at, windows_start, windows_short, windows_next, windows_end}
use Rattle.cql_build.proofs.build.windows.Goals as goal

pub loop-i-init : goal.loop-i-init
loop-i-init c = windows_start c.args.raw.now c.args.uses.now c.args.query c.args.sources.now c.args.items.now c.requires.streams

pub relation-kind-requires : goal.relation-kind-requires
relation-kind-requires c =
    let e = c.requires.each in
    let lt = c.loop-i-test.true in
    let w = width_at c.args.items.now c.loop-i.i c.index-items-i.result (omega (arith, e, lt)) c.index-items-i.is c.requires.narrow in
    let same = ap (λ (y : Item). length y.fields.now) c.index-items-i.is in omega (arith, w, same)

pub source-requires : goal.source-requires
source-requires c =
    windows_short c.args.raw.now c.loop-i.raw c.args.uses.now c.loop-i.uses c.args.query c.args.sources.now c.args.items.now c.loop-i.i
    c.index-sources-i.result c.loop-i.invariant c.loop-i-test.true c.index-sources-i.is

pub loop-i-preserved : goal.loop-i-preserved
loop-i-preserved c =
    let e = c.requires.each in
    let lt = c.loop-i-test.true in
    let here : c.loop-i.i < length c.args.items.now = omega (arith, e, lt) in
    windows_next c.args.raw.now c.loop-i.raw c.window.new.raw c.args.uses.now c.loop-i.uses c.source.new.self c.args.query c.in_ok-name.name
    c.in_ok-from.from c.relation-kind.result c.args.sources.now c.args.items.now c.loop-i.i
    c.index-sources-i.result c.index-items-i.result c.loop-i.invariant lt c.index-sources-i.is here c.index-items-i.is c.in_ok-name.ensures
    (c.relation-kind.ensures ∙ ap (λ (y : Item). relation (length y.fields.now)) (sym c.index-items-i.is)) c.in_ok-from.ensures.name
    c.in_ok-from.ensures.past c.source.ensures.inputs c.source.ensures.all c.in_ok-window.ensures

pub returns-clause-grew : goal.returns-clause-grew
returns-clause-grew c =
    let e = c.requires.each in
    let le = c.loop-i-test.false in
    let none : length c.args.items.now ≤ c.loop-i.i = omega (arith, e, le) in
    (windows_end c.args.raw.now c.loop-i.raw c.args.uses.now c.loop-i.uses c.args.query c.args.sources.now c.args.items.now c.loop-i.i
    c.loop-i.invariant le none).0

pub returns-clause-used : goal.returns-clause-used
returns-clause-used c =
    let e = c.requires.each in
    let le = c.loop-i-test.false in
    let none : length c.args.items.now ≤ c.loop-i.i = omega (arith, e, le) in
    (windows_end c.args.raw.now c.loop-i.raw c.args.uses.now c.loop-i.uses c.args.query c.args.sources.now c.args.items.now c.loop-i.i
    c.loop-i.invariant le none).1
