use Rattle.std.proofs.Common.{◌∙◌, ap, ℕ, [], ◌∷◌, suc, ◌+◌, rules, drop, get_or, length, subst, arith, refl}
use Rattle.std.specs.Prelude.{codes}
use Rattle.std.proofs.lemmas.List.{drop_all}
use Rattle.river_base.proofs.Lists.{drop_next}
use Rattle.kern_rows.specs.Forms.{filter_form}
use Rattle.river_kernels.specs.Kern.{filter}
use Rattle.streamit_model.specs.Unrolled.{Streams}
use Rattle.streamit_model.specs.Plan.{numbered, queue, queues, with_own, splitter, joiner, build_branches, ops_of, queues_within}
use Rattle.streamit_build.specs.declared.builder.Declared.TheVariants as made
use Rattle.streamit_build.specs.Units.{declared_forms, splitter_form, AreTrees, Built}
use Rattle.streamit_build.proofs.Branches.{RestSoFar, rest_start, rest_next, rest_returns, split_built}
use Rattle.streamit_build.proofs.Lines.{short_of, lower_split, LineSoFar, line_start, line_next, unit_at, lower_of, pipe_returns, last_returns}
use Rattle.streamit_build.proofs.Lines.{filter_returns, below_same, trees_same}
use Rattle.streamit_build.proofs.builder.+build.Goals as goal

pub line-loop-child-init : goal.line-loop-child-init
line-loop-child-init t c =
    line_start (declared_forms c.args.units.now) c.args.parts.front.now c.args.parts.last c.args.i c.args.made.now c.args.from c.args.to c.requires.below.0

pub line-loop-child-preserved : goal.line-loop-child-preserved
line-loop-child-preserved t c =
    let us = declared_forms c.args.units.now in
    let items = c.args.parts.front.now in
    let child = get_or items c.loop-child.child-index 0 in
    let f = subst (λ l. LineSoFar us items l c.args.parts.last c.args.i c.args.made.now c.loop-child.made c.args.from c.loop-child.start c.args.to)
    (drop_next items c.loop-child.child-index child (search rules) (search rules)) c.loop-child.invariant in
    line_next us items child
    (drop (c.loop-child.child-index + 1) items) c.args.parts.last c.args.i c.args.made.now c.loop-child.made c.queue.new.self c.build.new.made c.args.from
    c.loop-child.start c.args.to c.in_ok-end.end f
    c.in_ok-end.ensures.name c.in_ok-end.ensures.next c.in_ok-end.ensures.op c.in_ok-end.ensures.ops (c.in_ok-build.ensures {u = tt})

pub line-returns : goal.line-returns
line-returns t c =
    let us = declared_forms c.args.units.now in
    let items = c.args.parts.front.now in
    let f = subst (λ l. LineSoFar us items l c.args.parts.last c.args.i c.args.made.now c.loop-child.made c.args.from c.loop-child.start c.args.to)
    (drop_all c.loop-child.child-index items (search rules)) c.loop-child.invariant in
    last_returns us items c.args.parts.last c.args.i c.args.made.now c.loop-child.made c.build-2.new.made c.args.from c.loop-child.start c.args.to
    c.build-2.result f c.build-2.ensures

pub branches-loop-child-init : goal.branches-loop-child-init
branches-loop-child-init t c =
    rest_start (declared_forms c.args.units.now) c.args.parts.front.now c.args.parts.last c.args.i c.args.made.now c.args.lanes.first c.args.lanes.second
    c.requires.below.0

pub branches-loop-child-preserved : goal.branches-loop-child-preserved
branches-loop-child-preserved t c =
    let us = declared_forms c.args.units.now in
    let items = c.args.parts.front.now in
    let child = get_or items c.loop-child.child-index 0 in
    let a0 = c.args.lanes.first in
    let b0 = c.args.lanes.second in
    let f = subst (λ l. RestSoFar us items l c.args.parts.last c.args.i c.args.made.now c.loop-child.made a0 b0 c.loop-child.a c.loop-child.b)
    (drop_next items c.loop-child.child-index child (search rules) (search rules)) c.loop-child.invariant in
    rest_next us items child
    (drop (c.loop-child.child-index + 1) items) c.args.parts.last c.args.i c.args.made.now c.loop-child.made c.lane.new.made a0 b0 c.loop-child.a
    c.loop-child.b c.in_ok-a.a c.in_ok-b.b (queue c.loop-child.a) (queue c.loop-child.b) f
    refl refl (c.in_ok-a.ensures {u = tt}) (c.in_ok-b.ensures {u = tt}) (c.in_ok-lane.ensures {u = tt})

pub branches-returns : goal.branches-returns
branches-returns t c =
    let us = declared_forms c.args.units.now in
    let items = c.args.parts.front.now in
    let a0 = c.args.lanes.first in
    let b0 = c.args.lanes.second in
    let f = subst (λ l. RestSoFar us items l c.args.parts.last c.args.i c.args.made.now c.loop-child.made a0 b0 c.loop-child.a c.loop-child.b)
    (drop_all c.loop-child.child-index items (search rules)) c.loop-child.invariant in
    rest_returns us items c.args.parts.last c.args.i c.args.made.now c.loop-child.made c.lane-2.new.made a0 b0 c.loop-child.a c.loop-child.b c.lane-2.result f
    c.lane-2.ensures

pub build-filter-requires : goal.build-filter-requires
build-filter-requires t c =
    let us = declared_forms c.args.units.now in
    let u = unit_at c.args.units.now c.args.i c.index-units-i.result
    (made.Filter c.in-Filter.name c.in-Filter.filter) c.requires.there c.index-units-i.is c.in-Filter.is in
    short_of us c.args.i c.in-Filter.name (filter_form c.in-Filter.filter) c.requires.named u

pub build-returns-in-Filter : goal.build-returns-in-Filter
build-returns-in-Filter t c =
    let us = declared_forms c.args.units.now in
    let old = c.args.made.now in
    let name = c.in-Filter.name in
    let f = filter_form c.in-Filter.filter in
    let u = unit_at c.args.units.now c.args.i c.index-units-i.result (made.Filter name c.in-Filter.filter) c.requires.there c.index-units-i.is c.in-Filter.is in
    let op = with_own (numbered name old.next_op) (filter f) (c.args.from ∷ []) (c.args.to ∷ []) in
    filter_returns us c.args.i name f old c.filter.new.self op c.args.from c.args.to c.filter.result u refl c.filter.ensures.ops c.filter.ensures.next
    c.filter.ensures.queue

pub build-line-requires : goal.build-line-requires
build-line-requires t c =
    let us = declared_forms c.args.units.now in
    let front = c.in-Pipeline.front.items in
    let last = c.in-Pipeline.last in
    let p = c.of-parts.result in
    let u = unit_at c.args.units.now c.args.i c.index-units-i.result
    (made.Pipeline c.in-Pipeline.front last) c.requires.there c.index-units-i.is c.in-Pipeline.is in
    let low = lower_of us c.args.i front last c.requires.lower u in
    let d = c.decreases in (
      omega (arith, d),
      (
        c.requires.there,
        (below_same c.args.i p.front.now front p.last last c.of-parts.ensures.front c.of-parts.ensures.last low, (c.requires.lower, c.requires.named)),
      ),
    )

pub build-returns-in-Pipeline : goal.build-returns-in-Pipeline
build-returns-in-Pipeline t c =
    let us = declared_forms c.args.units.now in
    let front = c.in-Pipeline.front.items in
    let last = c.in-Pipeline.last in
    let p = c.of-parts.result in
    let u = unit_at c.args.units.now c.args.i c.index-units-i.result
    (made.Pipeline c.in-Pipeline.front last) c.requires.there c.index-units-i.is c.in-Pipeline.is in
    pipe_returns us c.args.i front last c.args.made.now c.line.new.made c.args.from c.args.to c.line.result u
    (λ ss trees. c.line.ensures ss (trees_same us p.front.now front p.last last ss c.of-parts.ensures.front c.of-parts.ensures.last trees))

pub build-branches-requires : goal.build-branches-requires
build-branches-requires t c =
    let us = declared_forms c.args.units.now in
    let split = c.in-SplitJoin in
    let front = split.front.items in
    let p = c.of-parts-in-SplitJoin.result in
    let e = c.of-parts-in-SplitJoin.ensures in
    let u = unit_at c.args.units.now c.args.i c.index-units-i.result
    (made.SplitJoin split.split split.front split.last split.join) c.requires.there c.index-units-i.is split.is in
    let low = lower_split us c.args.i (splitter_form split.split) front split.last split.join.items c.requires.lower u in
    let d = c.decreases in
    (omega (arith, d), (c.requires.there, (below_same c.args.i p.front.now front p.last split.last e.front e.last low, (c.requires.lower, c.requires.named))))

pub build-returns-in_ok-branches-in-SplitJoin : goal.build-returns-in_ok-branches-in-SplitJoin
build-returns-in_ok-branches-in-SplitJoin t c =
    let us = declared_forms c.args.units.now in
    let split = c.in-SplitJoin in
    let front = split.front.items in
    let ws = split.join.items in
    let d = splitter_form split.split in
    let p = c.of-parts-in-SplitJoin.result in
    let e = c.of-parts-in-SplitJoin.ensures in
    let lanes = c.in_ok-lanes-in-SplitJoin.lanes in
    let h = c.in_ok-lanes-in-SplitJoin.ensures in
    let old = c.args.made.now in
    let first = c.split.new.self in
    let mid = c.branches.new.made in
    let k = old.next_queue in
    let n = suc (length p.front.now) in
    let u = unit_at c.args.units.now c.args.i c.index-units-i.result
    (made.SplitJoin split.split split.front split.last split.join) c.requires.there c.index-units-i.is split.is in
    let join = λ (a m : ℕ). joiner ws (numbered (codes "join") mid.next_op) (queues a m) c.args.to in
    let built = λ (ss : Streams) (trees : AreTrees us front split.last ss). c.in_ok-branches-in-SplitJoin.ensures {u = tt} ss
    (trees_same us p.front.now front p.last split.last ss e.front e.last trees) in
    split_built us c.args.i d front split.last ws old first mid c.join.new.self c.args.from c.args.to n
    (splitter d n (numbered (codes "split") old.next_op) c.args.from (queues k n)) (join lanes.second lanes.count) c.join.result u
    (ap (λ l. suc (length l)) e.front) refl
    h.ops h.next h.queue
    (λ ss trees. subst (λ q. Built first mid (build_branches ss first.next_op first.next_queue k q) (ops_of ss) (queues_within ss)) h.second
    (subst (λ q. Built first mid (build_branches ss first.next_op first.next_queue q lanes.second) (ops_of ss) (queues_within ss)) h.first (built ss trees)))
    (ap (λ a. join a lanes.count) h.second ∙ ap (join (k + n)) h.count)
    c.join.ensures.ops c.join.ensures.next c.join.ensures.queue
