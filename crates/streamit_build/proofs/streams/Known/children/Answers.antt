use Rattle.std.proofs.Common.{◌≡◌, ◌≤◌, ◌<◌, ◌+◌, Err, length, drop, get_or, rules, sym, subst}
use Rattle.std.proofs.lemmas.List.{drop_all}
use Rattle.river_base.proofs.Lists.{drop_next}
use Rattle.streamit_model.specs.Judged.{streams_added}
use Rattle.streamit_build.specs.Units.{declared_forms}
use Rattle.streamit_build.specs.Knowing.{may, AddsAll}
use Rattle.streamit_build.proofs.Added.{SoFar, adds_start, adds_next, adds_fault, adds_end, first_fault}
use Rattle.streamit_build.proofs.streams.Known.children.Goals as goal

pub returns-in_err-first : goal.returns-in_err-first
returns-in_err-first c = λ known k.
    let adds = c.args.adds.now in
    let is : c.from_residual.result ≡ Err c.in_err-first.field-0.0 = search rules in
    subst (λ r. AddsAll (declared_forms c.args.self.now.declared.items) r (streams_added (may c.args.branch) known 0 adds.first adds.others.items)) (sym is)
    (first_fault (may c.args.branch) known adds.first adds.others.items c.in_err-first.field-0.0 (c.in_err-first.ensures known k))

pub loop-i-init : goal.loop-i-init
loop-i-init c = λ known k.
    let adds = c.args.adds.now in
    let e = c.one-children.ensures in
    adds_start (declared_forms c.args.self.now.declared.items) (may c.args.branch) known adds.first adds.others.items c.in_ok-first.first c.one-children.result
    (c.in_ok-first.ensures known k) e.front e.last e.ops e.deepest

pub loop-i-preserved : goal.loop-i-preserved
loop-i-preserved c = λ known k.
    let adds = c.args.adds.now in
    let us = declared_forms c.args.self.now.declared.items in
    let others = adds.others.items in
    let whole = streams_added (may c.args.branch) known 0 adds.first others in
    let i = c.loop-i.i in
    let m = c.index.result.now in
    let lt : i < length others = search rules in
    let is : m ≡ get_or others i m = search rules in
    let f = subst (λ l. SoFar us (may c.args.branch) known whole i l c.loop-i.children) (drop_next others i m lt is) (c.loop-i.invariant known k) in
    let p = c.in_ok-push.ensures {u = tt} in
    adds_next us (may c.args.branch) known whole i m (drop (i + 1) others) c.loop-i.children c.push.new.self c.in_ok-next.next f
    (c.in_ok-next.ensures known k) p.front p.last p.ops p.deepest

pub returns-in_err-next : goal.returns-in_err-next
returns-in_err-next c = λ known k.
    let adds = c.args.adds.now in
    let us = declared_forms c.args.self.now.declared.items in
    let others = adds.others.items in
    let whole = streams_added (may c.args.branch) known 0 adds.first others in
    let i = c.loop-i.i in
    let m = c.index.result.now in
    let lt : i < length others = search rules in
    let at : m ≡ get_or others i m = search rules in
    let f = subst (λ l. SoFar us (may c.args.branch) known whole i l c.loop-i.children) (drop_next others i m lt at) (c.loop-i.invariant known k) in
    let is : c.from_residual-in_err-next.result ≡ Err c.in_err-next.field-0.0 = search rules in
    subst (λ r. AddsAll us r whole) (sym is)
    (adds_fault us (may c.args.branch) known whole i m (drop (i + 1) others) c.loop-i.children c.in_err-next.field-0.0 f (c.in_err-next.ensures known k))

pub returns : goal.returns
returns c = λ known k.
    let adds = c.args.adds.now in
    let us = declared_forms c.args.self.now.declared.items in
    let others = adds.others.items in
    let whole = streams_added (may c.args.branch) known 0 adds.first others in
    let i = c.loop-i.i in
    let le : length others ≤ i = search rules in
    adds_end us (may c.args.branch) known whole i c.loop-i.children
    (subst (λ l. SoFar us (may c.args.branch) known whole i l c.loop-i.children) (drop_all i others le) (c.loop-i.invariant known k))
