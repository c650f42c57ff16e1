use Rattle.std.proofs.Common.{◌≡◌, ◌<◌, ◌+◌, ◌-◌, ◌++◌, ℤ, List, length, map, take, drop, ap, ◌∙◌, rules}
use Rattle.streamit_model.specs.Meaning.{exec_all, at_start}
use Rattle.streamit_text.specs.Program.{filter_tree}
use Rattle.slow_streamit.proofs.Filters.{looked_is, fired_next, fired_stop}
use Rattle.slow_streamit.proofs.filter.fire_others.Goals as goal

pub returns-then-end-items : goal.returns-then-end-items
returns-then-end-items c =
    let t = filter_tree c.args.tree.now in
    let xs = c.args.items.now in
    let s = c.loop-j in
    let lt : s.j < length xs = search rules in
    fired_stop t xs c.args.out.now s.start s.j c.peek_of-peek.result c.args.kept.now s.kept s.out lt c.peek_of-peek.ensures.is c.if-end-items.true s.invariant

pub loop-j-preserved : goal.loop-j-preserved
loop-j-preserved c =
    let t = filter_tree c.args.tree.now in
    let xs = c.args.items.now in
    let s = c.loop-j in
    let pop = c.pop_of-pop.result in
    let peek = c.peek_of-peek.result in
    let lt : s.j < length xs = search rules in
    let fields : c.as_slice.result.now ≡ t.fields = search rules in
    let seen : List ℤ = take (s.start + peek - s.start) (drop s.start xs) in
    let looks = looked_is t xs s.start s.j peek s.invariant.place c.peek_of-peek.ensures.is in
    fired_next t xs c.args.out.now s.start s.j pop peek c.args.kept.now s.kept c.fire.new.kept s.out c.fire.new.out
    lt c.pop_of-pop.ensures.is c.peek_of-peek.ensures.is c.pop_of-pop.ensures.small c.if-end-items.false s.invariant
    (c.in_ok-fire.ensures.kept
    ∙ ap (λ fs. map (exec_all t.work.block seen (at_start fs s.kept)).values fs) fields
    ∙ ap (λ l. map (exec_all t.work.block l (at_start t.fields s.kept)).values t.fields) looks)
    (c.in_ok-fire.ensures.out
    ∙ ap (λ fs. s.out ++ (exec_all t.work.block seen (at_start fs s.kept)).pushed) fields
    ∙ ap (λ l. s.out ++ (exec_all t.work.block l (at_start t.fields s.kept)).pushed) looks)
