use Rattle.std.proofs.Common.{◌≡◌, ℕ, suc, ◌<◌, ◌≤◌, ℤ, List, length, get_or, take, IfOk, ap, sym, subst, ◌∙◌, arith}
use Rattle.std.proofs.lemmas.List.{length-take-le}
use Rattle.std.proofs.lemmas.Option.{slice_get-get_or}
use Rattle.river_plan.specs.Forms.{Name}
use Rattle.brooklet_model.specs.ByIndex.{collected}
use Rattle.streamit_model.specs.Meaning.{piped, or_same, branch_count, share_of, weights_for}
use Rattle.streamit_text.specs.Program.{adds_of, dealing_of, weights_of}
use Rattle.slow_streamit.specs.Works.{works_of}
use Rattle.slow_streamit.proofs.Streams.{readable-front, readable-at, line_end, branches_start, lists-length}
use Rattle.slow_streamit.proofs.program.+works.Goals as goal

pub branches-loop-i-init : goal.branches-loop-i-init
branches-loop-i-init t c =
    let parts = c.args.parts.now in
    let a = adds_of parts.adds in
    let xs = c.args.items.now in
    let d = dealing_of parts.split in
    let count = c.in_ok-count.ensures {u = tt} ∙ ap (λ (l : List Name). suc (length l)) c.as_slice-others.ensures.value in
    branches_start (works_of c.args.above.now) (λ p. share_of d (branch_count a) p xs)
    a.first a.others c.args.lists.now c.push.new.self c.as_slice.result.now c.in_ok-named.field-0
    (c.as_slice.ensures ∙ c.in_ok-first.ensures {u = tt} ∙ ap (λ n. share_of d n 0 xs) count)
    (c.in_ok-named.ensures {u = tt})
    c.in_ok-push.ensures.ok

pub joined-returns : goal.joined-returns
joined-returns t c =
    let parts = c.args.parts.now in
    let a = adds_of parts.adds in
    let ws = weights_of parts.join in
    let shares = λ (p : ℕ). share_of (dealing_of parts.split) (branch_count a) p c.args.items.now in
    let made = c.branches.new.lists in
    let lists = lists-length (works_of c.args.above.now) a.first a.others shares c.new-lists.result made
    c.new-lists.ensures (c.in_ok-branches.ensures {u = tt}) in
    let gives = ap (λ (ls : List (List ℤ)). collected (weights_for ws (length ls)) ls) c.as_slice.ensures
    ∙ ap (λ n. collected (weights_for ws n) made) lists.0 ∙ ap (collected (weights_for ws (branch_count a))) lists.1 in
    subst (λ (l : List ℤ). IfOk c.joined_by.result (λ out. out ≡ l)) gives c.joined_by.ensures

pub named-works-requires : goal.named-works-requires
named-works-requires t c =
    let us = c.args.above.now in
    let i = c.in-Some.i in
    let lt : i < length us = c.in-Some.ensures.0 in
    let short : length (take i us) ≡ i = length-take-le i us (omega (arith, lt)) in
    let at = readable-at us i (get_or us i c.index-above-i.result) lt (ap (λ x. get_or us i x) c.index-above-i.is) c.requires in
    (omega (arith, c.decreases, lt, short), (readable-front us i c.requires, at))

pub named-returns-in-Some : goal.named-returns-in-Some
named-returns-in-Some t c =
    let us = c.args.above.now in
    let i = c.in-Some.i in
    let d = get_or us i c.index-above-i.result in
    let there = c.in-Some.ensures.1 d (slice_get-get_or us i c.index-above-i.result c.in-Some.ensures.0) in
    subst (λ (l : List ℤ). IfOk c.works.result (λ out. out ≡ l)) (sym (ap (λ o. or_same o c.args.items.now) there)) c.works.ensures

pub piped-returns : goal.piped-returns
piped-returns t c =
    let env = works_of c.args.above.now in
    let n = c.args.adds.now.first in
    let ms = c.as_slice-name-items.result.now in
    let xs = c.args.items.now in
    let le : length ms ≤ c.loop-name.name-index = omega (arith, c.loop-name-test.false) in
    line_end env n ms c.loop-name.name-index xs c.in_ok-out.out c.loop-name.out le (c.in_ok-out.ensures {u = tt}) c.loop-name.invariant
    ∙ ap (λ l. piped env n l xs) c.as_slice-name-items.ensures.value
