use Rattle.std.proofs.Common.{arith, ◌≡◌, ℕ, ◌+◌, List, [], ◌∷◌, length, drop, refl, sym, ap, ◌∙◌, subst}
use Rattle.std.proofs.lemmas.List.{drop_more, drop_all, length-append}
use Rattle.std.proofs.lemmas.Result.{err_from_is_err_and}
use Rattle.river_outside.proofs.Counts.{rose_before}
use Rattle.river_outside.specs.Causes.{Rose}
use Rattle.command_line.specs.declared.command.InWord.{InWord}
use Rattle.river_road.proofs.Fetches.{ComesTo, comes-first, comes-more, comes-all, stops-more}
use Rattle.river_road.proofs.fetched.fetch_all.Goals as goal

pub loop-word-init : goal.loop-word-init
loop-word-init g c =
    let held = g.S.Shelf.held c.args.shelf.now in
    record {
      stays = refl;
      later = omega arith;
      count = ap length c.new-files.ensures;
      comes = subst (λ (l : List (List ℕ)). ComesTo c.args.ins.now held l c.args.ins.now) (sym c.new-files.ensures) (comes-first c.args.ins.now held);
    }

pub returns-in_err-fetch_one-clause-passes : goal.returns-in_err-fetch_one-clause-passes
returns-in_err-fetch_one-clause-passes g c =
    let p = err_from_is_err_and c.from_residual.result c.from_residual.ensures.1 in
    let held = g.S.Shelf.held c.args.shelf.now in
    let early = Rose g.S.Shelf.stays_at_last (g.S.Shelf.faults c.args.shelf.now) (g.S.Shelf.faults c.fetch_one.new.shelf) in
    let late = Rose g.S.Shelf.stays_at_last (g.S.Shelf.faults c.loop-word.shelf) (g.S.Shelf.faults c.fetch_one.new.shelf) in
    let ins = c.args.ins.now in
    let i = c.loop-word.word-index in
    let w = c.word-item.result in
    let left : drop i ins ≡ w ∷ drop (i + 1) ins = drop_more ins i w c.loop-word-test.true ∙ ap (λ (y : InWord). y ∷ drop (i + 1) ins) (sym c.word-item.is) in
    let far = subst (λ (l : List InWord). ComesTo ins held c.loop-word.files l) left c.loop-word.invariant.comes in
    let one = rw c.loop-word.invariant.stays at c.in_err-fetch_one.ensures.passes in
    rw (p.1, p.2) (stops-more ins held early late (rose_before g.S.Shelf.stays_at_last _ _ _ c.loop-word.invariant.later) c.loop-word.files w
    (drop (i + 1) ins) c.in_err-fetch_one.field-0.0 far one)

pub loop-word-preserved : goal.loop-word-preserved
loop-word-preserved g c =
    let held = g.S.Shelf.held c.args.shelf.now in
    let ins = c.args.ins.now in
    let i = c.loop-word.word-index in
    let w = c.word-item.result in
    let bytes = c.in_ok-fetch_one.field-0 in
    let left : drop i ins ≡ w ∷ drop (i + 1) ins = drop_more ins i w c.loop-word-test.true ∙ ap (λ (y : InWord). y ∷ drop (i + 1) ins) (sym c.word-item.is) in
    let far = subst (λ (l : List InWord). ComesTo ins held c.loop-word.files l) left c.loop-word.invariant.comes in
    let one = rw c.loop-word.invariant.stays at c.in_ok-fetch_one.ensures.passes in
    let n = ap length c.in_ok-push.ensures.ok in
    let m = length-append c.loop-word.files (bytes ∷ []) in
    record {
      stays = c.fetch_one.ensures.stays ∙ c.loop-word.invariant.stays;
      later = omega (arith, c.fetch_one.ensures.later, c.loop-word.invariant.later);
      count = omega (arith, n, m, c.loop-word.invariant.count);
      comes =
          subst (λ (l : List (List ℕ)). ComesTo ins held l (drop (i + 1) ins)) (sym c.in_ok-push.ensures.ok)
          (comes-more ins held c.loop-word.files w (drop (i + 1) ins) bytes far one);
    }

pub returns-clause-passes : goal.returns-clause-passes
returns-clause-passes g c =
    let held = g.S.Shelf.held c.args.shelf.now in
    comes-all c.args.ins.now held c.loop-word.files
    (subst (λ (l : List InWord). ComesTo c.args.ins.now held c.loop-word.files l)
    (drop_all c.loop-word.word-index c.args.ins.now c.loop-word-test.false) c.loop-word.invariant.comes)
