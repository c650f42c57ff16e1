use Rattle.std.proofs.Common.{◌≡◌, ◌+◌, map, drop, sym, ap, ◌∙◌, arith, rules, true, false}
use Rattle.std.specs.Prelude.{◌&&◌}
use Rattle.river_base.proofs.Lists.{map_next, map_none}
use Rattle.streamit_text.specs.Tree.{statement, in_turn}
use Rattle.streamit_text.proofs.Trees.{block-is}
use Rattle.streamit_text.specs.Grammar.{stays, stay}
use Rattle.streamit_text.proofs.still.+still.Goals as goal

pub stay-returns-then-not-stays : goal.stay-returns-then-not-stays
stay-returns-then-not-stays t c =
    let items = c.as_slice-each-items.result.now in
    let i = c.items.each-index in
    let at = map_next statement items i c.each-item.result (omega arith) c.each-item.is in
    let no : stays (statement c.each-item.result) ≡ false = search rules in
    let all : stay (in_turn (map statement items)) ≡ false =
    sym c.items.invariant ∙ ap (λ l. stay (in_turn l)) at ∙ ap (λ b. b && stay (in_turn (map statement (drop (i + 1) items)))) no in
    rw (block-is c.args.all.now, ← c.as_slice-each-items.ensures.value) (sym all)

pub stay-returns : goal.stay-returns
stay-returns t c =
    let items = c.as_slice-each-items.result.now in
    let i = c.items.each-index in
    let all : stay (in_turn (map statement items)) ≡ true = sym c.items.invariant ∙ ap (λ l. stay (in_turn l)) (map_none statement items i (omega arith)) in
    rw (block-is c.args.all.now, ← c.as_slice-each-items.ensures.value) (sym all)
