use Rattle.std.proofs.Common.{◌≡◌, ◌+◌, map, drop, sym, ap, ◌∙◌, arith, rules, true, false}
use Rattle.std.specs.Prelude.{◌&&◌}
use Rattle.river_base.proofs.Lists.{map_next, map_none}
use Rattle.streamit_text.specs.Tree.{expression}
use Rattle.params_model.specs.Judged.{are_known, all_known}
use Rattle.params_build.proofs.constant.all_known.Goals as goal

pub returns-then-not-are_known : goal.returns-then-not-are_known
returns-then-not-are_known c =
    let ks = c.args.names.now in
    let items = c.as_slice-each-items.result.now in
    let i = c.items.each-index in
    let at = map_next expression items i c.each-item.result (omega arith) c.each-item.is in
    let no : are_known ks (expression c.each-item.result) ≡ false = search rules in
    let all : all_known ks (map expression items) ≡ false =
    sym c.items.invariant ∙ ap (all_known ks) at ∙ ap (λ b. b && all_known ks (map expression (drop (i + 1) items))) no in
    rw (← c.as_slice-each-items.ensures.value) (sym all)

pub returns : goal.returns
returns c =
    let ks = c.args.names.now in
    let items = c.as_slice-each-items.result.now in
    let all : all_known ks (map expression items) ≡ true = sym c.items.invariant
    ∙ ap (all_known ks) (map_none expression items c.items.each-index (omega arith)) in
    rw (← c.as_slice-each-items.ensures.value) (sym all)
