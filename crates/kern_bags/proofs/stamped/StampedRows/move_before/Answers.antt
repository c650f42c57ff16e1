use Rattle.std.proofs.Common.{◌≡◌, ℤ, ◌≤ℤ◌, ◌<ℤ◌, ◌<◌, to_z, of_z, length, get_or, ap, ◌∙◌, sym, subst, arith}
use Rattle.std.specs.Int.{w128}
use Rattle.std.proofs.lemmas.Int.{ints, to_z-of_z}
use Rattle.std.proofs.lemmas.Bool.Decides.{nat_tests}
use Rattle.kern_bags.specs.Kept.{AreInTurn, since}
use Rattle.kern_bags.proofs.InTurn.{since_next, since_all, rest_in_turn}
use Rattle.kern_bags.proofs.Leaving.{more_left}
use Rattle.kern_bags.proofs.stamped.StampedRows.move_before.Goals as goal

pub loop-self-preserved : goal.loop-self-preserved
loop-self-preserved c =
    let es = c.loop-self.self in
    let low : to_z w128 (of_z w128 c.args.low) ≡ c.args.low = to_z-of_z w128 c.args.low c.ranges.low in
    let before : c.index.result.now.0 <ℤ c.args.low = grind (arith, ints) in
    let there : 0 < length c.self.inside.rows.items = grind (arith, nat_tests, c.is_empty.ensures) in
    let some : 0 < length es = subst (λ xs. 0 < length xs) c.self.view_is there in
    let first : c.index.result.now ≡ get_or es 0 c.index.result.now =
    subst (λ xs. c.index.result.now ≡ get_or xs 0 c.index.result.now) c.self.view_is c.index.ensures in
    record {
      left = ap (since (to_z w128 (of_z w128 c.args.low))) c.in_ok-move_first.ensures.kept
          ∙ since_next (to_z w128 (of_z w128 c.args.low)) es c.index.result.now some first (subst (λ (t : ℤ). c.index.result.now.0 <ℤ t) (sym low) before)
          ∙ c.loop-self.invariant.left;
      in_turn = subst AreInTurn (sym c.in_ok-move_first.ensures.kept) (rest_in_turn es c.loop-self.invariant.in_turn);
      gone = more_left c.args.self.now es c.move_first.new.self c.args.gone.now c.loop-self.gone c.move_first.new.gone c.loop-self.invariant.gone
          c.in_ok-move_first.ensures.gone;
    }

pub returns-else-from-low-clause-kept : goal.returns-else-from-low-clause-kept
returns-else-from-low-clause-kept c =
    let es = c.loop-self.self in
    let low : to_z w128 (of_z w128 c.args.low) ≡ c.args.low = to_z-of_z w128 c.args.low c.ranges.low in
    let late : c.args.low ≤ℤ c.index.result.now.0 = grind (arith, ints) in
    let first : c.index.result.now ≡ get_or es 0 c.index.result.now =
    subst (λ xs. c.index.result.now ≡ get_or xs 0 c.index.result.now) c.self.view_is c.index.ensures in
    sym (since_all c.args.low es c.index.result.now c.loop-self.invariant.in_turn first late)
    ∙ ap (λ t. since t es) (sym low) ∙ c.loop-self.invariant.left ∙ ap (λ t. since t c.args.self.now) low
