use Rattle.std.proofs.Common.{◌≡◌, ℤ, ◌≤ℤ◌, ◌<ℤ◌, ◌-◌, suc, take, drop, w64, to_z, of_z, sym, subst, arith}
use Rattle.std.specs.List.{AllByRecursion}
use Rattle.std.proofs.lemmas.Int.{ints, to_z-of_z}
use Rattle.kern_bags.specs.Kept.{Stamped, AreInTurn}
use Rattle.kern_bags.proofs.InTurn.{earlier_all, one_earlier}
use Rattle.kern_bags.proofs.stamped.StampedRows.count_until.Goals as goal

pub loop-count-preserved : goal.loop-count-preserved
loop-count-preserved c =
    let es = c.self.inside.rows.items in
    let n = c.loop-count.count in
    let same : n ≡ suc (n - 1) = omega arith in
    let at : to_z w64 (of_z w64 c.args.at) ≡ c.args.at = to_z-of_z w64 c.args.at c.ranges.at in
    let later : c.args.at <ℤ c.index.result.now.0 = grind (arith, ints) in
    record {
      within = omega arith;
      later =
          one_earlier (λ (e : Stamped). to_z w64 (of_z w64 c.args.at) <ℤ e.0) es (n - 1) c.index.result.now (omega arith) c.index.ensures (subst
          (λ (t : ℤ). t <ℤ c.index.result.now.0) (sym at) later)
          (subst (λ k. AllByRecursion (λ (e : Stamped). to_z w64 (of_z w64 c.args.at) <ℤ e.0) (drop k es)) same c.loop-count.invariant.later);
    }

pub returns-else-index-at-clause-earlier : goal.returns-else-index-at-clause-earlier
returns-else-index-at-clause-earlier c =
    let es = c.self.inside.rows.items in
    let n = c.loop-count.count in
    let same : suc (n - 1) ≡ n = omega arith in
    let at : to_z w64 (of_z w64 c.args.at) ≡ c.args.at = to_z-of_z w64 c.args.at c.ranges.at in
    let early : c.index.result.now.0 ≤ℤ c.args.at = grind (arith, ints) in
    let t : AreInTurn es = subst AreInTurn (sym c.self.view_is) c.requires in
    subst (λ xs. AllByRecursion (λ (e : Stamped). e.0 ≤ℤ c.args.at) (take n xs)) c.self.view_is
    (subst (λ k. AllByRecursion (λ (e : Stamped). e.0 ≤ℤ c.args.at) (take k es)) same
    (earlier_all c.args.at es (n - 1) c.index.result.now t (omega arith) c.index.ensures early))

pub returns-else-index-at-clause-later : goal.returns-else-index-at-clause-later
returns-else-index-at-clause-later c =
    subst (λ t. AllByRecursion (λ (e : Stamped). t <ℤ e.0) (drop c.loop-count.count c.args.self.now)) (to_z-of_z w64 c.args.at c.ranges.at)
    (subst (λ xs. AllByRecursion (λ (e : Stamped). to_z w64 (of_z w64 c.args.at) <ℤ e.0)
    (drop c.loop-count.count xs)) c.self.view_is c.loop-count.invariant.later)

pub returns-after-loop-count-clause-later : goal.returns-after-loop-count-clause-later
returns-after-loop-count-clause-later c =
    subst (λ t. AllByRecursion (λ (e : Stamped). t <ℤ e.0) (drop c.loop-count.count c.args.self.now)) (to_z-of_z w64 c.args.at c.ranges.at)
    (subst (λ xs. AllByRecursion (λ (e : Stamped). to_z w64 (of_z w64 c.args.at) <ℤ e.0)
    (drop c.loop-count.count xs)) c.self.view_is c.loop-count.invariant.later)
