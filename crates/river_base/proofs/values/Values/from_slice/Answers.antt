use Rattle.std.proofs.Common.{◌∙◌, ap, rules, pos, arith, get_or}
use Rattle.std.proofs.Math.ListN.{set}
use Rattle.std.specs.Int.{w64}
use Rattle.std.specs.Int.RustNames.{FitsSigned}
use Rattle.std.proofs.lemmas.Int.{to_z-of_z}
use Rattle.std.proofs.lemmas.List.Elements.{All-set}
use Rattle.river_base.specs.Number.{IsValue}
use Rattle.river_base.proofs.RowLemmas.{filled_more, shown, short}
use Rattle.river_base.proofs.values.Values.from_slice.Goals as goal

pub loop-i-preserved : goal.loop-i-preserved
loop-i-preserved c =
    let f : FitsSigned w64 (get_or c.args.values.now c.loop-i.i (pos 0)) = search rules in
    let x = get_or c.args.values.now c.loop-i.i (pos 0) in
    let e = to_z-of_z w64 x f in (
      rw e (All-set IsValue c.loop-i.all c.loop-i.i x f c.loop-i.invariant.0),
      ap (set c.loop-i.all c.loop-i.i) e ∙ ap (λ l. set l c.loop-i.i x) c.loop-i.invariant.1
          ∙ filled_more (pos 0) c.args.values.now c.loop-i.i 16 (pos 0) c.loop-i-test.true (omega (arith, c.loop-i-test.true, c.requires.at_most)),
    )

pub invariant_of-result : goal.invariant_of-result
invariant_of-result c =
    record {
      short = short 16 (pos 0) c.args.values.now c.loop-i.all c.loop-i.i c.requires.at_most c.loop-i-test.false c.loop-i.auto.i-end c.loop-i.invariant.1;
      in_range = c.loop-i.invariant.0;
    }

pub returns : goal.returns
returns c = shown 16 (pos 0) c.args.values.now c.loop-i.all c.loop-i.i c.loop-i-test.false c.loop-i.auto.i-end c.loop-i.invariant.1
