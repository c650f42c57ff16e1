use Rattle.std.proofs.Math.ListN.{set}
use Rattle.std.proofs.Common.{ap, ◌∙◌, get_or, arith, sym, subst, IsTrue}
use Rattle.river_base.specs.Name.{is_name}
use Rattle.river_base.proofs.RowLemmas.{filled_more, shown, short}
use Rattle.river_base.proofs.NameLemmas.{name_at_most}
use Rattle.river_base.proofs.name.Name.of.Goals as goal

pub invariant_of-result : goal.invariant_of-result
invariant_of-result c =
    let e = shown 64 0 c.args.bytes.now c.loop-i.all c.loop-i.i c.loop-i-test.false c.loop-i.auto.i-end c.loop-i.invariant in
    record {
      short =
          short 64 0 c.args.bytes.now c.loop-i.all c.loop-i.i
          (name_at_most c.args.bytes.now c.requires) c.loop-i-test.false c.loop-i.auto.i-end c.loop-i.invariant;
      named = subst (λ bs. IsTrue (is_name bs)) (sym e) c.requires;
    }

pub returns : goal.returns
returns c = shown 64 0 c.args.bytes.now c.loop-i.all c.loop-i.i c.loop-i-test.false c.loop-i.auto.i-end c.loop-i.invariant

pub loop-i-preserved : goal.loop-i-preserved
loop-i-preserved c =
    let most = name_at_most c.args.bytes.now c.requires in
    ap (λ l. set l c.loop-i.i (get_or c.args.bytes.now c.loop-i.i 0)) c.loop-i.invariant
    ∙ filled_more 0 c.args.bytes.now c.loop-i.i 64 0 c.loop-i-test.true (omega (arith, c.loop-i-test.true, most))
