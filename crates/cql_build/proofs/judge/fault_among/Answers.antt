use Rattle.std.proofs.Common.{◌+◌, sym, ◌∙◌, subst, arith}
use Rattle.cql_text.specs.Tree.{unit_form}
use Rattle.cql_build.proofs.Units.{Judging, judging_start, judging_next, judging_fault, registers_few}
use Rattle.cql_build.proofs.judge.fault_among.Goals as goal

pub loop-i-init : goal.loop-i-init
loop-i-init c = record { low = omega arith; judging = judging_start c.args.units.now c.args.known.now c.requires }

pub returns-in-Some : goal.returns-in-Some
returns-in-Some c =
    let j = c.loop-i.invariant.judging in
    judging_fault c.args.units.now c.loop-i.i c.loop-i.many c.loop-i.known c.index-units-i.result c.in-Some.fault j c.loop-i-test.true c.index-units-i.is
    (sym c.in-Some.is ∙ c.in_ok-fault.ensures {u = tt} j.ks j.knows)

pub loop-i-preserved : goal.loop-i-preserved
loop-i-preserved c =
    let j = c.loop-i.invariant.judging in
    let few = registers_few (unit_form c.index-units-i.result) in
    let one = c.registers-many.ensures in
    let low = c.loop-i.invariant.low in
    let next = judging_next c.args.units.now c.loop-i.i c.loop-i.many c.loop-i.known c.add.new.self c.index-units-i.result j c.loop-i-test.true
    c.index-units-i.is
    (sym c.in_default.is ∙ c.in_ok-fault.ensures {u = tt} j.ks j.knows) (c.in_ok-add.ensures {u = tt} j.ks j.knows) in
    record {
      low = omega (arith, low, few, one);
      judging =
          subst (λ n. Judging c.args.units.now (c.loop-i.i + 1) (c.loop-i.many + n) c.add.new.self) (sym one) next;
    }
