use Rattle.std.proofs.Common.{◌+◌, ◌≤◌, length, drop, rules, subst}
use Rattle.saw_text.specs.Tree.{Program}
use Rattle.saw_model.specs.Judged.{units_judged}
use Rattle.saw_text.specs.Tree.{unit_form, unit_forms}
use Rattle.saw_front.specs.Judging.{at_of}
use Rattle.saw_front.proofs.JudgedUnits.{PartsSoFar, parts_next, parts_end, parts_at, parts_none}
use Rattle.saw_front.proofs.judge.Judge.parts.Goals as goal

-- one unit more
pub loop-i-preserved : goal.loop-i-preserved
loop-i-preserved c =
    let units = c.args.units.now in
    let i = c.loop-i.i in
    let u = c.index-units-i.result in
    let whole = units_judged 1 (unit_forms units) (at_of c.args.self.now) in
    let f = subst (λ (p : Program). PartsSoFar whole i p c.loop-i.self c.args.out.now c.loop-i.out)
    (parts_at units i u c.loop-i-test.true c.index-units-i.is) c.loop-i.invariant in
    parts_next whole i (unit_form u) (unit_forms (drop (i + 1) units)) c.loop-i.self c.part.new.self c.args.out.now c.loop-i.out c.part.new.out f
    (c.in-Ok.ensures {u = tt})

-- all units
pub returns : goal.returns
returns c =
    let units = c.args.units.now in
    let i = c.loop-i.i in
    let le : length units ≤ i = search rules in
    let whole = units_judged 1 (unit_forms units) (at_of c.args.self.now) in
    parts_end whole i c.loop-i.self c.args.out.now c.loop-i.out
    (subst (λ (p : Program). PartsSoFar whole i p c.loop-i.self c.args.out.now c.loop-i.out) (parts_none units i le) c.loop-i.invariant)
