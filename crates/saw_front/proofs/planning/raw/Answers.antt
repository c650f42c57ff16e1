use Rattle.std.proofs.Common.{◌≡◌, ◌++◌, map, sym, ap, ◌∙◌, refl}
use Rattle.work_code.specs.Steps.{step, steps, in_turn}
use Rattle.work_code.proofs.Texts.{steps-is}
use Rattle.saw_model.specs.Judged.{units_judged}
use Rattle.saw_model.specs.Plan.{plan_of}
use Rattle.saw_text.specs.Tree.{unit_forms}
use Rattle.saw_front.specs.Judging.{at_of}
use Rattle.saw_front.proofs.Planned.{judged_listed, judged_wide}
use Rattle.saw_front.proofs.planning.raw.Goals as goal

pub lists-requires-clause-listed : goal.lists-requires-clause-listed
lists-requires-clause-listed c =
    let p = unit_forms c.args.units.now in
    let r = c.in_ok-parts.ensures {u = tt} in
    judged_listed p (in_turn (map step r.0), at_of c.parts.new.self) c.requires (ap (units_judged 1 p) (sym c.new-judge.ensures) ∙ r.2)

pub lists-requires-clause-wide : goal.lists-requires-clause-wide
lists-requires-clause-wide c =
    let p = unit_forms c.args.units.now in
    let r = c.in_ok-parts.ensures {u = tt} in
    judged_wide p (in_turn (map step r.0), at_of c.parts.new.self) (ap (units_judged 1 p) (sym c.new-judge.ensures) ∙ r.2)

pub returns : goal.returns
returns c =
    let p = unit_forms c.args.units.now in
    let r = c.in_ok-parts.ensures {u = tt} in
    let at = at_of c.parts.new.self in
    let body : steps c.parts.new.out ≡ in_turn (map step r.0) = steps-is c.parts.new.out
    ∙ ap (λ l. in_turn (map step l)) (r.1 ∙ ap (λ l. l ++ r.0) c.new-body.ensures) in
    ((in_turn (map step r.0), at), ap (units_judged 1 p) (sym c.new-judge.ensures) ∙ r.2, c.in_ok-raw.ensures at refl ∙ ap (λ b. plan_of p (b, at)) body)
