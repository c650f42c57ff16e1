use Rattle.std.proofs.Common.{◌≡◌, ℤ, List, [], ◌∷◌, ◌++◌, length, map, take, refl, ap, ◌∙◌, arith}
use Rattle.std.proofs.lemmas.List.{length-map}
use Rattle.work_code.specs.declared.emitted.Mark.{Mark}
use Rattle.work_code.specs.declared.calc.Calc.{Calc}
use Rattle.work_code.specs.Calcs.{calc_term}
use Rattle.work_code.specs.Term.{Term}
use Rattle.work_code.specs.Value.{val}
use Rattle.work_code.proofs.Running.{on_err}
use Rattle.work_code.proofs.Rows.{rows-grown, rows-more, marks-grown, marks-more}
use Rattle.work_code.proofs.emitted.Emitted.push_row.Goals as goal

-- a row is as wide as it has expressions
width-is : (f : Term → ℤ) (row : List Calc) → length (map f (map calc_term row)) ≡ length row
width-is f row = length-map (map calc_term row) f ∙ length-map row calc_term

pub returns-in_err-add_values-clause-err : goal.returns-in_err-add_values-clause-err
returns-in_err-add_values-clause-err c =
    let e = c.self.inside in
    let g = c.in_err-add_values.ensures.err in
    let row = map (λ t. val t c.args.input.now c.args.slots.now) (map calc_term c.args.row.now) in
    on_err c.from_residual.result
    (rows-grown e.values.items (take g.n row) c.add_values.new.values.items e.marks.items e.marks.items g.is refl c.self.invariant ∙ c.self.view_is)

pub invariant_of-self : goal.invariant_of-self
invariant_of-self c =
    let e = c.self.inside in
    let g = c.in_err-add_values.ensures.err in
    let row = map (λ t. val t c.args.input.now c.args.slots.now) (map calc_term c.args.row.now) in
    marks-grown e.values.items (take g.n row) c.add_values.new.values.items e.marks.items e.marks.items g.is refl c.self.invariant

pub returns-in_err-push-clause-err : goal.returns-in_err-push-clause-err
returns-in_err-push-clause-err c =
    let e = c.self.inside in
    let row = map (λ t. val t c.args.input.now c.args.slots.now) (map calc_term c.args.row.now) in
    on_err c.from_residual-in_err-push.result
    (rows-grown e.values.items row c.add_values.new.values.items e.marks.items c.push.new.self.items c.in_ok-add_values.ensures.ok
    c.in_err-push.ensures.items c.self.invariant ∙ c.self.view_is)

pub invariant_of-self-in_err-push : goal.invariant_of-self-in_err-push
invariant_of-self-in_err-push c =
    let e = c.self.inside in
    let row = map (λ t. val t c.args.input.now c.args.slots.now) (map calc_term c.args.row.now) in
    marks-grown e.values.items row c.add_values.new.values.items e.marks.items c.push.new.self.items c.in_ok-add_values.ensures.ok
    c.in_err-push.ensures.items c.self.invariant

pub returns-clause-ok : goal.returns-clause-ok
returns-clause-ok c =
    let e = c.self.inside in
    let f : Term → ℤ = λ t. val t c.args.input.now c.args.slots.now in
    let row = map f (map calc_term c.args.row.now) in
    let m : Mark = record { port = c.args.port; width = length c.args.row.now; start = c.len-start.result } in
    let w = width-is f c.args.row.now in
    rows-more e.values.items row c.add_values.new.values.items e.marks.items c.push.new.self.items m c.in_ok-add_values.ensures.ok
    c.in_ok-push.ensures.items c.self.invariant (omega arith) (omega (arith, w))
    ∙ ap (λ rs. rs ++ (c.args.port, row) ∷ []) c.self.view_is

pub invariant_of-self-2 : goal.invariant_of-self-2
invariant_of-self-2 c =
    let e = c.self.inside in
    let f : Term → ℤ = λ t. val t c.args.input.now c.args.slots.now in
    let m : Mark = record { port = c.args.port; width = length c.args.row.now; start = c.len-start.result } in
    let w = width-is f c.args.row.now in
    let l = length-map c.args.row.now calc_term in
    marks-more e.values.items (map f (map calc_term c.args.row.now)) c.add_values.new.values.items e.marks.items c.push.new.self.items m
    c.in_ok-add_values.ensures.ok c.in_ok-push.ensures.items c.self.invariant (omega arith) (omega (arith, w)) (omega (arith, l, c.requires.some))
    (omega (arith, l, c.requires.at_most))
