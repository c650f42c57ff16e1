use Rattle.std.proofs.Common.{◌≡◌, ◌++◌, ℤ, List, length, ap, ◌∙◌, subst, arith}
use Rattle.std.specs.Prelude.{OnOk}
use Rattle.std.proofs.lemmas.List.{length-map}
use Rattle.river_plan.specs.Forms.{Name, PlanForm, table_names}
use Rattle.plan_classes.proofs.Numbers.{are_numbers}
use Rattle.plan_classes.specs.Numbered.{class_numbers}
use Rattle.plan_classes.specs.Users.{table_users, having}
use Rattle.plan_classes.specs.Lines.{class_lines}
use Rattle.plan_classes.proofs.Named.{few_tables}
use Rattle.plan_classes.proofs.lines.write_classes.Goals as goal

pub print_lines-requires-clause-few : goal.print_lines-requires-clause-few
print_lines-requires-clause-few c =
    let p = c.args.plan.now in
    let a = ap length c.as_slice-2.ensures in
    let b = c.in_ok-classes.ensures.as_many in
    let d = ap length c.in_ok-users.ensures in
    let e = length-map p.tables (λ t. having t.name 0 p.ops) in
    let f = few_tables p c.raw.ensures.valid in
    omega (arith, a, b, d, e, f)

pub returns : goal.returns
returns c =
    let p = c.args.plan.now in
    let users : c.in_ok-users.users ≡ table_users p = c.in_ok-users.ensures in
    let numbers : c.as_slice-2.result.now ≡ class_numbers (table_users p) = c.as_slice-2.ensures
    ∙ (are_numbers c.in_ok-users.users c.in_ok-classes.classes c.in_ok-classes.ensures ∙ ap class_numbers users) in
    let names : table_names c.as_slice.result.now ≡ table_names p.tables =
    ap table_names (c.as_slice.ensures ∙ ap (λ (q : PlanForm). q.tables) c.raw.ensures.raw) in
    subst (λ (cs : List ℤ). OnOk c.print_lines.result (c.print_lines.new.to ≡ c.args.to.now ++ class_lines 0 cs (table_names p.tables) cs)) numbers
    (subst (λ (ts : List Name). OnOk c.print_lines.result
    (c.print_lines.new.to ≡ c.args.to.now ++ class_lines 0 c.as_slice-2.result.now ts c.as_slice-2.result.now)) names c.print_lines.ensures)
