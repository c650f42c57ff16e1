-- A code by which proofs tell plans apart.
use Rattle.std.specs.Prelude.{List, refl}
use Rattle.std.specs.Coded.{Coded, code_by, coded_list, coded_ℕ, coded×}
use Rattle.river_kernels.specs.Kern.{Kern}
use Rattle.river_kernels.proofs.Codes.{kern_code}
use Rattle.river_plan.specs.declared.plan.Decl.{Decl}
use Rattle.river_plan.specs.declared.plan.TableDecl.{TableDecl}
use Rattle.river_plan.specs.contracts.plan.Decl as decl
use Rattle.river_plan.specs.contracts.plan.TableDecl as table_decl
use Rattle.river_plan.specs.Forms.{Name, OpForm, PlanForm}

abbrev name_code : Coded Name
name_code = coded_list coded_ℕ

abbrev OpParts : Type 0
OpParts = Name × (Kern × (List Name × (List Name × List Name)))

abbrev op_code : Coded OpForm
op_code = code_by OpParts (coded× name_code (coded× kern_code (coded× (coded_list name_code) (coded× (coded_list name_code) (coded_list name_code)))))
    (λ o. (o.label, (o.kernel, (o.reads, (o.writes, o.vars)))))
    (λ t. record { label = t.0; kernel = t.1.0; reads = t.1.1.0; writes = t.1.1.1.0; vars = t.1.1.1.1 })
    (λ o. refl)

abbrev PlanParts : Type 0
PlanParts = List Decl × (List Decl × (List Decl × (List TableDecl × (List Name × List OpForm))))

abbrev pub plan_code : Coded PlanForm
plan_code =
    code_by PlanParts (coded× (coded_list decl.the_row.coded) (coded× (coded_list decl.the_row.coded) (coded× (coded_list decl.the_row.coded)
    (coded× (coded_list table_decl.the_row.coded) (coded× (coded_list name_code) (coded_list op_code))))))
    (λ p. (p.outputs, (p.inputs, (p.queues, (p.tables, (p.vars, p.ops))))))
    (λ t. record { outputs = t.0; inputs = t.1.0; queues = t.1.1.0; tables = t.1.1.1.0; vars = t.1.1.1.1.0; ops = t.1.1.1.1.1 })
    (λ p. refl)
