use Rattle.std.proofs.Common.{◌≡◌, ℕ, ◌++◌, ◌∷◌, [], List, ap, ◌∙◌, append_assoc}
use Rattle.river_plan.specs.Forms.{Name, OpForm, PlanForm, plan_form, op_form}
use Rattle.rw_fission.specs.Code.{IsMadeOf, way_by}
use Rattle.rw_fission.specs.Made.{made_of}
use Rattle.rw_fission.specs.Vars.{behind_splitter}
use Rattle.rw_fission.specs.declared.made.MadeNames.{MadeNames}
use Rattle.rw_fission.specs.declared.form.Form.{Form}
use Rattle.rw_fission.specs.declared.form.Form.TheVariants.{Packs, Blocks, Adds}
use Rattle.rw_fission.proofs.lists.new_vars.Goals as goal

-- the new private variables, by the names that were made
new_vars_are : (p : PlanForm) (op : OpForm) (l : Name) (n : ℕ) (names : MadeNames) (form : Form) → IsMadeOf l n names
    → names.splitter ∷ behind_splitter names form ≡ (way_by p op (made_of l) n form).new
new_vars_are p op l n names (Packs u) h = let a = h.splitter in let b = h.joiner in cc
new_vars_are p op l n names (Blocks pop push) h = let a = h.splitter in let b = h.joiner in let d = h.replicas in cc
new_vars_are p op l n names Adds h = let a = h.splitter in cc

pub returns : goal.returns
returns c =
    let m = made_of c.args.label.now in
    let p : PlanForm = plan_form c.args.raw.now in
    let op : OpForm = op_form c.args.op.now in
    let stay = (way_by p op m c.args.n c.args.form).stay in
    let behind = behind_splitter c.args.names.now c.args.form in
    c.in_ok-add_vars.ensures
    ∙ ap (λ (l : List Name). l ++ behind)
    (c.in_ok-push.ensures.ok ∙ ap (λ (l : List Name). l ++ c.args.names.now.splitter ∷ []) (c.in_ok-vars.ensures m c.args.n))
    ∙ append_assoc stay (c.args.names.now.splitter ∷ []) behind
    ∙ ap (λ (l : List Name). stay ++ l) (new_vars_are p op c.args.label.now c.args.n c.args.names.now c.args.form c.requires)
