use Rattle.std.proofs.Common.{ap, ◌∙◌, ◌++◌, append_assoc, List}
use Rattle.river_plan.specs.Forms.{Name, decl_names}
use Rattle.plan_check.proofs.lists.queue_names.Goals as goal

pub returns : goal.returns
returns c =
    let a = decl_names c.args.raw.now.outputs in
    let b = decl_names c.args.raw.now.inputs in
    let d = decl_names c.args.raw.now.queues in
    c.in_ok-add_decls-3.ensures
    ∙ ap (λ (l : List Name). l ++ d) (c.in_ok-add_decls-2.ensures
    ∙ ap (λ (l : List Name). l ++ b) (c.in_ok-add_decls.ensures ∙ ap (λ (l : List Name). l ++ a) c.new-names.ensures))
    ∙ append_assoc a b d
