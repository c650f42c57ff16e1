use Rattle.std.proofs.Common.{◌≡◌, ◌∙◌, Err, IfErr, sym, subst, rules}
use Rattle.streamit_text.specs.Program as plain
use Rattle.params_text.specs.Program.{program_of}
use Rattle.params_front.specs.Meaning.{compiled, Refused}
use Rattle.params_front.proofs.Compiling.{made-plans, plans-give, plain-refused}
use Rattle.params_front.proofs.compile.compile_params.Goals as goal

-- the plain text is refused, and so is the text
pub returns-in_err-program-clause-refused : goal.returns-in_err-program-clause-refused
returns-in_err-program-clause-refused c =
    let told = c.in_err-program.field-0.0 in
    let is : c.from_residual-in_err-program.result ≡ Err told = search rules in
    let made = c.in_ok-tree.field-0 in
    let refused = plain-refused c.args.text.now (program_of made.tree) made.plain made.from told c.in_ok-tree.ensures.made
    (λ e are. c.in_err-program.ensures.refused e (c.as_slice.ensures ∙ are)) in
    subst (λ r. IfErr r (Refused (compiled c.args.text.now))) (sym is) refused

-- the plan is that of the text, whose program gives the same
pub returns-clause-means : goal.returns-clause-means
returns-clause-means c =
    let tree = program_of c.in_ok-tree.field-0.tree in
    let q = plain.program_of c.in_ok-program.program in
    plans-give c.args.text.now tree q c.in_ok-program.plan
    (made-plans c.args.text.now tree c.in_ok-tree.field-0.plain c.in_ok-tree.field-0.from q c.in_ok-program.plan c.in_ok-tree.ensures.made
    c.in_ok-program.ensures.plan)
