use Rattle.std.proofs.Common.{◌∙◌, refl}
use Rattle.text_forms.proofs.Many.{comma-more}
use Rattle.work_code.specs.Term.{term, all_exprs}
use Rattle.river_text.specs.ExactExpressions.{exact-term}
use Rattle.river_text.proofs.term.some_exprs.Goals as goal

-- one expression more
pub items-preserved : goal.items-preserved
items-preserved c =
    comma-more (exact-term c.args.brackets) (λ rest j h. refl) term (all_exprs c.items.list)
    (all_exprs c.push-in-items.new.self) c.in_ok-term-2.field-0 c.items.reader c.takes.new.self c.term-in-items.new.reader c.takes.result
    c.in_ok-push-2.ensures.ok c.items-test.true c.takes.ensures.taken c.takes.ensures.rest c.in_ok-term-2.ensures
    ∙ c.items.invariant
