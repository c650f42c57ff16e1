use Rattle.std.proofs.Common.{cond, length, ap, sym, ◌∙◌, arith}
use Rattle.text_forms.proofs.Symbols.{taken-shorter}
use Rattle.text_tokens.specs.declared.sign.Symbol.TheVariants as s
use Rattle.text_forms.specs.Parse.{comma_turn}
use Rattle.text_forms.specs.Repeat.{repeated}
use Rattle.text_forms.specs.Tail.{tail}
use Rattle.params_text.specs.Steps.{param_at}
use Rattle.params_text.proofs.Lists.{params-next, param-shorter}
use Rattle.params_text.proofs.constant.some_params.Goals as goal

pub items-preserved : goal.items-preserved
items-preserved c =
    let ts = c.items.reader in
    let rest = c.takes.ensures.rest ∙ ap (λ b. cond b (tail ts) ts) c.items-test.true in
    ap (λ l. repeated (comma_turn param_at) l c.param-in-items.new.reader) c.in_ok-push-2.ensures.items
    ∙ params-next c.items.list.items ts c.param-in-items.new.reader c.in_ok-param-2.field-0 (sym c.takes.ensures.taken ∙ c.items-test.true)
    (sym (ap param_at rest) ∙ c.in_ok-param-2.ensures)
    ∙ c.items.invariant

pub items-smaller : goal.items-smaller
items-smaller c =
    let ts = c.items.reader in
    let read = param-shorter c.takes.new.self c.param-in-items.new.reader c.in_ok-param-2.field-0 c.in_ok-param-2.ensures in
    let taken = taken-shorter s.Comma ts (sym c.takes.ensures.taken ∙ c.items-test.true) in
    let rest = ap length (c.takes.ensures.rest ∙ ap (λ b. cond b (tail ts) ts) c.items-test.true) in
    omega (arith, read, taken, rest)
