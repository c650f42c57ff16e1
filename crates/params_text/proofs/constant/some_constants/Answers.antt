use Rattle.std.proofs.Common.{cond, length, ap, sym, ◌∙◌, arith}
use Rattle.text_forms.proofs.Symbols.{taken-shorter}
use Rattle.text_tokens.specs.declared.sign.Symbol.TheVariants as s
use Rattle.text_forms.specs.Tail.{tail}
use Rattle.streamit_text.specs.Tree.{expression}
use Rattle.params_text.proofs.Lists.{constants-next, constant-shorter}
use Rattle.params_text.proofs.constant.some_constants.Goals as goal

pub items-preserved : goal.items-preserved
items-preserved c =
    constants-next c.args.brackets c.items.list.items c.push-in-items.new.self.items c.in_ok-constant-2.field-0 c.items.reader c.takes.new.self
    c.constant-in-items.new.reader c.takes.result c.in_ok-push-2.ensures.items
    c.items-test.true c.takes.ensures.taken c.takes.ensures.rest c.in_ok-constant-2.ensures
    ∙ c.items.invariant

pub items-smaller : goal.items-smaller
items-smaller c =
    let ts = c.items.reader in
    let read = constant-shorter c.args.brackets c.takes.new.self c.constant-in-items.new.reader (expression c.in_ok-constant-2.field-0)
    c.in_ok-constant-2.ensures in
    let taken = taken-shorter s.Comma ts (sym c.takes.ensures.taken ∙ c.items-test.true) in
    let rest = ap length (c.takes.ensures.rest ∙ ap (λ b. cond b (tail ts) ts) c.items-test.true) in
    omega (arith, read, taken, rest)
