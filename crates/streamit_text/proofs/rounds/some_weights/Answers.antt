use Rattle.std.proofs.Common.{cond, length, ap, sym, ◌∙◌, arith}
use Rattle.text_forms.proofs.Symbols.{taken-shorter}
use Rattle.text_tokens.specs.declared.sign.Symbol.TheVariants as s
use Rattle.text_forms.specs.Parse.{comma_turn}
use Rattle.text_forms.specs.Repeat.{repeated}
use Rattle.text_forms.specs.Tail.{tail}
use Rattle.streamit_text.specs.Reading.{weight_at}
use Rattle.streamit_text.proofs.Weighing.{weights-next, weight-shorter}
use Rattle.streamit_text.proofs.rounds.some_weights.Goals as goal

pub items-preserved : goal.items-preserved
items-preserved c =
    let ts = c.items.reader in
    let rest = c.takes.ensures.rest ∙ ap (λ b. cond b (tail ts) ts) c.items-test.true in
    ap (λ l. repeated (comma_turn weight_at) l c.weight-in-items.new.reader) c.in_ok-push-2.ensures.items
    ∙ weights-next c.items.list.items ts c.weight-in-items.new.reader c.in_ok-weight-2.field-0 (sym c.takes.ensures.taken ∙ c.items-test.true)
    (sym (ap weight_at rest) ∙ c.in_ok-weight-2.ensures)
    ∙ c.items.invariant

pub items-smaller : goal.items-smaller
items-smaller c =
    let ts = c.items.reader in
    let read = weight-shorter c.takes.new.self c.weight-in-items.new.reader c.in_ok-weight-2.field-0 c.in_ok-weight-2.ensures in
    let taken = taken-shorter s.Comma ts (sym c.takes.ensures.taken ∙ c.items-test.true) in
    let rest = ap length (c.takes.ensures.rest ∙ ap (λ b. cond b (tail ts) ts) c.items-test.true) in
    omega (arith, read, taken, rest)
