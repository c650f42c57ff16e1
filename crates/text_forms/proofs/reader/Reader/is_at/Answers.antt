use Rattle.std.proofs.Common.{◌∙◌, List, sym, ap}
use Rattle.text_tokens.specs.Tok.{Tok}
use Rattle.text_forms.specs.Parse.{begins_with}
use Rattle.text_forms.proofs.Symbols.{same_code}
use Rattle.text_forms.proofs.reader.Reader.is_at.Goals as goal

-- the symbol that comes is told from the other by its number
pub returns : goal.returns
returns c =
    let next = rw c.in-Some-Sign.field-0-is at c.in-Some-Sign.ensures in
    c.eq.ensures ∙ same_code c.in-Some-Sign.next c.args.symbol ∙ sym (ap (λ (ts : List Tok). begins_with c.args.symbol ts) next)
