-- The steps by which code reads weights.
use Rattle.std.proofs.Common.{◌≡◌, ℕ, ◌≤◌, ◌+◌, List, [], ◌∷◌, ◌++◌, length, true, Some, ap, ◌∙◌, arith, length-append}
use Rattle.text_tokens.specs.Tok.{Tok}
use Rattle.text_tokens.specs.declared.sign.Symbol.TheVariants as s
use Rattle.text_forms.specs.Parse as parse
use Rattle.text_forms.specs.Repeat.{repeated}
use Rattle.text_forms.specs.Tail.{tail}
use Rattle.text_forms.proofs.Many.{comma-next, comma-stop, comma-bad}
use Rattle.text_forms.proofs.Symbols.{taken-shorter}
use Rattle.streamit_text.specs.Reading.{weight_at}
use Rattle.streamit_text.proofs.Units.{exact-weight}

-- one more weight behind a comma leaves the same to read
pub weights-next : (done : List ℕ) (ts us : List Tok) (v : ℕ) → parse.begins_with s.Comma ts ≡ true → weight_at (tail ts) ≡ Some (v, us)
    → repeated (parse.comma_turn weight_at) (done ++ v ∷ []) us ≡ repeated (parse.comma_turn weight_at) done ts
weights-next = comma-next exact-weight (λ rest. tt)

-- a weight leaves no more than there was
pub weight-shorter : (ts us : List Tok) (v : ℕ) → weight_at ts ≡ Some (v, us) → length us ≤ length ts
weight-shorter ts us v e =
    let f = exact-weight.sound ts v us e in
    let size : length ts ≡ length f.front + length us = ap length f.is ∙ length-append f.front us in
    omega arith

pub ruleset weights = (weights-next, weight-shorter, taken-shorter, comma-stop, comma-bad)
