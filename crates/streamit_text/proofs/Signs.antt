-- The signs that StreamIt shares with all languages.
use Rattle.std.proofs.Common.{◌≡◌, List, [], ◌∷◌, Some, None, refl}
use Rattle.text_tokens.specs.Tok.{Tok, name, var, number, symbol}
use Rattle.text_tokens.specs.declared.sign.Symbol.TheVariants as s
use Rattle.text_forms.specs.ReadLevels.{first}
use Rattle.text_blocks.specs.Seven as shared_signs
use Rattle.text_blocks.specs.declared.sign.Sign.TheVariants as shared_sign
use Rattle.streamit_text.specs.Expressions.{sign_at}
use Rattle.streamit_text.specs.declared.term.Sign.TheVariants as sign

-- no sign is there
pub shared-none : (ts : List Tok) → first shared_signs.sign_at ts ≡ None → first sign_at ts ≡ None
shared-none [] e = refl
shared-none (name text ∷ ts) e = refl
shared-none (var text ∷ ts) e = refl
shared-none (number v ∷ ts) e = refl
shared-none (symbol s.Minus ∷ ts) e = cc
shared-none (symbol s.Not ∷ ts) e = cc
shared-none (symbol y ∷ ts) e = refl

-- a minus
pub shared-neg : (ts : List Tok) → first shared_signs.sign_at ts ≡ Some shared_sign.Neg → first sign_at ts ≡ Some sign.Neg
shared-neg [] e = cc
shared-neg (name text ∷ ts) e = cc
shared-neg (var text ∷ ts) e = cc
shared-neg (number v ∷ ts) e = cc
shared-neg (symbol s.Minus ∷ ts) e = refl
shared-neg (symbol s.Not ∷ ts) e = cc
shared-neg (symbol y ∷ ts) e = cc

-- an exclamation mark
pub shared-not : (ts : List Tok) → first shared_signs.sign_at ts ≡ Some shared_sign.Not → first sign_at ts ≡ Some sign.Not
shared-not [] e = cc
shared-not (name text ∷ ts) e = cc
shared-not (var text ∷ ts) e = cc
shared-not (number v ∷ ts) e = cc
shared-not (symbol s.Minus ∷ ts) e = cc
shared-not (symbol s.Not ∷ ts) e = refl
shared-not (symbol y ∷ ts) e = cc

pub ruleset shared = (shared-none, shared-neg, shared-not)
