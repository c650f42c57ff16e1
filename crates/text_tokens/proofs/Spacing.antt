-- Texts of tokens one after another.
use Rattle.std.proofs.Common.{◌≡◌, List, [], ◌∷◌, ◌++◌, refl, sym, ap, ◌∙◌, append_assoc}
use Rattle.text_tokens.specs.Tok.{Tok}
use Rattle.text_tokens.specs.Spaced.{token_bytes, spaced}

-- the text of tokens behind others is the text of both
pub spaced-append : (ts us : List Tok) → spaced (ts ++ us) ≡ spaced ts ++ spaced us
spaced-append [] us = refl
spaced-append (t ∷ ts) us = ap (λ l. token_bytes t ++ (32 ∷ l)) (spaced-append ts us) ∙ sym (append_assoc (token_bytes t) (32 ∷ spaced ts) (spaced us))
