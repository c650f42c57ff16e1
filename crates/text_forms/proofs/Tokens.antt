-- A whole text's tokens, with and without their places.
use Rattle.std.proofs.Common.{◌≡◌, List, [], ◌∷◌, Some, None, refl, sym, ap, ◌∙◌, map}
use Rattle.text_tokens.specs.Tok.{Tok, Mark, toks, tokens_of, token_of, mark_of}
use Rattle.text_tokens.specs.declared.token.Lexeme.{Lexeme}
use Rattle.text_forms.specs.Parse.{Parse}
use Rattle.text_forms.specs.Texts.{whole, ended, at_end}

tokens_of-toks : (ls : List Lexeme) → tokens_of ls ≡ toks (map mark_of ls)
tokens_of-toks [] = refl
tokens_of-toks (l ∷ ls) = ap (λ (ts : List Tok). token_of l.token ∷ ts) (tokens_of-toks ls)

pub same_tokens : (ls : List Lexeme) (marks : List Mark) → map mark_of ls ≡ marks → tokens_of ls ≡ toks marks
same_tokens ls marks is = tokens_of-toks ls ∙ ap (λ (m : List Mark). toks m) is

module _ {A : Type 0} (p : Parse A) (ls : List Lexeme) (marks : List Mark) (is : map mark_of ls ≡ marks) where
  all : whole p (toks marks) ≡ ended (p (tokens_of ls))
  all = ap (λ (ts : List Tok). ended (p ts)) (sym (same_tokens ls marks is))

  -- a reading that came to the end is that of the whole
  pub whole-ended : (v : A) (rest : List Tok) → p (tokens_of ls) ≡ Some (v, rest) → rest ≡ [] → whole p (toks marks) ≡ Some v
  whole-ended v rest read end = all ∙ ap ended read ∙ ap (λ (r : List Tok). at_end v r) end

  -- one that left tokens is none
  pub whole-more : (v : A) (rest : List Tok) → p (tokens_of ls) ≡ Some (v, rest) → (rest ≡ [] → ⊥) → whole p (toks marks) ≡ None
  whole-more v rest read more = all ∙ ap ended read ∙ left rest more where
    left : (r : List Tok) → (r ≡ [] → ⊥) → at_end v r ≡ None
    left [] m = absurd (m refl)
    left (t ∷ ts) m = refl

  pub whole-none : p (tokens_of ls) ≡ None → whole p (toks marks) ≡ None
  whole-none read = all ∙ ap ended read
