-- A text has no more units than tokens, and no more tokens than bytes.
use Rattle.std.proofs.Common.{◌≡◌, ℕ, zero, suc, ◌≤◌, ◌+◌, ◌-◌, List, [], ◌∷◌, length, Bool, true, false, cond, Result, Ok, Err, arith}
use Rattle.std.proofs.lemmas.List.{length-map}
use Rattle.text_tokens.specs.Cut.{cut, units_of, to_first, ends_unit, braces_after}
use Rattle.text_tokens.specs.Lexis.{Piece, blank, token, bad, big, marks, with_mark, piece_at, tokens_in}
use Rattle.text_tokens.specs.Tok.{Tok, Mark, toks}
use Rattle.text_tokens.specs.declared.fault.LexFault.{LexFault}
use Rattle.text_tokens.specs.declared.fault.LexFault.TheVariants.{BadByte, BigNumber}

first_more : (t : Tok) (us : List (List Tok)) (n : ℕ) → length us ≤ n → length (to_first t us) ≤ suc n
first_more t [] n h = omega arith
first_more t (u ∷ us) n h = omega arith

cut_few : (b : ℕ) (ts : List Tok) → length (cut b ts) ≤ length ts
unfolding cut
cut_few b [] = omega arith
cut_few b (t ∷ ts) = by (ends_unit b t ts) (cut_few 0 ts) (cut_few (braces_after b t) ts) where
  by : (c : Bool) → length (cut 0 ts) ≤ length ts → length (cut (braces_after b t) ts) ≤ length ts
      → length (cond c ((t ∷ []) ∷ cut 0 ts) (to_first t (cut (braces_after b t) ts))) ≤ suc (length ts)
  by true f g = omega arith
  by false f g = first_more t (cut (braces_after b t) ts) (length ts) g

-- so many tokens at most
abbrev Few : ℕ → Result (List Mark) LexFault → Type 0
Few n (Ok ms) = length ms ≤ n
Few n (Err fault) = Unit {0}

few-more : (n : ℕ) (r : Result (List Mark) LexFault) → Few n r → Few (suc n) r
few-more n (Ok ms) h = omega arith
few-more n (Err fault) h = tt

few-mark : (n : ℕ) (m : Mark) (r : Result (List Mark) LexFault) → Few n r → Few (suc n) (with_mark m r)
few-mark n m (Ok ms) h = omega arith
few-mark n m (Err fault) h = tt

marks_few : (skip at : ℕ) (s : List ℕ) → Few (length s) (marks skip at s)
unfolding marks
marks_few skip at [] = omega arith
marks_few (suc skip) at (c ∷ cs) = few-more (length cs) (marks skip (at + 1) cs) (marks_few skip (at + 1) cs)
marks_few zero at (c ∷ cs) = by (piece_at (c ∷ cs)) (λ k. marks_few k (at + 1) cs) where
  by : (p : Piece) → ((k : ℕ) → Few (length cs) (marks k (at + 1) cs)) → Few (suc (length cs)) (elim p [
    | blank len ↦ marks (len - 1) (at + 1) cs
    | token t len ↦ with_mark (record { tok = t; start = at; end = at + len }) (marks (len - 1) (at + 1) cs)
    | bad ↦ Err (BadByte at)
    | big ↦ Err (BigNumber at)
  ])
  by (blank len) more = few-more (length cs) (marks (len - 1) (at + 1) cs) (more (len - 1))
  by (token t len) more = few-mark (length cs) (record { tok = t; start = at; end = at + len }) (marks (len - 1) (at + 1) cs) (more (len - 1))
  by bad more = tt
  by big more = tt

few-ok : (n : ℕ) (r : Result (List Mark) LexFault) (ms : List Mark) → r ≡ Ok ms → Few n r → length ms ≤ n
few-ok n (Ok ns) ms e h = let same : length ns ≡ length ms = lengths e in omega arith where
  lengths : ◌≡◌ {A = Result (List Mark) LexFault} (Ok ns) (Ok ms) → length ns ≡ length ms
  lengths f = cc
few-ok n (Err fault) ms e h = cc

-- a text has at most as many tokens as bytes
pub tokens-few : (text : List ℕ) (ms : List Mark) → tokens_in text ≡ Ok ms → length ms ≤ length text
tokens-few text ms e = few-ok (length text) (tokens_in text) ms e (marks_few 0 0 text)

-- it has at most as many units as tokens
pub units-few : (ms : List Mark) → length (units_of (toks ms)) ≤ length ms
units-few ms = let few : length (units_of (toks ms)) ≤ length (toks ms) = cut_few 0 (toks ms) in omega (arith, length-map ms (λ (m : Mark). m.tok))

pub ruleset counts = (tokens-few, units-few)
