-- What lies between tokens is what the lexer passes over.
use Rattle.std.proofs.Common.{◌≡◌, ℕ, zero, suc, ◌+◌, ◌-◌, ◌≤◌, List, [], ◌∷◌, ◌++◌, length, take, drop, refl, sym, ap, ◌∙◌, subst, arith, append_assoc}
use Rattle.std.specs.Prelude.{Ok}
use Rattle.std.specs.List.{concat}
use Rattle.std.proofs.lemmas.List.{drop-drop, length-drop, take-append-drop}
use Rattle.text_tokens.specs.Lexis.{Piece, blank, token, bad, big, marks, piece_at}
use Rattle.text_tokens.specs.Pieces.{PieceFits}
use Rattle.text_tokens.specs.Tok.{Mark}
use Rattle.text_tokens.specs.Laws.{IsPassedOver, IsBlankBetween, AreApart, TokensAreApart}
use Rattle.text_tokens.proofs.Gaps.{Passed, piece-passed}
use Rattle.text_tokens.proofs.Rooms.{piece_fits}
use Rattle.text_tokens.proofs.Slices.{with-ok, after_piece, next_drop, room_left}

-- no bytes
nothing : (text : List ℕ) (at : ℕ) → at ≤ length text → IsBlankBetween text at at
nothing text at within = record { blanks = []; within = within; is = refl; are = tt }

-- one blank more in front
one_more : (text : List ℕ) (at len to : ℕ) (s : List ℕ) → s ≡ drop at text → Passed s (blank len) → IsBlankBetween text (at + len) to
    → IsBlankBetween text at to
one_more text at len to s here passed b =
    let behind : drop len s ≡ concat b.blanks ++ drop to text = ap (drop len) here ∙ drop-drop len at text ∙ b.is in
    record {
      blanks = take len s ∷ b.blanks;
      within = b.within;
      is =
          sym here ∙ sym (take-append-drop len s) ∙ ap (λ (l : List ℕ). take len s ++ l) behind
          ∙ sym (append_assoc (take len s) (concat b.blanks) (drop to text));
      are = (subst (IsPassedOver (take len s)) behind passed, b.are);
    }

more : (text : List ℕ) (at len : ℕ) (s : List ℕ) (ms : List Mark) → s ≡ drop at text → Passed s (blank len) → AreApart text (at + len) ms → AreApart text at ms
more text at len s [] here passed a = one_more text at len (length text) s here passed a
more text at len s (m ∷ ms) here passed a = (one_more text at len m.start s here passed a.0, a.1)

from_piece : (text : List ℕ) (at c : ℕ) (cs : List ℕ) (p : Piece) (ms : List Mark) → c ∷ cs ≡ drop at text → PieceFits (length (c ∷ cs)) p → Passed (c ∷ cs) p
    → ((skip : ℕ) (ks : List Mark) → skip ≤ length cs → marks skip (at + 1) cs ≡ Ok ks → AreApart text (at + 1 + skip) ks)
    → after_piece at cs p ≡ Ok ms → AreApart text at ms
from_piece text at c cs (blank len) ms here fits passed later e =
    let next : at + 1 + (len - 1) ≡ at + len = omega (arith, fits.0) in
    let a = later (len - 1) ms (omega (arith, fits.1)) e in
    more text at len (c ∷ cs) ms here passed (subst (λ (n : ℕ). AreApart text n ms) next a)
from_piece text at c cs (token t len) ms here fits passed later e =
    let w = with-ok (record { tok = t; start = at; end = at + len }) (marks (len - 1) (at + 1) cs) ms e in
    let next : at + 1 + (len - 1) ≡ at + len = omega (arith, fits.0) in
    let a = later (len - 1) w.0 (omega (arith, fits.1)) w.1 in
    subst (λ (l : List Mark). AreApart text at l) (sym w.2)
    (nothing text at (omega (arith, room_left text at (c ∷ cs) here (omega arith))), subst (λ (n : ℕ). AreApart text n w.0) next a)
from_piece text at c cs bad ms here fits passed later e = cc
from_piece text at c cs big ms here fits passed later e = cc

apart : (text : List ℕ) (skip at : ℕ) (s : List ℕ) (ms : List Mark) → s ≡ drop at text → at ≤ length text → skip ≤ length s → marks skip at s ≡ Ok ms
    → AreApart text (at + skip) ms
unfolding marks
apart text skip at [] [] here within fits e =
    let end : at + skip ≡ length text = omega (arith, ap length here, length-drop at text) in
    subst (λ (n : ℕ). IsBlankBetween text n (length text)) (sym end) (nothing text (length text) (omega arith))
apart text skip at [] (m ∷ ms) here within fits e = cc
apart text (suc skip) at (c ∷ cs) ms here within fits e =
    let next : at + 1 + skip ≡ at + suc skip = omega arith in
    subst (λ (n : ℕ). AreApart text n ms) next
    (apart text skip (at + 1) cs ms (next_drop text at c cs here) (omega (arith, room_left text at (c ∷ cs) here (omega arith))) (omega arith) e)
apart text zero at (c ∷ cs) ms here within fits e =
    let same : at ≡ at + zero = omega arith in
    subst (λ (n : ℕ). AreApart text n ms) same
    (from_piece text at c cs (piece_at (c ∷ cs)) ms here (piece_fits (c ∷ cs) (omega arith)) (piece-passed (c ∷ cs))
    (λ skip ks le f. apart text skip (at + 1) cs ks (next_drop text at c cs here) (omega (arith, room_left text at (c ∷ cs) here (omega arith))) le f) e)

-- the law: outside the tokens are separators and comments alone
pub tokens_are_apart : TokensAreApart
tokens_are_apart text ms e = apart text 0 0 text ms refl (omega arith) (omega arith) e
