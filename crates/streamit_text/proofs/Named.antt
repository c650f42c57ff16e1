-- The names of a text that users may give are names of plans.
use Rattle.std.proofs.Common.{◌≡◌, ℕ, ◌≤◌, Bool, true, List, [], ◌∷◌, length, refl, ap, ◌∙◌, arith, nat_le}
use Rattle.std.specs.Prelude.{◌&&◌}
use Rattle.std.specs.List.{list_all}
use Rattle.std.proofs.lemmas.Bool.{and_parts}
use Rattle.std.proofs.lemmas.Bool.Decides.{nat_tests}
use Rattle.river_base.specs.Name.{is_letter, is_word, is_name}
use Rattle.text_tokens.specs.Laws.{IsWord, IsWrittenAs, AllSpans}
use Rattle.text_tokens.specs.Lexis.{first_is}
use Rattle.text_tokens.specs.Tok.{Tok, name, var, number, symbol, Mark}
use Rattle.text_tokens.proofs.Slices.{tokens_are_slices}
use Rattle.streamit_text.specs.Words.{is_plain, is_own}
use Rattle.streamit_text.specs.Laws.{IsOwn, AreOwnMarks, NamesAreNames}
use Rattle.streamit_text.proofs.Adding.{plain-short}

-- a word of at most 64 bytes is a name
word-named : (w : List ℕ) → IsWord w → length w ≤ 40 → is_name w ≡ true
unfolding first_is
word-named [] h le = absurd (cc h.0)
word-named (c ∷ cs) h le =
    both (is_letter c) _ h.0
    (both (list_all is_word cs) (nat_le (length cs) 63) (and_parts (is_word c) (list_all is_word cs) h.1).1 (low (length cs) (omega (arith, le)))) where
      both : (a b : Bool) → a ≡ true → b ≡ true → a && b ≡ true
      both a b e f = rw (e, f) refl

      low : (n : ℕ) → n ≤ 63 → nat_le n 63 ≡ true
      low n le = grind (arith, nat_tests)

word-own : (w : List ℕ) → IsWord w → is_plain w ≡ true → is_own w ≡ true
word-own w h plain = ap (λ (b : Bool). b && is_name w) plain ∙ word-named w h (plain-short w plain)

token-own : (t : Tok) (bytes : List ℕ) → IsWrittenAs t bytes → IsOwn t
token-own (name w) bytes h = word-own w h.1
token-own (var w) bytes h = tt
token-own (number v) bytes h = tt
token-own (symbol x) bytes h = tt

spans-own : (text : List ℕ) (ms : List Mark) → AllSpans text ms → AreOwnMarks ms
spans-own text [] h = tt
spans-own text (m ∷ ms) h = (token-own m.tok _ h.0.written, spans-own text ms h.1)

-- the law
pub names_are_names : NamesAreNames
names_are_names text ms lexed = spans-own text ms (tokens_are_slices text ms lexed).1
