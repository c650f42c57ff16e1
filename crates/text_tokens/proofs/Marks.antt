-- What the lexer keeps as it goes from piece to piece.
use Rattle.std.proofs.Common.{◌≡◌, ℕ, zero, suc, ◌+◌, ◌-◌, ◌<◌, ◌≤◌, List, [], ◌∷◌, ◌++◌, length, drop, refl, sym, ap}
use Rattle.std.proofs.Common.{◌∙◌, arith, append_assoc, append-nil, length-drop}
use Rattle.std.specs.Prelude.{Result, Ok, Err}
use Rattle.std.proofs.lemmas.List.{drop_all, drop-drop}
use Rattle.text_tokens.specs.Lexis.{blank, token, bad, big, marks, with_mark, piece_at}
use Rattle.text_tokens.specs.Tok.{Tok, Mark}
use Rattle.text_tokens.specs.declared.fault.LexFault.{LexFault}
use Rattle.text_tokens.specs.declared.fault.LexFault.TheVariants.{BadByte, BigNumber}

-- these tokens and then those
abbrev pub after_marks : List Mark → Result (List Mark) LexFault → Result (List Mark) LexFault
after_marks front (Ok ms) = Ok (front ++ ms)
after_marks front (Err fault) = Err fault

-- behind what was there before, the text goes on
marks-skip : (skip at : ℕ) (s : List ℕ) → skip ≤ length s → marks skip at s ≡ marks 0 (at + skip) (drop skip s)
unfolding marks
marks-skip zero at s h = ap (λ k. marks 0 k s) (omega arith)
marks-skip (suc skip) at [] h = absurd (omega arith)
marks-skip (suc skip) at (c ∷ cs) h = marks-skip skip (at + 1) cs (omega arith) ∙ ap (λ k. marks 0 k (drop skip cs)) (omega arith)

step : (at len : ℕ) (c : ℕ) (cs : List ℕ) → 0 < len → len ≤ length (c ∷ cs) → marks (len - 1) (at + 1) cs ≡ marks 0 (at + len) (drop len (c ∷ cs))
step at zero c cs h k = absurd (omega arith)
step at (suc len) c cs h k =
    let e : suc len - 1 ≡ len = omega arith in
    ap (λ n. marks n (at + 1) cs) e ∙ marks-skip len (at + 1) cs (omega arith) ∙ ap (λ n. marks 0 n (drop len cs)) (omega arith)

-- the lexer goes on behind what it passes over
pub at_blank : (at len : ℕ) (s : List ℕ) → 0 < length s → piece_at s ≡ blank len → 0 < len → len ≤ length s → marks 0 at s ≡ marks 0 (at + len) (drop len s)
unfolding marks
at_blank at len [] n p h k = absurd (omega arith)
at_blank at len (c ∷ cs) n p h k = rw (p, marks) (step at len c cs h k)

-- the lexer puts the token at the front before those behind it
pub at_token : (at len : ℕ) (t : Tok) (s : List ℕ) → 0 < length s → piece_at s ≡ token t len → 0 < len → len ≤ length s
    → marks 0 at s ≡ with_mark (record { tok = t; start = at; end = at + len }) (marks 0 (at + len) (drop len s))
unfolding marks
at_token at len t [] n p h k = absurd (omega arith)
at_token at len t (c ∷ cs) n p h k = rw (p, marks) (ap (with_mark (record { tok = t; start = at; end = at + len })) (step at len c cs h k))

at_bad : (at : ℕ) (s : List ℕ) → 0 < length s → piece_at s ≡ bad → marks 0 at s ≡ Err (BadByte at)
unfolding marks
at_bad at [] n p = absurd (omega arith)
at_bad at (c ∷ cs) n p = rw (p, marks) refl

at_big : (at : ℕ) (s : List ℕ) → 0 < length s → piece_at s ≡ big → marks 0 at s ≡ Err (BigNumber at)
unfolding marks
at_big at [] n p = absurd (omega arith)
at_big at (c ∷ cs) n p = rw (p, marks) refl

after-with : (front : List Mark) (m : Mark) (r : Result (List Mark) LexFault) → after_marks front (with_mark m r) ≡ after_marks (front ++ m ∷ []) r
after-with front m (Ok ms) = ap (λ l. Ok l) (sym (append_assoc front (m ∷ []) ms))
after-with front m (Err fault) = refl

pub marks-blank : (front : List Mark) (at len : ℕ) (text : List ℕ) → at < length text → piece_at (drop at text) ≡ blank len → 0 < len
    → len ≤ length (drop at text) → after_marks front (marks 0 (at + len) (drop (at + len) text)) ≡ after_marks front (marks 0 at (drop at text))
marks-blank front at len text h p pos fits =
    ap (after_marks front)
    (sym (at_blank at len (drop at text) (omega (arith, length-drop at text)) p pos fits ∙ ap (marks 0 (at + len)) (drop-drop len at text)))

-- the same, behind the tokens that were found so far
pub marks-token : (front : List Mark) (at len : ℕ) (t : Tok) (text : List ℕ) → at < length text → piece_at (drop at text) ≡ token t len → 0 < len
    → len ≤ length (drop at text)
    → after_marks (front ++ record { tok = t; start = at; end = at + len } ∷ []) (marks 0 (at + len) (drop (at + len) text)) ≡ after_marks front
    (marks 0 at (drop at text))
marks-token front at len t text h p pos fits =
    sym (after-with front (record { tok = t; start = at; end = at + len }) (marks 0 (at + len) (drop (at + len) text)))
    ∙ ap (after_marks front)
    (sym (at_token at len t (drop at text) (omega (arith, length-drop at text)) p pos fits
    ∙ ap (λ r. with_mark (record { tok = t; start = at; end = at + len }) (marks 0 (at + len) r)) (drop-drop len at text)))

pub marks-bad : (front : List Mark) (at : ℕ) (text : List ℕ) → at < length text → piece_at (drop at text) ≡ bad
    → after_marks front (marks 0 at (drop at text)) ≡ Err (BadByte at)
marks-bad front at text h p = ap (after_marks front) (at_bad at (drop at text) (omega (arith, length-drop at text)) p)

pub marks-big : (front : List Mark) (at : ℕ) (text : List ℕ) → at < length text → piece_at (drop at text) ≡ big
    → after_marks front (marks 0 at (drop at text)) ≡ Err (BigNumber at)
marks-big front at text h p = ap (after_marks front) (at_big at (drop at text) (omega (arith, length-drop at text)) p)

pub marks-end : (front : List Mark) (at : ℕ) (text : List ℕ) → length text ≤ at → after_marks front (marks 0 at (drop at text)) ≡ Ok front
unfolding marks
marks-end front at text h = ap (λ s. after_marks front (marks 0 at s)) (drop_all at text h) ∙ ap (λ l. Ok l) (append-nil front)

pub ruleset pieces = (marks-blank, marks-token, marks-bad, marks-big, marks-end)
