-- The bytes of a unit, by its first and its last token; and those of units that have the tokens one after another.
use Rattle.std.proofs.Common.{◌≡◌, ℕ, ◌+◌, ◌-◌, ◌<◌, ◌≤◌, List, [], ◌∷◌, ◌++◌, length, get_or, take, drop, false, refl, sym, ap, ◌∙◌, arith}
use Rattle.std.proofs.Common.{Bor, append_assoc, length-drop}
use Rattle.std.specs.Prelude.{◌==◌, map, min}
use Rattle.std.proofs.Math.Nat.{min-le_right}
use Rattle.std.proofs.lemmas.List.{length-map, take-map, take_min, drop-map, drop_min, drop-drop, drop_more}
use Rattle.text_tokens.specs.Cut.{unit_tokens}
use Rattle.text_tokens.specs.Tok.{Mark, mark_of, token_of}
use Rattle.text_tokens.specs.declared.token.Lexeme.{Lexeme}
use Rattle.params_front.specs.Sizes.{end_of_last, bytes_of, bytes_of_each}

end-is : (l : Lexeme) (ls : List Lexeme) (last : Lexeme) → (get_or (l ∷ ls) (length ls) last).end ≡ end_of_last (mark_of l) (map mark_of ls)
end-is l [] last = refl
end-is l (m ∷ ls) last = end-is m ls last

-- a unit that is not empty has the bytes from where its first token begins to where its last token ends
pub bytes-are : (last first : Lexeme) (unit : List Lexeme) → (length unit == 0) ≡ false
    → (get_or unit (length unit - 1) last).end - (get_or unit 0 first).start ≡ bytes_of (map mark_of unit)
bytes-are last first [] f = absurd (cc f)
bytes-are last first (m ∷ ls) f =
    let e : length (m ∷ ls) - 1 ≡ length ls = omega arith in
    ap (λ k. (get_or (m ∷ ls) k last).end - m.start) e ∙ ap (λ k. k - m.start) (end-is m ls last)

-- how many tokens a unit of so many takes of those from a place
abbrev pub taken : List Lexeme → ℕ → ℕ → ℕ
taken tokens many at = min many (length (drop at tokens))

-- there are so many
pub taken-within : (tokens : List Lexeme) (many at : ℕ) → at ≤ length tokens → at + taken tokens many at ≤ length tokens
taken-within tokens many at h =
    let few = min-le_right many (length (drop at tokens)) in
    let left = length-drop at tokens in
    omega (arith, h, few, left)

abbrev each : List (Bor (List Lexeme)) → List Lexeme → List ℕ
each units tokens = bytes_of_each (map unit_tokens units) (map mark_of tokens)

first-of-each : (u : Bor (List Lexeme)) (us : List (Bor (List Lexeme))) (rest : List Lexeme) (n : ℕ) → n ≡ min (length u.now) (length rest)
    → each (u ∷ us) rest ≡ bytes_of (map mark_of (take n rest)) ∷ each us (drop n rest)
first-of-each u us rest n is =
    let many : length (unit_tokens u) ≡ length u.now = length-map u.now (λ (l : Lexeme). token_of l.token) in
    let front : take (length (unit_tokens u)) (map mark_of rest) ≡ map mark_of (take n rest) =
    ap (λ k. take k (map mark_of rest)) many ∙ take-map mark_of (length u.now) rest
    ∙ ap (map mark_of) (sym (take_min (length u.now) rest) ∙ ap (λ k. take k rest) (sym is)) in
    let back : drop (length (unit_tokens u)) (map mark_of rest) ≡ map mark_of (drop n rest) =
    ap (λ k. drop k (map mark_of rest)) many ∙ drop-map mark_of (length u.now) rest
    ∙ ap (map mark_of) (sym (drop_min (length u.now) rest) ∙ ap (λ k. drop k rest) (sym is)) in
    ap (λ (ms : List Mark). bytes_of ms ∷ bytes_of_each (map unit_tokens us) (drop (length (unit_tokens u)) (map mark_of rest))) front
    ∙ ap (λ (ms : List Mark). bytes_of (map mark_of (take n rest)) ∷ bytes_of_each (map unit_tokens us) ms) back

-- the bytes of one unit more
pub one-more : (units : List (Bor (List Lexeme))) (tokens : List Lexeme) (i at : ℕ) (d : Bor (List Lexeme)) (before whole : List ℕ) → i < length units
    → before ++ each (drop i units) (drop at tokens) ≡ whole
    → (before ++ bytes_of (map mark_of (take (taken tokens (length (get_or units i d).now) at) (drop at tokens))) ∷ [])
    ++ each (drop (i + 1) units) (drop (at + taken tokens (length (get_or units i d).now) at) tokens) ≡ whole
one-more units tokens i at d before whole some h =
    let u = get_or units i d in
    let n = taken tokens (length u.now) at in
    let size = bytes_of (map mark_of (take n (drop at tokens))) in
    append_assoc before (size ∷ []) (each (drop (i + 1) units) (drop (at + n) tokens))
    ∙ ap (λ (l : List Lexeme). before ++ (size ∷ each (drop (i + 1) units) l)) (sym (drop-drop n at tokens))
    ∙ ap (λ l. before ++ l) (sym (first-of-each u (drop (i + 1) units) (drop at tokens) n refl))
    ∙ ap (λ (us : List (Bor (List Lexeme))). before ++ each us (drop at tokens)) (sym (drop_more units i d some))
    ∙ h
