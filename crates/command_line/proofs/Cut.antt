-- Words that are cut at their first `=`.
use Rattle.std.proofs.Common.{◌≡◌, ◌⊎◌, ⊎_elim, ℕ, ◌+◌, ◌<◌, ◌≤◌, List, [], ◌∷◌, length, take, drop, get_or, refl, sym, ap, ◌∙◌, arith}
use Rattle.std.specs.Prelude.{Some, None}
use Rattle.std.proofs.lemmas.List.{length-drop, length-take, drop_more}
use Rattle.command_line.specs.Words.{name_part, rest_part, parted, in_word_of}

no_name : (rest : List ℕ) → parted [] rest ≡ None
no_name rest = refl

no_file : (name rest : List ℕ) → length rest ≤ 1 → parted name rest ≡ None
no_file [] rest le = refl
no_file (n ∷ ns) [] le = refl
no_file (n ∷ ns) (c ∷ []) le = refl
no_file (n ∷ ns) (c ∷ d ∷ file) le = absurd (omega (arith, le))

-- one of the parts is empty
pub cut-none : (word : List ℕ) (at : ℕ) → take at word ≡ name_part word → drop at word ≡ rest_part word → (at ≡ 0) ⊎ (length word ≤ at + 1)
    → None ≡ in_word_of word
cut-none word at name rest = ⊎_elim
    (λ z. let n : name_part word ≡ [] = sym name ∙ ap (λ k. take k word) z in sym (ap (λ l. parted l (rest_part word)) n ∙ no_name (rest_part word)))
    (λ le. let d = length-drop at word in let e = ap length rest in sym (no_file (name_part word) (rest_part word) (omega (arith, le, d, e))))

-- neither is empty
cut_both : (name file : List ℕ) (c : ℕ) → 0 < length name → 0 < length file → parted name (c ∷ file) ≡ Some (record { name = name; file = file })
cut_both [] file c n f = absurd (omega (arith, n))
cut_both (n ∷ ns) [] c m f = absurd (omega (arith, f))
cut_both (n ∷ ns) (d ∷ ds) c m f = refl

-- a word that is cut at its first `=` is NAME=FILE
pub cut-some : (word : List ℕ) (at : ℕ) → take at word ≡ name_part word → drop at word ≡ rest_part word → 0 < at → at + 1 < length word
    → Some (record { name = take at word; file = drop (at + 1) word }) ≡ in_word_of word
cut-some word at name rest some more =
    let t = length-take at word in
    let d = length-drop (at + 1) word in
    let both = cut_both (take at word) (drop (at + 1) word) (get_or word at 0) (omega (arith, some, more, t)) (omega (arith, more, d)) in
    sym (ap (λ l. parted l (rest_part word)) (sym name) ∙ ap (λ l. parted (take at word) l) (sym rest ∙ drop_more word at 0 (omega (arith, more))) ∙ both)
