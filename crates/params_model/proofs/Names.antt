-- The name of an instance is a name of programs.
use Rattle.std.proofs.Common.{◌≡◌, ℕ, ◌+◌, ◌<◌, ◌≤◌, ◌^◌, ◌%◌, ◌==◌, Bool, true, false, not, ◌&&◌, ◌||◌, List, [], ◌∷◌, ◌++◌, length, refl, sym, ap, ◌∙◌, arith, length-append, nat_eq, nat_le}
use Rattle.std.specs.Str.{bytes_eq}
use Rattle.std.specs.List.{list_any, list_all}
use Rattle.std.specs.Fmt.{decimal}
use Rattle.std.proofs.lemmas.Bool.{and_parts, and_from, true≢false, not-true, le-leb}
use Rattle.std.proofs.lemmas.Fmt.{decimal_by_steps, length-decimal-le}
use Rattle.std.proofs.lemmas.List.Folds.{list_all-append}
use Rattle.std.proofs.lemmas.Nat.{mod_below}
use Rattle.std.proofs.lemmas.Slice.Eq.{bytes_eq-Decides}
use Rattle.river_base.specs.Name.{is_letter, is_digit, is_word, is_name}
use Rattle.streamit_model.proofs.Named.{decimal_goes}
use Rattle.streamit_text.specs.Words.{is_plain, keywords}
use Rattle.text_forms.specs.Parse.{is_short}
use Rattle.params_model.specs.Plain.{instance_name}
use Rattle.params_text.specs.Told.{IsOwnName}
use Rattle.params_text.proofs.Expressions.{own_plain, own_name}

-- `_` is among these bytes
abbrev has_line : List ℕ → Bool
has_line [] = false
has_line (c ∷ cs) = nat_eq c 95 || has_line cs

or_true : (b : Bool) → b || true ≡ true
or_true true = refl
or_true false = refl

line_there : (name ds : List ℕ) → has_line (name ++ 95 ∷ ds) ≡ true
line_there [] ds = refl
line_there (c ∷ cs) ds = ap (λ b. nat_eq c 95 || b) (line_there cs ds) ∙ or_true (nat_eq c 95)

-- a name with `_` is none of words without it
other_word : (b : Bool) (n w : List ℕ) → bytes_eq n w ≡ b → has_line n ≡ true → has_line w ≡ false → bytes_eq n w ≡ false
other_word false n w e h g = e
other_word true n w e h g =
    let same : n ≡ w = (bytes_eq-Decides n w).0 e in
    absurd (true≢false (sym h ∙ ap has_line same ∙ g))

none_of : (n : List ℕ) (ws : List (List ℕ)) → has_line n ≡ true → list_all (λ w. not (has_line w)) ws ≡ true → list_any (λ word. bytes_eq n word) ws ≡ false
none_of n [] h g = refl
none_of n (w ∷ ws) h g =
    let p = and_parts (not (has_line w)) (list_all (λ w. not (has_line w)) ws) g in
    ap (λ b. b || list_any (λ word. bytes_eq n word) ws) (other_word (bytes_eq n w) n w refl h (not-true (has_line w) p.0)) ∙ none_of n ws h p.1

no_at : ℕ → Bool
no_at c = not (c == 64)

digits_no_at : (n : ℕ) → n < 2 ^ 64 → list_all (λ c. not (c == 64)) (decimal n) ≡ true
digits_no_at n lt = decimal_by_steps (λ k ds. list_all (λ c. not (c == 64)) ds ≡ true)
    (λ k small. and_from (not ((48 + k) == 64)) true (one k small) refl)
    (λ k ds le e. list_all-append (λ c. not (c == 64)) ds ((48 + k % 10) ∷ [])
    ∙ and_from (list_all (λ c. not (c == 64)) ds) _ e (and_from (not ((48 + k % 10) == 64)) true (one (k % 10) (mod_below k 10 (omega arith))) refl))
    n lt
  where
    one : (d : ℕ) → d < 10 → not ((48 + d) == 64) ≡ true
    one d lt = grind (arith, lt)

keywords_plain : list_all (λ w. not (has_line w)) keywords ≡ true
keywords_plain = refl

instance_plain : (name : List ℕ) (k : ℕ) → IsOwnName name → length name ≤ 32 → k < 10000 → is_plain (instance_name name k) ≡ true
unfolding is_plain
instance_plain name k h short lt =
    let tail : List ℕ = 95 ∷ decimal k in
    let l = length-decimal-le 4 k (omega arith) lt (omega (arith, lt)) in
    let a = length-append name tail in
    let p = and_parts (is_short 40 name) (list_all (λ c. not (c == 64)) name && not (list_any (λ word. bytes_eq name word) keywords)) (own_plain name h) in
    let q = and_parts (list_all (λ c. not (c == 64)) name) (not (list_any (λ word. bytes_eq name word) keywords)) p.1 in
    and_from (is_short 40 (name ++ tail)) _ (le-leb (length (name ++ tail)) 40 (omega (arith, a, l, short)))
    (and_from (list_all (λ c. not (c == 64)) (name ++ tail)) _
    (list_all-append (λ c. not (c == 64)) name tail
    ∙ and_from (list_all (λ c. not (c == 64)) name) (list_all (λ c. not (c == 64)) tail) q.0 (digits_no_at k (omega (arith, lt))))
    (ap not (none_of (name ++ tail) keywords (line_there name (decimal k)) keywords_plain)))

instance_named : (name : List ℕ) (k : ℕ) → is_name name ≡ true → length name ≤ 32 → k < 10000 → is_name (instance_name name k) ≡ true
unfolding is_word is_letter is_digit
instance_named [] k h short lt = absurd (cc h)
instance_named (b ∷ bs) k h short lt =
    let tail : List ℕ = 95 ∷ decimal k in
    let l = length-decimal-le 4 k (omega arith) lt (omega (arith, lt)) in
    let a = length-append bs tail in
    let p = and_parts (is_letter b) (list_all is_word bs && nat_le (length bs) 63) h in
    let q = and_parts (list_all is_word bs) (nat_le (length bs) 63) p.1 in
    and_from (is_letter b) _ p.0
    (and_from (list_all is_word (bs ++ tail)) _
    (list_all-append is_word bs tail ∙ and_from (list_all is_word bs) (list_all is_word tail) q.0 (decimal_goes k (omega (arith, lt))))
    (le-leb (length (bs ++ tail)) 63 (omega (arith, a, l, short))))

-- the name of an instance of a short name that a program may give is one too
pub instance_own : (name : List ℕ) (k : ℕ) → IsOwnName name → length name ≤ 32 → k < 10000 → IsOwnName (instance_name name k)
instance_own name k h short lt =
    and_from (is_plain (instance_name name k)) (is_name (instance_name name k)) (instance_plain name k h short lt)
    (instance_named name k (own_name name h) short lt)
