-- What the lexer passes over is separators and comments.
use Rattle.std.proofs.Math.Numerals.{one-add}
use Rattle.std.proofs.Common.{◌≡◌, inl, inr, ℕ, suc, ◌+◌, Bool, true, false, cond, List, [], ◌∷◌, ◌++◌, length, take, drop, refl, sym, ap}
use Rattle.std.proofs.Common.{◌∙◌, arith}
use Rattle.std.specs.Prelude.{Option, Some, None, ◌==◌, ◌&&◌, ◌||◌, if◌then◌else◌, nat_lt}
use Rattle.std.specs.List.{prefix_len, list_all}
use Rattle.std.proofs.lemmas.Bool.{eqb-true}
use Rattle.std.proofs.Math.Seq.{take-append-add}
use Rattle.text_tokens.specs.Symbols.{short_symbol, long_symbol}
use Rattle.text_tokens.specs.declared.sign.Symbol.{Symbol}
use Rattle.text_tokens.specs.Lexis.{Piece, blank, token, bad, big, piece_at, first_is, begins_with, is_blank, is_letter, is_digit, is_in_line, block_end}
use Rattle.text_tokens.specs.Lexis.{block_piece, var_piece, number_piece, most, symbol_piece, short_piece, long_piece}
use Rattle.text_tokens.specs.Laws.{IsPassedOver}

-- the blank of a piece is a separator or a comment
abbrev pub Passed : List ℕ → Piece → Type 0
Passed s (blank len) = IsPassedOver (take len s) (drop len s)
Passed s (token t len) = Unit {0}
Passed s bad = Unit {0}
Passed s big = Unit {0}

choose : (s : List ℕ) (b : Bool) (p q : Piece) → (b ≡ true → Passed s p) → (b ≡ false → Passed s q) → Passed s (if b then p else q)
choose s true p q f g = f refl
choose s false p q f g = g refl

-- ---- A SEPARATOR

separator : (s : List ℕ) → first_is is_blank s ≡ true → Passed s (blank 1)
unfolding first_is
separator [] h = cc
separator (c ∷ cs) h = inl (c, refl, h)

-- ---- A COMMENT UP TO THE END OF ITS LINE

-- the front that passes a test passes it
pub front-all : (p : ℕ → Bool) (s : List ℕ) → list_all p (take (prefix_len p s) s) ≡ true
front-all p [] = refl
front-all p (c ∷ cs) = by (p c) refl (front-all p cs) where
  by : (b : Bool) → p c ≡ b → list_all p (take (prefix_len p cs) cs) ≡ true → list_all p (take (cond b (1 + prefix_len p cs) 0) (c ∷ cs)) ≡ true
  by true is more = rw (one-add (prefix_len p cs)) (rw is more)
  by false is more = refl

front-ends : (p : ℕ → Bool) (s : List ℕ) → first_is p (drop (prefix_len p s) s) ≡ false
unfolding first_is
front-ends p [] = refl
front-ends p (c ∷ cs) = by (p c) refl (front-ends p cs) where
  by : (b : Bool) → p c ≡ b → first_is p (drop (prefix_len p cs) cs) ≡ false → first_is p (drop (cond b (1 + prefix_len p cs) 0) (c ∷ cs)) ≡ false
  by true is more = rw (one-add (prefix_len p cs)) more
  by false is more = is

-- the front of a line has the bytes with which its comment begins
hash_front : (s : List ℕ) → begins_with 35 s ≡ true → begins_with 35 (take (prefix_len is_in_line s) s) ≡ true
unfolding begins_with is_in_line
hash_front [] h = cc
hash_front (c ∷ cs) h =
    let is : c ≡ 35 = eqb-true c 35 h in
    rw is (kept (prefix_len (λ (d : ℕ). not_feed d) cs))
  where
    not_feed : ℕ → Bool
    not_feed d = is_in_line d

    kept : (n : ℕ) → begins_with 35 (take (1 + n) (35 ∷ cs)) ≡ true
    kept n = let one : 1 + n ≡ suc n = omega arith in rw one refl

slash_front : (s : List ℕ) → begins_with 47 s && begins_with 47 (drop 1 s) ≡ true
    → begins_with 47 (take (prefix_len is_in_line s) s) && begins_with 47 (drop 1 (take (prefix_len is_in_line s) s)) ≡ true
unfolding begins_with is_in_line
slash_front [] h = cc
slash_front (c ∷ []) h = absurd (never (c == 47) h) where
  never : (b : Bool) → b && false ≡ true → ⊥
  never true e = cc
  never false e = cc
slash_front (c ∷ d ∷ ds) h =
    let is : c ≡ 47 = eqb-true c 47 (both (c == 47) (d == 47) h).0 in
    let next : d ≡ 47 = eqb-true d 47 (both (c == 47) (d == 47) h).1 in
    rw (is, next) (kept (prefix_len is_in_line ds))
  where
    both : (a b : Bool) → a && b ≡ true → (a ≡ true) × (b ≡ true)
    both true b e = (refl, e)
    both false b e = cc

    kept : (n : ℕ) → begins_with 47 (take (1 + (1 + n)) (47 ∷ 47 ∷ ds)) && begins_with 47 (drop 1 (take (1 + (1 + n)) (47 ∷ 47 ∷ ds))) ≡ true
    kept n = let two : 1 + (1 + n) ≡ suc (suc n) = omega arith in rw two refl

or_right : (a b : Bool) → b ≡ true → a || b ≡ true
or_right true b e = refl
or_right false b e = e

or_left : (a b : Bool) → a ≡ true → a || b ≡ true
or_left true b e = refl
or_left false b e = cc

line : (s : List ℕ)
    → (begins_with 35 (take (prefix_len is_in_line s) s) || begins_with 47 (take (prefix_len is_in_line s) s) && begins_with 47
    (drop 1 (take (prefix_len is_in_line s) s))) ≡ true
    → Passed s (blank (prefix_len is_in_line s))
line s h = inr (inl (record { begins = h; in_line = front-all is_in_line s; ends = front-ends is_in_line s }))

-- ---- A COMMENT UP TO ITS END

-- what is inside, up to the first */
record Closed (s : List ℕ) (n m : ℕ) : Type 0 where
  inside : List ℕ
  rest : List ℕ
  is : s ≡ inside ++ 42 ∷ 47 ∷ rest
  first : (before after : List ℕ) → inside ++ 42 ∷ [] ≡ before ++ 42 ∷ 47 ∷ after → ⊥
  len : m ≡ n + length inside + 2

slash_first : (cs : List ℕ) → begins_with 47 cs ≡ true → cs ≡ 47 ∷ drop 1 cs
unfolding begins_with
slash_first [] h = cc
slash_first (c ∷ cs) h = ap (λ (k : ℕ). k ∷ cs) (eqb-true c 47 h)

short : (before after : List ℕ) → ◌≡◌ {A = List ℕ} (42 ∷ []) (before ++ 42 ∷ 47 ∷ after) → ⊥
short [] after g = cc
short (b ∷ []) after g = cc
short (b ∷ d ∷ bs) after g = cc

slash_next : (cs inside rest after : List ℕ) → cs ≡ inside ++ 42 ∷ 47 ∷ rest → inside ++ 42 ∷ [] ≡ 47 ∷ after → begins_with 47 cs ≡ true
unfolding begins_with
slash_next cs [] rest after is g = cc
slash_next cs (d ∷ ds) rest after is g = let same : d ≡ 47 = cc in rw (is, same) refl

closed : (n : ℕ) (s : List ℕ) (m : ℕ) → block_end n s ≡ Some m → Closed s n m
unfolding block_end
closed n [] m e = cc
closed n (c ∷ cs) m e = by (c == 42) (begins_with 47 cs) refl refl e (λ f. closed (n + 1) cs m f) where
  here : c == 42 ≡ true → begins_with 47 cs ≡ true → Some (n + 2) ≡ Some m → Closed (c ∷ cs) n m
  here star slash f = record {
    inside = [];
    rest = drop 1 cs;
    is = ap (λ (k : ℕ). k ∷ cs) (eqb-true c 42 star) ∙ ap (λ (l : List ℕ). 42 ∷ l) (slash_first cs slash);
    first = λ before after g. short before after g;
    len = same f;
  }
    where
      same : Some (n + 2) ≡ Some m → m ≡ n + 0 + 2
      same f = let is : n + 2 ≡ m = cc in omega arith

  later : (c == 42 ≡ true → begins_with 47 cs ≡ true → ⊥) → Closed cs (n + 1) m → Closed (c ∷ cs) n m
  later not k = record {
    inside = c ∷ k.inside;
    rest = k.rest;
    is = ap (λ (l : List ℕ). c ∷ l) k.is;
    first = apart;
    len = omega (arith, k.len);
  }
    where
      star : (b : ℕ) → b ≡ 42 → b == 42 ≡ true
      star b is = rw is refl

      apart : (before after : List ℕ) → c ∷ (k.inside ++ 42 ∷ []) ≡ before ++ 42 ∷ 47 ∷ after → ⊥
      apart [] after g =
          let head : c ≡ 42 = cc in let tail : k.inside ++ 42 ∷ [] ≡ 47 ∷ after = cc in not (star c head) (slash_next cs k.inside k.rest after k.is tail)
      apart (d ∷ ds) after g = let tail : k.inside ++ 42 ∷ [] ≡ ds ++ 42 ∷ 47 ∷ after = cc in k.first ds after tail

  by : (a b : Bool) → c == 42 ≡ a → begins_with 47 cs ≡ b → (if a && b then Some (n + 2) else block_end (n + 1) cs) ≡ Some m
      → (block_end (n + 1) cs ≡ Some m → Closed cs (n + 1) m) → Closed (c ∷ cs) n m
  by true true is also f more = here is also f
  by true false is also f more = later (λ x y. none (sym also ∙ y)) (more f) where
    none : false ≡ true → ⊥
    none g = cc
  by false b is also f more = later (λ x y. none (sym is ∙ x)) (more f) where
    none : false ≡ true → ⊥
    none g = cc

slash_star : (s : List ℕ) → begins_with 47 s && begins_with 42 (drop 1 s) ≡ true → s ≡ 47 ∷ 42 ∷ drop 2 s
unfolding begins_with
slash_star [] h = cc
slash_star (c ∷ []) h = absurd (never (c == 47) h) where
  never : (b : Bool) → b && false ≡ true → ⊥
  never true e = cc
  never false e = cc
slash_star (c ∷ d ∷ ds) h =
    let is : c ≡ 47 = eqb-true c 47 (both (c == 47) (d == 42) h).0 in
    let next : d ≡ 42 = eqb-true d 42 (both (c == 47) (d == 42) h).1 in
    rw (is, next) refl
  where
    both : (a b : Bool) → a && b ≡ true → (a ≡ true) × (b ≡ true)
    both true b e = (refl, e)
    both false b e = cc

take-inside : (inside rest : List ℕ) → take (length inside + 2) (inside ++ 42 ∷ 47 ∷ rest) ≡ inside ++ 42 ∷ 47 ∷ []
take-inside inside rest = take-append-add inside (42 ∷ 47 ∷ rest) 2

block : (s : List ℕ) → begins_with 47 s && begins_with 42 (drop 1 s) ≡ true → Passed s (block_piece (block_end 2 (drop 2 s)))
block s h = by (block_end 2 (drop 2 s)) refl where
  by : (o : Option ℕ) → block_end 2 (drop 2 s) ≡ o → Passed s (block_piece o)
  by None e = tt
  by (Some m) e =
      let k = closed 2 (drop 2 s) m e in
      let whole : s ≡ 47 ∷ 42 ∷ (k.inside ++ 42 ∷ 47 ∷ k.rest) = slash_star s h ∙ ap (λ (l : List ℕ). 47 ∷ 42 ∷ l) k.is in
      let size : m ≡ suc (suc (length k.inside + 2)) = omega (arith, k.len) in
      inr (inr (record {
        inside = k.inside;
        is =
            ap (λ (l : List ℕ). take m l) whole ∙ ap (λ (n : ℕ). take n (47 ∷ 42 ∷ (k.inside ++ 42 ∷ 47 ∷ k.rest))) size
            ∙ ap (λ (l : List ℕ). 47 ∷ 42 ∷ l) (take-inside k.inside k.rest);
        first = k.first;
      }))

-- ---- THE PIECE

var_passed : (s t : List ℕ) → Passed s (var_piece t)
unfolding var_piece
var_passed s t = choose s (first_is is_letter t) _ _ (λ _. tt) (λ _. tt)

number_passed : (s : List ℕ) (value len : ℕ) → Passed s (number_piece value len)
unfolding number_piece
number_passed s value len = choose s (nat_lt most value) big _ (λ _. tt) (λ _. tt)

short_passed : (s : List ℕ) (o : Option Symbol) → Passed s (short_piece o)
short_passed s None = tt
short_passed s (Some x) = tt

long_passed : (s : List ℕ) (c : ℕ) (o : Option Symbol) → Passed s (long_piece c o)
long_passed s c None = short_passed s (short_symbol c)
long_passed s c (Some x) = tt

symbol_passed : (s t : List ℕ) → Passed s (symbol_piece t)
unfolding symbol_piece
symbol_passed s [] = tt
symbol_passed s (c ∷ []) = short_passed s (short_symbol c)
symbol_passed s (c ∷ d ∷ ds) = long_passed s c (long_symbol c d)

-- what the lexer passes over
pub piece-passed : (s : List ℕ) → Passed s (piece_at s)
unfolding piece_at
piece-passed s =
    choose s (first_is is_blank s) _ _ (λ h. separator s h) (λ _.
    choose s (begins_with 35 s) _ _ (λ h. line s (or_left _ _ (hash_front s h))) (λ _.
    choose s (begins_with 47 s && begins_with 47 (drop 1 s)) _ _ (λ h. line s (or_right _ _ (slash_front s h))) (λ _.
    choose s (begins_with 47 s && begins_with 42 (drop 1 s)) _ _ (λ h. block s h) (λ _.
    choose s (first_is is_letter s) _ _ (λ _. tt) (λ _.
    choose s (begins_with 36 s) _ _ (λ _. var_passed s (drop 1 s)) (λ _.
    choose s (first_is is_digit s) _ _ (λ _. number_passed s _ (prefix_len is_digit s)) (λ _.
    symbol_passed s s)))))))
