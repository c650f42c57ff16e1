-- Texts of values, line by line.
use Rattle.std.proofs.Common.{◌≡◌, ◌≢◌, ℕ, zero, suc, ℤ, pos, negsuc, ◌+◌, ◌*◌, ◌/◌, ◌%◌, ◌≤◌, ◌==◌, Bool, true, false, nat_lt, List, [], ◌∷◌, ◌++◌, map, take, flat_map, refl}
use Rattle.std.proofs.Common.{sym, ap, ◌∙◌, arith, append_assoc, drop}
use Rattle.std.specs.Prelude.{if◌then◌else◌, codes}
use Rattle.std.specs.Fmt.{signed_decimal, decimal, digits, digits_onto, digit_glyph}
use Rattle.std.proofs.lemmas.List.{append-nil}
use Rattle.river_base.proofs.PlaceLemmas.{if_eq, if_ne}
use Rattle.csv_streams.specs.Outcome.{texts_of, item_text}
use Rattle.streamit_model.specs.Laws.{as_items}
use Rattle.stream_periods.specs.Periods.{Period}
use Rattle.stream_periods.specs.Pieces.{fronts}
use Rattle.stream_periods.specs.Texts.{PrintedValues, TextsInPieces, first_lines, lines_behind, lines_of_pieces, printed_values, value_line}

-- NUMBERS HAVE NO LINE FEED

abbrev IsHigh : List ℕ → Type 0
IsHigh [] = Unit {0}
IsHigh (c ∷ cs) = (45 ≤ c) × IsHigh cs

glyph_high : (d : ℕ) → 45 ≤ digit_glyph false d
glyph_high d = go (nat_lt d 10)
  where
    go : (b : Bool) → 45 ≤ (if b then 48 + d else 87 + d)
    go true = omega arith
    go false = omega arith

onto_high : (k n : ℕ) (acc : List ℕ) → IsHigh acc → IsHigh (digits_onto k 10 false n acc)
onto_high zero n acc h = h
onto_high (suc k) n acc h =
    go (n / 10 == 0) (glyph_high (n % 10), h) (onto_high k (n / 10) (digit_glyph false (n % 10) ∷ acc) (glyph_high (n % 10), h))
  where
    go : (b : Bool) → IsHigh (digit_glyph false (n % 10) ∷ acc) → IsHigh (digits_onto k 10 false (n / 10) (digit_glyph false (n % 10) ∷ acc))
        → IsHigh (if b then digit_glyph false (n % 10) ∷ acc else digits_onto k 10 false (n / 10) (digit_glyph false (n % 10) ∷ acc))
    go true p q = p
    go false p q = q

decimal_high : (n : ℕ) → IsHigh (decimal n)
unfolding digits
decimal_high n = onto_high 64 n [] tt

value_high : (x : ℤ) → IsHigh (signed_decimal x)
value_high (pos n) = decimal_high n
value_high (negsuc n) = (omega arith, decimal_high (suc n))

-- LINES

front_line : (n : ℕ) (l rest : List ℕ) → IsHigh l → first_lines (suc n) (l ++ 10 ∷ rest) ≡ l ++ 10 ∷ first_lines n rest
front_line n [] rest h = ap (λ t. 10 ∷ t) (if_eq 10 10 (first_lines n rest) (first_lines (suc n) rest) refl)
front_line n (c ∷ l) rest h =
    let ne : c ≢ 10 = λ e. (let a = h.0 in omega (arith, a, e)) in
    ap (λ t. c ∷ t) (if_ne c 10 (first_lines n (l ++ 10 ∷ rest)) (first_lines (suc n) (l ++ 10 ∷ rest)) ne ∙ front_line n l rest h.1)

lines_are : (n : ℕ) (xs : List ℤ) → first_lines n (texts_of value_line xs) ≡ texts_of value_line (take n xs)
lines_are zero xs = refl
lines_are (suc n) [] = refl
lines_are (suc n) (x ∷ xs) =
    ap (first_lines (suc n)) (append_assoc (signed_decimal x) (10 ∷ []) (texts_of value_line xs))
    ∙ front_line n (signed_decimal x) (texts_of value_line xs) (value_high x)
    ∙ ap (λ t. signed_decimal x ++ 10 ∷ t) (lines_are n xs)
    ∙ sym (append_assoc (signed_decimal x) (10 ∷ []) (texts_of value_line (take n xs)))

texts-append : (xs ys : List ℤ) → texts_of value_line (xs ++ ys) ≡ texts_of value_line xs ++ texts_of value_line ys
texts-append [] ys = refl
texts-append (x ∷ xs) ys =
    ap (λ t. value_line x ++ t) (texts-append xs ys) ∙ sym (append_assoc (value_line x) (texts_of value_line xs) (texts_of value_line ys))

line_let_go : (n : ℕ) (l rest : List ℕ) → IsHigh l → lines_behind (suc n) (l ++ 10 ∷ rest) ≡ lines_behind n rest
line_let_go n [] rest h = if_eq 10 10 (lines_behind n rest) (lines_behind (suc n) rest) refl
line_let_go n (c ∷ l) rest h =
    let ne : c ≢ 10 = λ e. (let a = h.0 in omega (arith, a, e)) in
    if_ne c 10 (lines_behind n (l ++ 10 ∷ rest)) (lines_behind (suc n) (l ++ 10 ∷ rest)) ne ∙ line_let_go n l rest h.1

lines_let_go : (n : ℕ) (xs : List ℤ) → lines_behind n (texts_of value_line xs) ≡ texts_of value_line (drop n xs)
lines_let_go zero xs = refl
lines_let_go (suc n) [] = refl
lines_let_go (suc n) (x ∷ xs) =
    ap (lines_behind (suc n)) (append_assoc (signed_decimal x) (10 ∷ []) (texts_of value_line xs))
    ∙ line_let_go n (signed_decimal x) (texts_of value_line xs) (value_high x)
    ∙ lines_let_go n xs

all_kept : (p : Period) (early : ℕ) (os : List (List ℤ)) → fronts p early 0 [] os ≡ os
all_kept p early [] = refl
all_kept p early (q ∷ qs) = refl

lines_put : (p : Period) (early let_go : ℕ) (ks : List ℕ) (outs : List (List ℤ))
    → lines_of_pieces p early let_go ks (map printed_values outs) ≡ texts_of value_line (flat_map (λ o. o) (fronts p early let_go ks outs))
lines_put p early let_go ks [] = refl
lines_put p early let_go [] (o ∷ os) =
    ap (λ t. t ++ lines_of_pieces p early 0 [] (map printed_values os)) (lines_let_go let_go o)
    ∙ ap (λ t. texts_of value_line (drop let_go o) ++ t)
    (lines_put p early 0 [] os ∙ ap (λ l. texts_of value_line (flat_map (λ q. q) l)) (all_kept p early os))
    ∙ sym (texts-append (drop let_go o) (flat_map (λ q. q) os))
lines_put p early let_go (k ∷ ks) (o ∷ os) =
    ap (λ t. t ++ lines_of_pieces p early (early * p.gives) ks (map printed_values os))
    (ap (lines_behind let_go) (lines_are (k * p.gives) o) ∙ lines_let_go let_go (take (k * p.gives) o))
    ∙ ap (λ t. texts_of value_line (drop let_go (take (k * p.gives) o)) ++ t) (lines_put p early (early * p.gives) ks os)
    ∙ sym (texts-append (drop let_go (take (k * p.gives) o)) (flat_map (λ q. q) (fronts p early (early * p.gives) ks os)))

-- WHAT IS PRINTED

items_text : (xs : List ℤ) → texts_of item_text (as_items xs) ≡ texts_of value_line xs
items_text [] = refl
items_text (x ∷ xs) =
    let line : ((signed_decimal x ++ []) ++ 10 ∷ []) ++ [] ≡ signed_decimal x ++ 10 ∷ [] =
    append-nil ((signed_decimal x ++ []) ++ 10 ∷ []) ∙ ap (λ l. l ++ 10 ∷ []) (append-nil (signed_decimal x)) in
    ap (λ l. l ++ texts_of item_text (as_items xs)) line ∙ ap (λ t. value_line x ++ t) (items_text xs)

-- a run prints of an output of single values a line for each
pub printed_values_are : PrintedValues
printed_values_are xs = ap (λ t. codes "# out\n" ++ t) (items_text xs)

map_map : {A B C : Type 0} (f : B → C) (g : A → B) (xs : List A) → map (λ x. f (g x)) xs ≡ map f (map g xs)
map_map f g [] = refl
map_map f g (x ∷ xs) = ap (λ l. f (g x) ∷ l) (map_map f g xs)

-- whatever is printed for pieces
pub texts_in_pieces : TextsInPieces
texts_in_pieces p early ks f pieces =
    ap (λ t. codes "# out\n" ++ lines_of_pieces p early 0 ks t) (map_map printed_values f pieces)
    ∙ ap (λ t. codes "# out\n" ++ t) (lines_put p early 0 ks (map f pieces))
