-- What is kept of the texts of pieces is the text of the whole.
use Rattle.std.proofs.Common.{◌≡◌, ℕ, suc, ◌<◌, ◌≤◌, ◌==◌, ℤ, pos, negsuc, Bool, true, false, List, [], ◌∷◌, ◌++◌, refl, sym, ap, ◌∙◌, arith, cond, map, append_assoc}
use Rattle.std.specs.Prelude.{All, int_le, filter}
use Rattle.std.specs.Fmt.{decimal, signed_decimal}
use Rattle.std.specs.List.{AllByRecursion}
use Rattle.std.proofs.lemmas.Bool.{ne_eqb}
use Rattle.std.proofs.lemmas.Fmt.{digits_decimal, digits_value-decimal}
use Rattle.std.proofs.lemmas.List.{append-nil}
use Rattle.std.proofs.lemmas.List.Elements.{All-head, All-tail}
use Rattle.river_base.specs.Instants.{Timed, instants, item_at, spread}
use Rattle.river_base.specs.Name.{is_digit}
use Rattle.river_base.specs.Number.{IsValue}
use Rattle.river_base.specs.Row.{in_order}
use Rattle.river_base.specs.declared.item.Item as item
use Rattle.river_plan.specs.Forms.{Name}
use Rattle.csv_streams.specs.Number.{digits_of, value_after}
use Rattle.csv_streams.specs.Outcome.{more_values, row_line, item_text, texts_of, under_name, outputs_text}
use Rattle.csv_streams.specs.Writing.{AllDigits}
use Rattle.csv_streams.proofs.PrintedRead.{numerals}
use Rattle.cql_text.specs.Tree.{Program}
use Rattle.cql_model.specs.Meaning.{answers}
use Rattle.cql_model.specs.Instants.{program_means}
use Rattle.cql_pieces.specs.Piece.{File, within, cut_files}
use Rattle.cql_pieces.specs.Whole.{Part, cuts_of, taken, part_gives, one_behind, nothing_for, parts_give}
use Rattle.cql_pieces.specs.Text.{line_time, kept_line, kept_from, kept, sections, part_texts, texts_behind, no_texts, parts_texts, AreValues}
use Rattle.table_texts.specs.Split.{under_names}
use Rattle.cql_pieces.specs.Text.{IsPrinted, TextsGiveTheWhole}
use Rattle.cql_pieces.proofs.Whole.{pieces_give_the_whole}

-- A LINE

-- no line feed
abbrev Free : List ℕ → Type 0
Free xs = AllByRecursion (λ c. (c == 10) ≡ false) xs

free_append : (xs ys : List ℕ) → Free xs → Free ys → Free (xs ++ ys)
free_append [] ys h g = g
free_append (x ∷ xs) ys h g = (h.0, free_append xs ys h.1 g)

high : (c : ℕ) → 44 ≤ c → (c == 10) ≡ false
high c h = ne_eqb c 10 (λ e. absurd (omega (arith, h, e)))

free_digits : (ds : List ℕ) → AllDigits ds → Free ds
free_digits [] h = tt
free_digits (d ∷ ds) h = let low = h.0 in (high d (omega (arith, low)), free_digits ds h.2)

free_value : (z : ℤ) → IsValue z → Free (signed_decimal z)
free_value (pos n) h = free_digits (decimal n) (digits_decimal numerals n (omega (arith, h)))
free_value (negsuc n) h = (high 45 (omega arith), free_digits (decimal (suc n)) (digits_decimal numerals (suc n) (omega (arith, h))))

free_more : (row : List ℤ) → All IsValue row → Free (more_values row)
free_more [] h = tt
free_more (z ∷ row) h =
    (high 44 (omega arith), free_append (signed_decimal z) (more_values row) (free_value z (All-head IsValue z row h)) (free_more row (All-tail IsValue z row h)))

-- a line at the front is kept or not
line_kept : (first upto : ℤ) (line xs rest : List ℕ) → Free xs
    → kept_from first upto line (xs ++ (10 ∷ rest)) ≡ kept_line first upto ((line ++ xs) ++ 10 ∷ []) ++ kept_from first upto [] rest
line_kept first upto line [] rest h = ap (λ l. kept_line first upto (l ++ 10 ∷ []) ++ kept_from first upto [] rest) (sym (append-nil line))
line_kept first upto line (x ∷ xs) rest h =
    ap (λ b. cond b (kept_line first upto (line ++ x ∷ []) ++ kept_from first upto [] (xs ++ (10 ∷ rest))) (kept_from first upto (line ++ x ∷ []) (xs ++ (10 ∷ rest)))) h.0
    ∙ line_kept first upto (line ++ x ∷ []) xs rest h.1
    ∙ ap (λ l. kept_line first upto (l ++ 10 ∷ []) ++ kept_from first upto [] rest) (append_assoc line (x ∷ []) xs)

-- ITS TIME

digit : (d : ℕ) → 48 ≤ d → d < 58 → is_digit d ≡ true
unfolding is_digit
digit d h g = grind (arith, h, g)

Stops : List ℕ → Type 0
Stops xs = digits_of xs ≡ []

front_digits : (ds rest : List ℕ) → AllDigits ds → Stops rest → digits_of (ds ++ rest) ≡ ds
unfolding Stops
front_digits [] rest h g = g
front_digits (d ∷ ds) rest h g =
    let low = h.0 in
    let high = h.1 in
    ap (λ b. cond b (d ∷ digits_of (ds ++ rest)) []) (digit d (omega (arith, low)) (omega (arith, high))) ∙ ap (λ l. d ∷ l) (front_digits ds rest h.2 g)

more_stops : (row : List ℤ) → digits_of (more_values row ++ 10 ∷ []) ≡ []
unfolding is_digit
more_stops [] = refl
more_stops (z ∷ row) = refl

time_is : (n : ℕ) (row : List ℤ) → IsValue (pos n) → line_time (row_line (pos n ∷ row)) ≡ pos n
unfolding Stops
time_is n row h =
    ap (λ l. pos (value_after 0 (digits_of l))) (append_assoc (decimal n) (more_values row) (10 ∷ []))
    ∙ ap (λ l. pos (value_after 0 l)) (front_digits (decimal n) (more_values row ++ 10 ∷ []) (digits_decimal numerals n (omega (arith, h))) (more_stops row))
    ∙ ap pos (digits_value-decimal numerals n (omega (arith, h)))

row_kept : (first upto t : ℤ) (row : List ℤ) (rest : List ℕ) → int_le (pos 0) t ≡ true → All IsValue (t ∷ row)
    → kept first upto (row_line (t ∷ row) ++ rest) ≡ cond (within first upto t) (row_line (t ∷ row)) [] ++ kept first upto rest
row_kept first upto (negsuc n) row rest h v = absurd (below n h) where
  below : (n : ℕ) → int_le (pos 0) (negsuc n) ≡ true → ⊥
  below n k = grind (arith, k)
row_kept first upto (pos n) row rest h v =
    let here = All-head IsValue (pos n) row v in
    let free : Free (signed_decimal (pos n) ++ more_values row) =
    free_append (signed_decimal (pos n)) (more_values row) (free_value (pos n) here) (free_more row (All-tail IsValue (pos n) row v)) in
    ap (kept first upto) (append_assoc (signed_decimal (pos n) ++ more_values row) (10 ∷ []) rest)
    ∙ line_kept first upto [] (signed_decimal (pos n) ++ more_values row) rest free
    ∙ ap (λ t. cond (within first upto t) (row_line (pos n ∷ row)) [] ++ kept first upto rest) (time_is n row here)

-- ROWS, ITEMS AND QUERIES

rows_kept : (first upto t : ℤ) (rows : List (List ℤ)) (rest : List ℕ) → int_le (pos 0) t ≡ true
    → AllByRecursion (λ row. All IsValue row) (map (λ row. t ∷ row) rows)
    → kept first upto (texts_of row_line (map (λ row. t ∷ row) rows) ++ rest)
    ≡ cond (within first upto t) (texts_of row_line (map (λ row. t ∷ row) rows)) [] ++ kept first upto rest
rows_kept first upto t [] rest h v = none (within first upto t) where
  none : (b : Bool) → kept first upto rest ≡ cond b [] [] ++ kept first upto rest
  none true = refl
  none false = refl
rows_kept first upto t (row ∷ rows) rest h v =
    let more = texts_of row_line (map (λ row. t ∷ row) rows) in
    ap (kept first upto) (append_assoc (row_line (t ∷ row)) more rest)
    ∙ row_kept first upto t row (more ++ rest) h v.0
    ∙ ap (λ l. cond (within first upto t) (row_line (t ∷ row)) [] ++ l) (rows_kept first upto t rows rest h v.1)
    ∙ two (within first upto t) (row_line (t ∷ row)) more (kept first upto rest) where
      two : (b : Bool) (xs ys zs : List ℕ) → cond b xs [] ++ (cond b ys [] ++ zs) ≡ cond b (xs ++ ys) [] ++ zs
      two true xs ys zs = sym (append_assoc xs ys zs)
      two false xs ys zs = refl

items_kept : (first upto : ℤ) (ts : List ℤ) (s : Timed) → AllByRecursion (λ t. int_le (pos 0) t ≡ true) ts → AreValues (spread ts s)
    → kept first upto (texts_of item_text (spread ts s)) ≡ texts_of item_text (spread (filter (within first upto) ts) s)
items_kept first upto [] s h v = refl
items_kept first upto (t ∷ ts) s h v =
    rows_kept first upto t (in_order (s t)) (texts_of item_text (spread ts s)) h.0 v.0
    ∙ ap (λ l. cond (within first upto t) (item_text (item_at t (s t))) [] ++ l) (items_kept first upto ts s h.1 v.1)
    ∙ put (within first upto t) where
      put : (b : Bool) → cond b (item_text (item_at t (s t))) [] ++ texts_of item_text (spread (filter (within first upto) ts) s)
          ≡ texts_of item_text (spread (cond b (t ∷ filter (within first upto) ts) (filter (within first upto) ts)) s)
      put true = refl
      put false = refl

each_kept : (first upto : ℤ) (ts : List ℤ) (ss : List Timed) → AllByRecursion (λ t. int_le (pos 0) t ≡ true) ts → AllByRecursion AreValues (map (spread ts) ss)
    → map (kept first upto) (sections (map (spread ts) ss)) ≡ sections (map (taken first upto ts) ss)
each_kept first upto ts [] h v = refl
each_kept first upto ts (s ∷ ss) h v =
    ap (λ l. l ∷ map (kept first upto) (sections (map (spread ts) ss))) (items_kept first upto ts s h v.0)
    ∙ ap (λ l. texts_of item_text (taken first upto ts s) ∷ l) (each_kept first upto ts ss h v.1)

part_text : (p : Program) (files : List File) (part : Part) → IsPrinted p files part → part_texts p files part ≡ sections (part_gives p files part)
part_text p files part h =
    let piece = cut_files part.upto (cuts_of part files) in
    each_kept part.first part.upto (instants piece) (answers (instants piece) [] p piece) h.times h.values

-- ONE BEHIND ANOTHER

texts_of-append : (xs ys : List item.Item) → texts_of item_text (xs ++ ys) ≡ texts_of item_text xs ++ texts_of item_text ys
texts_of-append [] ys = refl
texts_of-append (x ∷ xs) ys = ap (λ l. item_text x ++ l) (texts_of-append xs ys) ∙ sym (append_assoc (item_text x) (texts_of item_text xs) (texts_of item_text ys))

behind_is : (xs ys : List (List item.Item)) → texts_behind (sections xs) (sections ys) ≡ sections (one_behind xs ys)
behind_is [] ys = refl
behind_is (x ∷ xs) [] = refl
behind_is (x ∷ xs) (y ∷ ys) =
    ap (λ l. l ∷ texts_behind (sections xs) (sections ys)) (sym (texts_of-append x y)) ∙ ap (λ l. texts_of item_text (x ++ y) ∷ l) (behind_is xs ys)

nothing_is : (ss : List Timed) → no_texts ss ≡ sections (nothing_for ss)
nothing_is [] = refl
nothing_is (s ∷ ss) = ap (λ l. [] ∷ l) (nothing_is ss)

parts_text : (p : Program) (files : List File) (parts : List Part) → AllByRecursion (IsPrinted p files) parts → parts_texts p files parts ≡ sections (parts_give p files parts)
parts_text p files [] h = nothing_is (answers (instants files) [] p files)
parts_text p files (part ∷ parts) h =
    ap (λ l. texts_behind l (parts_texts p files parts)) (part_text p files part h.0)
    ∙ ap (texts_behind (sections (part_gives p files part))) (parts_text p files parts h.1)
    ∙ behind_is (part_gives p files part) (parts_give p files parts)

named_is : (names : List Name) (outs : List (List item.Item)) → under_names names (sections outs) ≡ outputs_text names outs
named_is [] outs = refl
named_is (name ∷ names) [] = refl
named_is (name ∷ names) (o ∷ outs) = ap (λ l. under_name name (texts_of item_text o) ++ l) (named_is names outs)

-- the law
pub texts_give_the_whole : TextsGiveTheWhole
texts_give_the_whole names p files t parts all f r h =
    ap (under_names names) (parts_text p files parts h ∙ ap sections (pieces_give_the_whole p files t parts all f r)) ∙ named_is names (program_means p files)
