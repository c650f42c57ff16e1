-- What runs print of the values of their outputs, line by line, and how the texts of pieces are put together: by the numbers of lines.
use Rattle.std.specs.Prelude.{◌≡◌, ℕ, zero, suc, ℤ, ◌*◌, nat_eq, if◌then◌else◌, List, [], ◌∷◌, ◌++◌, map, codes}
use Rattle.std.specs.Fmt.{signed_decimal}
use Rattle.csv_streams.specs.Outcome.{texts_of, output_text}
use Rattle.streamit_model.specs.Meaning.{Works}
use Rattle.streamit_model.specs.Laws.{as_items}
use Rattle.stream_periods.specs.Periods.{Period}
use Rattle.stream_periods.specs.Pieces.{put_together}

-- a value on a line
abbrev pub value_line : ℤ → List ℕ
value_line x = signed_decimal x ++ codes "\n"

-- what is printed of the values of the output
abbrev pub printed_values : List ℤ → List ℕ
printed_values xs = codes "# out\n" ++ texts_of value_line xs

-- it is what a run prints of an output of single values
abbrev pub PrintedValues : Type 0
PrintedValues = (xs : List ℤ) → output_text (codes "out") (as_items xs) ≡ printed_values xs

-- BY LINES

-- the first n lines
abbrev pub first_lines : ℕ → List ℕ → List ℕ
first_lines zero cs = []
first_lines (suc n) [] = []
first_lines (suc n) (c ∷ cs) = c ∷ (if nat_eq c 10 then first_lines n cs else first_lines (suc n) cs)

-- all but the first line
abbrev pub behind_line : List ℕ → List ℕ
behind_line [] = []
behind_line (c ∷ cs) = if nat_eq c 10 then cs else behind_line cs

-- all but the first n lines
abbrev pub lines_behind : ℕ → List ℕ → List ℕ
lines_behind zero cs = cs
lines_behind (suc n) [] = []
lines_behind (suc n) (c ∷ cs) = if nat_eq c 10 then lines_behind n cs else lines_behind (suc n) cs

-- of each text, behind its first line, as many lines as its periods give, without those that are let go; of the last one all others
abbrev pub lines_of_pieces : Period → ℕ → ℕ → List ℕ → List (List ℕ) → List ℕ
lines_of_pieces p early let_go ks [] = []
lines_of_pieces p early let_go [] (t ∷ ts) = lines_behind let_go (behind_line t) ++ lines_of_pieces p early 0 [] ts
lines_of_pieces p early let_go (k ∷ ks) (t ∷ ts) = lines_behind let_go (first_lines (k * p.gives) (behind_line t)) ++ lines_of_pieces p early (early * p.gives) ks ts

abbrev pub text_of_pieces : Period → ℕ → List ℕ → List (List ℕ) → List ℕ
text_of_pieces p early ks texts = codes "# out\n" ++ lines_of_pieces p early 0 ks texts

-- So put together, what is printed of what f gives for the pieces is what is printed of what it gives for them, put together.
abbrev pub TextsInPieces : Type 0
TextsInPieces =
    (p : Period) (early : ℕ) (ks : List ℕ) (f : Works) (pieces : List (List ℤ))
    → text_of_pieces p early ks (map (λ piece. printed_values (f piece)) pieces) ≡ printed_values (put_together p early ks (map f pieces))
