-- The lines of a piece, row by row.
use Rattle.std.proofs.Common.{◌≡◌, ℤ, Bool, true, false, List, [], ◌∷◌, ◌++◌, refl, sym, ap, ◌∙◌, cond}
use Rattle.std.proofs.lemmas.List.{append-nil}
use Rattle.csv_streams.specs.Outcome.{row_line}
use Rattle.cql_pieces.specs.Files.{file_text}
use Rattle.cql_pieces.specs.Piece.{File, within, cut_file}

-- the first row, and then the others
pub entry_first : (lo hi : ℤ) (e : ℤ × List ℤ) (es : File) → file_text (cut_file lo hi (e ∷ es)) ≡ file_text (cut_file lo hi (e ∷ [])) ++ file_text (cut_file lo hi es)
entry_first lo hi e es = go (within lo hi e.0) where
  go : (b : Bool) → file_text (cond b (e ∷ cut_file lo hi es) (cut_file lo hi es)) ≡ file_text (cond b (e ∷ []) []) ++ file_text (cut_file lo hi es)
  go true = ap (λ l. l ++ file_text (cut_file lo hi es)) (sym (append-nil (row_line (e.0 ∷ e.1))))
  go false = refl

-- one row that is in the piece, and one that is not
pub entry_in : (lo hi at : ℤ) (row : List ℤ) → within lo hi at ≡ true → file_text (cut_file lo hi ((at, row) ∷ [])) ≡ row_line (at ∷ row)
entry_in lo hi at row h = ap (λ b. file_text (cond b ((at, row) ∷ []) [])) h ∙ append-nil (row_line (at ∷ row))

-- a row outside the stretch writes nothing
pub entry_out : (lo hi at : ℤ) (row : List ℤ) → within lo hi at ≡ false → file_text (cut_file lo hi ((at, row) ∷ [])) ≡ []
entry_out lo hi at row h = ap (λ b. file_text (cond b ((at, row) ∷ []) [])) h
