-- Rows as texts: what is read of a text, and what is printed of rows.
use Rattle.std.proofs.Common.{◌≡◌, ℕ, zero, suc, ◌<◌, ◌≤◌, ℤ, pos, neg_ℤ, Bool, false, List, [], ◌∷◌, ◌++◌, refl, sym, ap, ◌∙◌, subst, arith, append_assoc, inl, inr}
use Rattle.std.specs.Prelude.{All, ◌^◌}
use Rattle.std.proofs.lemmas.List.Elements.{All-head, All-tail, All-cons, All-nil}
use Rattle.river_base.specs.Number.{IsValue}
use Rattle.kern_tables.specs.declared.kind.TableKind.{TableKind}
use Rattle.kern_tables.specs.declared.kind.TableKind.TheVariants.{Sum, Collection, Maximum}
use Rattle.kern_tables.specs.Pieces.{AreRowsFor}
use Rattle.kern_tables.specs.Tables.{table_width}
use Rattle.csv_streams.specs.Outcome.{row_line, texts_of}
use Rattle.csv_streams.specs.Writing.{IsSigned, Writes}
use Rattle.csv_streams.specs.Written.{AllWrite, WriteRows}
use Rattle.csv_streams.proofs.PrintedRead.{records_are, rows_written}
use Rattle.piece_merge.specs.Added.{SectionWrites}
use Rattle.river_pieces.specs.Whole.{AreValues}

-- VALUES

neg-value : (n : ℕ) → n ≤ 2 ^ 63 → IsValue (neg_ℤ (pos n))
neg-value zero h = grind (arith, h)
neg-value (suc n) h = grind (arith, h)

pos-value : (n : ℕ) → n < 2 ^ 63 → IsValue (pos n)
pos-value n h = grind (arith, h)

signed-value : (sign : List ℕ) (n : ℕ) (z : ℤ) → IsSigned sign n z → IsValue z
signed-value sign n z (inl h) = subst IsValue (sym h.2) (neg-value n h.1)
signed-value sign n z (inr h) = subst IsValue (sym h.2) (pos-value n h.1)

wrote-value : (f : List ℕ) (z : ℤ) → Writes f z → IsValue z
wrote-value f z h = signed-value h.sign _ z h.value

wrote-row : (fs : List (List ℕ)) (row : List ℤ) → AllWrite fs row → All IsValue row
wrote-row [] [] h = All-nil IsValue
wrote-row [] (x ∷ xs) h = absurd h
wrote-row (f ∷ fs) [] h = absurd h
wrote-row (f ∷ fs) (x ∷ xs) h = All-cons IsValue x xs (wrote-value f x h.0) (wrote-row fs xs h.1)

-- a row of values
abbrev pub IsValuedRow : List ℤ → Type 0
IsValuedRow row = All IsValue row

-- rows that are written are rows of values
pub wrote-rows : (w : ℕ) (more : Bool) (recs : List (List (List ℕ))) (rows : List (List ℤ)) → WriteRows w more recs rows → AreValues rows
wrote-rows w more [] [] h = All-nil IsValuedRow
wrote-rows w more [] (x ∷ xs) h = absurd h
wrote-rows w more (r ∷ rs) [] h = absurd h
wrote-rows w more (r ∷ rs) (x ∷ xs) h = All-cons IsValuedRow x xs (wrote-row _ x h.0.1) (wrote-rows w more rs xs h.1)

-- ALL OF TWO LISTS

-- what all elements of each list have, those of both have
pub all-append : {A : Type 0} (P : A → Type 0) (xs ys : List A) → All P xs → All P ys → All P (xs ++ ys)
all-append P [] ys h g = g
all-append P (x ∷ xs) ys h g = All-cons P x (xs ++ ys) (All-head P x xs h) (all-append P xs ys (All-tail P x xs h) g)

-- LINES

-- the rows as they are printed
abbrev pub lines : List (List ℤ) → List ℕ
lines rows = texts_of row_line rows

-- the lines of two lists stand behind each other
pub lines-append : (xs ys : List (List ℤ)) → lines (xs ++ ys) ≡ lines xs ++ lines ys
lines-append [] ys = refl
lines-append (x ∷ xs) ys = ap (λ (l : List ℕ). row_line x ++ l) (lines-append xs ys) ∙ sym (append_assoc (row_line x) (lines xs) (lines ys))

-- PRINTED ROWS

some-width : (kind : TableKind) → 0 < table_width kind
some-width (Sum keys) = omega arith
some-width (Collection keys) = omega arith
some-width (Maximum best keys) = omega arith

-- rows that are printed are read
pub printed-read : (kind : TableKind) (rows : List (List ℤ)) → AreRowsFor kind rows → AreValues rows → SectionWrites kind (lines rows) rows
printed-read kind rows wide valued =
    subst (λ (recs : List (List (List ℕ))). WriteRows (table_width kind) false recs rows) (sym (records_are (table_width kind) rows (some-width kind) wide valued))
    (rows_written (table_width kind) false rows wide valued)
