-- The fault of a piece is that of the whole.
use Rattle.std.proofs.Common.{◌≡◌, ℕ, ◌+◌, ◌<◌, ◌≤◌, Bool, false, List, [], ◌∷◌, ◌++◌, length, drop, refl, sym, ap, ◌∙◌, subst, arith, append_assoc}
use Rattle.std.specs.Prelude.{ℤ, None, Result, Ok, Err}
use Rattle.std.proofs.lemmas.List.{drop-append-le, length-append, length-drop}
use Rattle.csv_streams.specs.Faults.{HasFault, rank, IsFirstFault, IsFaultOf}
use Rattle.csv_streams.specs.Numbered.{numbered_results}
use Rattle.csv_streams.specs.Records.{csv_records}
use Rattle.csv_streams.specs.Rows.{row_in, headers, most_rows}
use Rattle.csv_streams.specs.Written.{WriteRows}
use Rattle.csv_streams.specs.declared.fault.InFault.{InFault}
use Rattle.csv_streams.specs.declared.fault.InFault.TheVariants as fault
use Rattle.csv_streams.proofs.Faulty.{fault_row}
use Rattle.csv_streams.proofs.FilePieces.{records_in_pieces}
use Rattle.csv_streams.proofs.Numbered.{numbered-fault}
use Rattle.csv_streams.proofs.WrittenRows.{rows_written}
use Rattle.csv_cuts.specs.Cut.{IsCutBefore, AreCut}
use Rattle.csv_cuts.specs.Faults.{IsFaultOfAll, FaultsWithinTheLimit, OneFaultOfAll, FaultOrRows, IsOfRecord, moved, records_of, FaultsInPieces}

-- A RECORD AT ANOTHER PLACE

module _ (w : ℕ) (more : Bool) (fields : List (List ℕ)) (last rec last' rec' n : ℕ) (le : rec' ≤ last') where
  -- what comes before a fault there comes before it here
  back : (f : InFault) → ((g : InFault) → rank g < rank f → HasFault w more None last rec fields g → ⊥)
      → (g : InFault) → rank g < rank f → HasFault w more None last' rec' fields g → ⊥
  back f first fault.TooMany l h = absurd (omega (arith, le, h))
  back f first (fault.Width r) l h = first (fault.Width rec) l (refl, h.1)
  back f first (fault.NotNumber r k) l h = first (fault.NotNumber rec k) l (refl, h.1)
  back f first (fault.NegativeTime r) l h = absurd h.1
  back f first (fault.Backwards r) l h = absurd h.1
  back f first fault.NoMemory l h = absurd h

  -- the first fault of a record that stands behind so many more
  pub moved-first : rec' ≡ n + rec → (f : InFault) → IsOfRecord f → IsFirstFault w more None last rec fields f
      → IsFirstFault w more None last' rec' fields (moved n f)
  moved-first e (fault.Width r) o h =
      record { has = (ap (λ (k : ℕ). n + k) h.has.0 ∙ sym e, h.has.1); first = back (fault.Width r) h.first }
  moved-first e (fault.NotNumber r k) o h =
      record { has = (ap (λ (m : ℕ). n + m) h.has.0 ∙ sym e, h.has.1); first = back (fault.NotNumber r k) h.first }
  moved-first e (fault.NegativeTime r) o h = absurd h.has.1
  moved-first e (fault.Backwards r) o h = absurd h.has.1
  moved-first e fault.TooMany o h = absurd o
  moved-first e fault.NoMemory o h = absurd o

-- the first fault of a record is the same with another last record
kept-first : (w : ℕ) (more : Bool) (fields : List (List ℕ)) (last last' rec : ℕ) → rec ≤ last → rec ≤ last' → (f : InFault)
    → IsFirstFault w more None last rec fields f → IsFirstFault w more None last' rec fields f
kept-first w more fields last last' rec le le' fault.TooMany h = absurd (let late = h.has in omega (arith, le, late))
kept-first w more fields last last' rec le le' (fault.Width r) h = record { has = h.has; first = back w more fields last rec last' rec 0 le' (fault.Width r) h.first }
kept-first w more fields last last' rec le le' (fault.NotNumber r k) h =
    record { has = h.has; first = back w more fields last rec last' rec 0 le' (fault.NotNumber r k) h.first }
kept-first w more fields last last' rec le le' (fault.NegativeTime r) h = absurd h.has.1
kept-first w more fields last last' rec le le' (fault.Backwards r) h = absurd h.has.1
kept-first w more fields last last' rec le le' fault.NoMemory h = absurd h.has

-- ONE FAULT

-- as many rows as records that write them
pub as-many : (w : ℕ) (more : Bool) (recs : List (List (List ℕ))) (rows : List (List ℤ)) → WriteRows w more recs rows → length rows ≡ length recs
as-many w more [] [] h = refl
as-many w more [] (x ∷ xs) h = absurd h
as-many w more (r ∷ rs) [] h = absurd h
as-many w more (r ∷ rs) (x ∷ xs) h = omega (arith, as-many w more rs xs h.1)

-- the rows of a file, up to this record, or its fault
abbrev read-to : List ℕ → ℕ → Bool → Bool → ℕ → Result (List (List ℤ)) InFault
read-to bytes w skip more last = numbered_results (row_in w more last) (headers skip + 1) (drop (headers skip) (csv_records bytes))

-- the fault is told, however many records are read, from the faulty one on
told-all : (bytes : List ℕ) (w : ℕ) (skip more : Bool) (f : InFault) (last : ℕ) (h : IsFaultOfAll bytes w skip more f)
    → headers skip + 1 + length h.read ≤ last → read-to bytes w skip more last ≡ Err f
told-all bytes w skip more f last h le =
    let many = as-many w more h.read h.rows h.written in
    let rec = headers skip + 1 + length h.read in
    ap (numbered_results (row_in w more last) (headers skip + 1)) h.parts
    ∙ numbered-fault (row_in w more last) (headers skip + 1) rec h.read h.fields h.others h.rows f
    (rows_written w more last (headers skip + 1) h.read h.rows h.written (omega (arith, many, le))) refl
    (fault_row w more last rec h.fields f (kept-first w more h.fields rec last rec (omega arith) le f h.faulty))

fault-same : (r : Result (List (List ℤ)) InFault) (f g : InFault) → r ≡ Err f → r ≡ Err g → f ≡ g
fault-same r f g e h = cc

fault-or-rows : (r : Result (List (List ℤ)) InFault) (f : InFault) (rows : List (List ℤ)) → r ≡ Err f → r ≡ Ok rows → ⊥
fault-or-rows (Ok x) f rows e h = cc e
fault-or-rows (Err x) f rows e h = cc h

-- a file has one fault at most, however many records it has
pub one_fault_of_all : OneFaultOfAll
one_fault_of_all bytes w skip more f g h k =
    let last = headers skip + 1 + length h.read + (headers skip + 1 + length k.read) in
    fault-same (read-to bytes w skip more last) f g (told-all bytes w skip more f last h (omega arith)) (told-all bytes w skip more g last k (omega arith))

-- and where it has one, its records do not all write rows
pub fault_or_rows : FaultOrRows
fault_or_rows bytes w skip more f rows h written =
    let last = headers skip + 1 + length h.read + length rows in
    fault-or-rows (read-to bytes w skip more last) f rows (told-all bytes w skip more f last h (omega arith))
    (rows_written w more last (headers skip + 1) (drop (headers skip) (csv_records bytes)) rows written (omega arith))

-- Within the limit on records it is told.
pub faults_within_the_limit : FaultsWithinTheLimit
faults_within_the_limit bytes w skip more f h few =
    let left = length-drop (headers skip) (csv_records bytes) in
    let all = ap length h.parts in
    let front = length-append h.read (h.fields ∷ h.others) in
    told-all bytes w skip more f (headers skip + most_rows) h (omega (arith, few, left, all, front))

-- PIECES

-- what two lists of records write, both write
pub both-write : (w : ℕ) (more : Bool) (rs ss : List (List (List ℕ))) (first second : List (List ℤ)) → WriteRows w more rs first → WriteRows w more ss second
    → WriteRows w more (rs ++ ss) (first ++ second)
both-write w more [] ss [] second a b = b
both-write w more [] ss (x ∷ xs) second a b = absurd a
both-write w more (r ∷ rs) ss [] second a b = absurd a
both-write w more (r ∷ rs) ss (x ∷ xs) second a b = (a.0, both-write w more rs ss xs second a.1 b)

-- the records of a file behind the first piece
records-cut : (bytes : List ℕ) (skip : Bool) (first rest : List ℕ) → IsCutBefore bytes skip first rest
    → drop (headers skip) (csv_records bytes) ≡ drop (headers skip) (csv_records first) ++ csv_records rest
records-cut bytes skip first rest c =
    ap (λ (b : List ℕ). drop (headers skip) (csv_records b)) c.is
    ∙ ap (drop (headers skip)) (records_in_pieces first rest c.ends c.unmarked)
    ∙ drop-append-le (headers skip) (csv_records first) (csv_records rest) c.header

of-record : (n : ℕ) (f : InFault) → IsOfRecord f → IsOfRecord (moved n f)
of-record n (fault.Width r) o = o
of-record n (fault.NotNumber r k) o = o
of-record n (fault.NegativeTime r) o = o
of-record n (fault.Backwards r) o = o
of-record n fault.TooMany o = o
of-record n fault.NoMemory o = o

moved-twice : (m n : ℕ) (f : InFault) → moved m (moved n f) ≡ moved (m + n) f
moved-twice m n (fault.Width r) = let e : m + (n + r) ≡ m + n + r = omega arith in ap (λ (k : ℕ). fault.Width k) e
moved-twice m n (fault.NotNumber r k) = let e : m + (n + r) ≡ m + n + r = omega arith in ap (λ (i : ℕ). fault.NotNumber i k) e
moved-twice m n (fault.NegativeTime r) = let e : m + (n + r) ≡ m + n + r = omega arith in ap (λ (k : ℕ). fault.NegativeTime k) e
moved-twice m n (fault.Backwards r) = let e : m + (n + r) ≡ m + n + r = omega arith in ap (λ (k : ℕ). fault.Backwards k) e
moved-twice m n fault.TooMany = refl
moved-twice m n fault.NoMemory = refl

-- a piece that has rows alone stands before the file with the fault
behind-rows : (bytes : List ℕ) (w : ℕ) (skip more : Bool) (first rest : List ℕ) (rows : List (List ℤ)) (f : InFault) → IsCutBefore bytes skip first rest
    → WriteRows w more (drop (headers skip) (csv_records first)) rows → IsOfRecord f → IsFaultOfAll rest w false more f
    → IsFaultOfAll bytes w skip more (moved (length (csv_records first)) f)
behind-rows bytes w skip more first rest rows f c written o h =
    let front = drop (headers skip) (csv_records first) in
    let rec = headers skip + 1 + length (front ++ h.read) in
    let many = length-append front h.read in
    let short = length-drop (headers skip) (csv_records first) in
    let header = c.header in
    let at : rec ≡ length (csv_records first) + (headers false + 1 + length h.read) = omega (arith, many, short, header) in
    record {
      read = front ++ h.read;
      fields = h.fields;
      others = h.others;
      rows = rows ++ h.rows;
      parts =
          records-cut bytes skip first rest c ∙ ap (λ (l : List (List (List ℕ))). front ++ l) h.parts
          ∙ sym (append_assoc front h.read (h.fields ∷ h.others));
      written = both-write w more front h.read rows h.rows written h.written;
      faulty =
          moved-first w more h.fields (headers false + 1 + length h.read) (headers false + 1 + length h.read) rec rec (length (csv_records first))
          (omega arith) at f o h.faulty;
    }

-- a file has the fault, however many records it may have
alone : (bytes : List ℕ) (w : ℕ) (skip more : Bool) (f : InFault) → IsOfRecord f → IsFaultOf bytes w skip more f → IsFaultOfAll bytes w skip more (moved 0 f)
alone bytes w skip more f o h =
    let rec = headers skip + 1 + length h.read in
    record {
      read = h.read;
      fields = h.fields;
      others = h.others;
      rows = h.rows;
      parts = h.parts;
      written = h.written;
      faulty = moved-first w more h.fields _ rec rec rec 0 (omega arith) (omega arith) f o h.faulty;
    }

-- it stands before other pieces
before-rest : (bytes : List ℕ) (w : ℕ) (skip more : Bool) (first rest : List ℕ) (f : InFault) → IsCutBefore bytes skip first rest
    → IsFaultOfAll first w skip more f → IsFaultOfAll bytes w skip more f
before-rest bytes w skip more first rest f c h = record {
  read = h.read;
  fields = h.fields;
  others = h.others ++ csv_records rest;
  rows = h.rows;
  parts =
      records-cut bytes skip first rest c ∙ ap (λ (l : List (List (List ℕ))). l ++ csv_records rest) h.parts
      ∙ append_assoc h.read (h.fields ∷ h.others) (csv_records rest);
  written = h.written;
  faulty = h.faulty;
}

first-piece : (bytes : List ℕ) (w : ℕ) (skip more : Bool) (piece : List ℕ) (after : List (List ℕ)) (f : InFault) → AreCut bytes skip (piece ∷ after)
    → IsFaultOf piece w skip more f → IsOfRecord f → IsFaultOfAll bytes w skip more (moved 0 f)
first-piece bytes w skip more piece [] f c h o = subst (λ (b : List ℕ). IsFaultOfAll b w skip more (moved 0 f)) c (alone piece w skip more f o h)
first-piece bytes w skip more piece (y ∷ ys) f c h o = before-rest bytes w skip more piece c.0 (moved 0 f) c.1 (alone piece w skip more f o h)

-- The fault of a piece behind pieces that have rows alone is that of the whole.
pub faults_in_pieces : FaultsInPieces
faults_in_pieces bytes w skip more [] piece after f c rows h o = first-piece bytes w skip more piece after f c h o
faults_in_pieces bytes w skip more (z ∷ []) piece after f c rows h o =
    let later = faults_in_pieces c.0 w false more [] piece after f c.2 tt h o in
    subst (IsFaultOfAll bytes w skip more) (moved-twice (length (csv_records z)) 0 f)
    (behind-rows bytes w skip more z c.0 rows.0 (moved 0 f) c.1 rows.1 (of-record 0 f o) later)
faults_in_pieces bytes w skip more (z ∷ y ∷ ys) piece after f c rows h o =
    let later = faults_in_pieces c.0 w false more (y ∷ ys) piece after f c.2 rows.2 h o in
    let n = records_of (y ∷ ys) in
    subst (IsFaultOfAll bytes w skip more) (moved-twice (length (csv_records z)) n f)
    (behind-rows bytes w skip more z c.0 rows.0 (moved n f) c.1 rows.1 (of-record n f o) later)
