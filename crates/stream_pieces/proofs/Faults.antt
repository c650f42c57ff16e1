-- The fault of the first piece that has one is the whole file's.
use Rattle.std.proofs.Common.{◌≡◌, ℕ, ◌+◌, ◌-◌, ◌*◌, ◌≤◌, false, List, [], ◌∷◌, ◌++◌, length, take, drop, refl, sym, ap, ◌∙◌, subst, arith}
use Rattle.std.proofs.Common.{append_assoc, length-append, length-take-le, take-append-drop, take-take, mul-le-mul_right}
use Rattle.std.proofs.lemmas.List.{append-nil}
use Rattle.std.specs.Prelude.{None}
use Rattle.csv_streams.specs.Records.{csv_records}
use Rattle.csv_streams.specs.Rows.{headers, most_rows}
use Rattle.csv_streams.specs.Faults.{IsFirstFault, IsFaultOf}
use Rattle.csv_streams.specs.declared.fault.InFault.{InFault}
use Rattle.csv_streams.specs.declared.fault.InFault.TheVariants as fault
use Rattle.csv_cuts.specs.Faults.{IsOfRecord, HaveRows, moved}
use Rattle.csv_cuts.proofs.Faulty.{moved-first}
use Rattle.stream_periods.specs.Periods.{Period}
use Rattle.stream_periods.specs.Pieces.{AreLong}
use Rattle.stream_pieces.specs.Files.{Records, AreSlices, begins_at, StreamFaultIsTheWholes}
use Rattle.stream_pieces.proofs.Files.{Rows, Write, taken_write, both_write}

of_record : (n : ℕ) (f : InFault) → IsOfRecord f → IsOfRecord (moved n f)
of_record n (fault.Width r) o = o
of_record n (fault.NotNumber r k) o = o
of_record n (fault.NegativeTime r) o = o
of_record n (fault.Backwards r) o = o
of_record n fault.TooMany o = o
of_record n fault.NoMemory o = o

moved_twice : (m n : ℕ) (f : InFault) → moved m (moved n f) ≡ moved (m + n) f
moved_twice m n (fault.Width r) = let e : m + (n + r) ≡ m + n + r = omega arith in ap (λ (k : ℕ). fault.Width k) e
moved_twice m n (fault.NotNumber r k) = let e : m + (n + r) ≡ m + n + r = omega arith in ap (λ (i : ℕ). fault.NotNumber i k) e
moved_twice m n (fault.NegativeTime r) = let e : m + (n + r) ≡ m + n + r = omega arith in ap (λ (k : ℕ). fault.NegativeTime k) e
moved_twice m n (fault.Backwards r) = let e : m + (n + r) ≡ m + n + r = omega arith in ap (λ (k : ℕ). fault.Backwards k) e
moved_twice m n fault.TooMany = refl
moved_twice m n fault.NoMemory = refl

-- the first record of these that writes no row has the fault; they are numbered from h + 1 on
record FaultAt (recs : Records) (h : ℕ) (f : InFault) : Type 0 where
  read : Records
  fields : List (List ℕ)
  others : Records
  rows : Rows
  parts : recs ≡ read ++ fields ∷ others
  written : Write read rows
  faulty : IsFirstFault 1 false None (h + 1 + length read) (h + 1 + length read) fields f

-- a piece stands at the front of the records
at_front : (x : List ℕ) (recs rest : Records) (h : ℕ) (f : InFault) → csv_records x ++ rest ≡ recs → IsOfRecord f → IsFaultOf x 1 false false f
    → FaultAt recs h (moved h f)
at_front x recs rest h f e o g =
    let rec = h + 1 + length g.read in
    record {
      read = g.read;
      fields = g.fields;
      others = g.others ++ rest;
      rows = g.rows;
      parts = sym e ∙ ap (λ l. l ++ rest) g.parts ∙ append_assoc g.read (g.fields ∷ g.others) rest;
      written = g.written;
      faulty = moved-first 1 false g.fields (headers false + most_rows) (headers false + 1 + length g.read) rec rec h (omega arith) (omega arith) f o g.faulty;
    }

-- so many records stand before
behind : (recs : Records) (m h : ℕ) (f : InFault) (rows : Rows) → m ≤ length recs → Write (take m recs) rows → IsOfRecord f → FaultAt (drop m recs) h f
    → FaultAt recs h (moved m f)
behind recs m h f rows le written o g =
    let front = take m recs in
    let rec = h + 1 + length (front ++ g.read) in
    let many = length-append front g.read in
    let long = length-take-le m recs le in
    record {
      read = front ++ g.read;
      fields = g.fields;
      others = g.others;
      rows = rows ++ g.rows;
      parts = sym (take-append-drop m recs) ∙ ap (λ l. front ++ l) g.parts ∙ sym (append_assoc front g.read (g.fields ∷ g.others));
      written = both_write front g.read rows g.rows written g.written;
      faulty = moved-first 1 false g.fields (h + 1 + length g.read) (h + 1 + length g.read) rec rec m (omega arith) (omega (arith, many, long)) f o g.faulty;
    }

faulty_slices : (p : Period) (early : ℕ) (ks : List ℕ) (recs : Records) (before : List (List ℕ)) (piece : List ℕ) (after : List (List ℕ)) (h : ℕ) (f : InFault)
    → AreSlices p early ks recs (before ++ piece ∷ after) → AreLong p early ks recs → HaveRows 1 false false before → IsFaultOf piece 1 false false f
    → IsOfRecord f → FaultAt recs h (moved (h + begins_at p early ks (length before)) f)
faulty_slices p early [] recs [] piece [] h f slices long rows g o =
    subst (λ n. FaultAt recs h (moved n f)) (let e : h ≡ h + 0 = omega arith in e) (at_front piece recs [] h f (append-nil (csv_records piece) ∙ slices) o g)
faulty_slices p early [] recs [] piece (y ∷ ys) h f slices long rows g o = absurd slices
faulty_slices p early (k ∷ ks) recs [] piece after h f slices long rows g o =
    let n = k * p.takes + p.reach in
    subst (λ n. FaultAt recs h (moved n f)) (let e : h ≡ h + 0 = omega arith in e)
    (at_front piece recs (drop n recs) h f (ap (λ l. l ++ drop n recs) slices.0 ∙ take-append-drop n recs) o g)
faulty_slices p early [] recs (b ∷ []) piece after h f slices long rows g o = absurd slices
faulty_slices p early [] recs (b ∷ c ∷ cs) piece after h f slices long rows g o = absurd slices
faulty_slices p early (k ∷ ks) recs (b ∷ bs) piece after h f slices long rows g o =
    let m = (k - early) * p.takes in
    let n = k * p.takes + p.reach in
    let less = mul-le-mul_right p.takes (let e : k - early ≤ k = omega arith in e) in
    let l = long.1 in
    let x = h + begins_at p early ks (length bs) in
    let later = faulty_slices p early ks (drop m recs) bs piece after h f slices.1 long.2 rows.2 g o in
    let here : Write (take n recs) rows.0 = subst (λ r. Write r rows.0) slices.0 rows.1 in
    let front : Write (take m recs) (take m rows.0) =
    subst (λ r. Write r (take m rows.0)) (take-take m n recs (omega (arith, less))) (taken_write m (take n recs) rows.0 here) in
    subst (FaultAt recs h)
    (moved_twice m x f ∙ ap (λ q. moved q f) (let e : m + x ≡ h + (m + begins_at p early ks (length bs)) = omega arith in e))
    (behind recs m h (moved x f) (take m rows.0) (omega (arith, l, less)) front (of_record x f o) later)

-- the law: records are numbered from the first one of the file on
pub stream_fault_is_the_wholes : StreamFaultIsTheWholes
stream_fault_is_the_wholes bytes skip p early ks before piece after f slices long rows g o =
    let a = faulty_slices p early ks (drop (headers skip) (csv_records bytes)) before piece after (headers skip) f slices long rows g o in
    record { read = a.read; fields = a.fields; others = a.others; rows = a.rows; parts = a.parts; written = a.written; faulty = a.faulty }
