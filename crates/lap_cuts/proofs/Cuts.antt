-- Pieces that overlap are cut off one by one.
use Rattle.std.proofs.Common.{◌≡◌, ℕ, ◌+◌, ◌-◌, ◌<◌, ◌≤◌, true, false, List, [], ◌∷◌, ◌++◌, length, take, drop, refl, sym, ap, ◌∙◌, subst, arith}
use Rattle.std.proofs.Common.{append_assoc}
use Rattle.std.proofs.Common.{take_at, drop_at, length-append}
use Rattle.std.specs.Prelude.{Option, None, Some, IfSome}
use Rattle.std.proofs.lemmas.List.{length-drop, drop-drop, take-append-drop, drop_all}
use Rattle.csv_streams.specs.Records.{csv_records}
use Rattle.csv_streams.proofs.FilePieces.{records_in_pieces}
use Rattle.csv_cuts.specs.Cut.{append_pieces}
use Rattle.csv_cuts.specs.Window.{CutsOff}
use Rattle.csv_cuts.proofs.Fronts.{taken-once, taken-twice}
use Rattle.csv_cuts.proofs.Marks.{counts_are_records}
use Rattle.csv_cuts.proofs.Windows.{unmarked-longer}
use Rattle.lap_cuts.specs.Laps.{IsFrontOf, IsLap, AreLaps, AreRecordLaps, LapsAreRecords, HeaderEnds, LapsInto, CutsLap, TookFrom, TookLaps}

-- RECORDS

records-of : (many : ℕ) (bytes front rest : List ℕ) → IsFrontOf many bytes front rest → csv_records bytes ≡ csv_records front ++ csv_records rest
records-of many bytes front rest f = ap csv_records f.is ∙ records_in_pieces front rest f.ends f.unmarked

-- the records of a front are the first ones
front-records : (many : ℕ) (bytes front rest : List ℕ) → IsFrontOf many bytes front rest
    → (csv_records front ≡ take many (csv_records bytes)) × (many ≤ length (csv_records bytes))
front-records many bytes front rest f =
    let all = records-of many bytes front rest f in (
      sym (ap (take many) all ∙ take_at (csv_records front) (csv_records rest) many f.records),
      (let n = ap length all in omega (arith, n, length-append (csv_records front) (csv_records rest), f.records)),
    )

-- those behind it are the others
pub rest-records : (many : ℕ) (bytes front rest : List ℕ) → IsFrontOf many bytes front rest → csv_records rest ≡ drop many (csv_records bytes)
rest-records many bytes front rest f =
    sym (ap (drop many) (records-of many bytes front rest f) ∙ drop_at (csv_records front) (csv_records rest) many f.records)

pub laps_are_records : LapsAreRecords
laps_are_records many step bytes [] h = absurd h
laps_are_records many step bytes (x ∷ []) h = ap csv_records h
laps_are_records many step bytes (x ∷ y ∷ ys) h =
    let lap = h.1 in
    let front = front-records many bytes x lap.rest lap.front in (
      front.0,
      front.1,
      subst (λ recs. AreRecordLaps many step recs (y ∷ ys)) (rest-records step bytes lap.passed h.0 lap.begins) (laps_are_records many step h.0 (y ∷ ys) h.2),
    )

-- PLACES

-- a place before which the bytes may be cut
pub off-rest : (bytes : List ℕ) (place many : ℕ) → CutsOff bytes place → length (csv_records (take place bytes)) ≡ many
    → IsFrontOf many bytes (take place bytes) (drop place bytes)
off-rest bytes place many c is = record {
  is = sym (take-append-drop place bytes);
  ends = c.ends;
  unmarked = c.unmarked;
  records = is;
}

-- and a window, whatever follows
pub off-window : (window more : List ℕ) (place many : ℕ) → CutsOff window place → place + 3 ≤ length window → length (csv_records (take place window)) ≡ many
    → IsFrontOf many (window ++ more) (take place window) (drop place window ++ more)
off-window window more place many c l is = record {
  is = ap (λ (xs : List ℕ). xs ++ more) (sym (take-append-drop place window)) ∙ append_assoc (take place window) (drop place window) more;
  ends = c.ends;
  unmarked = unmarked-longer (drop place window) more (omega (arith, l, length-drop place window)) c.unmarked;
  records = is;
}

-- PIECES

joins : (many step : ℕ) (bytes x next : List ℕ) (others : List (List ℕ)) → IsLap many step bytes x next → AreLaps many step next others
    → AreLaps many step bytes (x ∷ others)
joins many step bytes x next [] h others = absurd others
joins many step bytes x next (y ∷ ys) h others = (next, h, others)

-- one piece more is cut off
into-next : (many step : ℕ) (bytes : List ℕ) (pieces : List (List ℕ)) (left x next : List ℕ) → LapsInto many step bytes pieces left → IsLap many step left x next
    → LapsInto many step bytes (pieces ++ x ∷ []) next
into-next many step bytes pieces left x next cut one = λ others h.
    subst (AreLaps many step bytes) (sym (append_assoc pieces (x ∷ []) others)) (cut (x ∷ others) (joins many step left x next others one h))

-- several pieces more are cut off
pub into-more : (many step : ℕ) (bytes left next : List ℕ) (xs ys : List (List ℕ)) → LapsInto many step bytes xs left → LapsInto many step left ys next
    → LapsInto many step bytes (xs ++ ys) next
into-more many step bytes left next xs ys first second = λ others h.
    subst (AreLaps many step bytes) (sym (append_assoc xs ys others)) (first (ys ++ others) (second others h))

-- A WINDOW

pub front-first : (many step : ℕ) (window : List ℕ) (taken : Option (List (List ℕ))) → TookFrom many step window 0 taken taken
front-first many step window taken = record { within = omega arith; pieces = []; cut = λ more others h. h; took = taken-once taken }

pub front-next : (many step : ℕ) (window : List ℕ) (from end next : ℕ) (old before now : Option (List (List ℕ)))
    → from < next → next ≤ end → end + 3 ≤ length window
    → CutsLap many step (drop from window) (end - from) (next - from) → TookFrom many step window from old before
    → now ≡ append_pieces before (take (end - from) (drop from window) ∷ []) → TookFrom many step window next old now
front-next many step window from end next old before now l m w c front took = record {
  within = omega (arith, w, m);
  pieces = front.pieces ++ piece ∷ [];
  cut = λ more. into-next many step (window ++ more) front.pieces (drop from window ++ more) piece (drop next window ++ more) (front.cut more)
      (subst (λ (left : List ℕ). IsLap many step (drop from window ++ more) piece (left ++ more)) place (lap more));
  took = took ∙ ap (λ (o : Option (List (List ℕ))). append_pieces o (piece ∷ [])) front.took ∙ taken-twice old front.pieces (piece ∷ []);
} where
  piece : List ℕ
  piece = take (end - from) (drop from window)

  lap : (more : List ℕ) → IsLap many step (drop from window ++ more) piece (drop (next - from) (drop from window) ++ more)
  lap more = record {
    rest = drop (end - from) (drop from window) ++ more;
    front = off-window (drop from window) more (end - from) many c.ends (omega (arith, l, m, w, length-drop from window)) c.many_is;
    passed = take (next - from) (drop from window);
    begins = off-window (drop from window) more (next - from) step c.begins (omega (arith, l, m, w, length-drop from window)) c.step_is;
  }

  place : drop (next - from) (drop from window) ≡ drop next window
  place = drop-drop (next - from) from window ∙ ap (λ (k : ℕ). drop k window) (let e : from + (next - from) ≡ next = omega (arith, l) in e)

-- THE REST OF A FILE

-- the pieces of the bytes were taken so far, and these bytes are left
pub record LapsOff (many step : ℕ) (bytes left : List ℕ) (old new : Option (List (List ℕ))) : Type 0 where
  pub pieces : List (List ℕ)
  pub cut : LapsInto many step bytes pieces left
  pub took : new ≡ append_pieces old pieces

pub rest-first : (many step : ℕ) (rest : List ℕ) (taken : Option (List (List ℕ))) → LapsOff many step rest (drop 0 rest) taken taken
rest-first many step rest taken = record { pieces = []; cut = λ others h. h; took = taken-once taken }

pub rest-next : (many step : ℕ) (rest : List ℕ) (from end next : ℕ) (old before now : Option (List (List ℕ))) → from < next
    → CutsLap many step (drop from rest) (end - from) (next - from) → LapsOff many step rest (drop from rest) old before
    → now ≡ append_pieces before (take (end - from) (drop from rest) ∷ []) → LapsOff many step rest (drop next rest) old now
rest-next many step rest from end next old before now l c front took = record {
  pieces = front.pieces ++ piece ∷ [];
  cut = into-next many step rest front.pieces (drop from rest) piece (drop next rest) front.cut
      (subst (λ (left : List ℕ). IsLap many step (drop from rest) piece left) place lap);
  took = took ∙ ap (λ (o : Option (List (List ℕ))). append_pieces o (piece ∷ [])) front.took ∙ taken-twice old front.pieces (piece ∷ []);
} where
  piece : List ℕ
  piece = take (end - from) (drop from rest)

  lap : IsLap many step (drop from rest) piece (drop (next - from) (drop from rest))
  lap = record {
    rest = drop (end - from) (drop from rest);
    front = off-rest (drop from rest) (end - from) many c.ends c.many_is;
    passed = take (next - from) (drop from rest);
    begins = off-rest (drop from rest) (next - from) step c.begins c.step_is;
  }

  place : drop (next - from) (drop from rest) ≡ drop next rest
  place = drop-drop (next - from) from rest ∙ ap (λ (k : ℕ). drop k rest) (let e : from + (next - from) ≡ next = omega (arith, l) in e)

-- the last piece
pub rest-last : (many step : ℕ) (rest left : List ℕ) (old before now : Option (List (List ℕ))) → LapsOff many step rest left old before
    → now ≡ append_pieces before (left ∷ []) → TookLaps many step rest old now
rest-last many step rest left old before now front took = record {
  pieces = front.pieces ++ left ∷ [];
  laps = front.cut (left ∷ []) refl;
  took = took ∙ ap (λ (o : Option (List (List ℕ))). append_pieces o (left ∷ [])) front.took ∙ taken-twice old front.pieces (left ∷ []);
}

pub ruleset starts = (front-first, rest-first)

-- THE HEADER

none-at-all : {A : Type 0} (xs : List A) → length xs ≡ 0 → xs ≡ []
none-at-all [] e = refl
none-at-all (x ∷ xs) e = absurd (omega (arith, e))

-- the header alone is let go
pub header-alone : (bytes : List ℕ) → length (csv_records bytes) ≤ 1 → HeaderEnds false bytes (length bytes)
header-alone bytes l =
    ap csv_records (drop_all (length bytes) bytes (omega arith))
    ∙ none-at-all (csv_records []) (counts_are_records [])
    ∙ sym (drop_all 1 (csv_records bytes) l)

-- a header before others
pub header-all : (o : Option ℕ) (bytes : List ℕ) → IfSome o (λ place. CutsOff bytes place) → IfSome o (λ place. length (csv_records (take place bytes)) ≡ 1)
    → IfSome o (HeaderEnds false bytes)
header-all None bytes c is = tt
header-all (Some place) bytes c is = rest-records 1 bytes (take place bytes) (drop place bytes) (off-rest bytes place 1 c is)

pub header-front : (o : Option ℕ) (bytes : List ℕ) → 3 ≤ length bytes → IfSome o (λ place. place ≤ length bytes - 3) → IfSome o (λ place. CutsOff bytes place)
    → IfSome o (λ place. length (csv_records (take place bytes)) ≡ 1) → IfSome o (HeaderEnds true bytes)
header-front None bytes some within c is = tt
header-front (Some place) bytes some within c is = (omega (arith, some, within), c, is)

pub ruleset headers = (header-alone, header-all, header-front)
