-- Pieces are cut off one by one.
use Rattle.std.proofs.Common.{◌≡◌, ℕ, ◌+◌, ◌-◌, ◌<◌, ◌≤◌, Bool, true, false, List, [], ◌∷◌, ◌++◌, length, take, drop, refl, sym, ap, ◌∙◌, subst, arith, append_assoc}
use Rattle.std.specs.Prelude.{Option, None, Some}
use Rattle.std.proofs.lemmas.List.{append-nil, length-drop, drop-drop, take-append-drop}
use Rattle.csv_streams.specs.Records.{csv_records}
use Rattle.csv_streams.specs.Rows.{headers}
use Rattle.csv_cuts.specs.Cut.{IsCutBefore, AreCut, append_pieces, TookPieces}
use Rattle.csv_cuts.specs.Faults.{header_behind}
use Rattle.csv_cuts.specs.Window.{CutsOff, NoneUpTo, CutsInto, TookFrom, IsUncut}
use Rattle.csv_cuts.proofs.Windows.{unmarked-longer}

-- the pieces of the rest of a file were taken so far, and these bytes are left
pub record TookOff (bytes left : List ℕ) (old new : Option (List (List ℕ))) : Type 0 where
  pub pieces : List (List ℕ)
  pub cut : CutsInto bytes pieces left
  pub took : new ≡ append_pieces old pieces

-- WHAT WAS TAKEN

-- nothing
pub taken-once : (taken : Option (List (List ℕ))) → taken ≡ append_pieces taken []
taken-once None = refl
taken-once (Some all) = ap (λ (l : List (List ℕ)). Some l) (sym (append-nil all))

-- some pieces, and then others
pub taken-twice : (old : Option (List (List ℕ))) (xs ys : List (List ℕ)) → append_pieces (append_pieces old xs) ys ≡ append_pieces old (xs ++ ys)
taken-twice None xs ys = refl
taken-twice (Some all) xs ys = ap (λ (l : List (List ℕ)). Some l) (append_assoc all xs ys)

-- WHAT IS CUT OFF

-- one piece before others
joins : (bytes x rest : List ℕ) (header : Bool) (others : List (List ℕ)) → IsCutBefore bytes header x rest → AreCut rest false others → AreCut bytes header (x ∷ others)
joins bytes x rest header [] h others = absurd others
joins bytes x rest header (y ∷ ys) h others = (rest, h, others)

header-gone : (skip_first : Bool) (pieces : List (List ℕ)) (x : List ℕ) → header_behind skip_first (pieces ++ x ∷ []) ≡ false
header-gone skip_first [] x = refl
header-gone skip_first (y ∷ ys) x = refl

-- one piece more is cut off
pub into-next : (bytes : List ℕ) (pieces : List (List ℕ)) (left x rest : List ℕ) → CutsInto bytes pieces left → ((header : Bool) → IsCutBefore left header x rest)
    → CutsInto bytes (pieces ++ x ∷ []) rest
into-next bytes pieces left x rest cut one = λ skip_first others h.
    subst (AreCut bytes skip_first) (sym (append_assoc pieces (x ∷ []) others))
    (cut skip_first (x ∷ others) (joins left x rest (header_behind skip_first pieces) others (one (header_behind skip_first pieces))
    (subst (λ (f : Bool). AreCut rest f others) (header-gone skip_first pieces x) h)))

header-more : (skip_first : Bool) (xs ys : List (List ℕ)) → header_behind (header_behind skip_first xs) ys ≡ header_behind skip_first (xs ++ ys)
header-more skip_first [] ys = refl
header-more skip_first (x ∷ xs) [] = refl
header-more skip_first (x ∷ xs) (y ∷ ys) = refl

-- several pieces more are cut off
pub into-more : (bytes left rest : List ℕ) (xs ys : List (List ℕ)) → CutsInto bytes xs left → CutsInto left ys rest → CutsInto bytes (xs ++ ys) rest
into-more bytes left rest xs ys first second = λ skip_first others h.
    subst (AreCut bytes skip_first) (sym (append_assoc xs ys others))
    (first skip_first (ys ++ others) (second (header_behind skip_first xs) others
    (subst (λ (f : Bool). AreCut rest f others) (sym (header-more skip_first xs ys)) h)))

has-header : (header : Bool) (n : ℕ) → 0 < n → headers header ≤ n
has-header true n l = omega (arith, l)
has-header false n l = omega arith

-- a piece is cut off the rest of a file
off-rest : (bytes : List ℕ) (place : ℕ) → CutsOff bytes place → (header : Bool) → IsCutBefore bytes header (take place bytes) (drop place bytes)
off-rest bytes place c header = record {
  is = sym (take-append-drop place bytes);
  ends = c.ends;
  unmarked = c.unmarked;
  header = has-header header (length (csv_records (take place bytes))) c.some;
}

-- a piece is cut off a window, whatever follows
off-window : (window more : List ℕ) (place : ℕ) → CutsOff window place → place + 3 ≤ length window
    → (header : Bool) → IsCutBefore (window ++ more) header (take place window) (drop place window ++ more)
off-window window more place c l header = record {
  is = ap (λ (xs : List ℕ). xs ++ more) (sym (take-append-drop place window)) ∙ append_assoc (take place window) (drop place window) more;
  ends = c.ends;
  unmarked = unmarked-longer (drop place window) more (omega (arith, l, length-drop place window)) c.unmarked;
  header = has-header header (length (csv_records (take place window))) c.some;
}

-- A WINDOW

pub front-first : (window : List ℕ) (taken : Option (List (List ℕ))) → TookFrom window 0 taken taken
front-first window taken = record { within = omega arith; pieces = []; cut = λ more skip_first others h. h; took = taken-once taken }

pub front-next : (window : List ℕ) (from end : ℕ) (old before now : Option (List (List ℕ))) → from < end → end + 3 ≤ length window
    → CutsOff (drop from window) (end - from) → TookFrom window from old before → now ≡ append_pieces before (take (end - from) (drop from window) ∷ [])
    → TookFrom window end old now
front-next window from end old before now l w c front took = record {
  within = omega (arith, w);
  pieces = front.pieces ++ piece ∷ [];
  cut = λ more. into-next (window ++ more) front.pieces (drop from window ++ more) piece (drop end window ++ more) (front.cut more)
      (subst (λ (left : List ℕ). (header : Bool) → IsCutBefore (drop from window ++ more) header piece (left ++ more)) place
      (off-window (drop from window) more (end - from) c (omega (arith, l, w, length-drop from window))));
  took = took ∙ ap (λ (o : Option (List (List ℕ))). append_pieces o (piece ∷ [])) front.took ∙ taken-twice old front.pieces (piece ∷ []);
} where
  piece : List ℕ
  piece = take (end - from) (drop from window)

  place : drop (end - from) (drop from window) ≡ drop end window
  place = drop-drop (end - from) from window ∙ ap (λ (k : ℕ). drop k window) (let e : from + (end - from) ≡ end = omega (arith, l) in e)

-- THE REST OF A FILE

pub rest-first : (rest : List ℕ) (taken : Option (List (List ℕ))) → TookOff rest (drop 0 rest) taken taken
rest-first rest taken = record { pieces = []; cut = λ skip_first others h. h; took = taken-once taken }

pub rest-next : (rest : List ℕ) (from end : ℕ) (old before now : Option (List (List ℕ))) → from < end
    → CutsOff (drop from rest) (end - from) → TookOff rest (drop from rest) old before → now ≡ append_pieces before (take (end - from) (drop from rest) ∷ [])
    → TookOff rest (drop end rest) old now
rest-next rest from end old before now l c front took = record {
  pieces = front.pieces ++ piece ∷ [];
  cut = into-next rest front.pieces (drop from rest) piece (drop end rest) front.cut
      (subst (λ (left : List ℕ). (header : Bool) → IsCutBefore (drop from rest) header piece left) place (off-rest (drop from rest) (end - from) c));
  took = took ∙ ap (λ (o : Option (List (List ℕ))). append_pieces o (piece ∷ [])) front.took ∙ taken-twice old front.pieces (piece ∷ []);
} where
  piece : List ℕ
  piece = take (end - from) (drop from rest)

  place : drop (end - from) (drop from rest) ≡ drop end rest
  place = drop-drop (end - from) from rest ∙ ap (λ (k : ℕ). drop k rest) (let e : from + (end - from) ≡ end = omega (arith, l) in e)

-- the last piece
pub rest-last : (rest left : List ℕ) (old before now : Option (List (List ℕ))) → TookOff rest left old before → now ≡ append_pieces before (left ∷ [])
    → (skip_first : Bool) → TookPieces rest skip_first old now
rest-last rest left old before now front took skip_first = record {
  pieces = front.pieces ++ left ∷ [];
  cut = front.cut skip_first (left ∷ []) refl;
  took = took ∙ ap (λ (o : Option (List (List ℕ))). append_pieces o (left ∷ [])) front.took ∙ taken-twice old front.pieces (left ∷ []);
}

-- what is left cannot be cut
pub rest-uncut : (rest : List ℕ) (from most : ℕ) (old now : Option (List (List ℕ))) → from + most < length rest → NoneUpTo (drop from rest) most
    → TookOff rest (drop from rest) old now → IsUncut rest most
rest-uncut rest from most old now l none front = record {
  pieces = front.pieces;
  left = drop from rest;
  cut = front.cut;
  long = omega (arith, l, length-drop from rest);
  none = none;
}
