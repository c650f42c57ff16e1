-- How large the pieces are.
use Rattle.std.proofs.Common.{◌≡◌, ℕ, zero, suc, ◌+◌, ◌-◌, ◌<◌, ◌≤◌, ◌⊎◌, inl, inr, Bool, true, false, List, [], ◌∷◌, ◌++◌, length, take, drop, refl, sym, ap, ◌∙◌, subst, arith}
use Rattle.std.specs.Prelude.{Option, nat_le}
use Rattle.std.specs.List.{AllByRecursion}
use Rattle.std.proofs.lemmas.Bool.{leb-true, leb-false}
use Rattle.std.proofs.lemmas.List.{length-drop, length-take-le, take_all, take-append-drop, take-append-le, drop-append-le, take_rest}
use Rattle.csv.specs.Reading.{strip_bom, is_bom}
use Rattle.csv.specs.declared.parser.State.{State}
use Rattle.csv.specs.declared.parser.State.TheVariants as st
use Rattle.csv_streams.specs.FilePieces.{state_behind, EndsRecord, IsUnmarked}
use Rattle.csv_streams.specs.Records.{csv_records}
use Rattle.csv_cuts.specs.Cut.{append_pieces, is_marked, mark_length, HasFew}
use Rattle.csv_cuts.specs.Window.{CutsOff, NoneUpTo, IsFirstEnd, IsPieceEnd, IsWithin, TookWithin}
use Rattle.csv_cuts.proofs.Marks.{mark_parts, not-one, not-two, unmarked-test, unmarked-strips}
use Rattle.csv_cuts.proofs.Scan.{read_to, reads-on, behind-append, none-first}
use Rattle.csv_cuts.proofs.Fronts.{taken-once, taken-twice, front-first, rest-first}

-- A PLACE WITHIN A PIECE

-- bytes that end a record are no part of a byte-order mark
unmarked-on : (xs more : List ℕ) → state_behind st.StartRecord xs ≡ st.StartRecord → 0 < length xs → is_marked xs ≡ false → is_marked (xs ++ more) ≡ false
unmarked-on [] more e l h = absurd (omega (arith, l))
unmarked-on (a ∷ []) [] e l h = refl
unmarked-on (a ∷ []) (b ∷ []) e l h = refl
unmarked-on (a ∷ []) (b ∷ c ∷ r) e l h = by (is_bom a b c) refl where
  by : (t : Bool) → is_bom a b c ≡ t → t ≡ false
  by false m = refl
  by true m = absurd (not-one a (mark_parts a b c m).0 e)
unmarked-on (a ∷ b ∷ []) [] e l h = refl
unmarked-on (a ∷ b ∷ []) (c ∷ r) e l h = by (is_bom a b c) refl where
  by : (t : Bool) → is_bom a b c ≡ t → t ≡ false
  by false m = refl
  by true m = absurd (not-two a b (mark_parts a b c m).0 (mark_parts a b c m).1 e)
unmarked-on (a ∷ b ∷ c ∷ r) more e l h = h

-- where a piece may be cut off a piece, it may be cut off what the piece was cut off
cuts-longer : (piece more : List ℕ) (other : ℕ) → EndsRecord piece → other < length piece → CutsOff piece other → CutsOff (piece ++ more) other
cuts-longer piece more other ends l c = record {
  ends = subst EndsRecord (sym (take-append-le other piece more within)) c.ends;
  unmarked = subst IsUnmarked (sym (drop-append-le other piece more within)) (unmarked-strips (drop other piece ++ more)
      (unmarked-on (drop other piece) more tail (omega (arith, l, length-drop other piece)) (unmarked-test (drop other piece) c.unmarked)));
  some = subst (λ (xs : List ℕ). 0 < length (csv_records xs)) (sym (take-append-le other piece more within)) c.some;
} where
  within : other ≤ length piece
  within = omega (arith, l)

  behind : mark_length piece ≤ other
  behind = by (nat_le other (mark_length piece)) refl where
    by : (t : Bool) → nat_le other (mark_length piece) ≡ t → mark_length piece ≤ other
    by true m = absurd (none-first piece other (leb-true other (mark_length piece) m) c)
    by false m = (let k = leb-false other (mark_length piece) m in omega (arith, k))

  whole : strip_bom piece ≡ read_to piece other ++ drop other piece
  whole =
      ap strip_bom (sym (take_all (length piece) piece (omega arith)))
      ∙ ap (read_to piece) (let e : length piece ≡ other + (length piece - other) = omega (arith, l) in e)
      ∙ reads-on piece other (length piece - other) behind
      ∙ ap (λ (xs : List ℕ). read_to piece other ++ xs) (take_all (length piece - other) (drop other piece) (omega (arith, length-drop other piece)))

  tail : state_behind st.StartRecord (drop other piece) ≡ st.StartRecord
  tail =
      ap (λ (s : State). state_behind s (drop other piece)) (sym c.ends) ∙ sym (behind-append st.StartRecord (read_to piece other) (drop other piece))
      ∙ ap (state_behind st.StartRecord) (sym whole) ∙ ends

-- HOW LARGE A PIECE IS

-- a piece that is cut off
pub cut-within : (bytes : List ℕ) (records most limit place : ℕ) → most ≤ limit → most ≤ length bytes → IsPieceEnd bytes records most place
    → IsWithin records limit (take place bytes)
cut-within bytes records most limit place m l end = record {
  bytes = (let n = size in let w = end.within in omega (arith, n, w, m));
  few = by end.few;
} where
  size : length (take place bytes) ≡ place
  size = length-take-le place bytes (let w = end.within in omega (arith, w, l))

  by : HasFew bytes records place ⊎ IsFirstEnd bytes place
      → (length (csv_records (take place bytes)) ≤ records) ⊎ IsFirstEnd (take place bytes) (length (take place bytes))
  by (inl h) = inl h
  by (inr none) = inr (λ other a c. none other (let n = size in omega (arith, n, a))
      (subst (λ (xs : List ℕ). CutsOff xs other) (take-append-drop place bytes)
      (cuts-longer (take place bytes) (drop place bytes) other end.cuts.ends a c)))

-- which begins at a place
pub part-within : (bytes : List ℕ) (from records most limit place : ℕ) → most ≤ limit → most ≤ length bytes - from
    → (0 < place → IsPieceEnd (drop from bytes) records most place) → from < from + place → IsWithin records limit (take (from + place - from) (drop from bytes))
part-within bytes from records most limit place m l end some =
    let e : place ≡ from + place - from = omega arith in
    subst (λ (k : ℕ). IsWithin records limit (take k (drop from bytes))) e
    (cut-within (drop from bytes) records most limit place m (omega (arith, l, length-drop from bytes)) (end (omega (arith, some))))

-- all the rest is a piece
pub rest-within : (bytes : List ℕ) (records most limit place : ℕ) → length bytes ≤ limit → most ≡ length bytes → (0 < place → HasFew bytes records most)
    → (place ≡ 0 → NoneUpTo bytes most) → IsWithin records limit bytes
rest-within bytes records most limit zero l e few none = record { bytes = l; few = inr (λ other a c. none refl other (omega (arith, a, e)) c) }
rest-within bytes records most limit (suc place) l e few none = record {
  bytes = l;
  few = inl (subst (λ (xs : List ℕ). length (csv_records xs) ≤ records) (take_all most bytes (omega (arith, e))) (few (omega arith)));
}

pub ruleset ends = (length-drop, take_rest)

-- WHAT WAS TAKEN

all-more : (P : List ℕ → Type 0) (xs : List (List ℕ)) (ys : List (List ℕ)) → AllByRecursion P xs → AllByRecursion P ys → AllByRecursion P (xs ++ ys)
all-more P [] ys a b = b
all-more P (x ∷ xs) ys a b = (a.0, all-more P xs ys a.1 b)

pub within-first : (records most : ℕ) (taken : Option (List (List ℕ))) → TookWithin records most taken taken
within-first records most taken = record { pieces = []; took = taken-once taken; all = tt }

-- one piece more
pub within-next : (records most : ℕ) (old before now : Option (List (List ℕ))) (piece : List ℕ) → TookWithin records most old before
    → IsWithin records most piece → now ≡ append_pieces before (piece ∷ []) → TookWithin records most old now
within-next records most old before now piece so one took = record {
  pieces = so.pieces ++ piece ∷ [];
  took = took ∙ ap (λ (o : Option (List (List ℕ))). append_pieces o (piece ∷ [])) so.took ∙ taken-twice old so.pieces (piece ∷ []);
  all = all-more (IsWithin records most) so.pieces (piece ∷ []) so.all (one, tt);
}

-- several more
pub within-more : (records most : ℕ) (old before now : Option (List (List ℕ))) → TookWithin records most old before → TookWithin records most before now
    → TookWithin records most old now
within-more records most old before now so later = record {
  pieces = so.pieces ++ later.pieces;
  took = later.took ∙ ap (λ (o : Option (List (List ℕ))). append_pieces o later.pieces) so.took ∙ taken-twice old so.pieces later.pieces;
  all = all-more (IsWithin records most) so.pieces later.pieces so.all later.all;
}

pub ruleset sizes = (front-first, rest-first, within-first)
