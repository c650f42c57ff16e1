-- The front of a file that was cut.
use Rattle.std.proofs.Common.{◌≡◌, ℕ, ◌≤◌, Bool, true, false, List, [], ◌∷◌, ◌++◌, length, refl, sym, ap, ◌∙◌, subst, arith, length-append}
use Rattle.std.proofs.lemmas.Bool.{true≢false}
use Rattle.std.proofs.lemmas.List.{append_assoc, append-nil}
use Rattle.csv.specs.Reading.{strip_bom}
use Rattle.csv.specs.declared.parser.State.TheVariants as st
use Rattle.csv_streams.specs.FilePieces.{state_behind, EndsRecord, IsUnmarked}
use Rattle.csv_streams.specs.Records.{csv_records}
use Rattle.csv_streams.specs.Rows.{headers}
use Rattle.csv_streams.proofs.FilePieces.{records_in_pieces}
use Rattle.csv_cuts.specs.Cut.{AreCut, IsCutBefore, is_marked}
use Rattle.csv_cuts.proofs.Marks.{unmarked-strips, unmarked-test, marked-strips, in-one, in-two}
use Rattle.csv_cuts.proofs.Scan.{behind-append}
use Rattle.piece_keep.specs.Fronts.{bytes_in, IsFrontOf, FrontsAreCut}

-- THE MARK

-- a front of bytes without a mark has none
pub unmarked-front : (xs ys : List ℕ) → IsUnmarked (xs ++ ys) → IsUnmarked xs
unfolding strip_bom
unmarked-front [] ys h = refl
unmarked-front (a ∷ []) ys h = refl
unmarked-front (a ∷ b ∷ []) ys h = refl
unmarked-front (a ∷ b ∷ c ∷ r) ys h = unmarked-strips (a ∷ b ∷ c ∷ r) (unmarked-test (a ∷ b ∷ c ∷ (r ++ ys)) h)

-- WHERE RECORDS END

abbrev EndsAt : List ℕ → Type 0
EndsAt xs = state_behind st.StartRecord xs ≡ st.StartRecord

behind-both : (xs ys : List ℕ) → EndsAt xs → EndsAt ys → EndsAt (xs ++ ys)
behind-both xs ys ex ey = behind-append st.StartRecord xs ys ∙ ap (λ s. state_behind s ys) ex ∙ ey

unmarked-both : (xs ys : List ℕ) → EndsRecord xs → EndsAt ys → is_marked (xs ++ ys) ≡ false → EndsRecord (xs ++ ys)
unmarked-both xs ys ex ey h =
    let all = unmarked-strips (xs ++ ys) h in
    subst EndsAt (sym all) (behind-both xs ys (subst EndsAt (unmarked-front xs ys all) ex) ey)

marked-both : (xs ys : List ℕ) → EndsRecord xs → EndsAt ys → IsUnmarked ys → is_marked (xs ++ ys) ≡ true → EndsRecord (xs ++ ys)
marked-both [] ys ex ey u h = absurd (true≢false (sym h ∙ unmarked-test ys u))
marked-both (a ∷ []) [] ex ey u h = absurd (true≢false (sym h))
marked-both (a ∷ []) (b ∷ []) ex ey u h = absurd (true≢false (sym h))
marked-both (a ∷ []) (b ∷ c ∷ r) ex ey u h = absurd (in-one a b c h ex)
marked-both (a ∷ b ∷ []) [] ex ey u h = absurd (true≢false (sym h))
marked-both (a ∷ b ∷ []) (c ∷ r) ex ey u h = absurd (in-two a b c h ex)
marked-both (a ∷ b ∷ c ∷ r) ys ex ey u h =
    subst EndsAt (sym (marked-strips a b c (r ++ ys) h)) (behind-both r ys (subst EndsAt (marked-strips a b c r h) ex) ey)

-- two texts that end with a record are one that does, where no mark stands between them
pub ends-both : (xs ys : List ℕ) → EndsRecord xs → EndsRecord ys → IsUnmarked ys → EndsRecord (xs ++ ys)
ends-both xs ys ex ey u = by (is_marked (xs ++ ys)) refl where
  by : (b : Bool) → is_marked (xs ++ ys) ≡ b → EndsRecord (xs ++ ys)
  by true h = marked-both xs ys ex (subst EndsAt u ey) u h
  by false h = unmarked-both xs ys ex (subst EndsAt u ey) h

-- THE FRONT

front-one : (bytes : List ℕ) (skip_first : Bool) (first last : List ℕ) → AreCut bytes skip_first (first ∷ last ∷ []) → IsFrontOf bytes skip_first (first ∷ []) last
front-one bytes skip_first first last c =
    let rest = c.0 in
    let cut : IsCutBefore bytes skip_first first rest = c.1 in
    let same : last ≡ rest = c.2 in
    let all : first ++ [] ≡ first = append-nil first in
    record {
      is = cut.is ∙ ap (λ l. first ++ l) (sym same) ∙ ap (λ l. l ++ last) (sym all);
      cut = sym all;
      ends = subst EndsRecord (sym all) cut.ends;
      unmarked = subst IsUnmarked (sym same) cut.unmarked;
      header = subst (λ l. headers skip_first ≤ length (csv_records l)) (sym all) cut.header;
    }

front-more : (bytes rest : List ℕ) (skip_first : Bool) (first second : List ℕ) (more : List (List ℕ)) (last : List ℕ) → IsCutBefore bytes skip_first first rest
    → IsFrontOf rest false (second ∷ more) last → IsFrontOf bytes skip_first (first ∷ second ∷ more) last
front-more bytes rest skip_first first second more last cut f =
    let behind = bytes_in (second ∷ more) in
    let plain : IsUnmarked behind = unmarked-front behind last (subst IsUnmarked f.is cut.unmarked) in
    let many : csv_records (first ++ behind) ≡ csv_records first ++ csv_records behind = records_in_pieces first behind cut.ends plain in
    let header = cut.header in
    record {
      is = cut.is ∙ ap (λ l. first ++ l) f.is ∙ sym (append_assoc first behind last);
      cut = (behind, record { is = refl; ends = cut.ends; unmarked = plain; header = cut.header }, f.cut);
      ends = ends-both first behind cut.ends f.ends plain;
      unmarked = f.unmarked;
      header = omega (arith, header, ap length many, length-append (csv_records first) (csv_records behind));
    }

-- all pieces but the last are the pieces of a front
pub fronts_are_cut : FrontsAreCut
fronts_are_cut bytes skip_first first [] last c = front-one bytes skip_first first last c
fronts_are_cut bytes skip_first first (second ∷ more) last c =
    front-more bytes c.0 skip_first first second more last c.1 (fronts_are_cut c.0 false second more last c.2)
