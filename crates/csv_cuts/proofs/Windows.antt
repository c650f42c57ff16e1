-- A cut within a window.
use Rattle.std.proofs.Common.{ℕ, ◌+◌, ◌<◌, ◌≤◌, inl, inr, List, [], ◌∷◌, ◌++◌, length, drop, sym, subst, arith}
use Rattle.std.proofs.lemmas.List.{length-drop, take-append-le, drop-append-le}
use Rattle.csv_streams.specs.FilePieces.{EndsRecord, IsUnmarked}
use Rattle.csv_streams.specs.Records.{csv_records}
use Rattle.csv_cuts.specs.Cut.{WindowsDecide}
use Rattle.csv_cuts.specs.Window.{CutsOff}
use Rattle.csv_cuts.proofs.Marks.{unmarked-test, unmarked-strips}

-- a byte-order mark, or none, is seen in the first three bytes
pub unmarked-longer : (xs more : List ℕ) → 3 ≤ length xs → IsUnmarked xs → IsUnmarked (xs ++ more)
unmarked-longer [] more l h = absurd (omega (arith, l))
unmarked-longer (a ∷ []) more l h = absurd (omega (arith, l))
unmarked-longer (a ∷ b ∷ []) more l h = absurd (omega (arith, l))
unmarked-longer (a ∷ b ∷ c ∷ r) more l h = unmarked-strips (a ∷ b ∷ c ∷ (r ++ more)) (unmarked-test (a ∷ b ∷ c ∷ r) h)

pub windows_decide : WindowsDecide
windows_decide window more place (inl e) l = inl e
windows_decide window more place (inr (inl e)) l = absurd (omega (arith, e, l))
windows_decide window more place (inr (inr g)) l =
    let within : place ≤ length window = omega (arith, l) in
    let some : 3 ≤ length (drop place window) = omega (arith, l, length-drop place window) in
    inr (inr (
      subst EndsRecord (sym (take-append-le place window more within)) g.0,
      subst IsUnmarked (sym (drop-append-le place window more within)) (unmarked-longer (drop place window) more some g.1),
    ))

unmarked-shorter : (xs more : List ℕ) → 3 ≤ length xs → IsUnmarked (xs ++ more) → IsUnmarked xs
unmarked-shorter [] more l h = absurd (omega (arith, l))
unmarked-shorter (a ∷ []) more l h = absurd (omega (arith, l))
unmarked-shorter (a ∷ b ∷ []) more l h = absurd (omega (arith, l))
unmarked-shorter (a ∷ b ∷ c ∷ r) more l h = unmarked-strips (a ∷ b ∷ c ∷ r) (unmarked-test (a ∷ b ∷ c ∷ (r ++ more)) h)

-- where a piece may be cut off the file, with three bytes of the window behind it, one may be cut off the window
pub cuts-shorter : (window more : List ℕ) (place : ℕ) → place + 3 ≤ length window → CutsOff (window ++ more) place → CutsOff window place
cuts-shorter window more place l c =
    let within : place ≤ length window = omega (arith, l) in
    let some : 3 ≤ length (drop place window) = omega (arith, l, length-drop place window) in
    record {
      ends = subst EndsRecord (take-append-le place window more within) c.ends;
      unmarked = unmarked-shorter (drop place window) more some (subst IsUnmarked (drop-append-le place window more within) c.unmarked);
      some = subst (λ (xs : List ℕ). 0 < length (csv_records xs)) (take-append-le place window more within) c.some;
    }
