-- A file that is read in blocks, and cut into pieces that overlap as it comes.
use Rattle.std.proofs.Common.{◌≡◌, ℕ, ◌+◌, ◌≤◌, Bool, true, false, List, [], ◌++◌, length, take, drop, refl, sym, ap, ◌∙◌, subst, arith}
use Rattle.std.specs.Bool.{OnFalse}
use Rattle.std.specs.Prelude.{Option, None, Some, IfSome}
use Rattle.std.proofs.lemmas.List.{length-drop, drop_all}
use Rattle.std.proofs.Math.Seq.{take-append_seam}
use Rattle.river_outside.specs.Held.{Held, EndsBy}
use Rattle.csv_streams.specs.Records.{csv_records}
use Rattle.csv_cuts.specs.Cut.{append_pieces}
use Rattle.csv_cuts.proofs.Fronts.{taken-once, taken-twice}
use Rattle.piece_work.specs.Cutting.{IsWindow}
use Rattle.piece_work.proofs.Blocks.{more-of, follows, follows-on, ends-in}
use Rattle.lap_cuts.specs.Laps.{AreLaps, HeaderEnds, LapsFrom, LapsHeld, LapsInto, PassedHeader, TookFrom, TookLaps}
use Rattle.lap_cuts.proofs.Cuts.{LapsOff, into-more, off-window, rest-records}

-- WHAT WAS TAKEN

-- the pieces of the file up to this place were taken
abbrev pub LapsSo : Option (List ℕ) → ℕ → ℕ → ℕ → ℕ → Option (List (List ℕ)) → Option (List (List ℕ)) → Type 0
LapsSo None from start many step old now = Unit {0}
LapsSo (Some bytes) from start many step old now = LapsOff many step (drop from bytes) (drop start bytes) old now

pub laps-none : (o : Option Held) (file : List ℕ) (from many step : ℕ) (taken : Option (List (List ℕ)))
    → IfSome o (λ h. LapsSo (h file) from from many step taken taken)
laps-none None file from many step taken = tt
laps-none (Some h) file from many step taken = by (h file) where
  by : (p : Option (List ℕ)) → LapsSo p from from many step taken taken
  by None = tt
  by (Some bytes) = record { pieces = []; cut = λ others h. h; took = once taken } where
    once : (t : Option (List (List ℕ))) → t ≡ append_pieces t []
    once t = taken-once t

pub laps-on : (o : Option Held) (file window : List ℕ) (from start count many step : ℕ) (old before now : Option (List (List ℕ)))
    → TookFrom many step window count before now
    → IfSome o (λ h. IsWindow (h file) start window) → IfSome o (λ h. LapsSo (h file) from start many step old before)
    → IfSome o (λ h. LapsSo (h file) from (start + count) many step old now)
laps-on None file window from start count many step old before now took so done = tt
laps-on (Some h) file window from start count many step old before now took so done = by (h file) so done where
  by : (p : Option (List ℕ)) → IsWindow p start window → LapsSo p from start many step old before → LapsSo p from (start + count) many step old now
  by None so done = tt
  by (Some bytes) so done = record {
    pieces = done.pieces ++ took.pieces;
    cut = into-more many step (drop from bytes) (drop start bytes) (drop (start + count) bytes) done.pieces took.pieces done.cut
        (subst (λ (l : List ℕ). LapsInto many step l took.pieces (drop (start + count) bytes)) (sym (follows bytes start window so))
        (subst (LapsInto many step (window ++ more-of bytes start window) took.pieces) (sym (follows-on bytes start count window so took.within))
        (took.cut (more-of bytes start window))));
    took = took.took ∙ ap (λ (t : Option (List (List ℕ))). append_pieces t took.pieces) done.took ∙ taken-twice old done.pieces took.pieces;
  }

-- the rest of the file is cut
pub laps-held : (o : Option Held) (file window : List ℕ) (from start many step : ℕ) (old before now : Option (List (List ℕ)))
    → IfSome o (λ h. IsWindow (h file) start window) → IfSome o (λ h. LapsSo (h file) from start many step old before)
    → IfSome o (λ h. EndsBy (h file) (start + length window)) → TookLaps many step window before now
    → IfSome o (λ h. LapsFrom (h file) from many step old now)
laps-held None file window from start many step old before now so done end took = tt
laps-held (Some h) file window from start many step old before now so done end took = by (h file) refl so done end where
  by : (p : Option (List ℕ)) → h file ≡ p → IsWindow p start window → LapsSo p from start many step old before → EndsBy p (start + length window)
      → LapsFrom (h file) from many step old now
  by None is so done end = absurd end
  by (Some bytes) is so done end = record {
    bytes = bytes;
    is = is;
    took = record {
      pieces = done.pieces ++ took.pieces;
      laps = done.cut took.pieces (subst (λ (l : List ℕ). AreLaps many step l took.pieces) (sym (ends-in bytes start window so end)) took.laps);
      took = took.took ∙ ap (λ (t : Option (List (List ℕ))). append_pieces t took.pieces) done.took ∙ taken-twice old done.pieces took.pieces;
    };
  }

-- THE HEADER

none-left : (n : ℕ) → drop {A = ℕ} n [] ≡ []
none-left n = drop_all n [] (omega arith)

-- what was not let go is the window behind it
pub window-passed : (o : Option Held) (file window now : List ℕ) (count : ℕ) → count ≤ length window → now ≡ drop count window
    → IfSome o (λ h. IsWindow (h file) 0 window) → IfSome o (λ h. IsWindow (h file) count now)
window-passed None file window now count l e so = tt
window-passed (Some h) file window now count l e so = by (h file) so where
  by : (p : Option (List ℕ)) → IsWindow p 0 window → IsWindow p count now
  by None so = let z = ap length so.1 in (omega (arith, z, l), e ∙ ap (drop count) so.1 ∙ none-left count)
  by (Some bytes) so =
      subst (IsWindow (Some bytes) count) (sym e) (
        ap (take (length (drop count window))) (ap (λ k. drop k bytes) (let z : count ≡ 0 + count = omega arith in z) ∙ follows-on bytes 0 count window so l)
            ∙ take-append_seam (drop count window) (more-of bytes 0 window),
        omega (arith, so.1, l, length-drop count window),
      )

pub passed-header : (o : Option Held) (file window : List ℕ) (count : ℕ) (full : Bool) → HeaderEnds full window count
    → IfSome o (λ h. IsWindow (h file) 0 window) → (full ≡ false → IfSome o (λ h. EndsBy (h file) (0 + length window)))
    → IfSome o (λ h. PassedHeader (h file) true count)
passed-header None file window count full ends so end = tt
passed-header (Some h) file window count full ends so end = by (h file) full ends so end where
  by : (p : Option (List ℕ)) (full : Bool) → HeaderEnds full window count → IsWindow p 0 window → (full ≡ false → EndsBy p (0 + length window))
      → PassedHeader p true count
  by None full ends so end = tt
  by (Some bytes) true ends so end =
      let more = more-of bytes 0 window in
      let front = off-window window more count 1 ends.1 ends.0 ends.2 in
      ap (λ k. csv_records (drop k bytes)) (let z : count ≡ 0 + count = omega arith in z)
      ∙ ap csv_records (follows-on bytes 0 count window so (let a = ends.0 in omega (arith, a)))
      ∙ rest-records 1 (window ++ more) (take count window) (drop count window ++ more) front
      ∙ ap (λ l. drop 1 (csv_records l)) (sym (follows bytes 0 window so))
  by (Some bytes) false ends so end =
      let same = ends-in bytes 0 window so (end refl) in
      ap (λ l. csv_records (drop count l)) same ∙ ends ∙ ap (λ l. drop 1 (csv_records l)) (sym same)

pub no-header : (o : Option Held) (file : List ℕ) → IfSome o (λ h. PassedHeader (h file) false 0)
no-header None file = tt
no-header (Some h) file = by (h file) where
  by : (p : Option (List ℕ)) → PassedHeader p false 0
  by None = tt
  by (Some bytes) = refl

-- THE WHOLE

pub held-laps : (o : Option Held) (file : List ℕ) (skip_first : Bool) (from many step : ℕ) (old now : Option (List (List ℕ)))
    → IfSome o (λ h. PassedHeader (h file) skip_first from) → IfSome o (λ h. LapsFrom (h file) from many step old now)
    → IfSome o (λ h. LapsHeld (h file) skip_first many step old now)
held-laps None file skip_first from many step old now passed cut = tt
held-laps (Some h) file skip_first from many step old now passed cut = record {
  bytes = cut.bytes;
  is = cut.is;
  body = drop from cut.bytes;
  behind = subst (λ (p : Option (List ℕ)). PassedHeader p skip_first from) cut.is passed;
  took = cut.took;
}

-- THE BEGINNING

pub window-none : (o : Option Held) (file window : List ℕ) → window ≡ [] → IfSome o (λ h. IsWindow (h file) 0 window)
window-none None file window e = tt
window-none (Some h) file window e = by (h file) where
  by : (p : Option (List ℕ)) → IsWindow p 0 window
  by None = (refl, e)
  by (Some bytes) = subst (IsWindow (Some bytes) 0) (sym e) (refl, omega arith)

pub on-false : (b : Bool) (P : Type 0) → OnFalse b P → b ≡ false → P
on-false true P h e = absurd cc
on-false false P h e = h

pub ruleset begins = (window-none, no-header, laps-none)
