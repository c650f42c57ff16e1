-- What is in memory of a file that is cut as it is read.
use Rattle.std.proofs.Common.{◌≡◌, ℕ, ◌+◌, ◌-◌, ◌≤◌, Bool, List, ◌++◌, length, take, drop, refl, sym, ap, ◌∙◌, subst, arith, ◌⊎◌, inr, length-append}
use Rattle.std.specs.Prelude.{Option, None, Some, IfSome, min}
use Rattle.std.proofs.lemmas.List.{drop-append-le, length-take-le, length-drop, drop-drop, take_all, take-append-drop}
use Rattle.std.proofs.Math.Seq.{take-add, take-append_seam}
use Rattle.river_outside.specs.Held.{Held, ReadsHeld, EndsBy}
use Rattle.river_outside.specs.Fetched.{IsLarger}
use Rattle.csv_cuts.specs.Cut.{AreCut, TookPieces, append_pieces}
use Rattle.csv_cuts.specs.Faults.{header_behind}
use Rattle.csv_cuts.specs.Window.{CutsOff, CutsInto, NoneUpTo, TookFrom, IsUncut}
use Rattle.csv_cuts.proofs.Fronts.{TookOff, taken-twice, into-more}
use Rattle.csv_cuts.proofs.Windows.{cuts-shorter}
use Rattle.piece_work.specs.Cutting.{CutHeld, IsUncutHeld, IsWindow}
use Rattle.piece_work.specs.Faults.{most_file}

-- A BLOCK MORE

grown : (bytes window piece : List ℕ) (start n : ℕ) → n ≤ length piece → IsWindow (Some bytes) start window
    → ReadsHeld (Some bytes) (start + length window) n piece → IsWindow (Some bytes) start (window ++ take n piece)
grown bytes window piece start n le so reads =
    let size : length (take n piece) ≡ n = length-take-le n piece le in
    let all : length (window ++ take n piece) ≡ length window + n = omega (arith, size, length-append window (take n piece)) in (
      ap (λ (k : ℕ). take k (drop start bytes)) all ∙ take-add (length window) n (drop start bytes)
          ∙ ap (λ (l : List ℕ). l ++ take n (drop (length window) (drop start bytes))) so.0
          ∙ ap (λ (l : List ℕ). window ++ take n l) (drop-drop (length window) start bytes)
          ∙ ap (λ (l : List ℕ). window ++ l) (sym reads.0),
      omega (arith, all, so.1, reads.1),
    )

-- a block that was read is appended
pub window-next : (o : Option Held) (file window now piece : List ℕ) (start at n : ℕ) → at ≡ start + length window → n ≤ length piece
    → now ≡ window ++ take n piece → IfSome o (λ h. ReadsHeld (h file) at n piece) → IfSome o (λ h. IsWindow (h file) start window)
    → IfSome o (λ h. IsWindow (h file) start now)
window-next None file window now piece start at n e le is reads so = tt
window-next (Some h) file window now piece start at n e le is reads so = by (h file) reads so where
  by : (p : Option (List ℕ)) → ReadsHeld p at n piece → IsWindow p start window → IsWindow p start now
  by None reads so = absurd reads
  by (Some bytes) reads so =
      subst (IsWindow (Some bytes) start) (sym is)
      (grown bytes window piece start n le so (subst (λ (k : ℕ). ReadsHeld (Some bytes) k n piece) e reads))

-- WHAT WAS TAKEN

-- the pieces of the file up to this place were taken
abbrev pub TakenSo : Option (List ℕ) → ℕ → ℕ → Option (List (List ℕ)) → Option (List (List ℕ)) → Type 0
TakenSo None from start old now = Unit {0}
TakenSo (Some bytes) from start old now = TookOff (drop from bytes) (drop start bytes) old now

-- what follows the window
pub more-of : List ℕ → ℕ → List ℕ → List ℕ
more-of bytes start window = drop (length window) (drop start bytes)

pub follows : (bytes : List ℕ) (start : ℕ) (window : List ℕ) → IsWindow (Some bytes) start window → drop start bytes ≡ window ++ more-of bytes start window
unfolding more-of
follows bytes start window so =
    sym (take-append-drop (length window) (drop start bytes)) ∙ ap (λ (l : List ℕ). l ++ drop (length window) (drop start bytes)) so.0

pub follows-on : (bytes : List ℕ) (start count : ℕ) (window : List ℕ) → IsWindow (Some bytes) start window → count ≤ length window
    → drop (start + count) bytes ≡ drop count window ++ more-of bytes start window
follows-on bytes start count window so l =
    sym (drop-drop count start bytes) ∙ ap (drop count) (follows bytes start window so) ∙ drop-append-le count window (more-of bytes start window) l

-- some pieces more were taken, and are let go
pub window-on : (o : Option Held) (file window now : List ℕ) (start count : ℕ) → count ≤ length window → 3 ≤ length window → now ≡ drop count window
    → IfSome o (λ h. IsWindow (h file) start window) → IfSome o (λ h. IsWindow (h file) (start + count) now)
window-on None file window now start count l some e so = tt
window-on (Some h) file window now start count l some e so = by (h file) so where
  by : (p : Option (List ℕ)) → IsWindow p start window → IsWindow p (start + count) now
  by None so = let z = ap length so.1 in absurd (omega (arith, z, some))
  by (Some bytes) so =
      subst (IsWindow (Some bytes) (start + count)) (sym e) (
        ap (take (length (drop count window))) (follows-on bytes start count window so l) ∙ take-append_seam (drop count window) (more-of bytes start window),
        omega (arith, so.1, l, length-drop count window),
      )

pub taken-on : (o : Option Held) (file window : List ℕ) (from start count : ℕ) (old before now : Option (List (List ℕ))) → TookFrom window count before now
    → IfSome o (λ h. IsWindow (h file) start window) → IfSome o (λ h. TakenSo (h file) from start old before)
    → IfSome o (λ h. TakenSo (h file) from (start + count) old now)
taken-on None file window from start count old before now took so done = tt
taken-on (Some h) file window from start count old before now took so done = by (h file) so done where
  by : (p : Option (List ℕ)) → IsWindow p start window → TakenSo p from start old before → TakenSo p from (start + count) old now
  by None so done = tt
  by (Some bytes) so done = record {
    pieces = done.pieces ++ took.pieces;
    cut = into-more (drop from bytes) (drop start bytes) (drop (start + count) bytes) done.pieces took.pieces done.cut
        (subst (λ (l : List ℕ). CutsInto l took.pieces (drop (start + count) bytes)) (sym (follows bytes start window so))
        (subst (CutsInto (window ++ more-of bytes start window) took.pieces) (sym (follows-on bytes start count window so took.within))
        (took.cut (more-of bytes start window))));
    took = took.took ∙ ap (λ (t : Option (List (List ℕ))). append_pieces t took.pieces) done.took ∙ taken-twice old done.pieces took.pieces;
  }

-- THE END

pub ends-in : (bytes : List ℕ) (start : ℕ) (window : List ℕ) → IsWindow (Some bytes) start window → length bytes ≤ start + length window → drop start bytes ≡ window
ends-in bytes start window so l =
    sym (take_all (length window) (drop start bytes) (omega (arith, l, length-drop start bytes))) ∙ so.0

-- the rest of the file is cut
pub cut-held : (o : Option Held) (file window : List ℕ) (from start : ℕ) (skip_first : Bool) (old before now : Option (List (List ℕ))) → from ≤ start
    → IfSome o (λ h. IsWindow (h file) start window) → IfSome o (λ h. TakenSo (h file) from start old before)
    → IfSome o (λ h. EndsBy (h file) (start + length window)) → ((skip_first : Bool) → TookPieces window skip_first before now)
    → IfSome o (λ h. CutHeld (h file) from skip_first old now)
cut-held None file window from start skip_first old before now l so done end took = tt
cut-held (Some h) file window from start skip_first old before now l so done end took = by (h file) refl so done end where
  by : (p : Option (List ℕ)) → h file ≡ p → IsWindow p start window → TakenSo p from start old before → EndsBy p (start + length window)
      → CutHeld (h file) from skip_first old now
  by None is so done end = absurd end
  by (Some bytes) is so done end =
      let last = took (header_behind skip_first done.pieces) in record {
        bytes = bytes;
        is = is;
        within = omega (arith, l, so.1);
        took = record {
          pieces = done.pieces ++ last.pieces;
          cut = done.cut skip_first last.pieces
              (subst (λ (l : List ℕ). AreCut l (header_behind skip_first done.pieces) last.pieces) (sym (ends-in bytes start window so end)) last.cut);
          took = last.took ∙ ap (λ (t : Option (List (List ℕ))). append_pieces t last.pieces) done.took ∙ taken-twice old done.pieces last.pieces;
        };
      }

-- or cannot be cut
pub uncut-held : (o : Option Held) (file window : List ℕ) (from start most : ℕ) (old before : Option (List (List ℕ))) → from ≤ start
    → IfSome o (λ h. IsWindow (h file) start window) → IfSome o (λ h. TakenSo (h file) from start old before)
    → IfSome o (λ h. EndsBy (h file) (start + length window)) → IsUncut window most
    → IfSome o (λ h. IsLarger (h file) most_file ⊎ IsUncutHeld (h file) from most)
uncut-held None file window from start most old before l so done end un = tt
uncut-held (Some h) file window from start most old before l so done end un = by (h file) so done end where
  by : (p : Option (List ℕ)) → IsWindow p start window → TakenSo p from start old before → EndsBy p (start + length window)
      → IsLarger p most_file ⊎ IsUncutHeld p from most
  by None so done end = absurd end
  by (Some bytes) so done end = inr (
    omega (arith, l, so.1),
    record {
      pieces = done.pieces ++ un.pieces;
      left = un.left;
      cut = into-more (drop from bytes) (drop start bytes) un.left done.pieces un.pieces done.cut
          (subst (λ (l : List ℕ). CutsInto l un.pieces un.left) (sym (ends-in bytes start window so end)) un.cut);
      long = un.long;
      none = un.none;
    },
  )

-- no piece can be cut off the window
pub stuck-held : (o : Option Held) (file window : List ℕ) (from start most : ℕ) (old before : Option (List (List ℕ))) → from ≤ start
    → IfSome o (λ h. IsWindow (h file) start window) → IfSome o (λ h. TakenSo (h file) from start old before)
    → most + 3 ≤ length window → NoneUpTo window (min most (length window - 3))
    → IfSome o (λ h. IsLarger (h file) most_file ⊎ IsUncutHeld (h file) from most)
stuck-held None file window from start most old before l so done full none = tt
stuck-held (Some h) file window from start most old before l so done full none = by (h file) so done where
  by : (p : Option (List ℕ)) → IsWindow p start window → TakenSo p from start old before → IsLarger p most_file ⊎ IsUncutHeld p from most
  by None so done = let z = ap length so.1 in absurd (omega (arith, z, full))
  by (Some bytes) so done = inr (
    omega (arith, l, so.1),
    record {
      pieces = done.pieces;
      left = drop start bytes;
      cut = done.cut;
      long = omega (arith, so.1, full, length-drop start bytes);
      none = λ place p c. none place (omega (arith, p, full))
          (cuts-shorter window (more-of bytes start window) place (omega (arith, p, full)) (subst (λ (l : List ℕ). CutsOff l place) (follows bytes start window so) c));
    },
  )

-- what is said of files that are told is said of those that stayed
pub window-told : (o there : Option Held) (file window : List ℕ) (start : ℕ) → there ≡ o → IfSome there (λ h. IsWindow (h file) start window)
    → IfSome o (λ h. IsWindow (h file) start window)
window-told o there file window start e = subst (λ (p : Option Held). IfSome p (λ h. IsWindow (h file) start window)) e

pub end-told : (o there : Option Held) (file : List ℕ) (at : ℕ) → there ≡ o → IfSome there (λ h. EndsBy (h file) at) → IfSome o (λ h. EndsBy (h file) at)
end-told o there file at e = subst (λ (p : Option Held). IfSome p (λ h. EndsBy (h file) at)) e
