-- What is known of the bytes that a fetch has so far.
use Rattle.std.proofs.Common.{◌≡◌, ℕ, ◌+◌, ◌≤◌, List, ◌++◌, length, take, drop, sym, ◌∙◌, ap, IfSome, arith, length-append}
use Rattle.std.specs.Prelude.{Option, None, Some}
use Rattle.std.proofs.lemmas.List.{take-append-le, length-take-le, length-drop}
use Rattle.std.proofs.Math.Seq.{take-add}
use Rattle.river_outside.specs.Held.{Held, ReadsHeld, IsStartOfHeld}

grown : (held got piece : List ℕ) (n : ℕ) → take (length got) held ≡ got → length got ≤ length held → piece ≡ take n (drop (length got) held)
    → n + length got ≤ length held → IsStartOfHeld (Some held) (got ++ piece)
grown held got piece n front fits is room =
    let size : length piece ≡ n = ap length is ∙ length-take-le n (drop (length got) held) (omega (arith, length-drop (length got) held)) in
    let all : length (got ++ piece) ≡ length got + n = omega (arith, length-append got piece) in (
      ap (λ (k : ℕ). take k held) all ∙ take-add (length got) n held ∙ ap (λ (l : List ℕ). l ++ take n (drop (length got) held)) front
          ∙ ap (λ (l : List ℕ). got ++ l) (sym is),
      omega arith,
    )

pub IsStart-append : (o : Option (List ℕ)) (got piece rest : List ℕ) (n : ℕ) → n ≤ length piece → IsStartOfHeld o got → ReadsHeld o (length got) n piece
    → IsStartOfHeld o (got ++ take n (piece ++ rest))
IsStart-append None got piece rest n le start reads = absurd reads
IsStart-append (Some held) got piece rest n le start reads =
    grown held got (take n (piece ++ rest)) n start.0 start.1 (take-append-le n piece rest le ∙ reads.0) (omega (arith, start.1, reads.1))

-- the same over a shelf that may tell
pub IsStart-piece : (o : Option Held) (name got now piece rest : List ℕ) (n : ℕ) → n ≤ length piece → now ≡ got ++ take n (piece ++ rest)
    → IfSome o (λ h. ReadsHeld (h name) (length got) n piece) → IfSome o (λ h. IsStartOfHeld (h name) got → IsStartOfHeld (h name) now)
IsStart-piece None name got now piece rest n le is reads = tt
IsStart-piece (Some h) name got now piece rest n le is reads = λ start. rw is (IsStart-append (h name) got piece rest n le start reads)
