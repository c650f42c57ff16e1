-- A block more of a file that a hasher is fed with.
use Rattle.std.proofs.Common.{◌≡◌, ℕ, ◌+◌, List, ◌++◌, take, drop, refl, sym, ap, ◌∙◌, subst, arith}
use Rattle.std.specs.Prelude.{Option, None, Some, IfSome}
use Rattle.std.proofs.lemmas.List.{append_assoc, append-nil}
use Rattle.std.proofs.Math.Seq.{take-add}
use Rattle.river_outside.specs.Held.{Held}
use Rattle.piece_keep.specs.Fed.{FedFront, FedBlock}

-- nothing came yet
pub fed-none : (o : Option Held) (file before : List ℕ) (Holds : List ℕ → Type 0) → Holds before → IfSome o (λ h. FedFront Holds before (h file) 0)
fed-none None file before Holds h = tt
fed-none (Some held) file before Holds h = by (held file) where
  by : (p : Option (List ℕ)) → FedFront Holds before p 0
  by None = (refl, h)
  by (Some bytes) = (omega arith, subst Holds (sym (append-nil before)) h)

-- and a block more
pub fed-on : (o p : Option Held) (file before : List ℕ) (Old New : List ℕ → Type 0) (from count : ℕ) → p ≡ o
    → IfSome o (λ h. FedFront Old before (h file) from)
    → ((m : List ℕ) → Old m → IfSome p (λ h. FedBlock New m (h file) from count)) → IfSome o (λ h. FedFront New before (h file) (from + count))
fed-on None p file before Old New from count same front block = tt
fed-on (Some held) p file before Old New from count same front block =
    by (held file) front (λ m old. subst (λ (q : Option Held). IfSome q (λ h. FedBlock New m (h file) from count)) same (block m old)) where
      by : (q : Option (List ℕ)) → FedFront Old before q from → ((m : List ℕ) → Old m → FedBlock New m q from count) → FedFront New before q (from + count)
      by None f b = absurd (b before f.1)
      by (Some bytes) f b =
          let got = b (before ++ take from bytes) f.1 in (
            got.0,
            subst New (append_assoc before (take from bytes) (take count (drop from bytes)) ∙ ap (λ l. before ++ l) (sym (take-add from count bytes))) got.1,
          )
