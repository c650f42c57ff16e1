-- What a sink holds after two writes in a row.
use Rattle.std.proofs.Common.{◌≡◌, ℕ, ◌+◌, List, ◌++◌, take, drop, refl, sym, ◌∙◌, ap, append_assoc}
use Rattle.std.specs.Prelude.{Option, None, Some}
use Rattle.std.specs.Io.KnownBytes.{append_known}
use Rattle.std.proofs.Math.Seq.{take-add}

-- what is appended in two pieces is appended as one
pub append_known-more : (old : Option (List ℕ)) (bytes : List ℕ) (m n : ℕ)
    → append_known (append_known old (take m bytes)) (take n (drop m bytes)) ≡ append_known old (take (m + n) bytes)
append_known-more None bytes m n = refl
append_known-more (Some xs) bytes m n =
    ap (λ (l : List ℕ). Some l) (append_assoc xs (take m bytes) (take n (drop m bytes)) ∙ ap (λ (l : List ℕ). xs ++ l) (sym (take-add m n bytes)))
