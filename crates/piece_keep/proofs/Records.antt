-- The records of jobs that a hasher is fed with.
use Rattle.std.proofs.Common.{◌≡◌, ℕ, zero, suc, ◌+◌, List, [], ◌∷◌, ◌++◌, length, refl, sym, ap, ◌∙◌, subst, arith, length-append}
use Rattle.std.specs.Prelude.{Option, None, Some, IfSome}
use Rattle.std.proofs.lemmas.List.{append_assoc, append-nil}
use Rattle.csv_streams.specs.Records.{csv_records}
use Rattle.piece_files.specs.Held.{HeldFiles}
use Rattle.piece_files.specs.Inputs.{HaveInputs}
use Rattle.piece_work.specs.Held.{bytes_of}
use Rattle.piece_keep.specs.Fed.{FedInput, FedInputs, InputsAreFronts, input_of, inputs_to, records_held}
use Rattle.piece_keep.specs.declared.extent.Extent.{Extent}
use Rattle.piece_keep.specs.Fronts.{bytes_in}

-- those of the jobs behind so many
inputs-behind : HeldFiles → ℕ → ℕ → List ℕ
inputs-behind w n zero = []
inputs-behind w n (suc k) = input_of w (suc n) ++ inputs-behind w (suc n) k

inputs-next-to : (w : HeldFiles) (n k : ℕ) → k ≡ suc n → inputs_to w k ≡ inputs_to w n ++ input_of w k
inputs-next-to w n k e = subst (λ (i : ℕ). inputs_to w i ≡ inputs_to w n ++ input_of w i) (sym e) refl

records-next-to : (w : HeldFiles) (n k : ℕ) → k ≡ suc n → records_held w k ≡ records_held w n + length (csv_records (input_of w k))
records-next-to w n k e = subst (λ (i : ℕ). records_held w i ≡ records_held w n + length (csv_records (input_of w i))) (sym e) refl

inputs-on : (w : HeldFiles) (n k i : ℕ) → i ≡ n + k → inputs_to w i ≡ inputs_to w n ++ inputs-behind w n k
unfolding inputs-behind
inputs-on w n zero i e =
    let same : i ≡ n = omega (arith, e) in
    ap (inputs_to w) same ∙ sym (append-nil (inputs_to w n))
inputs-on w n (suc k) i e =
    inputs-on w (suc n) k i (omega (arith, e)) ∙ append_assoc (inputs_to w n) (input_of w (suc n)) (inputs-behind w (suc n) k)

behind-fronts : (w : HeldFiles) (n : ℕ) (fronts : List (List ℕ)) (last : List ℕ) → HaveInputs w (suc n) (fronts ++ (last ∷ []))
    → inputs-behind w n (length fronts) ≡ bytes_in fronts
unfolding inputs-behind
behind-fronts w n [] last h = refl
behind-fronts w n (x ∷ xs) last h =
    ap (λ (l : List ℕ). l ++ inputs-behind w (suc n) (length xs)) (ap bytes_of h.0) ∙ ap (λ (l : List ℕ). x ++ l) (behind-fronts w (suc n) xs last h.1)

-- the records of all jobs but the last are the front
pub inputs_are_fronts : InputsAreFronts
inputs_are_fronts w fronts last h = inputs-on w 0 (length fronts) (length fronts) (omega arith) ∙ behind-fronts w 0 fronts last h

-- nothing came yet
pub inputs-none : (o : Option HeldFiles) (before : List ℕ) (Holds : List ℕ → Type 0) (from : Extent) → Holds before
    → IfSome o (λ w. FedInputs Holds before w 0 from from)
inputs-none None before Holds from h = tt
inputs-none (Some w) before Holds from h = record { ends = omega arith; counts = omega arith; holds = subst Holds (sym (append-nil before)) h }

-- and those of a job more
pub inputs-next : (o p : Option HeldFiles) (before : List ℕ) (Old New : List ℕ → Type 0) (n : ℕ) (from at end : Extent) → p ≡ o
    → IfSome o (λ w. FedInputs Old before w n from at) → ((m : List ℕ) → Old m → IfSome p (λ w. FedInput New m w (n + 1) at end))
    → IfSome o (λ w. FedInputs New before w (n + 1) from end)
inputs-next None p before Old New n from at end same fed more = tt
inputs-next (Some w) p before Old New n from at end same fed more =
    let got = subst (λ (q : Option HeldFiles). IfSome q (λ v. FedInput New (before ++ inputs_to w n) v (n + 1) at end)) same (more (before ++ inputs_to w n) fed.holds) in
    let here = got.ends in
    let there = fed.ends in
    let few = got.counts in
    let many = fed.counts in
    let on = inputs-next-to w n (n + 1) (omega arith) in
    let more = records-next-to w n (n + 1) (omega arith) in
    record {
      ends = omega (arith, here, there, ap length on, length-append (inputs_to w n) (input_of w (n + 1)));
      counts = omega (arith, few, many, more);
      holds = subst New (append_assoc before (inputs_to w n) (input_of w (n + 1)) ∙ ap (λ (l : List ℕ). before ++ l) (sym on)) got.holds;
    }
