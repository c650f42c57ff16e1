-- Pieces that are the records of jobs.
use Rattle.std.proofs.Common.{◌≡◌, ℕ, zero, suc, ◌+◌, ◌<◌, List, [], ◌∷◌, ◌++◌, length, get_or, Bool, true, false, nat_eq, refl, sym, ap, ◌∙◌, subst, arith, length-append}
use Rattle.std.specs.Prelude.{Option, None, Some}
use Rattle.std.proofs.Math.ListN.{get_or-append}
use Rattle.std.proofs.Math.Seq.{get_or-append_seam}
use Rattle.river_base.proofs.Tests.{eq_by}
use Rattle.csv_cuts.specs.Cut.{append_pieces}
use Rattle.piece_files.specs.Held.{HeldFiles, Put, MaybePut, OthersStay, IsPut}
use Rattle.piece_files.specs.Inputs.{with_file, inputs_of, inputs_told, is_input, OnlyInputs, HaveInputs}
use Rattle.piece_files.specs.declared.file.JobFile.{JobFile}
use Rattle.piece_files.specs.declared.file.JobFile.TheVariants as file

-- WHAT STAYS

-- records of a job are no other file
input-differs : (other : JobFile) (job : ℕ) → is_input other ≡ false → other ≡ file.Input job → ⊥
input-differs other job kind same = let e = ap is_input same in cc (kind, e)

-- records of different jobs
jobs-differ : (i job : ℕ) → i < job → file.Input i ≡ file.Input job → ⊥
jobs-differ i job less same = let e : i ≡ job = cc in omega (arith, e, less)

-- a file that was put, or maybe was
pub only_put : (job : ℕ) (bytes : List ℕ) (old new : Option HeldFiles) → Put (file.Input job) bytes old new → OnlyInputs old new
only_put job bytes None new is = is
only_put job bytes (Some old) None is = is
only_put job bytes (Some old) (Some new) is = λ other kind. is.others other (input-differs other job kind)

pub only_maybe : (job : ℕ) (old new : Option HeldFiles) → MaybePut (file.Input job) old new → OnlyInputs old new
only_maybe job None new is = is
only_maybe job (Some old) None is = is
only_maybe job (Some old) (Some new) is = λ other kind. is other (input-differs other job kind)

-- WHAT IS TAKEN

-- the records of earlier jobs stay
stay : (n job : ℕ) (old new : HeldFiles) → n < job → OthersStay (file.Input job) old new → inputs_of new n ≡ inputs_of old n
stay zero job old new less others = refl
stay (suc n) job old new less others =
    let first = stay n job old new (omega arith) others in
    let here = others (file.Input (suc n)) (jobs-differ (suc n) job less) in
    rw (first, here) refl

more-at : (n : ℕ) (bytes : List ℕ) (old new : HeldFiles) → IsPut (file.Input (suc n)) bytes old new
    → inputs_of new (suc n) ≡ append_pieces (inputs_of old n) (bytes ∷ [])
more-at n bytes old new is = let before = stay n (suc n) old new (omega arith) is.others in rw (is.is, before) refl

-- a piece more
pub more_told : (n : ℕ) (bytes : List ℕ) (old new : Option HeldFiles) → Put (file.Input (n + 1)) bytes old new
    → inputs_told new (n + 1) ≡ append_pieces (inputs_told old n) (bytes ∷ [])
more_told n bytes None new is = rw is refl
more_told n bytes (Some old) None is = absurd is
more_told n bytes (Some old) (Some new) is = let e : n + 1 ≡ suc n = omega arith in rw e (more-at n bytes old new (rw e at is))

-- the last of the pieces, and those before it
record IsLonger (before : Option (List (List ℕ))) (held : Option (List ℕ)) (pieces : List (List ℕ)) : Type 0 where
  front : List (List ℕ)
  last : List ℕ
  before-is : before ≡ Some front
  held-is : held ≡ Some last
  all : pieces ≡ front ++ last ∷ []

longer : (before : Option (List (List ℕ))) (held : Option (List ℕ)) (pieces : List (List ℕ)) → with_file before held ≡ Some pieces → IsLonger before held pieces
longer before None pieces is = cc is
longer None (Some last) pieces is = cc is
longer (Some front) (Some last) pieces is = record { front = front; last = last; before-is = refl; held-is = refl; all = cc is }

-- how many there are
pub inputs-length : (n : ℕ) (held : HeldFiles) (pieces : List (List ℕ)) → inputs_of held n ≡ Some pieces → length pieces ≡ n
inputs-length zero held pieces is = let e : pieces ≡ [] = cc is in ap length e
inputs-length (suc n) held pieces is =
    let l = longer (inputs_of held n) (held (file.Input (suc n))) pieces is in
    let before = inputs-length n held l.front l.before-is in
    rw l.all (omega (arith, before, length-append l.front (l.last ∷ [])))

-- the last file, and those before it
at-step : (n : ℕ) (held : HeldFiles) (pieces : List (List ℕ)) (l : IsLonger (inputs_of held n) (held (file.Input (suc n))) pieces) → length l.front ≡ n
    → ((i : ℕ) → i < n → held (file.Input (suc i)) ≡ Some (get_or l.front i [])) → (i : ℕ) → i < suc n → held (file.Input (suc i)) ≡ Some (get_or pieces i [])
at-step n held pieces l long earlier i less = one (nat_eq i n) refl
  where
    some : {a b : List ℕ} → a ≡ b → Some a ≡ Some b
    some same = ap (λ (x : List ℕ). Some x) same

    all : {x : List ℕ} → get_or (l.front ++ l.last ∷ []) i [] ≡ x → x ≡ get_or pieces i []
    all is = sym (ap (λ (ps : List (List ℕ)). get_or ps i []) l.all ∙ is)

    one : (b : Bool) → nat_eq i n ≡ b → held (file.Input (suc i)) ≡ Some (get_or pieces i [])
    one true test =
        let same : length l.front ≡ i = omega (arith, long, eq_by i n test) in
        ap (λ (k : ℕ). held (file.Input (suc k))) (eq_by i n test) ∙ l.held-is
        ∙ some (all (subst (λ (k : ℕ). get_or (l.front ++ l.last ∷ []) k [] ≡ l.last) same (get_or-append_seam l.front l.last [] [])))
    one false test =
        let below : i < n = grind (arith, test, less) in
        earlier i below ∙ some (all (get_or-append l.front (l.last ∷ []) [] i (omega (arith, below, long))))

-- what the file of each job holds
pub inputs-at : (n : ℕ) (held : HeldFiles) (pieces : List (List ℕ)) → inputs_of held n ≡ Some pieces → (i : ℕ) → i < n
    → held (file.Input (suc i)) ≡ Some (get_or pieces i [])
inputs-at zero held pieces is i less = absurd (omega (arith, less))
inputs-at (suc n) held pieces is i less =
    let l = longer (inputs_of held n) (held (file.Input (suc n))) pieces is in
    at-step n held pieces l (inputs-length n held l.front l.before-is) (λ j below. inputs-at n held l.front l.before-is j below) i less

-- from a number on
have-from : (held : HeldFiles) (pieces : List (List ℕ)) (job : ℕ)
    → ((i : ℕ) → i < length pieces → held (file.Input (job + i)) ≡ Some (get_or pieces i [])) → HaveInputs held job pieces
have-from held [] job each = tt
have-from held (x ∷ xs) job each =
    let here : job + 0 ≡ job = omega arith in (
      rw here at (each 0 (omega arith)),
      have-from held xs (suc job) (λ i less. let next : job + suc i ≡ suc job + i = omega arith in rw next at (each (suc i) (omega (arith, less)))),
    )

-- the files of all of them
pub inputs-have : (n : ℕ) (held : HeldFiles) (pieces : List (List ℕ)) → inputs_of held n ≡ Some pieces → HaveInputs held 1 pieces
inputs-have n held pieces is =
    have-from held pieces 1
    (λ i less. let next : suc i ≡ 1 + i = omega arith in
    rw next at (inputs-at n held pieces is i (omega (arith, less, inputs-length n held pieces is))))
