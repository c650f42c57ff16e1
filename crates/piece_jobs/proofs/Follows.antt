-- What follows from what came of the jobs.
use Rattle.std.proofs.Common.{◌≡◌, ℕ, suc, ◌+◌, ◌<◌, List, [], ◌∷◌, ◌++◌, length, ap, ◌∙◌, subst, arith}
use Rattle.std.specs.Prelude.{Option, None, Some, IfSome}
use Rattle.std.proofs.lemmas.List.{length-append}
use Rattle.piece_files.specs.Held.{HeldFiles}
use Rattle.piece_jobs.specs.Came.{Ended}
use Rattle.piece_jobs.specs.Looked.{IsCame, AreCame}
use Rattle.piece_jobs.specs.Merged.{HaveCome}
use Rattle.piece_jobs.specs.Verdict.{BehindSome, IsVerdict}
use Rattle.piece_jobs.specs.declared.came.Ending.TheVariants.{Refused}
use Rattle.piece_jobs.specs.declared.looking.Came.{Came}
use Rattle.piece_jobs.specs.declared.verdict.Verdict.TheVariants as verdict

came-behind : (h : HeldFiles) (turns job : ℕ) (before : List (Option Came)) (c : Option Came) (after : List (Option Came))
    → AreCame h turns job (before ++ c ∷ after) → IsCame h turns (job + length before) c
came-behind h turns job [] c after all = subst (λ (n : ℕ). IsCame h turns n c) (omega arith) all.0
came-behind h turns job (b ∷ bs) c after all =
    subst (λ (n : ℕ). IsCame h turns n c) (omega arith) (came-behind h turns (suc job) bs c after all.1)

-- the first job that was refused ended so
pub refused-ended : (held : Option HeldFiles) (turns : ℕ) (found : List (Option Came)) (place turn : ℕ) → IfSome held (λ h. AreCame h turns 1 found)
    → IsVerdict found (verdict.Refused place turn) → IfSome held (λ h. Ended h (place + 1) turn Refused)
refused-ended None turns found place turn came is = tt
refused-ended (Some h) turns found place turn came is =
    let b = is.1 in
    let c = came-behind h turns 1 b.before (Some (record { turn = turn; ending = Refused })) b.after
    (subst (AreCame h turns 1) b.is came) in
    let many = b.many in
    let k : 1 + length b.before ≡ place + 1 = omega (arith, many) in
    subst (λ (n : ℕ). Ended h n turn Refused) k c.ended

-- the jobs have come so
pub have-come : (held : Option HeldFiles) (turns : ℕ) (found : List (Option Came)) → IfSome held (λ h. AreCame h turns 1 found)
    → IfSome held (λ h. HaveCome h found)
have-come None turns found came = tt
have-come (Some h) turns found came = record { turns = turns; came = came }

-- the place of a job is below their number
pub place-few : (Is : Option Came → Type 0) (found : List (Option Came)) (place n : ℕ) (c : Option Came) → BehindSome Is place c found → length found ≡ n → place < n
place-few Is found place n c b many =
    let e = ap length b.is ∙ length-append b.before (c ∷ b.after) in
    let m = b.many in
    omega (arith, e, m, many)

pub ruleset follows = (have-come, place-few)
