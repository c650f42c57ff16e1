-- All jobs but the last.
use Rattle.std.proofs.Common.{◌≡◌, ℕ, zero, suc, ◌-◌, ◌≤◌, Bool, List, [], ◌∷◌, ◌++◌, length, take, sym, subst}
use Rattle.std.specs.Prelude.{Option, None, Some, IfSome, Result, Ok, Err, IfOk, OnOk}
use Rattle.std.specs.List.{AllByRecursion}
use Rattle.piece_files.specs.Held.{HeldFiles}
use Rattle.piece_files.specs.declared.file.JobFile.TheVariants.{Mark}
use Rattle.piece_work.specs.Faults.{most_file}
use Rattle.river_outside.specs.Fetched.{FetchesAll}
use Rattle.piece_jobs.specs.Looked.{AreCame}
use Rattle.piece_jobs.specs.Merged.{HaveCome}
use Rattle.piece_jobs.specs.Keeping.{Front, IsKept, IsKeptFrom, KeepsBy, KeepsNext}
use Rattle.piece_jobs.specs.Next.{Follows, ReadsProgress}
use Rattle.piece_jobs.specs.Verdict.{IsDone, IsVerdict}
use Rattle.piece_jobs.specs.declared.came.Ending.TheVariants.{Refused}
use Rattle.piece_jobs.specs.declared.going_on.Next.{Next}
use Rattle.piece_jobs.specs.declared.going_on.Next.TheVariants as next
use Rattle.piece_jobs.specs.declared.looking.Came.{Came}
use Rattle.piece_jobs.specs.declared.progress.Progress.{Progress}
use Rattle.piece_jobs.specs.declared.verdict.Verdict.TheVariants as verdict
use Rattle.piece_jobs.proofs.Merges.{brought}
use Rattle.piece_work.specs.declared.fault.WorkFault.{WorkFault}

came-fronts : (h : HeldFiles) (turns job k : ℕ) (found : List (Option Came)) → AreCame h turns job found → AreCame h turns job (take k found)
came-fronts h turns job zero found c = tt
came-fronts h turns job (suc k) [] c = tt
came-fronts h turns job (suc k) (x ∷ xs) c = (c.0, came-fronts h turns (suc job) k xs c.1)

-- so many of the jobs have come
pub have-fronts : (o : Option HeldFiles) (k : ℕ) (found : List (Option Came)) → IfSome o (λ h. HaveCome h found) → IfSome o (λ h. HaveCome h (take k found))
have-fronts None k found c = tt
have-fronts (Some h) k found c = record { turns = c.turns; came = came-fronts h c.turns 1 k found c.came }

-- and are done
pub done-fronts : (k : ℕ) (found : List (Option Came)) → AllByRecursion IsDone found → AllByRecursion IsDone (take k found)
done-fronts zero found d = tt
done-fronts (suc k) [] d = tt
done-fronts (suc k) (x ∷ xs) d = (d.0, done-fronts k xs d.1)

done-at : (before : List (Option Came)) (c : Option Came) (after : List (Option Came)) → AllByRecursion IsDone (before ++ c ∷ after) → IsDone c
done-at [] c after d = d.0
done-at (b ∷ bs) c after d = done-at bs c after d.1

-- not all are done where one has not come, or was refused
pub lacking-not-done : (found : List (Option Came)) (place : ℕ) → IsVerdict found (verdict.Lacking place) → AllByRecursion IsDone found → ⊥
lacking-not-done found place b d = done-at b.before None b.after (subst (AllByRecursion IsDone) b.is d)

pub refused-not-done : (found : List (Option Came)) (place turn : ℕ) → IsVerdict found (verdict.Refused place turn) → AllByRecursion IsDone found → ⊥
refused-not-done found place turn b d =
    let e = done-at b.1.before (Some (record { turn = turn; ending = Refused })) b.1.after (subst (AllByRecursion IsDone) b.1.is d) in
    cc e

-- so nothing is kept then
pub nothing-kept : (held w : Option HeldFiles) (p : Progress) (found : List (Option Came)) (old new : Option HeldFiles) (r : Result Next WorkFault)
    → (AllByRecursion IsDone found → ⊥) → new ≡ old → IfOk r (λ n. IfSome held (λ h. Follows h w p found n))
    → IfOk r (λ n. IfSome held (λ h. KeepsBy h p found old new n))
nothing-kept held w p found old new (Err fault) left same f = tt
nothing-kept None w p found old new (Ok n) left same f = tt
nothing-kept (Some h) w p found old new (Ok next.Done) left same f = absurd (left f.0)
nothing-kept (Some h) w p found old new (Ok next.Again) left same f = same
nothing-kept (Some h) w p found old new (Ok (next.Lost job)) left same f = same
nothing-kept (Some h) w p found old new (Ok (next.Refused told)) left same f = same

-- what is kept, where the progress was read and the jobs were looked at before
pub keeps-next : (held there : Option HeldFiles) (w : Option HeldFiles) (p : Progress) (found : List (Option Came)) (old new : Option HeldFiles) (r : Result Next WorkFault)
    → there ≡ held → IfSome held (λ h. ReadsProgress h p) → length found ≡ p.jobs → IfSome there (λ h. AreCame h p.turn 1 found)
    → IfOk r (λ n. IfSome there (λ h. Follows h w p found n)) → IfOk r (λ n. IfSome there (λ h. KeepsBy h p found old new n))
    → IfOk r (λ n. IfSome held (λ h. KeepsNext h old new n))
keeps-next held there w p found old new r same reads many came follows kept =
    by held r reads (brought (λ h. AreCame h p.turn 1 found) there held (sym same) came)
    (subst (λ (o : Option HeldFiles). IfOk r (λ n. IfSome o (λ h. Follows h w p found n))) same follows)
    (subst (λ (o : Option HeldFiles). IfOk r (λ n. IfSome o (λ h. KeepsBy h p found old new n))) same kept) where
      by : (o : Option HeldFiles) (s : Result Next WorkFault) → IfSome o (λ h. ReadsProgress h p) → IfSome o (λ h. AreCame h p.turn 1 found)
          → IfOk s (λ n. IfSome o (λ h. Follows h w p found n)) → IfOk s (λ n. IfSome o (λ h. KeepsBy h p found old new n))
          → IfOk s (λ n. IfSome o (λ h. KeepsNext h old new n))
      by o (Err fault) reads came f k = tt
      by None (Ok n) reads came f k = tt
      by (Some h) (Ok next.Done) reads came f k =
          record { progress = p; reads = reads; found = found; many = many; came = came; done = f.0; kept = k }
      by (Some h) (Ok next.Again) reads came f k = k
      by (Some h) (Ok (next.Lost job)) reads came f k = k
      by (Some h) (Ok (next.Refused told)) reads came f k = k

-- what is kept of the front, where the folder said before what the mark begins with
pub front-kept : {A : Type 0} (held there : Option HeldFiles) (kept : Bool) (found : List (Option Came)) (front : List ℕ) (old new : Option HeldFiles)
    (r : Result A WorkFault) → there ≡ held → 2 ≤ length found → IfSome held (λ h. FetchesAll (h Mark) most_file front)
    → OnOk r (IfSome there (λ h. IsKeptFrom h kept (take (length found - 1) found) front old new)) → OnOk r (IfSome held (λ h. IsKept h kept found old new))
front-kept held there kept found front old new (Err fault) same two reads from = tt
front-kept held there kept found front old new (Ok x) same two reads from =
    by held reads (subst (λ (o : Option HeldFiles). IfSome o (λ h. IsKeptFrom h kept (take (length found - 1) found) front old new)) same from) where
      by : (o : Option HeldFiles) → IfSome o (λ h. FetchesAll (h Mark) most_file front)
          → IfSome o (λ h. IsKeptFrom h kept (take (length found - 1) found) front old new) → IfSome o (λ h. IsKept h kept found old new)
      by None reads from = tt
      by (Some h) reads from = Front front two reads from

pub ruleset fronts = (have-fronts, done-fronts)
