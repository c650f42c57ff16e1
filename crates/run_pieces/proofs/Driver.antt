-- What the calls of `pieces` and those of `river` come to.
use Rattle.std.proofs.Common.{◌≡◌, ℕ, suc, ◌+◌, Bool, false, List, [], ◌∷◌, ◌++◌, length, refl, sym, ap, ◌∙◌, subst, arith}
use Rattle.std.specs.Prelude.{Option, None, Some}
use Rattle.std.specs.List.{AllByRecursion}
use Rattle.piece_files.specs.Held.{HeldFiles}
use Rattle.piece_files.specs.Inputs.{HaveInputs}
use Rattle.piece_files.specs.declared.file.JobFile.TheVariants.{Program, State, Kept, Input, Out}
use Rattle.piece_jobs.specs.Came.{Ended}
use Rattle.piece_jobs.specs.Looked.{AreCame}
use Rattle.piece_jobs.specs.Next.{ReadsProgress, kept_texts, outs_of}
use Rattle.piece_jobs.specs.Plan.{most_text}
use Rattle.river_plan.specs.Forms.{PlanForm}
use Rattle.piece_jobs.specs.Progress.{SaysProgress, progress_text}
use Rattle.piece_jobs.specs.UnderWay.{HasOld, IsUnderWay, OldPart, progress_of}
use Rattle.piece_jobs.specs.Verdict.{IsDone}
use Rattle.piece_jobs.specs.declared.looking.Came.{Came}
use Rattle.piece_jobs.specs.declared.progress.Progress.{Progress}
use Rattle.piece_jobs.proofs.Progressed.{texts_say_progress, one_progress}
use Rattle.piece_merge.specs.Added.{IsMergeOf}
use Rattle.piece_work.specs.Faults.{most_file}
use Rattle.piece_work.specs.Held.{bytes_of}
use Rattle.river_outside.specs.Fetched.{FetchesAll}
use Rattle.saw_front.specs.Meaning.{compiled}
use Rattle.run_pieces.specs.Driver.{AreCalls, DriverGivesTheWhole, AgainStaysUnderWay}
use Rattle.run_pieces.specs.Ran.{Ran}
use Rattle.run_pieces.specs.Whole.{AreRun}
use Rattle.run_pieces.proofs.Whole.{river_gives_the_whole}

-- the bytes of a file that is held
pub held-is : (o : Option (List ℕ)) (limit : ℕ) (got bytes : List ℕ) → FetchesAll o limit got → o ≡ Some bytes → got ≡ bytes
held-is None limit got bytes f e = absurd (cc e)
held-is (Some b) limit got bytes f e = f.0 ∙ ap bytes_of e

-- and those that were fetched
pub got-is : (o : Option (List ℕ)) (limit : ℕ) (got : List ℕ) → FetchesAll o limit got → bytes_of o ≡ got
got-is None limit got f = absurd f
got-is (Some b) limit got f = sym f.0

-- THE PROGRESS

-- the progress that is read is that which was written
pub progress-is : (text : List ℕ) (header : Bool) (old : Option OldPart) (pieces : List (List ℕ)) (w : HeldFiles) (p : Progress)
    → (u : IsUnderWay text header old pieces w) → ReadsProgress w p → p ≡ progress_of header old (length pieces) u.turn
progress-is text header old pieces w p u r =
    let q = progress_of header old (length pieces) u.turn in
    let same = held-is (w State) most_file r.text (progress_text q) r.reads u.state in
    one_progress (progress_text q) p q (subst (λ (t : List ℕ). SaysProgress t p) same r.says) (texts_say_progress q (u.few, (u.tries, u.few_old)))

-- THE RUNS

-- jobs that are done are runs
pub are-run : (text : List ℕ) (header : Bool) (w : HeldFiles) (turns job : ℕ) (pieces : List (List ℕ)) (found : List (Option Came)) → length found ≡ length pieces
    → AreCame w turns job found → AllByRecursion IsDone found → AreCalls text header w job pieces → AreRun text header pieces (outs_of w job found)
are-run text header w turns job [] [] many came done calls = tt
are-run text header w turns job [] (c ∷ cs) many came done calls = absurd (omega (arith, many))
are-run text header w turns job (x ∷ xs) [] many came done calls = absurd (omega (arith, many))
are-run text header w turns job (x ∷ xs) (None ∷ cs) many came done calls = absurd done.0
are-run text header w turns job (x ∷ xs) (Some c ∷ cs) many came done calls =
    let ended = subst (Ended w job c.turn) done.0 came.0.ended in
    let out = got-is (w (Out job c.turn)) most_file ended.out ended.came.printed in (
      subst (Ran text x header) (sym out) (calls.0 c.turn ended.out ended.err ended.came),
      are-run text false w turns (suc job) xs cs (omega (arith, many)) came.1 done.1 calls.1,
    )

-- what is written is what the program means for the whole file
pub driver_gives_the_whole : DriverGivesTheWhole
driver_gives_the_whole text bytes header pieces w w' cut u calls n =
    let p = progress-is text header None pieces w n.progress u n.reads in
    let many : length n.found ≡ length pieces = n.many ∙ ap (λ (q : Progress). q.jobs) p in
    let runs = are-run text header w n.progress.turn 1 pieces n.found many n.came n.follows.0 calls in
    let fin = n.follows.1 in
    let same = held-is (w Program) most_text fin.has.text text fin.has.reads u.program in
    let a = fin.has.is.program in
    let merge = subst (λ (kept : Bool). IsMergeOf fin.plan.tables (kept_texts w kept ++ outs_of w 1 n.found) fin.text) (ap (λ (q : Progress). q.kept) p) fin.merge in
    record {
      out = fin.text;
      put = fin.put;
      means =
          river_gives_the_whole text bytes header a pieces (outs_of w 1 n.found) fin.text (ap compiled (sym same) ∙ fin.has.is.compiles) cut runs
          (subst (λ (plan : PlanForm). IsMergeOf plan.tables (outs_of w 1 n.found) fin.text) fin.has.is.is merge);
    }

-- ONCE MORE

inputs-stay : (w v : HeldFiles) (job : ℕ) (pieces : List (List ℕ)) → ((n : ℕ) → v (Input n) ≡ w (Input n)) → HaveInputs w job pieces → HaveInputs v job pieces
inputs-stay w v job [] same h = tt
inputs-stay w v job (x ∷ xs) same h = (same job ∙ h.0, inputs-stay w v (suc job) xs same h.1)

-- what is kept stays
old-stays : (w v : HeldFiles) (old : Option OldPart) → v Kept ≡ w Kept → HasOld old w → HasOld old v
old-stays w v None same h = tt
old-stays w v (Some part) same h = same ∙ h

-- the work is still under way
pub again_stays_under_way : AgainStaysUnderWay
again_stays_under_way text header old pieces w None u n = absurd n.follows.3
again_stays_under_way text header old pieces w (Some v) u n =
    let p = progress-is text header old pieces w n.progress u n.reads in
    let retried = n.follows.3 in
    let few = n.follows.0 in (
      refl,
      record {
        program = retried.others Program (λ e. cc e) (λ e. cc e) ∙ u.program;
        inputs = inputs-stay w v 1 pieces (λ job. retried.others (Input job) (λ e. cc e) (λ e. cc e)) u.inputs;
        has_old = old-stays w v old (retried.others Kept (λ e. cc e) (λ e. cc e)) u.has_old;
        few = u.few;
        few_old = u.few_old;
        turn = n.progress.turn + 1;
        tries = omega (arith, few);
        state =
            retried.state ∙ ap
            (λ (q : Progress). Some (progress_text (record { jobs = q.jobs; header = q.header; turn = n.progress.turn + 1; kept = q.kept; before = q.before }))) p;
      },
    )
