-- What `pieces` tells of a refused job is what the whole file has.
use Rattle.std.proofs.Common.{◌≡◌, ℕ, zero, suc, ◌+◌, ◌<◌, Bool, true, false, List, [], ◌∷◌, ◌++◌, length, refl, sym, ap, ◌∙◌, subst, arith}
use Rattle.std.specs.Prelude.{Option, None, Some, Ok, Err}
use Rattle.std.proofs.lemmas.Bool.{ne_eqb}
use Rattle.std.proofs.lemmas.List.{length-append}
use Rattle.csv_cuts.specs.Cut.{AreCut}
use Rattle.csv_cuts.specs.Faults.{IsOfRecord, header_behind, moved, records_of}
use Rattle.csv_streams.specs.Records.{csv_records}
use Rattle.csv_streams.specs.Rows.{rows_of_file}
use Rattle.csv_streams.specs.declared.fault.InFault.{InFault}
use Rattle.csv_streams.specs.declared.fault.InFault.TheVariants as fault
use Rattle.piece_files.specs.Held.{HeldFiles}
use Rattle.piece_files.specs.Inputs.{HaveInputs}
use Rattle.piece_files.specs.declared.file.JobFile.TheVariants.{Program, Input, Err as Told}
use Rattle.piece_jobs.specs.Jobs.{has_header}
use Rattle.piece_jobs.specs.Looked.{AreCame}
use Rattle.piece_jobs.specs.Next.{IsNext, HasFault, IsTold, OfRecord, AsTold, outs_of}
use Rattle.piece_keep.specs.Fed.{records_held}
use Rattle.piece_jobs.specs.Plan.{most_text}
use Rattle.piece_jobs.specs.UnderWay.{IsUnderWay, OldPart, progress_of, records_of_old}
use Rattle.piece_jobs.specs.declared.going_on.Next.TheVariants as next
use Rattle.piece_jobs.specs.declared.looking.Came.{Came}
use Rattle.piece_jobs.specs.declared.progress.Progress.{Progress}
use Rattle.piece_work.specs.Faults.{most_file}
use Rattle.piece_work.specs.Held.{bytes_of}
use Rattle.river_pieces.specs.Refused.{HasFileFault}
use Rattle.river_pieces.specs.Whole.{ArePrinted}
use Rattle.river_pieces.proofs.Refused.{first_fault_is_the_wholes}
use Rattle.saw_front.specs.Meaning.{compiled, program_in}
use Rattle.saw_front.proofs.Fronts.{means_what_it_has}
use Rattle.saw_model.specs.Meaning.{width}
use Rattle.run_pieces.specs.Refused.{told_of}
use Rattle.run_pieces.specs.Driver.{AreCalls, DriverTellsTheWhole, TellsTheWhole, OfTheWhole, OfTheJob}
use Rattle.run_pieces.proofs.Driver.{are-run, got-is, held-is, progress-is}
use Rattle.run_pieces.proofs.Whole.{all-printed}

-- THE JOBS BEFORE

pub record Parted (pieces : List (List ℕ)) (place : ℕ) : Type 0 where
  pub before : List (List ℕ)
  pub piece : List ℕ
  pub after : List (List ℕ)
  pub is : pieces ≡ before ++ piece ∷ after
  pub many : length before ≡ place

pub parted : (pieces : List (List ℕ)) (place : ℕ) → place < length pieces → Parted pieces place
parted [] place l = absurd (omega (arith, l))
parted (x ∷ xs) zero l = record { before = []; piece = x; after = xs; is = refl; many = refl }
parted (x ∷ xs) (suc place) l =
    let p = parted xs place (omega (arith, l)) in
    record { before = x ∷ p.before; piece = p.piece; after = p.after; is = ap (λ (ps : List (List ℕ)). x ∷ ps) p.is; many = ap suc p.many }

pub front-calls : (text : List ℕ) (header : Bool) (w : HeldFiles) (job : ℕ) (before more : List (List ℕ)) → AreCalls text header w job (before ++ more)
    → AreCalls text header w job before
front-calls text header w job [] more calls = tt
front-calls text header w job (x ∷ xs) more calls = (calls.0, front-calls text false w (suc job) xs more calls.1)

pub front-came : (w : HeldFiles) (turns job : ℕ) (before more : List (Option Came)) → AreCame w turns job (before ++ more) → AreCame w turns job before
front-came w turns job [] more came = tt
front-came w turns job (c ∷ cs) more came = (came.0, front-came w turns (suc job) cs more came.1)

input-is : (w : HeldFiles) (job : ℕ) (before : List (List ℕ)) (piece : List ℕ) (after : List (List ℕ)) → HaveInputs w job (before ++ piece ∷ after)
    → w (Input (job + length before)) ≡ Some piece
input-is w job [] piece after h =
    let k : job + 0 ≡ job = omega arith in
    ap (λ (n : ℕ). w (Input n)) k ∙ h.0
input-is w job (x ∷ xs) piece after h =
    let k : job + suc (length xs) ≡ suc job + length xs = omega arith in
    ap (λ (n : ℕ). w (Input n)) k ∙ input-is w (suc job) xs piece after h.1

pub front-inputs : (w : HeldFiles) (job : ℕ) (before more : List (List ℕ)) → HaveInputs w job (before ++ more) → HaveInputs w job before
front-inputs w job [] more h = tt
front-inputs w job (x ∷ xs) more h = (h.0, front-inputs w (suc job) xs more h.1)

records-are : (w : HeldFiles) (k : ℕ) (before : List (List ℕ)) → HaveInputs w (suc k) before
    → records_held w (k + length before) ≡ records_held w k + records_of before
records-are w k [] h =
    let j : k + 0 ≡ k = omega arith in
    let e : records_held w k ≡ records_held w k + 0 = omega arith in
    ap (records_held w) j ∙ e
records-are w k (x ∷ xs) h =
    let j : k + suc (length xs) ≡ suc k + length xs = omega arith in
    let here : records_held w (suc k) ≡ records_held w k + length (csv_records x) =
    ap (λ (o : Option (List ℕ)). records_held w k + length (csv_records (bytes_of o))) h.0 in
    let more = records-are w (suc k) xs h.1 in
    let sum : (a b c d : ℕ) → b ≡ a + c → b + d ≡ a + (c + d) = λ a b c d e. omega (arith, e) in
    ap (records_held w) j ∙ more ∙ sum (records_held w k) (records_held w (suc k)) (length (csv_records x)) (records_of xs) here

-- so many from the first on
pub records-first : (w : HeldFiles) (before : List (List ℕ)) → HaveInputs w 1 before → records_held w (length before) ≡ records_of before
records-first w before h =
    let a : length before ≡ 0 + length before = omega arith in
    let b : 0 + records_of before ≡ records_of before = omega arith in
    ap (records_held w) a ∙ records-are w 0 before h ∙ b

-- the header belongs to the first
header-is : (header : Bool) (before : List (List ℕ)) (place : ℕ) → length before ≡ place → has_header header (place + 1) ≡ header_behind header before
header-is true [] place many = ap (λ (n : ℕ). has_header true (n + 1)) (sym many)
header-is false [] place many = refl
header-is true (x ∷ xs) place many = ne_eqb (place + 1) 1 (λ e. absurd (omega (arith, many, e)))
header-is false (x ∷ xs) place many = refl

-- THE FAULT

pub file-fault : (text : List ℕ) (pieces : List (List ℕ)) (header : Bool) (old : Option OldPart) (w : HeldFiles) (place : ℕ) (f : InFault) → IsUnderWay text header old pieces w
    → (p : Parted pieces place) → HasFault w header (place + 1) f → HasFileFault text p.piece (header_behind header p.before) f
file-fault text pieces header old w place f u p has =
    let same = held-is (w Program) most_text has.has.text text has.has.reads u.program in
    let a = has.has.is.program in
    let m = (means_what_it_has text (Ok a)).0 (ap compiled (sym same) ∙ has.has.is.compiles) in
    let many = p.many in
    let k : 1 + length p.before ≡ place + 1 = omega (arith, many) in
    let there = sym (ap (λ (n : ℕ). w (Input n)) k)
    ∙ input-is w 1 p.before p.piece p.after (subst (HaveInputs w 1) p.is u.inputs) in
    let bytes = held-is (w (Input (place + 1))) most_file has.piece p.piece has.reads there in
    record {
      units = a.units;
      read = a.read;
      is_text = m.0;
      accepted = m.1;
      fault =
          subst (λ (b : List ℕ). rows_of_file b (width (program_in a)) (header_behind header p.before) true ≡ Err f) bytes
          (subst (λ (begins : Bool). rows_of_file has.piece (width (program_in a)) begins true ≡ Err f) (header-is header p.before place p.many) has.fault);
    }

pub moved-record : (n : ℕ) (f : InFault) → IsOfRecord f → IsOfRecord (moved n f)
moved-record n (fault.Width rec) h = tt
moved-record n (fault.NotNumber rec field) h = tt
moved-record n (fault.Backwards rec) h = tt
moved-record n (fault.NegativeTime rec) h = tt
moved-record n fault.TooMany h = h
moved-record n fault.NoMemory h = h

-- THE FIRST REFUSED JOB

-- It has the fault that is told, the jobs before it are run, and so many records stand before its own.
pub record FirstRefused (text : List ℕ) (header : Bool) (old : Option OldPart) (pieces : List (List ℕ)) (w : HeldFiles) (told : List ℕ) : Type 0 where
  pub before : List (List ℕ)
  pub piece : List ℕ
  pub after : List (List ℕ)
  pub is : pieces ≡ before ++ piece ∷ after
  pub outs : List (List ℕ)
  pub printed : ArePrinted text header before outs
  pub f : InFault
  pub fault : HasFileFault text piece (header_behind header before) f
  pub of_record : IsOfRecord f
  pub told_is : told ≡ told_of (moved (records_of_old old + records_of before) f)

-- either this, or the job told something else
pub data HasRefused (text : List ℕ) (header : Bool) (old : Option OldPart) (pieces : List (List ℕ)) (w : HeldFiles) (told : List ℕ) : Type 0 where
  First : FirstRefused text header old pieces w told → HasRefused text header old pieces w told
  Itself : (job turn : ℕ) → told ≡ bytes_of (w (Told job turn)) → HasRefused text header old pieces w told

pub first-refused : (text : List ℕ) (header : Bool) (old : Option OldPart) (pieces : List (List ℕ)) (w : HeldFiles) (w' : Option HeldFiles) (told : List ℕ)
    → IsUnderWay text header old pieces w → AreCalls text header w 1 pieces → IsNext w w' (next.Refused told) → HasRefused text header old pieces w told
first-refused text header old pieces w w' told u calls n = by n.follows.3 where
  q : n.progress ≡ progress_of header old (length pieces) u.turn
  q = progress-is text header old pieces w n.progress u n.reads

  place : ℕ
  place = n.follows.0

  turn : ℕ
  turn = n.follows.1

  by : IsTold w n.progress.header n.progress.before place turn told → HasRefused text header old pieces w told
  by (AsTold none reads) = Itself (place + 1) turn (sym (got-is (w (Told (place + 1) turn)) most_file told reads))
  by (OfRecord f has e) =
      let verdict = n.follows.2.1 in
      let many : length n.found ≡ length pieces = n.many ∙ ap (λ (p : Progress). p.jobs) q in
      let behind = ap length verdict.is ∙ length-append verdict.before (_ ∷ verdict.after) in
      let at = verdict.many in
      let p = parted pieces place (omega (arith, many, behind, at)) in
      let first = p.many in
      let has' = subst (λ (h : Bool). HasFault w h (place + 1) f) (ap (λ (r : Progress). r.header) q) has in
      let came = front-came w n.progress.turn 1 verdict.before _ (subst (AreCame w n.progress.turn 1) verdict.is n.came) in
      let before-calls = front-calls text header w 1 p.before (p.piece ∷ p.after) (subst (AreCalls text header w 1) p.is calls) in
      let runs = are-run text header w n.progress.turn 1 p.before verdict.before (omega (arith, first, at)) came verdict.all before-calls in
      let inputs = front-inputs w 1 p.before (p.piece ∷ p.after) (subst (HaveInputs w 1) p.is u.inputs) in
      let records : records_held w place ≡ records_of p.before = ap (records_held w) (sym p.many) ∙ records-first w p.before inputs in
      let old-records : n.progress.before ≡ records_of_old old = ap (λ (r : Progress). r.before) q in
      First (record {
        before = p.before;
        piece = p.piece;
        after = p.after;
        is = p.is;
        outs = outs_of w 1 verdict.before;
        printed = all-printed text header p.before (outs_of w 1 verdict.before) runs;
        f = f;
        fault = file-fault text pieces header old w place f u p has';
        of_record = has.of_record;
        told_is = e ∙ ap (λ (k : ℕ). told_of (moved (n.progress.before + k) f)) records ∙ ap (λ (k : ℕ). told_of (moved (k + records_of p.before) f)) old-records;
      })

-- what is told is what the whole file has
pub driver_tells_the_whole : DriverTellsTheWhole
driver_tells_the_whole text bytes header pieces w w' told cut u calls n = by (first-refused text header None pieces w w' told u calls n) where
  by : HasRefused text header None pieces w told → TellsTheWhole text bytes header w told
  by (Itself job turn e) = OfTheJob job turn e
  by (First r) =
      let none : 0 + records_of r.before ≡ records_of r.before = omega arith in
      OfTheWhole (moved (records_of r.before) r.f)
      (first_fault_is_the_wholes text bytes header r.before r.piece r.after r.outs r.f (subst (λ (ps : List (List ℕ)). AreCut bytes header ps) r.is cut) r.printed
      r.fault r.of_record)
      (moved-record (records_of r.before) r.f r.of_record) (r.told_is ∙ ap (λ (k : ℕ). told_of (moved k r.f)) none)
