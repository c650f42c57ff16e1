-- What is told where a job was refused.
use Rattle.std.proofs.Common.{◌≡◌, ℕ, suc, ◌+◌, ◌≤◌, ℤ, Bool, true, inr, List, [], length, refl, sym, ap, ◌∙◌, subst, arith}
use Rattle.std.specs.Prelude.{Option, None, Some, IfSome, Result, Ok, Err}
use Rattle.river_outside.specs.Fetched.{FetchesAll}
use Rattle.river_plan.specs.Forms.{PlanForm}
use Rattle.csv_cuts.specs.Faults.{IsOfRecord}
use Rattle.csv_cuts.proofs.Marks.{counts_are_records}
use Rattle.csv_streams.specs.Records.{csv_records}
use Rattle.csv_streams.specs.Rows.{rows_of_file}
use Rattle.csv_streams.specs.declared.fault.InFault.{InFault}
use Rattle.piece_files.specs.Held.{HeldFiles}
use Rattle.piece_files.specs.declared.file.JobFile.TheVariants.{Program, Input, Err as Told}
use Rattle.piece_work.specs.declared.fault.WorkFault.{WorkFault}
use Rattle.piece_work.specs.declared.fault.WorkFault.TheVariants as why
use Rattle.piece_work.specs.Faults.{most_file}
use Rattle.piece_work.specs.Held.{bytes_of}
use Rattle.saw_model.specs.Elaborate.{nothing_read}
use Rattle.saw_model.specs.Meaning.{width}
use Rattle.saw_model.proofs.Formed.{parts_reach}
use Rattle.saw_model.proofs.Parts.{reads_parts}
use Rattle.saw_front.specs.Meaning.{Accepted, program_in, compiled}
use Rattle.saw_front.specs.declared.fault.SawFault.{SawFault}
use Rattle.saw_front.proofs.Fronts.{compiled-judged}
use Rattle.piece_jobs.specs.Came.{Ended}
use Rattle.piece_jobs.specs.Fetched.{IsFound, WhyUnfetched}
use Rattle.piece_jobs.specs.Jobs.{has_header}
use Rattle.piece_jobs.specs.Next.{WhyNotNext, IsTold, OfRecord, AsTold, fault_text}
use Rattle.piece_keep.specs.Fed.{records_held}
use Rattle.piece_jobs.specs.Plan.{IsPlanOf, HasPlan, HasNoPlan, most_text}
use Rattle.piece_jobs.specs.Told.{IsFaultIn, IsFaultOf, IsWidthOf}
use Rattle.piece_jobs.specs.declared.came.Ending.{Ending}

-- ONE PROGRAM

same-bytes : (o : Option (List ℕ)) (limit : ℕ) (got other : List ℕ) → FetchesAll o limit got → FetchesAll o limit other → got ≡ other
same-bytes None limit got other f g = absurd f
same-bytes (Some bytes) limit got other f g = f.0 ∙ sym g.0

in-ok : Result Accepted SawFault → Accepted → Accepted
in-ok (Ok a) d = a
in-ok (Err f) d = d

ok-same : (a b : Accepted) → (r : Result Accepted SawFault) → r ≡ Ok a → r ≡ Ok b → a ≡ b
unfolding in-ok
ok-same a b r e f = ap (λ (o : Result Accepted SawFault). in-ok o a) (sym e ∙ f)

one-program : (h : HeldFiles) (p q : PlanForm) (a : HasPlan h p) (b : HasPlan h q) → a.is.program ≡ b.is.program
one-program h p q a b =
    let same = same-bytes (h Program) most_text a.text b.text a.reads b.reads in
    ok-same a.is.program b.is.program (compiled a.text) a.is.compiles (ap compiled same ∙ b.is.compiles)

refused-or-not : (h : HeldFiles) (p : PlanForm) → HasNoPlan h → HasPlan h p → ⊥
refused-or-not h p n a =
    let same = same-bytes (h Program) most_text n.text a.text n.reads a.reads in
    cc (sym n.refused.is ∙ ap compiled same ∙ a.is.compiles)

-- its records have 1 to 16 fields
pub width-some : (text : List ℕ) (plan : PlanForm) (is : IsPlanOf text plan) → 1 ≤ width (program_in is.program)
width-some text plan is = omega arith

pub width-most : (text : List ℕ) (plan : PlanForm) (is : IsPlanOf text plan) → width (program_in is.program) ≤ 16
width-most text plan is =
    let j = compiled-judged text is.program is.compiles in
    let reach = parts_reach (program_in is.program) nothing_read is.program.read (reads_parts 1 (program_in is.program) nothing_read is.program.read j) in
    omega (arith, reach)

-- THE FAULT OF A JOB

-- none where the program is refused
pub no-width : (held there : Option HeldFiles) (begins : Bool) (job : ℕ) → there ≡ held → IfSome held (λ h. IsWidthOf h None)
    → IfSome held (λ h. IsFaultOf h begins job None)
no-width None there begins job same w = tt
no-width (Some h) there begins job same w = λ f has. refused-or-not h has.plan w has.has

none-found : (o : Option (List ℕ)) (bytes : List ℕ) → IsFound o None → FetchesAll o most_file bytes → ⊥
none-found o bytes none f = none bytes f

-- nor where the records are not read
pub no-piece : (held there : Option HeldFiles) (begins : Bool) (job : ℕ) → there ≡ held → IfSome there (λ h. IsFound (h (Input job)) None)
    → IfSome held (λ h. IsFaultOf h begins job None)
no-piece held there begins job same found = by held (subst (λ (o : Option HeldFiles). IfSome o (λ h. IsFound (h (Input job)) None)) same found) where
  by : (o : Option HeldFiles) → IfSome o (λ h. IsFound (h (Input job)) None) → IfSome o (λ h. IsFaultOf h begins job None)
  by None found = tt
  by (Some h) found = λ f has. none-found (h (Input job)) has.piece found has.reads

fault-of : (h : HeldFiles) (begins : Bool) (job w : ℕ) (piece : List ℕ) (found : Option InFault) → IsWidthOf h (Some w) → FetchesAll (h (Input job)) most_file piece
    → IsFaultIn (rows_of_file piece w begins true) found → IsFaultOf h begins job found
fault-of h begins job w piece (Some f) (plan, has, e) reads is = record {
  plan = plan;
  has = has;
  piece = piece;
  reads = reads;
  fault = subst (λ (n : ℕ). rows_of_file piece n begins true ≡ Err f) e is.0;
  of_record = is.1;
}
fault-of h begins job w piece None (plan, has, e) reads is = λ f other.
    let same : width (program_in other.has.is.program) ≡ w = ap (λ (a : Accepted). width (program_in a)) (one-program h other.plan plan other.has has) ∙ sym e in
    let bytes = same-bytes (h (Input job)) most_file other.piece piece other.reads reads in
    is f (subst (λ (b : List ℕ). rows_of_file b w begins true ≡ Err f) bytes
    (subst (λ (n : ℕ). rows_of_file other.piece n begins true ≡ Err f) same other.fault)) other.of_record

-- otherwise that of the records
pub piece-fault : (held there : Option HeldFiles) (begins : Bool) (job w : ℕ) (piece : List ℕ) (found : Option InFault) → there ≡ held
    → IfSome held (λ h. IsWidthOf h (Some w)) → IfSome there (λ h. IsFound (h (Input job)) (Some piece)) → IsFaultIn (rows_of_file piece w begins true) found
    → IfSome held (λ h. IsFaultOf h begins job found)
piece-fault held there begins job w piece found same has reads is =
    by held has (subst (λ (o : Option HeldFiles). IfSome o (λ h. IsFound (h (Input job)) (Some piece))) same reads) where
      by : (o : Option HeldFiles) → IfSome o (λ h. IsWidthOf h (Some w)) → IfSome o (λ h. IsFound (h (Input job)) (Some piece))
          → IfSome o (λ h. IsFaultOf h begins job found)
      by None has reads = tt
      by (Some h) has reads = fault-of h begins job w piece found has reads is

-- a fault that is found is that of a record
pub fault-of-record : (read : Result (List (List ℤ)) InFault) (found : Option InFault) → IsFaultIn read found → IfSome found IsOfRecord
fault-of-record read None is = tt
fault-of-record read (Some f) is = is.1

-- the plan's width
pub plan-width : (held : Option HeldFiles) (plan : PlanForm) (w : ℕ) → IfSome held (λ h. HasPlan h plan)
    → ((text : List ℕ) (is : IsPlanOf text plan) → w ≡ width (program_in is.program)) → IfSome held (λ h. IsWidthOf h (Some w))
plan-width None plan w has is = tt
plan-width (Some h) plan w has is = (plan, has, is has.text has.is)

-- HOW MANY RECORDS STAND BEFORE

-- a file of none has none
no-records : length (csv_records []) ≡ 0
no-records = counts_are_records []

records-there : (o : Option (List ℕ)) (limit : ℕ) (got : List ℕ) → FetchesAll o limit got → got ≡ bytes_of o
records-there None limit got f = absurd f
records-there (Some bytes) limit got f = f.0

-- the records of a job
pub records-read : (held : Option HeldFiles) (job count : ℕ) (got : List ℕ) → IfSome held (λ h. FetchesAll (h (Input job)) most_file got)
    → count ≡ length (csv_records got) → IfSome held (λ h. count ≡ length (csv_records (bytes_of (h (Input job)))))
records-read None job count got f e = tt
records-read (Some h) job count got f e = e ∙ ap (λ (b : List ℕ). length (csv_records b)) (records-there (h (Input job)) most_file got f)

pub records-absent : (held : Option HeldFiles) (rose : Type 0) (job : ℕ) → WhyUnfetched held rose (Input job) why.Absent
    → IfSome held (λ h. 0 ≡ length (csv_records (bytes_of (h (Input job)))))
records-absent None rose job w = tt
records-absent (Some h) rose job w = sym no-records ∙ sym (ap (λ (o : Option (List ℕ)). length (csv_records (bytes_of o))) w)

-- or why they are not read
pub unread-input-why : (held : Option HeldFiles) (rose : Type 0) (job : ℕ) (fault : WorkFault) → (fault ≡ why.Absent → ⊥)
    → WhyUnfetched held rose (Input job) fault → WhyNotNext held rose fault
unread-input-why held rose job why.Absent n w = absurd (n refl)
unread-input-why held rose job why.Unread n w = w
unread-input-why None rose job why.Large n w = tt
unread-input-why (Some h) rose job why.Large n w = inr (inr (inr (job, w)))
unread-input-why held rose job why.NoMemory n w = tt
unread-input-why held rose job why.Unwritten n w = absurd w
unread-input-why held rose job why.Program n w = absurd w
unread-input-why held rose job why.Other n w = absurd w

-- so many so far
abbrev pub CountedSo : Option HeldFiles → ℕ → ℕ → Type 0
CountedSo held job count = IfSome held (λ h. count ≡ records_held h job)

pub counted-first : (held : Option HeldFiles) → CountedSo held 0 0
counted-first None = tt
counted-first (Some h) = refl

pub counted-next : (held there : Option HeldFiles) (job count records sum : ℕ) → there ≡ held → CountedSo held job count
    → IfSome there (λ h. records ≡ length (csv_records (bytes_of (h (Input (job + 1)))))) → sum ≡ count + records → CountedSo held (job + 1) sum
counted-next held there job count records sum same so one e =
    by held so (subst (λ (o : Option HeldFiles). IfSome o (λ h. records ≡ length (csv_records (bytes_of (h (Input (job + 1))))))) same one) where
      by : (o : Option HeldFiles) → CountedSo o job count → IfSome o (λ h. records ≡ length (csv_records (bytes_of (h (Input (job + 1))))))
          → CountedSo o (job + 1) sum
      by None so one = tt
      by (Some h) so one =
          let k : job + 1 ≡ suc job = omega arith in
          e ∙ ap (λ (n : ℕ). n + records) so ∙ ap (λ (n : ℕ). records_held h job + n) (one ∙ ap (λ (j : ℕ). length (csv_records (bytes_of (h (Input j))))) k)
          ∙ ap (records_held h) (sym k)

pub ruleset counts = (counted-first, counted-next)

-- WHAT IS TOLD

-- what a job told that was refused is there
pub told-there : (held there : Option HeldFiles) (job turn : ℕ) (ending : Ending) (text : List ℕ) → there ≡ held → IfSome held (λ h. Ended h job turn ending)
    → IfSome there (λ h. IsFound (h (Told job turn)) None) → IfSome held (λ h. FetchesAll (h (Told job turn)) most_file text)
told-there held there job turn ending text same ended found =
    by held ended (subst (λ (o : Option HeldFiles). IfSome o (λ h. IsFound (h (Told job turn)) None)) same found) where
      by : (o : Option HeldFiles) → IfSome o (λ h. Ended h job turn ending) → IfSome o (λ h. IsFound (h (Told job turn)) None)
          → IfSome o (λ h. FetchesAll (h (Told job turn)) most_file text)
      by None ended found = tt
      by (Some h) ended found = absurd (found ended.err ended.came.told)

pub told-of-record : (held there : Option HeldFiles) (header : Bool) (kept before turn : ℕ) (told : List ℕ) (f : InFault) → there ≡ held
    → IfSome held (λ h. IsFaultOf h (has_header header (before + 1)) (before + 1) (Some f))
    → IfSome there (λ h. told ≡ fault_text (kept + records_held h before) f) → IfSome held (λ h. IsTold h header kept before turn told)
told-of-record held there header kept before turn told f same has is =
    by held has (subst (λ (o : Option HeldFiles). IfSome o (λ h. told ≡ fault_text (kept + records_held h before) f)) same is) where
      by : (o : Option HeldFiles) → IfSome o (λ h. IsFaultOf h (has_header header (before + 1)) (before + 1) (Some f))
          → IfSome o (λ h. told ≡ fault_text (kept + records_held h before) f) → IfSome o (λ h. IsTold h header kept before turn told)
      by None has is = tt
      by (Some h) has is = OfRecord f has is

pub told-as : (held there : Option HeldFiles) (header : Bool) (kept before turn : ℕ) (told : List ℕ) → there ≡ held
    → IfSome held (λ h. IsFaultOf h (has_header header (before + 1)) (before + 1) None)
    → IfSome there (λ h. FetchesAll (h (Told (before + 1) turn)) most_file told) → IfSome held (λ h. IsTold h header kept before turn told)
told-as held there header kept before turn told same none is =
    by held none (subst (λ (o : Option HeldFiles). IfSome o (λ h. FetchesAll (h (Told (before + 1) turn)) most_file told)) same is) where
      by : (o : Option HeldFiles) → IfSome o (λ h. IsFaultOf h (has_header header (before + 1)) (before + 1) None)
          → IfSome o (λ h. FetchesAll (h (Told (before + 1) turn)) most_file told) → IfSome o (λ h. IsTold h header kept before turn told)
      by None none is = tt
      by (Some h) none is = AsTold none is
