-- Why it is not known what is next: what was so of a later step is so of the whole.
use Rattle.std.proofs.Common.{◌≡◌, ℕ, ◌≤◌, Bool, List, inl, subst}
use Rattle.std.specs.Prelude.{Option, None, Some, IfSome, Result, Ok, Err, IfOk, IfErr}
use Rattle.river_outside.specs.Causes.{Rose}
use Rattle.river_outside.specs.Fetched.{FetchesAll}
use Rattle.river_outside.proofs.Counts.{rose_before}
use Rattle.piece_files.specs.Held.{HeldFiles}
use Rattle.piece_files.specs.declared.file.JobFile.TheVariants.{State, Program}
use Rattle.piece_work.specs.declared.fault.WorkFault.{WorkFault}
use Rattle.piece_work.specs.declared.fault.WorkFault.TheVariants as why
use Rattle.piece_work.specs.Faults.{most_file}
use Rattle.piece_jobs.specs.Fetched.{WhyUnfetched, WhyUnseen}
use Rattle.piece_jobs.specs.Next.{WhyNotNext}
use Rattle.piece_jobs.specs.Plan.{WhyRefused, most_text}
use Rattle.piece_jobs.specs.Progress.{WhyNoProgress}

-- so of what is given
pub ok-map : {A E : Type 0} (P Q : A → Type 0) (r : Result A E) → ((a : A) → P a → Q a) → IfOk r P → IfOk r Q
ok-map P Q (Ok x) f h = f x h
ok-map P Q (Err e) f h = tt

-- a fault's cause by another
pub err-map : {A E : Type 0} (P Q : E → Type 0) (r : Result A E) → ((e : E) → P e → Q e) → IfErr r P → IfErr r Q
err-map P Q (Ok x) f h = tt
err-map P Q (Err e) f h = f e h

-- where the folder's count rose since, it rose since before
same-by : (held : Option HeldFiles) (early late : Type 0) (fault : WorkFault) → (late → early) → WhyNotNext held late fault → WhyNotNext held early fault
same-by None early late why.Absent sooner w = sooner w
same-by (Some h) early late why.Absent sooner w = w
same-by held early late why.Unread sooner w = sooner w
same-by held early late why.Large sooner w = w
same-by held early late why.NoMemory sooner w = w
same-by held early late why.Unwritten sooner w = sooner w
same-by held early late why.Program sooner w = w
same-by held early late why.Other sooner w = w

-- a later step over the same files
pub later-why : (held there : Option HeldFiles) (s : Bool) (first before now : ℕ) (fault : WorkFault) → there ≡ held → first ≤ before
    → WhyNotNext there (Rose s before now) fault → WhyNotNext held (Rose s first now) fault
later-why held there s first before now fault same later w =
    same-by held (Rose s first now) (Rose s before now) fault (rose_before s first before now later)
    (subst (λ (o : Option HeldFiles). WhyNotNext o (Rose s before now) fault) same w)

-- a job that is not seen
pub unseen-why : (held : Option HeldFiles) (rose : Type 0) (fault : WorkFault) → WhyUnseen rose fault → WhyNotNext held rose fault
unseen-why held rose why.Absent w = absurd w
unseen-why held rose why.Unread w = w
unseen-why held rose why.Large w = absurd w
unseen-why held rose why.NoMemory w = tt
unseen-why held rose why.Unwritten w = absurd w
unseen-why held rose why.Program w = absurd w
unseen-why held rose why.Other w = absurd w

-- the progress is not read
pub unread-state-why : (held : Option HeldFiles) (rose : Type 0) (fault : WorkFault) → WhyUnfetched held rose State fault → WhyNotNext held rose fault
unread-state-why None rose why.Absent w = w
unread-state-why (Some h) rose why.Absent w = inl w
unread-state-why held rose why.Unread w = w
unread-state-why None rose why.Large w = tt
unread-state-why (Some h) rose why.Large w = inl w
unread-state-why held rose why.NoMemory w = tt
unread-state-why held rose why.Unwritten w = absurd w
unread-state-why held rose why.Program w = absurd w
unread-state-why held rose why.Other w = absurd w

-- or says nothing
pub no-progress-why : (held : Option HeldFiles) (rose : Type 0) (text : List ℕ) (fault : WorkFault)
    → IfSome held (λ h. FetchesAll (h State) most_file text) → WhyNoProgress text fault → WhyNotNext held rose fault
no-progress-why held rose text why.Absent f w = absurd w
no-progress-why held rose text why.Unread f w = absurd w
no-progress-why held rose text why.Large f w = absurd w
no-progress-why held rose text why.NoMemory f w = tt
no-progress-why held rose text why.Unwritten f w = absurd w
no-progress-why held rose text why.Program f w = absurd w
no-progress-why None rose text why.Other f w = tt
no-progress-why (Some h) rose text why.Other f w = inl (record { text = text; reads = f; none = w })

-- the program is refused
pub refused-why : (held : Option HeldFiles) (rose : Type 0) (text : List ℕ) (fault : WorkFault)
    → IfSome held (λ h. FetchesAll (h Program) most_text text) → WhyRefused text fault → WhyNotNext held rose fault
refused-why held rose text why.Absent f w = absurd w
refused-why held rose text why.Unread f w = absurd w
refused-why held rose text why.Large f w = absurd w
refused-why held rose text why.NoMemory f w = tt
refused-why held rose text why.Unwritten f w = absurd w
refused-why None rose text why.Program f w = tt
refused-why (Some h) rose text why.Program f w = record { text = text; reads = f; refused = w }
refused-why held rose text why.Other f w = absurd w

pub ruleset laters = (later-why)
