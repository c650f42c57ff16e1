-- What the top call does: how it ends, and what each end says of the files, of the work folder and of the two sinks.
use Rattle.std.specs.Prelude.{◌≡◌, ◌⊎◌, ℕ, List, [], Bool, true, false, Option, None, Some, IfSome, Result, Ok, Err}
use Rattle.river_outside.specs.Fetched.{FetchesAll}
use Rattle.river_outside.specs.Held.{Held}
use Rattle.piece_begin.specs.Begun.{Begun}
use Rattle.piece_begin.specs.Faults.{WhyNotBegun, WhyNotBegunKept}
use Rattle.piece_begin.specs.Grown.{IsBegunKept}
use Rattle.piece_begin.specs.Printed.{Printed, WhyNotPrinted}
use Rattle.piece_files.specs.Held.{HeldFiles, IfHeld}
use Rattle.piece_files.specs.declared.file.JobFile.TheVariants.{Whole, Err as Tried}
use Rattle.piece_jobs.specs.Keeping.{KeepsNext, WhyNotKept}
use Rattle.piece_jobs.specs.Next.{IsNext, WhyNotNext}
use Rattle.piece_jobs.specs.declared.going_on.Next.{Next}
use Rattle.piece_jobs.specs.declared.going_on.Next.TheVariants as next
use Rattle.piece_work.specs.declared.fault.WorkFault.{WorkFault}
use Rattle.piece_work.specs.declared.fault.WorkFault.TheVariants as why
use Rattle.piece_cli.specs.Sentences as words
use Rattle.piece_cli.specs.Text.{Told, ToldFault, TookNothing, changed_text, lost_text, refused_text, usage_text}

-- how many bytes a piece has at most, 64 MiB, and how many bytes are shown of what the last try of a lost job told
abbrev pub most_bytes : ℕ
most_bytes = 67108864

abbrev pub most_shown : ℕ
most_shown = 65536

-- In all of it `held` and `old` are what the files and the work folder held before, where it is told, and `new` what the folder holds then; `rose` says that
-- the count of faults of the files rose, and `lost` that of the folder. Of a sink it is told what it had taken before, what it has taken then, and that its
-- count rose. Want of memory is free.

-- THE FIRST CALL

-- what came of it: so many jobs, or a fault. No piece is to have more than `most` bytes
abbrev pub HasBegun : ℕ → List ℕ → List ℕ → Bool → Option Held → Type 0 → Option HeldFiles → Option HeldFiles → Type 0 → Result ℕ WorkFault → Type 0
HasBegun most program file header held rose old new lost (Ok jobs) = IfSome held (λ h. Begun (h program) (h file) header jobs old new)
HasBegun most program file header held rose old new lost (Err fault) = WhyNotBegun held rose lost most program file fault

-- how it is told: nothing is, and the status is 10, or the fault is
abbrev pub TellsBegun : Result ℕ WorkFault → Option (List ℕ) → Option (List ℕ) → Type 0 → ℕ → Type 0
TellsBegun (Ok jobs) err err' err_rose status = (status ≡ 10) × TookNothing err err'
TellsBegun (Err fault) err err' err_rose status = ToldFault fault err err' err_rose status

pub record BeginEnds (most : ℕ) (program file : List ℕ) (header : Bool) (held : Option Held) (rose : Type 0) (old new : Option HeldFiles) (lost : Type 0)
    (err err' : Option (List ℕ)) (err_rose : Type 0) (status : ℕ) : Type 0 where
  pub came : Result ℕ WorkFault
  pub is : HasBegun most program file header held rose old new lost came
  pub told : TellsBegun came err err' err_rose status

-- the same, where something may be kept in a folder, which holds `keep`
abbrev pub HasBegunKept : ℕ → List ℕ → List ℕ → Bool → Option Held → Type 0 → Option HeldFiles → Option HeldFiles → Type 0 → Option HeldFiles → Type 0
    → Result Bool WorkFault → Type 0
HasBegunKept most program file header held rose old new lost keep keep_lost (Ok changed) =
    IfSome held (λ h. IfHeld keep (λ k. IsBegunKept (h program) (h file) header k changed old new))
HasBegunKept most program file header held rose old new lost keep keep_lost (Err fault) = WhyNotBegunKept held rose lost keep_lost most program file new fault

-- it is told where what is kept is of something else
abbrev pub TellsGrown : Result Bool WorkFault → Option (List ℕ) → Option (List ℕ) → Type 0 → ℕ → Type 0
TellsGrown (Ok false) err err' err_rose status = (status ≡ 10) × TookNothing err err'
TellsGrown (Ok true) err err' err_rose status = Told changed_text 10 err err' err_rose status
TellsGrown (Err fault) err err' err_rose status = ToldFault fault err err' err_rose status

pub record GrownEnds (most : ℕ) (program file : List ℕ) (header : Bool) (held : Option Held) (rose : Type 0) (old new : Option HeldFiles) (lost : Type 0)
    (keep : Option HeldFiles) (keep_lost : Type 0) (err err' : Option (List ℕ)) (err_rose : Type 0) (status : ℕ) : Type 0 where
  pub came : Result Bool WorkFault
  pub is : HasBegunKept most program file header held rose old new lost keep keep_lost came
  pub told : TellsGrown came err err' err_rose status

-- THE CALLS BETWEEN

-- what came of it: what is next, or a fault
abbrev pub HasNext : Option HeldFiles → Option HeldFiles → Type 0 → Result Next WorkFault → Type 0
HasNext old new lost (Ok n) = IfHeld old (λ h. IsNext h new n)
HasNext old new lost (Err fault) = WhyNotNext old lost fault

-- the same, where something is kept for the next call in a folder, which held `keep` and holds `keep'`
abbrev pub HasNextKept : Option HeldFiles → Option HeldFiles → Type 0 → Option HeldFiles → Option HeldFiles → Type 0 → Result Next WorkFault → Type 0
HasNextKept old new lost keep keep' keep_lost (Ok n) = IfHeld old (λ h. IsNext h new n × KeepsNext h keep keep' n)
HasNextKept old new lost keep keep' keep_lost (Err fault) = WhyNotKept old lost keep_lost fault

-- what is shown of what the last try of a lost job told: all of it, or nothing
abbrev pub IsShown : Option HeldFiles → ℕ → List ℕ → Type 0
IsShown held job shown = (shown ≡ []) ⊎ IfHeld held (λ h. FetchesAll (h (Tried job 3)) most_shown shown)

-- what is told of a lost job
pub record IsLostText (held : Option HeldFiles) (job : ℕ) (text : List ℕ) : Type 0 where
  pub shown : List ℕ
  pub is_shown : IsShown held job shown
  pub is : text ≡ lost_text job shown

-- it is told, or that memory was wanting
abbrev pub TellsLost : Option HeldFiles → ℕ → Option (List ℕ) → Option (List ℕ) → Type 0 → ℕ → Type 0
TellsLost held job err err' err_rose status =
    ((text : List ℕ) × IsLostText held job text × Told text 3 err err' err_rose status) ⊎ ToldFault why.NoMemory err err' err_rose status

-- How it is told. 0: all is done. 11: jobs that did not come are to be run once more. 3: one of them is lost. 1: one was refused, and its refusal is told.
-- Otherwise a fault is.
abbrev pub TellsNext : Result Next WorkFault → Option HeldFiles → Option (List ℕ) → Option (List ℕ) → Type 0 → ℕ → Type 0
TellsNext (Ok next.Done) held err err' err_rose status = (status ≡ 0) × TookNothing err err'
TellsNext (Ok next.Again) held err err' err_rose status = (status ≡ 11) × TookNothing err err'
TellsNext (Ok (next.Lost job)) held err err' err_rose status = TellsLost held job err err' err_rose status
TellsNext (Ok (next.Refused told)) held err err' err_rose status = Told (refused_text told) 1 err err' err_rose status
TellsNext (Err fault) held err err' err_rose status = ToldFault fault err err' err_rose status

pub record NextEnds (old new : Option HeldFiles) (lost : Type 0) (err err' : Option (List ℕ)) (err_rose : Type 0) (status : ℕ) : Type 0 where
  pub came : Result Next WorkFault
  pub is : HasNext old new lost came
  pub told : TellsNext came new err err' err_rose status

pub record KeptEnds (old new : Option HeldFiles) (lost : Type 0) (keep keep' : Option HeldFiles) (keep_lost : Type 0) (err err' : Option (List ℕ)) (err_rose : Type 0)
    (status : ℕ) : Type 0 where
  pub came : Result Next WorkFault
  pub is : HasNextKept old new lost keep keep' keep_lost came
  pub told : TellsNext came new err err' err_rose status

-- THE LAST CALL

-- what came of it: nothing is wrong, and what the folder has as the whole is printed, or there is a fault
abbrev pub HasPrinted : Option HeldFiles → Type 0 → Option (List ℕ) → Option (List ℕ) → Type 0 → Option WorkFault → Type 0
HasPrinted old lost out out' out_rose None = IfHeld old (λ h. Printed (h Whole) out out')
HasPrinted old lost out out' out_rose (Some fault) = WhyNotPrinted old lost out_rose out out' fault

-- how it is told: nothing is, and the status is 0, or the fault is
abbrev pub TellsPrinted : Option WorkFault → Option (List ℕ) → Option (List ℕ) → Type 0 → ℕ → Type 0
TellsPrinted None err err' err_rose status = (status ≡ 0) × TookNothing err err'
TellsPrinted (Some fault) err err' err_rose status = ToldFault fault err err' err_rose status

pub record PrintEnds (old : Option HeldFiles) (lost : Type 0) (out out' : Option (List ℕ)) (out_rose : Type 0) (err err' : Option (List ℕ)) (err_rose : Type 0)
    (status : ℕ) : Type 0 where
  pub wrong : Option WorkFault
  pub is : HasPrinted old lost out out' out_rose wrong
  pub told : TellsPrinted wrong err err' err_rose status

-- ALL CALLS

-- Words that are no sentence are told, and nothing is changed. Nothing but the first call reads the files, which `unread` says. Nothing but the last call
-- prints, and it changes no file of the folder. Only a call between that names a folder for it keeps something. `taking` says that the count of the
-- folder rose, or that there was no number for a job.
abbrev pub Does : Option words.Asked → Option Held → Type 0 → Type 0 → Option HeldFiles → Option HeldFiles → Type 0 → Type 0
    → Option HeldFiles → Option HeldFiles → Type 0
    → Option (List ℕ) → Option (List ℕ) → Type 0 → Option (List ℕ) → Option (List ℕ) → Type 0 → ℕ → Type 0
Does None held unread rose old new taking lost keep keep' keep_lost out out' out_rose err err' err_rose status =
    Told usage_text 2 err err' err_rose status × TookNothing out out' × (new ≡ old) × (keep' ≡ keep) × unread
Does (Some (words.Begin folder size program file header None)) held unread rose old new taking lost keep keep' keep_lost out out' out_rose err err' err_rose status =
    BeginEnds most_bytes program file header held rose old new taking err err' err_rose status × TookNothing out out' × (keep' ≡ keep)
Does (Some (words.Begin folder size program file header (Some kept))) held unread rose old new taking lost keep keep' keep_lost out out' out_rose err err' err_rose status =
    GrownEnds most_bytes program file header held rose old new taking keep keep_lost err err' err_rose status × TookNothing out out' × (keep' ≡ keep)
Does (Some (words.Next folder None)) held unread rose old new taking lost keep keep' keep_lost out out' out_rose err err' err_rose status =
    NextEnds old new lost err err' err_rose status × TookNothing out out' × (keep' ≡ keep) × unread
Does (Some (words.Next folder (Some kept))) held unread rose old new taking lost keep keep' keep_lost out out' out_rose err err' err_rose status =
    KeptEnds old new lost keep keep' keep_lost err err' err_rose status × TookNothing out out' × unread
Does (Some (words.Print folder)) held unread rose old new taking lost keep keep' keep_lost out out' out_rose err err' err_rose status =
    PrintEnds old lost out out' out_rose err err' err_rose status × (new ≡ old) × (keep' ≡ keep) × unread
