-- What a status alone says.
use Rattle.std.proofs.Common.{◌≡◌, ◌⊎◌, ⊎_elim, inl, inr, ℕ, List, Bool, true, false, refl, ap, arith}
use Rattle.std.specs.Prelude.{Option, None, Some, Result, Ok, Err}
use Rattle.river_outside.specs.Causes.{Rose}
use Rattle.piece_files.specs.Held.{HeldFiles}
use Rattle.piece_jobs.specs.declared.going_on.Next.{Next}
use Rattle.piece_jobs.specs.declared.going_on.Next.TheVariants as next
use Rattle.piece_work.specs.declared.fault.WorkFault.{WorkFault}
use Rattle.piece_work.specs.declared.fault.WorkFault.TheVariants as why
use Rattle.piece_cli.specs.Does.{TellsBegun, TellsGrown, TellsNext, TellsPrinted, TellsLost}
use Rattle.piece_cli.specs.Laws.{TenIsBegun, TenIsGrown, ZeroIsDone, ElevenIsAgain, ZeroIsPrinted, TwoIsUsage, FourIsUnwritten}
use Rattle.piece_cli.specs.Text.{Told, changed_text, fault_status, refused_text}

-- a text is told with its own status or with 4
not_told : (text : List ℕ) (end : ℕ) (old new : Option (List ℕ)) (rose : Type 0) (status : ℕ) → (status ≡ end → ⊥) → (status ≡ 4 → ⊥)
    → Told text end old new rose status → ⊥
not_told text end old new rose status other four = ⊎_elim (λ t. other t.0) (λ t. four t.0)

-- a fault has the status 1, 3, 4 or 5
no_fault : (n : ℕ) → (n ≡ 1 → ⊥) → (n ≡ 3 → ⊥) → (n ≡ 4 → ⊥) → (n ≡ 5 → ⊥) → (fault : WorkFault) → n ≡ fault_status fault → ⊥
no_fault n one three four five why.Absent e = three e
no_fault n one three four five why.Unread e = three e
no_fault n one three four five why.Large e = three e
no_fault n one three four five why.NoMemory e = five e
no_fault n one three four five why.Unwritten e = four e
no_fault n one three four five why.Program e = one e
no_fault n one three four five why.Other e = three e

no_zero : (fault : WorkFault) → 0 ≡ fault_status fault → ⊥
no_zero = no_fault 0 (λ e. absurd (omega (arith, e))) (λ e. absurd (omega (arith, e))) (λ e. absurd (omega (arith, e))) (λ e. absurd (omega (arith, e)))

no_two : (fault : WorkFault) → 2 ≡ fault_status fault → ⊥
no_two = no_fault 2 (λ e. absurd (omega (arith, e))) (λ e. absurd (omega (arith, e))) (λ e. absurd (omega (arith, e))) (λ e. absurd (omega (arith, e)))

no_ten : (fault : WorkFault) → 10 ≡ fault_status fault → ⊥
no_ten = no_fault 10 (λ e. absurd (omega (arith, e))) (λ e. absurd (omega (arith, e))) (λ e. absurd (omega (arith, e))) (λ e. absurd (omega (arith, e)))

no_eleven : (fault : WorkFault) → 11 ≡ fault_status fault → ⊥
no_eleven = no_fault 11 (λ e. absurd (omega (arith, e))) (λ e. absurd (omega (arith, e))) (λ e. absurd (omega (arith, e))) (λ e. absurd (omega (arith, e)))

-- of the faults only what was not written has the status 4
four_fault : (fault : WorkFault) → 4 ≡ fault_status fault → fault ≡ why.Unwritten
four_fault why.Absent e = absurd (omega (arith, e))
four_fault why.Unread e = absurd (omega (arith, e))
four_fault why.Large e = absurd (omega (arith, e))
four_fault why.NoMemory e = absurd (omega (arith, e))
four_fault why.Unwritten e = refl
four_fault why.Program e = absurd (omega (arith, e))
four_fault why.Other e = absurd (omega (arith, e))

-- a text that goes with another status is told with 4 only where the count rose
four_rose : (text : List ℕ) (end : ℕ) (old new : Option (List ℕ)) (rose : Type 0) → (4 ≡ end → ⊥) → Told text end old new rose 4 → rose
four_rose text end old new rose other = ⊎_elim (λ t. absurd (other t.0)) (λ t. t.1)

-- so a lost job is not told with a status that neither its line has nor a fault
not_lost : (held : Option HeldFiles) (job : ℕ) (old new : Option (List ℕ)) (rose : Type 0) (status : ℕ) → (status ≡ 3 → ⊥) → (status ≡ 4 → ⊥)
    → (status ≡ 5 → ⊥) → TellsLost held job old new rose status → ⊥
not_lost held job old new rose status three four five =
    ⊎_elim (λ t. not_told t.0 3 old new rose status three four t.2) (λ t. ⊎_elim (λ t. five t.0) (λ t. four t.0) t)

-- the first call answers 10 only where the program has begun
pub ten_is_begun : TenIsBegun
ten_is_begun (Ok jobs) err err' stays before now t = (jobs, refl)
ten_is_begun (Err fault) err err' stays before now t =
    absurd (⊎_elim (λ t. no_ten fault t.0) (λ t. let e : 10 ≡ 4 = t.0 in absurd (omega (arith, e))) t)

pub ten_is_grown : TenIsGrown
ten_is_grown (Ok changed) err err' stays before now t = (changed, refl)
ten_is_grown (Err fault) err err' stays before now t =
    absurd (⊎_elim (λ t. no_ten fault t.0) (λ t. let e : 10 ≡ 4 = t.0 in absurd (omega (arith, e))) t)

-- a call between answers 0 only where all is done
pub zero_is_done : ZeroIsDone
zero_is_done (Ok next.Done) held err err' stays before now t = refl
zero_is_done (Ok next.Again) held err err' stays before now t = let e : 0 ≡ 11 = t.0 in absurd (omega (arith, e))
zero_is_done (Ok (next.Lost job)) held err err' stays before now t =
    absurd (not_lost held job err err' (Rose stays before now) 0 (λ e. absurd (omega (arith, e))) (λ e. absurd (omega (arith, e))) (λ e. absurd (omega (arith, e))) t)
zero_is_done (Ok (next.Refused told)) held err err' stays before now t =
    absurd (not_told (refused_text told) 1 err err' (Rose stays before now) 0 (λ e. absurd (omega (arith, e))) (λ e. absurd (omega (arith, e))) t)
zero_is_done (Err fault) held err err' stays before now t =
    absurd (⊎_elim (λ t. no_zero fault t.0) (λ t. let e : 0 ≡ 4 = t.0 in absurd (omega (arith, e))) t)

-- and 11 only where jobs are to be run once more
pub eleven_is_again : ElevenIsAgain
eleven_is_again (Ok next.Done) held err err' stays before now t = let e : 11 ≡ 0 = t.0 in absurd (omega (arith, e))
eleven_is_again (Ok next.Again) held err err' stays before now t = refl
eleven_is_again (Ok (next.Lost job)) held err err' stays before now t =
    absurd (not_lost held job err err' (Rose stays before now) 11 (λ e. absurd (omega (arith, e))) (λ e. absurd (omega (arith, e))) (λ e. absurd (omega (arith, e))) t)
eleven_is_again (Ok (next.Refused told)) held err err' stays before now t =
    absurd (not_told (refused_text told) 1 err err' (Rose stays before now) 11 (λ e. absurd (omega (arith, e))) (λ e. absurd (omega (arith, e))) t)
eleven_is_again (Err fault) held err err' stays before now t =
    absurd (⊎_elim (λ t. no_eleven fault t.0) (λ t. let e : 11 ≡ 4 = t.0 in absurd (omega (arith, e))) t)

-- the last call answers 0 only where all was printed
pub zero_is_printed : ZeroIsPrinted
zero_is_printed None err err' stays before now t = refl
zero_is_printed (Some fault) err err' stays before now t =
    absurd (⊎_elim (λ t. no_zero fault t.0) (λ t. let e : 0 ≡ 4 = t.0 in absurd (omega (arith, e))) t)

-- 2 is of words that are no sentence alone
two_begun : (came : Result ℕ WorkFault) (err err' : Option (List ℕ)) (stays : Bool) (before now : ℕ) → TellsBegun came err err' (Rose stays before now) 2 → ⊥
two_begun (Ok jobs) err err' stays before now t = let e : 2 ≡ 10 = t.0 in absurd (omega (arith, e))
two_begun (Err fault) err err' stays before now t = ⊎_elim (λ t. no_two fault t.0) (λ t. let e : 2 ≡ 4 = t.0 in absurd (omega (arith, e))) t

two_grown : (came : Result Bool WorkFault) (err err' : Option (List ℕ)) (stays : Bool) (before now : ℕ) → TellsGrown came err err' (Rose stays before now) 2 → ⊥
two_grown (Ok false) err err' stays before now t = let e : 2 ≡ 10 = t.0 in absurd (omega (arith, e))
two_grown (Ok true) err err' stays before now t =
    not_told changed_text 10 err err' (Rose stays before now) 2 (λ e. absurd (omega (arith, e))) (λ e. absurd (omega (arith, e))) t
two_grown (Err fault) err err' stays before now t = ⊎_elim (λ t. no_two fault t.0) (λ t. let e : 2 ≡ 4 = t.0 in absurd (omega (arith, e))) t

two_next : (came : Result Next WorkFault) (held : Option HeldFiles) (err err' : Option (List ℕ)) (stays : Bool) (before now : ℕ)
    → TellsNext came held err err' (Rose stays before now) 2 → ⊥
two_next (Ok next.Done) held err err' stays before now t = let e : 2 ≡ 0 = t.0 in absurd (omega (arith, e))
two_next (Ok next.Again) held err err' stays before now t = let e : 2 ≡ 11 = t.0 in absurd (omega (arith, e))
two_next (Ok (next.Lost job)) held err err' stays before now t =
    not_lost held job err err' (Rose stays before now) 2 (λ e. absurd (omega (arith, e))) (λ e. absurd (omega (arith, e))) (λ e. absurd (omega (arith, e))) t
two_next (Ok (next.Refused told)) held err err' stays before now t =
    not_told (refused_text told) 1 err err' (Rose stays before now) 2 (λ e. absurd (omega (arith, e))) (λ e. absurd (omega (arith, e))) t
two_next (Err fault) held err err' stays before now t = ⊎_elim (λ t. no_two fault t.0) (λ t. let e : 2 ≡ 4 = t.0 in absurd (omega (arith, e))) t

two_printed : (wrong : Option WorkFault) (err err' : Option (List ℕ)) (stays : Bool) (before now : ℕ) → TellsPrinted wrong err err' (Rose stays before now) 2 → ⊥
two_printed None err err' stays before now t = let e : 2 ≡ 0 = t.0 in absurd (omega (arith, e))
two_printed (Some fault) err err' stays before now t = ⊎_elim (λ t. no_two fault t.0) (λ t. let e : 2 ≡ 4 = t.0 in absurd (omega (arith, e))) t

pub two_is_usage : TwoIsUsage
two_is_usage = record { begun = two_begun; grown = two_grown; next = two_next; printed = two_printed }

-- 4 says that something was not written
four_begun : (came : Result ℕ WorkFault) (err err' : Option (List ℕ)) (stays : Bool) (before now : ℕ)
    → TellsBegun came err err' (Rose stays before now) 4 → (came ≡ Err why.Unwritten) ⊎ Rose stays before now
four_begun (Ok jobs) err err' stays before now t = let e : 4 ≡ 10 = t.0 in absurd (omega (arith, e))
four_begun (Err fault) err err' stays before now t = ⊎_elim (λ t. inl (ap (λ f. Err f) (four_fault fault t.0))) (λ t. inr t.1) t

four_grown : (came : Result Bool WorkFault) (err err' : Option (List ℕ)) (stays : Bool) (before now : ℕ)
    → TellsGrown came err err' (Rose stays before now) 4 → (came ≡ Err why.Unwritten) ⊎ Rose stays before now
four_grown (Ok false) err err' stays before now t = let e : 4 ≡ 10 = t.0 in absurd (omega (arith, e))
four_grown (Ok true) err err' stays before now t = inr (four_rose changed_text 10 err err' (Rose stays before now) (λ e. absurd (omega (arith, e))) t)
four_grown (Err fault) err err' stays before now t = ⊎_elim (λ t. inl (ap (λ f. Err f) (four_fault fault t.0))) (λ t. inr t.1) t

four_lost : (held : Option HeldFiles) (job : ℕ) (old new : Option (List ℕ)) (rose : Type 0) → TellsLost held job old new rose 4 → rose
four_lost held job old new rose =
    ⊎_elim (λ t. four_rose t.0 3 old new rose (λ e. absurd (omega (arith, e))) t.2)
    (λ t. ⊎_elim (λ t. let e : 4 ≡ 5 = t.0 in absurd (omega (arith, e))) (λ t. t.1) t)

four_next : (came : Result Next WorkFault) (held : Option HeldFiles) (err err' : Option (List ℕ)) (stays : Bool) (before now : ℕ)
    → TellsNext came held err err' (Rose stays before now) 4 → (came ≡ Err why.Unwritten) ⊎ Rose stays before now
four_next (Ok next.Done) held err err' stays before now t = let e : 4 ≡ 0 = t.0 in absurd (omega (arith, e))
four_next (Ok next.Again) held err err' stays before now t = let e : 4 ≡ 11 = t.0 in absurd (omega (arith, e))
four_next (Ok (next.Lost job)) held err err' stays before now t = inr (four_lost held job err err' (Rose stays before now) t)
four_next (Ok (next.Refused told)) held err err' stays before now t =
    inr (four_rose (refused_text told) 1 err err' (Rose stays before now) (λ e. absurd (omega (arith, e))) t)
four_next (Err fault) held err err' stays before now t = ⊎_elim (λ t. inl (ap (λ f. Err f) (four_fault fault t.0))) (λ t. inr t.1) t

four_printed : (wrong : Option WorkFault) (err err' : Option (List ℕ)) (stays : Bool) (before now : ℕ)
    → TellsPrinted wrong err err' (Rose stays before now) 4 → (wrong ≡ Some why.Unwritten) ⊎ Rose stays before now
four_printed None err err' stays before now t = let e : 4 ≡ 0 = t.0 in absurd (omega (arith, e))
four_printed (Some fault) err err' stays before now t = ⊎_elim (λ t. inl (ap (λ f. Some f) (four_fault fault t.0))) (λ t. inr t.1) t

pub four_is_unwritten : FourIsUnwritten
four_is_unwritten = record { begun = four_begun; grown = four_grown; next = four_next; printed = four_printed }
