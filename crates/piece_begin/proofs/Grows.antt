-- What was cut behind a front, and what was put, are the beginning of the work on what a file has grown by.
use Rattle.std.proofs.Common.{◌≡◌, ℕ, zero, suc, ◌-◌, ◌<◌, ◌≤◌, ◌^◌, inl, inr, List, [], take, Bool, refl, sym, ap, ◌∙◌, subst, arith}
use Rattle.std.specs.Prelude.{Option, None, Some, IfSome, Result, Ok, Err, OnOk, IfErr}
use Rattle.river_outside.specs.Held.{Held}
use Rattle.piece_files.specs.Held.{HeldFiles, IfHeld, Put}
use Rattle.piece_files.specs.declared.file.JobFile.TheVariants as file
use Rattle.piece_jobs.specs.UnderWay.{HasOld, OldPart, progress_of, records_of_old}
use Rattle.piece_keep.specs.Fed.{inputs_to, records_held}
use Rattle.piece_keep.specs.Found.{IsFoundIn}
use Rattle.piece_keep.specs.declared.extent.Extent.{Extent}
use Rattle.piece_keep.specs.declared.found.Found.{Found}
use Rattle.piece_keep.specs.declared.found.Found.TheVariants as is
use Rattle.piece_work.specs.Cutting.{WhyNotCut}
use Rattle.piece_work.specs.Faults.{Reads}
use Rattle.piece_work.specs.declared.fault.WorkFault.{WorkFault}
use Rattle.piece_work.specs.declared.fault.WorkFault.TheVariants as why
use Rattle.river_outside.specs.Causes.{Rose}
use Rattle.river_outside.proofs.Counts.{rose_before}
use Rattle.piece_work.specs.Held.{bytes_of}
use Rattle.piece_begin.specs.Begun.{IsCutIn, CutIn}
use Rattle.piece_begin.specs.Faults.{WhyNotBegunKept, WhyNotGrown}
use Rattle.piece_begin.specs.Grown.{GrownIn, HasGrown, HoldsFront, IsBegunKept, begins_behind, begun_mark, extent_of, is_changed, old_of}
use Rattle.piece_begin.specs.Laid.{AreLaid, Laid}
use Rattle.piece_begin.proofs.Begins.{inputs-stay, is-held}

-- THE RECORDS OF JOBS

-- they are the same where no file of them changes
inputs-same : (old new : HeldFiles) (n : ℕ) → ((job : ℕ) → new (file.Input job) ≡ old (file.Input job)) → inputs_to new n ≡ inputs_to old n
inputs-same old new zero same = refl
inputs-same old new (suc n) same = rw (inputs-same old new n same, same (suc n)) refl

records-same : (old new : HeldFiles) (n : ℕ) → ((job : ℕ) → new (file.Input job) ≡ old (file.Input job)) → records_held new n ≡ records_held old n
records-same old new zero same = refl
records-same old new (suc n) same = rw (records-same old new n same, same (suc n)) refl

mark-same : (text : List ℕ) (header : Bool) (front : List ℕ) (from : Extent) (old new : HeldFiles) (n : ℕ)
    → ((job : ℕ) → new (file.Input job) ≡ old (file.Input job)) → begun_mark text header front from new n ≡ begun_mark text header front from old n
mark-same text header front from old new n same = rw (inputs-same old new n same, records-same old new n same) refl

-- IN A FOLDER

-- what is kept is put, where there is something
abbrev pub PutOld : Option OldPart → Option HeldFiles → Option HeldFiles → Type 0
PutOld None old new = new ≡ old
PutOld (Some part) old new = Put file.Kept part.tables old new

record IsOldPut (old : Option OldPart) (a b : HeldFiles) : Type 0 where
  has : HasOld old b
  inputs : (job : ℕ) → b (file.Input job) ≡ a (file.Input job)

old-put : (old : Option OldPart) (a b : HeldFiles) → PutOld old (Some a) (Some b) → IsOldPut old a b
old-put None a b p = record { has = tt; inputs = λ job. ap (λ (o : Option HeldFiles). bytes o (file.Input job)) p } where
  bytes : Option HeldFiles → HeldFiles
  bytes None = a
  bytes (Some h) = h
old-put (Some part) a b p = record { has = p.is; inputs = λ job. p.others (file.Input job) (λ e. cc e) }

has-grown : (text : List ℕ) (name : Option (List ℕ)) (header : Bool) (front : List ℕ) (from : Extent) (begins : Bool) (old : Option OldPart) (jobs : ℕ)
    (b c d e : HeldFiles) → jobs < 2 ^ 32 → records_of_old old < 2 ^ 63 → IsCutIn name from.at begins jobs b → PutOld old (Some b) (Some c)
    → Put file.Mark (begun_mark text header front from c (jobs - 1)) (Some c) (Some d) → AreLaid text (progress_of begins old jobs 1) d e
    → HasGrown text name header front from begins old e
has-grown text name header front from begins old jobs b c d e few few_old cut put mark laid =
    let o = old-put old b c put in
    let same : (job : ℕ) → e (file.Input job) ≡ c (file.Input job) = λ job. laid.inputs job ∙ mark.others (file.Input job) (λ e. cc e) in
    let all : (job : ℕ) → e (file.Input job) ≡ b (file.Input job) = λ job. same job ∙ o.inputs job in
    let marked : e file.Mark ≡ Some (begun_mark text header front from e (jobs - 1)) =
    laid.mark ∙ mark.is ∙ ap (λ (m : List ℕ). Some m) (sym (mark-same text header front from c e (jobs - 1) same)) in
    let kept : e file.Kept ≡ c file.Kept = laid.kept ∙ mark.others file.Kept (λ e. cc e) in
    record {
      bytes = cut.bytes;
      pieces = cut.pieces;
      file_is = cut.file_is;
      within = cut.within;
      cut = cut.cut;
      under_way = record {
        program = laid.program;
        inputs = inputs-stay b e all 1 cut.pieces cut.inputs;
        has_old = has old o.has kept;
        few = rw cut.count few;
        few_old = few_old;
        turn = 1;
        tries = omega arith;
        state = rw cut.count laid.state;
      };
      first = rw cut.count laid.state;
      list = rw cut.count laid.list;
      words = λ job first last. laid.words job first (rw cut.count at last);
      mark = rw cut.count marked;
    } where
      has : (p : Option OldPart) → HasOld p c → e file.Kept ≡ c file.Kept → HasOld p e
      has None h k = tt
      has (Some part) h k = k ∙ h

-- where it is told what is held
grown-in : (text : List ℕ) (name : Option (List ℕ)) (header : Bool) (front : List ℕ) (from : Extent) (begins : Bool) (old : Option OldPart) (jobs : ℕ)
    (a b c d e : Option HeldFiles) → jobs < 2 ^ 32 → records_of_old old < 2 ^ 63 → CutIn name from.at begins jobs a b → PutOld old b c
    → IfHeld c (λ w. Put file.Mark (begun_mark text header front from w (jobs - 1)) (Some w) d) → Laid text (progress_of begins old jobs 1) d e
    → GrownIn text name header front from begins old a e
grown-in text name header front from begins old jobs None b c d e few few_old cut put mark laid = tt
grown-in text name header front from begins old jobs (Some a) None c d e few few_old cut put mark laid = absurd cut
grown-in text name header front from begins old jobs (Some a) (Some b) None d e few few_old cut put mark laid = absurd (none old put) where
  none : (p : Option OldPart) → PutOld p (Some b) None → ⊥
  none None p = cc p
  none (Some part) p = p
grown-in text name header front from begins old jobs (Some a) (Some b) (Some c) None e few few_old cut put mark laid = absurd mark
grown-in text name header front from begins old jobs (Some a) (Some b) (Some c) (Some d) None few few_old cut put mark laid = absurd laid
grown-in text name header front from begins old jobs (Some a) (Some b) (Some c) (Some d) (Some e) few few_old cut put mark laid =
    has-grown text name header front from begins old jobs b c d e few few_old cut put mark laid

-- what holds of a good answer, from two things that do
pub ok-two : {A E P Q R : Type 0} (r : Result A E) → (P → Q → R) → OnOk r P → OnOk r Q → OnOk r R
ok-two (Ok x) f p q = f p q
ok-two (Err e) f p q = tt

-- and what the shelf holds; `Holds` says of bytes that they are the front
pub grown-told : (held : Option Held) (text name : List ℕ) (header : Bool) (Holds : List ℕ → Type 0) (from : Extent) (begins : Bool) (old : Option OldPart) (jobs : ℕ)
    (a b c d e : Option HeldFiles) → jobs < 2 ^ 32 → IfSome held (λ h. CutIn (h name) from.at begins jobs a b) → PutOld old b c
    → ((front : List ℕ) → Holds front → IfHeld c (λ w. Put file.Mark (begun_mark text header front from w (jobs - 1)) (Some w) d))
    → Laid text (progress_of begins old jobs 1) d e → records_of_old old < 2 ^ 63
    → IfSome held (λ h. (front : List ℕ) → Holds front → GrownIn text (h name) header front from begins old a e)
grown-told None text name header Holds from begins old jobs a b c d e few cut put mark laid few_old = tt
grown-told (Some h) text name header Holds from begins old jobs a b c d e few cut put mark laid few_old =
    λ front holds. grown-in text (h name) header front from begins old jobs a b c d e few few_old cut put (mark front holds) laid

-- the same of the front of no bytes
pub first-told : (held : Option Held) (text name : List ℕ) (header : Bool) (jobs : ℕ) (a b d e : Option HeldFiles) → jobs < 2 ^ 32
    → IfSome held (λ h. CutIn (h name) 0 header jobs a b)
    → IfHeld b (λ w. Put file.Mark (begun_mark text header [] (record { at = 0; records = 0 }) w (jobs - 1)) (Some w) d)
    → Laid text (progress_of header None jobs 1) d e
    → IfSome held (λ h. GrownIn text (h name) header [] (record { at = 0; records = 0 }) header None a e)
first-told None text name header jobs a b d e few cut mark laid = tt
first-told (Some h) text name header jobs a b d e few cut mark laid =
    grown-in text (h name) header [] (record { at = 0; records = 0 }) header None jobs a b b d e few (omega arith) cut refl mark laid

-- WHAT WAS FOUND

-- the front of what was found is that of the file
front-found : (name : Option (List ℕ)) (header : Bool) (text : List ℕ) (k : HeldFiles) (found : Found) → IsFoundIn name header text k found
    → HoldsFront found (take (extent_of found).at (bytes_of name))
front-found name header text k is.Nothing f = refl
front-found name header text k is.Changed f = refl
front-found name header text k (is.This kept) f = f.2.1

pub begun-kept-told : (held there : Option Held) (keep : Option HeldFiles) (limit : ℕ) (program name text : List ℕ) (header : Bool) (found : Found) (changed : Bool)
    (a e : Option HeldFiles) → there ≡ held → Reads held limit program text
    → IfSome held (λ h. IfHeld keep (λ k. IsFoundIn (h name) header text k found)) → changed ≡ is_changed found
    → IfSome there (λ h. (m : List ℕ) → HoldsFront found m → GrownIn text (h name) header m (extent_of found) (begins_behind header found) (old_of found) a e)
    → IfSome held (λ h. IfHeld keep (λ k. IsBegunKept (h program) (h name) header k changed a e))
begun-kept-told None there keep limit program name text header found changed a e same reads f is grown = tt
begun-kept-told (Some h) there None limit program name text header found changed a e same reads f is grown = tt
begun-kept-told (Some h) there (Some k) limit program name text header found changed a e same reads f is grown = record {
  text = text;
  program_is = is-held (h program) limit text reads;
  found = found;
  found_is = f;
  changed_is = is;
  grown =
      (subst
      (λ (o : Option Held). IfSome o (λ g. (m : List ℕ) → HoldsFront found m
      → GrownIn text (g name) header m (extent_of found) (begins_behind header found) (old_of found) a e))
      same grown)
      (take (extent_of found).at (bytes_of (h name))) (front-found (h name) header text k found f);
}

-- WHY NOT

-- where the shelf's count rose since, it rose since before
cut-why : (held : Option Held) (early late lost : Type 0) (from most : ℕ) (fault : WorkFault) (name : List ℕ) → (late → early)
    → WhyNotCut held late lost from most fault name → WhyNotCut held early lost from most fault name
cut-why None early late lost from most why.Absent name sooner w = sooner w
cut-why (Some h) early late lost from most why.Absent name sooner w = w
cut-why held early late lost from most why.Unread name sooner w = sooner w
cut-why held early late lost from most why.Large name sooner w = w
cut-why held early late lost from most why.NoMemory name sooner w = tt
cut-why held early late lost from most why.Unwritten name sooner w = w
cut-why held early late lost from most why.Program name sooner w = w
cut-why held early late lost from most why.Other name sooner w = w

-- what was not begun behind what was found was not begun
pub grown-why : {A : Type 0} (held there : Option Held) (s : Bool) (first before now : ℕ) (lost keep_lost : Type 0) (most : ℕ) (program name : List ℕ)
    (new : Option HeldFiles) (r : Result A WorkFault) → there ≡ held → first ≤ before → IfErr r (WhyNotGrown there (Rose s before now) lost most name new)
    → IfErr r (WhyNotBegunKept held (Rose s first now) lost keep_lost most program name new)
grown-why held there s first before now lost keep_lost most program name new (Ok x) same later w = tt
grown-why held there s first before now lost keep_lost most program name new (Err fault) same later w =
    inr (inr (by (subst (λ (o : Option Held). WhyNotGrown o (Rose s before now) lost most name new fault) same w))) where
      by : WhyNotGrown held (Rose s before now) lost most name new fault → WhyNotGrown held (Rose s first now) lost most name new fault
      by (inl c) = inl (c.0, cut-why held (Rose s first now) (Rose s before now) lost c.0 most fault name (rose_before s first before now later) c.1)
      by (inr c) = inr c
