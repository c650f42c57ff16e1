-- What was cut and what was put are the beginning of the work.
use Rattle.std.proofs.Common.{◌≡◌, ℕ, zero, suc, refl, ◌<◌, ◌^◌, List, [], ◌∷◌, Bool, sym, ap, ◌∙◌, subst, arith}
use Rattle.std.specs.Prelude.{Option, None, Some, IfSome}
use Rattle.csv_cuts.specs.Window.{TookWithin}
use Rattle.river_outside.specs.Held.{Held}
use Rattle.river_outside.specs.Fetched.{FetchesAll}
use Rattle.piece_files.specs.Held.{HeldFiles}
use Rattle.piece_files.specs.Inputs.{inputs_of, inputs_told, HaveInputs}
use Rattle.piece_files.specs.declared.file.JobFile.TheVariants as file
use Rattle.piece_files.proofs.JobInputs.{inputs-length, inputs-have}
use Rattle.piece_work.specs.Cutting.{CutHeld}
use Rattle.piece_work.specs.Faults.{Reads}
use Rattle.piece_jobs.specs.UnderWay.{progress_of}
use Rattle.piece_jobs.specs.declared.progress.Progress.{Progress}
use Rattle.piece_begin.specs.Begun.{HasBegun, Begun, IsCutIn, CutIn}
use Rattle.piece_begin.specs.Laid.{AreLaid, Laid}

-- what was taken from none on are the records of jobs
cut-in : (file : Option (List ℕ)) (from : ℕ) (header : Bool) (n : ℕ) (old new : Option HeldFiles) → CutHeld file from header (inputs_told old 0) (inputs_told new n)
    → CutIn file from header n old new
cut-in file from header n None new c = tt
cut-in file from header n (Some old) None c = cc c.took.took
cut-in file from header n (Some old) (Some w) c = record {
  bytes = c.bytes;
  pieces = c.took.pieces;
  file_is = c.is;
  within = c.within;
  cut = c.took.cut;
  count = inputs-length n w c.took.pieces c.took.took;
  inputs = inputs-have n w c.took.pieces c.took.took;
}

-- the same, where it is told what the shelf holds
pub cut-in-told : (held : Option Held) (name : List ℕ) (from : ℕ) (header : Bool) (k n : ℕ) (old new : Option HeldFiles) → k ≡ 0
    → IfSome held (λ h. CutHeld (h name) from header (inputs_told old k) (inputs_told new n)) → IfSome held (λ h. CutIn (h name) from header n old new)
cut-in-told None name from header k n old new none c = tt
cut-in-told (Some h) name from header k n old new none c = cut-in (h name) from header n old new (rw none at c)

-- records of jobs stay where no file of them changes
pub inputs-stay : (old new : HeldFiles) → ((job : ℕ) → new (file.Input job) ≡ old (file.Input job)) → (job : ℕ) (pieces : List (List ℕ)) → HaveInputs old job pieces
    → HaveInputs new job pieces
inputs-stay old new same job [] have = tt
inputs-stay old new same job (x ∷ xs) have = (same job ∙ have.0, inputs-stay old new same (suc job) xs have.1)

pub is-held : (o : Option (List ℕ)) (limit : ℕ) (got : List ℕ) → FetchesAll o limit got → o ≡ Some got
is-held None limit got f = absurd f
is-held (Some bytes) limit got f = ap (λ (l : List ℕ). Some l) (sym f.0)

has-begun : (program file : Option (List ℕ)) (text : List ℕ) (header : Bool) (jobs : ℕ) (b c : HeldFiles) → program ≡ Some text → jobs < 2 ^ 32
    → IsCutIn file 0 header jobs b → AreLaid text (progress_of header None jobs 1) b c → HasBegun program file header jobs c
has-begun program file text header jobs b c is few cut laid = record {
  text = text;
  bytes = cut.bytes;
  pieces = cut.pieces;
  program_is = is;
  file_is = cut.file_is;
  cut = cut.cut;
  count = cut.count;
  under_way = record {
    program = laid.program;
    inputs = inputs-stay b c laid.inputs 1 cut.pieces cut.inputs;
    has_old = tt;
    few = rw cut.count few;
    few_old = omega arith;
    turn = 1;
    tries = omega arith;
    state = rw cut.count laid.state;
  };
  first = rw cut.count laid.state;
  list = rw cut.count laid.list;
  words = λ job first last. laid.words job first (rw cut.count at last);
}

begun-in : (program file : Option (List ℕ)) (text : List ℕ) (header : Bool) (jobs : ℕ) (a b c : Option HeldFiles) → program ≡ Some text → jobs < 2 ^ 32
    → CutIn file 0 header jobs a b → Laid text (progress_of header None jobs 1) b c → Begun program file header jobs a c
begun-in program file text header jobs None b c is few cut laid = tt
begun-in program file text header jobs (Some a) None c is few cut laid = absurd cut
begun-in program file text header jobs (Some a) (Some b) None is few cut laid = absurd laid
begun-in program file text header jobs (Some a) (Some b) (Some c) is few cut laid = has-begun program file text header jobs b c is few cut laid

-- the program was read, then the file was cut, then the files were put
pub begun-told : (held there : Option Held) (limit : ℕ) (program name text : List ℕ) (header : Bool) (jobs : ℕ) (a b c : Option HeldFiles) → there ≡ held
    → Reads held limit program text → jobs < 2 ^ 32 → IfSome there (λ h. CutIn (h name) 0 header jobs a b) → Laid text (progress_of header None jobs 1) b c
    → IfSome held (λ h. Begun (h program) (h name) header jobs a c)
begun-told None there limit program name text header jobs a b c same reads few cut laid = tt
begun-told (Some h) there limit program name text header jobs a b c same reads few cut laid =
    begun-in (h program) (h name) text header jobs a b c (is-held (h program) limit text reads) few
    (subst (λ (o : Option Held). IfSome o (λ g. CutIn (g name) 0 header jobs a b)) same cut) laid

-- the records of the jobs are those that were taken
inputs-of-stay : (old new : HeldFiles) (n : ℕ) → ((job : ℕ) → new (file.Input job) ≡ old (file.Input job)) → inputs_of new n ≡ inputs_of old n
inputs-of-stay old new zero same = refl
inputs-of-stay old new (suc n) same = rw (inputs-of-stay old new n same, same (suc n)) refl

pub within-told : (records most : ℕ) (text : List ℕ) (p : Progress) (n : ℕ) (first : Option (List (List ℕ))) (b c : Option HeldFiles)
    → Laid text p b c → TookWithin records most first (inputs_told b n) → TookWithin records most first (inputs_told c n)
within-told records most text p n first None None laid took = took
within-told records most text p n first None (Some c) laid took = cc laid
within-told records most text p n first (Some b) None laid took = absurd laid
within-told records most text p n first (Some b) (Some c) laid took =
    subst (λ (o : Option (List (List ℕ))). TookWithin records most first o) (sym (inputs-of-stay b c n laid.inputs)) took
