-- What a work folder that tells what it holds says of its files.
use Rattle.std.specs.Prelude.{◌≡◌, ℕ, List, Option, None, Some, IfSome}
use Rattle.piece_files.specs.declared.file.JobFile.{JobFile}

-- the bytes that are held by each file
abbrev pub HeldFiles : Type 0
HeldFiles = JobFile → Option (List ℕ)

-- where it is told what is held
abbrev pub IfHeld : Option HeldFiles → (HeldFiles → Type 0) → Type 0
IfHeld held Is = IfSome held Is

-- all files but this one hold what they held; files are told apart by whatever they are called by
abbrev pub OthersStay : {K : Type 0} → K → (K → Option (List ℕ)) → (K → Option (List ℕ)) → Type 0
OthersStay {K} file old new = (other : K) → (other ≡ file → ⊥) → new other ≡ old other

-- the file holds these bytes, and all others what they held
pub record IsPut {K : Type 0} (file : K) (bytes : List ℕ) (old new : K → Option (List ℕ)) : Type 0 where
  pub is : new file ≡ Some bytes
  pub others : OthersStay file old new

-- the same, where it is told what is held, before and after
abbrev pub Put : {K : Type 0} → K → List ℕ → Option (K → Option (List ℕ)) → Option (K → Option (List ℕ)) → Type 0
Put file bytes None new = new ≡ None
Put file bytes (Some old) None = ⊥
Put file bytes (Some old) (Some new) = IsPut file bytes old new

-- it is not known what the file holds, and all others hold what they held
abbrev pub MaybePut : {K : Type 0} → K → Option (K → Option (List ℕ)) → Option (K → Option (List ℕ)) → Type 0
MaybePut file None new = new ≡ None
MaybePut file (Some old) None = ⊥
MaybePut file (Some old) (Some new) = OthersStay file old new
