-- What a folder tells, from what its store tells.
use Rattle.std.proofs.Common.{◌≡◌, ℕ, List, Bool, true, false, refl, ap}
use Rattle.std.specs.Prelude.{Option, None, Some, IsTrue, Result, Ok, Err, OnOk, OnErr}
use Rattle.std.specs.Option.{option_map}
use Rattle.river_outside.specs.Held.{Held}
use Rattle.piece_files.specs.Held.{Put, MaybePut, OthersStay}
use Rattle.piece_files.specs.Names.{name_of, numbers_fit, held_in}
use Rattle.piece_files.specs.declared.file.JobFile.{JobFile}
use Rattle.piece_files.proofs.Names.{names_differ}

-- ANSWERS

-- what holds of a good answer, or of a bad one, weakened
pub ok_then : {T E First Second : Type 0} (answer : Result T E) → (First → Second) → OnOk answer First → OnOk answer Second
ok_then (Ok x) then is = then is
ok_then (Err e) then is = is

pub err_then : {T E First Second : Type 0} (answer : Result T E) → (First → Second) → OnErr answer First → OnErr answer Second
err_then (Ok x) then is = is
err_then (Err e) then is = then is

-- WHAT IS HELD

module _ (path : List ℕ) (f : JobFile) (fits : IsTrue (numbers_fit f)) where
  -- all other files stay
  others_in : (old new : Held) → OthersStay (name_of path f) old new → OthersStay f (held_in path old) (held_in path new)
  others_in old new stay other differs = one (numbers_fit other) refl
    where
      one : (b : Bool) → numbers_fit other ≡ b → held_in path new other ≡ held_in path old other
      one true is = rw is (stay (name_of path other) (λ same. differs (names_differ path other f is fits same)))
      one false is = rw is refl

  -- a file is put
  pub put_in : (bytes : List ℕ) (old new : Option Held) → Put (name_of path f) bytes old new
      → Put f bytes (option_map (held_in path) old) (option_map (held_in path) new)
  put_in bytes None new is = ap (option_map (held_in path)) is
  put_in bytes (Some old) None is = is
  put_in bytes (Some old) (Some new) is = record { is = rw fits is.is; others = others_in old new is.others }

  -- it may have been put
  pub maybe_in : (old new : Option Held) → MaybePut (name_of path f) old new
      → MaybePut f (option_map (held_in path) old) (option_map (held_in path) new)
  maybe_in None new is = ap (option_map (held_in path)) is
  maybe_in (Some old) None is = is
  maybe_in (Some old) (Some new) is = others_in old new is
