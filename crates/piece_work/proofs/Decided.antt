-- Over files that are told, and where no count rose, a file decides what is told of it.
use Rattle.std.proofs.Common.{◌≡◌, ℕ, List, refl, arith, inl, inr}
use Rattle.std.specs.Prelude.{Option, None, Some}
use Rattle.river_outside.specs.Fetched.{FetchesAll, IsLarger}
use Rattle.piece_work.specs.declared.fault.WorkFault.TheVariants as why
use Rattle.piece_work.specs.Faults.{FileDecides, ReadDecides, most_file}

-- a file that is read is there
read-some : (o : Option (List ℕ)) (limit : ℕ) (bytes : List ℕ) → FetchesAll o limit bytes → o ≡ None → ⊥
read-some None limit bytes f e = f
read-some (Some held) limit bytes f e = cc

-- so is one that is too large
large-some : (o : Option (List ℕ)) (limit : ℕ) → IsLarger o limit → o ≡ None → ⊥
large-some None limit l e = l
large-some (Some held) limit l e = cc

-- which is not read
large-unread : (o : Option (List ℕ)) (limit : ℕ) (bytes : List ℕ) → IsLarger o limit → FetchesAll o limit bytes → ⊥
large-unread None limit bytes l f = l
large-unread (Some held) limit bytes l f = let within = f.1 in omega (arith, l, within)

-- a file that is read is told for want of memory alone
pub read_decides : ReadDecides
read_decides h file why.Absent r w = absurd (read-some (h file) most_file r.bytes r.reads w)
read_decides h file why.Unread r w = absurd w
read_decides h file why.Large r w = absurd (large-unread (h file) most_file r.bytes w r.reads)
read_decides h file why.NoMemory r w = refl
read_decides h file why.Unwritten r w = absurd w
read_decides h file why.Program r w = absurd w
read_decides h file why.Other r w = absurd w

-- and another for one fault
pub file_decides : FileDecides
file_decides h file why.NoMemory second a b = inr (inl refl)
file_decides h file why.Unread second a b = absurd a
file_decides h file why.Unwritten second a b = absurd a
file_decides h file why.Program second a b = absurd a
file_decides h file why.Other second a b = absurd a
file_decides h file why.Absent why.Absent a b = inl refl
file_decides h file why.Absent why.Unread a b = absurd b
file_decides h file why.Absent why.Large a b = absurd (large-some (h file) most_file b a)
file_decides h file why.Absent why.NoMemory a b = inr (inr refl)
file_decides h file why.Absent why.Unwritten a b = absurd b
file_decides h file why.Absent why.Program a b = absurd b
file_decides h file why.Absent why.Other a b = absurd b
file_decides h file why.Large why.Absent a b = absurd (large-some (h file) most_file a b)
file_decides h file why.Large why.Unread a b = absurd b
file_decides h file why.Large why.Large a b = inl refl
file_decides h file why.Large why.NoMemory a b = inr (inr refl)
file_decides h file why.Large why.Unwritten a b = absurd b
file_decides h file why.Large why.Program a b = absurd b
file_decides h file why.Large why.Other a b = absurd b
