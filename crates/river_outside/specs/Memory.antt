-- Shelves and sinks in memory: which of their calls fail, and what the others give.
use Rattle.std.specs.Prelude.{ℕ, ℤ, pos, ◌+◌, ◌-◌, ◌^◌, min, List, [], ◌∷◌, ◌++◌, take, length, Bool, true, ◌&&◌, ◌||◌, not, nat_eq, nat_lt, None, Some, Result}
use Rattle.std.specs.Prelude.{Ok, Err, if◌then◌else◌}
use Rattle.std.specs.List.{list_any}
use Rattle.std.specs.Ordering.{int_eq}
use Rattle.std.specs.Str.{bytes_eq}
use Rattle.river_outside.specs.Files.{lookup}
use Rattle.river_outside.specs.declared.shelf.ReadFault.{ReadFault}
use Rattle.river_outside.specs.declared.shelf.ReadFault.TheVariants as read
use Rattle.river_outside.specs.declared.sink.Failed.{Failed}

-- the next number of a call or a fault, which stays at the last value
abbrev pub next_number : ℕ → ℕ
next_number n = min (n + 1) (2 ^ 64 - 1)

-- whether the call of this number fails: the number stands in the list, where numbers are values below 2^63
abbrev pub call_fails : List ℤ → ℕ → Bool
call_fails fails call = nat_lt call (2 ^ 63) && list_any (λ f. int_eq f (pos call)) fails

-- a shelf in memory: names and contents, how many bytes a read gives at most, which calls fail, and how many calls and faults there were
pub record MemoryShelf : Type 0 where
  pub files : List (List ℕ × List ℕ)
  pub piece : ℕ
  pub fails : List ℤ
  pub calls : ℕ
  pub faults : ℕ

-- what the next read answers: how many bytes it gives from a place on where there is room for so many
abbrev pub read_answer : MemoryShelf → List ℕ → ℕ → ℕ → Result ℕ ReadFault
read_answer shelf name at room =
    if call_fails shelf.fails shelf.calls then Err read.Failed
    else (elim (lookup shelf.files name) [
      | None ↦ Err read.Absent
      | Some bytes ↦ Ok (min (min shelf.piece room) (length bytes - at))
    ])

-- the shelf after that call: only the numbers moved
abbrev pub after_read : MemoryShelf → MemoryShelf
after_read shelf = record shelf {
  calls = next_number shelf.calls;
  faults = if call_fails shelf.fails shelf.calls then shelf.faults + 1 else shelf.faults;
}

-- no name stands twice
abbrev pub distinct_names : List (List ℕ × List ℕ) → Bool
distinct_names [] = true
distinct_names (file ∷ files) = not (list_any (λ other. bytes_eq file.0 other.0) files) && distinct_names files

-- a sink in memory: what it took, how many bytes a write takes at most and all of them, which calls fail, and how many calls and faults there were
pub record MemorySink : Type 0 where
  pub taken : List ℕ
  pub piece : ℕ
  pub room : ℕ
  pub fails : List ℤ
  pub calls : ℕ
  pub faults : ℕ

-- whether the next write, of so many bytes, fails: its number is asked to, or there are bytes and no room
abbrev pub write_fails : MemorySink → ℕ → Bool
write_fails sink n = call_fails sink.fails sink.calls || (nat_lt 0 n && nat_eq (length sink.taken) sink.room)

-- how many of so many bytes it takes where it does not fail
abbrev pub write_count : MemorySink → ℕ → ℕ
write_count sink n = min (min sink.piece n) (sink.room - length sink.taken)

-- what the next write of these bytes answers
abbrev pub write_answer : MemorySink → List ℕ → Result ℕ Failed
write_answer sink bytes = if write_fails sink (length bytes) then Err (record {}) else Ok (write_count sink (length bytes))

-- the sink after that call
abbrev pub after_write : MemorySink → List ℕ → MemorySink
after_write sink bytes = record sink {
  taken = if write_fails sink (length bytes) then sink.taken else sink.taken ++ take (write_count sink (length bytes)) bytes;
  calls = next_number sink.calls;
  faults = if write_fails sink (length bytes) then next_number sink.faults else sink.faults;
}
