-- What is told of a file that is none of rows.
use Rattle.std.specs.Prelude.{ℕ, List, ◌++◌, codes}
use Rattle.std.specs.Fmt.{decimal}
use Rattle.csv_streams.specs.declared.fault.InFault.{InFault}
use Rattle.csv_streams.specs.declared.fault.InFault.TheVariants as fault

-- the name of the fault and the numbers of the record and the field; want of memory is never told
abbrev pub in_words : InFault → List ℕ
in_words (fault.Width rec) = codes "I1 " ++ decimal rec
in_words (fault.NotNumber rec field) = codes "I2 " ++ (decimal rec ++ (codes " " ++ decimal field))
in_words (fault.Backwards rec) = codes "I3 " ++ decimal rec
in_words (fault.NegativeTime rec) = codes "I4 " ++ decimal rec
in_words fault.TooMany = codes "I5"
in_words fault.NoMemory = codes "NoMemory"
