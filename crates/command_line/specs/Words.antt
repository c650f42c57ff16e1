-- What a word of the command line may be.
use Rattle.std.specs.Prelude.{ℕ, List, [], ◌∷◌, length, ◌==◌, nat_lt, nat_le, ◌&&◌, not, Bool, false, Option, None, Some, codes, if◌then◌else◌}
use Rattle.std.specs.List.{list_all}
use Rattle.std.specs.Str.{bytes_eq}
use Rattle.river_base.specs.Name.{is_digit}
use Rattle.csv_streams.specs.Number.{value_after}
use Rattle.command_line.specs.declared.command.InWord.{InWord}
use Rattle.command_line.specs.declared.command.Lang.{Lang}
use Rattle.command_line.specs.declared.command.Lang.TheVariants.{River, Streamit, Params, Sawzall, Cql}

-- the language that a word names
abbrev pub lang_named : List ℕ → Option Lang
lang_named word =
    if bytes_eq word (codes "river") then Some River
    else if bytes_eq word (codes "streamit") then Some Streamit
    else if bytes_eq word (codes "params") then Some Params
    else if bytes_eq word (codes "sawzall") then Some Sawzall
    else if bytes_eq word (codes "cql") then Some Cql
    else None

-- a word that may be the program's file: not empty, and it does not begin with `-`
abbrev pub is_file : List ℕ → Bool
is_file [] = false
is_file (c ∷ cs) = not (c == 45)

-- a word that is a number: 1 to 9 decimal digits
abbrev pub is_number_word : List ℕ → Bool
is_number_word word = nat_lt 0 (length word) && (nat_le (length word) 9 && list_all is_digit word)

-- a number from 1 to the greatest that may stand there
abbrev pub up_to_most : ℕ → ℕ → Option ℕ
up_to_most most n = if nat_lt 0 n && nat_le n most then Some n else None

-- the number that a word writes, if it is one from 1 to the greatest that may stand there
abbrev pub number_to : ℕ → List ℕ → Option ℕ
number_to most word = if is_number_word word then up_to_most most (value_after 0 word) else None

-- the number that a word writes, if it is one from 0 to the greatest that may stand there
abbrev pub at_most : ℕ → ℕ → Option ℕ
at_most most n = if nat_le n most then Some n else None

abbrev pub from_zero : ℕ → List ℕ → Option ℕ
from_zero most word = if is_number_word word then at_most most (value_after 0 word) else None

-- the part of a word before its first `=`
abbrev pub name_part : List ℕ → List ℕ
name_part [] = []
name_part (c ∷ cs) = if c == 61 then [] else c ∷ name_part cs

-- the part from its first `=` on
abbrev pub rest_part : List ℕ → List ℕ
rest_part [] = []
rest_part (c ∷ cs) = if c == 61 then c ∷ cs else rest_part cs

-- a word is NAME=FILE where neither part is empty
abbrev pub parted : List ℕ → List ℕ → Option InWord
parted (n ∷ name) (c ∷ d ∷ file) = Some (record { name = n ∷ name; file = d ∷ file })
parted name rest = None

abbrev pub in_word_of : List ℕ → Option InWord
in_word_of word = parted (name_part word) (rest_part word)
