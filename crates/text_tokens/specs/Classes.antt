-- Classes of bytes by their names.
use Rattle.std.specs.Prelude.{ℕ, Bool}
use Rattle.text_tokens.specs.declared.byte.Class.{Class}
use Rattle.text_tokens.specs.declared.byte.Class.TheVariants.{Blank, Letter, InLine, Word, Digit}
use Rattle.text_tokens.specs.Lexis.{is_blank, is_letter, is_in_line, is_word, is_digit}

abbrev pub belongs : Class → ℕ → Bool
belongs Blank = is_blank
belongs Letter = is_letter
belongs InLine = is_in_line
belongs Word = is_word
belongs Digit = is_digit
