-- How the numbers of a list are written.
use Rattle.std.specs.Prelude.{ℕ, ℤ, List}
use Rattle.std.specs.Fmt.{signed_decimal}
use Rattle.river_print.specs.Printed.{start_text}
use Rattle.river_print.specs.declared.items.Style.{Style}
use Rattle.river_print.specs.declared.items.Style.TheVariants.{Value, Start}

-- a number in this style
abbrev pub text_in : Style → ℤ → List ℕ
text_in Value = signed_decimal
text_in Start = start_text
