-- The words that ask for a run.
use Rattle.std.proofs.Common.{[], ◌∷◌, true, false, refl, arith}
use Rattle.std.specs.Prelude.{None}
use Rattle.command_line.specs.declared.command.RunBy.TheVariants.{Workers}
use Rattle.run_pieces.specs.Ran.{WordsAsk, WordsAskForNoScript}

-- the words of a tally ask for its run, and for no script
pub words_ask_for_no_script : WordsAskForNoScript
words_ask_for_no_script program [] header file some = absurd (omega (arith, some))
words_ask_for_no_script program (c ∷ cs) true file some = (record { script = None; by = Workers 1; cap = 64; is = rw file refl }, refl)
words_ask_for_no_script program (c ∷ cs) false file some = (record { script = None; by = Workers 1; cap = 64; is = rw file refl }, refl)

-- the words of a tally ask for its run
pub words_ask : WordsAsk
words_ask program input header file some = (words_ask_for_no_script program input header file some).0
