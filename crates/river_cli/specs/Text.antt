-- What is written where the words are no sentence.
use Rattle.std.specs.Prelude.{ℕ, List, codes}

abbrev pub usage_text : List ℕ
usage_text = codes "usage: river run|plan|mean|load|upgrade|free\n"
