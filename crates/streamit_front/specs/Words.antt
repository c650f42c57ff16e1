-- What is told of a text that is no program.
use Rattle.std.specs.Prelude.{ℕ, List, ◌++◌, codes}
use Rattle.std.specs.Fmt.{decimal, signed_decimal}
use Rattle.text_forms.specs.TextFaults.{text_words}
use Rattle.streamit_front.specs.declared.fault.StreamitFault.{StreamitFault}
use Rattle.streamit_front.specs.declared.fault.StreamitFault.TheVariants as fault

-- the name of the fault and the unit, and then the rates that are declared and counted, or the index and the rate of `peek`
abbrev pub streamit_words : StreamitFault → List ℕ
streamit_words (fault.Text text) = text_words text
streamit_words (fault.UnknownName unit) = codes "UnknownName " ++ decimal unit
streamit_words (fault.NameTwice unit) = codes "NameTwice " ++ decimal unit
streamit_words (fault.Rates unit declared counted) = (codes "Rates " ++ decimal unit) ++ ((codes " " ++ decimal declared) ++ (codes " " ++ decimal counted))
streamit_words (fault.PeekRange unit index peek) = (codes "PeekRange " ++ decimal unit) ++ ((codes " " ++ signed_decimal index) ++ (codes " " ++ decimal peek))
streamit_words (fault.NotConstant unit) = codes "NotConstant " ++ decimal unit
streamit_words (fault.BranchRates unit) = codes "BranchRates " ++ decimal unit
streamit_words (fault.Limit unit) = codes "Limit " ++ decimal unit
streamit_words (fault.Weights unit) = codes "Weights " ++ decimal unit
