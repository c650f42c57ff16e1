-- What is told of a text that is no program.
use Rattle.std.specs.Prelude.{ℕ, List, ◌++◌, codes}
use Rattle.std.specs.Fmt.{decimal}
use Rattle.text_forms.specs.TextFaults.{text_words}
use Rattle.cql_front.specs.declared.fault.CqlFault.{CqlFault}
use Rattle.cql_front.specs.declared.fault.CqlFault.TheVariants as fault

-- the name of the fault and the unit
abbrev pub cql_words : CqlFault → List ℕ
cql_words (fault.Text text) = text_words text
cql_words (fault.UnknownStream unit) = codes "UnknownStream " ++ decimal unit
cql_words (fault.UnknownField unit) = codes "UnknownField " ++ decimal unit
cql_words (fault.AmbiguousField unit) = codes "AmbiguousField " ++ decimal unit
cql_words (fault.NameTwice unit) = codes "NameTwice " ++ decimal unit
cql_words (fault.Limit unit) = codes "Limit " ++ decimal unit
