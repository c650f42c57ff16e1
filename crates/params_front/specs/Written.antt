-- What the making of a program's instances answers.
use Rattle.std.specs.Prelude.{◌≡◌, pos, map, Result, Ok, Err}
use Rattle.params_text.specs.Toks.{plain_text}
use Rattle.params_model.specs.Making.{Made}
use Rattle.params_model.specs.declared.fault.Refusal.{Refusal}
use Rattle.params_build.specs.declared.refused.Refused.{Refused}
use Rattle.params_build.specs.Judging.{IsWhyRefused}
use Rattle.params_front.specs.declared.make.Written.{Written}

-- the text is that of the instances that are made, with the source unit of each; or the fault is the first
abbrev pub MakesText : Result Written Refused → Result Made Refusal → Type 0
MakesText (Ok w) r = (m : Made) × (r ≡ Ok m) × (w.plain ≡ plain_text m.units) × (w.from ≡ map pos m.from)
MakesText (Err e) r = IsWhyRefused r e
