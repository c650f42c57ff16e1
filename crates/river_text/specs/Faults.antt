-- Which faults a River text has, and what a refusal says of it.
use Rattle.std.specs.Prelude.{ℕ, List}
use Rattle.text_forms.specs.TextFaults.{HasTextFault, RefusesText}
use Rattle.text_forms.specs.declared.text_fault.TextFault.{TextFault}
use Rattle.river_text.specs.Plans.{IsText, IsBadAt}

-- the bytes of the text have this fault, or it has tokens and this is its first unit that is not in the grammar
abbrev pub HasFault : List ℕ → TextFault → Type 0
HasFault text fault = HasTextFault (IsBadAt text) text fault

-- the text has this fault, and stands for no plan
abbrev pub Refuses : List ℕ → TextFault → Type 0
Refuses text fault = RefusesText (IsBadAt text) (IsText text) text fault
