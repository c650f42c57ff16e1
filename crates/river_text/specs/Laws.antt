-- Laws of River text, over the definitions alone.
use Rattle.std.specs.Prelude.{◌≡◌, ◌↔◌, ℕ, List, Result, Ok, Err, Some}
use Rattle.river_plan.specs.Caps.{AreCaps}
use Rattle.river_plan.specs.Valid.{IsPlan, FirstFault}
use Rattle.river_text.specs.Faults.{HasFault}
use Rattle.river_text.specs.Meaning.{plan_in}
use Rattle.river_text.specs.Plans.{IsText, TextForm}
use Rattle.river_text.specs.declared.river_fault.RiverFault.{RiverFault}
use Rattle.river_text.specs.declared.river_fault.RiverFault.TheVariants.{Text, Plan}
use Rattle.text_forms.specs.Exact.{Exact}
use Rattle.text_blocks.specs.Seven.{Ends}
use Rattle.river_text.specs.Expressions.{IsTerm, term_at}

-- a text stands for one plan at most, with one list of capacities
abbrev pub OnePlan : Type 0
OnePlan = (text : List ℕ) (t u : TextForm) → IsText text t → IsText text u → t ≡ u

-- the capacities that a text gives are 1 to 65,536
abbrev pub CapsFit : Type 0
CapsFit = (text : List ℕ) (t : TextForm) → IsText text t → AreCaps t.caps

-- What a text has, in the words of the grammar. A plan: it stands for these lists, and they are valid. A fault of its
-- bytes: that is its first; a unit: that is the first that is not in the grammar; a fault of a plan: the text stands
-- for lists of which it is the first. It is never want of memory.
abbrev pub Has : List ℕ → Result TextForm RiverFault → Type 0
Has text (Ok t) = IsText text t × IsPlan t.plan
Has text (Err (Text fault)) = HasFault text fault
Has text (Err (Plan fault)) = (t : TextForm) × IsText text t × FirstFault t.plan (Some fault)

-- what is read is the grammar: the meaning of a text is what the text has, and nothing else
abbrev pub MeansWhatItHas : Type 0
MeansWhatItHas = (text : List ℕ) (meant : Result TextForm RiverFault) → (plan_in text ≡ meant) ↔ Has text meant

-- What is read as an expression is one by the grammar; and an expression is read, with the tree that the grammar says,
-- wherever no operator follows.
abbrev pub ExpressionsAreExact : Type 0
ExpressionsAreExact = (n : ℕ) → Exact (IsTerm n) (term_at n) (Ends 6)
