-- Printed plans are read back as themselves.
use Rattle.std.specs.Prelude.{◌≡◌, ◌↔◌, ℕ, List, Ok}
use Rattle.river_plan.specs.Caps.{AreCaps, IsOwnCap, OwnCaps, caps_of, first_cap}
use Rattle.river_plan.specs.Forms.{Name, PlanForm}
use Rattle.river_plan.specs.Valid.{IsPlan}
use Rattle.river_text.specs.Meaning.{plan_in}
use Rattle.river_text.specs.Plans.{IsText, TextForm}
use Rattle.river_print.specs.Printable.{IsPrintable}
use Rattle.river_print.specs.Printed.{plan_text}
use Rattle.river_print.specs.Ranged.{IsRanged}
use Rattle.river_print.specs.Writable.{IsWritable}

-- what queues have of their own may be capacities
abbrev pub HaveOwnCaps : OwnCaps → Type 0
HaveOwnCaps own = (q : Name) → IsOwnCap (own q)

-- a plan, with the capacities of its internal queues
abbrev pub stood : OwnCaps → PlanForm → TextForm
stood own p = record { plan = p; caps = caps_of own p.queues }

-- the text is in the grammar and stands for this and for nothing else
abbrev pub StandsForAlone : List ℕ → TextForm → Type 0
StandsForAlone text t = IsText text t × ((u : TextForm) → IsText text u → u ≡ t)

-- so does the printed text of each plan that has what the grammar has
abbrev pub PrintedIsRead : Type 0
PrintedIsRead = (own : OwnCaps) (p : PlanForm) → HaveOwnCaps own → IsWritable p → StandsForAlone (plan_text own p) (stood own p)

-- that of a valid plan whose numbers lie in the ranges of their types does exactly where the plan keeps the bounds of the grammar
abbrev pub ValidIsRead : Type 0
ValidIsRead = (own : OwnCaps) (p : PlanForm) → HaveOwnCaps own → IsPlan p → IsRanged p → StandsForAlone (plan_text own p) (stood own p) ↔ IsPrintable p

-- lists that a text stands for have these ranges and keep these bounds, and its capacities are 1 to 65,536
abbrev pub ReadIsPrintable : Type 0
ReadIsPrintable = (text : List ℕ) (t : TextForm) → IsText text t → IsRanged t.plan × IsPrintable t.plan × AreCaps t.caps

-- so the printed text of a valid plan that was read, with the capacities that were read, stands for them
abbrev pub ReadIsReadAgain : Type 0
ReadIsReadAgain =
    (text : List ℕ) (t : TextForm) → IsText text t → IsPlan t.plan
    → StandsForAlone (plan_text (first_cap t.caps) t.plan) (stood (first_cap t.caps) t.plan)

-- and so does that of what a text means
abbrev pub CompiledIsReadAgain : Type 0
CompiledIsReadAgain =
    (text : List ℕ) (t : TextForm) → plan_in text ≡ Ok t → StandsForAlone (plan_text (first_cap t.caps) t.plan) (stood (first_cap t.caps) t.plan)
