-- The promise of the printer.
use Rattle.std.proofs.Common.{◌≡◌, ℕ, List, sym, subst}
use Rattle.std.specs.Prelude.{◌↔◌, Result, Ok, Err, IfOk}
use Rattle.river_base.specs.declared.memory.NoMemory.{NoMemory}
use Rattle.river_text.proofs.Capped.{caps_fit}
use Rattle.river_text.proofs.Fronts.{means_what_it_has}
use Rattle.river_plan.specs.Caps.{AreCaps, OwnCaps, first_cap}
use Rattle.river_plan.specs.Forms.{PlanForm}
use Rattle.river_plan.specs.Valid.{IsPlan}
use Rattle.river_plan.specs.declared.caps.Cap.{Cap}
use Rattle.river_plan.proofs.CapLemmas.{first_fits}
use Rattle.river_print.specs.Laws.{HaveOwnCaps, StandsForAlone, stood, ValidIsRead, ReadIsPrintable, ReadIsReadAgain, CompiledIsReadAgain}
use Rattle.river_print.specs.Printable.{IsPrintable}
use Rattle.river_print.specs.Printed.{plan_text}
use Rattle.river_print.specs.Ranged.{IsRanged}
use Rattle.river_print.proofs.Read.{read-printable}
use Rattle.river_print.proofs.Round.{printed_is_read}
use Rattle.river_print.proofs.Valid.{printable-writable}

-- a printable plan is read back
pub printable-read : (own : OwnCaps) (p : PlanForm) → HaveOwnCaps own → IsPlan p → IsRanged p → IsPrintable p → StandsForAlone (plan_text own p) (stood own p)
printable-read own p fit valid ranged h = printed_is_read own p fit (printable-writable p valid ranged h)

-- the law: a valid plan is read back exactly where it keeps the grammar's bounds
pub valid_is_read : ValidIsRead
valid_is_read own p fit valid ranged = (λ s. (read-printable (plan_text own p) (stood own p) s.0).1, printable-read own p fit valid ranged)

-- the law: what a text stands for has its ranges and keeps its bounds
pub read_is_printable : ReadIsPrintable
read_is_printable text t is = let h = read-printable text t is in (h.0, h.1, caps_fit text t is)

-- the law: a plan that was read is read back
pub read_is_read_again : ReadIsReadAgain
read_is_read_again text t is valid =
    let h = read-printable text t is in
    printable-read (first_cap t.caps) t.plan (λ q. first_fits t.caps q (caps_fit text t is)) valid h.0 h.1

-- the law: a plan that a text means is read back
pub compiled_is_read_again : CompiledIsReadAgain
compiled_is_read_again text t e = let h = (means_what_it_has text (Ok t)).0 e in read_is_read_again text t h.0 h.1

-- what is printed of a valid plan
pub promised : (text : List ℕ) (caps : List Cap) (p : PlanForm) → text ≡ plan_text (first_cap caps) p → AreCaps caps → IsPlan p → IsRanged p
    → StandsForAlone text (stood (first_cap caps) p) ↔ IsPrintable p
promised text caps p is fit valid ranged =
    subst (λ (l : List ℕ). StandsForAlone l (stood (first_cap caps) p) ↔ IsPrintable p) (sym is)
    (valid_is_read (first_cap caps) p (λ q. first_fits caps q fit) valid ranged)

-- of a text that was printed
pub promised-ok : (r : Result (List ℕ) NoMemory) (caps : List Cap) (p : PlanForm) → IfOk r (λ text. text ≡ plan_text (first_cap caps) p) → AreCaps caps
    → IsPlan p → IsRanged p → IfOk r (λ text. StandsForAlone text (stood (first_cap caps) p) ↔ IsPrintable p)
promised-ok (Ok text) caps p is fit valid ranged = promised text caps p is fit valid ranged
promised-ok (Err e) caps p is fit valid ranged = tt
