-- The laws on the order of firings: statements over the definitions alone.
use Rattle.std.specs.Prelude.{◌≡◌, ℕ, List, All, map, take, drop, Some, slice_get}
use Rattle.river_base.specs.declared.item.Item as item
use Rattle.river_base.specs.Held.{HasType}
use Rattle.river_base.specs.Places.{list_at}
use Rattle.kern_tables.specs.Tables.{tab}
use Rattle.river_plan.specs.Forms.{Name, OpForm, PlanForm, decl_names, all_decls}
use Rattle.river_plan.specs.Kinds.{kind_of}
use Rattle.river_plan.specs.Uses.{Each, total, writes_it}
use Rattle.river_plan.specs.Valid.{IsPlan}
use Rattle.river_kernels.specs.Kern.{Kern, fused}
use Rattle.brooklet_model.specs.Firings.{Kept, feed, fused_of, Same}
use Rattle.brooklet_model.specs.Fire.{fire, ins, outs, tabs, privates}
use Rattle.brooklet_model.specs.Histories.{History, inputs_of, hist, all_adds, lengths, Solves}
use Rattle.brooklet_model.specs.Machine.{Machine, Run, IsComplete, start, times}
use Rattle.brooklet_model.specs.Meaning.{meaning}
use Rattle.brooklet_model.specs.Shapes.{IsFormed, HasShape}
use Rattle.brooklet_model.specs.Typed.{AreInputs}
use Rattle.river_base.specs.Bags.{SameBag}
use Rattle.brooklet_model.specs.Words.{Word, run, feed_all, Alike, IsInterleaving}

-- Fused kernels: over any firings, the fused kernel gives at its ports what its first part gives elsewhere and, in place of
-- port `at`, what feeding its second part with all that came at that port gives. Its adds are those of the first part
-- and of the second, and so are its last states.
abbrev pub FusedRuns : Type 0
FusedRuns =
    (a b : Kern) (at : ℕ) (w : Word) (ss : List Kept) → IsFormed (fused a b at) → HasShape (fused a b at) ss
    → Same
    (run (fire (fused a b at)) w ss)
    (fused_of at (outs b) (tabs a) (run (fire a) w (take (privates a) ss)) (λ xs. feed (fire b 0) xs (drop (privates a) ss)))

-- Interleavings: in whatever order the items of its ports come to a kernel, it gives at each port, adds to each table and
-- ends in what it does where its ports are fed one after another. The rows added to a table are the same bag.
abbrev pub OrderIsFree : Type 0
OrderIsFree =
    (k : Kern) (h : ℕ → List item.Item) (w : Word) (ss : List Kept) → IsFormed k → HasShape k ss → IsInterleaving (ins k) h w
    → Alike (run (fire k) w ss) (feed_all k h ss)

-- the inputs of a plan, by name
abbrev pub given_to : PlanForm → List (List item.Item) → History
given_to p inputs = inputs_of (decl_names p.inputs) (list_at inputs)

-- One solution: the histories of a valid plan solve the equations of its operators, and are the inputs where nobody writes.
-- Whatever solves the equations, and is the inputs where nobody writes, is these histories.
abbrev pub HistoriesSolve : Type 0
HistoriesSolve =
    (p : PlanForm) (inputs : List (List item.Item)) → IsPlan p
    → Each (Solves (hist p inputs)) p.ops × ((q : Name) → total (writes_it q) p.ops ≡ 0 → hist p inputs q ≡ given_to p inputs q)

abbrev pub OneSolution : Type 0
OneSolution =
    (p : PlanForm) (inputs : List (List item.Item)) (h : History) → IsPlan p → Each (Solves h) p.ops
    → ((q : Name) → total (writes_it q) p.ops ≡ 0 → h q ≡ given_to p inputs q) → (q : Name) → h q ≡ hist p inputs q

-- what is defined of a plan, as a machine's state has it after these firings: each queue's history, the bag of rows added to each
-- table, the rows that each table is printed with, and how often each operator fired, once for each item of its inputs
pub record HasDefined (p : PlanForm) (inputs : List (List item.Item)) (es : List (ℕ × ℕ)) (s : Machine) : Type 0 where
  pub queues : (q : Name) → s.hist q ≡ hist p inputs q
  pub tables : (t : Name) → SameBag (s.rows t) (all_adds p inputs t)
  pub printed : map (λ t. tab t.kind (s.rows t.name)) p.tables ≡ (meaning p inputs).tables
  pub firings : (o : ℕ) (op : OpForm) → slice_get p.ops o ≡ Some op → times o es ≡ lengths (hist p inputs) op.reads

-- All complete runs agree: whatever operator and port was chosen at each moment, a run of a valid plan from its inputs to a
-- complete state has what is defined of the plan. It holds for all inputs, those that fit included.
abbrev pub RunsAgree : Type 0
RunsAgree =
    (p : PlanForm) (inputs : List (List item.Item)) (es : List (ℕ × ℕ)) (s : Machine) → IsPlan p → Run p (start p inputs) es s → IsComplete p s
    → HasDefined p inputs es s

-- Types: in a valid plan, on inputs of the types of their queues, each item of each history is of its queue's type: rows, packs,
-- streams and relations.
abbrev pub HistoriesAreTyped : Type 0
HistoriesAreTyped =
    (p : PlanForm) (inputs : List (List item.Item)) → IsPlan p → AreInputs p.inputs inputs
    → (q : Name) → All (HasType (kind_of (all_decls p) q)) (hist p inputs q)
