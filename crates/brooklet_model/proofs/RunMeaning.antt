-- What a complete run has is what the plan means.
use Rattle.std.proofs.Common.{◌≡◌, ℕ, List, [], Some, map, sym, ap, ◌∙◌}
use Rattle.std.specs.Prelude.{slice_get, min}
use Rattle.river_base.proofs.Lists.{got_map}
use Rattle.river_base.specs.declared.item.Item as item
use Rattle.kern_tables.specs.Tables.{tab}
use Rattle.river_plan.specs.Forms.{PlanForm, OpForm, decl_names}
use Rattle.brooklet_model.specs.Histories.{History, hist, all_adds, most_firings, firings, firings_of}
use Rattle.brooklet_model.specs.Laws.{HasDefined}
use Rattle.brooklet_model.specs.Machine.{Machine, times}
use Rattle.brooklet_model.specs.Meaning.{meaning}
use Rattle.brooklet_model.proofs.Lists.{funext}

-- all its histories are the defined ones
pub hist_is : (p : PlanForm) (inputs : List (List item.Item)) (es : List (ℕ × ℕ)) (s : Machine) → HasDefined p inputs es s → s.hist ≡ hist p inputs
hist_is p inputs es s d = funext s.hist (hist p inputs) d.queues

-- the histories of the outputs are what the plan means
pub outs_are : (p : PlanForm) (inputs : List (List item.Item)) (es : List (ℕ × ℕ)) (s : Machine) → HasDefined p inputs es s
    → map s.hist (decl_names p.outputs) ≡ (meaning p inputs).outs
outs_are p inputs es s d = ap (λ (h : History). map h (decl_names p.outputs)) (hist_is p inputs es s d)

-- a plan without tables means its outputs alone
pub meaning_is : (p : PlanForm) (inputs : List (List item.Item)) (es : List (ℕ × ℕ)) (s : Machine) → p.tables ≡ [] → HasDefined p inputs es s
    → record { outs = map s.hist (decl_names p.outputs); tables = [] } ≡ meaning p inputs
meaning_is p inputs es s e d =
    let o = outs_are p inputs es s d in
    let t = ap (map (λ t. tab t.kind (all_adds p inputs t.name))) e in
    λ i. record { outs = o i; tables = sym t i }

-- each count of firings is how often its operator stands in the run, and at most 2^63 - 1
pub firings_are : (p : PlanForm) (inputs : List (List item.Item)) (es : List (ℕ × ℕ)) (s : Machine) → HasDefined p inputs es s → (o : ℕ) (op : OpForm)
    → slice_get p.ops o ≡ Some op → slice_get (firings p inputs) o ≡ Some (min most_firings (times o es))
firings_are p inputs es s d o op g = got_map (firings_of (hist p inputs)) p.ops o op g ∙ ap (λ n. Some (min most_firings n)) (sym (d.firings o op g))
