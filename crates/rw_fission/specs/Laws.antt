-- The laws of fission: statements over the definitions alone.
use Rattle.std.specs.Prelude.{◌≡◌, ℕ, ◌<◌, Some, Ok, List, [], ◌∷◌}
use Rattle.river_base.specs.declared.item.Item as item
use Rattle.river_plan.specs.Forms.{Name, OpForm, PlanForm, all_decls}
use Rattle.river_plan.specs.Kinds.{kind_of}
use Rattle.river_plan.specs.Uses.{named_it}
use Rattle.river_plan.specs.Valid.{IsPlan}
use Rattle.brooklet_model.specs.Meaning.{meaning}
use Rattle.brooklet_model.specs.Typed.{AreInputs}
use Rattle.rw_fission.specs.Asked.{fission_of, way_of}
use Rattle.rw_fission.specs.Fission.{Way, split_by}
use Rattle.plan_edits.specs.Lists.{first_with}
use Rattle.rw_fission.specs.Made.{made_of}
use Rattle.rw_fission.specs.May.{IsPlanIfApart}
use Rattle.plan_edits.specs.Meaning.{SameOuter}

-- What is split is a valid plan with the same inputs, outputs and tables, and means the same on all inputs that fit.
abbrev pub FissionKeeps : Type 0
FissionKeeps =
    (p p' : PlanForm) (l : Name) (n : ℕ) → IsPlan p → fission_of p l n ≡ Ok p'
    → IsPlan p' × SameOuter p p' × ((inputs : List (List item.Item)) → AreInputs p.inputs inputs → meaning p' inputs ≡ meaning p inputs)

-- of a result, a valid plan is one in which no name stands twice and no number is above its limit
abbrev pub FissionApart : Type 0
FissionApart =
    (p : PlanForm) (l : Name) (n : ℕ) (op : OpForm) (source : Name) (w : Way) → IsPlan p → first_with (named_it l) p.ops ≡ Some op → op.reads ≡ source ∷ []
    → 0 < n
    → way_of p op (made_of l) n (kind_of (all_decls p) source) ≡ Some w
    → IsPlanIfApart (split_by p l op (made_of l) n (kind_of (all_decls p) source) w)
