-- What a rewrite answers, by its conditions: the first that fails, or else a plan.
use Rattle.std.specs.Prelude.{ℕ, ◌<◌, Result, Ok, Err}
use Rattle.river_plan.specs.Forms.{PlanForm}
use Rattle.plan_edits.specs.declared.unfit.Unfit.{Unfit}
use Rattle.plan_edits.specs.declared.unfit.Unfit.TheVariants.{U1, U2, U3, U4, U5, H1, H2, H3, H4, N1, N2, N3, N4, N5, NoMemory}

-- the order in which conditions are told; each rewrite has those of its own letter
abbrev pub rank : Unfit → ℕ
rank U1 = 0
rank U2 = 1
rank U3 = 2
rank U4 = 3
rank U5 = 4
rank H1 = 5
rank H2 = 6
rank H3 = 7
rank H4 = 8
rank N1 = 9
rank N2 = 10
rank N3 = 11
rank N4 = 12
rank N5 = 13
rank NoMemory = 14

-- of the conditions it is the first that fails
pub record IsFirstToFail (Fails : Unfit → Type 0) (f : Unfit) : Type 0 where
  pub fails : Fails f
  pub first : (g : Unfit) → rank g < rank f → Fails g → ⊥

-- the answer is a plan exactly where no condition fails, and then the one that is made; otherwise it is the first that fails
abbrev pub IsJudgedBy : (Unfit → Type 0) → (PlanForm → Type 0) → Result PlanForm Unfit → Type 0
IsJudgedBy Fails Makes (Ok p) = ((f : Unfit) → Fails f → ⊥) × Makes p
IsJudgedBy Fails Makes (Err f) = IsFirstToFail Fails f
