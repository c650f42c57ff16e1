-- Bounds that are valued before loops around them turn, since no variable of these loops stands in them.
use Rattle.std.specs.Prelude.{◌≡◌, ℕ, ℤ, pos, Bool, true, false, ◌&&◌, List, [], ◌∷◌, Option, Some, None}
use Rattle.streamit_text.specs.Tree.{Expression}
use Rattle.streamit_text.specs.Tree as tree
use Rattle.streamit_model.specs.Meaning.{look}
use Rattle.params_text.specs.Program.{Step, Add, Loop, Steps, End, Then}
use Rattle.params_model.specs.Environment.{Environment, value}
use Rattle.params_front.specs.declared.bounds.Bounds.{Bounds, out-Bounds}

-- nothing is found
abbrev pub is_none : Option ℤ → Bool
is_none None = true
is_none (Some z) = false

-- none of these variables stands in the constant; what `peek` looks at counts for nothing
abbrev pub is_free : Environment → Expression → Bool
is_free vars (tree.Number v) = true
is_free vars (tree.Name n) = is_none (look vars n)
is_free vars (tree.Peek t) = true
is_free vars tree.Pop = true
is_free vars (tree.Neg t) = is_free vars t
is_free vars (tree.Not t) = is_free vars t
is_free vars (tree.Bin o a b) = is_free vars a && is_free vars b

-- these variables of loops have some values, the newest first, over an environment
abbrev pub IsOver : Environment → Environment → Environment → Type 0
IsOver [] known env = env ≡ known
IsOver (e ∷ vars) known env = (v : ℕ) × (rest : Environment) × (env ≡ (e.0, pos v) ∷ rest) × IsOver vars known rest

-- where a value is noted, it is this one
abbrev pub IsFixed : Option ℤ → ℤ → Type 0
IsFixed None z = Unit {0}
IsFixed (Some y) z = y ≡ z

-- what is noted of a step is so under an environment, and whatever the variables of its loops are
abbrev mutual
  pub IsValued : Environment → Step → Bounds → Type 0
  IsValued env (Add n cs) b = Unit {0}
  IsValued env (Loop n low upto high ss) b =
      IsFixed (out-Bounds b).low (value env low) × IsFixed (out-Bounds b).high (value env high)
      × ((v : ℕ) → AreValued ((n, pos v) ∷ env) ss (out-Bounds b).inner.items)

  pub AreValued : Environment → Steps → List Bounds → Type 0
  AreValued env End [] = Unit {0}
  AreValued env End (b ∷ bs) = ⊥
  AreValued env (Then s ss) [] = ⊥
  AreValued env (Then s ss) (b ∷ bs) = IsValued env s b × AreValued env ss bs

-- WHAT WAS NOTED BEFORE

abbrev pub low_noted : Option Bounds → Option ℤ
low_noted None = None
low_noted (Some b) = (out-Bounds b).low

abbrev pub high_noted : Option Bounds → Option ℤ
high_noted None = None
high_noted (Some b) = (out-Bounds b).high

abbrev pub inner_noted : Option Bounds → List Bounds
inner_noted None = []
inner_noted (Some b) = (out-Bounds b).inner.items

-- what was noted of a step, if anything, is so
abbrev pub IsNoted : Environment → Step → Option Bounds → Type 0
IsNoted env s None = Unit {0}
IsNoted env s (Some b) = IsValued env s b

-- what was noted of steps, of the first ones at least, is so
abbrev pub AreNoted : Environment → Steps → List Bounds → Type 0
AreNoted env End bs = Unit {0}
AreNoted env (Then s ss) [] = Unit {0}
AreNoted env (Then s ss) (b ∷ bs) = IsValued env s b × AreNoted env ss bs
