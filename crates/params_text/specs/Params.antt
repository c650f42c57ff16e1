-- The names of parameters in the blocks of a filter: how deep an expression is, where a parameter counts as 3 deep.
use Rattle.std.specs.Prelude.{ℕ, suc, max, Bool, true, false, ◌&&◌, ◌||◌, nat_le, if◌then◌else◌, List, [], ◌∷◌, Option, None, Some}
use Rattle.river_base.specs.Name.{name_eq}
use Rattle.streamit_text.specs.Tree.{Expression, Statement, Declare, Assign, Push, Discard, If, For, Block, End, Then, Optional, Unwritten, Written}
use Rattle.streamit_text.specs.Tree as tree

-- the name is among these
abbrev pub is_one_of : List (List ℕ) → List ℕ → Bool
is_one_of [] n = false
is_one_of (k ∷ ks) n = name_eq k n || is_one_of ks n

-- how deep an expression is: what is written for a parameter is 3 deep at most
abbrev pub param_depth : List (List ℕ) → Expression → ℕ
param_depth ps (tree.Number v) = 1
param_depth ps (tree.Name n) = if is_one_of ps n then 3 else 1
param_depth ps (tree.Peek t) = suc (param_depth ps t)
param_depth ps tree.Pop = 1
param_depth ps (tree.Neg t) = suc (param_depth ps t)
param_depth ps (tree.Not t) = suc (param_depth ps t)
param_depth ps (tree.Bin o a b) = suc (max (param_depth ps a) (param_depth ps b))

-- at most 64 deep
abbrev pub is_low : List (List ℕ) → Expression → Bool
is_low ps t = nat_le (param_depth ps t) 64

abbrev pub is_low_first : List (List ℕ) → Option Expression → Bool
is_low_first ps None = true
is_low_first ps (Some t) = is_low ps t

-- each expression of a block is
abbrev mutual
  pub lows : List (List ℕ) → Statement → Bool
  lows ps (Declare n t) = is_low_first ps t
  lows ps (Assign n t) = is_low ps t
  lows ps (Push t) = is_low ps t
  lows ps Discard = true
  lows ps (If t a b) = is_low ps t && (low ps a && low_optional ps b)
  lows ps (For n from upto to b) = is_low ps from && (is_low ps to && low ps b)

  pub low : List (List ℕ) → Block → Bool
  low ps End = true
  low ps (Then c b) = lows ps c && low ps b

  pub low_optional : List (List ℕ) → Optional → Bool
  low_optional ps Unwritten = true
  low_optional ps (Written b) = low ps b
