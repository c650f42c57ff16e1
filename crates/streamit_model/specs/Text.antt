-- The words of blocks in reading order: loops are unrolled, so that a loop's block is read once for each turn.
use Rattle.std.specs.Prelude.{ℕ, ℤ, pos, List, [], ◌∷◌, ◌++◌, map, Option, Some, None}
use Rattle.streamit_text.specs.Tree.{Expression, Statement, Declare, Assign, Push, Discard, If, For, Block, End, Then, Optional, Unwritten, Written}
use Rattle.streamit_text.specs.Tree as tree
use Rattle.river_plan.specs.Forms.{Name}
use Rattle.brooklet_model.specs.Machine.{at_name}
use Rattle.streamit_model.specs.Meaning.{Store, eval, turns_between}
use Rattle.streamit_model.specs.Words.{ReadWord, Begins, Declares, Knows, Leaves, Sets, Uses, Fixes, Varies, Pops, Drops, Peeks, Bounds, Loops, Enters, Exits}
use Rattle.streamit_model.specs.Words.{Pushes, Otherwise, Joins, popped_in, pushed_in}

-- the words of a bound or an index
abbrev pub fixed : Expression → List ReadWord
fixed (tree.Number v) = []
fixed (tree.Name n) = Fixes n ∷ []
fixed (tree.Peek t) = Varies ∷ []
fixed tree.Pop = Varies ∷ []
fixed (tree.Neg t) = fixed t
fixed (tree.Not t) = fixed t
fixed (tree.Bin o l r) = fixed l ++ fixed r

-- the value of a bound or an index, where the variables of loops have these values
abbrev pub fixed_value : Expression → Store → ℤ
fixed_value t turns = eval t [] turns 0

-- the words of an expression
abbrev pub spelled : Expression → Store → List ReadWord
spelled (tree.Number v) turns = []
spelled (tree.Name n) turns = Uses n ∷ []
spelled (tree.Peek t) turns = fixed t ++ Peeks (fixed_value t turns) ∷ []
spelled tree.Pop turns = Pops ∷ []
spelled (tree.Neg t) turns = spelled t turns
spelled (tree.Not t) turns = spelled t turns
spelled (tree.Bin o l r) turns = spelled l turns ++ spelled r turns

-- those of a local's first value, where it has one
abbrev pub spelled_first : Option Expression → Store → List ReadWord
spelled_first None turns = []
spelled_first (Some t) turns = spelled t turns

-- the locals of a block, without those of blocks within
abbrev pub locals_of : Block → List Name
locals_of End = []
locals_of (Then (Declare n t) b) = n ∷ locals_of b
locals_of (Then c b) = locals_of b

-- a block with its end
abbrev pub with_end : Block → List ReadWord → List ReadWord
with_end b ws = ws ++ map Leaves (locals_of b)

-- the turns of a loop, of which each is its block with another value of the variable
abbrev pub turning : Name → (Store → List ReadWord) → List ℕ → Store → List ReadWord
turning n block [] turns = []
turning n block (v ∷ vs) turns = Begins ∷ Enters n ∷ (block (at_name n (pos v) turns) ++ Exits n ∷ turning n block vs turns)

-- an `if` behind its condition: the first arm, the second one, and the end
abbrev pub arms : List ReadWord → List ReadWord → List ReadWord
arms first second =
    first ++ Otherwise (popped_in first) (pushed_in first) ∷ (second ++ Joins (popped_in first) (pushed_in first) (popped_in second) (pushed_in second) ∷ [])

abbrev mutual
  -- the words of a statement; a declaration's first value is read before its name is known
  pub read_of : Statement → Store → List ReadWord
  read_of (Declare n t) turns = Begins ∷ Declares n ∷ (spelled_first t turns ++ Knows n ∷ [])
  read_of (Assign n t) turns = Begins ∷ Sets n ∷ spelled t turns
  read_of (Push t) turns = Begins ∷ (spelled t turns ++ Pushes ∷ [])
  read_of Discard turns = Drops ∷ []
  read_of (If t a b) turns = Begins ∷ (spelled t turns ++ arms (with_end a (all_read a turns)) (optional_read b turns))
  read_of (For n low upto high b) turns =
      let l = fixed_value low turns in
      let h = fixed_value high turns in
      Loops n ∷ (fixed low ++ Bounds l ∷ (fixed high ++ Bounds h ∷ turning n (λ inner. with_end b (all_read b inner)) (turns_between l upto h) turns))

  -- those of a block, without its end
  pub all_read : Block → Store → List ReadWord
  all_read End turns = []
  all_read (Then c b) turns = read_of c turns ++ all_read b turns

  -- a block that is not written has no words
  pub optional_read : Optional → Store → List ReadWord
  optional_read Unwritten turns = []
  optional_read (Written b) turns = with_end b (all_read b turns)
