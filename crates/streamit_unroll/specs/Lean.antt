-- The statements that a block stands for whose runs of `pop();` are counted.
use Rattle.std.specs.Prelude.{ℕ, zero, suc, List, [], ◌∷◌, ◌++◌, map, Option, Some, None}
use Rattle.streamit_text.specs.Tree.{Statement, Declare, Assign, Push, Discard, If, For, Block, Optional, Unwritten, Written}
use Rattle.streamit_text.specs.Tree.{expression, option_expression, is_turn, in_turn, or_unwritten}
use Rattle.streamit_unroll.specs.declared.lean.Building.{Building}
use Rattle.streamit_unroll.specs.declared.lean.Lean as made
use Rattle.streamit_unroll.specs.declared.lean.Lean.{fold-Lean}
use Rattle.streamit_unroll.specs.declared.lean.Lean.TheOpen.{Lean-F, LeanBlock-F}
use Rattle.streamit_unroll.specs.declared.lean.Lean.TheOpen as layer
use Rattle.streamit_unroll.specs.declared.lean.LeanBlock as made_block
use Rattle.streamit_unroll.specs.declared.lean.LeanBlock.{fold-LeanBlock}

-- so many `pop();`
abbrev pub discards : ℕ → List Statement
discards zero = []
discards (suc n) = Discard ∷ discards n

-- lists, one after another
abbrev pub flat : List (List Statement) → List Statement
flat [] = []
flat (l ∷ ls) = l ++ flat ls

abbrev pub lean_layer : Lean-F (List Statement) Block → List Statement
lean_layer (layer.Declare name value) = Declare name (option_expression value.now) ∷ []
lean_layer (layer.Assign name value) = Assign name (expression value.now) ∷ []
lean_layer (layer.Push value) = Push (expression value.now) ∷ []
lean_layer (layer.Pops n) = discards n
lean_layer (layer.If cond one two) = If (expression cond.now) one (or_unwritten two) ∷ []
lean_layer (layer.For name low until high body) = For name (expression low.now) (is_turn until) (expression high.now) body ∷ []

abbrev pub lean_block_layer : LeanBlock-F (List Statement) Block → Block
lean_block_layer b = in_turn (flat b.items.items)

-- a run of `pop();` is several statements, and any other is one
abbrev pub lean : made.Lean → List Statement
lean s = fold-Lean (List Statement) Block lean_layer lean_block_layer s

abbrev pub lean_block : made_block.LeanBlock → Block
lean_block b = fold-LeanBlock (List Statement) Block lean_layer lean_block_layer b

abbrev pub lean_optional : Option made_block.LeanBlock → Optional
lean_optional None = Unwritten
lean_optional (Some b) = Written (lean_block b)

-- the statements that were put together
abbrev pub told : Building → List Statement
told b = flat (map lean b.items.items) ++ discards b.pops
