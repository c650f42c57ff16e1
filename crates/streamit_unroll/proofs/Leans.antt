-- Blocks whose runs of `pop();` are counted, layer by layer.
use Rattle.std.proofs.Common.{◌≡◌, ℕ, zero, suc, ◌+◌, ◌<◌, List, [], ◌∷◌, ◌++◌, map, drop, length, get_or, Option, Some, None, refl, sym, ap, ◌∙◌}
use Rattle.std.proofs.Common.{append_assoc, append-nil, Bor, add-one}
use Rattle.std.proofs.lemmas.List.{map-append}
use Rattle.river_base.proofs.Lists.{map_next}
use Rattle.streamit_text.specs.declared.tree.Until.{Until}
use Rattle.streamit_text.specs.declared.tree.Expr.{Expr}
use Rattle.streamit_text.specs.Tree as source
use Rattle.streamit_text.specs.Tree.{Statement, Block, expression, option_expression, is_turn, in_turn}
use Rattle.streamit_unroll.specs.declared.lean.Lean as made
use Rattle.streamit_unroll.specs.declared.lean.Lean.{Lean, fold-roll-Lean}
use Rattle.streamit_unroll.specs.declared.lean.Lean.TheVariants.{rolls-Declare, rolls-Assign, rolls-Push, rolls-Pops, rolls-If, rolls-For}
use Rattle.streamit_unroll.specs.declared.lean.Lean.TheOpen as part
use Rattle.streamit_unroll.specs.declared.lean.Lean.TheFolds.{fold_out-LeanBlock}
use Rattle.streamit_unroll.specs.declared.lean.LeanBlock.{LeanBlock, size-LeanBlock}
use Rattle.streamit_unroll.specs.Lean.{discards, flat, lean_layer, lean_block_layer, lean, lean_block, lean_optional}

-- the statements of a block
pub lean_block-is : (b : LeanBlock) → lean_block b ≡ in_turn (flat (map lean b.items.items))
lean_block-is b = fold_out-LeanBlock (List Statement) Block lean_layer lean_block_layer b

-- a declaration
pub lean-declare : (name : List ℕ) (value : Bor (Option Expr)) → lean (made.Declare name value) ≡ source.Declare name (option_expression value.now) ∷ []
lean-declare name value = ap lean (sym (rolls-Declare name value)) ∙ fold-roll-Lean (List Statement) Block lean_layer lean_block_layer (part.Declare name value)

-- an assignment
pub lean-assign : (name : List ℕ) (value : Bor Expr) → lean (made.Assign name value) ≡ source.Assign name (expression value.now) ∷ []
lean-assign name value = ap lean (sym (rolls-Assign name value)) ∙ fold-roll-Lean (List Statement) Block lean_layer lean_block_layer (part.Assign name value)

-- a push
pub lean-push : (value : Bor Expr) → lean (made.Push value) ≡ source.Push (expression value.now) ∷ []
lean-push value = ap lean (sym (rolls-Push value)) ∙ fold-roll-Lean (List Statement) Block lean_layer lean_block_layer (part.Push value)

-- a run of `pop();`
pub lean-pops : (n : ℕ) → lean (made.Pops n) ≡ discards n
lean-pops n = ap lean (sym (rolls-Pops n)) ∙ fold-roll-Lean (List Statement) Block lean_layer lean_block_layer (part.Pops n)

-- an `if`
pub lean-if : (cond : Bor Expr) (one : LeanBlock) (two : Option LeanBlock)
    → lean (made.If cond one two) ≡ source.If (expression cond.now) (lean_block one) (lean_optional two) ∷ []
lean-if cond one None =
    ap lean (sym (rolls-If cond one None)) ∙ fold-roll-Lean (List Statement) Block lean_layer lean_block_layer (part.If cond one None)
lean-if cond one (Some two) =
    ap lean (sym (rolls-If cond one (Some two))) ∙ fold-roll-Lean (List Statement) Block lean_layer lean_block_layer (part.If cond one (Some two))

-- a loop
pub lean-for : (name : List ℕ) (low : Bor Expr) (until : Until) (high : Bor Expr) (body : LeanBlock)
    → lean (made.For name low until high body) ≡ source.For name (expression low.now) (is_turn until) (expression high.now) (lean_block body) ∷ []
lean-for name low until high body =
    ap lean (sym (rolls-For name low until high body))
    ∙ fold-roll-Lean (List Statement) Block lean_layer lean_block_layer (part.For name low until high body)

pub ruleset leans = (lean_block-is, lean-declare, lean-assign, lean-push, lean-pops, lean-if, lean-for)

-- how deep an arm that may be left out is
abbrev pub optional_size : Option LeanBlock → ℕ
optional_size None = 0
optional_size (Some b) = size-LeanBlock b

-- one `pop();` more
discards_suc : (n : ℕ) → discards (suc n) ≡ discards n ++ source.Discard ∷ []
discards_suc zero = refl
discards_suc (suc n) = ap (λ l. source.Discard ∷ l) (discards_suc n)

-- one more `pop();` stands behind the others
pub discards_more : (n : ℕ) → discards (n + 1) ≡ discards n ++ source.Discard ∷ []
discards_more n = ap discards (add-one n) ∙ discards_suc n

flat_append : (a b : List (List Statement)) → flat (a ++ b) ≡ flat a ++ flat b
flat_append [] b = refl
flat_append (l ∷ ls) b = ap (λ m. l ++ m) (flat_append ls b) ∙ sym (append_assoc l (flat ls) (flat b))

-- a statement more
pub told_last : (items : List Lean) (s : Lean) (new : List Lean) → new ≡ items ++ s ∷ [] → flat (map lean new) ≡ flat (map lean items) ++ lean s
told_last items s new is =
    ap (λ l. flat (map lean l)) is ∙ ap flat (map-append lean items (s ∷ [])) ∙ flat_append (map lean items) (lean s ∷ [])
    ∙ ap (λ l. flat (map lean items) ++ l) (append-nil (lean s))

-- what is left from a statement on
pub lean_next : (items : List Lean) (i : ℕ) (s : Lean) → i < length items → s ≡ get_or items i s
    → flat (map lean (drop i items)) ≡ lean s ++ flat (map lean (drop (i + 1) items))
lean_next items i s lt is = ap flat (map_next lean items i s lt is)
