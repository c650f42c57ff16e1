use Rattle.std.proofs.Common.{◌≡◌, ◌++◌, take, map, [], ◌∷◌}
use Rattle.river_base.specs.declared.item.Item.TheVariants as item
use Rattle.river_base.specs.declared.item.Flat.TheVariants as flat
use Rattle.brooklet_step.proofs.leaf.add_values.Given as goal

abbrev pub invariant-loop-value : goal.invariant-loop-value
invariant-loop-value l = l.line ≡ l.initial.line ++ map (λ v. item.Flat (flat.One (v ∷ []))) (take l.value-index l.value-items)
