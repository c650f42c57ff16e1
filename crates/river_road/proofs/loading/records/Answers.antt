use Rattle.std.proofs.Common.{◌≡◌, ℤ, List, [], ◌∷◌, ◌++◌, sym, ap, ◌∙◌, subst, rules}
use Rattle.river_base.specs.Held.{HaveWidth}
use Rattle.river_road.specs.Load.{load_records}
use Rattle.river_road.proofs.Loaded.{load_records-none, load_records-more, load_records-wide}
use Rattle.river_road.proofs.loading.records.Goals as goal

pub loop-before-init : goal.loop-before-init
loop-before-init c = c.new-rows.ensures ∙ sym load_records-none

pub push-requires-clause-as_wide : goal.push-requires-clause-as_wide
push-requires-clause-as_wide c = subst (HaveWidth 2) (sym c.loop-before.invariant) (load_records-wide c.loop-before.before)

pub loop-before-preserved : goal.loop-before-preserved
loop-before-preserved c =
    let low = c.from.ensures in
    let high = c.from-in-loop-before.ensures in
    let row : c.push.new.self ≡ c.loop-before.rows ++ (c.from.result ∷ c.from-in-loop-before.result ∷ []) ∷ [] = search rules in
    row ∙ ap (λ (l : List (List ℤ)). l ++ (c.from.result ∷ c.from-in-loop-before.result ∷ []) ∷ []) c.loop-before.invariant
    ∙ (λ i. load_records c.loop-before.before ++ (low i ∷ high i ∷ []) ∷ []) ∙ sym (load_records-more c.loop-before.before)
