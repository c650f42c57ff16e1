use Rattle.std.proofs.Common.{◌≡◌, ℕ, List, ◌∷◌, drop, refl, ap, ◌∙◌}
use Rattle.std.specs.Prelude.{slice_set}
use Rattle.std.proofs.lemmas.Result.{on_ok_weaker}
use Rattle.river_base.specs.declared.item.Item.{Item}
use Rattle.river_base.specs.declared.item.Item.TheVariants as variant
use Rattle.river_base.specs.declared.item.Flat.TheVariants as flat
use Rattle.river_base.specs.Places.{list_at}
use Rattle.brooklet_step.specs.Reading.{IsFrontItem}
use Rattle.brooklet_run.proofs.turn.fire_front.Goals as goal

-- where an item is in front, dropping one leaves the rest
dropped : (queues left : List (List Item)) (n : ℕ) (x : Item) → (rest : List Item) × (list_at queues n ≡ x ∷ rest)
    → left ≡ slice_set queues n (drop 1 (list_at queues n)) → IsFrontItem queues n x left
dropped queues left n x front e = record {
  rest = front.0;
  here = front.1;
  left = e ∙ ap (λ l. slice_set queues n (drop 1 l)) front.1;
}

pub fire_row-requires-clause-can : goal.fire_row-requires-clause-can
fire_row-requires-clause-can c =
    let queues = c.args.queues.now in
    let n = c.args.queue in
    let x = variant.Flat (flat.One c.in-Some.row.now) in
    let left = slice_set queues n (drop 1 (list_at queues n)) in
    c.requires.can x left (dropped queues left n x c.in-Some.ensures.front refl)

pub returns-in_ok-fire_row-in-Some : goal.returns-in_ok-fire_row-in-Some
returns-in_ok-fire_row-in-Some c =
    let x = variant.Flat (flat.One c.in-Some.row.now) in
    (x, dropped c.args.queues.now c.drop_front.new.queues c.args.queue x c.in-Some.ensures.front c.drop_front.ensures, c.in_ok-fire_row-in-Some.ensures)

pub fire_of-requires-clause-can : goal.fire_of-requires-clause-can
fire_of-requires-clause-can c = c.requires.can c.front-item.result c.front-item.new.queues c.front-item.ensures

pub returns-in-None : goal.returns-in-None
returns-in-None c = on_ok_weaker c.fire_of.result (λ f. (c.front-item.result, c.front-item.ensures, f)) c.fire_of.ensures
