use Rattle.std.proofs.Common.{rules, ◌≡◌, ℤ, List, [], ◌∷◌, ◌++◌, length, to_z, of_z, w64, sym, ap, ◌∙◌, subst}
use Rattle.std.specs.Prelude.{slice_set}
use Rattle.std.proofs.lemmas.List.{append-nil}
use mathlib.Core.List.{IsPrefix}
use Rattle.rtrb.specs.Ring.{received, known_items}
use Rattle.river_rings.proofs.RowLemmas.{single_set}
use Rattle.river_rings.proofs.rows.next_values.Goals as goal

pub returns-then-row-eq1-clause-received : goal.returns-then-row-eq1-clause-received
returns-then-row-eq1-clause-received c =
    let row = c.args.row.now in
    let v = c.pop_known.result in
    let l : length row ≡ 1 = search rules in
    let e : to_z w64 (of_z w64 v) ≡ v = search rules in
    let written : slice_set row 0 (to_z w64 (of_z w64 v)) ≡ v ∷ [] = single_set row (to_z w64 (of_z w64 v)) l ∙ ap (λ y. y ∷ []) e in
    c.pop_known.ensures.received.0 ∙ ap (λ (vs : List ℤ). received c.args.end.now ++ vs) (sym written)

pub returns-then-row-eq1-clause-known : goal.returns-then-row-eq1-clause-known
returns-then-row-eq1-clause-known c =
    let row = c.args.row.now in
    let v = c.pop_known.result in
    let us = known_items c.pop_known.new.self in
    let l : length row ≡ 1 = search rules in
    let e : to_z w64 (of_z w64 v) ≡ v = search rules in
    let written : slice_set row 0 (to_z w64 (of_z w64 v)) ≡ v ∷ [] = single_set row (to_z w64 (of_z w64 v)) l ∙ ap (λ y. y ∷ []) e in
    subst (λ (vs : List ℤ). IsPrefix (known_items c.args.end.now) (vs ++ us)) (sym written)
    ([], append-nil (known_items c.args.end.now) ∙ c.pop_known.ensures.received.1)
