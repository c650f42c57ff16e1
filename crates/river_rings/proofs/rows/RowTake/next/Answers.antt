use Rattle.std.proofs.Common.{rules, ◌≡◌, ◌<◌, ◌≤◌, List, [], ◌∷◌, ◌++◌, length, ap, sym, ◌∙◌, subst}
use mathlib.Core.List.{IsPrefix}
use Rattle.rtrb.specs.Ring.{known_items, received}
use Rattle.river_base.specs.declared.item.Item as item
use Rattle.river_rings.specs.Ends.{Taking}
use Rattle.river_rings.specs.Rows.{row_item, rows_in}
use Rattle.river_rings.proofs.RowLemmas.{row-first, row-more, rows-front, values_some, whole_more}
use Rattle.river_rings.proofs.rows.RowTake.next.Goals as goal

pub next_values-requires : goal.next_values-requires
next_values-requires c =
    let w = c.self.inside.width in
    let vs = known_items c.self.inside.end in
    let l : length c.args.row.now ≡ w = c.requires.width ∙ sym (ap (λ (t : Taking). t.id.width) c.self.view_is) in
    let there = values_some w vs c.self.invariant.some (subst (λ (t : Taking). 0 < length t.known) (sym c.self.view_is) c.requires.known) in
    subst (λ n. n ≤ length vs) (sym l) there

pub invariant_of-self : goal.invariant_of-self
invariant_of-self c =
    let w = c.self.inside.width in
    let row = c.next_values.new.row in
    let same : length row ≡ length c.args.row.now = search rules in
    let l : length row ≡ w = same ∙ c.requires.width ∙ sym (ap (λ (t : Taking). t.id.width) c.self.view_is) in
    whole_more w (received c.self.inside.end) row (received c.next_values.new.end) c.self.invariant l c.next_values.ensures.received

pub returns-clause-received : goal.returns-clause-received
returns-clause-received c =
    let w = c.self.inside.width in
    let row = c.next_values.new.row in
    let same : length row ≡ length c.args.row.now = search rules in
    let l : length row ≡ w = same ∙ c.requires.width ∙ sym (ap (λ (t : Taking). t.id.width) c.self.view_is) in
    row-more w (received c.self.inside.end) row (received c.next_values.new.end) c.self.invariant l c.next_values.ensures.received
    ∙ ap (λ (t : Taking). t.received ++ row_item row ∷ []) c.self.view_is

pub returns-clause-known : goal.returns-clause-known
returns-clause-known c =
    let w = c.self.inside.width in
    let row = c.next_values.new.row in
    let vs = known_items c.self.inside.end in
    let us = known_items c.next_values.new.end in
    let same : length row ≡ length c.args.row.now = search rules in
    let l : length row ≡ w = same ∙ c.requires.width ∙ sym (ap (λ (t : Taking). t.id.width) c.self.view_is) in
    let front = rows-front w vs (row ++ us) c.self.invariant.some c.next_values.ensures.known in
    subst (λ (t : Taking). IsPrefix t.known (row_item row ∷ rows_in w us)) c.self.view_is
    (subst (λ (xs : List item.Item). IsPrefix (rows_in w vs) xs) (row-first w row us c.self.invariant.some c.self.invariant.at_most l) front)
