use Rattle.std.proofs.Common.{◌≡◌, ◌-◌, ◌∙◌, sym, ap, drop, take, length, eqb-true, arith, List, [], ◌++◌, ℤ}
use Rattle.std.proofs.lemmas.List.{nil_from_length, take_rest}
use Rattle.kern_tables.specs.declared.kept.Aggregate.{Aggregate}
use Rattle.kern_tables.specs.Kept.{added_all, shown}
use Rattle.kern_tables.proofs.Tabs.{added_in_two}
use Rattle.kern_tables.proofs.table.Table.add_all.Goals as goal

pub returns-clause-ok : goal.returns-clause-ok
returns-clause-ok c =
    let n = c.place_some-placed.result in
    let len = eqb-true _ _ (sym c.if-not-is_empty.ensures) in
    let empty : c.self.inside.waiting.items ≡ [] = nil_from_length c.self.inside.waiting.items (omega (arith, len, c.self.inside.waiting.ok)) in
    let waits : c.wait.new.waiting.items ≡ drop n c.args.rows.now =
    c.wait.ensures ∙ (ap (λ (l : List (List ℤ)). l ++ take (length c.args.rows.now - n) (drop n c.args.rows.now)) (c.in_ok-reserve.ensures.items ∙ empty)
    ∙ take_rest c.args.rows.now n) in
    let shown_is : shown c.self.inside.kept ≡ c.args.self.now = sym (ap (added_all (shown c.self.inside.kept)) empty) ∙ c.self.view_is in
    ap (added_all (shown c.place_some-placed.new.kept)) waits
    ∙ (added_in_two (shown c.self.inside.kept) (shown c.place_some-placed.new.kept) n c.args.rows.now c.place_some-placed.ensures.rows
    ∙ ap (λ (k : Aggregate). added_all k c.args.rows.now) shown_is)
