use Rattle.std.proofs.Common.{rules, ◌≡◌, ◌≤◌, ◌∙◌, sym, ap, subst, take, drop, length, [], arith, Some, None}
use Rattle.std.proofs.lemmas.Result.{on_ok_weaker, on_err_weaker}
use Rattle.std.specs.BTreeMap.{is_at, insert_entry}
use Rattle.std.specs.Map.{lookup, set_value}
use Rattle.std.proofs.lemmas.List.{length-take-le}
use Rattle.river_base.specs.Bags.{put_in_order}
use Rattle.kern_tables.specs.Keyed.{put}
use Rattle.river_base.specs.Row.{row_cmp, row_total}
use Rattle.kern_tables.proofs.KeyedPuts.{put_is_insert}
use Rattle.river_base.proofs.Rows.{exact_rows}
use Rattle.kern_tables.specs.Entries.{AreShort, best_more}
use Rattle.kern_tables.specs.Tables.{ranked_in, ranks_before}
use Rattle.kern_tables.proofs.Shortness.{short_insert, ranked_there}
use Rattle.kern_tables.proofs.Tabs.{maxima_commute}
use Rattle.kern_tables.proofs.Written.{set_same, short_set, set_is_put}
use Rattle.kern_tables.proofs.maxima.Maxima.add.Goals as goal

pub invariant_of-self : goal.invariant_of-self
invariant_of-self c =
    subst (AreShort 14) (sym (c.get_mut.follows.holds c.add.new.self).0)
    (short_set 14 c.key_of-key.result c.self.inside.maxima.entries c.add.new.self c.self.invariant)

pub returns-in-Some-clause-ok : goal.returns-in-Some-clause-ok
returns-in-Some-clause-ok c =
    let rest = drop c.args.keys c.args.row.now in
    let k = c.key_of-key.result in
    let there : lookup (is_at (row_cmp c.key_of-key.result)) c.self.inside.maxima.entries ≡ Some c.in-Some.kept.now = search rules in
    on_ok_weaker c.add.result (λ ok.
    (c.get_mut.follows.holds c.add.new.self).0
    ∙ ap (set_value (is_at (row_cmp k)) c.self.inside.maxima.entries)
    (ok ∙ ap (λ r. take c.args.best (put_in_order ranks_before r c.in-Some.kept.now))
    (ranked_there c.values.result.now c.values-2.result.now c.args.row.now c.args.keys c.values.ensures.values c.values-2.ensures.values (search rules)
    (search rules)))
    ∙ set_is_put [] (best_more c.args.best) k rest c.self.inside.maxima.entries c.in-Some.kept.now c.get_mut.ensures.ordered there
    ∙ (λ i. put row_cmp [] (best_more c.args.best) (c.self.view_is i) (c.key_of-key.ensures i, rest))) c.add.ensures.ok

pub returns-in-Some-clause-err : goal.returns-in-Some-clause-err
returns-in-Some-clause-err c =
    let k = c.key_of-key.result in
    let there : lookup (is_at (row_cmp c.key_of-key.result)) c.self.inside.maxima.entries ≡ Some c.in-Some.kept.now = search rules in
    on_err_weaker c.add.result (λ err.
    (c.get_mut.follows.holds c.add.new.self).0 ∙ ap (set_value (is_at (row_cmp k)) c.self.inside.maxima.entries) err
    ∙ set_same k c.self.inside.maxima.entries c.in-Some.kept.now there ∙ c.self.view_is) c.add.ensures.err

pub invariant_of-self-2 : goal.invariant_of-self-2
invariant_of-self-2 c =
    let width : length (take c.args.keys c.args.row.now) ≤ 14 =
    (let a = length-take-le c.args.keys c.args.row.now (omega (arith, c.requires)) in let m = c.values.ensures.at_most in omega (arith, a, m, c.requires)) in
    let same = ap (λ m. m.entries) c.get_mut.follows.holds-at-none in
    subst (AreShort 14) (sym c.in_ok-insert.ensures.entries)
    (short_insert 14 c.get_mut.follows.lender-at-none.entries _ _ (subst (AreShort 14) (sym same) c.self.invariant)
    (subst (λ k. length k ≤ 14) (sym c.key_of-key.ensures) width))

pub returns-clause-ok : goal.returns-clause-ok
returns-clause-ok c =
    let rest = drop c.args.keys c.args.row.now in
    let none : lookup (is_at (row_cmp c.key_of-key.result)) c.self.inside.maxima.entries ≡ None = search rules in
    let same = ap (λ m. m.entries) c.get_mut.follows.holds-at-none in
    let value = c.in_ok-add.ensures.ok
    ∙ ap (λ r. take c.args.best (put_in_order ranks_before r c.new-first.result))
    (ranked_there c.values.result.now c.values-2.result.now c.args.row.now c.args.keys c.values.ensures.values c.values-2.ensures.values (search rules)
    (search rules)) ∙ ap (λ l. take c.args.best (put_in_order ranks_before (ranked_in rest) l)) c.new-first.ensures in
    c.in_ok-insert.ensures.entries ∙ (λ i. insert_entry row_cmp (same i) c.key_of-key.result (value i))
    ∙ put_is_insert row_cmp row_total exact_rows [] (best_more c.args.best)
    (maxima_commute c.args.best) c.self.inside.maxima.entries c.key_of-key.result rest None c.get_mut.ensures.ordered none
    ∙ (λ i. put row_cmp [] (best_more c.args.best) (c.self.view_is i) (c.key_of-key.ensures i, rest))
