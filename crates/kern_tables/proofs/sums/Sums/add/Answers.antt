use Rattle.std.proofs.Common.{rules, ◌≡◌, ◌≤◌, ◌∙◌, sym, ap, subst, take, drop, length, pos, arith, Some, None}
use Rattle.std.specs.Prelude.{slice_index_or}
use Rattle.std.specs.Int.{w64}
use mir.Val as mir
use Rattle.std.specs.BTreeMap.{is_at, insert_entry}
use Rattle.std.specs.Map.{lookup, set_value}
use Rattle.std.proofs.lemmas.Int.{to_z-of_z}
use Rattle.std.proofs.lemmas.List.{length-take-le}
use Rattle.river_base.specs.Row.{row_cmp, row_total}
use Rattle.kern_tables.specs.Keyed.{put}
use Rattle.river_base.specs.Number.{add}
use Rattle.kern_tables.proofs.KeyedPuts.{put_is_insert}
use Rattle.river_base.proofs.Rows.{exact_rows}
use Rattle.kern_tables.specs.Entries.{AreShort}
use Rattle.kern_tables.specs.Tables.{add_value, value_in}
use Rattle.kern_tables.proofs.Shortness.{short_insert, first_of_rest, first_sum}
use Rattle.kern_tables.proofs.Tabs.{sums_commute}
use Rattle.kern_tables.proofs.Written.{short_set, set_is_put}
use Rattle.kern_tables.proofs.sums.Sums.add.Goals as goal

pub invariant_of-self : goal.invariant_of-self
invariant_of-self c = let v = mir.to_z w64 (mir.of_z w64 c.add.result) in
    subst (AreShort 15) (sym (c.get_mut.follows.holds v).0) (short_set 15 c.key_of-key.result c.self.inside.sums.entries v c.self.invariant)

pub returns-in-Some-clause-ok : goal.returns-in-Some-clause-ok
returns-in-Some-clause-ok c =
    let k = c.key_of-key.result in
    let rest = drop c.args.keys c.args.row.now in
    let es = c.self.inside.sums.entries in
    let old = c.in-Some.sum.now in
    let there : lookup (is_at (row_cmp k)) es ≡ Some old = search rules in
    let value : slice_index_or c.values.result.now c.args.keys (pos 0) ≡ value_in rest = ap (λ l. slice_index_or l c.args.keys (pos 0)) c.values.ensures.values
    ∙ first_of_rest c.args.keys c.args.row.now in
    let v : mir.to_z w64 (mir.of_z w64 c.add.result) ≡ add_value old rest =
    to_z-of_z w64 c.add.result (search rules) ∙ c.add.ensures
    ∙ (λ i. add (to_z-of_z w64 old (search rules) i) ((to_z-of_z w64 (slice_index_or c.values.result.now c.args.keys (pos 0)) (search rules) ∙ value) i)) in
    (c.get_mut.follows.holds (mir.to_z w64 (mir.of_z w64 c.add.result))).0 ∙ ap (set_value (is_at (row_cmp k)) es) v
    ∙ set_is_put (pos 0) add_value k rest es old c.get_mut.ensures.ordered there
    ∙ (λ i. put row_cmp (pos 0) add_value (c.self.view_is i) (c.key_of-key.ensures i, rest))

pub invariant_of-self-2 : goal.invariant_of-self-2
invariant_of-self-2 c =
    let width : length (take c.args.keys c.args.row.now) ≤ 15 =
    (let a = length-take-le c.args.keys c.args.row.now (omega (arith, c.requires)) in let m = c.values.ensures.at_most in omega (arith, a, m, c.requires)) in
    let same = ap (λ m. m.entries) c.get_mut.follows.holds-at-none in
    subst (AreShort 15) (sym c.in_ok-insert.ensures.entries)
    (short_insert 15 c.get_mut.follows.lender-at-none.entries _ _ (subst (AreShort 15) (sym same) c.self.invariant)
    (subst (λ k. length k ≤ 15) (sym c.key_of-key.ensures) width))

pub returns-clause-ok : goal.returns-clause-ok
returns-clause-ok c =
    let rest = drop c.args.keys c.args.row.now in
    let k = c.key_of-key.result in
    let none : lookup (is_at (row_cmp k)) c.self.inside.sums.entries ≡ None = search rules in
    let same = ap (λ m. m.entries) c.get_mut.follows.holds-at-none in
    let read = slice_index_or c.values.result.now c.args.keys (pos 0) in
    let value : read ≡ value_in rest = ap (λ l. slice_index_or l c.args.keys (pos 0)) c.values.ensures.values ∙ first_of_rest c.args.keys c.args.row.now in
    let v : mir.to_z w64 (mir.of_z w64 read) ≡ add_value (pos 0) rest = to_z-of_z w64 read (search rules) ∙ sym (first_sum read (search rules))
    ∙ ap (add (pos 0)) value in
    c.in_ok-insert.ensures.entries ∙ (λ i. insert_entry row_cmp (same i) k (v i))
    ∙ put_is_insert row_cmp row_total exact_rows (pos 0) add_value sums_commute c.self.inside.sums.entries k rest None c.get_mut.ensures.ordered none
    ∙ (λ i. put row_cmp (pos 0) add_value (c.self.view_is i) (c.key_of-key.ensures i, rest))
