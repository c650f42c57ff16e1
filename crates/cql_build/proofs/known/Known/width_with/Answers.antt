use Rattle.std.proofs.Common.{List, subst, sym, ap, ◌∙◌, arith, Option}
use Rattle.std.specs.Prelude.{nat_lt}
use Rattle.std.specs.Borrow.{Bor}
use Rattle.std.specs.Option.{option_copied}
use Rattle.river_plan.specs.Forms.{Name}
use Rattle.river_plan.specs.Names.{count}
use Rattle.cql_model.specs.Laws.{known_names}
use Rattle.cql_model.specs.Scopes.{scope_of}
use Rattle.cql_build.specs.Knowing.{IsFound}
use Rattle.cql_text.specs.Tree.{source_of, sources_of}
use Rattle.cql_build.proofs.Judging.{IsGood, item_good, item_wide, item_unknown, item_fifth, item_rows, item_twice, scope_length}
use Rattle.cql_build.proofs.known.Known.width_with.Goals as goal
use Rattle.cql_build.proofs.known.Known.width_with.Goals.{then-before-ge4-via-then-before-ge4, then-before-ge4-via-else-before-ge4+then-is_rows_fault}

pub returns-in_default-clause-bad : goal.returns-in_default-clause-bad
returns-in_default-clause-bad c = λ ks k w.
    item_unknown ks (scope_of ks (sources_of c.args.before.now)) (source_of c.args.source.now)
    (subst (λ (r : Option (Bor (List Name))). IsFound (option_copied r) ks c.args.source.now.stream) c.in_default.is (c.fields.ensures ks k))

pub returns-then-before-ge4-clause-bad : goal.returns-then-before-ge4-clause-bad
returns-then-before-ge4-clause-bad c = λ ks k w.
    let f = subst (λ (r : Option (Bor (List Name))). IsFound (option_copied r) ks c.args.source.now.stream) c.in-Some.is (c.fields.ensures ks k) in
    let s = scope_length ks c.args.before.now in
    let scope = scope_of ks (sources_of c.args.before.now) in
    elim c.then-before-ge4.branch [
      | then-before-ge4-via-then-before-ge4 v ↦ item_fifth ks scope (source_of c.args.source.now) f.0 (omega (arith, s, v.if-before-ge4.true))
      | then-before-ge4-via-else-before-ge4+then-is_rows_fault v ↦
          item_rows ks scope (source_of c.args.source.now) f.0 (omega (arith, s, v.if-before-ge4.false)) (sym v.is_rows_fault.ensures ∙ v.if-is_rows_fault.true)
    ]

pub returns-then-is_named-clause-bad : goal.returns-then-is_named-clause-bad
returns-then-is_named-clause-bad c = λ ks k w.
    let f = subst (λ (r : Option (Bor (List Name))). IsFound (option_copied r) ks c.args.source.now.stream) c.in-Some.is (c.fields.ensures ks k) in
    let s = scope_length ks c.args.before.now in
    let twice = ap (λ n. nat_lt 0 (count n (known_names (scope_of ks (sources_of c.args.before.now))))) (sym c.item_name.ensures)
    ∙ sym (c.is_named.ensures ks) ∙ c.if-is_named.true in
    item_twice ks (scope_of ks (sources_of c.args.before.now)) (source_of c.args.source.now) f.0 (omega (arith, s, c.if-before-ge4.false))
    (sym c.is_rows_fault.ensures ∙ c.if-is_rows_fault.false) twice

pub returns-then-fields-width-clause-bad : goal.returns-then-fields-width-clause-bad
returns-then-fields-width-clause-bad c = λ ks k w.
    let f = subst (λ (r : Option (Bor (List Name))). IsFound (option_copied r) ks c.args.source.now.stream) c.in-Some.is (c.fields.ensures ks k) in
    let s = scope_length ks c.args.before.now in
    let new = ap (λ n. nat_lt 0 (count n (known_names (scope_of ks (sources_of c.args.before.now))))) (sym c.item_name.ensures)
    ∙ sym (c.is_named.ensures ks) ∙ c.if-is_named.false in
    let good : IsGood ks (scope_of ks (sources_of c.args.before.now)) (source_of c.args.source.now) =
    record { known = f.0; few = omega (arith, s, c.if-before-ge4.false); rows = sym c.is_rows_fault.ensures ∙ c.if-is_rows_fault.false; new = new } in
    item_wide ks (scope_of ks (sources_of c.args.before.now)) (source_of c.args.source.now) c.args.width c.in-Some.fields.now good w c.requires f.1
    c.if-fields-width.true

pub returns-clause-good : goal.returns-clause-good
returns-clause-good c = λ ks k w.
    let f = subst (λ (r : Option (Bor (List Name))). IsFound (option_copied r) ks c.args.source.now.stream) c.in-Some.is (c.fields.ensures ks k) in
    let s = scope_length ks c.args.before.now in
    let new = ap (λ n. nat_lt 0 (count n (known_names (scope_of ks (sources_of c.args.before.now))))) (sym c.item_name.ensures)
    ∙ sym (c.is_named.ensures ks) ∙ c.if-is_named.false in
    let good : IsGood ks (scope_of ks (sources_of c.args.before.now)) (source_of c.args.source.now) =
    record { known = f.0; few = omega (arith, s, c.if-before-ge4.false); rows = sym c.is_rows_fault.ensures ∙ c.if-is_rows_fault.false; new = new } in
    item_good ks (scope_of ks (sources_of c.args.before.now)) (source_of c.args.source.now) c.args.width c.in-Some.fields.now good w c.requires f.1
    c.if-fields-width.false
