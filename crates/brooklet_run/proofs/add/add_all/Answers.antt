use Rattle.std.proofs.Common.{◌≡◌, ◌+◌, ◌<◌, ◌≤◌, ◌∙◌, refl, sym, ap, subst, take, get_or, length, length-append, fold, List, ℤ, [], ◌∷◌, arith}
use Rattle.std.specs.Prelude.{All}
use Rattle.river_base.specs.Places.{list_at}
use Rattle.kern_tables.specs.Kept.{width_of_table, with_row}
use Rattle.brooklet_step.specs.ByPlace.{joined_at}
use Rattle.brooklet_step.specs.Tables.{each_added, table_places}
use Rattle.brooklet_run.proofs.Adding.{length-each_added, each_added-none, tables_few, places_more, places_stay, added_next, rows_wide, rows_there}
use Rattle.brooklet_run.proofs.add.add_all.Goals as goal
use Rattle.brooklet_run.proofs.add.add_all.Goals.{then-var-len+in_ok-add_rows, else-var-len}

pub loop-var-init : goal.loop-var-init
loop-var-init c = record { tables = sym (each_added-none c.args.tables.now); number = refl }

-- there are as many tables as at the start
pub at-requires : goal.at-requires
at-requires c =
    let e = ap length c.loop-var.invariant.tables
    ∙ length-each_added c.args.tables.now
    (joined_at (table_places (length c.args.tables.now) (take c.loop-var.var-index c.args.vars.now)) (list_at c.args.adds.now)) in
    let w = get_or c.args.vars.now c.loop-var.var-index 0 in
    let below : w < length c.args.tables.now = omega (arith, e, c.len.ensures, c.if-var-len.true) in
    rows_there c.args.tables.now c.args.vars.now c.loop-var.var-index w c.loop-var.number
    (length c.args.adds.now) c.loop-var-test.true refl below c.loop-var.invariant.number c.requires.many

pub add_rows-requires : goal.add_rows-requires
add_rows-requires c =
    let e = ap length c.loop-var.invariant.tables
    ∙ length-each_added c.args.tables.now
    (joined_at (table_places (length c.args.tables.now) (take c.loop-var.var-index c.args.vars.now)) (list_at c.args.adds.now)) in
    let w = get_or c.args.vars.now c.loop-var.var-index 0 in
    let below : w < length c.args.tables.now = omega (arith, e, c.len.ensures, c.if-var-len.true) in
    subst (λ (l : List (List ℤ)). All (λ row. length row ≡ width_of_table c.at_mut.result.now) l) (sym (c.at.ensures []))
    (rows_wide c.args.tables.now c.loop-var.tables c.args.vars.now c.args.adds.now c.loop-var.var-index w c.loop-var.number c.at_mut.result.now
    c.loop-var-test.true refl below c.loop-var.invariant.tables c.loop-var.invariant.number (c.at_mut.ensures.value c.at_mut.result.now) c.requires.wide)

pub overflow_add-number : goal.overflow_add-number
overflow_add-number c =
    let f = tables_few (length c.args.tables.now) c.args.vars.now c.loop-var.var-index c.loop-var.number c.loop-var-test.true c.loop-var.invariant.number in
    omega (arith, f, c.loop-var-test.true)

pub loop-var-preserved : goal.loop-var-preserved
loop-var-preserved c =
    let many = length c.args.tables.now in
    let vars = c.args.vars.now in
    let i = c.loop-var.var-index in
    let v = get_or c.args.vars.now c.loop-var.var-index 0 in
    let e = ap length c.loop-var.invariant.tables
    ∙ length-each_added c.args.tables.now (joined_at (table_places many (take i vars)) (list_at c.args.adds.now)) in
    elim c.if-var-len.branch [
      | then-var-len+in_ok-add_rows w ↦
          let below : v < many = omega (arith, e, c.len.ensures, w.if-var-len.true) in
          record {
            tables =
                w.tables-is
                ∙ added_next c.args.tables.now c.loop-var.tables vars
                (list_at c.args.adds.now) i v c.loop-var.number w.at_mut.result.now w.add_rows.new.table c.loop-var-test.true refl below
                c.loop-var.invariant.tables c.loop-var.invariant.number (w.at_mut.ensures.value w.at_mut.result.now)
                (w.in_ok-add_rows.ensures ∙ ap (λ l. fold with_row w.at_mut.result.now l) (w.at.ensures []));
            number =
                w.number-is ∙ ap (λ n. n + 1) c.loop-var.invariant.number
                ∙ sym (ap length (places_more many vars i v c.loop-var-test.true refl below) ∙ length-append (table_places many (take i vars)) (v ∷ []));
          }
      | else-var-len w ↦
          let past : many ≤ v = omega (arith, e, c.len.ensures, w.if-var-len.false) in
          let stay = places_stay many vars i v c.loop-var-test.true refl past in
          record {
            tables = w.tables-is ∙ c.loop-var.invariant.tables ∙ ap (λ l. each_added c.args.tables.now (joined_at l (list_at c.args.adds.now))) (sym stay);
            number = w.number-is ∙ c.loop-var.invariant.number ∙ ap length (sym stay);
          }
    ]
