use Rattle.std.proofs.Common.{◌++◌, ap, sym, ◌∙◌, subst}
use Rattle.std.specs.Prelude.{flat_map}
use Rattle.saw_model.specs.Meaning.{emits}
use Rattle.saw_text.specs.Tree.{unit_forms}
use Rattle.slow_sawzall.specs.Sawzall.{AreWideFor}
use Rattle.slow_sawzall.proofs.Wide.{accepted_runs, accepted_wide}
use Rattle.slow_sawzall.proofs.program.meant_tables.Goals as goal

pub records-requires : goal.records-requires
records-requires c = accepted_runs (unit_forms c.args.units.now) c.requires.accepted c.requires.valued

pub tables-requires : goal.tables-requires
tables-requires c =
    let p = unit_forms c.args.units.now in let rows = c.as_slice.result.now in
    let is = c.as_slice-2.ensures.value ∙ c.in_ok-records.ensures {u = tt} ∙ ap (λ l. l ++ flat_map (emits p) rows) c.new-run.ensures in
    subst (AreWideFor p) (sym is) (accepted_wide p rows c.requires.accepted)
