use Rattle.std.proofs.Common.{List, sym, subst}
use Rattle.river_base.specs.declared.item.Item as item
use Rattle.brooklet_model.specs.Fit.{Fit}
use Rattle.river_road.proofs.Items.{contents-fit}
use Rattle.river_langs.proofs.plan_text.RiverLanguage.mean.Goals as goal

pub run_lines-requires : goal.run_lines-requires
run_lines-requires c = record {
  fits =
      subst (λ (l : List (List item.Item)). Fit c.args.compiled.now.plan l) (sym c.in_ok-inputs_of.ensures)
      (contents-fit c.args.compiled.now.plan c.args.files c.requires.contents);
}
