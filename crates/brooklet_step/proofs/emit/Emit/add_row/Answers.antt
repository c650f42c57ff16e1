use Rattle.std.proofs.Common.{sym, ◌∙◌, [], ◌∷◌}
use Rattle.std.proofs.lemmas.Result.{on_ok_weaker}
use Rattle.river_base.proofs.PlaceLemmas.{each_grew-only}
use Rattle.brooklet_step.proofs.emit.Emit.add_row.Goals as goal

pub returns-clause-adds : goal.returns-clause-adds
returns-clause-adds c =
    on_ok_weaker c.push_at.result (λ h. h ∙ sym (each_grew-only c.args.self.now.adds c.args.table (c.args.row.now ∷ []))) c.push_at.ensures.ok
