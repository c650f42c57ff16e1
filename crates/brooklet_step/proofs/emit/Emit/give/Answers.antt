use Rattle.std.proofs.Common.{sym, ◌∙◌, [], ◌∷◌}
use Rattle.std.proofs.lemmas.Result.{on_ok_weaker}
use Rattle.river_base.proofs.PlaceLemmas.{each_grew-only, each_grew-none}
use Rattle.brooklet_step.proofs.emit.Emit.give.Goals as goal

pub returns : goal.returns
returns c = on_ok_weaker c.push_item.result
    (λ h. record {
      outs = h ∙ sym (each_grew-only c.args.self.now.outs c.args.port (c.args.item ∷ []));
      adds = sym (each_grew-none c.args.self.now.adds);
    })
    c.push_item.ensures
