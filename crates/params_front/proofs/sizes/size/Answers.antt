use Rattle.std.proofs.Common.{sym, ◌∙◌}
use Rattle.params_front.proofs.Bytes.{bytes-are}
use Rattle.params_front.proofs.sizes.size.Goals as goal

-- the last token ends and the first begins the unit
pub returns : goal.returns
returns c = c.saturating_sub.ensures ∙ bytes-are _ _ c.args.unit.now (sym c.is_empty.ensures ∙ c.if-is_empty.false)
