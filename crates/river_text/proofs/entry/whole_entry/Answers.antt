use Rattle.std.proofs.Common.{sym, ap, ◌∙◌}
use Rattle.text_tokens.specs.Tok.{tokens_of}
use Rattle.river_text.specs.ReadPlans.{unit_at}
use Rattle.river_text.proofs.Wholes.{whole-kept}
use Rattle.river_text.proofs.entry.whole_entry.Goals as goal

-- the entry is given where it fits
pub returns : goal.returns
returns c =
    whole-kept c.args.at (tokens_of c.args.tokens.now) c.unit.new.reader c.in_ok-entry.entry c.fits-fits.result c.kept.result
    (ap unit_at (sym c.new-reader.ensures) ∙ c.in_ok-entry.ensures) c.fits-fits.ensures c.kept.ensures
