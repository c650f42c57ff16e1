use Rattle.std.proofs.Common.{◌∙◌, arith}
use Rattle.text_tokens.proofs.Counts.{tokens-few}
use Rattle.text_forms.proofs.AllUnits.{parts-few}
use Rattle.text_forms.proofs.units.read_bytes.Goals as goal

-- a text has no more units than bytes
pub read_units-requires : goal.read_units-requires
read_units-requires g c =
    let few = parts-few c.in_ok-tokens.tokens c.as_slice.result.now (c.as_slice.ensures ∙ c.in_ok-parts.ensures) in
    let marks = tokens-few c.args.text.now c.in_ok-tokens.tokens c.in_ok-tokens.ensures in
    omega (arith, few, marks, c.requires)
