use Rattle.std.proofs.Common.{◌∙◌, arith}
use Rattle.text_forms.proofs.AllUnits.{parts-few}
use Rattle.text_forms.proofs.units.read_some_of.Goals as goal

-- there are no more units than tokens
pub read_one_or_more-requires : goal.read_one_or_more-requires
read_one_or_more-requires g c =
    let few = parts-few c.args.tokens.now c.as_slice.result.now (c.as_slice.ensures ∙ c.in_ok-parts.ensures) in
    omega (arith, few, c.requires)
