use Rattle.river_base.proofs.Division.{division_is_whole, remainder_is_small, remainder_from, remainder_to, divided_by_nought, least_divided}
use Rattle.river_base.proofs.laws.division_is_exact.Goals as goal

pub returns : goal.returns
returns c = record {
  whole = division_is_whole;
  size = remainder_is_small;
  sign_from = remainder_from;
  sign_to = remainder_to;
  by_nought = divided_by_nought;
  least = least_divided;
}
