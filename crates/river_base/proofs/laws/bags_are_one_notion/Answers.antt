use Rattle.river_base.specs.Row.{row_eq}
use Rattle.river_base.proofs.Counts.{permutation_from_bag, permutation_from_copies, bag_from_permutation}
use Rattle.river_base.proofs.laws.bags_are_one_notion.Goals as goal

pub returns : goal.returns
returns c = record {
  by_tests = λ xs ys. (permutation_from_bag xs ys, bag_from_permutation xs ys);
  by_copies = λ xs ys. (permutation_from_copies xs ys, λ h row. bag_from_permutation xs ys h (row_eq row));
}
