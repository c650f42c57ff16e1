use Rattle.std.proofs.Common.{◌≡◌, ap, ◌∙◌}
use Rattle.river_base.specs.Row.{in_order}
use Rattle.kern_bags.specs.Contents.{without, difference}
use Rattle.cql_model.proofs.Bags.{difference_is}
use Rattle.slow_cql.proofs.Results.{if_ok}
use Rattle.slow_cql.proofs.bag.without.Goals as goal

pub returns : goal.returns
returns c =
    let xs = c.args.rows.now in
    let ys = c.args.others.now in
    let a = c.in_ok-rows.ensures.sorted in
    let b = c.in_ok-others.ensures.sorted in
    if_ok c.difference.result (λ left. left ≡ difference c.in_ok-rows.rows c.in_ok-others.others) (λ left. left ≡ in_order (without xs ys))
    (λ left e. e ∙ ap (λ l. difference l c.in_ok-others.others) a ∙ ap (difference (in_order xs)) b ∙ difference_is xs ys) c.difference.ensures
