use Rattle.std.proofs.Common.{rules, arith, ◌<◌, ◌≡◌, ◌≤◌, ◌+◌, ◌*◌}
use Rattle.rate_code.proofs.Numbers.{fits_most}
use Rattle.rate_code.proofs.overlap.most_periods.Goals as goal

pub returns-clause-most : goal.returns-clause-most
returns-clause-most c = λ n f.
    let zero = c.if-rate-eq0-2.false in
    let more : 0 < c.args.rate.gives = omega (arith, zero) in
    let size : c.from-size.result ≡ c.args.size = search rules in
    let items : n * c.args.rate.takes + c.args.rate.reach ≤ c.from-size.result = omega (arith, f.items, size) in
    let most = fits_most c.args.rate.takes c.args.rate.gives c.args.rate.reach c.from-size.result n f.takes more items f.gives in
    let same = c.min.ensures in
    omega (arith, most, same)
