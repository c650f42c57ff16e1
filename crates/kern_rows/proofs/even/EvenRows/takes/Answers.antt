use Rattle.std.proofs.Common.{◌≡◌, length, arith}
use Rattle.std.proofs.lemmas.Bool.Decides.{nat_tests}
use Rattle.kern_rows.proofs.Cuts.{wide-is}
use Rattle.kern_rows.proofs.even.EvenRows.takes.Goals as goal

pub returns-else-self-eq0 : goal.returns-else-self-eq0
returns-else-self-eq0 c =
    let r = c.self.inside in
    let is = wide-is r.width r.count r.values c.args.row.now c.args.self.now c.if-self-eq0.false c.self.invariant c.self.view_is in (
      λ t. let e : r.width ≡ length c.args.row.now = grind (arith, nat_tests, t) in is.0 e,
      λ wide. let e : r.width ≡ length c.args.row.now = is.1 wide in grind (arith, nat_tests, e),
    )
