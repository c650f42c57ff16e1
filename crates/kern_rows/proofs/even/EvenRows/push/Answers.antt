use Rattle.kern_rows.proofs.Cuts.{push-is, even-more}
use Rattle.kern_rows.proofs.even.EvenRows.push.Goals as goal

pub invariant_of-self-2 : goal.invariant_of-self-2
invariant_of-self-2 c =
    let r = c.self.inside in
    even-more r.width r.count r.values c.args.row.now c.extend.new.self c.args.self.now c.self.invariant c.self.view_is c.requires.as_wide c.requires.some
    c.requires.at_most c.in_ok-extend.ensures.ok

pub returns-clause-ok : goal.returns-clause-ok
returns-clause-ok c =
    let r = c.self.inside in
    push-is r.width r.count r.values c.args.row.now c.extend.new.self c.args.self.now c.self.invariant c.self.view_is c.requires.as_wide
    c.in_ok-extend.ensures.ok
