use Rattle.std.proofs.Common.{◌≡◌, w64, to_z, of_z, rules, sym, subst}
use Rattle.work_code.specs.Term.{term}
use Rattle.kern_changes.specs.Counted.{Changed}
use Rattle.kern_bags.specs.Following.{CrossKept}
use Rattle.kern_bags.specs.Joined.{CanPairRight, JoinsWhere}
use Rattle.kern_bags.proofs.JoinedRows.{makes_right, makes_left, joins_where}
use Rattle.kern_bags.proofs.cross.CrossState.join_where.Goals as goal

pub meet_right_where-requires : goal.meet_right_where-requires
meet_right_where-requires c =
    let t = term c.args.cond.now in
    subst (λ (s : CrossKept). CanPairRight t c.args.left.now s.rights) (sym c.self.view_is)
    (makes_right t c.args.left.now c.args.right.now c.args.self.now c.requires)

pub meet_left_where-requires : goal.meet_left_where-requires
meet_left_where-requires c =
    let t = term c.args.cond.now in
    makes_left t c.args.left.now c.args.right.now c.args.self.now c.make.new.self c.requires
    (subst (λ (s : CrossKept). Changed c.args.left.now s.lefts c.make.new.self) c.self.view_is c.in_ok-make.ensures)

pub returns : goal.returns
returns c =
    let t = term c.args.cond.now in
    let at : to_z w64 (of_z w64 c.args.left.now.at) ≡ c.args.left.now.at = search rules in
    let r = c.in_ok-meet_right_where.ensures in
    let l = c.in_ok-meet_left_where.ensures in
    let i = c.self.inside in
    let new : CrossKept = record { left = i.left; right = i.right; lefts = c.meet_left_where.new.lefts; rights = c.make-2.new.self } in
    subst (λ (s : CrossKept). JoinsWhere t c.args.left.now c.args.right.now s new c.args.out.now c.push.new.self) c.self.view_is
    (joins_where t c.args.left.now c.args.right.now i.left i.right i.lefts i.rights c.make.new.self c.meet_right_where.new.rights
    c.meet_left_where.new.lefts c.make-2.new.self c.new-plus.result c.new-minus.result c.meet_right_where.new.plus c.meet_left_where.new.plus
    c.meet_right_where.new.minus c.meet_left_where.new.minus (to_z w64 (of_z w64 c.args.left.now.at)) c.in_ok-change.change c.args.out.now
    c.push.new.self c.new-plus.ensures c.new-minus.ensures at r.same r.plus r.minus c.in_ok-make.ensures l.same l.plus l.minus c.in_ok-make-2.ensures
    c.in_ok-change.ensures c.in_ok-push.ensures.ok)
