use Rattle.std.proofs.Common.{◌≡◌, ℕ, List, length, rules, subst, sym}
use Rattle.fire_tasks.specs.declared.bundle.Bundle.{Bundle}
use Rattle.fire_run.specs.Shares.{IsShare, OthersStay}
use Rattle.fire_run.proofs.ShareLemmas.{Dealing, dealing_first, dealing_next}
use Rattle.fire_run.proofs.splitting.deal.Goals as goal

pub loop-seat-init : goal.loop-seat-init
loop-seat-init c = dealing_first c.args.workers c.args.tasks.now c.args.seats.now.items c.args.bundles.now.items c.requires.seats c.requires.none

pub loop-seat-preserved : goal.loop-seat-preserved
loop-seat-preserved c =
    let n = c.args.workers in
    let ts = c.loop-seat.tasks in
    let rest = c.pop.new.self.items in
    let e : c.len-part.result ≡ length rest = search rules in
    subst (λ (bs : List Bundle). Dealing n c.args.tasks.now c.share_of.new.tasks c.args.seats.now.items rest bs) (sym c.in_ok-push.ensures.items)
    (dealing_next n c.args.tasks.now ts c.share_of.new.tasks c.args.seats.now.items c.loop-seat.seats.items rest c.loop-seat.bundles.items
    c.in-Some.seat c.in_ok-share.share
    c.loop-seat.invariant c.in-Some.ensures.items
    (subst (λ (k : ℕ). IsShare n ts k c.in-Some.seat c.in_ok-share.share) e c.in_ok-share.ensures.share)
    (subst (λ (k : ℕ). OthersStay n k ts c.share_of.new.tasks) e c.in_ok-share.ensures.left))
