use Rattle.std.proofs.Common.{◌≡◌, ◌∙◌, ◌+◌, IfSome, subst, arith}
use Rattle.std.specs.Prelude.{Option}
use Rattle.river_outside.specs.Held.{Held}
use Rattle.piece_work.specs.Cutting.{HasFront}
use Rattle.piece_keep.proofs.Feeds.{fed-on}
use Rattle.piece_keep.proofs.front.feed_blocks.Goals as goal

pub loop-from-preserved : goal.loop-from-preserved
loop-from-preserved g c =
    let inv = c.loop-from.invariant in
    let o = g.S.Shelf.held c.args.shelf.now in
    let p = g.S.Shelf.held c.loop-from.shelf in
    let same : p ≡ o = inv.stays in
    let moved = c.in_ok-from.ensures.within in
    record {
      stays = c.feed_block.ensures.stays ∙ inv.stays;
      later = omega (arith, inv.later, c.feed_block.ensures.later);
      before = moved.0;
      within = moved.1;
      front = subst (λ (q : Option Held). IfSome q (λ h. HasFront (h c.args.file.now) (c.loop-from.from + c.in_ok-from.field-0))) same c.in_ok-from.ensures.front;
      fed =
          λ m holds. fed-on o p c.args.file.now m (g.D.Digest.holds c.loop-from.to) (g.D.Digest.holds c.feed_block.new.to) c.loop-from.from c.in_ok-from.field-0 same
          (inv.fed m holds) c.in_ok-from.ensures.fed;
    }
