use Rattle.params_front.proofs.Bytes.{taken-within, one-more}
use Rattle.params_front.proofs.sizes.each_size.Goals as goal

-- a unit takes its tokens from those that are left, and its bytes come after those of the units before it
pub units-preserved : goal.units-preserved
units-preserved c = record {
  within = rw (c.min-len.ensures, c.split_at.ensures.back) (taken-within c.args.tokens.now _ c.units.at c.units.invariant.within);
  sized = rw (c.in_ok-push.ensures.items, c.size.ensures, c.split_at-in-units.ensures.front, c.min-len.ensures, c.split_at.ensures.back)
      (one-more c.args.units.now c.args.tokens.now c.units.each-index c.units.at _ c.units.sizes.items _ c.units-test.true c.units.invariant.sized);
}
