use Rattle.std.proofs.Common.{◌≡◌, ◌≤◌, ◌+◌, ◌-◌, ◌*◌}
use Rattle.text_forms.specs.ReadLevels.{chained, chain_level, ladder, within}
use Rattle.text_forms.proofs.climb.+expression.Given as goal

abbrev pub decreases-ladder : goal.decreases-ladder
decreases-ladder g l = l.brackets * 2000 + (l.rank * 100 + 20)

abbrev pub decreases-chain : goal.decreases-chain
decreases-chain g l = l.brackets * 2000 + (l.level * 100 + 101)

abbrev pub decreases-grown : goal.decreases-grown
decreases-grown g l = l.brackets * 2000 + (l.level * 100 + 100)

abbrev pub decreases-once : goal.decreases-once
decreases-once g l = l.brackets * 2000 + (l.level * 100 + 101)

abbrev pub decreases-prefix : goal.decreases-prefix
decreases-prefix g l = l.brackets * 2000 + (l.level * 100 + (30 + l.room))

abbrev pub decreases-base : goal.decreases-base
decreases-base g l = l.brackets * 2000 + 10

abbrev pub decreases-called : goal.decreases-called
decreases-called g l = l.brackets * 2000 + 5

abbrev pub decreases-enclosed : goal.decreases-enclosed
decreases-enclosed g l = l.brackets * 2000

abbrev pub invariant-chain-items : goal.invariant-chain-items
invariant-chain-items g l =
    let S = g.D.Dialect.syntax l.dialect in
    let leaf = g.D.Dialect.leaf l.dialect in
    let below = ladder S (leaf l.brackets) (within S leaf l.brackets) l.level in
    record {
      same : chained S l.level (below (l.room - 1)) l.room (g.D.Dialect.view l.left.tree) (g.R.TokenSource.rest l.reader) ≡ chain_level S l.level below l.room
          (g.R.TokenSource.rest l.fn.reader);
      small : l.left.depth ≤ l.room;
      exact : l.left.depth ≡ S.depth (g.D.Dialect.view l.left.tree);
    }

abbrev pub decreases-chain-items : goal.decreases-chain-items
decreases-chain-items g l = l.room - l.left.depth
