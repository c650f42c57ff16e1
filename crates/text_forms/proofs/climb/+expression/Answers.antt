use Rattle.std.proofs.Common.{◌∙◌, ◌-◌, refl, sym, arith}
use Rattle.text_forms.specs.ReadLevels.{ladder, within}
use Rattle.text_forms.proofs.Climbs.{ladder-chain, ladder-once, ladder-prefix, chain-at, once-at, prefix-at, within-at, chained-grown, chained-failed, grown-deep, grown-taken}
use Rattle.text_forms.proofs.Climbed.{ladder-zero, once-some, once-none, chain-end, prefix-zero, prefix-below, prefix-marked, base-zero, base-open, base-call, base-leaf}
use Rattle.text_forms.proofs.Climbed.{grown-joined, closed-zero, closed-gives, called-all, made-gives}
use Rattle.text_forms.proofs.climb.+expression.Goals as goal

-- one operator more
pub chain-items-preserved : goal.chain-items-preserved
chain-items-preserved g t c =
    let S = g.D.Dialect.syntax c.args.dialect.now in
    let leaf = g.D.Dialect.leaf c.args.dialect.now in
    let below = ladder S (leaf c.args.brackets) (within S leaf c.args.brackets) c.args.level (c.args.room - 1) in
    let more = rw c.in-Some.ensures.rest at c.in_ok-left-2.ensures.reads in
    record {
      same =
          chained-grown S (g.met.D.Dialect.deeper c.args.dialect.now) c.args.level below c.args.room (g.D.Dialect.view c.items.left.tree)
          (g.D.Dialect.view c.in_ok-left-2.left.tree) (g.R.TokenSource.rest c.items.reader) (g.R.TokenSource.rest c.grown.new.reader) c.in-Some.op
          (sym c.in-Some.ensures.found) more
          ∙ c.items.invariant.same;
      small = c.in_ok-left-2.ensures.small;
      exact = c.in_ok-left-2.ensures.depth;
    }

-- levels
pub ladder-returns-then-rank-eq0-clause-reads : goal.ladder-returns-then-rank-eq0-clause-reads
ladder-returns-then-rank-eq0-clause-reads g t c =
    let S = g.D.Dialect.syntax c.args.dialect.now in
    let leaf = g.D.Dialect.leaf c.args.dialect.now in
    let ts = g.R.TokenSource.rest c.args.reader.now in
    rw (ladder-zero S (leaf c.args.brackets) (within S leaf c.args.brackets) c.args.rank c.args.room ts c.if-rank-eq0.true) c.base.ensures.reads

-- one operator at most
pub once-returns-in-Some-clause-reads : goal.once-returns-in-Some-clause-reads
once-returns-in-Some-clause-reads g t c =
    let S = g.D.Dialect.syntax c.args.dialect.now in
    let leaf = g.D.Dialect.leaf c.args.dialect.now in
    let ts = g.R.TokenSource.rest c.args.reader.now in
    rw (once-some S c.args.level (ladder S (leaf c.args.brackets) (within S leaf c.args.brackets) c.args.level) c.args.room ts _ _ _ _
    c.in_ok-left.ensures.reads (sym c.in-Some.ensures.found) c.in-Some.ensures.rest) c.grown.ensures.reads

pub once-returns-in-None-clause-reads : goal.once-returns-in-None-clause-reads
once-returns-in-None-clause-reads g t c =
    let S = g.D.Dialect.syntax c.args.dialect.now in
    let leaf = g.D.Dialect.leaf c.args.dialect.now in
    let ts = g.R.TokenSource.rest c.args.reader.now in
    once-none S c.args.level (ladder S (leaf c.args.brackets) (within S leaf c.args.brackets) c.args.level) c.args.room ts _ _ _
    c.in_ok-left.ensures.reads (sym c.in-None.ensures.found) c.in-None.ensures.rest

-- the end of a chain
pub chain-returns-clause-reads : goal.chain-returns-clause-reads
chain-returns-clause-reads g t c =
    let S = g.D.Dialect.syntax c.args.dialect.now in
    let leaf = g.D.Dialect.leaf c.args.dialect.now in
    let ts = g.R.TokenSource.rest c.args.reader.now in
    let found = sym c.operator.ensures.found ∙ c.in_default.is in
    let moved = rw c.in_default.is at c.operator.ensures.rest in
    chain-end S c.args.level (ladder S (leaf c.args.brackets) (within S leaf c.args.brackets) c.args.level (c.args.room - 1)) c.args.room _ _ _ _
    c.items.invariant.same found moved

-- signs
pub prefix-returns-then-room-eq0-clause-reads : goal.prefix-returns-then-room-eq0-clause-reads
prefix-returns-then-room-eq0-clause-reads g t c =
    let S = g.D.Dialect.syntax c.args.dialect.now in
    let leaf = g.D.Dialect.leaf c.args.dialect.now in
    let ts = g.R.TokenSource.rest c.args.reader.now in
    prefix-zero S c.args.level (ladder S (leaf c.args.brackets) (within S leaf c.args.brackets) c.args.level) c.args.room ts c.if-room-eq0.true

pub prefix-returns-in_default-clause-reads : goal.prefix-returns-in_default-clause-reads
prefix-returns-in_default-clause-reads g t c =
    let S = g.D.Dialect.syntax c.args.dialect.now in
    let leaf = g.D.Dialect.leaf c.args.dialect.now in
    let ts = g.R.TokenSource.rest c.args.reader.now in
    let found = sym c.sign.ensures.found ∙ c.in_default.is in
    let moved = rw c.in_default.is at c.sign.ensures.rest in
    rw (prefix-below S c.args.level (ladder S (leaf c.args.brackets) (within S leaf c.args.brackets) c.args.level) c.args.room ts _ (omega arith)
    found moved) c.ladder.ensures.reads

pub prefix-returns-clause-reads : goal.prefix-returns-clause-reads
prefix-returns-clause-reads g t c =
    let S = g.D.Dialect.syntax c.args.dialect.now in
    let leaf = g.D.Dialect.leaf c.args.dialect.now in
    let ts = g.R.TokenSource.rest c.args.reader.now in
    made-gives (λ m. g.D.Dialect.view m.tree) (S.mark c.in-Some.sign (g.D.Dialect.view c.in_ok-inner.inner.tree)) c.marked.result c.marked.ensures.reads
    (prefix-marked S c.args.level (ladder S (leaf c.args.brackets) (within S leaf c.args.brackets) c.args.level) c.args.room ts _ _ _ _ _
    (omega arith) (sym c.in-Some.ensures.found) c.in-Some.ensures.rest c.in_ok-inner.ensures.reads refl)

-- below the first level
pub base-returns-then-room-eq0-clause-reads : goal.base-returns-then-room-eq0-clause-reads
base-returns-then-room-eq0-clause-reads g t c =
    let S = g.D.Dialect.syntax c.args.dialect.now in
    let leaf = g.D.Dialect.leaf c.args.dialect.now in
    let ts = g.R.TokenSource.rest c.args.reader.now in
    base-zero S (leaf c.args.brackets) (within S leaf c.args.brackets) c.args.room ts c.if-room-eq0.true

pub base-returns-then-takes-clause-reads : goal.base-returns-then-takes-clause-reads
base-returns-then-takes-clause-reads g t c =
    let S = g.D.Dialect.syntax c.args.dialect.now in
    let leaf = g.D.Dialect.leaf c.args.dialect.now in
    let ts = g.R.TokenSource.rest c.args.reader.now in
    let opens = sym c.takes.ensures.taken ∙ c.if-takes.true in
    let moved = rw c.if-takes.true at c.takes.ensures.rest in
    rw (base-open S (leaf c.args.brackets) (within S leaf c.args.brackets) c.args.room ts _ (omega arith) opens moved) c.enclosed.ensures.reads

pub base-returns-in-Some-clause-reads : goal.base-returns-in-Some-clause-reads
base-returns-in-Some-clause-reads g t c =
    let S = g.D.Dialect.syntax c.args.dialect.now in
    let leaf = g.D.Dialect.leaf c.args.dialect.now in
    let ts = g.R.TokenSource.rest c.args.reader.now in
    let opens = sym c.takes.ensures.taken ∙ c.if-takes.false in
    let same = rw c.if-takes.false at c.takes.ensures.rest in
    rw (base-call S (leaf c.args.brackets) (within S leaf c.args.brackets) c.args.room ts _ _ _ (omega arith) opens same
    (sym c.in-Some.ensures.found) c.in-Some.ensures.rest) c.called.ensures.reads

pub base-returns-in-None-clause-reads : goal.base-returns-in-None-clause-reads
base-returns-in-None-clause-reads g t c =
    let S = g.D.Dialect.syntax c.args.dialect.now in
    let leaf = g.D.Dialect.leaf c.args.dialect.now in
    let ts = g.R.TokenSource.rest c.args.reader.now in
    let opens = sym c.takes.ensures.taken ∙ c.if-takes.false in
    let same = rw c.if-takes.false at c.takes.ensures.rest in
    rw (base-leaf S (leaf c.args.brackets) (within S leaf c.args.brackets) c.args.room ts _ _ (omega arith) opens same (sym c.in-None.ensures.found)
    c.in-None.ensures.rest) c.leaf.ensures.reads

-- growths
pub grown-returns-then-left-room-clause-reads : goal.grown-returns-then-left-room-clause-reads
grown-returns-then-left-room-clause-reads g t c =
    let S = g.D.Dialect.syntax c.args.dialect.now in
    let leaf = g.D.Dialect.leaf c.args.dialect.now in
    let ts = g.R.TokenSource.rest c.args.reader.now in
    grown-deep S (ladder S (leaf c.args.brackets) (within S leaf c.args.brackets) c.args.level (c.args.room - 1)) c.args.room c.args.op _ ts (omega arith)

pub grown-returns-clause-reads : goal.grown-returns-clause-reads
grown-returns-clause-reads g t c =
    let S = g.D.Dialect.syntax c.args.dialect.now in
    let leaf = g.D.Dialect.leaf c.args.dialect.now in
    let ts = g.R.TokenSource.rest c.args.reader.now in
    made-gives (λ m. g.D.Dialect.view m.tree) (S.join c.args.op (g.D.Dialect.view c.args.left.tree) (g.D.Dialect.view c.in_ok-right.right.tree))
    c.joined.result c.joined.ensures.reads
    (grown-joined S (ladder S (leaf c.args.brackets) (within S leaf c.args.brackets) c.args.level (c.args.room - 1)) c.args.room c.args.op _ ts _ _ _
    (omega arith) c.in_ok-right.ensures.reads refl)

-- brackets
pub enclosed-returns-then-brackets-eq0-clause-reads : goal.enclosed-returns-then-brackets-eq0-clause-reads
enclosed-returns-then-brackets-eq0-clause-reads g t c =
    let S = g.D.Dialect.syntax c.args.dialect.now in
    let leaf = g.D.Dialect.leaf c.args.dialect.now in
    let ts = g.R.TokenSource.rest c.args.reader.now in
    closed-zero S leaf c.args.brackets c.args.room ts c.if-brackets-eq0.true

pub enclosed-returns-clause-reads : goal.enclosed-returns-clause-reads
enclosed-returns-clause-reads g t c =
    let S = g.D.Dialect.syntax c.args.dialect.now in
    let leaf = g.D.Dialect.leaf c.args.dialect.now in
    let ts = g.R.TokenSource.rest c.args.reader.now in
    closed-gives S (λ m. g.D.Dialect.view m.tree) c.in_ok-inner.inner c.closing.result leaf c.args.brackets _ c.args.room ts _ _ (omega arith)
    c.height.ensures.all c.in_ok-inner.ensures.reads c.closing.ensures

pub ladder-returns-in-Chain-clause-reads : goal.ladder-returns-in-Chain-clause-reads
ladder-returns-in-Chain-clause-reads g t c =
    let S = g.D.Dialect.syntax c.args.dialect.now in
    let leaf = g.D.Dialect.leaf c.args.dialect.now in
    let ts = g.R.TokenSource.rest c.args.reader.now in
    rw (ladder-chain S (leaf c.args.brackets) (within S leaf c.args.brackets) c.args.rank (c.args.rank - 1) c.args.room ts (omega arith)
    (sym c.in-Chain.ensures)) c.chain.ensures.reads

pub ladder-returns-in-Once-clause-reads : goal.ladder-returns-in-Once-clause-reads
ladder-returns-in-Once-clause-reads g t c =
    let S = g.D.Dialect.syntax c.args.dialect.now in
    let leaf = g.D.Dialect.leaf c.args.dialect.now in
    let ts = g.R.TokenSource.rest c.args.reader.now in
    rw (ladder-once S (leaf c.args.brackets) (within S leaf c.args.brackets) c.args.rank (c.args.rank - 1) c.args.room ts (omega arith)
    (sym c.in-Once.ensures)) c.once.ensures.reads

pub ladder-returns-in-Prefix-clause-reads : goal.ladder-returns-in-Prefix-clause-reads
ladder-returns-in-Prefix-clause-reads g t c =
    let S = g.D.Dialect.syntax c.args.dialect.now in
    let leaf = g.D.Dialect.leaf c.args.dialect.now in
    let ts = g.R.TokenSource.rest c.args.reader.now in
    rw (ladder-prefix S (leaf c.args.brackets) (within S leaf c.args.brackets) c.args.rank (c.args.rank - 1) c.args.room ts (omega arith)
    (sym c.in-Prefix.ensures)) c.prefix.ensures.reads

-- where a part fails
pub chain-returns-in_err-left-clause-reads : goal.chain-returns-in_err-left-clause-reads
chain-returns-in_err-left-clause-reads g t c = grind (arith, chain-at)

pub once-returns-in_err-left-clause-reads : goal.once-returns-in_err-left-clause-reads
once-returns-in_err-left-clause-reads g t c = grind (arith, once-at)

pub prefix-returns-in_err-inner-clause-reads : goal.prefix-returns-in_err-inner-clause-reads
prefix-returns-in_err-inner-clause-reads g t c = grind (arith, prefix-at)

pub enclosed-returns-in_err-inner-clause-reads : goal.enclosed-returns-in_err-inner-clause-reads
enclosed-returns-in_err-inner-clause-reads g t c = grind (arith, within-at)

pub grown-returns-in_err-right-clause-reads : goal.grown-returns-in_err-right-clause-reads
grown-returns-in_err-right-clause-reads g t c = grind (arith, grown-taken)

pub chain-returns-in_err-left-2-clause-reads : goal.chain-returns-in_err-left-2-clause-reads
chain-returns-in_err-left-2-clause-reads g t c = grind (arith, chained-failed)

-- a word before brackets
pub called-returns-clause-reads : goal.called-returns-clause-reads
called-returns-clause-reads g t c =
    let S = g.D.Dialect.syntax c.args.dialect.now in
    let leaf = g.D.Dialect.leaf c.args.dialect.now in
    let ts = g.R.TokenSource.rest c.args.reader.now in
    made-gives (λ m. g.D.Dialect.view m.tree) (S.mark c.args.sign (g.D.Dialect.view c.in_ok-inner.inner.tree)) c.marked.result c.marked.ensures.reads
    (called-all S (within S leaf c.args.brackets) c.args.room ts _ _ c.args.sign _ _ c.in_ok-expect.ensures c.in_ok-inner.ensures.reads refl)
