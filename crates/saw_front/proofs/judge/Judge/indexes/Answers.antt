use Rattle.work_code.specs.Term.{terms}
use Rattle.saw_front.specs.Judging.{at_of}
use Rattle.saw_front.proofs.Rows.{index_over}
use Rattle.saw_front.proofs.judge.Judge.indexes.Goals as goal

-- a ninth index
pub returns-then-i-ge8 : goal.returns-then-i-ge8
returns-then-i-ge8 c =
    index_over (at_of c.args.self.now).scope c.args.indexes.now c.loop-i.i (terms c.loop-i.list) c.loop-i-test.true c.if-i-ge8.true c.loop-i.invariant
