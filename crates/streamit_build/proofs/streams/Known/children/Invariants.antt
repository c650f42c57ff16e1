use Rattle.std.proofs.Common.{drop}
use Rattle.streamit_model.specs.Judged.{Streamed, streams_added}
use Rattle.streamit_build.specs.Units.{declared_forms}
use Rattle.streamit_build.specs.Knowing.{Knows, may}
use Rattle.streamit_build.proofs.Added.{SoFar}
use Rattle.streamit_build.proofs.streams.Known.children.Given as goal

abbrev pub invariant-loop-i : goal.invariant-loop-i
invariant-loop-i l =
    (known : Streamed) → Knows l.self known
    → SoFar (declared_forms l.self.declared.items) (may l.branch) known (streams_added (may l.branch) known 0 l.adds.first l.adds.others.items) l.i
    (drop l.i l.adds.others.items) l.children
