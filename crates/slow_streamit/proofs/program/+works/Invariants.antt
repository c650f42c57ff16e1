use Rattle.std.proofs.Common.{◌+◌, ◌*◌, length}
use Rattle.streamit_model.specs.Meaning.{branch_count, share_of}
use Rattle.streamit_text.specs.Program.{adds_of, dealing_of}
use Rattle.slow_streamit.specs.Works.{works_of}
use Rattle.slow_streamit.proofs.Streams.{LineSoFar, BranchesSoFar}
use Rattle.slow_streamit.proofs.program.+works.Given as goal

abbrev pub decreases-named : goal.decreases-named
decreases-named l = length l.above.now * 4

abbrev pub decreases-works : goal.decreases-works
decreases-works l = length l.above.now * 4 + 3

abbrev pub decreases-piped : goal.decreases-piped
decreases-piped l = length l.above.now * 4 + 1

abbrev pub decreases-joined : goal.decreases-joined
decreases-joined l = length l.above.now * 4 + 2

abbrev pub decreases-branches : goal.decreases-branches
decreases-branches l = length l.above.now * 4 + 1

abbrev pub invariant-piped-loop-name : goal.invariant-piped-loop-name
invariant-piped-loop-name l = LineSoFar (works_of l.above) l.name-items l.name-index l.initial.out l.out

abbrev pub invariant-branches-loop-i : goal.invariant-branches-loop-i
invariant-branches-loop-i l =
    let a = adds_of l.parts.adds in
    BranchesSoFar (works_of l.above) (λ p. share_of (dealing_of l.parts.split) (branch_count a) p l.items) a.first a.others l.i l.fn.lists l.lists
