use Rattle.std.proofs.Common.{◌≡◌, drop}
use Rattle.kern_rows.specs.Turns.{shares}
use Rattle.stream_periods.specs.Walk.{each_known, dealt_to}
use Rattle.rate_code.specs.Entries.{known_of, queues_of}
use Rattle.rate_code.proofs.walk.dealt.Given as goal

abbrev pub invariant-loop-i : goal.invariant-loop-i
invariant-loop-i l =
    (each_known (λ i. dealt_to (shares l.weights) i (known_of l.s)) l.i (drop l.i l.writes) (queues_of l.entries)
    ≡ each_known (λ i. dealt_to (shares l.weights) i (known_of l.s)) 0 l.writes (queues_of l.fn.entries))
