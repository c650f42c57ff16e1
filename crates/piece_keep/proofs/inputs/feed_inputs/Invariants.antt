use Rattle.std.proofs.Common.{◌≡◌, ℕ, ◌≤◌, List, IfSome}
use Rattle.piece_keep.specs.Fed.{FedInputs}
use Rattle.piece_keep.proofs.inputs.feed_inputs.Given as goal

abbrev pub invariant-loop-before : goal.invariant-loop-before
invariant-loop-before g l = record {
  stays : g.J.JobFiles.held l.files ≡ g.J.JobFiles.held l.initial.files;
  later : g.J.JobFiles.faults l.initial.files ≤ g.J.JobFiles.faults l.files;
  fed : (m : List ℕ) → g.D.Digest.holds l.initial.to m → IfSome (g.J.JobFiles.held l.initial.files) (λ w. FedInputs (g.D.Digest.holds l.to) m w l.before l.initial.end l.end);
}
