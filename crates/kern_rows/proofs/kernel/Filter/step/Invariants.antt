use Rattle.std.proofs.Common.{◌≡◌, length}
use Rattle.kern_rows.specs.Forms.{filter_form}
use Rattle.kern_rows.proofs.Filtered.{Between, runs_left}
use Rattle.kern_rows.proofs.kernel.Filter.step.Given as goal

abbrev pub invariant-runs : goal.invariant-runs
invariant-runs l =
    Between (filter_form l.self) l.value l.initial.state l.state l.initial.out l.out × (length l.state.kept ≡ length l.initial.state.kept)

abbrev pub decreases-runs : goal.decreases-runs
decreases-runs l = runs_left l.state
