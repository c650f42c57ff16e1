use Rattle.std.proofs.Common.{length}
use Rattle.worked_cases.proofs.layout.+have_distinct_names.Given as goal

-- The list is shorter at each call.
abbrev pub decreases-have_distinct_names : goal.decreases-have_distinct_names
decreases-have_distinct_names l = length l.files.now
