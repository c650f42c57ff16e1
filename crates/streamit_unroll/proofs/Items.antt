-- The statements of a block, one by one.
use Rattle.std.proofs.Common.{List, [], ◌∷◌}
use Rattle.streamit_text.specs.Tree.{Statement, in_turn}
use Rattle.streamit_unroll.specs.Lean.{flat}
use Rattle.streamit_unroll.specs.Unrolling.{AreWritten}
use Rattle.streamit_unroll.proofs.SoFar.{written_both}

-- the numbers of each are values
abbrev pub EachWritten : List (List Statement) → Type 0
EachWritten [] = Unit {0}
EachWritten (l ∷ ls) = AreWritten (in_turn l) × EachWritten ls

-- as those of all are
pub each_written : (ls : List (List Statement)) → AreWritten (in_turn (flat ls)) → EachWritten ls
each_written [] w = tt
each_written (l ∷ ls) w = let h = written_both l (flat ls) w in (h.0, each_written ls h.1)
