-- Calls on pieces, and the merge of what they wrote.
use Rattle.std.proofs.Common.{ℕ, Bool, false, List, [], ◌∷◌}
use Rattle.river_pieces.specs.Whole.{ArePrinted}
use Rattle.river_pieces.proofs.Compiled.{compiled_pieces_give_the_whole}
use Rattle.run_pieces.specs.Whole.{AreRun, RiverGivesTheWhole}
use Rattle.run_pieces.proofs.Ran.{ran_prints}

-- what is run is printed
pub all-printed : (text : List ℕ) (skip_first : Bool) (pieces outs : List (List ℕ)) → AreRun text skip_first pieces outs → ArePrinted text skip_first pieces outs
all-printed text skip_first [] [] h = h
all-printed text skip_first [] (o ∷ os) h = absurd h
all-printed text skip_first (x ∷ xs) [] h = absurd h
all-printed text skip_first (x ∷ xs) (o ∷ os) h = (ran_prints text x skip_first o h.0, all-printed text false xs os h.1)

-- what is merged of what calls of `river` wrote of the pieces is what the program means for the file
pub river_gives_the_whole : RiverGivesTheWhole
river_gives_the_whole text bytes skip_first a pieces outs merge compiles cut ran merged =
    compiled_pieces_give_the_whole text bytes skip_first a pieces outs merge compiles cut (all-printed text skip_first pieces outs ran) merged
