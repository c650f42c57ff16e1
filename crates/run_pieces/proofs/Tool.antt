-- The pieces that are taken, the calls on them, and the merge.
use Rattle.std.proofs.Common.{◌≡◌, ℕ, false, List, [], subst}
use Rattle.std.specs.Prelude.{Some, Ok}
use Rattle.csv_cuts.specs.Cut.{AreCut, append_pieces}
use Rattle.river_pieces.proofs.Whole.{grown_gives_the_whole}
use Rattle.saw_front.proofs.Fronts.{means_what_it_has}
use Rattle.run_pieces.specs.Tool.{ToolGivesTheWhole, ToolGivesTheGrown}
use Rattle.run_pieces.proofs.Whole.{river_gives_the_whole, all-printed}

-- what was taken where nothing had been taken before
pub taken : (new pieces : List (List ℕ)) → Some new ≡ append_pieces (Some []) pieces → pieces ≡ new
taken new pieces e = cc e

-- what is merged of what the calls on pieces that were taken wrote is what the program means for the file
pub tool_gives_the_whole : ToolGivesTheWhole
tool_gives_the_whole text bytes skip_first a pieces outs merge compiles cut ran merged =
    let are_cut = subst (λ (ps : List (List ℕ)). AreCut bytes skip_first ps) (taken pieces cut.pieces cut.took) cut.cut in
    river_gives_the_whole text bytes skip_first a pieces outs merge compiles are_cut ran merged

-- what is kept, and what the calls on the new part wrote, merged
pub tool_gives_the_grown : ToolGivesTheGrown
tool_gives_the_grown text old new skip_first a kept pieces outs merge compiles means ends unmarked header cut ran merged =
    let are_cut = subst (λ (ps : List (List ℕ)). AreCut new false ps) (taken pieces cut.pieces cut.took) cut.cut in
    let h = (means_what_it_has text (Ok a)).0 compiles in
    grown_gives_the_whole text old new skip_first a.units a.read kept pieces outs merge h.0 h.1 means ends unmarked header are_cut
    (all-printed text false pieces outs ran) merged
