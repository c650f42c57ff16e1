-- Every way to cut the time gives the whole.
use Rattle.std.proofs.Common.{◌≡◌, ℕ, ℤ, pos, ◌≤ℤ◌, List, [], ◌∷◌, length, refl, arith}
use Rattle.std.specs.Prelude.{◌+ℤ◌, All}
use Rattle.std.proofs.lemmas.List.Elements.{All-cons, All-nil}
use Rattle.river_base.specs.Instants.{instants}
use Rattle.cql_text.specs.Tree.{Register, AQuery, Program}
use Rattle.cql_model.specs.Laws.{AreFiles}
use Rattle.cql_pieces.specs.Piece.{File}
use Rattle.cql_pieces.specs.Whole.{AreRight, Follow}
use Rattle.cql_pieces.specs.Files.{AreTimed}
use Rattle.cql_pieces.specs.Tool.{AreWhole}
use Rattle.cql_pieces.specs.Every.{AreEnds, lead_parts, widths_of, EveryCutGivesTheWhole, EveryRunGivesTheWhole}
use Rattle.cql_pieces.proofs.Leads.{lead_is_enough}
use Rattle.cql_pieces.proofs.Tool.{files_give_the_whole}
use Rattle.cql_pieces.proofs.Whole.{pieces_give_the_whole}

one_more : (t e : ℤ) → t ≤ℤ e → t ≤ℤ (e +ℤ pos 1)
one_more t e h = grind (arith, h)

follow : (p : Program) (files : List File) (ts : List ℤ) (first : ℤ) (ends : List ℤ) → AreEnds ts first ends → Follow ts first (lead_parts p files first ends)
follow p files ts first [] h = h
follow p files ts first (e ∷ ends) h = (refl, (one_more first e h.0, follow p files ts (e +ℤ pos 1) ends h.1))

right : (p : Program) (files : List File) (ts : List ℤ) (first : ℤ) (ends : List ℤ) → AreFiles p files → AreEnds ts first ends → AreRight p files (lead_parts p files first ends)
right p files ts first [] a h = tt
right p files ts first (e ∷ ends) a h = (lead_is_enough p files first e a h.0, right p files ts (e +ℤ pos 1) ends a h.1)

-- The law of what the program means.
pub every_cut_gives_the_whole : EveryCutGivesTheWhole
every_cut_gives_the_whole p files first ends a all h =
    pieces_give_the_whole p files first (lead_parts p files first ends) all (follow p files (instants files) first ends h)
    (right p files (instants files) first ends a h)

-- THE FILES OF A PROGRAM'S STREAMS

same_width : (width : ℕ) (t : ℤ) (file : File) → AreTimed width t file → All (λ e. length e.1 ≡ width) file
same_width width t [] a = All-nil (λ (e : ℤ × List ℤ). length e.1 ≡ width)
same_width width t (e ∷ es) a = All-cons (λ (d : ℤ × List ℤ). length d.1 ≡ width) e es a.0 (same_width width e.0 es a.1.1.1.1)

are_files : (p : Program) (files : List File) → AreWhole (widths_of p) files → AreFiles p files
are_files [] [] a = tt
are_files [] (f ∷ fs) a = a
are_files (Register name fields ∷ ps) [] a = a
are_files (Register name fields ∷ ps) (f ∷ fs) a = (same_width (length fields) (pos 0) f a.0, are_files ps fs a.1)
are_files (AQuery q ∷ ps) files a = are_files ps files a

-- The law of what the runs print.
pub every_run_gives_the_whole : EveryRunGivesTheWhole
every_run_gives_the_whole names text p files ends printed stands a h run =
    files_give_the_whole names (widths_of p) text p files (lead_parts p files (pos 0) ends) printed stands a
    (follow p files (instants files) (pos 0) ends h) (right p files (instants files) (pos 0) ends (are_files p files a) h) run
