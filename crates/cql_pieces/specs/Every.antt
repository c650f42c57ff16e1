-- Every way to cut the time gives the whole: of what a program means, and of what the runs on the pieces print.
use Rattle.std.specs.Prelude.{◌≡◌, ℕ, ℤ, pos, ◌+ℤ◌, ◌≤ℤ◌, true, List, [], ◌∷◌, length, int_le, int_lt}
use Rattle.std.specs.List.{AllByRecursion}
use Rattle.river_base.specs.Instants.{instants}
use Rattle.river_plan.specs.Forms.{Name}
use Rattle.csv_streams.specs.Outcome.{outputs_text}
use Rattle.table_texts.specs.Split.{under_names}
use Rattle.cql_text.specs.Grammar.{IsText}
use Rattle.cql_text.specs.Tree.{Register, AQuery, Program}
use Rattle.cql_model.specs.Laws.{AreFiles}
use Rattle.cql_model.specs.Instants.{program_means}
use Rattle.cql_pieces.specs.Piece.{File}
use Rattle.cql_pieces.specs.Whole.{Part, parts_give}
use Rattle.cql_pieces.specs.Lead.{leads}
use Rattle.cql_pieces.specs.Tool.{AreWhole, AreRun, kept_of}

-- the ends of spans: none is before the beginning of its span, and the last is not before the last of these instants
abbrev pub AreEnds : List ℤ → ℤ → List ℤ → Type 0
AreEnds ts first [] = AllByRecursion (λ u. int_lt u first ≡ true) ts
AreEnds ts first (e ∷ es) = (first ≤ℤ e) × AreEnds ts (e +ℤ pos 1) es

-- the parts with these ends, each with its leads
abbrev pub lead_parts : Program → List File → ℤ → List ℤ → List Part
lead_parts p files first [] = []
lead_parts p files first (e ∷ es) = record { los = leads p files first; first = first; upto = e } ∷ lead_parts p files (e +ℤ pos 1) es

-- For every program, all files of its streams, and every way to cut the time: what the parts give, one behind another, is what the
-- program means for the whole of the files.
abbrev pub EveryCutGivesTheWhole : Type 0
EveryCutGivesTheWhole =
    (p : Program) (files : List File) (first : ℤ) (ends : List ℤ) → AreFiles p files → AllByRecursion (λ u. int_le first u ≡ true) (instants files)
    → AreEnds (instants files) first ends → parts_give p files (lead_parts p files first ends) ≡ program_means p files

-- how many fields each registered stream has beside its time
abbrev pub widths_of : Program → List ℕ
widths_of [] = []
widths_of (Register name fields ∷ ps) = length fields ∷ widths_of ps
widths_of (AQuery q ∷ ps) = widths_of ps

-- For the program of every text, files of its streams of any length, and every way to cut the time from 0 on: the program is run on each
-- piece with its leads. Then what is kept, behind the names of the queries, is what is printed of what the program means for the files.
abbrev pub EveryRunGivesTheWhole : Type 0
EveryRunGivesTheWhole =
    (names : List Name) (text : List ℕ) (p : Program) (files : List File) (ends : List ℤ) (printed : List (List (List ℕ)))
    → IsText text p → AreWhole (widths_of p) files → AreEnds (instants files) (pos 0) ends
    → AreRun (widths_of p) p files (lead_parts p files (pos 0) ends) printed
    → under_names names (kept_of p files (lead_parts p files (pos 0) ends) printed) ≡ outputs_text names (program_means p files)
