-- What a piece gives above its bounds is what the whole gives, and parts whose spans follow each other give the whole.
use Rattle.std.specs.Prelude.{◌≡◌, ℤ, pos, ◌+ℤ◌, ◌≤ℤ◌, true, List, [], ◌∷◌, ◌++◌, map, filter, int_le, int_lt, ◌&&◌, Option}
use Rattle.std.specs.List.{AllByRecursion}
use Rattle.river_base.specs.Instants.{Timed, at_instant, instants, spread}
use Rattle.river_base.specs.declared.item.Item as item
use Rattle.cql_text.specs.Tree.{Program}
use Rattle.cql_model.specs.Meaning.{answers}
use Rattle.cql_model.specs.Instants.{program_means}
use Rattle.cql_pieces.specs.Piece.{Cut, is_full, whole_files, File, within, cut_file, cut_files, settled, piece_bounds}

-- From where all files are there, the piece has the instants of the whole up to its end; and each of its files has the whole's rows at
-- each instant from its own on.
pub record IsCut (hi : ℤ) (cuts : List Cut) : Type 0 where
  pub instants : filter (is_full cuts) (instants (cut_files hi cuts)) ≡ filter (λ u. is_full cuts u && int_le u hi) (instants (whole_files cuts))
  pub rows : (c : Cut) (t : ℤ) → within c.lo hi t ≡ true → at_instant (cut_file c.lo hi c.file) t ≡ at_instant c.file t

-- every cut is so
abbrev pub PiecesAreCut : Type 0
PiecesAreCut = (hi : ℤ) (cuts : List Cut) → IsCut hi cuts

-- the two are the same at the instants above the bound
abbrev pub Agree : Option ℤ → Timed → Timed → List ℤ → Type 0
Agree m s r vs = AllByRecursion (λ t. settled m t ≡ true → s t ≡ r t) vs

-- for each query
abbrev pub AllAgree : List (Option ℤ) → List Timed → List Timed → List ℤ → Type 0
AllAgree [] [] [] vs = Unit {0}
AllAgree (m ∷ ms) (s ∷ ss) (r ∷ rs) vs = Agree m s r vs × AllAgree ms ss rs vs
AllAgree [] [] (r ∷ rs) vs = ⊥
AllAgree [] (s ∷ ss) rs vs = ⊥
AllAgree (m ∷ ms) [] rs vs = ⊥
AllAgree (m ∷ ms) (s ∷ ss) [] vs = ⊥

-- For every program, all files, and every way to cut them: what the piece gives above a query's bound is what the whole gives.
abbrev pub SettledIsWhole : Type 0
SettledIsWhole =
    (p : Program) (hi : ℤ) (cuts : List Cut)
    → AllAgree (piece_bounds p hi cuts) (answers (instants (cut_files hi cuts)) [] p (cut_files hi cuts)) (answers (instants (whole_files cuts)) [] p (whole_files cuts))
    (instants (cut_files hi cuts))

-- A part of the work: the program is run on what each file has from its own of the instants `los` up to `upto`, and what it gives from
-- `first` on is taken. A file for which there is no such instant begins with the span.
pub record Part : Type 0 where
  pub los : List ℤ
  pub first : ℤ
  pub upto : ℤ

-- each file with its instant, or with that of the span
abbrev pub cuts_at : ℤ → List ℤ → List File → List Cut
cuts_at first los [] = []
cuts_at first [] (f ∷ fs) = record { lo = first; file = f } ∷ cuts_at first [] fs
cuts_at first (lo ∷ los) (f ∷ fs) = record { lo = lo; file = f } ∷ cuts_at first los fs

-- the cuts of a part
abbrev pub cuts_of : Part → List File → List Cut
cuts_of part files = cuts_at part.first part.los files

-- at the beginning of its span all files are there, and it is above each query's bound
pub record IsRight (p : Program) (files : List File) (part : Part) : Type 0 where
  pub full : AllByRecursion (λ lo. lo ≤ℤ part.first) part.los
  pub above : AllByRecursion (λ m. settled m part.first ≡ true) (piece_bounds p part.upto (cuts_of part files))

-- each of them
abbrev pub AreRight : Program → List File → List Part → Type 0
AreRight p files parts = AllByRecursion (IsRight p files) parts

-- the spans follow each other from this instant on, up to the end of the files
abbrev pub Follow : List ℤ → ℤ → List Part → Type 0
Follow ts t [] = AllByRecursion (λ u. int_lt u t ≡ true) ts
Follow ts t (part ∷ parts) = (part.first ≡ t) × ((t ≤ℤ (part.upto +ℤ pos 1)) × Follow ts (part.upto +ℤ pos 1) parts)

-- what a part gives: for each query, the items of its span
abbrev pub taken : ℤ → ℤ → List ℤ → Timed → List item.Item
taken first upto vs s = spread (filter (within first upto) vs) s

-- for all queries
abbrev pub part_gives : Program → List File → Part → List (List item.Item)
part_gives p files part =
    let piece = cut_files part.upto (cuts_of part files) in
    map (taken part.first part.upto (instants piece)) (answers (instants piece) [] p piece)

-- query by query, one list behind the other
abbrev pub one_behind : List (List item.Item) → List (List item.Item) → List (List item.Item)
one_behind [] ys = []
one_behind (x ∷ xs) [] = x ∷ xs
one_behind (x ∷ xs) (y ∷ ys) = (x ++ y) ∷ one_behind xs ys

-- no items, for each query
abbrev pub nothing_for : {A : Type 0} → List A → List (List item.Item)
nothing_for xs = map (λ x. []) xs

-- what the parts give, one behind another
abbrev pub parts_give : Program → List File → List Part → List (List item.Item)
parts_give p files [] = nothing_for (answers (instants files) [] p files)
parts_give p files (part ∷ parts) = one_behind (part_gives p files part) (parts_give p files parts)

-- The spans of the parts follow each other over all instants, and each begins above the bounds of its piece. Then what the parts
-- give, one behind another, is what the program means for the whole of the files.
abbrev pub PiecesGiveTheWhole : Type 0
PiecesGiveTheWhole =
    (p : Program) (files : List File) (t : ℤ) (parts : List Part) → AllByRecursion (λ u. int_le t u ≡ true) (instants files)
    → Follow (instants files) t parts → AreRight p files parts → parts_give p files parts ≡ program_means p files
