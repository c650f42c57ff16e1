-- A program is run on the pieces of files of any length.
use Rattle.std.proofs.Common.{◌≡◌, ℕ, ◌≤◌, ℤ, pos, ◌≤ℤ◌, true, false, List, [], ◌∷◌, length, refl, sym, ap, ◌∙◌, arith, subst, map, ⊎_elim}
use Rattle.std.specs.Prelude.{All, int_le, Result, Ok}
use Rattle.std.specs.List.{AllByRecursion, Contains}
use Rattle.std.proofs.lemmas.List.Elements.{All-cons, All-nil, All-filter, Contains-append_cases}
use Rattle.river_base.specs.Instants.{instants, stamps}
use Rattle.river_base.specs.Number.{IsValue}
use Rattle.river_base.proofs.Instants.{has_once}
use Rattle.river_plan.specs.Forms.{Name}
use Rattle.csv_streams.specs.Outcome.{outputs_text}
use Rattle.csv_streams.specs.Rows.{most_rows}
use Rattle.csv_streams.specs.Timed.{timed_of}
use Rattle.table_texts.specs.Split.{under_names}
use Rattle.csv_streams.specs.declared.fault.InFault.{InFault}
use Rattle.cql_text.specs.Tree.{Program}
use Rattle.cql_model.specs.Instants.{program_means}
use Rattle.cql_pieces.specs.Piece.{File, within, cut_file, cut_files}
use Rattle.cql_pieces.specs.Whole.{Part, cuts_at, cuts_of, Follow, AreRight}
use Rattle.cql_pieces.specs.Files.{AreTimed, file_text}
use Rattle.cql_pieces.specs.Text.{kept, sections, texts_behind, part_texts, parts_texts, IsPrinted}
use Rattle.cql_pieces.specs.Values.{AreNumbers, IsOfValues}
use Rattle.cql_pieces.specs.Tool.{AreWhole, AreRead, IsRun, AreRun, kept_of, FilesGiveTheWhole}
use Rattle.cql_pieces.proofs.Cuts.{each_contained, first_or_more, none_there, piece_in_whole}
use Rattle.cql_pieces.proofs.Files.{piece_files_are_read}
use Rattle.cql_pieces.proofs.Numbers.{texts_have_numbers}
use Rattle.cql_pieces.proofs.Text.{texts_give_the_whole}
use Rattle.cql_pieces.proofs.Values.{means_values}
use Rattle.cql_pieces.proofs.Whole.{whole_cuts}

-- TIMES AND VALUES

time_true : (t : ℤ) → pos 0 ≤ℤ t → int_le (pos 0) t ≡ true
time_true t h = grind (arith, h)

file_times : (w : ℕ) (t : ℤ) (file : File) → AreTimed w t file → (u : ℤ) → Contains (map (λ (e : ℤ × List ℤ). e.0) file) u → int_le (pos 0) u ≡ true
file_times w t [] a u m = none_there u m
file_times w t (e ∷ es) a u m =
    first_or_more e.0 (map (λ (d : ℤ × List ℤ). d.0) es) u (λ s. subst (λ (z : ℤ). int_le (pos 0) z ≡ true) s (time_true e.0 a.1.1.0))
    (λ k. file_times w e.0 es a.1.1.1.1 u k) m

all_times : (ws : List ℕ) (files : List File) → AreWhole ws files → (u : ℤ) → Contains (stamps files) u → int_le (pos 0) u ≡ true
all_times [] [] a u m = none_there u m
all_times [] (f ∷ fs) a u m = absurd a
all_times (w ∷ ws) [] a u m = absurd a
all_times (w ∷ ws) (f ∷ fs) a u m =
    ⊎_elim (λ k. file_times w (pos 0) f a.0 u k) (λ k. all_times ws fs a.1 u k) (Contains-append_cases (map (λ (e : ℤ × List ℤ). e.0) f) (stamps fs) u m)

from_nought : (ws : List ℕ) (files : List File) → AreWhole ws files → (u : ℤ) → Contains (instants files) u → int_le (pos 0) u ≡ true
from_nought ws files a u m = all_times ws files a u (has_once (stamps files) u m)

file_values : (w : ℕ) (t : ℤ) (file : File) → AreTimed w t file → IsOfValues file
file_values w t [] a = All-nil (λ (e : ℤ × List ℤ). All IsValue (e.0 ∷ e.1))
file_values w t (e ∷ es) a = All-cons (λ (d : ℤ × List ℤ). All IsValue (d.0 ∷ d.1)) e es a.1.0 (file_values w e.0 es a.1.1.1.1)

cuts_values : (hi first : ℤ) (los : List ℤ) (ws : List ℕ) (files : List File) → AreWhole ws files → AllByRecursion IsOfValues (cut_files hi (cuts_at first los files))
cuts_values hi first [] [] [] a = tt
cuts_values hi first (lo ∷ los) [] [] a = tt
cuts_values hi first los [] (f ∷ fs) a = absurd a
cuts_values hi first los (w ∷ ws) [] a = absurd a
cuts_values hi first [] (w ∷ ws) (f ∷ fs) a =
    (All-filter (λ (e : ℤ × List ℤ). within first hi e.0) (λ (e : ℤ × List ℤ). All IsValue (e.0 ∷ e.1)) f (file_values w (pos 0) f a.0), cuts_values hi first [] ws fs a.1)
cuts_values hi first (lo ∷ los) (w ∷ ws) (f ∷ fs) a =
    (All-filter (λ (e : ℤ × List ℤ). within lo hi e.0) (λ (e : ℤ × List ℤ). All IsValue (e.0 ∷ e.1)) f (file_values w (pos 0) f a.0), cuts_values hi first los ws fs a.1)

-- what is printed of a part are values, at times from 0
printed_fits : (ws : List ℕ) (p : Program) (files : List File) (part : Part) → AreNumbers p → AreWhole ws files → IsPrinted p files part
printed_fits ws p files part n a =
    let cuts = cuts_of part files in
    let piece = cut_files part.upto cuts in record {
      values = means_values p piece n (cuts_values part.upto part.first part.los ws files a);
      times = each_contained (λ t. int_le (pos 0) t ≡ true) (instants piece)
          (λ u m. from_nought ws files a u (subst (λ (fs : List File). Contains (instants fs) u) (whole_cuts part.first part.los files) (piece_in_whole part.upto cuts u m).0));
    }

all_printed : (ws : List ℕ) (p : Program) (files : List File) (parts : List Part) → AreNumbers p → AreWhole ws files → AllByRecursion (IsPrinted p files) parts
all_printed ws p files [] n a = tt
all_printed ws p files (part ∷ parts) n a = (printed_fits ws p files part n a, all_printed ws p files parts n a)

-- WHAT IS READ

same_ok : (x y : File) (o : Result File InFault) → o ≡ Ok x → o ≡ Ok y → x ≡ y
same_ok x y o h g = cc (h, g)

read_is : (hi first : ℤ) (los : List ℤ) (ws : List ℕ) (files read : List File) → AreWhole ws files
    → AllByRecursion (λ f. length f ≤ most_rows) (cut_files hi (cuts_at first los files))
    → AreRead ws (map file_text (cut_files hi (cuts_at first los files))) read → cut_files hi (cuts_at first los files) ≡ read
read_is hi first [] [] [] [] a few r = refl
read_is hi first (lo ∷ los) [] [] [] a few r = refl
read_is hi first [] [] [] (x ∷ read) a few r = absurd r
read_is hi first (lo ∷ los) [] [] (x ∷ read) a few r = absurd r
read_is hi first los [] (f ∷ fs) read a few r = absurd a
read_is hi first los (w ∷ ws) [] read a few r = absurd a
read_is hi first [] (w ∷ ws) (f ∷ fs) [] a few r = absurd r
read_is hi first (lo ∷ los) (w ∷ ws) (f ∷ fs) [] a few r = absurd r
read_is hi first [] (w ∷ ws) (f ∷ fs) (x ∷ read) a few r =
    ap (λ l. l ∷ cut_files hi (cuts_at first [] fs))
    (same_ok (cut_file first hi f) x (timed_of (file_text (cut_file first hi f)) w false) (piece_files_are_read w f first hi a.0 few.0) r.0)
    ∙ ap (λ l. x ∷ l) (read_is hi first [] ws fs read a.1 few.1 r.1)
read_is hi first (lo ∷ los) (w ∷ ws) (f ∷ fs) (x ∷ read) a few r =
    ap (λ l. l ∷ cut_files hi (cuts_at first los fs))
    (same_ok (cut_file lo hi f) x (timed_of (file_text (cut_file lo hi f)) w false) (piece_files_are_read w f lo hi a.0 few.0) r.0)
    ∙ ap (λ l. x ∷ l) (read_is hi first los ws fs read a.1 few.1 r.1)

part_kept : (ws : List ℕ) (p : Program) (files : List File) (part : Part) (printed : List (List ℕ)) → AreWhole ws files → IsRun ws p files part printed
    → map (kept part.first part.upto) printed ≡ part_texts p files part
part_kept ws p files part printed a run =
    ap (map (kept part.first part.upto))
    (run.prints ∙ ap (λ fs. sections (program_means p fs)) (sym (read_is part.upto part.first part.los ws files run.read a run.few run.is_read)))

parts_kept : (ws : List ℕ) (p : Program) (files : List File) (parts : List Part) (printed : List (List (List ℕ))) → AreWhole ws files → AreRun ws p files parts printed
    → kept_of p files parts printed ≡ parts_texts p files parts
parts_kept ws p files [] [] a r = refl
parts_kept ws p files [] (x ∷ xs) a r = absurd r
parts_kept ws p files (part ∷ parts) [] a r = absurd r
parts_kept ws p files (part ∷ parts) (x ∷ xs) a r =
    ap (λ l. texts_behind l (kept_of p files parts xs)) (part_kept ws p files part x a r.0)
    ∙ ap (texts_behind (part_texts p files part)) (parts_kept ws p files parts xs a r.1)

-- The law for any program whose numbers are values, whether a text has it or not.
files_of_numbers : (names : List Name) (ws : List ℕ) (p : Program) (files : List File) (parts : List Part) (printed : List (List (List ℕ))) → AreNumbers p
    → AreWhole ws files → Follow (instants files) (pos 0) parts → AreRight p files parts → AreRun ws p files parts printed
    → under_names names (kept_of p files parts printed) ≡ outputs_text names (program_means p files)
files_of_numbers names ws p files parts printed n a f right run =
    ap (under_names names) (parts_kept ws p files parts printed a run)
    ∙ texts_give_the_whole names p files (pos 0) parts (each_contained (λ u. int_le (pos 0) u ≡ true) (instants files) (from_nought ws files a)) f right
    (all_printed ws p files parts n a)

-- The law, for the program of a text.
pub files_give_the_whole : FilesGiveTheWhole
files_give_the_whole names ws text p files parts printed stands a f right run =
    files_of_numbers names ws p files parts printed (texts_have_numbers text p stands) a f right run
