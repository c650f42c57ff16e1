-- A run that prints something is done, and one whose input has a fault is refused.
use Rattle.std.proofs.Common.{◌≡◌, ℕ, ℤ, ◌≤◌, List, [], ◌∷◌, length, Bool, true, false, refl, sym, ap, ◌∙◌, subst}
use Rattle.std.specs.Prelude.{codes, Option, None, Some, option_map, Result, Ok, Err}
use Rattle.command_line.specs.declared.command.Command.{Command}
use Rattle.command_line.specs.declared.command.Command.TheVariants.{Run}
use Rattle.command_line.specs.declared.command.RunBy.{RunBy}
use Rattle.csv_streams.specs.Rows.{rows_of_file}
use Rattle.csv_streams.specs.declared.fault.InFault.{InFault}
use Rattle.csv_streams.proofs.WrittenRows.{written_rows-read}
use Rattle.river_base.proofs.Tests.{lt_false}
use Rattle.river_outside.specs.Held.{Held}
use Rattle.river_outside.specs.Order.{Order, Ends, Fetch, Verdict, Done, Refused, end_of, verdict}
use Rattle.river_outside.specs.Passes.{past}
use Rattle.saw_model.specs.Meaning.{width}
use Rattle.saw_front.specs.Meaning.{Accepted, program_in, compiled}
use Rattle.saw_front.proofs.Fronts.{means_what_it_has}
use Rattle.saw_front.specs.Words.{saw_words}
use Rattle.saw_front.specs.declared.fault.SawFault.{SawFault}
use Rattle.river_road.specs.Inputs.{names_fit, fetch_each, or_told, with_first, all_read, read_as, content_reader, contents_in_order, of_inputs}
use Rattle.river_road.specs.Layouts.{layout_of}
use Rattle.river_road.specs.Limits.{most_program, most_input}
use Rattle.river_road.specs.Points.{of_program, of_script, of_supplied, of_scripted, of_gathered}
use Rattle.river_road.specs.Source.{SourceProgram, source_or_refused}
use Rattle.river_road.specs.Supplied.{Supplied, printed_for}
use Rattle.river_road.specs.Text.{large_program, large_input}
use Rattle.river_road.specs.declared.content.FileContent.{FileContent}
use Rattle.river_road.specs.declared.content.FileContent.TheVariants.{Rows as Plain}
use Rattle.river_langs.specs.Sources.{saw_source, saw_in}
use Rattle.river_pieces.specs.Refused.{HasFileFault}
use Rattle.river_pieces.specs.Whole.{Prints}
use Rattle.river_pieces.proofs.Compiled.{means_is_compiled}
use Rattle.river_cli.specs.Points.{of_command, ended, points_of}
use Rattle.run_pieces.specs.Ran.{tally_run, RunsAreDone}
use Rattle.run_pieces.specs.Refused.{told_of, RunsTellFaults}
use Rattle.run_pieces.proofs.Found.{IsDone}
use Rattle.run_pieces.proofs.Ran.{one_input, one_word, tables-printed}

module _ (h : Held) (v : Verdict) where
  -- the points end so over these files
  abbrev EndsSo : Order → Type 0
  EndsSo order = end_of order h ≡ v

  -- a fetch finds bytes that are not too many
  fetch-on : (name : List ℕ) (limit : ℕ) (large : List ℕ) (next : List ℕ → Order) (bytes : List ℕ) → h name ≡ Some bytes → length bytes ≤ limit
      → EndsSo (next bytes) → EndsSo (Fetch name limit large next)
  fetch-on name limit large next bytes is le done = rw (is, end_of) (rw (lt_false limit (length bytes) le) done)

  -- a point without a file finds something
  past-on : {A : Type 0} (found : Result A (List ℕ)) (next : A → Order) (x : A) → found ≡ Ok x → EndsSo (next x) → EndsSo (past found next)
  past-on {A} found next x is done = subst (λ (r : Result A (List ℕ)). EndsSo (past r next)) (sym is) done

  -- or refuses
  past-off : {A : Type 0} (found : Result A (List ℕ)) (next : A → Order) (text : List ℕ) → found ≡ Err text → Refused text ≡ v
      → EndsSo (past found next)
  past-off {A} found next text is end = subst (λ (r : Result A (List ℕ)). EndsSo (past r next)) (sym is) end

  -- the program is compiled
  program-on : (file text : List ℕ) (next : SourceProgram → Order) (a : Accepted) → h file ≡ Some text → length text ≤ most_program → compiled text ≡ Ok a
      → EndsSo (next (saw_source a)) → EndsSo (of_program saw_in file next)
  unfolding of_program
  program-on file text next a is le compiles done =
      let made : saw_in text ≡ Ok (saw_source a) = ap (λ (r : Result Accepted SawFault). source_or_refused saw_source saw_words r) compiles in
      fetch-on file most_program large_program (λ t. past (saw_in t) next) text is le (past-on (saw_in text) next (saw_source a) made done)

  names_are : (w : ℕ) (file : List ℕ) → names_fit (one_input w) (one_word file) ≡ Ok tt
  unfolding names_fit
  names_are w file = refl

  -- what is read of its one input
  abbrev content-of : List ℕ → List ℕ → ℕ → Bool → Result (List FileContent) (List ℕ)
  content-of file bytes w header = all_read (content_reader (one_input w) (layout_of true header)) (one_word file) (bytes ∷ [])

  -- the bytes of its input are found
  inputs-found : (file bytes : List ℕ) (w : ℕ) (header : Bool) (next : List FileContent → Order) → h file ≡ Some bytes → length bytes ≤ most_input
      → EndsSo (past (content-of file bytes w header) (λ all. next (contents_in_order (one_input w) (one_word file) all)))
      → EndsSo (of_inputs (one_input w) (one_word file) (layout_of true header) next)
  unfolding of_inputs fetch_each
  inputs-found file bytes w header next is le done =
      let reader = content_reader (one_input w) (layout_of true header) in
      let then : List FileContent → Order = λ all. next (contents_in_order (one_input w) (one_word file) all) in
      let later : List (List ℕ) → Order = λ files. past (all_read reader (one_word file) files) then in
      past-on (names_fit (one_input w) (one_word file)) (λ _. fetch_each (one_word file) later) tt (names_are w file)
      (fetch-on file most_input (large_input (codes "in")) (λ b. later (b ∷ [])) bytes is le done)

  -- its rows are read
  inputs-on : (file bytes : List ℕ) (w : ℕ) (header : Bool) (next : List FileContent → Order) (rows : List (List ℤ)) → h file ≡ Some bytes
      → length bytes ≤ most_input → rows_of_file bytes w header true ≡ Ok rows → EndsSo (next (Plain rows ∷ []))
      → EndsSo (of_inputs (one_input w) (one_word file) (layout_of true header) next)
  inputs-on file bytes w header next rows is le read done =
      let made : content-of file bytes w header ≡ Ok (Plain rows ∷ []) =
      ap (λ (r : Result (List (List ℤ)) InFault). with_first (or_told (codes "in") (read_as Plain r)) (Ok [])) read in
      inputs-found file bytes w header next is le
      (past-on (content-of file bytes w header) (λ all. next (contents_in_order (one_input w) (one_word file) all)) (Plain rows ∷ []) made done)

  -- or its fault is told
  inputs-off : (file bytes : List ℕ) (w : ℕ) (header : Bool) (next : List FileContent → Order) (f : InFault) → h file ≡ Some bytes
      → length bytes ≤ most_input → rows_of_file bytes w header true ≡ Err f → Refused (told_of f) ≡ v
      → EndsSo (of_inputs (one_input w) (one_word file) (layout_of true header) next)
  inputs-off file bytes w header next f is le read end =
      let made : content-of file bytes w header ≡ Err (told_of f) =
      ap (λ (r : Result (List (List ℤ)) InFault). with_first (or_told (codes "in") (read_as Plain r)) (Ok [])) read in
      inputs-found file bytes w header next is le
      (past-off (content-of file bytes w header) (λ all. next (contents_in_order (one_input w) (one_word file) all)) (told_of f) made end)

abbrev of_scripted_then : List ℕ → Bool → (Supplied → Order) → SourceProgram → Order
of_scripted_then input header last source = of_scripted None (one_word input) (layout_of true header) source last

abbrev at_last : Supplied → Order
at_last s = Ends (Done (printed_for false s))

run-done : (h : Held) (program input text bytes out : List ℕ) (header : Bool) (by : RunBy) (cap : ℕ)
    → h program ≡ Some text → h input ≡ Some bytes → length text ≤ most_program → length bytes ≤ most_input → Prints text bytes header out
    → IsDone h out (ended (Run (tally_run program input header None by cap)))
unfolding ended of_command of_gathered of_supplied of_script
run-done h program input text bytes out header by cap program_is input_is short small prints =
    let m = prints.means in
    let a : Accepted = record { units = m.units; read = m.read } in
    let read = written_rows-read bytes (width m.units) header true m.rows (record { written = m.written; few = prints.few }) in
    program-on h (Done out) program text (of_scripted_then input header at_last) a program_is short (means_is_compiled text bytes header out m)
    (inputs-on h (Done out) input bytes (width m.units) header (λ files. at_last (record { source = saw_source a; files = files })) m.rows input_is small
    read (ap (λ (t : List ℕ). Done t) (tables-printed a (saw_source a).plan m.rows ∙ sym m.is)))

-- a run without a script whose program prints something is done
pub runs_are_done : RunsAreDone
unfolding points_of
runs_are_done words program input header h text bytes out asks none program_is input_is short small prints =
    let same = ap (λ (s : Option (List ℕ)). Some (Run (tally_run program input header s asks.by asks.cap))) none in
    subst (λ (c : Option Command). verdict (option_map ended c) h ≡ Done out) (sym (asks.is ∙ same))
    (run-done h program input text bytes out header asks.by asks.cap program_is input_is short small prints)

-- REFUSED

run-refused : (h : Held) (program input text bytes : List ℕ) (header : Bool) (by : RunBy) (cap : ℕ) (a : Accepted) (f : InFault)
    → h program ≡ Some text → h input ≡ Some bytes → length text ≤ most_program → length bytes ≤ most_input → compiled text ≡ Ok a
    → rows_of_file bytes (width (program_in a)) header true ≡ Err f
    → end_of (ended (Run (tally_run program input header None by cap))) h ≡ Refused (told_of f)
unfolding ended of_command of_gathered of_supplied of_script
run-refused h program input text bytes header by cap a f program_is input_is short small compiles fault =
    program-on h (Refused (told_of f)) program text (of_scripted_then input header at_last) a program_is short compiles
    (inputs-off h (Refused (told_of f)) input bytes (width (program_in a)) header (λ files. at_last (record { source = saw_source a; files = files })) f
    input_is small fault refl)

-- what is compiled of a text of which the input has a fault
fault-compiled : (text bytes : List ℕ) (header : Bool) (f : InFault) (m : HasFileFault text bytes header f)
    → compiled text ≡ Ok (record { units = m.units; read = m.read })
fault-compiled text bytes header f m = (means_what_it_has text (Ok (record { units = m.units; read = m.read }))).1 (m.is_text, m.accepted)

-- and one whose input has a fault is refused, and tells it
pub runs_tell_faults : RunsTellFaults
unfolding points_of
runs_tell_faults words program input header h text bytes f asks none program_is input_is short small m =
    let same = ap (λ (s : Option (List ℕ)). Some (Run (tally_run program input header s asks.by asks.cap))) none in
    let a : Accepted = record { units = m.units; read = m.read } in
    subst (λ (c : Option Command). verdict (option_map ended c) h ≡ Refused (told_of f)) (sym (asks.is ∙ same))
    (run-refused h program input text bytes header asks.by asks.cap a f program_is input_is short small (fault-compiled text bytes header f m) m.fault)
