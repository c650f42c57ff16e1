-- A run that is done.
use Rattle.std.proofs.Common.{◌≡◌, ℕ, ℤ, List, [], ◌∷◌, Bool, false, refl, sym, ◌∙◌, subst}
use Rattle.std.specs.Prelude.{codes, Option, None, Some, option_map, Result, Ok, Err}
use Rattle.std.proofs.lemmas.List.{append-nil}
use Rattle.command_line.specs.declared.command.Command.{Command}
use Rattle.command_line.specs.declared.command.Command.TheVariants.{Run}
use Rattle.command_line.specs.declared.command.RunBy.{RunBy}
use Rattle.csv_streams.specs.Outcome.{outputs_text}
use Rattle.csv_streams.proofs.WrittenRows.{read_rows-written}
use Rattle.csv_streams.specs.Rows.{rows_of_file}
use Rattle.csv_streams.specs.declared.fault.InFault.{InFault}
use Rattle.river_outside.specs.Held.{Held}
use Rattle.river_outside.specs.Order.{Order, Ends, Done, verdict}
use Rattle.river_outside.specs.Passes.{past}
use Rattle.river_outside.proofs.Told.{verdict-told}
use Rattle.river_kernels.specs.Fits.{rows}
use Rattle.river_plan.specs.Forms.{PlanForm}
use Rattle.river_script.specs.Meaning.{rewritten}
use Rattle.river_script.specs.declared.fault.ScriptFault.{ScriptFault}
use Rattle.streamit_model.specs.Meaning.{program_outputs}
use Rattle.streamit_front.specs.Meaning.{Accepted, compiled}
use Rattle.streamit_front.specs.Words.{streamit_words}
use Rattle.streamit_front.specs.declared.fault.StreamitFault.{StreamitFault}
use Rattle.river_road.specs.Inputs.{names_fit, fetch_each, or_told, with_first, all_read, read_as, content_reader, contents_in_order, of_inputs}
use Rattle.river_road.specs.Layouts.{layout_of}
use Rattle.river_road.specs.Limits.{most_program, most_script, most_input}
use Rattle.river_road.specs.Points.{of_program, with_plan, of_script, of_supplied, of_scripted, of_gathered}
use Rattle.river_road.specs.Source.{SourceProgram, source_or_refused, printed}
use Rattle.river_road.specs.Supplied.{Supplied, printed_for}
use Rattle.river_road.specs.Text.{large_program, large_script, large_input}
use Rattle.river_road.specs.declared.content.FileContent.{FileContent}
use Rattle.river_road.specs.declared.content.FileContent.TheVariants.{Rows as Plain}
use Rattle.river_langs.specs.Sources.{first_of_rows, streamit_source, streamit_in}
use Rattle.stream_periods.specs.Texts.{printed_values}
use Rattle.stream_periods.proofs.Texts.{printed_values_are}
use Rattle.stream_pieces.specs.Files.{StreamPrints, AreStreamed}
use Rattle.stream_pieces.proofs.ByPlan.{stream_pieces_by_plan}
use Rattle.river_cli.specs.Points.{of_command, ended, points_of}
use Rattle.run_stream_pieces.specs.Ran.{stream_run, StreamRunsPrint, StreamRan, AreStreamRuns, RiverStreamsByPlan}
use Rattle.run_pieces.proofs.Found.{IsDone, fetch-done, fetched-done, past-done}
use Rattle.run_pieces.proofs.Ran.{one_input, one_word, same-taken}

-- ---- WHAT WAS FOUND

-- a program that was made of a text is one that was compiled of it
source-found : (found : Result Accepted StreamitFault) (s : SourceProgram) → source_or_refused streamit_source streamit_words found ≡ Ok s
    → (a : Accepted) × (found ≡ Ok a) × (streamit_source a ≡ s)
source-found (Ok a) s e = (a, refl, cc e)
source-found (Err fault) s e = cc e

-- a script makes another plan, and nothing else
plan-found : (source later : SourceProgram) (r : Result PlanForm ScriptFault) → with_plan source r ≡ Ok later
    → (plan : PlanForm) × (record source { plan = plan } ≡ later)
plan-found source later (Ok plan) e = (plan, cc e)
plan-found source later (Err fault) e = cc e

-- what was read of the one file are its rows
rows-found : (r : Result (List (List ℤ)) InFault) (all : List FileContent) → with_first (or_told (codes "in") (read_as Plain r)) (Ok []) ≡ Ok all
    → (rows : List (List ℤ)) × (r ≡ Ok rows) × (Plain rows ∷ [] ≡ all)
rows-found (Ok rows) all e = (rows, refl, cc e)
rows-found (Err fault) all e = cc e

-- ---- THE POINTS

module _ (h : Held) (out : List ℕ) where
  -- the program was compiled
  program-done : (file text : List ℕ) (next : SourceProgram → Order) → h file ≡ Some text → IsDone h out (of_program streamit_in file next)
      → (a : Accepted) × (compiled text ≡ Ok a) × IsDone h out (next (streamit_source a))
  unfolding of_program
  program-done file text next is done =
      let later = fetched-done h out file most_program large_program (λ t. past (streamit_in t) next) text is done in
      let found = past-done h out (streamit_in text) next later in
      let made = source-found (compiled text) found.0 found.1 in
      (made.0, made.1, subst (λ (s : SourceProgram). IsDone h out (next s)) (sym made.2) found.2)

  -- its plan may be another
  script-done : (script : Option (List ℕ)) (source : SourceProgram) (next : SourceProgram → Order) → IsDone h out (of_script script source next)
      → (plan : PlanForm) × IsDone h out (next (record source { plan = plan }))
  unfolding of_script
  script-done None source next done = (source.plan, done)
  script-done (Some file) source next done =
      let told = fetch-done h out file most_script large_script (λ text. past (with_plan source (rewritten source.plan text)) next) done in
      let found = past-done h out (with_plan source (rewritten source.plan told.0)) next told.2 in
      let made = plan-found source found.0 (rewritten source.plan told.0) found.1 in
      (made.0, subst (λ (s : SourceProgram). IsDone h out (next s)) (sym made.1) found.2)

  -- the rows of its input were read
  inputs-done : (file bytes : List ℕ) (w : ℕ) (header : Bool) (next : List FileContent → Order) → h file ≡ Some bytes
      → IsDone h out (of_inputs (one_input w) (one_word file) (layout_of false header) next)
      → (rows : List (List ℤ)) × (rows_of_file bytes w header false ≡ Ok rows) × IsDone h out (next (Plain rows ∷ []))
  unfolding of_inputs fetch_each
  inputs-done file bytes w header next is done =
      let reader = content_reader (one_input w) (layout_of false header) in
      let then : List FileContent → Order = λ all. next (contents_in_order (one_input w) (one_word file) all) in
      let read : List (List ℕ) → Order = λ files. past (all_read reader (one_word file) files) then in
      let named = past-done h out (names_fit (one_input w) (one_word file)) (λ _. fetch_each (one_word file) read) done in
      let later = fetched-done h out file most_input (large_input (codes "in")) (λ b. read (b ∷ [])) bytes is named.2 in
      let found = past-done h out (all_read reader (one_word file) (bytes ∷ [])) then later in
      let made = rows-found (rows_of_file bytes w header false) found.0 found.1 in
      (made.0, made.1, subst (λ (all : List FileContent). IsDone h out (then all)) (sym made.2) found.2)

-- ---- THE RUN

-- its values alone are printed
pub values-printed : (a : Accepted) (plan : PlanForm) (rows : List (List ℤ))
    → printed (record (streamit_source a) { plan = plan }) false (Plain rows ∷ []) ≡ printed_values (program_outputs a.program (first_of_rows rows))
values-printed a plan rows =
    append-nil (outputs_text (codes "out" ∷ []) (((streamit_source a).means (Plain rows ∷ [])).outs))
    ∙ append-nil _
    ∙ printed_values_are (program_outputs a.program (first_of_rows rows))

run-prints : (h : Held) (program input text bytes out : List ℕ) (header : Bool) (script : Option (List ℕ)) (by : RunBy) (cap : ℕ)
    → h program ≡ Some text → h input ≡ Some bytes → IsDone h out (ended (Run (stream_run program input header script by cap)))
    → StreamPrints text bytes header out
unfolding ended of_command of_gathered of_supplied
run-prints h program input text bytes out header script by cap program_is input_is done =
    let last : Supplied → Order = λ s. Ends (Done (printed_for false s)) in
    let a = program-done h out program text (of_scripted_then last) program_is done in
    let s = script-done h out script (streamit_source a.0) (λ later. of_supplied (one_word input) (layout_of false header) later last) a.2 in
    let i =
    inputs-done h out input bytes 1 header
    (λ files. last (record { source = record (streamit_source a.0) { plan = s.0 }; files = files })) input_is s.1 in
    let says : printed_values (program_outputs a.0.program (first_of_rows i.0)) ≡ out =
    cc (values-printed a.0 s.0 i.0, i.2) in
    let file = read_rows-written bytes 1 header false i.0 i.1 in
    record {
      means = record { a = a.0; compiles = a.1; rows = i.0; written = file.written; is = sym says };
      few = file.few;
    }
  where
    of_scripted_then : (Supplied → Order) → SourceProgram → Order
    of_scripted_then last source = of_scripted script (one_word input) (layout_of false header) source last

-- where a run is done, its text is what a run on the bytes of its input prints
pub stream_runs_print : StreamRunsPrint
unfolding points_of
stream_runs_print words program input header h text bytes out asks program_is input_is done =
    run-prints h program input text bytes out header asks.script asks.by asks.cap program_is input_is
    (subst (λ (c : Option Command). verdict (option_map ended c) h ≡ Done out) asks.is done)

-- ---- THE CALL

-- what a call wrote that ended with status 0 is what a run on these bytes prints
ran_prints : (text bytes : List ℕ) (header : Bool) (out : List ℕ) → StreamRan text bytes header out → StreamPrints text bytes header out
ran_prints text bytes header out ran =
    let wrote = ran.wrote in
    let done = verdict-told (points_of ran.words) ran.held (Done wrote.text) wrote.end in
    subst (λ (o : List ℕ). StreamPrints text bytes header o) (same-taken ran.before out wrote.text wrote.took)
    (stream_runs_print ran.words ran.program ran.input header ran.held text bytes wrote.text ran.asks ran.program_is ran.input_is done)

-- so it is of each piece
all_printed : (text : List ℕ) (pieces outs : List (List ℕ)) → AreStreamRuns text pieces outs → AreStreamed text pieces outs
all_printed text [] [] h = h
all_printed text [] (o ∷ os) h = absurd h
all_printed text (x ∷ xs) [] h = absurd h
all_printed text (x ∷ xs) (o ∷ os) h = (ran_prints text x false o h.0, all_printed text xs os h.1)

-- what the calls wrote, put together, is what the program means for the whole file
pub river_streams_by_plan : RiverStreamsByPlan
river_streams_by_plan text bytes skip a known k early ks pieces outs e walked found soon slices long ran =
    stream_pieces_by_plan text bytes skip a known k early ks pieces outs e walked found soon slices long (all_printed text pieces outs ran)
