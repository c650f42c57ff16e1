-- A run that is done.
use Rattle.std.proofs.Common.{◌≡◌, ℕ, ℤ, List, [], ◌∷◌, ◌++◌, Bool, true, false, refl, sym, ap, ◌∙◌, subst}
use Rattle.std.specs.Prelude.{codes, Option, None, Some, option_map, Result, Ok, Err}
use Rattle.std.specs.Io.KnownBytes.{append_known}
use Rattle.std.proofs.lemmas.List.{append-nil, append_cancel_left}
use Rattle.command_line.specs.declared.command.Command.{Command}
use Rattle.command_line.specs.declared.command.Command.TheVariants.{Run}
use Rattle.command_line.specs.declared.command.InWord.{InWord}
use Rattle.command_line.specs.declared.command.RunBy.{RunBy}
use Rattle.csv_streams.specs.Outcome.{tables_text}
use Rattle.csv_streams.specs.Rows.{rows_of_file}
use Rattle.csv_streams.specs.declared.fault.InFault.{InFault}
use Rattle.river_outside.specs.Held.{Held}
use Rattle.river_outside.specs.Order.{IsVerdict, Order, Ends, Done, verdict}
use Rattle.river_outside.specs.Passes.{past}
use Rattle.river_outside.proofs.Told.{verdict-told}
use Rattle.river_kernels.specs.Fits.{rows}
use Rattle.river_plan.specs.declared.plan.Decl.{Decl}
use Rattle.river_plan.specs.Forms.{PlanForm, table_names}
use Rattle.river_script.specs.Meaning.{rewritten}
use Rattle.river_script.specs.declared.fault.ScriptFault.{ScriptFault}
use Rattle.saw_model.specs.Meaning.{tables_in, width, program_tables}
use Rattle.saw_front.specs.Meaning.{Accepted, program_in, compiled}
use Rattle.saw_front.specs.Words.{saw_words}
use Rattle.saw_front.specs.declared.fault.SawFault.{SawFault}
use Rattle.river_road.specs.Inputs.{names_fit, fetch_each, or_told, with_first, all_read, read_as, content_reader, contents_in_order, of_inputs}
use Rattle.river_road.specs.Layouts.{layout_of}
use Rattle.river_road.specs.Limits.{most_program, most_script, most_input}
use Rattle.river_road.specs.Points.{of_program, with_plan, of_script, of_supplied, of_scripted, of_gathered}
use Rattle.river_road.specs.Source.{SourceProgram, source_or_refused, printed}
use Rattle.river_road.specs.Supplied.{Supplied, printed_for}
use Rattle.river_road.specs.Text.{large_program, large_script, large_input}
use Rattle.river_road.specs.declared.content.FileContent.{FileContent}
use Rattle.river_road.specs.declared.content.FileContent.TheVariants.{Rows as Plain}
use Rattle.river_langs.specs.Sources.{saw_source, saw_in}
use Rattle.river_pieces.specs.Whole.{Prints}
use Rattle.river_pieces.proofs.Compiled.{compiled_runs_print}
use Rattle.river_cli.specs.Answer.{WroteEnd}
use Rattle.river_cli.specs.Points.{of_command, ended, points_of}
use Rattle.run_pieces.specs.Ran.{tally_run, RunsPrint, RanPrints, GivesRun}
use Rattle.run_pieces.proofs.Found.{IsDone, fetch-done, fetched-done, past-done}

-- ---- WHAT WAS FOUND

-- a program that was made of a text is one that was compiled of it
source-found : (found : Result Accepted SawFault) (s : SourceProgram) → source_or_refused saw_source saw_words found ≡ Ok s
    → (a : Accepted) × (found ≡ Ok a) × (saw_source a ≡ s)
source-found (Ok a) s e = (a, refl, cc e)
source-found (Err fault) s e = cc e

-- a script makes another plan, and nothing else
plan-found : (source later : SourceProgram) (r : Result PlanForm ScriptFault) → with_plan source r ≡ Ok later
    → (plan : PlanForm) × (record source { plan = plan } ≡ later)
plan-found source later (Ok plan) e = (plan, cc e)
plan-found source later (Err fault) e = cc e

-- what was read of the one file are its rows
rows-found : (r : Result (List (List ℤ)) InFault) (all : List FileContent) → with_first (or_told (codes "in") (read_as Plain r)) (Ok []) ≡ Ok all
    → (rows : List (List ℤ)) × (r ≡ Ok rows) × (Plain rows ∷ [] ≡ all)
rows-found (Ok rows) all e = (rows, refl, cc e)
rows-found (Err fault) all e = cc e

-- ---- THE POINTS

-- the one input, and the word that gives its file
abbrev pub one_input : ℕ → List Decl
one_input w = record { name = codes "in"; kind = rows w } ∷ []

-- the word that asks for the one input of a tally
abbrev pub one_word : List ℕ → List InWord
one_word file = record { name = codes "in"; file = file } ∷ []

module _ (h : Held) (out : List ℕ) where
  -- the program was compiled
  program-done : (file text : List ℕ) (next : SourceProgram → Order) → h file ≡ Some text → IsDone h out (of_program saw_in file next)
      → (a : Accepted) × (compiled text ≡ Ok a) × IsDone h out (next (saw_source a))
  unfolding of_program
  program-done file text next is done =
      let later = fetched-done h out file most_program large_program (λ t. past (saw_in t) next) text is done in
      let found = past-done h out (saw_in text) next later in
      let made = source-found (compiled text) found.0 found.1 in
      (made.0, made.1, subst (λ (s : SourceProgram). IsDone h out (next s)) (sym made.2) found.2)

  -- its plan may be another
  script-done : (script : Option (List ℕ)) (source : SourceProgram) (next : SourceProgram → Order) → IsDone h out (of_script script source next)
      → (plan : PlanForm) × IsDone h out (next (record source { plan = plan }))
  unfolding of_script
  script-done None source next done = (source.plan, done)
  script-done (Some file) source next done =
      let told = fetch-done h out file most_script large_script (λ text. past (with_plan source (rewritten source.plan text)) next) done in
      let found = past-done h out (with_plan source (rewritten source.plan told.0)) next told.2 in
      let made = plan-found source found.0 (rewritten source.plan told.0) found.1 in
      (made.0, subst (λ (s : SourceProgram). IsDone h out (next s)) (sym made.1) found.2)

  -- the rows of its input were read
  inputs-done : (file bytes : List ℕ) (w : ℕ) (header : Bool) (next : List FileContent → Order) → h file ≡ Some bytes
      → IsDone h out (of_inputs (one_input w) (one_word file) (layout_of true header) next)
      → (rows : List (List ℤ)) × (rows_of_file bytes w header true ≡ Ok rows) × IsDone h out (next (Plain rows ∷ []))
  unfolding of_inputs fetch_each
  inputs-done file bytes w header next is done =
      let reader = content_reader (one_input w) (layout_of true header) in
      let then : List FileContent → Order = λ all. next (contents_in_order (one_input w) (one_word file) all) in
      let read : List (List ℕ) → Order = λ files. past (all_read reader (one_word file) files) then in
      let named = past-done h out (names_fit (one_input w) (one_word file)) (λ _. fetch_each (one_word file) read) done in
      let later = fetched-done h out file most_input (large_input (codes "in")) (λ b. read (b ∷ [])) bytes is named.2 in
      let found = past-done h out (all_read reader (one_word file) (bytes ∷ [])) then later in
      let made = rows-found (rows_of_file bytes w header true) found.0 found.1 in
      (made.0, made.1, subst (λ (all : List FileContent). IsDone h out (then all)) (sym made.2) found.2)

-- ---- THE RUN

-- its tables alone are printed
pub tables-printed : (a : Accepted) (plan : PlanForm) (rows : List (List ℤ))
    → printed (record (saw_source a) { plan = plan }) false (Plain rows ∷ [])
    ≡ tables_text (table_names (tables_in (program_in a))) (program_tables (program_in a) rows)
tables-printed a plan rows = append-nil (tables_text (table_names (tables_in (program_in a))) (program_tables (program_in a) rows))

run-prints : (h : Held) (program input text bytes out : List ℕ) (header : Bool) (script : Option (List ℕ)) (by : RunBy) (cap : ℕ)
    → h program ≡ Some text → h input ≡ Some bytes → IsDone h out (ended (Run (tally_run program input header script by cap)))
    → Prints text bytes header out
unfolding ended of_command of_gathered of_supplied
run-prints h program input text bytes out header script by cap program_is input_is done =
    let last : Supplied → Order = λ s. Ends (Done (printed_for false s)) in
    let a = program-done h out program text (of_scripted_then last) program_is done in
    let s = script-done h out script (saw_source a.0) (λ later. of_supplied (one_word input) (layout_of true header) later last) a.2 in
    let i =
    inputs-done h out input bytes (width (program_in a.0)) header
    (λ files. last (record { source = record (saw_source a.0) { plan = s.0 }; files = files })) input_is s.1 in
    let says : tables_text (table_names (tables_in (program_in a.0))) (program_tables (program_in a.0) i.0) ≡ out =
    cc (tables-printed a.0 s.0 i.0, i.2) in
    subst (λ (o : List ℕ). Prints text bytes header o) says (compiled_runs_print text bytes header a.0 i.0 a.1 i.1)
  where
    of_scripted_then : (Supplied → Order) → SourceProgram → Order
    of_scripted_then last source = of_scripted script (one_word input) (layout_of true header) source last

-- where a run is done, its text is what a run on the bytes of its input prints
pub runs_print : RunsPrint
unfolding points_of
runs_print words program input header h text bytes out asks program_is input_is done =
    run-prints h program input text bytes out header asks.script asks.by asks.cap program_is input_is
    (subst (λ (c : Option Command). verdict (option_map ended c) h ≡ Done out) asks.is done)

-- ---- THE CALL

-- what was taken behind the same is the same
pub same-taken : (before a b : List ℕ) → ◌≡◌ {A = Option (List ℕ)} (Some (before ++ a)) (Some (before ++ b)) → b ≡ a
same-taken before a b e =
    let f : before ++ a ≡ before ++ b = cc e in
    sym (append_cancel_left before a b f)

-- what a call wrote that ended with status 0 is what a run on these bytes prints
pub ran_prints : RanPrints
ran_prints text bytes header out ran =
    let wrote = ran.wrote in
    let done = verdict-told (points_of ran.words) ran.held (Done wrote.text) wrote.end in
    subst (λ (o : List ℕ). Prints text bytes header o) (same-taken ran.before out wrote.text wrote.took)
    (runs_print ran.words ran.program ran.input header ran.held text bytes wrote.text ran.asks ran.program_is ran.input_is done)

-- a call that wrote the end of its points is such a run
pub gives_run : (words : List (List ℕ)) (held : Option Held) (old new : Option (List ℕ)) → WroteEnd (points_of words) held Done old new
    → GivesRun words held old new
gives_run words held old new wrote program input text bytes before header h asks held_is program_is input_is old_is =
    let end : WroteEnd (points_of words) (Some h) Done (Some before) (Some (before ++ wrote.text)) =
    record {
      text = wrote.text;
      end = subst (λ (o : Option Held). IsVerdict (points_of words) o (Done wrote.text)) held_is wrote.end;
      took = refl;
    } in (
      wrote.text,
      wrote.took ∙ ap (λ (o : Option (List ℕ)). append_known o wrote.text) old_is,
      record {
        words = words;
        program = program;
        input = input;
        asks = asks;
        held = h;
        program_is = program_is;
        input_is = input_is;
        before = before;
        wrote = end;
      },
    )
