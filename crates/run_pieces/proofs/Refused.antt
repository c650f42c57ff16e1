-- A call that was refused told a fault of its piece, and that is the whole's.
use Rattle.std.proofs.Common.{◌≡◌, ℕ, ℤ, true, List, ◌∷◌, ◌++◌, refl, sym, ap, ◌∙◌, subst}
use Rattle.std.specs.Prelude.{Option, Some, Result, Ok, Err}
use Rattle.std.specs.Io.KnownBytes.{append_known}
use Rattle.csv_cuts.specs.Cut.{AreCut}
use Rattle.csv_cuts.specs.Faults.{header_behind}
use Rattle.csv_streams.specs.Rows.{rows_of_file}
use Rattle.csv_streams.specs.declared.fault.InFault.{InFault}
use Rattle.river_outside.specs.Held.{Held}
use Rattle.river_outside.specs.Order.{IsVerdict, Verdict, Usage, Refused, Unread, Done, verdict}
use Rattle.river_outside.proofs.Told.{verdict-told}
use Rattle.saw_model.specs.Meaning.{width}
use Rattle.saw_front.specs.Meaning.{program_in}
use Rattle.saw_front.proofs.Fronts.{means_what_it_has}
use Rattle.river_pieces.specs.Refused.{HasFileFault}
use Rattle.river_pieces.proofs.Compiled.{compiled_runs_print}
use Rattle.river_pieces.proofs.Refused.{first_fault_is_the_wholes}
use Rattle.river_cli.specs.Answer.{WroteEnd}
use Rattle.river_cli.specs.Points.{points_of}
use Rattle.run_pieces.specs.Refused.{told_of, RefusalsAreFaults, GivesRefusal, FirstRefusalIsTheWholes}
use Rattle.run_pieces.proofs.Done.{runs_are_done, runs_tell_faults}
use Rattle.run_pieces.proofs.Ran.{same-taken}
use Rattle.run_pieces.proofs.Tool.{taken}
use Rattle.run_pieces.proofs.Whole.{all-printed}

-- THE RUN

done-not-refused : (v : Verdict) (out told : List ℕ) → v ≡ Done out → v ≡ Refused told → ⊥
done-not-refused (Done x) out told e g = cc g
done-not-refused (Refused x) out told e g = cc e
done-not-refused Usage out told e g = cc e
done-not-refused (Unread x) out told e g = cc e

one-refusal : (v : Verdict) (a b : List ℕ) → v ≡ Refused a → v ≡ Refused b → a ≡ b
one-refusal v a b e g = same a b (sym e ∙ g) where
  same : (a b : List ℕ) → Refused a ≡ Refused b → a ≡ b
  same a b e = cc e

-- a run of a compiled program is refused for the fault of its input that it tells
pub refusals_are_faults : RefusalsAreFaults
refusals_are_faults words program input header h text bytes told a asks none program_is input_is short small compiles refused =
    by (rows_of_file bytes (width (program_in a)) header true) refl
  where
    by : (r : Result (List (List ℤ)) InFault) → rows_of_file bytes (width (program_in a)) header true ≡ r
        → (f : InFault) × (told ≡ told_of f) × HasFileFault text bytes header f
    by (Ok rows) read =
        let prints = compiled_runs_print text bytes header a rows compiles read in
        absurd
        (done-not-refused (verdict (points_of words) h) _ told
        (runs_are_done words program input header h text bytes _ asks none program_is input_is short small prints) refused)
    by (Err f) read =
        let has = (means_what_it_has text (Ok a)).0 compiles in
        let m : HasFileFault text bytes header f = record { units = a.units; read = a.read; is_text = has.0; accepted = has.1; fault = read } in (
          f,
          one-refusal (verdict (points_of words) h) told (told_of f) refused
              (runs_tell_faults words program input header h text bytes f asks none program_is input_is short small m),
          m,
        )

-- THE CALL

-- a call that wrote the refusal of its points is such a one
pub gives_refusal : (words : List (List ℕ)) (held : Option Held) (old new : Option (List ℕ)) → WroteEnd (points_of words) held Refused old new
    → GivesRefusal words held old new
gives_refusal words held old new wrote program input text bytes before header h asks none held_is program_is input_is old_is =
    let end : WroteEnd (points_of words) (Some h) Refused (Some before) (Some (before ++ wrote.text)) =
    record {
      text = wrote.text;
      end = subst (λ (o : Option Held). IsVerdict (points_of words) o (Refused wrote.text)) held_is wrote.end;
      took = refl;
    } in (
      wrote.text,
      wrote.took ∙ ap (λ (o : Option (List ℕ)). append_known o wrote.text) old_is,
      record {
        words = words;
        program = program;
        input = input;
        asks = asks;
        plain = none;
        held = h;
        program_is = program_is;
        input_is = input_is;
        before = before;
        wrote = end;
      },
    )

-- THE WHOLE

-- the fault of a record that the first refused call tells is that of the whole file, with its number there
pub first_refusal_is_the_wholes : FirstRefusalIsTheWholes
first_refusal_is_the_wholes text bytes skip a before piece after outs told compiles short small took ran call =
    let wrote = call.wrote in
    let refused = verdict-told (points_of call.words) call.held (Refused wrote.text) wrote.end in
    let found =
    refusals_are_faults call.words call.program call.input (header_behind skip before) call.held text piece wrote.text a call.asks call.plain
    call.program_is call.input_is short small compiles refused in
    let cut = subst (λ (ps : List (List ℕ)). AreCut bytes skip ps) (taken (before ++ piece ∷ after) took.pieces took.took) took.cut in (
      found.0,
      sym (same-taken call.before told wrote.text wrote.took) ∙ found.1,
      λ of_record. first_fault_is_the_wholes text bytes skip before piece after outs found.0 cut (all-printed text skip before outs ran) found.2 of_record,
    )
