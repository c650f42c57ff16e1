-- A call of `river` on a piece of a file that is refused, and what that says of the whole file.
use Rattle.std.specs.Prelude.{◌≡◌, ℕ, ◌≤◌, Bool, List, [], ◌∷◌, ◌++◌, length, codes, Option, None, Some, Ok}
use Rattle.csv_cuts.specs.Cut.{TookPieces}
use Rattle.csv_cuts.specs.Faults.{IsOfRecord, moved, records_of, header_behind}
use Rattle.csv_streams.specs.FaultWords.{in_words}
use Rattle.csv_streams.specs.declared.fault.InFault.{InFault}
use Rattle.river_outside.specs.Held.{Held}
use Rattle.river_outside.specs.Order.{verdict, Refused}
use Rattle.river_road.specs.Limits.{most_program, most_input}
use Rattle.river_road.specs.Text.{input_refused}
use Rattle.saw_front.specs.Meaning.{Accepted, compiled}
use Rattle.river_pieces.specs.Refused.{HasFileFault, HasFaultOfAll}
use Rattle.river_cli.specs.Answer.{WroteEnd}
use Rattle.river_cli.specs.Points.{points_of}
use Rattle.run_pieces.specs.Ran.{AsksFor}
use Rattle.run_pieces.specs.Whole.{AreRun}

-- THE RUN

-- what is told of a tally's input that has this fault: refused: input in: I2 7 1, say
abbrev pub told_of : InFault → List ℕ
told_of f = input_refused (codes "in") (in_words f)

-- A run without a script is refused where its input has a fault, and neither file has too many bytes. The fault is told.
abbrev pub RunsTellFaults : Type 0
RunsTellFaults =
    (words : List (List ℕ)) (program input : List ℕ) (header : Bool) (h : Held) (text bytes : List ℕ) (f : InFault)
    (asks : AsksFor words program input header)
    → asks.script ≡ None
    → h program ≡ Some text
    → h input ≡ Some bytes
    → length text ≤ most_program
    → length bytes ≤ most_input
    → HasFileFault text bytes header f
    → verdict (points_of words) h ≡ Refused (told_of f)

-- And where such a run of a program that is compiled is refused, it is for the fault of its input that is told.
abbrev pub RefusalsAreFaults : Type 0
RefusalsAreFaults =
    (words : List (List ℕ)) (program input : List ℕ) (header : Bool) (h : Held) (text bytes told : List ℕ) (a : Accepted)
    (asks : AsksFor words program input header)
    → asks.script ≡ None
    → h program ≡ Some text
    → h input ≡ Some bytes
    → length text ≤ most_program
    → length bytes ≤ most_input
    → compiled text ≡ Ok a
    → verdict (points_of words) h ≡ Refused told
    → (f : InFault) × (told ≡ told_of f) × HasFileFault text bytes header f

-- THE CALL

-- Such a call of `river`, over files that are told, of which these are the bytes of the program and of the input: as is promised of status
-- 1 its points end in this refusal, and its error output took it behind what it had taken before, and no more.
pub record WasRefused (text bytes : List ℕ) (header : Bool) (told : List ℕ) : Type 0 where
  pub words : List (List ℕ)
  pub program : List ℕ
  pub input : List ℕ
  pub asks : AsksFor words program input header
  pub plain : asks.script ≡ None
  pub held : Held
  pub program_is : held program ≡ Some text
  pub input_is : held input ≡ Some bytes
  pub before : List ℕ
  pub wrote : WroteEnd (points_of words) (Some held) Refused (Some before) (Some (before ++ told))

-- Where the files are told, and what the error output takes, words that ask for such a run have had one that was refused.
abbrev pub GivesRefusal : List (List ℕ) → Option Held → Option (List ℕ) → Option (List ℕ) → Type 0
GivesRefusal words held old new =
    (program input text bytes before : List ℕ) (header : Bool) (h : Held) (asks : AsksFor words program input header)
    → asks.script ≡ None
    → held ≡ Some h
    → h program ≡ Some text
    → h input ≡ Some bytes
    → old ≡ Some before
    → (told : List ℕ) × (new ≡ Some (before ++ told)) × WasRefused text bytes header told

-- THE WHOLE

-- The pieces that were taken of a file are run by calls of `river`, and the first that does not end with status 0 is refused. It tells
-- a fault of its piece. Where that is the fault of a record, and not that there are too many, the whole file has it, with the number of
-- the record in the whole: so many records stand before it as the pieces have that were run.
abbrev pub FirstRefusalIsTheWholes : Type 0
FirstRefusalIsTheWholes =
    (text bytes : List ℕ) (skip_first : Bool) (a : Accepted) (before : List (List ℕ)) (piece : List ℕ) (after outs : List (List ℕ)) (told : List ℕ)
    → compiled text ≡ Ok a
    → length text ≤ most_program
    → length piece ≤ most_input
    → TookPieces bytes skip_first (Some []) (Some (before ++ piece ∷ after))
    → AreRun text skip_first before outs
    → WasRefused text piece (header_behind skip_first before) told
    → (f : InFault) × (told ≡ told_of f) × (IsOfRecord f → HasFaultOfAll text bytes skip_first (moved (records_of before) f))
