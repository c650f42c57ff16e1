-- A run of `river` for a tally, and what it prints.
use Rattle.std.specs.Prelude.{◌≡◌, ◌++◌, ℕ, ◌<◌, ◌≤◌, Bool, true, false, List, [], ◌∷◌, length, codes, Option, None, Some}
use Rattle.command_line.specs.Sentences.{command_of}
use Rattle.command_line.specs.Words.{is_file}
use Rattle.command_line.specs.declared.command.Command.TheVariants.{Run}
use Rattle.command_line.specs.declared.command.Lang.TheVariants.{Sawzall}
use Rattle.command_line.specs.declared.command.RunBy.{RunBy}
use Rattle.command_line.specs.declared.command.RunWords.{RunWords}
use Rattle.river_outside.specs.Held.{Held}
use Rattle.river_outside.specs.Order.{verdict, Done}
use Rattle.river_road.specs.Limits.{most_program, most_input}
use Rattle.river_pieces.specs.Whole.{Prints}
use Rattle.river_cli.specs.Answer.{WroteEnd}
use Rattle.river_cli.specs.Points.{points_of}

-- THE WORDS

-- a run of the Sawzall program of a file, over the records of another file, without the counts of firings
abbrev pub tally_run : List ℕ → List ℕ → Bool → Option (List ℕ) → RunBy → ℕ → RunWords
tally_run program input header script by cap =
    record {
      lang = Sawzall;
      file = program;
      ins = record { name = codes "in"; file = input } ∷ [];
      script = script;
      by = by;
      cap = cap;
      header = header;
      counts = false;
    }

-- The words ask for such a run. Which script rewrites its plan, who runs it, and how much its queues hold, is free.
pub record AsksFor (words : List (List ℕ)) (program input : List ℕ) (header : Bool) : Type 0 where
  pub script : Option (List ℕ)
  pub by : RunBy
  pub cap : ℕ
  pub is : command_of words ≡ Some (Run (tally_run program input header script by cap))

-- the words that ask for one with nothing else, which the script `tools/pieces` gives: run sawzall PROGRAM in=INPUT, and -H behind it
abbrev pub header_words : Bool → List (List ℕ)
header_words true = codes "-H" ∷ []
header_words false = []

abbrev pub tally_words : List ℕ → List ℕ → Bool → List (List ℕ)
tally_words program input header = codes "run" ∷ codes "sawzall" ∷ program ∷ (codes "in=" ++ input) ∷ header_words header

-- They ask for it, where the files have names that may stand there.
abbrev pub WordsAsk : Type 0
WordsAsk =
    (program input : List ℕ) (header : Bool) → is_file program ≡ true → 0 < length input → AsksFor (tally_words program input header) program input header

-- and for no script
abbrev pub WordsAskForNoScript : Type 0
WordsAskForNoScript =
    (program input : List ℕ) (header : Bool) → is_file program ≡ true → 0 < length input
    → (asks : AsksFor (tally_words program input header) program input header) × (asks.script ≡ None)

-- Where such a run is done, over files that are told, its text is what a run on the bytes of its input prints.
abbrev pub RunsPrint : Type 0
RunsPrint =
    (words : List (List ℕ)) (program input : List ℕ) (header : Bool) (h : Held) (text bytes out : List ℕ)
    → AsksFor words program input header
    → h program ≡ Some text
    → h input ≡ Some bytes
    → verdict (points_of words) h ≡ Done out
    → Prints text bytes header out

-- And it is done, where there is no script, neither file has too many bytes, and a run prints something.
abbrev pub RunsAreDone : Type 0
RunsAreDone =
    (words : List (List ℕ)) (program input : List ℕ) (header : Bool) (h : Held) (text bytes out : List ℕ)
    (asks : AsksFor words program input header)
    → asks.script ≡ None
    → h program ≡ Some text
    → h input ≡ Some bytes
    → length text ≤ most_program
    → length bytes ≤ most_input
    → Prints text bytes header out
    → verdict (points_of words) h ≡ Done out

-- THE CALL

-- Such a call of `river`, over files that are told, of which these are the bytes of the program and of the input: as is promised of status
-- 0 its points end in this text, and its output took it behind what it had taken before, and no more.
pub record Ran (text bytes : List ℕ) (header : Bool) (out : List ℕ) : Type 0 where
  pub words : List (List ℕ)
  pub program : List ℕ
  pub input : List ℕ
  pub asks : AsksFor words program input header
  pub held : Held
  pub program_is : held program ≡ Some text
  pub input_is : held input ≡ Some bytes
  pub before : List ℕ
  pub wrote : WroteEnd (points_of words) (Some held) Done (Some before) (Some (before ++ out))

-- What it wrote is what a run on these bytes prints.
abbrev pub RanPrints : Type 0
RanPrints = (text bytes : List ℕ) (header : Bool) (out : List ℕ) → Ran text bytes header out → Prints text bytes header out

-- Where the files are told, and what the output takes, words that ask for such a run have had one; what the output took then is known.
abbrev pub GivesRun : List (List ℕ) → Option Held → Option (List ℕ) → Option (List ℕ) → Type 0
GivesRun words held old new =
    (program input text bytes before : List ℕ) (header : Bool) (h : Held)
    → AsksFor words program input header
    → held ≡ Some h
    → h program ≡ Some text
    → h input ≡ Some bytes
    → old ≡ Some before
    → (out : List ℕ) × (new ≡ Some (before ++ out)) × Ran text bytes header out
