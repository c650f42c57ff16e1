-- Calls of `river` that run a program of the StreamIt language, and what they print.
use Rattle.std.specs.Prelude.{◌≡◌, ⊤, ◌++◌, ℕ, ◌*◌, ◌≤◌, Bool, false, List, [], ◌∷◌, drop, codes, Option, Some, Ok}
use Rattle.command_line.specs.Sentences.{command_of}
use Rattle.command_line.specs.declared.command.Command.TheVariants.{Run}
use Rattle.command_line.specs.declared.command.Lang.TheVariants.{Streamit}
use Rattle.command_line.specs.declared.command.RunBy.{RunBy}
use Rattle.command_line.specs.declared.command.RunWords.{RunWords}
use Rattle.csv_streams.specs.Records.{csv_records}
use Rattle.csv_streams.specs.Rows.{headers}
use Rattle.river_outside.specs.Held.{Held}
use Rattle.river_outside.specs.Order.{verdict, Done}
use Rattle.river_cli.specs.Answer.{WroteEnd}
use Rattle.river_cli.specs.Points.{points_of}
use Rattle.streamit_model.specs.Meaning.{look}
use Rattle.streamit_model.specs.Plan.{plan_of}
use Rattle.streamit_front.specs.Meaning.{Accepted, compiled}
use Rattle.stream_periods.specs.Pieces.{AreLong}
use Rattle.stream_periods.specs.Texts.{text_of_pieces}
use Rattle.stream_periods.specs.Walk.{Known, Queues, walk, at_input}
use Rattle.stream_pieces.specs.Files.{StreamMeans, StreamPrints, AreSlices}

-- a run of the StreamIt program of a file, over the records of another file, without the counts of firings
abbrev pub stream_run : List ℕ → List ℕ → Bool → Option (List ℕ) → RunBy → ℕ → RunWords
stream_run program input header script by cap =
    record {
      lang = Streamit;
      file = program;
      ins = record { name = codes "in"; file = input } ∷ [];
      script = script;
      by = by;
      cap = cap;
      header = header;
      counts = false;
    }

-- The words ask for such a run. Which script rewrites its plan, who runs it, and how much its queues hold, is free.
pub record AsksForStream (words : List (List ℕ)) (program input : List ℕ) (header : Bool) : Type 0 where
  pub script : Option (List ℕ)
  pub by : RunBy
  pub cap : ℕ
  pub is : command_of words ≡ Some (Run (stream_run program input header script by cap))

-- Where such a run is done, over files that are told, its text is what a run on the bytes of its input prints.
abbrev pub StreamRunsPrint : Type 0
StreamRunsPrint =
    (words : List (List ℕ)) (program input : List ℕ) (header : Bool) (h : Held) (text bytes out : List ℕ)
    → AsksForStream words program input header
    → h program ≡ Some text
    → h input ≡ Some bytes
    → verdict (points_of words) h ≡ Done out
    → StreamPrints text bytes header out

-- Such a call of `river`, over files that are told, that ended with status 0: its points end in this text, and its output took it behind
-- what it had taken before, and no more.
pub record StreamRan (text bytes : List ℕ) (header : Bool) (out : List ℕ) : Type 0 where
  pub words : List (List ℕ)
  pub program : List ℕ
  pub input : List ℕ
  pub asks : AsksForStream words program input header
  pub held : Held
  pub program_is : held program ≡ Some text
  pub input_is : held input ≡ Some bytes
  pub before : List ℕ
  pub wrote : WroteEnd (points_of words) (Some held) Done (Some before) (Some (before ++ out))

-- for each piece a call ran the program on it
abbrev pub AreStreamRuns : List ℕ → List (List ℕ) → List (List ℕ) → Type 0
AreStreamRuns text [] [] = ⊤
AreStreamRuns text [] (o ∷ os) = ⊥
AreStreamRuns text (x ∷ xs) [] = ⊥
AreStreamRuns text (x ∷ xs) (o ∷ os) = StreamRan text x false o × AreStreamRuns text xs os

-- A file is cut into pieces that overlap, and a call of `river` runs the program on each. The lines that the calls wrote, put together, are
-- what the program means for the whole file. The period is reckoned on the plan of the program, operator by operator.
abbrev pub RiverStreamsByPlan : Type 0
RiverStreamsByPlan =
    (text bytes : List ℕ) (skip_first : Bool) (a : Accepted) (known : Queues) (k : Known) (early : ℕ) (ks : List ℕ) (pieces outs : List (List ℕ))
    → compiled text ≡ Ok a
    → walk (plan_of a.stream).ops (at_input (codes "in")) ≡ Ok known
    → look known (codes "out") ≡ Some k
    → k.fades ≤ early * k.period.gives
    → AreSlices k.period early ks (drop (headers skip_first) (csv_records bytes)) pieces
    → AreLong k.period early ks (drop (headers skip_first) (csv_records bytes))
    → AreStreamRuns text pieces outs
    → StreamMeans text bytes skip_first (text_of_pieces k.period early ks outs)
