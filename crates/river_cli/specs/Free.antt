-- What a free program prints where it is done.
use Rattle.std.specs.Prelude.{◌≡◌, ℕ, List, Option, Some, IfSome, Ok, false}
use Rattle.command_line.specs.declared.command.FreeWords.{FreeWords}
use Rattle.free_front.specs.Meaning.{program_in}
use Rattle.free_model.specs.Forms.{FreeForm}
use Rattle.free_model.specs.Valid.{IsFree}
use Rattle.free_runs.specs.Journals.{PrintsJournal}
use Rattle.free_runs.specs.Texts.{picks_of}
use Rattle.river_outside.specs.Held.{Held}
use Rattle.river_outside.specs.Order.{Order, Comes}
use Rattle.river_road.specs.Inputs.{of_inputs, all_items}
use Rattle.river_road.specs.Layouts.{layout_of}
use Rattle.river_road.specs.declared.content.FileContent.{FileContent}
use Rattle.river_cli.specs.Answer.{TookText}

-- The program's file is held, and its text means a valid program; the files of its inputs are held and were read; and the text is that of the
-- program's journal on their rows
pub record RanFree (w : FreeWords) (held : Option Held) (text : List ℕ) : Type 0 where
  pub source : List ℕ
  pub program : FreeForm
  pub files : List FileContent
  pub source_is : IfSome held (λ h. h w.file ≡ Some source)
  pub program_is : program_in source ≡ Ok program
  pub valid : IsFree program
  pub read : (next : List FileContent → Order) → Comes (of_inputs program.inputs w.ins (layout_of false w.header) next) held (next files)
  pub prints : PrintsJournal program w.workers (picks_of w.start) (all_items files) text

-- and a sink took this text and no more
pub record WroteJournal (w : FreeWords) (held : Option Held) (old new : Option (List ℕ)) : Type 0 where
  pub text : List ℕ
  pub ran : RanFree w held text
  pub took : TookText text old new
