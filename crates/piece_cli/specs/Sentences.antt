-- Which words are a sentence, and what they ask for.
use Rattle.std.specs.Prelude.{ℕ, List, [], ◌∷◌, Bool, Option, None, Some, option_map, codes, if◌then◌else◌}
use Rattle.std.specs.Str.{bytes_eq}
use Rattle.piece_cli.specs.Words.{size_of, input_of, keep_of, options_of}
use Rattle.piece_cli.specs.declared.command.Command.{Command}
use Rattle.piece_cli.specs.declared.command.Command.TheVariants as is
use Rattle.piece_cli.specs.declared.command.Keeping.{Keeping}
use Rattle.piece_cli.specs.declared.command.Keeping.TheVariants as keeping
use Rattle.piece_cli.specs.declared.command.Options.{Options}

-- What is asked for: a program is begun in a folder, over a file that is cut into pieces of so many records; or what is next in a folder is done; or what was
-- made there is printed. Something may be kept in a folder, or have been kept there.
pub data Asked : Type 0 where
  Begin : (folder : List ℕ) (size : ℕ) (program file : List ℕ) (header : Bool) (keep : Option (List ℕ)) → Asked
  Next : (folder : List ℕ) (keep : Option (List ℕ)) → Asked
  Print : (folder : List ℕ) → Asked

-- what a command of the code asks for
abbrev pub kept_by : Keeping → Option (List ℕ)
kept_by keeping.Nothing = None
kept_by (keeping.In folder) = Some folder.now

abbrev pub asked_options : Options → Bool × Option (List ℕ)
asked_options options = (options.header, kept_by options.keep)

abbrev pub asked_by : Command → Asked
asked_by (is.Begin folder size program file header keep) = Begin folder.now size program.now file.now header (kept_by keep)
asked_by (is.Next folder keep) = Next folder.now (kept_by keep)
asked_by (is.Print folder) = Print folder.now

-- all parts of a beginning are there
abbrev pub begun : List ℕ → Option ℕ → List ℕ → Option (List ℕ) → Option (Bool × Option (List ℕ)) → Option Asked
begun folder (Some size) program (Some file) (Some options) = Some (Begin folder size program file options.0 options.1)
begun folder size program file options = None

-- `DIR SIZE sawzall PROGRAM in=FILE`, and perhaps `-H` and `--keep FOLDER`
abbrev pub asked_begin : List (List ℕ) → Option Asked
asked_begin (folder ∷ size ∷ lang ∷ program ∷ input ∷ behind) =
    if bytes_eq lang (codes "sawzall") then begun folder (size_of size) program (input_of input) (options_of behind) else None
asked_begin words = None

-- `DIR`, and perhaps `--keep FOLDER`
abbrev pub asked_next : List (List ℕ) → Option Asked
asked_next (folder ∷ behind) = option_map (λ keep. Next folder keep) (keep_of behind)
asked_next words = None

-- `DIR`
abbrev pub asked_print : List (List ℕ) → Option Asked
asked_print (folder ∷ []) = Some (Print folder)
asked_print words = None

-- what the words ask for, if they are a sentence
abbrev pub asked : List (List ℕ) → Option Asked
asked [] = None
asked (word ∷ behind) =
    if bytes_eq word (codes "begin") then asked_begin behind
    else if bytes_eq word (codes "next") then asked_next behind
    else if bytes_eq word (codes "print") then asked_print behind
    else None

-- the folder that is named, and the one of what is kept, if there is one
abbrev pub folder_of : Asked → List ℕ
folder_of (Begin folder size program file header keep) = folder
folder_of (Next folder keep) = folder
folder_of (Print folder) = folder

abbrev pub keep_asked : Asked → Option (List ℕ)
keep_asked (Begin folder size program file header keep) = keep
keep_asked (Next folder keep) = keep
keep_asked (Print folder) = None
