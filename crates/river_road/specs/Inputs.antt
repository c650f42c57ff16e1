-- The inputs of a program: their names, the files that they are, and what is read of these.
use Rattle.std.specs.Prelude.{◌≡◌, ◌<◌, length, slice_index_or, ℕ, ℤ, List, [], ◌∷◌, map, not, nat_lt, if◌then◌else◌, Option, Some, None, Result, Ok, Err}
use Rattle.std.specs.List.{find}
use Rattle.river_base.specs.Name.{name_eq}
use Rattle.river_base.specs.declared.item.Item as item
use Rattle.river_base.specs.Instants.{at_instant, instants, spread}
use Rattle.river_base.specs.declared.kind.FlatType.TheVariants.{Rows, Stream, Relation}
use Rattle.river_base.specs.declared.kind.QueueType.{QueueType}
use Rattle.river_base.specs.declared.kind.QueueType.TheVariants.{Flat as FlatOf, Pack as PackOf}
use Rattle.kern_rows.specs.Even.{row_items}
use Rattle.csv_streams.specs.Rows.{rows_of_file}
use Rattle.csv_streams.specs.Timed.{Entry, timed_of}
use Rattle.csv_streams.specs.declared.fault.InFault.{InFault}
use Rattle.river_outside.specs.Order.{Order, Fetch}
use Rattle.river_outside.specs.Passes.{past}
use Rattle.river_plan.specs.declared.plan.Decl.{Decl}
use Rattle.river_plan.specs.Forms.{decl_names}
use Rattle.river_plan.specs.Faults.{type_width}
use Rattle.river_plan.specs.Kinds.{kind_of}
use Rattle.river_plan.specs.Names.{count}
use Rattle.csv_streams.specs.FaultWords.{in_words}
use Rattle.river_road.specs.Limits.{most_input}
use Rattle.river_road.specs.Text.{unknown_input, missing_input, large_input, input_refused}
use Rattle.river_road.specs.declared.content.FileContent.{FileContent}
use Rattle.river_road.specs.declared.content.FileContent.TheVariants.{Rows as Plain, Timed}
use Rattle.command_line.specs.declared.command.InWord.{InWord}
use Rattle.river_road.specs.declared.layout.Layout.{Layout}

-- ---- THE NAMES

abbrev pub names : List InWord → List (List ℕ)
names ins = map (λ w. w.name) ins

-- the first word whose name is no input of the program
abbrev pub unknown : List Decl → List InWord → Option InWord
unknown decls ins = find (λ w. not (nat_lt 0 (count w.name (decl_names decls)))) ins

-- the first input that no word names
abbrev pub missing : List Decl → List InWord → Option Decl
missing decls ins = find (λ d. not (nat_lt 0 (count d.name (names ins)))) decls

-- a name that is unknown refuses, and then one that is missing
abbrev pub first_told : Option InWord → Option Decl → Result (Unit {0}) (List ℕ)
first_told (Some w) missing = Err (unknown_input w.name)
first_told None (Some d) = Err (missing_input d.name)
first_told None None = Ok tt

unfoldable pub names_fit : List Decl → List InWord → Result (Unit {0}) (List ℕ)
names_fit decls ins = first_told (unknown decls ins) (missing decls ins)

-- ---- THE FILES

-- all files are fetched, in the order of the words
unfoldable pub fetch_each : List InWord → (List (List ℕ) → Order) → Order
fetch_each [] next = next []
fetch_each (w ∷ ins) next = Fetch w.file most_input (large_input w.name) (λ bytes. fetch_each ins (λ files. next (bytes ∷ files)))

-- what a reader gives for the file of an input, or what is told of the first record at fault
abbrev pub Reader : Type 0 → Type 0
Reader A = List ℕ → List ℕ → Result A InFault

abbrev pub or_told : {A : Type 0} → List ℕ → Result A InFault → Result A (List ℕ)
or_told name (Ok x) = Ok x
or_told name (Err fault) = Err (input_refused name (in_words fault))

abbrev pub file_read : {A : Type 0} → Reader A → InWord → List ℕ → Result A (List ℕ)
file_read reader w bytes = or_told w.name (reader w.name bytes)

-- what is read first is told first
abbrev pub with_first : {A : Type 0} → Result A (List ℕ) → Result (List A) (List ℕ) → Result (List A) (List ℕ)
with_first (Err text) later = Err text
with_first (Ok x) (Err text) = Err text
with_first (Ok x) (Ok later) = Ok (x ∷ later)

-- what is read of all files, in the order of the words, of which the first with a fault refuses
abbrev pub all_read : {A : Type 0} → Reader A → List InWord → List (List ℕ) → Result (List A) (List ℕ)
all_read reader [] files = Ok []
all_read reader (w ∷ ins) [] = Ok []
all_read reader (w ∷ ins) (bytes ∷ files) = with_first (file_read reader w bytes) (all_read reader ins files)

-- the names of the inputs are looked at, all files are fetched, all are read, and the whole is made of what was read
abbrev pub of_files : {A B : Type 0} → List Decl → List InWord → Reader A → (List A → B) → (B → Order) → Order
of_files decls ins reader make next =
    past (names_fit decls ins) (λ _. fetch_each ins (λ files. past (all_read reader ins files) (λ all. next (make all))))

-- ---- FILES OF ROWS

-- how many values the rows of this input have
abbrev pub width_named : List Decl → List ℕ → ℕ
width_named decls name = type_width (kind_of decls name)

abbrev pub read_as : {A : Type 0} → (A → FileContent) → Result A InFault → Result FileContent InFault
read_as content (Ok x) = Ok (content x)
read_as content (Err fault) = Err fault

-- an input has rows of its width, and those of a stream have timestamps
abbrev pub file_content : QueueType → Layout → List ℕ → Result FileContent InFault
file_content (FlatOf (Stream w)) layout bytes = read_as Timed (timed_of bytes w layout.header)
file_content (FlatOf (Rows w)) layout bytes = read_as Plain (rows_of_file bytes w layout.header layout.more)
file_content (FlatOf (Relation w)) layout bytes = read_as Plain (rows_of_file bytes w layout.header layout.more)
file_content (PackOf t) layout bytes = read_as Plain (rows_of_file bytes (type_width (PackOf t)) layout.header layout.more)

abbrev pub content_reader : List Decl → Layout → Reader FileContent
content_reader decls layout name bytes = file_content (kind_of decls name) layout bytes

-- what the words give to an input
abbrev pub content_named : List InWord → List FileContent → List ℕ → FileContent
content_named [] all name = Plain []
content_named (w ∷ ins) [] name = Plain []
content_named (w ∷ ins) (content ∷ all) name = if name_eq w.name name then content else content_named ins all name

-- no word has this name
pub record NamesNone (ins : List InWord) (name : List ℕ) : Type 0 where
  pub gives : (all : List FileContent) → length all ≡ length ins → content_named ins all name ≡ Plain []

-- the first word of this name stands at this place
pub record NamesPlace (ins : List InWord) (name : List ℕ) (place : ℕ) : Type 0 where
  pub within : place < length ins
  pub word : InWord
  pub word_is : word ≡ slice_index_or ins place word
  pub named : word.name ≡ name
  pub gives : (all : List FileContent) (d : FileContent) → length all ≡ length ins → content_named ins all name ≡ slice_index_or all place d

-- what each input has, in the order of the program's inputs
abbrev pub contents_in_order : List Decl → List InWord → List FileContent → List FileContent
contents_in_order decls ins all = map (content_named ins all) (decl_names decls)

unfoldable pub of_inputs : List Decl → List InWord → Layout → (List FileContent → Order) → Order
of_inputs decls ins layout next = of_files decls ins (content_reader decls layout) (contents_in_order decls ins) next

-- ---- THE ITEMS OF INPUTS

-- the rows of the files whose rows have timestamps
abbrev pub timed_files : List FileContent → List (List Entry)
timed_files [] = []
timed_files (Plain rows ∷ files) = timed_files files
timed_files (Timed rows ∷ files) = rows ∷ timed_files files

-- the instants of a run: the timestamps of all its files
abbrev pub instants_of : List FileContent → List ℤ
instants_of files = instants (timed_files files)

-- the items of an input: its rows, or a batch of its rows for each instant
abbrev pub items_at : List ℤ → FileContent → List item.Item
items_at ts (Plain rows) = row_items rows
items_at ts (Timed rows) = spread ts (at_instant rows)

abbrev pub all_items : List FileContent → List (List item.Item)
all_items files = map (items_at (instants_of files)) files
