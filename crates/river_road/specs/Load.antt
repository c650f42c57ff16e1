-- `load N`: the program that it runs, and the records that are made for it.
use Rattle.std.specs.Prelude.{ℕ, zero, suc, ℤ, pos, ◌/◌, ◌%◌, ◌==◌, List, [], ◌∷◌, ◌++◌, Bool, false, Result, Ok, Err, codes, if◌then◌else◌}
use Rattle.river_base.specs.declared.kind.FlatType.TheVariants.{Rows, Stream, Relation}
use Rattle.river_base.specs.declared.kind.QueueType.{QueueType}
use Rattle.river_base.specs.declared.kind.QueueType.TheVariants.{Flat as FlatOf, Pack as PackOf}
use Rattle.river_plan.specs.declared.plan.Decl.{Decl}
use Rattle.river_road.specs.Text.{missing_input}
use Rattle.river_road.specs.declared.content.FileContent.{FileContent}
use Rattle.river_road.specs.declared.content.FileContent.TheVariants.{Rows as Plain}

-- the program, in Sawzall: how many records there are, the sum of second fields for each first one, and the first fields that stand
-- beside the two greatest second ones
unfoldable pub load_program : List ℕ
load_program =
    codes "count: table sum of int;\ntotal: table sum[k: int] of v: int;\ntop: table maximum(2) of v: int weight w: int;\n"
    ++ codes "emit count <- 1;\nemit total[input[0]] <- input[1];\nemit top <- input[0] weight input[1];\n"

-- its script: one operator makes all tables, and is split in four
unfoldable pub load_script : List ℕ
load_script = codes "fuse count@q;\nfuse total@q;\nfuse top@q;\nfission map 4;\n"

-- record k has the last digit of k, and the number that stands before this digit
abbrev pub load_record : ℕ → List ℤ
load_record k = pos (k % 10) ∷ pos (k / 10) ∷ []

-- records 1 to n
unfoldable pub load_records : ℕ → List (List ℤ)
load_records zero = []
load_records (suc n) = load_records n ++ load_record (suc n) ∷ []

abbrev pub is_of_pairs : QueueType → Bool
is_of_pairs (FlatOf (Rows w)) = w == 2
is_of_pairs (FlatOf (Stream w)) = false
is_of_pairs (FlatOf (Relation w)) = false
is_of_pairs (PackOf t) = false

-- there is one input, of rows of two values
abbrev pub takes_pairs : List Decl → Bool
takes_pairs (d ∷ []) = is_of_pairs d.kind
takes_pairs decls = false

-- the records are what the one input of a program has; of another program it is told that it lacks this input
abbrev pub load_files : ℕ → List Decl → Result (List FileContent) (List ℕ)
load_files n decls = if takes_pairs decls then Ok (Plain (load_records n) ∷ []) else Err (missing_input (codes "in"))
