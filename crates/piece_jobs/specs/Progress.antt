-- How far the work in a folder is, as a text.
use Rattle.std.specs.Prelude.{◌≡◌, ⊤, ◌<◌, ◌^◌, ℤ, pos, Bool, true, false, List, [], ◌∷◌, Ok, ℕ}
use Rattle.csv_streams.specs.Outcome.{row_line}
use Rattle.csv_streams.specs.Rows.{rows_of_file}
use Rattle.piece_work.specs.declared.fault.WorkFault.{WorkFault}
use Rattle.piece_work.specs.declared.fault.WorkFault.TheVariants as why
use Rattle.piece_jobs.specs.declared.progress.Progress.{Progress}

-- 1 for yes, 0 for no
abbrev pub flag : Bool → ℤ
flag true = pos 1
flag false = pos 0

-- the number of jobs, whether there is a header, the try, whether something is kept, and how many records are
abbrev pub progress_row : Progress → List ℤ
progress_row p = pos p.jobs ∷ flag p.header ∷ pos p.turn ∷ flag p.kept ∷ pos p.before ∷ []

abbrev pub progress_text : Progress → List ℕ
progress_text p = row_line (progress_row p)

-- the text is a file of one row, which says so
abbrev pub SaysProgress : List ℕ → Progress → Type 0
SaysProgress text p = rows_of_file text 5 false false ≡ Ok (progress_row p ∷ [])

-- its numbers are counts of 32 bits, and that of records one of 63
abbrev pub HasCounts : Progress → Type 0
HasCounts p = (p.jobs < 2 ^ 32) × ((p.turn < 2 ^ 32) × (p.before < 2 ^ 63))

-- why a text says nothing: there is nothing that it says, or memory was wanting
abbrev pub WhyNoProgress : List ℕ → WorkFault → Type 0
WhyNoProgress text why.Other = (p : Progress) → HasCounts p → SaysProgress text p → ⊥
WhyNoProgress text why.NoMemory = ⊤
WhyNoProgress text _ = ⊥

-- What is written says what it was written for,
abbrev pub TextsSayProgress : Type 0
TextsSayProgress = (p : Progress) → HasCounts p → SaysProgress (progress_text p) p

-- and a text says one thing at most.
abbrev pub OneProgress : Type 0
OneProgress = (text : List ℕ) (p q : Progress) → SaysProgress text p → SaysProgress text q → p ≡ q
