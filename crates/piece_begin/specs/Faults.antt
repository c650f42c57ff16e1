-- Why a program did not begin to be run in pieces.
use Rattle.std.specs.Prelude.{⊤, ℕ, ◌⊎◌, List, Option}
use Rattle.river_outside.specs.Held.{Held}
use Rattle.piece_files.specs.Held.{HeldFiles}
use Rattle.piece_keep.specs.Fed.{WhyUnfed}
use Rattle.piece_keep.specs.Unseen.{WhyNotFound}
use Rattle.piece_work.specs.Cutting.{WhyNotCut}
use Rattle.piece_work.specs.Faults.{WhyUnread}
use Rattle.piece_work.specs.declared.fault.WorkFault.{WorkFault}
use Rattle.piece_work.specs.declared.fault.WorkFault.TheVariants as why

-- how many bytes of a program are read at most: 64 MiB
abbrev pub most_program : ℕ
most_program = 67108864

-- why what was to be put was not: the folder's count of faults rose
abbrev pub WhyUnput : Type 0 → WorkFault → Type 0
WhyUnput lost why.Unwritten = lost
WhyUnput lost why.NoMemory = ⊤
WhyUnput lost _ = ⊥

-- The text of the program is not read; or the file is not cut, of which no piece is to have more than `most` bytes; or what was to be put was not. `rose`
-- says that the shelf's count of faults rose, `lost` that the folder's did, and want of memory is free.
abbrev pub WhyNotBegun : Option Held → Type 0 → Type 0 → ℕ → List ℕ → List ℕ → WorkFault → Type 0
WhyNotBegun held rose lost most program file fault =
    WhyUnread held rose most_program program fault ⊎ (WhyNotCut held rose lost 0 most fault file ⊎ WhyUnput lost fault)

-- Why a program did not begin to be run behind what is kept of a file: what is behind some of the file's bytes is not cut; or what was to be put was
-- not; or the records of the jobs were not read, where `new` is what the folder holds then.
abbrev pub WhyNotGrown : Option Held → Type 0 → Type 0 → ℕ → List ℕ → Option HeldFiles → WorkFault → Type 0
WhyNotGrown held rose lost most file new fault =
    ((from : ℕ) × WhyNotCut held rose lost from most fault file) ⊎ (WhyUnput lost fault ⊎ WhyUnfed new lost fault)

-- Or the text of the program is not read; or it is not known what is kept, where `keep_lost` says that the count of faults of the folder of what is kept rose.
abbrev pub WhyNotBegunKept : Option Held → Type 0 → Type 0 → Type 0 → ℕ → List ℕ → List ℕ → Option HeldFiles → WorkFault → Type 0
WhyNotBegunKept held rose lost keep_lost most program file new fault =
    WhyUnread held rose most_program program fault ⊎ (WhyNotFound held rose keep_lost file fault ⊎ WhyNotGrown held rose lost most file new fault)
