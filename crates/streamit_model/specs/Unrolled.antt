-- The tree of streams of a program whose loops are unrolled and whose names are found.
use Rattle.std.specs.Prelude.{◌≡◌, ◌<◌, ◌≤◌, ℕ, suc, max, List, length, IsTrue, Option, Some, None}
use Rattle.std.specs.List.{AllByRecursion}
use Rattle.kern_rows.specs.Forms.{FilterForm, RunForm}
use Rattle.river_kernels.specs.Formed.{is_filter}
use Rattle.river_kernels.specs.Limits.{size}
use Rattle.brooklet_model.specs.ByIndex.{cycle}

-- a splitter copies each item to every branch, or deals so many items to each branch in turn
pub data Splitter : Type 0 where
  Duplicate : Splitter
  RoundRobin : List ℕ → Splitter

mutual
  pub data Stream : Type 0 where
    -- a filter's name, and what it does
    Filter : List ℕ → FilterForm → Stream
    Pipeline : Streams → Stream
    -- the splitter, the branches, and the weights of the joiner
    SplitJoin : Splitter → Streams → List ℕ → Stream

  -- one stream or more
  pub data Streams : Type 0 where
    Last : Stream → Streams
    Then : Stream → Streams → Streams

-- how many streams there are
abbrev pub number_of : Streams → ℕ
number_of (Last s) = 1
number_of (Then s ss) = suc (number_of ss)

-- a filter is nested 1 deep, and all else 1 deeper than its deepest part
abbrev mutual
  pub nesting : Stream → ℕ
  nesting (Filter name f) = 1
  nesting (Pipeline ss) = suc (deepest ss)
  nesting (SplitJoin d ss ws) = suc (deepest ss)

  pub deepest : Streams → ℕ
  deepest (Last s) = nesting s
  deepest (Then s ss) = max (nesting s) (deepest ss)

-- so many weights, each at least 1
pub record IsRound (ws : List ℕ) (n : ℕ) : Type 0 where
  pub number : length ws ≡ n
  pub each : AllByRecursion (λ w. 0 < w) ws

abbrev pub IsSplitter : Splitter → ℕ → Type 0
IsSplitter Duplicate n = Unit {0}
IsSplitter (RoundRobin ws) n = IsRound ws n

-- filters are well formed, and splitters and joiners have a weight for each branch
abbrev mutual
  pub IsStream : Stream → Type 0
  IsStream (Filter name f) = IsTrue (is_filter f)
  IsStream (Pipeline ss) = AreStreams ss
  IsStream (SplitJoin d ss ws) = IsSplitter d (number_of ss) × AreStreams ss × IsRound ws (number_of ss)

  pub AreStreams : Streams → Type 0
  AreStreams (Last s) = IsStream s
  AreStreams (Then s ss) = IsStream s × AreStreams ss

-- no number in a filter, a splitter or a joiner is above its limit
pub record IsSmallRun (r : RunForm) : Type 0 where
  pub statements : size r.body.steps ≤ 16384
  pub slots : r.body.slots ≤ 256
  pub peek : r.peek ≤ 65536
  pub pop : r.pop ≤ 65536
  pub push : r.push ≤ 65536

abbrev pub IsSmallFirst : Option RunForm → Type 0
IsSmallFirst None = Unit {0}
IsSmallFirst (Some r) = IsSmallRun r

pub record IsSmallFilter (f : FilterForm) : Type 0 where
  pub statements : size f.body.steps ≤ 16384
  pub slots : f.body.slots ≤ 256
  pub peek : f.peek ≤ 65536
  pub pop : f.pop ≤ 65536
  pub push : f.push ≤ 65536
  pub first : IsSmallFirst f.first

abbrev pub IsSmallSplitter : Splitter → Type 0
IsSmallSplitter Duplicate = Unit {0}
IsSmallSplitter (RoundRobin ws) = cycle ws ≤ 65536

abbrev mutual
  pub IsSmall : Stream → Type 0
  IsSmall (Filter name f) = IsSmallFilter f
  IsSmall (Pipeline ss) = AreSmall ss
  IsSmall (SplitJoin d ss ws) = (number_of ss ≤ 64) × IsSmallSplitter d × (cycle ws ≤ 65536) × AreSmall ss

  pub AreSmall : Streams → Type 0
  AreSmall (Last s) = IsSmall s
  AreSmall (Then s ss) = IsSmall s × AreSmall ss
