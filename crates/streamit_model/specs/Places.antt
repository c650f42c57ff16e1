-- The places of a program in reading order, each with its unit, the streams that are declared above it, and what stands before it.
use Rattle.std.specs.Prelude.{ℕ, suc, ◌+◌, max, List, [], ◌∷◌, ◌++◌, map, Option, Some, None, if◌then◌else◌}
use Rattle.river_base.specs.Name.{name_eq}
use Rattle.river_plan.specs.Forms.{Name}
use Rattle.streamit_text.specs.Program.{WorkTree, FilterTree, Dealing, Copies, Turns, Body, AFilter, APipeline, ASplitJoin, UnitForm, Program}
use Rattle.streamit_model.specs.Meaning.{push_of, pop_of, peek_of, nought, branch_count}
use Rattle.streamit_model.specs.Words.{ReadWord, Declares, Knows, popped_in, pushed_in}
use Rattle.streamit_model.specs.Text.{all_read, optional_read}

-- what stands at a place
pub data Spot : Type 0 where
  -- the name of the stream that is declared
  Names : Name → Spot
  -- a word of a filter where this is the rate of `peek`, and the words before it
  Reads : ℕ → List ReadWord → ReadWord → Spot
  -- the least number of pops, and the rates of pushes, pops and looks
  Rated : ℕ → ℕ → ℕ → ℕ → Spot
  -- the end of `prework` or `work`: a rate as it is declared, and as it is counted
  Counts : ℕ → ℕ → Spot
  -- a branch of a split-join, by its number from 0
  Branch : ℕ → Spot
  -- a stream that is added
  Added : Name → Spot
  -- the weights of a splitter or a joiner as they are written, and the number of its branches
  Weighs : Option (List ℕ) → ℕ → Spot
  -- the end of the program
  Finishes : Spot

-- `above` has the streams that are declared above, the nearest first
pub record Place : Type 0 where
  pub unit : ℕ
  pub above : List UnitForm
  pub spot : Spot

-- WORDS

-- the fields, each of which is known from its declaration on
abbrev pub fields_read : List Name → List ReadWord
fields_read [] = []
fields_read (n ∷ ns) = Declares n ∷ Knows n ∷ fields_read ns

-- word for word, where these stand before
abbrev pub each_word : ℕ → List ReadWord → List ReadWord → List Spot
each_word peek before [] = []
each_word peek before (w ∷ ws) = Reads peek before w ∷ each_word peek (before ++ w ∷ []) ws

-- UNITS

-- `prework` or `work`, which pops so many items at least: its rates, its block, whose locals come behind the fields, and its end
abbrev pub work_spots : ℕ → List ReadWord → WorkTree → List Spot
work_spots least fields w =
    let block = all_read w.block nought in
    Rated least (push_of w) (pop_of w) (peek_of w)
    ∷ (each_word (peek_of w) fields block ++ Counts (pop_of w) (popped_in block) ∷ Counts (push_of w) (pushed_in block) ∷ [])

-- `prework` may pop nothing
abbrev pub prework_spots : List ReadWord → Option WorkTree → List Spot
prework_spots fields None = []
prework_spots fields (Some w) = work_spots 0 fields w

-- a filter in the order in which it is written; the locals of `init`, of `prework` and of `work` come behind the fields
abbrev pub filter_spots : FilterTree → List Spot
filter_spots t =
    let fields = fields_read t.fields in
    each_word 0 [] fields ++ (each_word 0 fields (optional_read t.init nought) ++ (prework_spots fields t.prework ++ work_spots 1 fields t.work))

-- the branches of a split-join from number i on
abbrev pub branch_spots : ℕ → List Name → List Spot
branch_spots i [] = []
branch_spots i (n ∷ ns) = Branch i ∷ Added n ∷ branch_spots (suc i) ns

-- a splitter that copies has no weights
abbrev pub split_spots : Dealing → ℕ → List Spot
split_spots Copies n = []
split_spots (Turns ws) n = Weighs ws n ∷ []

-- a split-join is read in the order in which it is written: the splitter, the branches, the joiner
abbrev pub body_spots : Body → List Spot
body_spots (AFilter t) = filter_spots t
body_spots (APipeline a) = map Added (a.first ∷ a.others)
body_spots (ASplitJoin d a ws) = split_spots d (branch_count a) ++ (branch_spots 0 (a.first ∷ a.others) ++ Weighs ws (branch_count a) ∷ [])

-- a stream's name, and then what is declared
abbrev pub unit_spots : UnitForm → List Spot
unit_spots u = Names u.name ∷ body_spots u.body

-- THE PROGRAM

abbrev pub place_of_spot : ℕ → List UnitForm → Spot → Place
place_of_spot k above s = record { unit = k; above = above; spot = s }

-- the units behind the first k; the end of the program counts for the last
abbrev pub places_behind : ℕ → List UnitForm → Program → List Place
places_behind k above [] = place_of_spot k above Finishes ∷ []
places_behind k above (u ∷ us) = map (place_of_spot (suc k) above) (unit_spots u) ++ places_behind (suc k) (u ∷ above) us

abbrev pub places_of : Program → List Place
places_of p = places_behind 0 [] p

-- WHAT IS KNOWN OF THE STREAMS ABOVE

-- the greatest of what is said of one or more names
abbrev pub greatest_said : (Name → ℕ) → Name → List Name → ℕ
greatest_said f n [] = f n
greatest_said f n (m ∷ ms) = max (f n) (greatest_said f m ms)

-- and the sum
abbrev pub in_all : (Name → ℕ) → Name → List Name → ℕ
in_all f n [] = f n
in_all f n (m ∷ ms) = f n + in_all f m ms

-- a filter is nested 1 deep, and all else 1 deeper than the deepest stream that it adds
abbrev pub body_depth : (Name → ℕ) → Body → ℕ
body_depth f (AFilter t) = 1
body_depth f (APipeline a) = suc (greatest_said f a.first a.others)
body_depth f (ASplitJoin d a ws) = suc (greatest_said f a.first a.others)

abbrev pub depth_above : List UnitForm → Name → ℕ
depth_above [] n = 0
depth_above (u ∷ us) n = if name_eq u.name n then body_depth (depth_above us) u.body else depth_above us n

-- a filter is one operator, and a splitter and a joiner are one each
abbrev pub body_operators : (Name → ℕ) → Body → ℕ
body_operators f (AFilter t) = 1
body_operators f (APipeline a) = in_all f a.first a.others
body_operators f (ASplitJoin d a ws) = 1 + (in_all f a.first a.others + 1)

abbrev pub operators_above : List UnitForm → Name → ℕ
operators_above [] n = 0
operators_above (u ∷ us) n = if name_eq u.name n then body_operators (operators_above us) u.body else operators_above us n

-- the operators of the nearest stream
abbrev pub last_operators : List UnitForm → ℕ
last_operators [] = 0
last_operators (u ∷ us) = body_operators (operators_above us) u.body
