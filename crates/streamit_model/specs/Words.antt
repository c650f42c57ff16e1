-- What is read of the blocks of a filter, word by word with the loops unrolled, and what is known behind the words before a place.
use Rattle.std.specs.Prelude.{ℕ, ℤ, ◌+◌, ◌-◌, ◌<◌, ◌⊎◌, List, [], ◌∷◌}
use Rattle.river_base.specs.Name.{name_eq}
use Rattle.river_plan.specs.Forms.{Name}
use Rattle.river_plan.specs.Names.{one_if}

pub data ReadWord : Type 0 where
  -- a statement begins, or a turn of a loop
  Begins : ReadWord
  -- a field or a local is declared by this name
  Declares : Name → ReadWord
  -- it is known from here on, to the end of its block
  Knows : Name → ReadWord
  -- the end of its block
  Leaves : Name → ReadWord
  -- a name that is set
  Sets : Name → ReadWord
  -- a name in an expression
  Uses : Name → ReadWord
  -- a name in a bound of a loop or in an index of `peek`
  Fixes : Name → ReadWord
  -- `pop` or `peek` in a bound or an index
  Varies : ReadWord
  -- `pop()` in an expression
  Pops : ReadWord
  -- `pop();` as a statement
  Drops : ReadWord
  -- `peek`, whose index has this value
  Peeks : ℤ → ReadWord
  -- a bound of a loop, which has this value
  Bounds : ℤ → ReadWord
  -- the name of the variable of a loop
  Loops : Name → ReadWord
  -- a turn of the loop with this variable
  Enters : Name → ReadWord
  -- the end of the turn
  Exits : Name → ReadWord
  -- the value of a push was read
  Pushes : ReadWord
  -- the second arm of an `if`, which does not run after the first one; that one pops and pushes so many
  Otherwise : ℕ → ℕ → ReadWord
  -- the end of an `if`: the pops and pushes of its first arm, and those of its second
  Joins : ℕ → ℕ → ℕ → ℕ → ReadWord

-- the sum over the words
abbrev pub over : (ReadWord → ℕ) → List ReadWord → ℕ
over f [] = 0
over f (w ∷ ws) = f w + over f ws

-- WHAT ONE WORD COUNTS FOR

abbrev pub knows : Name → ReadWord → ℕ
knows n (Knows m) = one_if (name_eq m n)
knows n w = 0

abbrev pub leaves : Name → ReadWord → ℕ
leaves n (Leaves m) = one_if (name_eq m n)
leaves n w = 0

abbrev pub enters : Name → ReadWord → ℕ
enters n (Enters m) = one_if (name_eq m n)
enters n w = 0

abbrev pub exits : Name → ReadWord → ℕ
exits n (Exits m) = one_if (name_eq m n)
exits n w = 0

-- a slot is taken
abbrev pub takes : ReadWord → ℕ
takes (Knows n) = 1
takes w = 0

abbrev pub begins_one : ReadWord → ℕ
begins_one Begins = 1
begins_one w = 0

abbrev pub pops_one : ReadWord → ℕ
pops_one Pops = 1
pops_one Drops = 1
pops_one w = 0

abbrev pub pushes_one : ReadWord → ℕ
pushes_one Pushes = 1
pushes_one w = 0

-- pops that do not run before the words behind
abbrev pub pops_beside : ReadWord → ℕ
pops_beside (Otherwise p q) = p
pops_beside w = 0

abbrev pub pushes_beside : ReadWord → ℕ
pushes_beside (Otherwise p q) = q
pushes_beside w = 0

-- WHAT IS KNOWN BEHIND THE WORDS BEFORE

-- the name of a field or a local: it was declared more often than its blocks ended
abbrev pub IsLocal : List ReadWord → Name → Type 0
IsLocal before n = over (leaves n) before < over (knows n) before

-- the variable of a loop in one of its turns: more turns began than ended
abbrev pub IsLoopVariable : List ReadWord → Name → Type 0
IsLoopVariable before n = over (exits n) before < over (enters n) before

abbrev pub IsKnown : List ReadWord → Name → Type 0
IsKnown before n = IsLocal before n ⊎ IsLoopVariable before n

-- the slots that are taken
abbrev pub slots_in : List ReadWord → ℕ
slots_in before = over takes before

-- statements and turns
abbrev pub statements_in : List ReadWord → ℕ
statements_in before = over begins_one before

-- the pops that run before
abbrev pub popped_in : List ReadWord → ℕ
popped_in before = over pops_one before - over pops_beside before

-- the pushes that run before
abbrev pub pushed_in : List ReadWord → ℕ
pushed_in before = over pushes_one before - over pushes_beside before
