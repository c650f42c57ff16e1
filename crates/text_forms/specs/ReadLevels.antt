-- How the expressions of a ladder are read.
use Rattle.std.specs.Prelude.{ℕ, zero, suc, ◌-◌, nat_lt, if◌then◌else◌, List, [], ◌∷◌, length, Option, None, Some}
use Rattle.text_tokens.specs.Tok.{Tok}
use Rattle.text_tokens.specs.declared.sign.Symbol.TheVariants as s
use Rattle.text_forms.specs.Levels.{Level, Chain, Once, Prefix, Syntax, level_of, operator, sign}
use Rattle.text_forms.specs.Parse.{Parse, begins_with, then_parsed, seen, after, before}
use Rattle.text_forms.specs.Repeat.{ReadTurn, Stop, Fail, Next, turns}
use Rattle.text_forms.specs.Tail.{tail}

-- what the first token is
abbrev pub first : {A : Type 0} → (Tok → Option A) → List Tok → Option A
first f [] = None
first f (x ∷ ts) = f x

-- the operator, and the sign, of a level that comes next
abbrev pub operator_at : {T O P : Type 0} → Syntax T O P → ℕ → List Tok → Option O
operator_at S k ts = first (operator (level_of S.levels k)) ts

abbrev pub sign_of_level : {T O P : Type 0} → Syntax T O P → ℕ → List Tok → Option P
sign_of_level S k ts = first (sign (level_of S.levels k)) ts

-- an expression with an operator and what was read behind it
abbrev pub joined_read : {T O P : Type 0} → Syntax T O P → O → T → Option (T × List Tok) → Option (T × List Tok)
joined_read S o left None = None
joined_read S o left (Some read) = Some (S.join o left read.0, read.1)

-- an expression with an operator and what follows, where there is room for a deeper tree
abbrev pub grown : {T O P : Type 0} → Syntax T O P → Parse T → ℕ → O → T → Parse T
grown S right room o left ts = if nat_lt (S.depth left) room then joined_read S o left (right ts) else None

-- CHAINS

abbrev pub turn_read : {T : Type 0} → Option (T × List Tok) → ReadTurn T
turn_read None = Fail
turn_read (Some read) = Next read.0 read.1

abbrev pub chain_on : {T O P : Type 0} → Syntax T O P → Parse T → ℕ → T → List Tok → Option O → ReadTurn T
chain_on S right room left ts None = Stop
chain_on S right room left ts (Some o) = turn_read (grown S right room o left (tail ts))

-- one operator more
unfoldable pub chain_turn : {T O P : Type 0} → Syntax T O P → ℕ → Parse T → ℕ → T → List Tok → ReadTurn T
chain_turn S k right room left ts = chain_on S right room left ts (operator_at S k ts)

-- operators as long as they come: each makes the tree deeper, so that there are no more than there is room
unfoldable pub chained : {T O P : Type 0} → Syntax T O P → ℕ → Parse T → ℕ → T → Parse T
chained S k right room left ts = turns (chain_turn S k right room) (suc room) left ts

-- `below` reads an expression of so much room on the level below
unfoldable pub chain_level : {T O P : Type 0} → Syntax T O P → ℕ → (ℕ → Parse T) → ℕ → Parse T
chain_level S k below room ts = then_parsed (below room ts) (λ t us. chained S k (below (room - 1)) room t us)

-- ONE OPERATOR AT MOST

abbrev pub once_on : {T O P : Type 0} → Syntax T O P → Parse T → ℕ → T → List Tok → Option O → Option (T × List Tok)
once_on S right room left ts None = Some (left, ts)
once_on S right room left ts (Some o) = grown S right room o left (tail ts)

unfoldable pub once_level : {T O P : Type 0} → Syntax T O P → ℕ → (ℕ → Parse T) → ℕ → Parse T
once_level S k below room ts = then_parsed (below room ts) (λ t us. once_on S (below (room - 1)) room t us (operator_at S k us))

-- SIGNS

abbrev pub prefix_on : {T O P : Type 0} → Syntax T O P → Parse T → Parse T → List Tok → Option P → Option (T × List Tok)
prefix_on S more below ts None = below ts
prefix_on S more below ts (Some p) = seen (S.mark p) more (tail ts)

unfoldable pub prefix_level : {T O P : Type 0} → Syntax T O P → ℕ → (ℕ → Parse T) → ℕ → Parse T
prefix_level S k below zero ts = None
prefix_level S k below (suc room) ts = prefix_on S (prefix_level S k below room) (below (suc room)) ts (sign_of_level S k ts)

-- BELOW THE FIRST LINE

-- an expression and a closing bracket; `inner` reads an expression of so much room behind one bracket more
abbrev pub closed : {T : Type 0} → (ℕ → Parse T) → ℕ → Parse T
closed inner room ts = before (inner room) (s.Close ∷ []) ts

abbrev pub base_on : {T O P : Type 0} → Syntax T O P → Parse T → (ℕ → Parse T) → ℕ → List Tok → Option P → Option (T × List Tok)
base_on S leaf inner room ts None = leaf ts
base_on S leaf inner room ts (Some p) = seen (S.mark p) (after (s.Open ∷ []) (closed inner room)) (tail ts)

-- brackets, a call, or a leaf
unfoldable pub base : {T O P : Type 0} → Syntax T O P → Parse T → (ℕ → Parse T) → ℕ → Parse T
base S leaf inner zero ts = None
base S leaf inner (suc room) ts =
    if begins_with s.Open ts then closed inner (suc room) (tail ts)
    else base_on S leaf inner room ts (first S.call ts)

-- ALL LEVELS

abbrev pub on_level : {T O P : Type 0} → Syntax T O P → Level O P → ℕ → (ℕ → Parse T) → ℕ → Parse T
on_level S (Chain op) k below room ts = chain_level S k below room ts
on_level S (Once op) k below room ts = once_level S k below room ts
on_level S (Prefix p) k below room ts = prefix_level S k below room ts

-- an expression on a level above `rank` others; `leaf` reads a leaf
unfoldable pub ladder : {T O P : Type 0} → Syntax T O P → Parse T → (ℕ → Parse T) → (rank room : ℕ) → Parse T
ladder S leaf inner zero room ts = base S leaf inner room ts
ladder S leaf inner (suc k) room ts = on_level S (level_of S.levels k) k (ladder S leaf inner k) room ts

-- an expression behind one bracket more, where so many more may be open; `leaf` reads a leaf where so many may be
unfoldable pub within : {T O P : Type 0} → Syntax T O P → (ℕ → Parse T) → (brackets room : ℕ) → Parse T
within S leaf zero room ts = None
within S leaf (suc n) room ts = ladder S (leaf n) (within S leaf n) (length S.levels) room ts

-- IN A WHOLE LADDER, where `n` more brackets may be open

module _ {T O P : Type 0} (S : Syntax T O P) (leaf : ℕ → Parse T) (n : ℕ) where
  -- an expression on the level above `rank` others
  abbrev pub level_at : (rank room : ℕ) → Parse T
  level_at = ladder S (leaf n) (within S leaf n)

  -- an expression on a level of each form, and below the first
  abbrev pub chain_at : (k room : ℕ) → Parse T
  chain_at k = chain_level S k (level_at k)

  abbrev pub once_at : (k room : ℕ) → Parse T
  once_at k = once_level S k (level_at k)

  abbrev pub prefix_at : (k room : ℕ) → Parse T
  prefix_at k = prefix_level S k (level_at k)

  abbrev pub base_at : (room : ℕ) → Parse T
  base_at = base S (leaf n) (within S leaf n)

  -- one with an operator behind it, and what follows
  abbrev pub grown_at : (k room : ℕ) → O → T → Parse T
  grown_at k room = grown S (level_at k (room - 1)) room

  -- one in brackets behind a word, and behind one bracket more
  abbrev pub called_at : (room : ℕ) → P → Parse T
  called_at room p = seen (S.mark p) (after (s.Open ∷ []) (closed (within S leaf n) room))

  abbrev pub closed_at : (room : ℕ) → Parse T
  closed_at = closed (within S leaf n)

-- an expression at most 64 deep, where so many more brackets may be open
abbrev pub whole_at : {T O P : Type 0} → Syntax T O P → (ℕ → Parse T) → ℕ → Parse T
whole_at S leaf n ts = ladder S (leaf n) (within S leaf n) (length S.levels) 64 ts
