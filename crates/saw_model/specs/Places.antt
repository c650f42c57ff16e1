-- The places of a program in reading order, and what is known at each: a function of the text before it.
use Rattle.std.specs.Prelude.{◌≡◌, ◌⊎◌, ℕ, zero, suc, ◌+◌, Bool, true, false, List, [], ◌∷◌, ◌++◌, length, Option, Some, None}
use Rattle.kern_tables.specs.declared.kind.TableKind.{TableKind}
use Rattle.river_plan.specs.Forms.{Name}
use Rattle.river_plan.specs.Names.{one_if}
use Rattle.saw_text.specs.Tree.{Expression}
use Rattle.saw_text.specs.Tree as tree
use Rattle.saw_text.specs.Tree.{Statement, Declare, Assign, Emit, If, Block, End, Then, Optional, Unwritten, Written, UnitForm, TableUnit, StatementUnit, Program}
use Rattle.saw_model.specs.Meaning.{table_kind}

-- WHAT IS READ

pub data Spot : Type 0 where
  -- a statement begins; a block is entered, and left
  Begins : Spot
  Enters : Spot
  Leaves : Spot
  -- in an expression a name, and input[N]
  Names : Name → Spot
  Reads : ℕ → Spot
  -- the name of a local that is declared; behind its first value the local is there
  Declares : Name → Spot
  Local : Name → Spot
  -- a name that is set
  Sets : Name → Spot
  -- the name behind emit; index number N of an emit, from 1; behind its N indexes, an emit to this table; behind its value,
  -- one with a weight or without
  Emits : Name → Spot
  Index : ℕ → Spot
  Indexed : Name → ℕ → Spot
  Weighted : Name → Spot
  Unweighted : Name → Spot
  -- a table
  Tables : Name → TableKind → Spot

abbrev pub term_spots : Expression → List Spot
term_spots (tree.Number v) = []
term_spots (tree.Name n) = Names n ∷ []
term_spots (tree.Input p) = Reads p ∷ []
term_spots (tree.Neg t) = term_spots t
term_spots (tree.Not t) = term_spots t
term_spots (tree.Bin o l r) = term_spots l ++ term_spots r

-- the first value of a local
abbrev pub value_spots : Option Expression → List Spot
value_spots None = []
value_spots (Some t) = term_spots t

-- the indexes of an emit, behind n others
abbrev pub index_spots : ℕ → List Expression → List Spot
index_spots n [] = []
index_spots n (t ∷ ts) = Index (n + 1) ∷ (term_spots t ++ index_spots (n + 1) ts)

abbrev pub weight_spots : Name → Option Expression → List Spot
weight_spots n None = Unweighted n ∷ []
weight_spots n (Some t) = Weighted n ∷ term_spots t

abbrev mutual
  pub statement_spots : Statement → List Spot
  statement_spots (Declare n t) = Begins ∷ Declares n ∷ (value_spots t ++ Local n ∷ [])
  statement_spots (Assign n t) = Begins ∷ Sets n ∷ term_spots t
  statement_spots (Emit n is v w) = Begins ∷ Emits n ∷ (index_spots 0 is ++ Indexed n (length is) ∷ (term_spots v ++ weight_spots n w))
  statement_spots (If t a b) = Begins ∷ (term_spots t ++ Enters ∷ (block_spots a ++ Leaves ∷ Enters ∷ (optional_spots b ++ Leaves ∷ [])))

  pub block_spots : Block → List Spot
  block_spots End = []
  block_spots (Then c b) = statement_spots c ++ block_spots b

  -- a missing `else` is an empty block
  pub optional_spots : Optional → List Spot
  optional_spots Unwritten = []
  optional_spots (Written b) = block_spots b

abbrev pub unit_spots : UnitForm → List Spot
unit_spots (TableUnit tb) = Tables tb.name (table_kind tb) ∷ []
unit_spots (StatementUnit c) = statement_spots c

abbrev pub program_spots : Program → List Spot
program_spots [] = []
program_spots (c ∷ ps) = unit_spots c ++ program_spots ps

-- THE PLACES

-- what stands at a place, and the text before it
pub record Place : Type 0 where
  pub before : List Spot
  pub spot : Spot

-- the places of a text that stands behind another
abbrev pub places_behind : List Spot → List Spot → List Place
places_behind before [] = []
places_behind before (m ∷ ms) = record { before = before; spot = m } ∷ places_behind (before ++ m ∷ []) ms

-- the places of a program, in reading order
abbrev pub places_of : Program → List Place
places_of p = places_behind [] (program_spots p)

-- WHAT IS KNOWN

-- what a name is
pub data What : Type 0 where
  ALocal : What
  ATable : TableKind → What

-- the name that is known from here on
abbrev pub known_from_here : Spot → Option (Name × What)
known_from_here (Local n) = Some (n, ALocal)
known_from_here (Tables n k) = Some (n, ATable k)
known_from_here m = None

-- into a block, out of one, or neither
pub data BlockEdge : Type 0 where
  In : BlockEdge
  Out : BlockEdge
  Along : BlockEdge

abbrev pub block_edge : Spot → BlockEdge
block_edge Enters = In
block_edge Leaves = Out
block_edge m = Along

-- what is said of the text behind a spot, within one block more, or one less, or as many
abbrev pub past_edge : BlockEdge → ℕ → (ℕ → Bool) → Bool
past_edge In k f = f (suc k)
past_edge Out zero f = false
past_edge Out (suc k) f = f k
past_edge Along k f = f k

-- a text that is read within k blocks leaves no other
abbrev pub stays : ℕ → List Spot → Bool
stays k [] = true
stays k (m ∷ ms) = past_edge (block_edge m) k (λ j. stays j ms)

-- Behind this text the name is known as this: it is declared there, and behind that no block is left but those that are entered
-- there.
abbrev pub IsKnownAs : List Spot → Name → What → Type 0
IsKnownAs [] n w = ⊥
IsKnownAs (m ∷ ms) n w = ((known_from_here m ≡ Some (n, w)) × (stays 0 ms ≡ true)) ⊎ IsKnownAs ms n w

-- HOW MANY THERE WERE

abbrev pub is_statement : Spot → Bool
is_statement Begins = true
is_statement m = false

abbrev pub is_local : Spot → Bool
is_local (Local n) = true
is_local m = false

abbrev pub is_table : Spot → Bool
is_table (Tables n k) = true
is_table m = false

abbrev pub how_many : (Spot → Bool) → List Spot → ℕ
how_many t [] = 0
how_many t (m ∷ ms) = one_if (t m) + how_many t ms
