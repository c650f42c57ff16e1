-- The tokens of a program that is written out, and its text. Each operation stands in brackets of its own.
use Rattle.std.specs.Prelude.{ℕ, Bool, true, false, List, [], ◌∷◌, ◌++◌, Option, Some, None, codes}
use Rattle.text_tokens.specs.Spaced.{spaced}
use Rattle.text_tokens.specs.Tok.{Tok, name, number, symbol}
use Rattle.text_tokens.specs.declared.sign.Symbol.{Symbol}
use Rattle.text_tokens.specs.declared.sign.Symbol.TheVariants as s
use Rattle.text_blocks.specs.Seven.{sign_of}
use Rattle.streamit_text.specs.Tree.{Expression}
use Rattle.streamit_text.specs.Tree as tree
use Rattle.streamit_text.specs.Tree.{Statement, Declare, Assign, Push, Discard, If, For, Block, End, Then, Optional, Unwritten, Written}
use Rattle.streamit_text.specs.Program.{WorkTree, FilterTree, Dealing, Copies, Turns, Adds, Body, AFilter, APipeline, ASplitJoin, UnitForm, Program}

-- THE TOKENS

abbrev pub expr_toks : Expression → List Tok
expr_toks (tree.Number v) = number v ∷ []
expr_toks (tree.Name n) = name n ∷ []
expr_toks (tree.Peek t) = name (codes "peek") ∷ symbol s.Open ∷ (expr_toks t ++ symbol s.Close ∷ [])
expr_toks tree.Pop = name (codes "pop") ∷ symbol s.Open ∷ symbol s.Close ∷ []
expr_toks (tree.Neg t) = symbol s.Open ∷ ((symbol s.Minus ∷ expr_toks t) ++ symbol s.Close ∷ [])
expr_toks (tree.Not t) = symbol s.Open ∷ ((symbol s.Not ∷ expr_toks t) ++ symbol s.Close ∷ [])
expr_toks (tree.Bin o a b) = symbol s.Open ∷ ((expr_toks a ++ symbol (sign_of o) ∷ expr_toks b) ++ symbol s.Close ∷ [])

-- "=" e, where there is a first value
abbrev pub first_toks : Option Expression → List Tok
first_toks None = []
first_toks (Some t) = symbol s.Assign ∷ expr_toks t

abbrev pub below : Bool → Symbol
below false = s.Less
below true = s.LessEqual

-- "=" e ";" NAME ("<" | "<=") e ";" NAME "++"
abbrev pub head_toks : List ℕ → Expression → Bool → Expression → List Tok
head_toks n low upto high =
    symbol s.Assign ∷ ((expr_toks low ++ symbol s.Semicolon ∷ [])
    ++ name n ∷ symbol (below upto) ∷ ((expr_toks high ++ symbol s.Semicolon ∷ []) ++ name n ∷ symbol s.Increment ∷ []))

abbrev pub braces_toks : List Tok → List Tok
braces_toks ts = symbol s.OpenBrace ∷ (ts ++ symbol s.CloseBrace ∷ [])

abbrev mutual
  pub statement_toks : Statement → List Tok
  statement_toks (Declare n t) = name (codes "int") ∷ name n ∷ (first_toks t ++ symbol s.Semicolon ∷ [])
  statement_toks (Assign n t) = name n ∷ symbol s.Assign ∷ (expr_toks t ++ symbol s.Semicolon ∷ [])
  statement_toks (Push t) = name (codes "push") ∷ ((symbol s.Open ∷ (expr_toks t ++ symbol s.Close ∷ [])) ++ symbol s.Semicolon ∷ [])
  statement_toks Discard = name (codes "pop") ∷ symbol s.Open ∷ symbol s.Close ∷ symbol s.Semicolon ∷ []
  statement_toks (If t a b) = name (codes "if") ∷ ((symbol s.Open ∷ (expr_toks t ++ symbol s.Close ∷ [])) ++ (braces_toks (statements_toks a) ++ else_toks b))
  statement_toks (For n low upto high b) =
      name (codes "for") ∷ ((symbol s.Open ∷ ((name (codes "int") ∷ name n ∷ head_toks n low upto high) ++ symbol s.Close ∷ []))
      ++ braces_toks (statements_toks b))

  pub statements_toks : Block → List Tok
  statements_toks End = []
  statements_toks (Then c b) = statement_toks c ++ statements_toks b

  pub else_toks : Optional → List Tok
  else_toks Unwritten = []
  else_toks (Written b) = name (codes "else") ∷ braces_toks (statements_toks b)

abbrev pub block_toks : Block → List Tok
block_toks b = braces_toks (statements_toks b)

abbrev pub field_toks : List ℕ → List Tok
field_toks f = name (codes "int") ∷ name f ∷ symbol s.Semicolon ∷ []

abbrev pub fields_toks : List (List ℕ) → List Tok
fields_toks [] = []
fields_toks (f ∷ fs) = field_toks f ++ fields_toks fs

abbrev pub init_toks : Optional → List Tok
init_toks Unwritten = []
init_toks (Written b) = name (codes "init") ∷ block_toks b

abbrev pub rate_toks : List ℕ → Option ℕ → List Tok
rate_toks w None = []
rate_toks w (Some n) = name w ∷ number n ∷ []

abbrev pub rates_toks : WorkTree → List Tok
rates_toks w = rate_toks (codes "push") w.push ++ (rate_toks (codes "pop") w.pop ++ rate_toks (codes "peek") w.peek)

abbrev pub work_toks : WorkTree → List Tok
work_toks w = rates_toks w ++ block_toks w.block

abbrev pub prework_toks : Option WorkTree → List Tok
prework_toks None = []
prework_toks (Some w) = name (codes "prework") ∷ work_toks w

abbrev pub filter_toks : FilterTree → List Tok
filter_toks t = fields_toks t.fields ++ (init_toks t.init ++ (prework_toks t.prework ++ name (codes "work") ∷ work_toks t.work))

abbrev pub add_toks : List ℕ → List Tok
add_toks n = name (codes "add") ∷ name n ∷ symbol s.Semicolon ∷ []

abbrev pub other_toks : List (List ℕ) → List Tok
other_toks [] = []
other_toks (n ∷ ns) = add_toks n ++ other_toks ns

abbrev pub adds_toks : Adds → List Tok
adds_toks a = add_toks a.first ++ other_toks a.others

-- numbers with commas between them
abbrev pub more_numbers : List ℕ → List Tok
more_numbers [] = []
more_numbers (n ∷ ns) = (symbol s.Comma ∷ number n ∷ []) ++ more_numbers ns

abbrev pub numbers_toks : List ℕ → List Tok
numbers_toks [] = []
numbers_toks (n ∷ ns) = (number n ∷ []) ++ more_numbers ns

abbrev pub weights_toks : Option (List ℕ) → List Tok
weights_toks None = []
weights_toks (Some ws) = symbol s.Open ∷ (numbers_toks ws ++ symbol s.Close ∷ [])

abbrev pub dealing_toks : Dealing → List Tok
dealing_toks Copies = name (codes "duplicate") ∷ []
dealing_toks (Turns ws) = name (codes "roundrobin") ∷ weights_toks ws

abbrev pub split_toks : Dealing → List Tok
split_toks d = name (codes "split") ∷ (dealing_toks d ++ symbol s.Semicolon ∷ [])

abbrev pub join_toks : Option (List ℕ) → List Tok
join_toks ws = name (codes "join") ∷ name (codes "roundrobin") ∷ (weights_toks ws ++ symbol s.Semicolon ∷ [])

abbrev pub kind_word : Body → List ℕ
kind_word (AFilter t) = codes "filter"
kind_word (APipeline a) = codes "pipeline"
kind_word (ASplitJoin d a ws) = codes "splitjoin"

abbrev pub inner_toks : Body → List Tok
inner_toks (AFilter t) = filter_toks t
inner_toks (APipeline a) = adds_toks a
inner_toks (ASplitJoin d a ws) = split_toks d ++ (adds_toks a ++ join_toks ws)

abbrev pub unit_toks : UnitForm → List Tok
unit_toks u =
    name (codes "int") ∷ symbol s.Arrow ∷ name (codes "int") ∷ name (kind_word u.body) ∷ name u.name
    ∷ symbol s.OpenBrace ∷ (inner_toks u.body ++ symbol s.CloseBrace ∷ [])

abbrev pub units_toks : Program → List Tok
units_toks [] = []
units_toks (u ∷ us) = unit_toks u ++ units_toks us

-- the text of a program
abbrev pub plain_text : Program → List ℕ
plain_text p = spaced (units_toks p)
