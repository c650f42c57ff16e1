-- How units are read: the grammar in the words of reading functions.
use Rattle.std.specs.Prelude.{ℕ, not, Bool, List, [], ◌∷◌, Option, None, Result, codes, if◌then◌else◌}
use Rattle.std.specs.Str.{bytes_eq}
use Rattle.text_tokens.specs.Tok.{Tok}
use Rattle.text_tokens.specs.declared.sign.Symbol.TheVariants as s
use Rattle.text_forms.specs.AllUnits as form
use Rattle.text_forms.specs.AllUnits.{by_units, text_by}
use Rattle.text_forms.specs.declared.text_fault.TextFault.{TextFault}
use Rattle.text_forms.specs.Parse.{Parse, begins_with, is_word_at, is_value, count_at, number_at, both, after, before, after_word, tested, seen, known, maybe}
use Rattle.text_forms.specs.Parse.{many, commas, listing, headed, enclosed}
use Rattle.text_blocks.specs.Parts.{round_at}
use Rattle.text_blocks.specs.Reading as blocks
use Rattle.streamit_text.specs.Blocks.{own_at, empty_at, style}
use Rattle.streamit_text.specs.Expressions.{expr_at}
use Rattle.streamit_text.specs.Leaves.{leaf_at}
use Rattle.streamit_text.specs.Program.{WorkTree, FilterTree, Dealing, Turns, Adds, Body, AFilter, APipeline, UnitForm, Program}
use Rattle.streamit_text.specs.Tree.{Block, Optional, or_unwritten}
use Rattle.streamit_text.specs.Grammar.{stay, Rate, push, pop, peek, Rates, unwritten, rates_in, made_work, made_filter, none_there, the_name, made_adds, copying}
use Rattle.streamit_text.specs.Grammar.{made_both, made_unit}

-- a block of a filter
unfoldable pub block_at : ℕ → Parse Block
block_at n ts = blocks.block_at (style (expr_at leaf_at)) 16 n ts

unfoldable pub still_at : ℕ → Parse Block
still_at n ts = tested stay (block_at n) ts

unfoldable pub init_at : ℕ → Parse Optional
init_at n ts = seen or_unwritten (maybe (is_word_at (codes "init")) (after_word (codes "init") (still_at n))) ts

unfoldable pub field_at : Parse (List ℕ)
field_at ts = after_word (codes "int") (before own_at (s.Semicolon ∷ [])) ts

abbrev pub no_field : List Tok → Bool
no_field ts = not (is_word_at (codes "int") ts)

unfoldable pub fields_at : Parse (List (List ℕ))
fields_at ts = many no_field field_at ts

unfoldable pub rate_after : List ℕ → Parse Rate
rate_after w ts =
    if bytes_eq w (codes "push") then seen push count_at ts
    else if bytes_eq w (codes "pop") then seen pop count_at ts
    else if bytes_eq w (codes "peek") then seen peek count_at ts
    else None

unfoldable pub rate_at : Parse Rate
rate_at ts = headed rate_after ts

abbrev pub at_block : List Tok → Bool
at_block ts = begins_with s.OpenBrace ts

unfoldable pub rate_list_at : Parse (List Rate)
rate_list_at ts = many at_block rate_at ts

unfoldable pub rates_at : Parse Rates
rates_at ts = known (rates_in unwritten) rate_list_at ts

unfoldable pub work_at : ℕ → Parse WorkTree
work_at n ts = seen made_work (both rates_at (block_at n)) ts

unfoldable pub prework_at : ℕ → Parse (Option WorkTree)
prework_at n ts = maybe (is_word_at (codes "prework")) (after_word (codes "prework") (work_at n)) ts

unfoldable pub works_at : ℕ → Parse (Option WorkTree × WorkTree)
works_at n ts = both (prework_at n) (after_word (codes "work") (work_at n)) ts

unfoldable pub in_filter_at : ℕ → Parse FilterTree
in_filter_at n ts = seen made_filter (both fields_at (both (init_at n) (works_at n))) ts

abbrev pub braces : {A : Type 0} → (ℕ → Parse A) → ℕ → Parse A
braces p = enclosed s.OpenBrace s.CloseBrace p

unfoldable pub filter_at : ℕ → Parse FilterTree
filter_at n ts = braces in_filter_at n ts

unfoldable pub parens_at : ℕ → Parse (Unit {0})
parens_at n ts = seen none_there (maybe (begins_with s.Open) (empty_at n)) ts

unfoldable pub called_at : ℕ → Parse (List ℕ)
called_at n ts = seen the_name (both own_at (parens_at n)) ts

unfoldable pub add_at : ℕ → Parse (List ℕ)
add_at n ts = after_word (codes "add") (before (called_at n) (s.Semicolon ∷ [])) ts

abbrev pub no_add : List Tok → Bool
no_add ts = not (is_word_at (codes "add") ts)

unfoldable pub more_adds_at : ℕ → Parse (List (List ℕ))
more_adds_at n ts = many no_add (add_at n) ts

unfoldable pub adds_at : ℕ → Parse Adds
adds_at n ts = seen made_adds (both (add_at n) (more_adds_at n)) ts

unfoldable pub weight_at : Parse ℕ
weight_at ts = tested is_value number_at ts

unfoldable pub some_weights_at : Parse (List ℕ)
some_weights_at ts = commas weight_at ts

unfoldable pub listed_at : ℕ → Parse (List ℕ)
listed_at n ts = round_at (λ m. listing s.Close weight_at) n ts

unfoldable pub weights_at : ℕ → Parse (Option (List ℕ))
weights_at n ts = maybe (begins_with s.Open) (listed_at n) ts

unfoldable pub split_after : ℕ → List ℕ → Parse Dealing
split_after n w ts =
    if bytes_eq w (codes "duplicate") then seen copying (parens_at n) ts
    else if bytes_eq w (codes "roundrobin") then seen Turns (weights_at n) ts
    else None

unfoldable pub split_at : ℕ → Parse Dealing
split_at n ts = after_word (codes "split") (before (headed (split_after n)) (s.Semicolon ∷ [])) ts

unfoldable pub join_at : ℕ → Parse (Option (List ℕ))
join_at n ts = after_word (codes "join") (after_word (codes "roundrobin") (before (weights_at n) (s.Semicolon ∷ []))) ts

unfoldable pub in_both_at : ℕ → Parse Body
in_both_at n ts = seen made_both (both (split_at n) (both (adds_at n) (join_at n))) ts

unfoldable pub pipe_at : ℕ → Parse Adds
pipe_at n ts = braces adds_at n ts

unfoldable pub both_at : ℕ → Parse Body
both_at n ts = braces in_both_at n ts

unfoldable pub body_after : ℕ → List ℕ → Parse Body
body_after n w ts =
    if bytes_eq w (codes "filter") then seen AFilter (filter_at n) ts
    else if bytes_eq w (codes "pipeline") then seen APipeline (pipe_at n) ts
    else if bytes_eq w (codes "splitjoin") then both_at n ts
    else None

unfoldable pub kind_after : ℕ → List ℕ → Parse UnitForm
kind_after n w ts = seen made_unit (both (called_at n) (body_after n w)) ts

unfoldable pub unit_at : Parse UnitForm
unit_at ts = after_word (codes "int") (after (s.Arrow ∷ []) (after_word (codes "int") (headed (kind_after 128)))) ts

abbrev pub unit_from : Unit {0} → Parse UnitForm
unit_from u = unit_at

-- the units of a text, of which there has to be one
abbrev pub some_units : List (List Tok) → Result (List UnitForm) ℕ
some_units us = form.some_units unit_at us

-- what is read of a text
abbrev pub program_in : List ℕ → Result Program TextFault
program_in text = text_by (by_units some_units) text
