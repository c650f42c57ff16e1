-- How units are read: the grammar in the words of reading functions.
use Rattle.std.specs.Prelude.{ℕ, Bool, List, [], ◌∷◌, Option, None, Result, codes, if◌then◌else◌}
use Rattle.std.specs.Str.{bytes_eq}
use Rattle.text_tokens.specs.Tok.{Tok}
use Rattle.text_tokens.specs.declared.sign.Symbol.TheVariants as s
use Rattle.text_forms.specs.AllUnits as form
use Rattle.text_forms.specs.Parse.{Parse, is_word_at, both, after, before, after_word, tested, seen, known, maybe, many, headed}
use Rattle.text_blocks.specs.Reading as blocks
use Rattle.streamit_text.specs.Blocks as streamit
use Rattle.streamit_text.specs.Expressions.{expr_at}
use Rattle.streamit_text.specs.Grammar.{stay}
use Rattle.streamit_text.specs.Reading.{fields_at, at_block, braces, parens_at}
use Rattle.streamit_text.specs.Tree.{Expression, Block, Optional, or_unwritten}
use Rattle.params_text.specs.Chained.{chained}
use Rattle.params_text.specs.Parameters.{leaf_with}
use Rattle.params_text.specs.Params.{low}
use Rattle.params_text.specs.Steps.{constant_at, stream_name_at, params_at, constants_at, style}
use Rattle.params_text.specs.Grammar.{Rate, push, pop, peek, Rates, unwritten, rates_in, made_work, made_filter, copying, made_both, made_unit}
use Rattle.params_text.specs.Program.{ParamWork, ParamFilter, Step, Steps, Dealing, Turns, Body, AFilter, APipeline, UnitForm}

unfoldable pub step_at : ℕ → Parse Step
step_at n ts = blocks.stmt_at style 16 n ts

unfoldable pub pipe_at : ℕ → Parse Steps
pipe_at n ts = blocks.block_at style 16 n ts

unfoldable pub rate_after : ℕ → List ℕ → Parse Rate
rate_after n w ts =
    if bytes_eq w (codes "push") then seen push (constant_at n) ts
    else if bytes_eq w (codes "pop") then seen pop (constant_at n) ts
    else if bytes_eq w (codes "peek") then seen peek (constant_at n) ts
    else None

unfoldable pub rate_at : ℕ → Parse Rate
rate_at n ts = headed (rate_after n) ts

unfoldable pub rate_list_at : ℕ → Parse (List Rate)
rate_list_at n ts = many at_block (rate_at n) ts

unfoldable pub rates_at : ℕ → Parse Rates
rates_at n ts = known (rates_in unwritten) (rate_list_at n) ts

-- the statements of a block, with these parameters
unfoldable pub statements_at : List (List ℕ) → ℕ → Parse Block
statements_at ps n ts = blocks.block_at (streamit.style (expr_at (leaf_with ps))) 16 n ts

unfoldable pub block_at : List (List ℕ) → ℕ → Parse Block
block_at ps n ts = tested (low ps) (statements_at ps n) ts

unfoldable pub still_at : List (List ℕ) → ℕ → Parse Block
still_at ps n ts = tested stay (block_at ps n) ts

unfoldable pub init_at : List (List ℕ) → ℕ → Parse Optional
init_at ps n ts = seen or_unwritten (maybe (is_word_at (codes "init")) (after_word (codes "init") (still_at ps n))) ts

unfoldable pub work_at : List (List ℕ) → ℕ → Parse ParamWork
work_at ps n ts = seen made_work (both (rates_at n) (block_at ps n)) ts

unfoldable pub prework_at : List (List ℕ) → ℕ → Parse (Option ParamWork)
prework_at ps n ts = maybe (is_word_at (codes "prework")) (after_word (codes "prework") (work_at ps n)) ts

unfoldable pub works_at : List (List ℕ) → ℕ → Parse (Option ParamWork × ParamWork)
works_at ps n ts = both (prework_at ps n) (after_word (codes "work") (work_at ps n)) ts

unfoldable pub in_filter_at : List (List ℕ) → ℕ → Parse ParamFilter
in_filter_at ps n ts = seen made_filter (both fields_at (both (init_at ps n) (works_at ps n))) ts

unfoldable pub filter_at : List (List ℕ) → ℕ → Parse ParamFilter
filter_at ps n ts = braces (in_filter_at ps) n ts

unfoldable pub split_after : ℕ → List ℕ → Parse Dealing
split_after n w ts =
    if bytes_eq w (codes "duplicate") then seen copying (parens_at n) ts
    else if bytes_eq w (codes "roundrobin") then seen Turns (constants_at n) ts
    else None

unfoldable pub split_at : ℕ → Parse Dealing
split_at n ts = after_word (codes "split") (before (headed (split_after n)) (s.Semicolon ∷ [])) ts

unfoldable pub join_at : ℕ → Parse (Option (List Expression))
join_at n ts = after_word (codes "join") (after_word (codes "roundrobin") (before (constants_at n) (s.Semicolon ∷ []))) ts

-- the steps up to the joiner
abbrev pub at_join : List Tok → Bool
at_join ts = is_word_at (codes "join") ts

unfoldable pub steps_at : ℕ → Parse (List Step)
steps_at n ts = many at_join (step_at n) ts

unfoldable pub in_both_at : ℕ → Parse Body
in_both_at n ts = seen made_both (both (split_at n) (both (steps_at n) (join_at n))) ts

unfoldable pub both_at : ℕ → Parse Body
both_at n ts = braces in_both_at n ts

unfoldable pub body_after : ℕ → List ℕ → List (List ℕ) → Parse Body
body_after n w ps ts =
    if bytes_eq w (codes "filter") then seen AFilter (filter_at ps n) ts
    else if bytes_eq w (codes "pipeline") then seen APipeline (pipe_at n) ts
    else if bytes_eq w (codes "splitjoin") then both_at n ts
    else None

-- the parameters, and what stands behind them
unfoldable pub with_params_at : ℕ → List ℕ → Parse (List (List ℕ) × Body)
with_params_at n w ts = chained (params_at n) (body_after n w) ts

unfoldable pub kind_after : ℕ → List ℕ → Parse UnitForm
kind_after n w ts = seen made_unit (both stream_name_at (with_params_at n w)) ts

unfoldable pub unit_at : Parse UnitForm
unit_at ts = after_word (codes "int") (after (s.Arrow ∷ []) (after_word (codes "int") (headed (kind_after 128)))) ts

abbrev pub unit_from : Unit {0} → Parse UnitForm
unit_from u = unit_at

-- the units of a text, of which there has to be one
abbrev pub some_units : List (List Tok) → Result (List UnitForm) ℕ
some_units us = form.some_units unit_at us
