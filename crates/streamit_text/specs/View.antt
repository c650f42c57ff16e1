-- What the code's values stand for.
use Rattle.std.specs.Prelude.{Bool, Option, None, Some}
use Rattle.streamit_text.specs.Blocks.{Head}
use Rattle.streamit_text.specs.Grammar as grammar
use Rattle.text_blocks.specs.Parts.{optional}
use Rattle.streamit_text.specs.Program.{WorkTree, work_tree, Body, ASplitJoin, weights_of, dealing_of, adds_of}
use Rattle.streamit_text.specs.Tree.{Expression, expression, is_turn}
use Rattle.streamit_text.specs.declared.filter.Rate.{Rate}
use Rattle.streamit_text.specs.declared.filter.Rate.TheVariants as code_rate
use Rattle.streamit_text.specs.declared.program.SplitJoin.{SplitJoin}
use Rattle.streamit_text.specs.declared.statement.ForHead as code
use Rattle.streamit_text.specs.declared.statement.Upper.{Upper}
use Rattle.streamit_text.specs.declared.tree.Rates.{Rates}
use Rattle.streamit_text.specs.declared.tree.WorkTree as code_work

abbrev pub head_of : code.ForHead → Head
head_of h = record { name = h.name; low = expression h.low; upto = is_turn h.upper.until; high = expression h.upper.high }

abbrev pub upper_of : Upper → Bool × (Expression × Unit {0})
upper_of u = (is_turn u.until, (expression u.high, tt))

abbrev pub split_join_of : SplitJoin → Body
split_join_of b = ASplitJoin (dealing_of b.split) (adds_of b.adds) (weights_of b.join)

abbrev pub rate_of : Rate → grammar.Rate
rate_of (code_rate.Push n) = grammar.push n
rate_of (code_rate.Pop n) = grammar.pop n
rate_of (code_rate.Peek n) = grammar.peek n

abbrev pub rates_of : Rates → grammar.Rates
rates_of r = record { push = r.push; pop = r.pop; peek = r.peek }

abbrev pub works_tree : Option code_work.WorkTree × code_work.WorkTree → Option WorkTree × WorkTree
works_tree w = (optional work_tree w.0, work_tree w.1)

abbrev pub option_rates : Option Rates → Option grammar.Rates
option_rates None = None
option_rates (Some r) = Some (rates_of r)
