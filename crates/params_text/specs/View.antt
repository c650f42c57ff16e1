-- What the code's values stand for.
use Rattle.std.specs.Prelude.{Option}
use Rattle.text_blocks.specs.Parts.{optional}
use Rattle.streamit_text.specs.Tree.{expression}
use Rattle.params_text.specs.Grammar as grammar
use Rattle.params_text.specs.Program.{ParamWork, work_of, Body, ASplitJoin, dealing_of, steps_of, rounds_of}
use Rattle.params_text.specs.declared.filter.Rate.{Rate}
use Rattle.params_text.specs.declared.filter.Rate.TheVariants as code_rate
use Rattle.params_text.specs.declared.program.ParamRates.{ParamRates}
use Rattle.params_text.specs.declared.program.ParamSplitJoin.{ParamSplitJoin}
use Rattle.params_text.specs.declared.program.ParamWork as code_work

abbrev pub rate_of : Rate → grammar.Rate
rate_of (code_rate.Push c) = grammar.push (expression c)
rate_of (code_rate.Pop c) = grammar.pop (expression c)
rate_of (code_rate.Peek c) = grammar.peek (expression c)

abbrev pub rates_of : ParamRates → grammar.Rates
rates_of r = record { push = optional expression r.push; pop = optional expression r.pop; peek = optional expression r.peek }

abbrev pub both_works : Option code_work.ParamWork × code_work.ParamWork → Option ParamWork × ParamWork
both_works w = (optional work_of w.0, work_of w.1)

abbrev pub split_join_of : ParamSplitJoin → Body
split_join_of b = ASplitJoin (dealing_of b.split) (steps_of b.steps) (rounds_of b.join)
