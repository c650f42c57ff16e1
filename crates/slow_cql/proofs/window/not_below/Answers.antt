use Rattle.std.proofs.Common.{rules, of_calls, refl, sym, ◌∙◌, int_lt}
use Rattle.std.specs.Prelude.{not}
use Rattle.std.proofs.lemmas.Fn.{always_returns_same}
use Rattle.std.proofs.lemmas.List.{take_rest}
use Rattle.csv_streams.proofs.Spreading.{below_in_front}
use Rattle.slow_cql.specs.Kept.{Entry}
use Rattle.slow_cql.proofs.Windows.{passes_back}
use Rattle.slow_cql.proofs.window.not_below.Goals as goal

pub returns : goal.returns
returns c =
    let es = c.args.entries.now in
    let at = c.args.at in
    let n = c.partition_point-first.result in
    let first = c.partition_point-first.ensures.partitioned (λ (e : Entry). int_lt e.0 at) (always_returns_same _ _ _ (λ a r f k. search (rules, of_calls)))
    (below_in_front es at c.requires) in
    take_rest es n ∙ sym (passes_back (λ e. int_lt e.0 at) (λ e. not (int_lt e.0 at)) es n (λ e. refl) c.partition_point-first.ensures.bound first)
