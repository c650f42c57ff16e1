use Rattle.std.proofs.Common.{rules, of_calls, ℤ, List, ap, ◌∙◌}
use Rattle.std.proofs.lemmas.Fn.{always_returns_same}
use Rattle.river_base.specs.Instants.{at_instant}
use Rattle.csv_streams.proofs.Spreading.{stamp, same_at}
use Rattle.csv_streams.proofs.instant.in_turn.Goals as goal

pub returns-clause-sorted : goal.returns-clause-sorted
returns-clause-sorted c = c.in_ok-sort_by_key.ensures.sorted stamp (always_returns_same _ _ _ (λ a r f k. search (rules, of_calls)))

pub returns-clause-same : goal.returns-clause-same
returns-clause-same c t =
    same_at c.in_ok-sorted.sorted.items c.sort_by_key.new.self.items
    (c.sort_by_key.ensures.stable stamp (always_returns_same _ _ _ (λ a r f k. search (rules, of_calls)))) t
    ∙ ap (λ (l : List (ℤ × List ℤ)). at_instant l t) c.in_ok-sorted.ensures.items
