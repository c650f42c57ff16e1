use Rattle.std.proofs.Common.{◌≡◌, ℕ, rules, List, ap, ◌∙◌, sym, subst, length, slice_index_or, ◌<◌}
use Rattle.river_base.proofs.Lists.{written_back}
use Rattle.lock_uses.specs.declared.crew.Worker.{Worker}
use Rattle.lock_uses.specs.Crews.{HasTakenTurn, HaveTurned}
use Rattle.lock_uses.proofs.Rounds.{turned}
use Rattle.lock_uses.proofs.round.run_two.Goals as goal

pub finish-requires-clause-turned : goal.finish-requires-clause-turned
finish-requires-clause-turned g c =
    let old = c.in_ok-workers.workers.items in
    let new = c.work_both.new.workers in
    let many : length new ≡ length old = c.work_both.ensures.len ∙ ap length c.as_mut_slice.ensures.value in
    let whole : c.in_ok-workers.workers.len ≡ length old = search rules in
    let each : (i : ℕ) (d : Worker) → i < length old
    → HasTakenTurn (slice_index_or old i d) (slice_index_or new i d) =
    λ i d lt. subst (λ (l : List Worker). HasTakenTurn (slice_index_or l i d) (slice_index_or new i d)) c.as_mut_slice.ensures.value
    (c.work_both.ensures.each i d (subst (λ (l : List Worker). i < length l) (sym c.as_mut_slice.ensures.value) lt)) in
    subst HaveTurned (sym (written_back new old c.in_ok-workers.workers.len many whole)) (turned old new c.in_ok-workers.ensures.workers many each)
