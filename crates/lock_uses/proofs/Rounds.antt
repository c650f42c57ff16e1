-- What two workers did in a round.
use Rattle.std.proofs.Common.{◌≡◌, ℕ, ◌<◌, false, List, [], ◌∷◌, length, slice_index_or, sym, refl, ap, ◌∙◌, subst, arith}
use Rattle.class_locks.specs.declared.view.View.{View}
use Rattle.class_locks.specs.Seats.{Chair, TableId}
use Rattle.lock_uses.specs.declared.crew.Worker.{Worker}
use Rattle.lock_uses.specs.Uses.{HasWorked}
use Rattle.lock_uses.specs.Crews.{AreSeated, HasTakenTurn, HaveTurned, first_view}

-- a worker that sat with its first view
one_turned : (k : ℕ) (z : TableId) (old new : Worker) → old.seat ≡ record { lot = z; view = first_view k } → old.op ≡ k → old.refused ≡ false
    → HasTakenTurn old new
    → new.refused ≡ false → HasWorked k new.added (first_view k) new.seat.view
one_turned k z old new seat op calm h now =
    subst (λ (n : ℕ). HasWorked n new.added (first_view k) new.seat.view) op
    (subst (λ (v : View). HasWorked old.op new.added v new.seat.view) (ap (λ (c : Chair). c.view) seat) (h.worked calm now))

-- where each worker of a crew has turned, the crew has
pub turned : (old new : List Worker) → AreSeated old → length new ≡ length old
    → ((i : ℕ) (d : Worker) → i < length old → HasTakenTurn (slice_index_or old i d) (slice_index_or new i d)) → HaveTurned new
turned old [] s n each = absurd (let m = ap length s.both in omega (arith, n, m))
turned old (x ∷ []) s n each = absurd (let m = ap length s.both in omega (arith, n, m))
turned old (x ∷ y ∷ z ∷ zs) s n each = absurd (let m = ap length s.both in omega (arith, n, m))
turned old (x ∷ y ∷ []) s n each =
    let m = ap length s.both in
    let one = subst (λ (l : List Worker). HasTakenTurn (slice_index_or l 0 x) x) s.both (each 0 x (omega (arith, m))) in
    let two = subst (λ (l : List Worker). HasTakenTurn (slice_index_or l 1 y) y) s.both (each 1 y (omega (arith, m))) in
    record {
      first = x;
      second = y;
      both = refl;
      lot = two.lot ∙ (ap (λ (c : Chair). c.lot) s.seats.1 ∙ (sym (ap (λ (c : Chair). c.lot) s.seats.0) ∙ sym one.lot));
      one = one_turned 0 s.lot s.first x s.seats.0 s.ops.0 s.calm.0 one;
      two = one_turned 1 s.lot s.second y s.seats.1 s.ops.1 s.calm.1 two;
    }
