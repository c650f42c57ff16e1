-- What a round keeps of the bundles of a frame.
use Rattle.std.proofs.Common.{◌≡◌, ℕ, zero, suc, ◌<◌, ◌≤◌, List, [], ◌∷◌, length, ◌∙◌, arith, get_or}
use Rattle.std.specs.Prelude.{All, true, false}
use Rattle.river_plan.specs.Forms.{plan_form}
use Rattle.river_plan.specs.declared.plan.RawPlan.{RawPlan}
use Rattle.class_locks.specs.Seats.{TableId}
use Rattle.fire_tasks.specs.Bundles.{HasGone, HasMadeRound, IsReady}
use Rattle.fire_tasks.specs.declared.bundle.Bundle.{Bundle}
use Rattle.fire_run.specs.Frames.{AreBundlesOf, AreCalm, AreSeatedIn, Framed, HasToldMoves, HaveWorked, SitsAt, bundle_moves}

-- the bundles of a frame can work by the lists of its plan
pub are_ready : (raw : RawPlan) (f : Framed) (bs : List Bundle) → AreBundlesOf (plan_form raw) f bs → All (IsReady raw) bs
are_ready raw f bs h = λ k d lt. (h.valid, (h.each k d lt).bundle)

sits_still : (raw : RawPlan) (z : TableId) (f : Framed) (k : ℕ) (b b' : Bundle) → SitsAt z f k b.seat → HasMadeRound raw b b' → SitsAt z f k b'.seat
sits_still raw z f k b b' s w = record {
  lot = w.seat.lot ∙ s.lot;
  seats = w.seat.round.seats ∙ s.seats;
  starts = w.seat.round.starts ∙ s.starts;
  parts = w.seat.round.parts ∙ s.parts;
  rests = w.bundle.rests;
}

-- they stay bundles of their frame, some of which may be refused
pub round_seated : (raw : RawPlan) (f : Framed) (bs bs' : List Bundle) → AreSeatedIn f bs → HaveWorked raw bs bs' → AreSeatedIn f bs'
round_seated raw f bs bs' s w = record {
  some = s.some;
  many = w.many ∙ s.many;
  lot = s.lot;
  each = λ k d lt.
      let m = w.many in
      let l : k < length bs = omega (arith, lt, m) in
      sits_still raw s.lot f k (get_or bs k d) (get_or bs' k d) (s.each k d l) (w.each k d l);
}

-- where none was refused they are all as a frame's bundles are
pub round_bundles : (raw : RawPlan) (f : Framed) (bs bs' : List Bundle) → AreBundlesOf (plan_form raw) f bs → HaveWorked raw bs bs' → AreCalm bs'
    → AreBundlesOf (plan_form raw) f bs'
round_bundles raw f bs bs' h w c = record {
  valid = h.valid;
  net = h.net;
  seated = round_seated raw f bs bs' h.seated w;
  each = λ k d lt.
      let m = w.many in
      let l : k < length bs = omega (arith, lt, m) in
      let x = w.each k d l in
      record { bundle = x.bundle; calm = c k d lt; ends = (x.went (c k d lt)).ends ∙ (h.each k d l).ends };
}

rest_worked : (raw : RawPlan) (b b' : Bundle) (bs bs' : List Bundle) → HaveWorked raw (b ∷ bs) (b' ∷ bs') → HaveWorked raw bs bs'
rest_worked raw b b' bs bs' w = record { many = (let m = w.many in omega (arith, m)); each = λ i d lt. w.each (suc i) d (omega (arith, lt)) }

rest_calm : (b : Bundle) (bs : List Bundle) → AreCalm (b ∷ bs) → AreCalm bs
rest_calm b bs c = λ k d lt. c (suc k) d (omega (arith, lt))

-- the items that they took and sent together do not become fewer
pub round_falls : (raw : RawPlan) (bs bs' : List Bundle) → HaveWorked raw bs bs' → AreCalm bs' → bundle_moves bs ≤ bundle_moves bs'
round_falls raw [] [] w c = omega arith
round_falls raw [] (b' ∷ bs') w c = absurd (let m = w.many in omega (arith, m))
round_falls raw (b ∷ bs) [] w c = absurd (let m = w.many in omega (arith, m))
round_falls raw (b ∷ bs) (b' ∷ bs') w c =
    let n = ((w.each 0 b (omega arith)).went (c 0 b (omega arith))).number.never_falls in
    let r = round_falls raw bs bs' (rest_worked raw b b' bs bs' w) (rest_calm b' bs' c) in
    omega (arith, n, r)

-- where one moved they become more
pub round_grew : (raw : RawPlan) (bs bs' : List Bundle) → HaveWorked raw bs bs' → AreCalm bs' → (i : ℕ) (d : Bundle) → i < length bs'
    → (get_or bs' i d).moved ≡ true → bundle_moves bs < bundle_moves bs'
round_grew raw bs [] w c i d lt e = absurd (omega (arith, lt))
round_grew raw [] (b' ∷ bs') w c i d lt e = absurd (let m = w.many in omega (arith, m))
round_grew raw (b ∷ bs) (b' ∷ bs') w c zero d lt e =
    let n = ((w.each 0 b (omega arith)).went (c 0 b (omega arith))).number.grew e in
    let r = round_falls raw bs bs' (rest_worked raw b b' bs bs' w) (rest_calm b' bs' c) in
    omega (arith, n, r)
round_grew raw (b ∷ bs) (b' ∷ bs') w c (suc i) d lt e =
    let n = ((w.each 0 b (omega arith)).went (c 0 b (omega arith))).number.never_falls in
    let r = round_grew raw bs bs' (rest_worked raw b b' bs bs' w) (rest_calm b' bs' c) i d (omega (arith, lt)) e in
    omega (arith, n, r)

-- where none moved they are as many
pub round_stayed : (raw : RawPlan) (bs bs' : List Bundle) → HaveWorked raw bs bs' → AreCalm bs' → All (λ b. b.moved ≡ false) bs'
    → bundle_moves bs' ≡ bundle_moves bs
round_stayed raw [] [] w c s = omega arith
round_stayed raw [] (b' ∷ bs') w c s = absurd (let m = w.many in omega (arith, m))
round_stayed raw (b ∷ bs) [] w c s = absurd (let m = w.many in omega (arith, m))
round_stayed raw (b ∷ bs) (b' ∷ bs') w c s =
    let n = ((w.each 0 b (omega arith)).went (c 0 b (omega arith))).number.stayed (s 0 b (omega arith)) in
    let r = round_stayed raw bs bs' (rest_worked raw b b' bs bs' w) (rest_calm b' bs' c) (λ k d lt. s (suc k) d (omega (arith, lt))) in
    omega (arith, n, r)

-- port by port of each task
pub round_each : (raw : RawPlan) (bs bs' : List Bundle) → HaveWorked raw bs bs' → AreCalm bs' → (i : ℕ) (d : Bundle) → i < length bs
    → HasGone (get_or bs i d) (get_or bs' i d) (get_or bs' i d).moved
round_each raw bs bs' w c i d lt = (w.each i d lt).went (c i d (let m = w.many in omega (arith, m, lt)))

-- so they tell whether anything moved
pub round_told : (raw : RawPlan) (bs bs' : List Bundle) → HaveWorked raw bs bs' → AreCalm bs' → HasToldMoves bs bs'
round_told raw bs bs' w c = record {
  each = round_each raw bs bs' w c;
  ended = λ i d lt. (w.each i d lt).ended (c i d (let m = w.many in omega (arith, m, lt)));
  never_fall = round_falls raw bs bs' w c;
  grew = round_grew raw bs bs' w c;
  stayed = round_stayed raw bs bs' w c;
}
