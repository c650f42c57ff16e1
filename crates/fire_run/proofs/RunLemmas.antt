-- A run of one net, round by round, and then move by move.
use Rattle.std.proofs.Common.{◌≡◌, ℕ, ◌+◌, ◌*◌, ◌-◌, ◌<◌, ◌≤◌, ◌%◌, ◌⊎◌, ◌∙◌, List, Result, Ok, Err, IfOk, length, arith, ap, refl, sym, subst}
use Rattle.std.specs.Prelude.{All, Bool, true, false, IsTrue, IsFalse}
use Rattle.std.proofs.Math.Nat.{mod-eq_of_lt}
use Rattle.std.proofs.lemmas.List.{length-map}
use Rattle.river_base.specs.declared.item.Item as item
use Rattle.river_base.specs.declared.memory.NoMemory.{NoMemory}
use Rattle.river_plan.specs.Forms.{PlanForm, op_form, plan_form, queue_names}
use Rattle.river_plan.specs.declared.plan.RawPlan.{RawPlan}
use Rattle.river_plan.specs.Valid.{IsPlan}
use Rattle.brooklet_model.specs.Bounded.{Capacities}
use Rattle.brooklet_model.specs.Histories.{hist, lengths}
use Rattle.fire_tasks.specs.declared.bundle.Bundle.{Bundle}
use Rattle.fire_tasks.specs.Adds.{added, logs_of}
use Rattle.fire_tasks.specs.Bundles.{AllGoOn, IsReady}
use Rattle.fire_tasks.specs.Ports.{HasMoved}
use Rattle.fire_tasks.specs.Tasks.{all_ends, all_moves}
use Rattle.fire_tasks.proofs.BundleLemmas.{ends_many}
use Rattle.fire_tasks.proofs.Fronts.{all_same, all_then, tasks_grew, tasks_short, tasks_stay}
use Rattle.fire_tasks.proofs.Numbers.{numbers_law}
use Rattle.fire_run.specs.declared.closing.Ran.{Ran}
use Rattle.fire_run.specs.declared.net.Net.{Net}
use Rattle.fire_run.specs.Closed.{AreLogsIn, HasClosed}
use Rattle.fire_run.specs.declared.running.Round.{Round}
use Rattle.fire_run.specs.declared.running.Round.TheVariants.{Late, Moved, Still}
use Rattle.fire_run.specs.NetOf.{AreIdle, HasNet, HasNetAt, Stays, OneMore}
use Rattle.fire_run.specs.Frames.{Framed, AreBundlesOf, AreCalm, AreDealt, AreTasksOf, HaveWorked, bundle_moves}
use Rattle.fire_run.specs.Rounds.{HasJoined, HasRound, NetGoesOn, OnceMoved, SomeMoved}
use Rattle.fire_run.proofs.GoingOn.{parts_go}
use Rattle.fire_run.proofs.RoundLemmas.{are_ready, round_bundles, round_each, round_falls, round_grew, round_stayed, round_told}

-- STAYING A NET

-- a net is one of the same plan, inputs and capacities as it is
pub stays_same : (p : PlanForm) (net : Net) → HasNet p net → Stays p net net
stays_same p net h = record { fine = h.fine; is = λ inputs caps k. k }

-- what stays, and then stays again, stays
pub stays_then : (p : PlanForm) (a b c : Net) → Stays p a b → Stays p b c → Stays p a c
stays_then p a b c s t = record { fine = t.fine; is = λ inputs caps k. t.is inputs caps (s.is inputs caps k) }

-- so it is a net
pub stays_has : (p : PlanForm) (a b : Net) → HasNet p a → Stays p a b → HasNet p b
stays_has p a b h s = record { fine = s.fine; inputs = h.inputs; caps = h.caps; is = s.is h.inputs h.caps h.is }

-- a net that was just opened is one
pub opened_has : (p : PlanForm) (inputs : List (List item.Item)) (caps : Capacities) (net : Net) → HasNetAt p inputs caps net → HasNet p net
opened_has p inputs caps net h = record { fine = h.fine; inputs = inputs; caps = caps; is = h.is }

-- A ROUND

-- bundles of a frame are ready for a round
pub ready_by : (raw : RawPlan) (p : PlanForm) (f : Framed) (bs : List Bundle) → plan_form raw ≡ p → AreBundlesOf p f bs → All (IsReady raw) bs
ready_by raw p f bs e h = are_ready raw f bs (subst (λ (q : PlanForm). AreBundlesOf q f bs) (sym e) h)

-- after it they are bundles of the frame still
pub worked : (raw : RawPlan) (p : PlanForm) (f : Framed) (bs bs' : List Bundle) → plan_form raw ≡ p → AreBundlesOf p f bs → HaveWorked raw bs bs' → AreCalm bs'
    → AreBundlesOf p f bs'
worked raw p f bs bs' e h w calm =
    subst (λ (q : PlanForm). AreBundlesOf q f bs') e (round_bundles raw f bs bs' (subst (λ (q : PlanForm). AreBundlesOf q f bs) (sym e) h) w calm)

-- bundles of a frame worked, and were joined
pub joined : (raw : RawPlan) (p : PlanForm) (f : Framed) (bs bs' : List Bundle) (net : Net) (moved : Bool) → plan_form raw ≡ p → AreBundlesOf p f bs
    → AreDealt f.net f.workers bs → HaveWorked raw bs bs' → AreCalm bs' → ((q : PlanForm) → AreBundlesOf q f bs' → Stays q f.net net)
    → all_ends net.tasks ≡ all_ends f.net.tasks → AreTasksOf bs' net.tasks → all_moves net.tasks ≡ bundle_moves bs'
    → (IsTrue moved → SomeMoved bs') → (IsFalse moved → All (λ b. b.moved ≡ false) bs') → HasJoined p f bs net moved
joined raw p f bs bs' net moved e h dealt w calm stays ends theirs moves some none = record {
  stays = stays p (worked raw p f bs bs' e h w calm);
  ends = ends;
  goes_on = parts_go f.workers f.net.tasks net.tasks bs bs' h.seated.some h.seated.many w.many (λ k d lt. (dealt.each k d lt).tasks)
      (round_each raw bs bs' w calm) theirs ends;
  number = subst (λ (n : ℕ). HasMoved (bundle_moves bs) n moved) (sym moves) (record {
    never_falls = round_falls raw bs bs' w calm;
    grew = λ t. let m = some t in round_grew raw bs bs' w calm m.which m.bundle m.there m.moved;
    stayed = λ t. round_stayed raw bs bs' w calm (none t);
  });
  ended = record { worked = bs'; many = w.many; ended = (round_told raw bs bs' w calm).ended; tasks = theirs };
}

-- a net goes on where each task does, and the numbers say whether something moved
pub net_goes : (p : PlanForm) (net net' : Net) (round : Round) → Stays p net net' → all_ends net'.tasks ≡ all_ends net.tasks → AllGoOn net.tasks net'.tasks
    → (round ≡ Moved → all_moves net.tasks < all_moves net'.tasks) → ((round ≡ Moved → ⊥) → all_moves net'.tasks ≡ all_moves net.tasks)
    → NetGoesOn p net net' round
net_goes p net net' round s e g more same = record {
  stays = s;
  ends = e;
  goes_on = g;
  never_falls = tasks_short net.tasks net'.tasks e g;
  grew = more;
  some_grew = λ t. tasks_grew net.tasks net'.tasks e (more t);
  as_many = same;
  stayed = λ f. tasks_stay net.tasks net'.tasks e g (let x = same f in omega (arith, x));
}

-- a net that was split, and whose bundles worked, goes on
pub goes_round : (p : PlanForm) (net net' : Net) (f : Framed) (bs : List Bundle) (moved : Bool) (round : Round) (n : ℕ) → f ≡ record { net = net; workers = n }
    → bundle_moves bs ≡ all_moves net.tasks → HasJoined p f bs net' moved → (round ≡ Moved → IsTrue moved) → ((round ≡ Moved → ⊥) → IsFalse moved)
    → NetGoesOn p net net' round
goes_round p net net' f bs moved round n e m j g h =
    net_goes p net net' round (subst (λ (x : Framed). Stays p x.net net') e j.stays)
    (subst (λ (x : Framed). all_ends net'.tasks ≡ all_ends x.net.tasks) e j.ends)
    (subst (λ (x : Framed). AllGoOn x.net.tasks net'.tasks) e j.goes_on)
    (λ t. let a = j.number.grew (g t) in omega (arith, a, m)) (λ t. let a = j.number.stayed (h t) in omega (arith, a, m))

-- something moved
pub goes_moved : (p : PlanForm) (net net' : Net) (f : Framed) (bs : List Bundle) (moved : Bool) (n : ℕ) → f ≡ record { net = net; workers = n }
    → bundle_moves bs ≡ all_moves net.tasks → HasJoined p f bs net' moved → moved ≡ true → NetGoesOn p net net' Moved
goes_moved p net net' f bs moved n e m j t = goes_round p net net' f bs moved Moved n e m j (λ q. t) (λ q. absurd (q refl))

-- nothing moved
pub goes_still : (p : PlanForm) (net net' : Net) (f : Framed) (bs : List Bundle) (moved : Bool) (n : ℕ) → f ≡ record { net = net; workers = n }
    → bundle_moves bs ≡ all_moves net.tasks → HasJoined p f bs net' moved → moved ≡ false → NetGoesOn p net net' Still
goes_still p net net' f bs moved n e m j t = goes_round p net net' f bs moved Still n e m j (λ q. absurd (cc q)) (λ q. t)

-- then a move of it
pub goes_then : (p : PlanForm) (a b c : Net) (round : Round) → NetGoesOn p a b Still → NetGoesOn p b c round → NetGoesOn p a c round
goes_then p a b c round g h =
    let none = g.as_many (λ q. absurd (cc q)) in
    net_goes p a c round (stays_then p a b c g.stays h.stays) (h.ends ∙ g.ends)
    (all_then a.tasks b.tasks c.tasks (ends_many a.tasks b.tasks g.ends) g.goes_on h.goes_on)
    (λ t. let y = h.grew t in omega (arith, none, y)) (λ t. let y = h.as_many t in omega (arith, none, y))

-- a move, or none
pub goes_move : (p : PlanForm) (net net' : Net) (moved : Bool) (round : Round) → Stays p net net' → all_ends net'.tasks ≡ all_ends net.tasks
    → AllGoOn net.tasks net'.tasks → OneMore (all_moves net.tasks) (all_moves net'.tasks) moved → (round ≡ Moved → IsTrue moved)
    → ((round ≡ Moved → ⊥) → IsFalse moved) → NetGoesOn p net net' round
goes_move p net net' moved round s e g o more none =
    net_goes p net net' round s e g (λ t. let a = o.one (more t) in omega (arith, a)) (λ t. o.none (none t))

-- no round: the net is as it was
pub goes_late : (p : PlanForm) (net net' : Net) → HasNet p net → net' ≡ net → NetGoesOn p net net' Late
goes_late p net net' h e =
    subst (λ (n : Net). NetGoesOn p net n Late) (sym e) (net_goes p net net Late (stays_same p net h) refl (all_same net.tasks) (λ q. absurd (cc q)) (λ q. refl))

-- the bundles of a net that was split made a round
pub rounded : (p : PlanForm) (net mid net' : Net) (f : Framed) (bs : List Bundle) (moved : Bool) (n : ℕ) → AreDealt net n bs → HasJoined p f bs mid moved
    → (net' ≡ mid) ⊎ OnceMoved p mid net' → HasRound p n net net'
rounded p net mid net' f bs moved n d j b = record { bundles = bs; dealt = d; joined = mid; ended = j.ended; behind = b }

-- as a frame's net they are dealt
pub dealt_in : (net : Net) (f : Framed) (bs : List Bundle) (n : ℕ) → f ≡ record { net = net; workers = n } → AreDealt net n bs → AreDealt f.net f.workers bs
dealt_in net f bs n e d = subst (λ (x : Framed). AreDealt x.net x.workers bs) (sym e) d

-- WORKERS

-- where there are fewer operators than workers, each works for the worker of its number
pub own_worker : (i n w : ℕ) → i < n → n < w → i % n ≡ i % w
own_worker i n w a b = mod-eq_of_lt a ∙ sym (mod-eq_of_lt (lt_then a b))
  where
    lt_then : i < n → n < w → i < w
    lt_then x y = omega arith

-- the operators of a plan are those of its lists
pub many_ops : (raw : RawPlan) (p : PlanForm) → plan_form raw ≡ p → length raw.ops ≡ length p.ops
many_ops raw p e = sym (length-map raw.ops op_form) ∙ ap (λ (q : PlanForm). length q.ops) e

-- ROUNDS

-- a net after so many rounds: in each something moved
pub record WentOn (p : PlanForm) (first : Net) (n : ℕ) (net : Net) : Type 0 where
  pub stays : Stays p first net
  pub many : n ≤ all_moves net.tasks

-- before the first round
pub went_first : (p : PlanForm) (net : Net) → HasNet p net → WentOn p net 0 net
went_first p net h = record { stays = stays_same p net h; many = omega arith }

-- one round more
pub went_next : (p : PlanForm) (first : Net) (n : ℕ) (net net' : Net) (round : Round) → WentOn p first n net → NetGoesOn p net net' round → round ≡ Moved
    → WentOn p first (n + 1) net'
went_next p first n net net' round w g e =
    record { stays = stays_then p first net net' w.stays g.stays; many = let a = w.many in let b = g.grew e in omega (arith, a, b) }

-- a last round, or none
pub went_end : (p : PlanForm) (first : Net) (n : ℕ) (net net' : Net) (round : Round) → WentOn p first n net → NetGoesOn p net net' round
    → Stays p first net' × (n + 1 ≤ 1 + all_moves net'.tasks)
went_end p first n net net' round w g =
    (stays_then p first net net' w.stays g.stays, let a = w.many in let b = g.never_falls in omega (arith, a, b))

-- MOVES

-- how many moves are left at most
abbrev pub moves_left : PlanForm → List (List item.Item) → Net → ℕ
moves_left p inputs net = 2 * lengths (hist p inputs) (queue_names p) - all_moves net.tasks

-- the net is one of these inputs and capacities, and made so many rounds, at most 1 more than its moves
pub record RanFor (p : PlanForm) (inputs : List (List item.Item)) (caps : Capacities) (rounds : ℕ) (net : Net) : Type 0 where
  pub valid : IsPlan p
  pub has : HasNetAt p inputs caps net
  pub few : rounds ≤ 1 + all_moves net.tasks

-- after the rounds
pub ran_first : (p : PlanForm) (inputs : List (List item.Item)) (caps : Capacities) (rounds : ℕ) (net net' : Net) → IsPlan p → HasNetAt p inputs caps net
    → Stays p net net' → rounds ≤ 1 + all_moves net'.tasks → RanFor p inputs caps rounds net'
ran_first p inputs caps rounds net net' v h s few = record { valid = v; has = record { fine = s.fine; is = s.is inputs caps h.is }; few = few }

-- it is a net
pub ran_has : (p : PlanForm) (inputs : List (List item.Item)) (caps : Capacities) (rounds : ℕ) (net : Net) → RanFor p inputs caps rounds net → HasNet p net
ran_has p inputs caps rounds net r = opened_has p inputs caps net r.has

-- and stays one, whether a move was made or not
pub ran_next : (p : PlanForm) (inputs : List (List item.Item)) (caps : Capacities) (rounds : ℕ) (net net' : Net) (b : Bool) → RanFor p inputs caps rounds net
    → Stays p net net' → OneMore (all_moves net.tasks) (all_moves net'.tasks) b → RanFor p inputs caps rounds net'
ran_next p inputs caps rounds net net' b r s o =
    record { valid = r.valid; has = record { fine = s.fine; is = s.is inputs caps r.has.is }; few = (let k = r.few in grown b o k) }
  where
    grown : (b : Bool) → OneMore (all_moves net.tasks) (all_moves net'.tasks) b → rounds ≤ 1 + all_moves net.tasks → rounds ≤ 1 + all_moves net'.tasks
    grown true o k = let a = o.one refl in omega (arith, a, k)
    grown false o k = let a = o.none refl in omega (arith, a, k)

-- after a move there are fewer to come
pub ran_less : (p : PlanForm) (inputs : List (List item.Item)) (caps : Capacities) (rounds : ℕ) (net net' : Net) (b : Bool) → RanFor p inputs caps rounds net
    → Stays p net net' → OneMore (all_moves net.tasks) (all_moves net'.tasks) b → b ≡ true → moves_left p inputs net' < moves_left p inputs net
ran_less p inputs caps rounds net net' b r s o e =
    let h = ran_next p inputs caps rounds net net' b r s o in
    let k = h.has.is in
    let f = numbers_law p inputs caps (added p (logs_of net'.cells)) net'.tasks h.valid k.laid k.tasks k.settled k.typed in
    let a = o.one e in
    omega (arith, f, a)

-- THE END

both_ok : {A E : Type 0} (r : Result A E) (P Q R : A → Type 0) → ((x : A) → P x → Q x → R x) → IfOk r P → IfOk r Q → IfOk r R
both_ok (Ok x) P Q R f a b = f x a b
both_ok (Err e) P Q R f a b = a

-- the net that was closed had these capacities, and what was run has its logs
pub has_closed : (p : PlanForm) (inputs : List (List item.Item)) (caps : Capacities) (rounds : ℕ) (net : Net) (r : Result Ran NoMemory)
    → RanFor p inputs caps rounds net → AreIdle net.tasks → IfOk r (λ ran. ran.net.value ≡ net) → IfOk r (λ ran. AreLogsIn net.cells ran.logs)
    → IfOk r (HasClosed p inputs caps)
has_closed p inputs caps rounds net r h idle is logs =
    both_ok r (λ ran. ran.net.value ≡ net) (λ ran. AreLogsIn net.cells ran.logs) (HasClosed p inputs caps)
    (λ ran e l. record {
      valid = h.valid;
      has = subst (HasNetAt p inputs caps) (sym e) h.has;
      idle = subst (λ (n : Net). AreIdle n.tasks) (sym e) idle;
      logs = subst (λ (n : Net). AreLogsIn n.cells ran.logs) (sym e) l;
    })
    is logs
