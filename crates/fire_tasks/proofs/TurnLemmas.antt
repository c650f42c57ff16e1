-- Turns of a task at its seat.
use Rattle.std.proofs.Common.{◌≡◌, ◌≢◌, ℕ, zero, suc, ◌+◌, ◌<◌, ◌≤◌, ◌%◌, Bool, true, false, Some, None, List, [], ◌∷◌, ◌++◌, length, refl, sym, ap, ◌∙◌, subst}
use Rattle.std.proofs.Common.{arith, inl, inr, ⊎_elim, append_assoc}
use Rattle.std.specs.Prelude.{All, slice_get, slice_index_or, IsFalse}
use Rattle.std.proofs.lemmas.List.{append-nil}
use Rattle.std.proofs.lemmas.Option.{same_Some}
use Rattle.river_base.proofs.Lists.{there_is, got_all}
use mathlib.Core.Option.{some-injective}
use lib.ListN.{get_elem?}
use Rattle.river_plan.specs.Forms.{OpForm, PlanForm}
use Rattle.river_plan.specs.Valid.{IsPlan}
use Rattle.brooklet_model.specs.Fire.{tabs}
use Rattle.class_locks.specs.declared.log.LogEntry.{LogEntry}
use Rattle.class_locks.specs.declared.view.View.{View}
use Rattle.class_locks.specs.declared.view.Claim.{Claim}
use Rattle.class_locks.specs.declared.view.Tried.{Tried}
use Rattle.class_locks.specs.Logs.{Holding, HasKind, entries_of_part}
use Rattle.class_locks.specs.Rule.{IsLogged}
use Rattle.class_locks.specs.Piles.{Piled, HasLooked, HasTaken, HasPut, HasMoreTries, FoundTaken}
use Rattle.class_locks.specs.Views.{StandsIn, own}
use Rattle.class_locks.proofs.Lists.{at_within}
use Rattle.river_base.specs.declared.item.Item as item
use Rattle.fire_tasks.specs.Inlet as inlet
use Rattle.fire_tasks.specs.Outlet as outlet
use Rattle.fire_tasks.specs.declared.task.Task.{Task}
use Rattle.fire_tasks.specs.Adds.{AreCells, AreClaims, AreOwn, added, logs_at, logs_of, table_class}
use Rattle.fire_tasks.specs.Ports.{HasMoved, InEnd, OutEnd, AllReceived, IsIdle, RefusedAll, Sent, in_ends, out_ends, received_count, received_in, sent_count}
use Rattle.fire_tasks.specs.Tasks.{ExtendsFronts, IsTask, IsTaskAt, TaskEnds, ends_of, moves}
use Rattle.fire_tasks.specs.Turns.{AreCellsOf, HasSat, HasTakenAt, HasTried, HasTurned, IsSeatOf, SameRound, StillSits, classes_of, logged}
use Rattle.fire_tasks.proofs.AddLemmas.{added_else, added_more, class_is, entries_logged, logged_none, logged_own}
use Rattle.fire_tasks.proofs.Fronts.{goes_same, goes_sent, goes_then}
use Rattle.fire_tasks.proofs.PassLemmas.{moved_true, moved_false, moved_first, moved_second, sent_task, looked_task, turn_sent, with_sent}
use Rattle.fire_tasks.proofs.PortLemmas.{ins_many}
use Rattle.fire_tasks.proofs.SeatLemmas.{same_round, own_grew, claims_all, claims_grew, part_own, part_within}
use Rattle.fire_tasks.proofs.TaskLemmas.{table_there, tables_many, with_adds}

-- THE SEAT

same_here : (v : View) → SameRound v v
same_here v = record { seats = refl; starts = refl; parts = refl }

-- the same round twice is the same round
pub round_then : (v u w : View) → SameRound v u → SameRound u w → SameRound v w
round_then v u w a b = record { seats = b.seats ∙ a.seats; starts = b.starts ∙ a.starts; parts = b.parts ∙ a.parts }

-- a seat that holds no class still sits
pub sits_none : (v : View) → v.held ≡ [] → StillSits v v
sits_none v h = record { round = same_here v; rests = h }

-- a seat that still sits after one step and after the next still sits after both
pub sits_then : (v u w : View) → StillSits v u → StillSits u w → StillSits v w
sits_then v u w a b = record { round = round_then v u w a.round b.round; rests = b.rests }

-- more tries and then more are more tries
pub tries_then : (v u w : View) → HasMoreTries v u → HasMoreTries u w → HasMoreTries v w
tries_then v u w a b = record { more = a.more ++ b.more; takes = b.takes ∙ ap (λ (l : List Tried). l ++ b.more) a.takes ∙ append_assoc v.takes a.more b.more }

-- TURNS ONE AFTER ANOTHER

-- where an operator sat, the view has more tries, or as many
pub tries_of : (p : PlanForm) (o : ℕ) (v w : View) → HasSat p o v w → HasMoreTries v w
tries_of p o v w h = record { more = h.more; takes = h.takes }

pub sat_none : (p : PlanForm) (o : ℕ) (v : View) → v.held ≡ [] → HasSat p o v v
sat_none p o v h = record {
  round = same_here v;
  rests = h;
  others = λ n ne j. refl;
  claims = λ c. c;
  own = λ c. c;
  more = [];
  takes =
      sym (append-nil v.takes);
}

pub sat_then : (p : PlanForm) (o : ℕ) (v u w : View) → HasSat p o v u → HasSat p o u w → HasSat p o v w
sat_then p o v u w a b =
    let t = tries_then v u w (tries_of p o v u a) (tries_of p o u w b) in
    record {
      round = round_then v u w a.round b.round;
      rests = b.rests;
      others = λ n ne j. b.others n ne j ∙ a.others n ne j;
      claims = λ c. b.claims (a.claims c);
      own = λ c. b.own (a.own c);
      more = t.more;
      takes = t.takes;
    }

pub seat_again : (p : PlanForm) (o : ℕ) (v w : View) → IsSeatOf p o v → SameRound v w → w.held ≡ [] → IsSeatOf p o w
seat_again p o v w s r h = record {
  rests = h;
  part = subst (λ (ps : List ℕ). StandsIn (o % w.seats) ps) (sym r.parts) (subst (λ (n : ℕ). StandsIn (o % n) v.parts) (sym r.seats) s.part);
  cells = subst (AreCells p) (sym r.starts) s.cells;
}

-- what is known of claims by a seat's parts, as the seat of the same round knows it
own_same_round : (v w : View) → SameRound v w → (qs : List Claim) → All (λ (q : Claim). StandsIn (q.entry.op % v.seats) v.parts) qs
    → All (λ (q : Claim). StandsIn (q.entry.op % w.seats) w.parts) qs
own_same_round v w r qs c = subst (λ (ps : List ℕ). All (λ (q : Claim). StandsIn (q.entry.op % w.seats) ps) qs) (sym r.parts)
    (subst (λ (n : ℕ). All (λ (q : Claim). StandsIn (q.entry.op % n) v.parts) qs) (sym r.seats) c)

-- BUSY

logs_same : (v w : View) → w.seats ≡ v.seats → w.starts ≡ v.starts → w.claims ≡ v.claims → (o c : ℕ) → logs_at w o c ≡ logs_at v o c
logs_same v w n s q o c =
    ap (λ (l : List Holding). logs_of l c ++ own w.seats (o % w.seats) c w.claims) s
    ∙ ap (λ (m : ℕ). logs_of v.starts c ++ own m (o % m) c w.claims) n
    ∙ ap (λ (l : List Claim). logs_of v.starts c ++ own v.seats (o % v.seats) c l) q

-- a class was found taken, and all is as it was
pub tried_busy : (p : PlanForm) (v w : View) (t : Task) → IsTaskAt p v t → HasLooked v w → w.held ≡ [] → HasMoreTries v w → FoundTaken t.classes v w
    → HasTried p v w t t false
tried_busy p v w t k l h m f =
    let same : (o j : ℕ) → added p (logs_at w o) o j ≡ added p (logs_at v o) o j = λ o j. added_same o j in
    record {
      task = with_adds p (added p (logs_at v t.op) t.op) (added p (logs_at w t.op) t.op) t k (λ j lt. same t.op j);
      ends = refl;
      sat = record {
        round = record { seats = l.seats; starts = l.starts; parts = l.parts };
        rests = h;
        others = λ n ne j. same n j;
        claims = λ c. subst (AreClaims p) (sym l.claims) c;
        own = λ c. own_same_round v w (record { seats = l.seats; starts = l.starts; parts = l.parts }) w.claims
            (subst (λ (qs : List Claim). All (λ (q : Claim). StandsIn (q.entry.op % v.seats) v.parts) qs) (sym l.claims) c);
        more = m.more;
        takes = m.takes;
      };
      goes_on = goes_same t;
      number = moved_false (moves t) (moves t) refl;
      found = λ e. f;
      stays = λ e. refl;
    }
  where
    added_same : (o j : ℕ) → added p (logs_at w o) o j ≡ added p (logs_at v o) o j
    added_same o j = added_else p (logs_at v o) (logs_at w o) (λ c. []) (suc o) o
        (λ c. logs_same v w l.seats l.starts l.claims o c ∙ sym (append-nil (logs_at v o c))) (λ c. none) (λ e. omega (arith, e)) j
      where
        none : All (λ (e : LogEntry). e.op ≡ suc o) []
        none k d lt = absurd (omega (arith, lt))

-- ALL CLASSES WERE TAKEN

-- the cells that were taken have the tables of the plan
pub cells_of : (p : PlanForm) (v u : View) (classes : List ℕ) (pile : List Piled) → AreCells p v.starts → HasTaken classes v u pile → AreCellsOf p classes pile
cells_of p v u classes pile a t = record {
  named = t.named;
  kinds = λ i x g n d gd e.
      let y = a.each n d gd in
      let l : IsLogged v x.0 x.1 = got_all (λ (z : Piled). IsLogged v z.0 z.1) pile i x t.logged g in
      let same : y.0 ≡ l.start = some-injective y.0 l.start (sym y.1 ∙ ap (get_elem? v.starts) e ∙ l.given) in
      subst (λ ks. HasKind ks n d.kind) (ap (λ (z : Holding). z.kinds) same ∙ sym l.kinds) y.2;
}

-- the classes of a task are there
pub classes_there : (p : PlanForm) → IsPlan p → (v : View) (t : Task) → IsTaskAt p v t → AreCells p v.starts → All (λ (c : ℕ). c < length v.starts) t.classes
classes_there p valid v t k a i d lt =
    let c = there_is t.classes i lt in
    let h = k.homes.used i c.0 c.1 in
    let y = table_there p valid t (added p (logs_at v t.op) t.op) k h.0 h.1 h.2 in
    let x = a.each h.1.table y.0 y.1 in
    let b = at_within v.starts (table_class p h.1.table) x.0 x.1 in
    let e = h.3 in
    let g = is_at t.classes i c.0 d c.1 in
    omega (arith, b, e, g)
  where
    is_at : (xs : List ℕ) (i x d : ℕ) → slice_get xs i ≡ Some x → slice_index_or xs i d ≡ x
    is_at [] i x d g = absurd (cc g)
    is_at (y ∷ ys) zero x d g = same_Some y x g
    is_at (y ∷ ys) (suc i) x d g = is_at ys i x d g

-- the task took an item, and its rows were put
pub tried_took : (p : PlanForm) → IsPlan p → (v u w : View) (t t' : Task) (pile pile' : List Piled) → IsTaskAt p v t → StandsIn (t.op % v.seats) v.parts
    → HasTaken t.classes v u pile
    → HasTakenAt p t t' pile pile' → HasPut u w pile' → HasMoreTries v u → w.takes ≡ u.takes → HasTried p v w t t' true
tried_took p valid v u w t t' pile pile' k mine ht at put m q =
    let ends = at.ends in
    record {
      task = subst (λ (o : ℕ). IsTask p (added p (logs_at w o) o) t') (sym op_same)
          (with_adds p (λ j. added p (logs_at v o) o j ++ at.rows j) (added p (logs_at w o) o) t' again (λ j lt.
          let h = there_is t.tables j (let a = tables_many p valid t (added p (logs_at v o) o) k in let b = same_kernel in omega (arith, lt, a, b)) in
          added_more p valid o k.op k.op_is t.tables t.classes k.homes (logs_at v o) (logs_at w o) at.rows own_logs j h.0 h.1));
      ends = ends;
      sat = record {
        round = same_round v u w t.classes pile pile' more ht at.logs put;
        rests = put.rests;
        others = λ n ne j. added_else p (logs_at v n) (logs_at w n) (λ c. entries_of_part v.seats (n % v.seats) (more c)) o n (λ c. logs_grew n c)
            (λ c. part_within (λ (e : LogEntry). e.op ≡ o) v.seats (n % v.seats) (more c) (logged_own o t.classes t.tables at.rows c)) ne j;
        claims = claims_grew v u w t.classes pile pile' more ht at.logs put p (λ c. entries_logged p valid o k.op k.op_is t.tables t.classes k.homes at.rows c);
        own = own_right;
        more = m.more;
        takes = q ∙ m.takes;
      };
      goes_on = at.goes_on;
      number = moved_true (moves t) (moves t') at.more;
      found = λ f. absurd (cc f);
      stays = λ f. absurd (cc f);
    }
  where
    o : ℕ
    o = t.op

    more : ℕ → List LogEntry
    more = logged t.op t.classes t.tables at.rows

    again : IsTask p (λ j. added p (logs_at v t.op) t.op j ++ at.rows j) t'
    again = at.task (added p (logs_at v t.op) t.op) k

    op_same : t'.op ≡ t.op
    op_same = ap (λ e. e.op) at.ends

    same_kernel : tabs again.op.kernel ≡ tabs k.op.kernel
    same_kernel = ap (λ (d : OpForm). tabs d.kernel) (same_Some again.op k.op (sym again.op_is ∙ ap (slice_get p.ops) op_same ∙ k.op_is))

    own_right : AreOwn v → AreOwn w
    own_right c = own_same_round v w (same_round v u w t.classes pile pile' more ht at.logs put) w.claims
        (claims_all v u w t.classes pile pile' more ht at.logs put (λ (c : ℕ) (e : LogEntry). StandsIn (e.op % v.seats) v.parts)
        (λ c i d lt. subst (λ (n : ℕ). StandsIn (n % v.seats) v.parts) (sym (logged_own t.op t.classes t.tables at.rows c i d lt)) mine) c)

    absent : (c : ℕ) → ((i : ℕ) (x : Piled) → slice_get pile i ≡ Some x → x.0 ≢ c) → more c ≡ []
    absent c none = logged_none t.op t.classes t.tables at.rows c (λ j h g e.
        let is = class_is p valid t.op k.op k.op_is t.tables t.classes k.homes j h g in
        let y = cell pile h.place (table_class p h.table) (ap (λ l. slice_get l h.place) ht.named ∙ k.homes.places_are j h g) in
        none h.place y.0 y.1 (y.2 ∙ sym is ∙ e))
      where
        cell : (ps : List Piled) (i c : ℕ) → slice_get (classes_of ps) i ≡ Some c → (x : Piled) × (slice_get ps i ≡ Some x) × (x.0 ≡ c)
        cell [] i c g = absurd (cc g)
        cell (y ∷ ys) zero c g = (y, refl, same_Some y.0 c g)
        cell (y ∷ ys) (suc i) c g = cell ys i c g

    logs_grew : (n c : ℕ) → logs_at w n c ≡ logs_at v n c ++ entries_of_part v.seats (n % v.seats) (more c)
    logs_grew n c =
        let r = same_round v u w t.classes pile pile' more ht at.logs put in
        ap (λ (l : List Holding). logs_of l c ++ own w.seats (n % w.seats) c w.claims) r.starts
        ∙ ap (λ (l : List LogEntry). logs_of v.starts c ++ l)
        (ap (λ (d : ℕ). own w.seats (n % d) c w.claims) r.seats ∙ own_grew v u w t.classes pile pile' more ht at.logs put absent (n % v.seats) c)
        ∙ sym (append_assoc (logs_of v.starts c) (own v.seats (n % v.seats) c v.claims) (entries_of_part v.seats (n % v.seats) (more c)))

    own_logs : (c : ℕ) → logs_at w t.op c ≡ logs_at v t.op c ++ more c
    own_logs c = logs_grew t.op c
        ∙ ap (λ (l : List LogEntry). logs_at v t.op c ++ l) (part_own v.seats t.op (more c) (logged_own t.op t.classes t.tables at.rows c))

-- ONE TURN

-- something is pending still
pub turned_sent : (p : PlanForm) (v : View) (t : Task) (os : List outlet.Outlet) (ls : List (List item.Item)) (m : Bool) → IsTaskAt p v t → v.held ≡ []
    → Sent t.outs t.pending os ls m → (IsFalse m → RefusedAll os ls) → (IsIdle ls → ⊥) → HasTurned p v v t (with_sent t os ls) m
turned_sent p v t os ls m k h s r busy = record {
  task = sent_task p (added p (logs_at v t.op) t.op) t os ls m k s;
  ends = ap (λ (o : List OutEnd). record { op = t.op; ins = in_ends t.ins; outs = o }) s.ends;
  sat = sat_none p t.op v h;
  goes_on = goes_sent t (with_sent t os ls) refl s.fronts;
  number = turn_sent t os ls m t.ins s refl;
  stuck = λ f. inr (inl (record { refused = r f; received = λ idle. absurd (busy idle) }));
}

-- the task after it sent and looked
abbrev pub looked : Task → List outlet.Outlet → List (List item.Item) → List inlet.Inlet → Task
looked t os ls ins = record t { ins = ins; outs = os; pending = ls }

-- a task that sent, and looked at inlets with the same ends and the same items received, is at the seat still
pub looked_at : (p : PlanForm) (v : View) (t : Task) (os : List outlet.Outlet) (ls : List (List item.Item)) (m : Bool) (ins : List inlet.Inlet) → IsTaskAt p v t
    → Sent t.outs t.pending os ls m → in_ends ins ≡ in_ends t.ins → received_in ins ≡ received_in t.ins → IsTaskAt p v (looked t os ls ins)
looked_at p v t os ls m ins k s e r =
    looked_task p (added p (logs_at v t.op) t.op) (with_sent t os ls) ins (sent_task p (added p (logs_at v t.op) t.op) t os ls m k s) e r

looked_ends : (t : Task) (os : List outlet.Outlet) (ls : List (List item.Item)) (m : Bool) (ins : List inlet.Inlet) → Sent t.outs t.pending os ls m
    → in_ends ins ≡ in_ends t.ins → ends_of (looked t os ls ins) ≡ ends_of t
looked_ends t os ls m ins s e =
    ap (λ (o : List OutEnd). record { op = t.op; ins = in_ends ins; outs = o }) s.ends
    ∙ ap (λ (i : List InEnd). record { op = t.op; ins = i; outs = out_ends t.outs }) e

-- no item is there
pub turned_none : (p : PlanForm) (v : View) (t : Task) (os : List outlet.Outlet) (ls : List (List item.Item)) (m : Bool) (ins : List inlet.Inlet)
    → IsTaskAt p v t → v.held ≡ []
    → Sent t.outs t.pending os ls m → (IsFalse m → RefusedAll os ls) → in_ends ins ≡ in_ends t.ins → received_in ins ≡ received_in t.ins → AllReceived ins
    → HasTurned p v v t (looked t os ls ins) m
turned_none p v t os ls m ins k h s r e c a = record {
  task = looked_at p v t os ls m ins k s e c;
  ends = looked_ends t os ls m ins s e;
  sat = sat_none p t.op v h;
  goes_on = goes_sent t (looked t os ls ins) c s.fronts;
  number = turn_sent t os ls m ins s c;
  stuck = λ f. inr (inl (record { refused = r f; received = λ idle. a }));
}

-- an item was taken
pub turned_took : (p : PlanForm) (v w : View) (t t' : Task) (os : List outlet.Outlet) (ls : List (List item.Item)) (m n : Bool) (ins : List inlet.Inlet)
    → Sent t.outs t.pending os ls m → in_ends ins ≡ in_ends t.ins → received_in ins ≡ received_in t.ins → HasTried p v w (looked t os ls ins) t' n → n ≡ true
    → HasTurned p v w t t' true
turned_took p v w t t' os ls m n ins s e c h y = record {
  task = h.task;
  ends = h.ends ∙ looked_ends t os ls m ins s e;
  sat = h.sat;
  goes_on = goes_then t (looked t os ls ins) t' (goes_sent t (looked t os ls ins) c s.fronts) h.goes_on;
  number = moved_second (moves t) (received_count ins + sent_count os) (moves t') m (turn_sent t os ls m ins s c)
      (subst (HasMoved (received_count ins + sent_count os) (moves t')) y h.number);
  stuck = λ f. absurd (cc f);
}

-- a class was found taken
pub turned_busy : (p : PlanForm) (v w : View) (t t' : Task) (os : List outlet.Outlet) (ls : List (List item.Item)) (m n : Bool) (ins : List inlet.Inlet)
    → Sent t.outs t.pending os ls m → in_ends ins ≡ in_ends t.ins → received_in ins ≡ received_in t.ins → HasTried p v w (looked t os ls ins) t' n → n ≡ false
    → HasTurned p v w t t' m
turned_busy p v w t t' os ls m n ins s e c h y = record {
  task = h.task;
  ends = h.ends ∙ looked_ends t os ls m ins s e;
  sat = h.sat;
  goes_on = goes_then t (looked t os ls ins) t' (goes_sent t (looked t os ls ins) c s.fronts) h.goes_on;
  number = moved_first (moves t) (received_count ins + sent_count os) (moves t') m (turn_sent t os ls m ins s c)
      (subst (HasMoved (received_count ins + sent_count os) (moves t')) y h.number);
  stuck = λ f. inr (inr (subst (λ (x : Task). FoundTaken x.classes v w) (sym (h.stays y)) (h.found y)));
}

-- what waited in the ends went behind it
pub flushed : (p : PlanForm) (v w : View) (t t' : Task) (os : List outlet.Outlet) (m : Bool) → HasTurned p v w t t' m
    → Sent t'.outs t'.pending os t'.pending false → (RefusedAll t'.outs t'.pending → RefusedAll os t'.pending)
    → HasTurned p v w t (record t' { outs = os }) m
flushed p v w t t' os m h s r = record {
  task = sent_task p (added p (logs_at w t'.op) t'.op) t' os t'.pending false h.task s;
  ends = ap (λ (o : List OutEnd). record { op = t'.op; ins = in_ends t'.ins; outs = o }) s.ends ∙ h.ends;
  sat = h.sat;
  goes_on = goes_then t t' (record t' { outs = os }) h.goes_on (goes_sent t' (record t' { outs = os }) refl s.fronts);
  number = moved_first (moves t) (moves t') (moves (record t' { outs = os })) m h.number (turn_sent t' os t'.pending false t'.ins s refl);
  stuck = λ f. ⊎_elim (λ bad. inl bad)
      (λ rest. ⊎_elim (λ waits. inr (inl (record { refused = r waits.refused; received = waits.received }))) (λ found. inr (inr found)) rest)
      (h.stuck f);
}

-- TURNS OF ONE TASK

-- the task after some turns
pub record Passed (p : PlanForm) (v w : View) (t t' : Task) : Type 0 where
  pub task : IsTaskAt p w t'
  pub ends : ends_of t' ≡ ends_of t
  pub sat : HasSat p t.op v w
  pub goes_on : ExtendsFronts t t'
  pub grows : moves t ≤ moves t'

pub passed_none : (p : PlanForm) (v : View) (t : Task) → IsTaskAt p v t → v.held ≡ [] → Passed p v v t t
passed_none p v t k h = record { task = k; ends = refl; sat = sat_none p t.op v h; goes_on = goes_same t; grows = omega arith }

same_op : (t t' : Task) → ends_of t' ≡ ends_of t → t'.op ≡ t.op
same_op t t' e = ap (λ (x : TaskEnds). x.op) e

-- one more
pub passed_on : (p : PlanForm) (v u w : View) (t t1 t2 : Task) (m : Bool) → Passed p v u t t1 → HasTurned p u w t1 t2 m → Passed p v w t t2
passed_on p v u w t t1 t2 m a b = record {
  task = b.task;
  ends = b.ends ∙ a.ends;
  sat = sat_then p t.op v u w a.sat (subst (λ o. HasSat p o u w) (same_op t t1 a.ends) b.sat);
  goes_on = goes_then t t1 t2 a.goes_on b.goes_on;
  grows = let g = a.grows in let n = b.number.never_falls in omega (arith, g, n);
}

-- after one that moved
pub passed_after : (p : PlanForm) (v u w : View) (t t1 t2 : Task) (m : Bool) → HasTurned p v u t t1 m → m ≡ true → Passed p u w t1 t2
    → HasTurned p v w t t2 true
passed_after p v u w t t1 t2 m a e b = record {
  task = b.task;
  ends = b.ends ∙ a.ends;
  sat = sat_then p t.op v u w a.sat (subst (λ o. HasSat p o u w) (same_op t t1 a.ends) b.sat);
  goes_on = goes_then t t1 t2 a.goes_on b.goes_on;
  number = let g = b.grows in let n = a.number.grew e in moved_true (moves t) (moves t2) (omega (arith, g, n));
  stuck = λ f. absurd (cc f);
}

-- the first did not move
pub passed_still : (p : PlanForm) (v w : View) (t t' : Task) (m : Bool) → HasTurned p v w t t' m → m ≡ false → HasTurned p v w t t' false
passed_still p v w t t' m a e = subst (HasTurned p v w t t') e a

-- a task with an item that failed its test
pub passed_bad : (p : PlanForm) (v : View) (t : Task) → IsTaskAt p v t → v.held ≡ [] → (t.bad ≡ None → ⊥) → HasTurned p v v t t false
passed_bad p v t k h bad = record {
  task = k;
  ends = refl;
  sat = sat_none p t.op v h;
  goes_on = goes_same t;
  number = moved_false (moves t) (moves t) refl;
  stuck = λ f. inl bad;
}

-- the seat is still that of the task
pub seat_after : (p : PlanForm) (v w : View) (t t' : Task) → Passed p v w t t' → IsSeatOf p t.op v → IsSeatOf p t'.op w
seat_after p v w t t' a s = subst (λ o. IsSeatOf p o w) (sym (same_op t t' a.ends)) (seat_again p t.op v w s a.sat.round a.sat.rests)

pub few_ins : (t t' : Task) (n : ℕ) → ends_of t' ≡ ends_of t → length t.ins < n → length t'.ins < n
few_ins t t' n e lt = let m = ins_many t.ins t'.ins (ap (λ (x : TaskEnds). x.ins) e) in omega (arith, m, lt)
