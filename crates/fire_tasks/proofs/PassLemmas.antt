-- What a task keeps while it sends, and through a pass.
use Rattle.std.proofs.Common.{◌≡◌, ℕ, ℤ, ◌+◌, ◌<◌, ◌≤◌, List, [], ◌∷◌, ◌++◌, length, refl, sym, ap, ◌∙◌, arith, subst, inl, inr, ⊎_elim, get_or, set, get_or-set_other}
use Rattle.std.specs.Prelude.{Bool, true, false, IsFalse, All, slice_get, slice_index_or}
use Rattle.std.proofs.lemmas.Bool.{cases_lt}
use Rattle.std.proofs.lemmas.List.{length-set}
use Rattle.std.proofs.lemmas.List.Elements.{All-weaker}
use Rattle.river_base.proofs.PlaceLemmas.{list_past}
use Rattle.river_base.specs.declared.item.Item as item
use Rattle.river_base.specs.declared.item.Item.TheVariants.{Flat, Pack}
use Rattle.river_base.specs.declared.item.Flat.TheVariants.{One, Batch as Batched, Change as Changed}
use Rattle.river_base.specs.Held.{IsHeld}
use Rattle.river_base.specs.Places.{list_at}
use Rattle.river_plan.specs.Forms.{PlanForm}
use Rattle.brooklet_step.specs.Given.{IsHeldBy, IsHeldOf}
use Rattle.fire_tasks.specs.Fired.{kinds_out}
use Rattle.fire_tasks.specs.declared.task.Task.{Task}
use Rattle.fire_tasks.specs.Inlet as inlet
use Rattle.fire_tasks.specs.Outlet as outlet
use Rattle.fire_tasks.specs.Ports.{AreFronts, HasMoved, MaySend, MaySendAll, IsRowOf, ring_width, in_ends, out_ends, given_at, sent_in, sent_of, sent_count}
use Rattle.fire_tasks.specs.Ports.{Flushed, received_count, received_in, IsFull, IsHeldBack, RefusedAll, Sent, SentAt}
use Rattle.river_base.specs.WideRows.{rows_type}
use Rattle.fire_tasks.specs.Tasks.{FitRings, IsTask, moves}
use Rattle.fire_tasks.proofs.Fronts.{fronts_is, fronts_same, fronts_sent, fronts_then}
use Rattle.fire_tasks.proofs.PortLemmas.{outs_many, ins_many, count_same, given_moved, sent_more, sent_count_same}

-- NUMBERS

-- a number that grew
pub moved_true : (a b : ℕ) → a < b → HasMoved a b true
moved_true a b lt = record { never_falls = omega (arith, lt); grew = λ t. lt; stayed = λ f. absurd (cc f) }

-- a number that stayed
pub moved_false : (a b : ℕ) → b ≡ a → HasMoved a b false
moved_false a b e = record { never_falls = omega (arith, e); grew = λ t. absurd (cc t); stayed = λ f. e }

-- a second that moved
pub moved_second : (a b c : ℕ) (m : Bool) → HasMoved a b m → HasMoved b c true → HasMoved a c true
moved_second a b c m x y = let h = x.never_falls in let k = y.grew refl in moved_true a c (omega (arith, h, k))

-- a second that did not
pub moved_first : (a b c : ℕ) (m : Bool) → HasMoved a b m → HasMoved b c false → HasMoved a c m
moved_first a b c m x y =
    let s = y.stayed refl in
    record {
      never_falls = (let n = x.never_falls in omega (arith, n, s));
      grew = λ t. (let n = x.grew t in omega (arith, n, s));
      stayed =
          λ u. (let n = x.stayed u in omega (arith, n, s));
    }

-- once it grew, whatever follows
pub moved_more : (a b c : ℕ) → HasMoved a b true → (m : Bool) → HasMoved b c m → HasMoved a c true
moved_more a b c x m y = let h = x.grew refl in let k = y.never_falls in moved_true a c (omega (arith, h, k))

-- SENDING

other : {A : Type 0} (ls : List A) (i j : ℕ) (l d : A) → (i ≡ j → ⊥) → get_or (set ls i l) j d ≡ get_or ls j d
other ls i j l d ne = get_or-set_other ls i j l d (λ e. ne (sym e))

-- the front went
pub one_sent : (os : List outlet.Outlet) (ls : List (List item.Item)) (port : ℕ) (x : outlet.Outlet) (l : List item.Item) (y : item.Item) → port < length os
    → port < length ls → out_ends (set os port x) ≡ out_ends os
    → get_or ls port l ≡ y ∷ l → sent_of x ≡ sent_of (get_or os port x) ++ y ∷ [] → SentAt port os ls (set os port x) (set ls port l) true
one_sent os ls port x l y lo ll e g s = record {
  sent = record {
    ends = e;
    many = length-set ls port l;
    given = λ j. given_moved os ls port x l y lo ll g s j;
    fronts = fronts_sent os port x (y ∷ []) s;
    number = let n = sent_more os port x y lo s in moved_true (sent_count os) (sent_count (set os port x)) (omega (arith, n));
  };
  lists = λ j ne. other ls port j l [] ne;
  others = λ j d ne. other os port j x d ne;
  stuck = λ f. absurd (cc f);
}

-- nothing is pending
pub idle_sent : (os : List outlet.Outlet) (ls : List (List item.Item)) (port : ℕ) → list_at ls port ≡ [] → SentAt port os ls os ls false
idle_sent os ls port z = record {
  sent = record { ends = refl; many = refl; given = λ j. refl; fronts = fronts_same (sent_in os); number = moved_false (sent_count os) (sent_count os) refl };
  lists = λ j ne. refl;
  others = λ j d ne. refl;
  stuck = λ f. inl z;
}

-- the ring has no room
pub full_sent : (os os' : List outlet.Outlet) (ls : List (List item.Item)) (port : ℕ) → out_ends os' ≡ out_ends os → sent_in os' ≡ sent_in os
    → ((j : ℕ) (d : outlet.Outlet) → (port ≡ j → ⊥) → get_or os' j d ≡ get_or os j d) → ((d : outlet.Outlet) → IsFull (get_or os' port d))
    → SentAt port os ls os' ls false
full_sent os os' ls port e s o full = record {
  sent = record {
    ends = e;
    many = refl;
    given = λ j. ap (λ (x : List (List item.Item)). list_at x j ++ list_at ls j) s;
    fronts = fronts_is (sent_in os) (sent_in os') s;
    number = moved_false (sent_count os) (sent_count os') (sent_count_same os' os s);
  };
  lists = λ j ne. refl;
  others = o;
  stuck = λ f. inr full;
}

-- the front went, after a look
pub looked_sent : (os os' os2 : List outlet.Outlet) (ls ls2 : List (List item.Item)) (port : ℕ) → out_ends os' ≡ out_ends os → sent_in os' ≡ sent_in os
    → ((j : ℕ) (d : outlet.Outlet) → (port ≡ j → ⊥) → get_or os' j d ≡ get_or os j d) → SentAt port os' ls os2 ls2 true → SentAt port os ls os2 ls2 true
looked_sent os os' os2 ls ls2 port e s o h = record {
  sent = record {
    ends = h.sent.ends ∙ e;
    many = h.sent.many;
    given = λ j. h.sent.given j ∙ ap (λ (x : List (List item.Item)). list_at x j ++ list_at ls j) s;
    fronts = subst (λ l. AreFronts l (sent_in os2)) s h.sent.fronts;
    number = subst (λ n. HasMoved n (sent_count os2) true) (sent_count_same os' os s) h.sent.number;
  };
  lists = h.lists;
  others = λ j d ne. h.others j d ne ∙ o j d ne;
  stuck = λ f. absurd (cc f);
}

-- before the first port
pub sent_first : (os : List outlet.Outlet) (ls : List (List item.Item)) → Sent os ls os ls false
sent_first os ls = record { ends = refl; many = refl; given = λ j. refl; fronts = fronts_same (sent_in os); number = moved_false (sent_count os) (sent_count os) refl }

sent_then : (os : List outlet.Outlet) (ls : List (List item.Item)) (os1 : List outlet.Outlet) (ls1 : List (List item.Item)) (os2 : List outlet.Outlet)
    (ls2 : List (List item.Item)) (m n k : Bool)
    → Sent os ls os1 ls1 m → Sent os1 ls1 os2 ls2 n → HasMoved (sent_count os) (sent_count os2) k → Sent os ls os2 ls2 k
sent_then os ls os1 ls1 os2 ls2 m n k a b h = record {
  ends = b.ends ∙ a.ends;
  many = b.many ∙ a.many;
  given = λ j. b.given j ∙ a.given j;
  fronts = fronts_then (sent_in os) (sent_in os1) (sent_in os2) a.fronts b.fronts;
  number = h;
}

-- the answer by its value
pub at_is : (port : ℕ) (os : List outlet.Outlet) (ls : List (List item.Item)) (os1 : List outlet.Outlet) (ls1 : List (List item.Item)) (n : Bool)
    → SentAt port os ls os1 ls1 n → n ≡ true → SentAt port os ls os1 ls1 true
at_is port os ls os1 ls1 n a e = subst (λ k. SentAt port os ls os1 ls1 k) e a

-- at one port, any number
pub record Goes (port : ℕ) (os : List outlet.Outlet) (ls : List (List item.Item)) (os' : List outlet.Outlet) (ls' : List (List item.Item)) : Type 0 where
  pub ends : out_ends os' ≡ out_ends os
  pub many : length ls' ≡ length ls
  pub given : (j : ℕ) → given_at os' ls' j ≡ given_at os ls j
  pub fronts : AreFronts (sent_in os) (sent_in os')
  pub grows : sent_count os ≤ sent_count os'
  pub lists : (j : ℕ) → (port ≡ j → ⊥) → list_at ls' j ≡ list_at ls j
  pub others : (j : ℕ) (d : outlet.Outlet) → (port ≡ j → ⊥) → get_or os' j d ≡ get_or os j d

-- before the first item
pub goes_first : (port : ℕ) (os : List outlet.Outlet) (ls : List (List item.Item)) → Goes port os ls os ls
goes_first port os ls = record {
  ends = refl;
  many = refl;
  given = λ j. refl;
  fronts = fronts_same (sent_in os);
  grows = omega arith;
  lists = λ j ne. refl;
  others = λ j d ne. refl;
}

-- one item more, or none
pub goes_next : (port : ℕ) (os : List outlet.Outlet) (ls : List (List item.Item)) (os1 : List outlet.Outlet) (ls1 : List (List item.Item))
    (os2 : List outlet.Outlet) (ls2 : List (List item.Item)) (n : Bool)
    → Goes port os ls os1 ls1 → SentAt port os1 ls1 os2 ls2 n → Goes port os ls os2 ls2
goes_next port os ls os1 ls1 os2 ls2 n a b = record {
  ends = b.sent.ends ∙ a.ends;
  many = b.sent.many ∙ a.many;
  given = λ j. b.sent.given j ∙ a.given j;
  fronts = fronts_then (sent_in os) (sent_in os1) (sent_in os2) a.fronts b.sent.fronts;
  grows = let g = a.grows in let h = b.sent.number.never_falls in omega (arith, g, h);
  lists = λ j ne. b.lists j ne ∙ a.lists j ne;
  others = λ j d ne. b.others j d ne ∙ a.others j d ne;
}

-- behind the first item
pub goes_after : (port : ℕ) (os : List outlet.Outlet) (ls : List (List item.Item)) (os1 : List outlet.Outlet) (ls1 : List (List item.Item))
    (os2 : List outlet.Outlet) (ls2 : List (List item.Item)) (n : Bool)
    → SentAt port os ls os1 ls1 n → n ≡ true → Goes port os1 ls1 os2 ls2 → SentAt port os ls os2 ls2 true
goes_after port os ls os1 ls1 os2 ls2 n a e b =
    let f = at_is port os ls os1 ls1 n a e in
    record {
      sent = record {
        ends = b.ends ∙ f.sent.ends;
        many = b.many ∙ f.sent.many;
        given = λ j. b.given j
            ∙ f.sent.given j;
        fronts = fronts_then (sent_in os) (sent_in os1) (sent_in os2) f.sent.fronts b.fronts;
        number = let g = b.grows in let h = f.sent.number.grew refl in moved_true (sent_count os) (sent_count os2) (omega (arith, g, h));
      };
      lists = λ j ne. b.lists j ne ∙ f.lists j ne;
      others = λ j d ne. b.others j d ne ∙ f.others j d ne;
      stuck = λ u. absurd (cc u);
    }

-- port by port
pub record SentTo (port : ℕ) (os : List outlet.Outlet) (ls : List (List item.Item)) (os' : List outlet.Outlet) (ls' : List (List item.Item))
    (moved : Bool) : Type 0 where
  pub sent : Sent os ls os' ls' moved
  pub stuck : IsFalse moved → (j : ℕ) → j < port → IsHeldBack j os' ls'

-- before the first port
pub to_first : (os : List outlet.Outlet) (ls : List (List item.Item)) → SentTo 0 os ls os ls false
to_first os ls = record { sent = sent_first os ls; stuck = λ f j lt. absurd (omega (arith, lt)) }

-- a port that sent
pub to_moved : (port : ℕ) (os : List outlet.Outlet) (ls : List (List item.Item)) (os1 : List outlet.Outlet) (ls1 : List (List item.Item))
    (os2 : List outlet.Outlet) (ls2 : List (List item.Item)) (m n : Bool)
    → SentTo port os ls os1 ls1 m → SentAt port os1 ls1 os2 ls2 n → n ≡ true → SentTo (port + 1) os ls os2 ls2 true
to_moved port os ls os1 ls1 os2 ls2 m n a b e = record {
  sent = sent_then os ls os1 ls1 os2 ls2 m n true a.sent b.sent
      (moved_second (sent_count os) (sent_count os1) (sent_count os2) m a.sent.number (subst (HasMoved (sent_count os1) (sent_count os2)) e b.sent.number));
  stuck = λ f. absurd (cc f);
}

-- a port that did not
pub to_still : (port : ℕ) (os : List outlet.Outlet) (ls : List (List item.Item)) (os1 : List outlet.Outlet) (ls1 : List (List item.Item))
    (os2 : List outlet.Outlet) (ls2 : List (List item.Item)) (m n : Bool)
    → SentTo port os ls os1 ls1 m → SentAt port os1 ls1 os2 ls2 n → n ≡ false → SentTo (port + 1) os ls os2 ls2 m
to_still port os ls os1 ls1 os2 ls2 m n a b e = record {
  sent = sent_then os ls os1 ls1 os2 ls2 m n m a.sent b.sent
      (moved_first (sent_count os) (sent_count os1) (sent_count os2) m a.sent.number (subst (HasMoved (sent_count os1) (sent_count os2)) e b.sent.number));
  stuck = λ f j lt. ⊎_elim
      (λ l.
      let ne : (port ≡ j → ⊥) = λ q. omega (arith, l, q) in
      ⊎_elim
      (λ z. inl (b.lists j ne ∙ z))
      (λ full. inr (λ d. subst IsFull (sym (b.others j d ne)) (full d)))
      (a.stuck f j l))
      (λ ge. let q : port ≡ j = omega (arith, lt, ge) in subst (λ k. IsHeldBack k os2 ls2) q (b.stuck e))
      (cases_lt j port);
}

-- all ports
pub to_all : (port : ℕ) (os : List outlet.Outlet) (ls : List (List item.Item)) (os' : List outlet.Outlet) (ls' : List (List item.Item)) (moved : Bool)
    → SentTo port os ls os' ls' moved → length ls ≤ port
    → IsFalse moved → RefusedAll os' ls'
to_all port os ls os' ls' moved a le f j = ⊎_elim
    (λ lt. a.stuck f j lt)
    (λ ge. inl (list_past ls' j (let m = a.sent.many in omega (arith, m, le, ge))))
    (cases_lt j port)

-- WHAT WAITS IN THE ENDS

-- nothing went
pub flushed_none : (os : List outlet.Outlet) (ls : List (List item.Item)) → Flushed os ls os
flushed_none os ls = record { ends = refl; sent = refl; refused = λ r. r }

-- it went in several ends, one after another
pub flushed_then : (os : List outlet.Outlet) (ls : List (List item.Item)) (os1 os2 : List outlet.Outlet)
    → Flushed os ls os1 → Flushed os1 ls os2 → Flushed os ls os2
flushed_then os ls os1 os2 a b = record { ends = b.ends ∙ a.ends; sent = b.sent ∙ a.sent; refused = λ r. b.refused (a.refused r) }

-- it went at a port at which nothing is pending
pub flushed_at : (port : ℕ) (os : List outlet.Outlet) (ls : List (List item.Item)) (os' : List outlet.Outlet) → list_at ls port ≡ []
    → out_ends os' ≡ out_ends os → sent_in os' ≡ sent_in os
    → ((j : ℕ) (d : outlet.Outlet) → (port ≡ j → ⊥) → slice_index_or os' j d ≡ slice_index_or os j d) → Flushed os ls os'
flushed_at port os ls os' z e s others = record {
  ends = e;
  sent = s;
  refused = λ r j.
      let other : (port ≡ j → ⊥) → IsHeldBack j os' ls = λ ne. ⊎_elim (λ y. inl y) (λ full. inr (λ d. subst IsFull (sym (others j d ne)) (full d))) (r j) in
      ⊎_elim
      (λ lt. other (λ q. omega (arith, lt, q)))
      (λ ge. ⊎_elim
      (λ gt. other (λ q. omega (arith, gt, q)))
      (λ le. let q : port ≡ j = omega (arith, ge, le) in inl (subst (λ k. list_at ls k ≡ []) q z))
      (cases_lt port j))
      (cases_lt j port);
}

-- nothing was sent by it
pub flush_sent : (os : List outlet.Outlet) (ls : List (List item.Item)) (os' : List outlet.Outlet) → Flushed os ls os' → Sent os ls os' ls false
flush_sent os ls os' h = record {
  ends = h.ends;
  many = refl;
  given = λ j. ap (λ (l : List (List item.Item)). list_at l j ++ list_at ls j) h.sent;
  fronts = subst (AreFronts (sent_in os)) (sym h.sent) (sent_first os ls).fronts;
  number = moved_false (sent_count os) (sent_count os') (sent_count_same os' os h.sent);
}

-- WHAT MAY BE SENT

-- what may be sent may be sent where the same was given at the same ends
pub may_still : (os : List outlet.Outlet) (ls : List (List item.Item)) (os' : List outlet.Outlet) (ls' : List (List item.Item)) → out_ends os' ≡ out_ends os
    → ((j : ℕ) → given_at os' ls' j ≡ given_at os ls j) → MaySendAll os ls → MaySendAll os' ls'
may_still os ls os' ls' e g h j x at = subst (All (MaySend x)) (sym (g j)) (h j x (ap (λ l. slice_get l j) (sym e) ∙ at))

-- a row of this width
row_of : (w : ℕ) (x : item.Item) → IsHeld (rows_type w) x → IsRowOf w x
unfolding IsHeld
row_of w (Flat (One row)) h = (row, refl, h)
row_of w (Flat (Batched b)) h = absurd h
row_of w (Flat (Changed c)) h = absurd h
row_of w (Pack fs) h = absurd h

-- a task may send what it gave
pub task_may : (p : PlanForm) (adds : ℕ → List (List ℤ)) (t : Task) → IsTask p adds t → MaySendAll t.outs t.pending
task_may p adds t k j e at = All-weaker (IsHeldOf (kinds_out p k.op) j) (MaySend e)
    (λ x h rows. row_of (ring_width e) x (subst (λ o. IsHeldBy o x) (k.rings j e at rows) h)) (given_at t.outs t.pending j) (k.fired.held j)

-- A TASK

-- with other ends, after it sent
abbrev pub with_sent : Task → List outlet.Outlet → List (List item.Item) → Task
with_sent t os ls = record t { outs = os; pending = ls }

-- what a task keeps stays when it sends
pub sent_task : (p : PlanForm) (adds : ℕ → List (List ℤ)) (t : Task) (os : List outlet.Outlet) (ls : List (List item.Item)) (m : Bool) → IsTask p adds t
    → Sent t.outs t.pending os ls m → IsTask p adds (with_sent t os ls)
sent_task p adds t os ls m k h = record {
  op = k.op;
  op_is = k.op_is;
  ins = k.ins;
  kinds = k.kinds;
  outs = outs_many t.outs os h.ends ∙ k.outs;
  pending = h.many ∙ k.pending;
  rings = subst (FitRings (kinds_out p k.op)) (sym h.ends) k.rings;
  blank = k.blank;
  homes = k.homes;
  word = k.word;
  count = k.count;
  fired = record {
    below = k.fired.below;
    received = k.fired.received;
    bad = k.fired.bad;
    held = λ j. subst (All (IsHeldOf (kinds_out p k.op) j)) (sym (h.given j)) (k.fired.held j);
    given = λ w a i. let g = k.fired.given w a i in record { outs = λ j lj. h.given j ∙ g.outs j lj; adds_are = g.adds_are };
  };
  stands = record { fit = k.stands.fit; after = k.stands.after };
}

-- and its word stays
pub sent_word : (p : PlanForm) (adds : ℕ → List (List ℤ)) (t : Task) (os : List outlet.Outlet) (ls : List (List item.Item)) (m : Bool) (k : IsTask p adds t)
    (h : Sent t.outs t.pending os ls m) → (sent_task p adds t os ls m k h).word ≡ k.word
unfolding sent_task
sent_word p adds t os ls m k h = refl

-- with other ends to take from, of which the same was received
abbrev pub with_ins : Task → List inlet.Inlet → Task
with_ins t ins = record t { ins = ins }

-- and when it looks
pub looked_task : (p : PlanForm) (adds : ℕ → List (List ℤ)) (t : Task) (ins : List inlet.Inlet) → IsTask p adds t → in_ends ins ≡ in_ends t.ins
    → received_in ins ≡ received_in t.ins → IsTask p adds (with_ins t ins)
looked_task p adds t ins k e r = record {
  op = k.op;
  op_is = k.op_is;
  ins = ins_many t.ins ins e ∙ k.ins;
  kinds = k.kinds;
  outs = k.outs;
  pending = k.pending;
  rings = k.rings;
  blank = k.blank;
  homes = k.homes;
  word = k.word;
  count = k.count;
  fired = record {
    below = k.fired.below;
    received = λ i. ap (λ l. list_at l i) r ∙ k.fired.received i;
    bad = k.fired.bad;
    held = k.fired.held;
    given = λ w a i. let g = k.fired.given w a i in record { outs = g.outs; adds_are = g.adds_are };
  };
  stands = record { fit = k.stands.fit; after = k.stands.after };
}

-- and its word stays
pub looked_word : (p : PlanForm) (adds : ℕ → List (List ℤ)) (t : Task) (ins : List inlet.Inlet) (k : IsTask p adds t) (e : in_ends ins ≡ in_ends t.ins)
    (r : received_in ins ≡ received_in t.ins) → (looked_task p adds t ins k e r).word ≡ k.word
unfolding looked_task
looked_word p adds t ins k e r = refl

-- the numbers after sending and a look
pub turn_sent : (t : Task) (os : List outlet.Outlet) (ls : List (List item.Item)) (m : Bool) (ins : List inlet.Inlet) → Sent t.outs t.pending os ls m
    → received_in ins ≡ received_in t.ins → HasMoved (moves t) (received_count ins + sent_count os) m
turn_sent t os ls m ins s r =
    let e = count_same ins t.ins r in
    let h = s.number in
    record {
      never_falls = (let n = h.never_falls in omega (arith, e, n));
      grew = λ x. (let n = h.grew x in omega (arith, e, n));
      stayed =
          λ x. (let n = h.stayed x in omega (arith, e, n));
    }
