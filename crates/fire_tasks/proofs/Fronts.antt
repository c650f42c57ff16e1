-- What was received and sent is a front of what is received and sent afterwards.
use Rattle.std.proofs.Common.{◌≡◌, ℕ, zero, suc, ◌<◌, ◌≤◌, List, [], ◌∷◌, ◌++◌, length, refl, sym, ap, ◌∙◌, subst, arith, inl, inr, ⊎_elim, append_assoc}
use Rattle.std.proofs.Common.{length-append, get_or, set, get_or-set_other, get_or-set_same}
use Rattle.std.specs.Prelude.{Bool}
use mathlib.Core.List.{IsPrefix}
use Rattle.std.proofs.lemmas.Bool.{cases_lt, cases_eq}
use Rattle.std.proofs.lemmas.List.{append-nil, get_or_default, length-map}
use Rattle.river_base.specs.declared.item.Item as item
use Rattle.river_base.specs.Places.{list_at, append_at}
use Rattle.fire_tasks.specs.declared.bundle.Bundle.{Bundle}
use Rattle.fire_tasks.specs.Inlet as inlet
use Rattle.fire_tasks.specs.Outlet as outlet
use Rattle.fire_tasks.specs.declared.task.Task.{Task}
use Rattle.fire_tasks.specs.Bundles.{AllGoOn, AllStay, HasGone, SomeGrew}
use Rattle.fire_tasks.specs.Ports.{AreFronts, HasMoved, in_end, in_ends, out_end, out_ends, received_count, received_in, received_of, sent_count, sent_in, sent_of}
use Rattle.fire_tasks.specs.Tasks.{ExtendsFronts, HasMovedMore, TaskEnds, all_ends, all_moves, ends_of, moves}

-- FRONTS OF ONE LIST

front_same : {A : Type 0} (xs : List A) → IsPrefix xs xs
front_same xs = ([], append-nil xs)

front_then : {A : Type 0} (xs ys zs : List A) → IsPrefix xs ys → IsPrefix ys zs → IsPrefix xs zs
front_then xs ys zs a b = (a.0 ++ b.0, sym (append_assoc xs a.0 b.0) ∙ ap (λ l. l ++ b.0) a.1 ∙ b.1)

front_short : {A : Type 0} (xs ys : List A) → IsPrefix xs ys → length xs ≤ length ys
front_short xs ys a = let n = length-append xs a.0 in let m = ap length a.1 in omega (arith, n, m)

-- a front of a list that is no longer is the list
front_is : {A : Type 0} (xs ys : List A) → IsPrefix xs ys → length ys ≤ length xs → ys ≡ xs
front_is xs ys a le = nothing a.0 a.1 (let n = length-append xs a.0 in let m = ap length a.1 in omega (arith, n, m, le))
  where
    nothing : (more : List _) → xs ++ more ≡ ys → length more ≤ 0 → ys ≡ xs
    nothing [] e z = sym e ∙ append-nil xs
    nothing (m ∷ ms) e z = absurd (omega (arith, z))

-- FRONTS AT ALL PORTS

-- lists begin with themselves
pub fronts_same : (ls : List (List item.Item)) → AreFronts ls ls
fronts_same ls j = front_same (list_at ls j)

-- lists that are the same begin with each other
pub fronts_is : (ls ls' : List (List item.Item)) → ls' ≡ ls → AreFronts ls ls'
fronts_is ls ls' e = subst (AreFronts ls) (sym e) (fronts_same ls)

-- what begins with lists that begin with others begins with these
pub fronts_then : (ls ls1 ls2 : List (List item.Item)) → AreFronts ls ls1 → AreFronts ls1 ls2 → AreFronts ls ls2
fronts_then ls ls1 ls2 a b j = front_then (list_at ls j) (list_at ls1 j) (list_at ls2 j) (a j) (b j)

-- more at one of them
pub fronts_more : (ls : List (List item.Item)) (i : ℕ) (more : List item.Item) → AreFronts ls (append_at ls i more)
fronts_more [] i more j = front_same []
fronts_more (l ∷ ls) zero more zero = (more, refl)
fronts_more (l ∷ ls) zero more (suc j) = front_same (list_at ls j)
fronts_more (l ∷ ls) (suc i) more zero = front_same l
fronts_more (l ∷ ls) (suc i) more (suc j) = fronts_more ls i more j

-- more was sent at one of them
pub fronts_sent : (xs : List outlet.Outlet) (i : ℕ) (x : outlet.Outlet) (more : List item.Item) → sent_of x ≡ sent_of (get_or xs i x) ++ more
    → AreFronts (sent_in xs) (sent_in (set xs i x))
fronts_sent [] i x more e j = front_same []
fronts_sent (y ∷ ys) zero x more e zero = (more, sym e)
fronts_sent (y ∷ ys) zero x more e (suc j) = front_same (list_at (sent_in ys) j)
fronts_sent (y ∷ ys) (suc i) x more e zero = front_same (sent_of y)
fronts_sent (y ∷ ys) (suc i) x more e (suc j) = fronts_sent ys i x more e j

-- TASKS

-- a task goes on from itself
pub goes_same : (t : Task) → ExtendsFronts t t
goes_same t = record { received = fronts_same (received_in t.ins); sent = fronts_same (sent_in t.outs) }

-- a task that goes on twice goes on
pub goes_then : (t t1 t2 : Task) → ExtendsFronts t t1 → ExtendsFronts t1 t2 → ExtendsFronts t t2
goes_then t t1 t2 a b = record {
  received = fronts_then (received_in t.ins) (received_in t1.ins) (received_in t2.ins) a.received b.received;
  sent = fronts_then (sent_in t.outs) (sent_in t1.outs) (sent_in t2.outs) a.sent b.sent;
}

-- a task that sent, and whose looks received nothing
pub goes_sent : (t t' : Task) → received_in t'.ins ≡ received_in t.ins → AreFronts (sent_in t.outs) (sent_in t'.outs) → ExtendsFronts t t'
goes_sent t t' e s = record { received = fronts_is (received_in t.ins) (received_in t'.ins) e; sent = s }

-- a task that took an item
pub goes_took : (t t' : Task) (port : ℕ) (x : item.Item) → received_in t'.ins ≡ append_at (received_in t.ins) port (x ∷ []) → t'.outs ≡ t.outs → ExtendsFronts t t'
goes_took t t' port x r s = record {
  received = subst (AreFronts (received_in t.ins)) (sym r) (fronts_more (received_in t.ins) port (x ∷ []));
  sent = fronts_is (sent_in t.outs) (sent_in t'.outs) (ap sent_in s);
}

-- LISTS OF TASKS

-- all tasks go on from themselves
pub all_same : (ts : List Task) → AllGoOn ts ts
all_same ts i d lt = goes_same (get_or ts i d)

-- tasks that go on twice go on
pub all_then : (ts ts1 ts2 : List Task) → length ts1 ≡ length ts → AllGoOn ts ts1 → AllGoOn ts1 ts2 → AllGoOn ts ts2
all_then ts ts1 ts2 n a b i d lt = goes_then (get_or ts i d) (get_or ts1 i d) (get_or ts2 i d) (a i d lt) (b i d (omega (arith, n, lt)))

-- one task had its turn
pub all_set : (ts : List Task) (i : ℕ) (old new : Task) → i < length ts → old ≡ get_or ts i old → ExtendsFronts old new → AllGoOn ts (set ts i new)
all_set ts i old new lt e g j d lj = ⊎_elim
    (λ q.
    let here : old ≡ get_or ts j d = e ∙ get_or_default ts i old d lt ∙ ap (λ k. get_or ts k d) q in
    let there : get_or (set ts i new) j d ≡ new = ap (λ k. get_or (set ts i new) k d) (sym q) ∙ get_or-set_same ts i new d lt in
    subst (λ x. ExtendsFronts x (get_or (set ts i new) j d)) here (subst (ExtendsFronts old) (sym there) g))
    (λ ne. subst (ExtendsFronts (get_or ts j d)) (sym (get_or-set_other ts i j new d (λ q. ne (sym q)))) (goes_same (get_or ts j d)))
    (cases_eq i j)

-- WHERE A NUMBER GREW

-- at one port, where it is so in all
received_grew : (xs ys : List inlet.Inlet) → length ys ≡ length xs → received_count xs < received_count ys
    → (j : ℕ) × (length (list_at (received_in xs) j) < length (list_at (received_in ys) j))
received_grew [] [] n lt = absurd (omega (arith, lt))
received_grew [] (y ∷ ys) n lt = absurd (omega (arith, n))
received_grew (x ∷ xs) [] n lt = absurd (omega (arith, n))
received_grew (x ∷ xs) (y ∷ ys) n lt = ⊎_elim
    (λ l. (0, l))
    (λ ge. let r = received_grew xs ys (omega (arith, n)) (omega (arith, lt, ge)) in (suc r.0, r.1))
    (cases_lt (length (received_of x)) (length (received_of y)))

sent_grew : (xs ys : List outlet.Outlet) → length ys ≡ length xs → sent_count xs < sent_count ys
    → (j : ℕ) × (length (list_at (sent_in xs) j) < length (list_at (sent_in ys) j))
sent_grew [] [] n lt = absurd (omega (arith, lt))
sent_grew [] (y ∷ ys) n lt = absurd (omega (arith, n))
sent_grew (x ∷ xs) [] n lt = absurd (omega (arith, n))
sent_grew (x ∷ xs) (y ∷ ys) n lt = ⊎_elim
    (λ l. (0, l))
    (λ ge. let r = sent_grew xs ys (omega (arith, n)) (omega (arith, lt, ge)) in (suc r.0, r.1))
    (cases_lt (length (sent_of x)) (length (sent_of y)))

ins_as_many : (xs ys : List inlet.Inlet) → in_ends ys ≡ in_ends xs → length ys ≡ length xs
ins_as_many xs ys e = sym (length-map ys in_end) ∙ ap length e ∙ length-map xs in_end

outs_as_many : (xs ys : List outlet.Outlet) → out_ends ys ≡ out_ends xs → length ys ≡ length xs
outs_as_many xs ys e = sym (length-map ys out_end) ∙ ap length e ∙ length-map xs out_end

task_grew : (t t' : Task) → ends_of t' ≡ ends_of t → moves t < moves t' → HasMovedMore t t'
task_grew t t' e lt = ⊎_elim
    (λ l. inl (received_grew t.ins t'.ins (ins_as_many t.ins t'.ins (ap (λ (x : TaskEnds). x.ins) e)) l))
    (λ ge. inr (sent_grew t.outs t'.outs (outs_as_many t.outs t'.outs (ap (λ (x : TaskEnds). x.outs) e)) (omega (arith, lt, ge))))
    (cases_lt (received_count t.ins) (received_count t'.ins))

-- where there are more moves, some task has grown
pub tasks_grew : (ts ts' : List Task) → all_ends ts' ≡ all_ends ts → all_moves ts < all_moves ts' → SomeGrew ts ts'
tasks_grew [] [] e lt = absurd (omega (arith, lt))
tasks_grew [] (u ∷ us) e lt = absurd (cc e)
tasks_grew (t ∷ ts) [] e lt = absurd (cc e)
tasks_grew (t ∷ ts) (u ∷ us) e lt =
    let h : ends_of u ≡ ends_of t = cc e in
    let r : all_ends us ≡ all_ends ts = cc e in
    ⊎_elim
    (λ l. record { which = 0; there = omega arith; grew = λ d. task_grew t u h l })
    (λ ge. let s = tasks_grew ts us r (omega (arith, lt, ge)) in record { which = suc s.which; there = (let k = s.there in omega (arith, k)); grew = s.grew })
    (cases_lt (moves t) (moves u))

-- WHERE NONE GREW

received_short : (xs ys : List inlet.Inlet) → length ys ≡ length xs → AreFronts (received_in xs) (received_in ys) → received_count xs ≤ received_count ys
received_short [] [] n f = omega arith
received_short [] (y ∷ ys) n f = absurd (omega (arith, n))
received_short (x ∷ xs) [] n f = absurd (omega (arith, n))
received_short (x ∷ xs) (y ∷ ys) n f =
    let h = front_short (received_of x) (received_of y) (f 0) in
    let r = received_short xs ys (omega (arith, n)) (λ j. f (suc j)) in
    omega (arith, h, r)

received_stays : (xs ys : List inlet.Inlet) → length ys ≡ length xs → AreFronts (received_in xs) (received_in ys)
    → received_count ys ≤ received_count xs → received_in ys ≡ received_in xs
received_stays [] [] n f le = refl
received_stays [] (y ∷ ys) n f le = absurd (omega (arith, n))
received_stays (x ∷ xs) [] n f le = absurd (omega (arith, n))
received_stays (x ∷ xs) (y ∷ ys) n f le =
    let h = front_short (received_of x) (received_of y) (f 0) in
    let r = received_short xs ys (omega (arith, n)) (λ j. f (suc j)) in
    let e = front_is (received_of x) (received_of y) (f 0) (omega (arith, le, r)) in
    let s = received_stays xs ys (omega (arith, n)) (λ j. f (suc j)) (omega (arith, le, h)) in
    ap (λ l. l ∷ received_in ys) e ∙ ap (λ ls. received_of x ∷ ls) s

sent_short : (xs ys : List outlet.Outlet) → length ys ≡ length xs → AreFronts (sent_in xs) (sent_in ys) → sent_count xs ≤ sent_count ys
sent_short [] [] n f = omega arith
sent_short [] (y ∷ ys) n f = absurd (omega (arith, n))
sent_short (x ∷ xs) [] n f = absurd (omega (arith, n))
sent_short (x ∷ xs) (y ∷ ys) n f =
    let h = front_short (sent_of x) (sent_of y) (f 0) in
    let r = sent_short xs ys (omega (arith, n)) (λ j. f (suc j)) in
    omega (arith, h, r)

sent_stays : (xs ys : List outlet.Outlet) → length ys ≡ length xs → AreFronts (sent_in xs) (sent_in ys)
    → sent_count ys ≤ sent_count xs → sent_in ys ≡ sent_in xs
sent_stays [] [] n f le = refl
sent_stays [] (y ∷ ys) n f le = absurd (omega (arith, n))
sent_stays (x ∷ xs) [] n f le = absurd (omega (arith, n))
sent_stays (x ∷ xs) (y ∷ ys) n f le =
    let h = front_short (sent_of x) (sent_of y) (f 0) in
    let r = sent_short xs ys (omega (arith, n)) (λ j. f (suc j)) in
    let e = front_is (sent_of x) (sent_of y) (f 0) (omega (arith, le, r)) in
    let s = sent_stays xs ys (omega (arith, n)) (λ j. f (suc j)) (omega (arith, le, h)) in
    ap (λ l. l ∷ sent_in ys) e ∙ ap (λ ls. sent_of x ∷ ls) s

task_short : (t t' : Task) → ends_of t' ≡ ends_of t → ExtendsFronts t t' → moves t ≤ moves t'
task_short t t' e g =
    let r = received_short t.ins t'.ins (ins_as_many t.ins t'.ins (ap (λ (x : TaskEnds). x.ins) e)) g.received in
    let s = sent_short t.outs t'.outs (outs_as_many t.outs t'.outs (ap (λ (x : TaskEnds). x.outs) e)) g.sent in
    omega (arith, r, s)

-- tasks that go on took and sent no fewer items
pub tasks_short : (ts ts' : List Task) → all_ends ts' ≡ all_ends ts → AllGoOn ts ts' → all_moves ts ≤ all_moves ts'
tasks_short [] [] e g = omega arith
tasks_short [] (u ∷ us) e g = absurd (cc e)
tasks_short (t ∷ ts) [] e g = absurd (cc e)
tasks_short (t ∷ ts) (u ∷ us) e g =
    let h : ends_of u ≡ ends_of t = cc e in
    let r : all_ends us ≡ all_ends ts = cc e in
    let a = task_short t u h (g 0 t (omega arith)) in
    let b = tasks_short ts us r (λ i d lt. g (suc i) d (omega (arith, lt))) in
    omega (arith, a, b)

task_stays : (t t' : Task) → ends_of t' ≡ ends_of t → ExtendsFronts t t' → moves t' ≤ moves t
    → (received_in t'.ins ≡ received_in t.ins) × (sent_in t'.outs ≡ sent_in t.outs)
task_stays t t' e g le =
    let n = ins_as_many t.ins t'.ins (ap (λ (x : TaskEnds). x.ins) e) in
    let m = outs_as_many t.outs t'.outs (ap (λ (x : TaskEnds). x.outs) e) in
    let r = received_short t.ins t'.ins n g.received in
    let s = sent_short t.outs t'.outs m g.sent in
    (received_stays t.ins t'.ins n g.received (omega (arith, le, s)), sent_stays t.outs t'.outs m g.sent (omega (arith, le, r)))

-- where there are no more moves, each task stays
pub tasks_stay : (ts ts' : List Task) → all_ends ts' ≡ all_ends ts → AllGoOn ts ts' → all_moves ts' ≤ all_moves ts → AllStay ts ts'
tasks_stay [] ts' e g le i d lt = absurd (omega (arith, lt))
tasks_stay (t ∷ ts) [] e g le i d lt = absurd (cc e)
tasks_stay (t ∷ ts) (u ∷ us) e g le zero d lt =
    let h : ends_of u ≡ ends_of t = cc e in
    let r : all_ends us ≡ all_ends ts = cc e in
    let b = tasks_short ts us r (λ i d lt. g (suc i) d (omega (arith, lt))) in
    task_stays t u h (g 0 t (omega arith)) (omega (arith, le, b))
tasks_stay (t ∷ ts) (u ∷ us) e g le (suc i) d lt =
    let h : ends_of u ≡ ends_of t = cc e in
    let r : all_ends us ≡ all_ends ts = cc e in
    let a = task_short t u h (g 0 t (omega arith)) in
    tasks_stay ts us r (λ i d lt. g (suc i) d (omega (arith, lt))) (omega (arith, le, a)) i d (omega (arith, lt))

-- A PASS

-- a bundle whose tasks go on, with the moves that are told, has gone on
pub has_gone : (b b' : Bundle) (moved : Bool) → all_ends b'.tasks ≡ all_ends b.tasks → AllGoOn b.tasks b'.tasks
    → HasMoved (all_moves b.tasks) (all_moves b'.tasks) moved → HasGone b b' moved
has_gone b b' moved e g n = record {
  ends = e;
  goes_on = g;
  number = n;
  grew = λ t. tasks_grew b.tasks b'.tasks e (n.grew t);
  stayed = λ f. let s = n.stayed f in tasks_stay b.tasks b'.tasks e g (omega (arith, s));
}
