-- Joiners that are fed with whole lists.
use Rattle.std.proofs.Common.{◌≡◌, ◌≢◌, ℕ, zero, suc, ◌+◌, ◌%◌, ◌<◌, ◌≤◌, List, [], ◌∷◌, ◌++◌, length, drop, Option, Some, None, refl, sym, ap, ◌∙◌, subst}
use Rattle.std.proofs.Common.{arith, append_assoc, ⊎_elim}
use Rattle.std.specs.Prelude.{slice_get, replicate}
use Rattle.std.proofs.Math.Nat.{le_refl}
use Rattle.std.proofs.lemmas.Bool.{cases_eq}
use Rattle.std.proofs.lemmas.List.{append-nil, length-replicate}
use Rattle.river_base.proofs.Lists.{got_drop, dropped_one}
use Rattle.river_base.specs.declared.item.Item as item
use Rattle.river_base.specs.Drain.{drain, pass_on}
use Rattle.river_base.specs.Places.{list_at, append_at, each_grew, upto}
use Rattle.river_base.proofs.PlaceLemmas.{append_at-upto, each_grew-upto_none, each_grew-upto_all}
use Rattle.kern_rows.specs.Turns.{Turns, front_in, rest_in, front_at, rest_at, front_of, passed, put, waiting, joins, settled, turns_start, itself, next_had}
use Rattle.brooklet_model.specs.Firings.{Joining}
use Rattle.brooklet_model.specs.Fire.{join_one}
use Rattle.brooklet_model.specs.Words.{Word, run, word_of, port_by_port}
use Rattle.brooklet_model.proofs.Drained.{put_drain}
use Rattle.brooklet_model.proofs.Joins.{join_keeps}
use Rattle.brooklet_model.specs.ByIndex.{cycle, branch, within, number_in_branch, collected_at, and_more, size_of, collected}
use Rattle.brooklet_model.specs.ByIndex as index
use Rattle.brooklet_model.proofs.Cycles.{Positive, next_turn, first_turn, taken, taken_none, taken_here, taken_same, taken_other}

-- FEEDING IS KEEPING ALL, AND THEN PASSING WHAT CAN PASS

abbrev put_all : Word → Turns → Turns
put_all [] s = s
put_all (e ∷ es) s = put_all es (put e.0 e.1 s)

abbrev settle : List ℕ → Turns → List item.Item × Turns
settle ws s = settled itself ws s

runs_settle : (ws : List ℕ) (es : Word) (s : Turns)
    → (settle ws s).0 ++ (run (join_one itself ws) es (Joining (settle ws s).1 ∷ [])).outs 0 ≡ (settle ws (put_all es s)).0
runs_settle ws [] s = append-nil (settle ws s).0
runs_settle ws (e ∷ es) s =
    let u = (settle ws s).1 in
    let d = joins itself ws e.0 e.1 u in
    let after = λ (t : Turns). (run (join_one itself ws) es (Joining t ∷ [])).outs 0 in
    let agree = put_drain (length ws) Turns (front_of itself) (passed ws) put (λ t. waiting t.lists) (join_keeps itself ws (length ws)) (waiting s.lists)
    (waiting (put e.0 e.1 u).lists) (waiting (put e.0 e.1 s).lists) s e.0 e.1 (le_refl (waiting s.lists)) (le_refl (waiting (put e.0 e.1 u).lists))
    (le_refl (waiting (put e.0 e.1 s).lists)) in
    sym (append_assoc (settle ws s).0 d.0 (after d.1))
    ∙ ap (λ l. l ++ after d.1) agree.0
    ∙ ap (λ t. (settle ws (put e.0 e.1 s)).0 ++ after t) agree.1
    ∙ runs_settle ws es (put e.0 e.1 s)

abbrev with_lists : Turns → List (List item.Item) → Turns
with_lists s ls = record s { lists = ls }

append_at-append : (ls : List (List item.Item)) (p : ℕ) (xs ys : List item.Item) → append_at (append_at ls p xs) p ys ≡ append_at ls p (xs ++ ys)
append_at-append [] p xs ys = refl
append_at-append (l ∷ ls) zero xs ys = ap (λ t. t ∷ ls) (append_assoc l xs ys)
append_at-append (l ∷ ls) (suc p) xs ys = ap (λ t. l ∷ t) (append_at-append ls p xs ys)

append_at-nil : (ls : List (List item.Item)) (p : ℕ) → append_at ls p [] ≡ ls
append_at-nil [] p = refl
append_at-nil (l ∷ ls) zero = ap (λ t. t ∷ ls) (append-nil l)
append_at-nil (l ∷ ls) (suc p) = ap (λ t. l ∷ t) (append_at-nil ls p)

put_word : (p : ℕ) (xs : List item.Item) (es : Word) (s : Turns) → put_all (word_of p xs ++ es) s ≡ put_all es (with_lists s (append_at s.lists p xs))
put_word p [] es s = ap (λ ls. put_all es (with_lists s ls)) (sym (append_at-nil s.lists p))
put_word p (x ∷ xs) es s = put_word p xs es (put p x s) ∙ ap (λ ls. put_all es (with_lists s ls)) (append_at-append s.lists p (x ∷ []) xs)

put_order : (n q : ℕ) (g : ℕ → List item.Item) (base : List (List item.Item)) (s : Turns) → s.lists ≡ each_grew base (upto q g)
    → put_all (port_by_port n q g) s ≡ with_lists s (each_grew base (upto (q + n) g))
put_order zero q g base s e = ap (with_lists s) e ∙ ap (λ k. with_lists s (each_grew base (upto k g))) (let z : q ≡ q + 0 = omega arith in z)
put_order (suc n) q g base s e =
    let grown : append_at s.lists q (g q) ≡ each_grew base (upto (suc q) g) = ap (λ l. append_at l q (g q)) e ∙ append_at-upto base g q
    ∙ ap (λ k. each_grew base (upto k g)) (let z : q + 1 ≡ suc q = omega arith in z) in
    put_word q (g q) (port_by_port n (suc q) g) s
    ∙ put_order n (suc q) g base (with_lists s (append_at s.lists q (g q))) grown
    ∙ ap (λ k. with_lists s (each_grew base (upto k g))) (let z : suc q + n ≡ q + suc n = omega arith in z)

abbrev no_items : List item.Item
no_items = []

-- empty lists hold nothing that waits
pub no_waiting : (n : ℕ) → waiting (replicate n []) ≡ 0
no_waiting zero = refl
no_waiting (suc n) = let e = no_waiting n in omega (arith, e)

blanks_few : (n : ℕ) → length (replicate n no_items) ≤ 0 + n
blanks_few n = let l = length-replicate n no_items in omega (arith, l)

-- fed in the order of the ports, a joiner gives what passes when all lists are there
pub fed_joins : (ws : List ℕ) (n : ℕ) (g : ℕ → List item.Item)
    → (run (join_one itself ws) (port_by_port n 0 g) (Joining (turns_start n) ∷ [])).outs 0 ≡
    (settle ws (with_lists (turns_start n) (each_grew (replicate n []) g))).0
fed_joins ws n g =
    let s = turns_start n in
    let empty : settle ws s ≡ ([], s) = ap (λ k. drain (front_of itself) (passed ws) k s) (no_waiting n) in
    let after = λ (d : List item.Item × Turns). d.0 ++ (run (join_one itself ws) (port_by_port n 0 g) (Joining d.1 ∷ [])).outs 0 in
    ap after (sym empty)
    ∙ runs_settle ws (port_by_port n 0 g) s
    ∙ ap (λ t. (settle ws t).0) (put_order n 0 g (replicate n []) s (sym (each_grew-upto_none (replicate n []) g)))
    ∙ ap (λ ls. (settle ws (with_lists s ls)).0) (each_grew-upto_all (replicate n []) g (0 + n) (blanks_few n))

-- WHAT PASSES IS WHAT THE CYCLE SAYS

-- the lists are what the first x items have left of these
pub record IsLeft (ws : List ℕ) (ls rs : List (List item.Item)) (x : ℕ) : Type 0 where
  pub each : (p : ℕ) → list_at rs p ≡ drop (taken ws p x) (list_at ls p)

pub front_at_none : (rs : List (List item.Item)) (p : ℕ) → list_at rs p ≡ [] → front_at itself rs p ≡ None
front_at_none [] p e = refl
front_at_none (r ∷ rs) zero e = ap (front_in itself) e
front_at_none (r ∷ rs) (suc p) e = front_at_none rs p e

-- the front at a port that has items is the first of them
pub front_at_some : (rs : List (List item.Item)) (p : ℕ) (x : item.Item) (xs : List item.Item) → list_at rs p ≡ x ∷ xs → front_at itself rs p ≡ Some (x ∷ [])
front_at_some [] p x xs e = absurd (cc e)
front_at_some (r ∷ rs) zero x xs e = ap (front_in itself) e
front_at_some (r ∷ rs) (suc p) x xs e = front_at_some rs p x xs e

rest_here : (rs : List (List item.Item)) (p : ℕ) → list_at (rest_at rs p) p ≡ rest_in (list_at rs p)
rest_here [] p = refl
rest_here (r ∷ rs) zero = refl
rest_here (r ∷ rs) (suc p) = rest_here rs p

rest_other : (rs : List (List item.Item)) (p q : ℕ) → p ≢ q → list_at (rest_at rs p) q ≡ list_at rs q
rest_other [] p q ne = refl
rest_other (r ∷ rs) zero zero ne = absurd (ne refl)
rest_other (r ∷ rs) zero (suc q) ne = refl
rest_other (r ∷ rs) (suc p) zero ne = refl
rest_other (r ∷ rs) (suc p) (suc q) ne = rest_other rs p q (λ e. ne (ap suc e))

-- where nothing is behind a place, there is nothing at it
pub got_none : {A : Type 0} (xs : List A) (n : ℕ) → drop n xs ≡ [] → slice_get xs n ≡ None
got_none [] n e = refl
got_none (x ∷ xs) zero e = absurd (cc e)
got_none (x ∷ xs) (suc n) e = got_none xs n e

-- a list is empty or has a first item
pub cases_list : {A B : Type 0} (l : List A) → (l ≡ [] → B) → ((y : A) (ys : List A) → l ≡ y ∷ ys → B) → B
cases_list [] f g = f refl
cases_list (y ∷ ys) f g = g y ys refl

-- what is left for a joiner after it took one item more
pub left_next : (ws : List ℕ) (ls rs : List (List item.Item)) (x : ℕ) (y : item.Item) (ys : List item.Item) → 0 < cycle ws → IsLeft ws ls rs x
    → list_at rs (branch ws x) ≡ y ∷ ys → IsLeft ws ls (rest_at rs (branch ws x)) (suc x)
left_next ws ls rs x y ys lt left e = record {
  each = λ p. ⊎_elim
      (λ h.
      subst (λ q. list_at (rest_at rs (branch ws x)) q ≡ drop (taken ws q (suc x)) (list_at ls q)) h
      (rest_here rs (branch ws x) ∙ ap rest_in e
      ∙ sym (ap (λ k. drop k (list_at ls (branch ws x))) (taken_same ws (branch ws x) x lt refl)
      ∙ dropped_one (list_at ls (branch ws x)) (taken ws (branch ws x) x) y ys (sym (left.each (branch ws x)) ∙ e))))
      (λ ne. rest_other rs (branch ws x) p ne ∙ left.each p ∙ ap (λ k. drop k (list_at ls p)) (sym (taken_other ws p x lt ne)))
      (cases_eq (branch ws x) p);
}

abbrev at_turn : List ℕ → ℕ → List (List item.Item) → Turns
at_turn ws x rs = record { port = branch ws x; had = within ws (x % cycle ws); lists = rs }

next_is : (ws : List ℕ) (x : ℕ) (rs : List (List item.Item)) → Positive ws → 0 < cycle ws
    → passed ws (at_turn ws x rs) ≡ at_turn ws (suc x) (rest_at rs (branch ws x))
next_is ws x rs pos lt =
    let n = next_turn ws x pos lt in
    ap (λ a. turns a (next_had ws (branch ws x) (within ws (x % cycle ws)))) n.0 ∙ ap (turns (branch ws (suc x))) n.1
  where
    turns : ℕ → ℕ → Turns
    turns a b = record { port = a; had = b; lists = rest_at rs (branch ws x) }

passes_front : (ws : List ℕ) (ls rs : List (List item.Item)) (n x : ℕ) → Positive ws → 0 < cycle ws → IsLeft ws ls rs x
    → (drain (front_of itself) (passed ws) n (at_turn ws x rs)).0 ≡ index.found_front (collected_at ws ls) n x
passes_front ws ls rs zero x pos lt left = refl
passes_front ws ls rs (suc n) x pos lt left =
    let s = at_turn ws x rs in
    let b = branch ws x in
    let on = λ (o : Option (List item.Item)). (pass_on (passed ws) s (drain (front_of itself) (passed ws) n) o).0 in
    let more = λ (o : Option item.Item). and_more o (index.found_front (collected_at ws ls) n (suc x)) in
    let here : list_at rs b ≡ drop (number_in_branch ws x) (list_at ls b) = left.each b ∙ ap (λ k. drop k (list_at ls b)) (taken_here ws x lt) in
    cases_list (list_at rs b)
    (λ e. ap on (front_at_none rs b e) ∙ sym (ap more (got_none (list_at ls b) (number_in_branch ws x) (sym here ∙ e))))
    (λ y ys e.
    ap on (front_at_some rs b y ys e)
    ∙ ap (λ t. y ∷ (drain (front_of itself) (passed ws) n t).0) (next_is ws x rs pos lt)
    ∙ ap (λ l. y ∷ l) (passes_front ws ls (rest_at rs b) n (suc x) pos lt (left_next ws ls rs x y ys lt left e))
    ∙ sym (ap more (got_drop (list_at ls b) (number_in_branch ws x) y ys (sym here ∙ e))))

-- the number of items that wait, said in two ways
pub waiting_is : (ls : List (List item.Item)) → waiting ls ≡ size_of ls
waiting_is [] = refl
waiting_is (l ∷ ls) = ap (λ n. length l + n) (waiting_is ls)

-- a joiner that drains what waits gives what it collects by index
pub settles : (ws : List ℕ) (ls : List (List item.Item)) → Positive ws → 0 < cycle ws
    → (settled itself ws (record { port = 0; had = 0; lists = ls })).0 ≡ collected ws ls
settles ws ls pos lt =
    let f = first_turn ws pos lt in
    let go = λ (a b : ℕ). (drain (front_of itself) (passed ws) (waiting ls) (record { port = a; had = b; lists = ls })).0 in
    ap (λ a. go a 0) (sym f.0) ∙ ap (go (branch ws 0)) (sym f.1)
    ∙ passes_front ws ls ls (waiting ls) 0 pos lt (record { each = λ p. ap (λ k. drop k (list_at ls p)) (sym (taken_none ws p lt)) })
    ∙ ap (λ n. index.found_front (collected_at ws ls) n 0) (waiting_is ls)

-- THE LISTS THAT CAME, PORT BY PORT

-- lists that are filled up from empty ones are the given ones
pub blanks_filled : (ls : List (List item.Item)) (g : ℕ → List item.Item) → ((p : ℕ) → g p ≡ list_at ls p) → each_grew (replicate (length ls) []) g ≡ ls
blanks_filled [] g e = refl
blanks_filled (l ∷ ls) g e =
    ap (λ t. t ∷ each_grew (replicate (length ls) []) (λ p. g (suc p))) (e 0) ∙ ap (λ t. l ∷ t) (blanks_filled ls (λ p. g (suc p)) (λ p. e (suc p)))
