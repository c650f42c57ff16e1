-- Operators by number, what comes to queues and tables, and how many firings there are.
use Rattle.std.proofs.Common.{◌≡◌, ◌≢◌, ℕ, ℤ, zero, suc, ◌+◌, ◌<◌, ◌≤◌, Bool, Some, List, [], ◌∷◌, ◌++◌, length, take, refl, sym, ap, ◌∙◌, subst, arith}
use Rattle.std.proofs.Common.{append_assoc, ⊎_elim, get_or}
use Rattle.std.specs.Prelude.{if◌then◌else◌, count_by, slice_get}
use Rattle.std.proofs.lemmas.Bool.{cases_eq}
use Rattle.std.proofs.lemmas.List.{append-nil, take_more, take-append-le}
use Rattle.std.proofs.lemmas.Option.{slice_get-get_or, slice_get_within, same_Some}
use Rattle.river_base.proofs.PlaceLemmas.{if_true, if_false, if_eq, if_ne}
use Rattle.river_base.proofs.Lists.{count_by-append}
use Rattle.river_base.specs.declared.item.Item as item
use Rattle.river_base.specs.Name.{name_eq}
use Rattle.river_base.specs.Places.{none}
use Rattle.river_plan.specs.Forms.{Name, OpForm}
use Rattle.river_plan.specs.Names.{one_if, count}
use Rattle.river_plan.specs.Uses.{Each, total}
use Rattle.river_plan.proofs.NameLemmas.{cases_name, one_same}
use Rattle.brooklet_model.specs.Firings.{Kept, Fired, and_then, Same}
use Rattle.brooklet_model.specs.Histories.{History, lists_of, given_on, joined, tables_of, adds, lengths, Lists}
use Rattle.brooklet_model.specs.Machine.{at_key}
use Rattle.brooklet_model.specs.Traced.{sum_numbered}
use Rattle.river_base.specs.Bags.{SameBag}
use Rattle.brooklet_model.specs.Words.{Word, run, at_port, PortsBelow}
use Rattle.brooklet_model.proofs.Solutions.{count_here, one_of}
use Rattle.brooklet_model.proofs.Swaps.{at_port_here, at_port_past}

-- BY NUMBER AND BY SUM

-- an operator's number is at most the sum
pub at_most : (f : OpForm → ℕ) (ops : List OpForm) (o : ℕ) (op : OpForm) → slice_get ops o ≡ Some op → f op ≤ total f ops
at_most f [] o op g = absurd (cc g)
at_most f (a ∷ ops) zero op g = let e = ap f (same_Some a op g) in omega (arith, e)
at_most f (a ∷ ops) (suc o) op g = let i = at_most f ops o op g in omega (arith, i)

-- where the sum is at most 1, only one operator has a number above 0
pub one_place : (f : OpForm → ℕ) (ops : List OpForm) (o o' : ℕ) (op op' : OpForm) → total f ops ≤ 1 → slice_get ops o ≡ Some op → slice_get ops o' ≡ Some op'
    → 0 < f op → 0 < f op' → o ≡ o'
one_place f [] o o' op op' h g g' i i' = absurd (cc g)
one_place f (a ∷ ops) zero zero op op' h g g' i i' = refl
one_place f (a ∷ ops) zero (suc o') op op' h g g' i i' =
    absurd (let e = ap f (same_Some a op g) in let m = at_most f ops o' op' g' in omega (arith, e, m, h, i, i'))
one_place f (a ∷ ops) (suc o) zero op op' h g g' i i' =
    absurd (let e = ap f (same_Some a op' g') in let m = at_most f ops o op g in omega (arith, e, m, h, i, i'))
one_place f (a ∷ ops) (suc o) (suc o') op op' h g g' i i' = ap suc (one_place f ops o o' op op' (omega (arith, h)) g g' i i')

-- a name that is got stands in the list
pub got_count : (rs : List Name) (p : ℕ) (q : Name) → slice_get rs p ≡ Some q → 0 < count q rs
got_count [] p q g = absurd (cc g)
got_count (r ∷ rs) zero q g = let e = one_of r q (same_Some r q g) in omega (arith, e)
got_count (r ∷ rs) (suc p) q g = let e = got_count rs p q g in omega (arith, e)

-- a name that stands once has one place
pub place_once : (rs : List Name) (p p' : ℕ) (q : Name) → count q rs ≤ 1 → slice_get rs p ≡ Some q → slice_get rs p' ≡ Some q → p ≡ p'
place_once [] p p' q h g g' = absurd (cc g)
place_once (r ∷ rs) zero zero q h g g' = refl
place_once (r ∷ rs) zero (suc p') q h g g' = absurd (let e = one_of r q (same_Some r q g) in let c = got_count rs p' q g' in omega (arith, e, c, h))
place_once (r ∷ rs) (suc p) zero q h g g' = absurd (let e = one_of r q (same_Some r q g') in let c = got_count rs p q g in omega (arith, e, c, h))
place_once (r ∷ rs) (suc p) (suc p') q h g g' = ap suc (place_once rs p p' q (omega (arith, h)) g g')

-- what holds of each operator holds of the one that is got
pub each_at : (P : OpForm → Type 0) (ops : List OpForm) (o : ℕ) (op : OpForm) → Each P ops → slice_get ops o ≡ Some op → P op
each_at P [] o op h g = absurd (cc g)
each_at P (a ∷ ops) zero op h g = subst P (same_Some a op g) h.0
each_at P (a ∷ ops) (suc o) op h g = each_at P ops o op h.1 g

-- what holds of each operator that is got holds of each
pub each_of : (P : OpForm → Type 0) (ops : List OpForm) → ((o : ℕ) (op : OpForm) → slice_get ops o ≡ Some op → P op) → Each P ops
each_of P [] h = tt
each_of P (a ∷ ops) h = (h 0 a refl, each_of P ops (λ o op g. h (suc o) op g))

-- the history of the queue at a port
pub got_read : (h : History) (rs : List Name) (p : ℕ) (q : Name) → slice_get rs p ≡ Some q → lists_of h rs p ≡ h q
got_read h [] p q g = absurd (cc g)
got_read h (r ∷ rs) zero q g = ap h (same_Some r q g)
got_read h (r ∷ rs) (suc p) q g = got_read h rs p q g

-- WHAT COMES TO THE QUEUES

-- a queue that is not written is given nothing
pub joined_out : {A : Type 0} (ws : List Name) (f : ℕ → List A) (q : Name) → count q ws ≡ 0 → joined ws f q ≡ []
joined_out [] f q z = refl
joined_out (w ∷ ws) f q z = ⊎_elim
    (λ c. absurd (let e = ap one_if c.1 in omega (arith, e, z)))
    (λ c. ap (λ l. l ++ joined ws (λ j. f (suc j)) q) (if_false (name_eq w q) (f 0) [] c.1) ∙ joined_out ws (λ j. f (suc j)) q (omega (arith, z)))
    (cases_name w q)

-- lists that stand for histories still do, where both grow alike
pub lists_more : (ws : List Name) (F f : ℕ → List item.Item) (H g : Name → List item.Item) → ((q : Name) → count q ws ≤ 1)
    → ((q : Name) → 0 < count q ws → g q ≡ joined ws f q) → Lists ws F H → Lists ws (λ j. F j ++ f j) (λ q. H q ++ g q)
lists_more [] F f H g once e l = tt
lists_more (w ∷ ws) F f H g once e l = (
  ap (λ a. a ++ g w) l.0
      ∙ ap (λ a. F 0 ++ a) (e w (count_here w ws)
      ∙ ap (λ a. a ++ joined ws (λ j. f (suc j)) w) (⊎_elim (λ c. if_true (name_eq w w) (f 0) [] c.1) (λ c. absurd (c.0 refl)) (cases_name w w))
      ∙ ap (λ a. f 0 ++ a) (joined_out ws (λ j. f (suc j)) w (let o = once w in let s = one_same w in omega (arith, o, s)))
      ∙ append-nil (f 0)),
  lists_more ws (λ j. F (suc j)) (λ j. f (suc j)) H g (λ q. let o = once q in omega (arith, o))
      (λ q lt. e q (omega (arith, lt)) ∙ ⊎_elim
      (λ c. absurd (let o = once q in let k = ap one_if c.1 in omega (arith, o, k, lt)))
      (λ c. ap (λ a. a ++ joined ws (λ j. f (suc j)) q) (if_false (name_eq w q) (f 0) [] c.1))
      (cases_name w q)) l.1,
)

-- what is joined of two lists at each port, counted
pub joined-append : {A : Type 0} (test : A → Bool) (ws : List Name) (f g : ℕ → List A) (q : Name)
    → count_by test (joined ws (λ j. f j ++ g j) q) ≡ count_by test (joined ws f q) + count_by test (joined ws g q)
joined-append {A} test [] f g q = refl
joined-append {A} test (w ∷ ws) f g q =
    let i = joined-append test ws (λ j. f (suc j)) (λ j. g (suc j)) q in
    let h = λ (a b : List A). count_by-append test a b in
    ⊎_elim
    (λ c.
    let e1 = ap (λ b. count_by test ((if b then f 0 ++ g 0 else []) ++ joined ws (λ j. f (suc j) ++ g (suc j)) q)) c.1 in
    let e2 = ap (λ b. count_by test ((if b then f 0 else []) ++ joined ws (λ j. f (suc j)) q)) c.1 in
    let e3 = ap (λ b. count_by test ((if b then g 0 else []) ++ joined ws (λ j. g (suc j)) q)) c.1 in
    let a1 = h (f 0 ++ g 0) (joined ws (λ j. f (suc j) ++ g (suc j)) q) in
    let a2 = h (f 0) (joined ws (λ j. f (suc j)) q) in
    let a3 = h (g 0) (joined ws (λ j. g (suc j)) q) in
    let a4 = h (f 0) (g 0) in
    omega (arith, e1, e2, e3, a1, a2, a3, a4, i))
    (λ c.
    let e1 = ap (λ b. count_by test ((if b then f 0 ++ g 0 else []) ++ joined ws (λ j. f (suc j) ++ g (suc j)) q)) c.1 in
    let e2 = ap (λ b. count_by test ((if b then f 0 else []) ++ joined ws (λ j. f (suc j)) q)) c.1 in
    let e3 = ap (λ b. count_by test ((if b then g 0 else []) ++ joined ws (λ j. g (suc j)) q)) c.1 in
    omega (arith, e1, e2, e3, i))
    (cases_name w q)

-- of empty lists nothing is joined
pub joined_none : {A : Type 0} (ws : List Name) (q : Name) → joined {A = A} ws none q ≡ []
joined_none [] q = refl
joined_none (w ∷ ws) q = ⊎_elim
    (λ c. ap (λ l. l ++ joined ws none q) (if_true (name_eq w q) [] [] c.1) ∙ joined_none ws q)
    (λ c. ap (λ l. l ++ joined ws none q) (if_false (name_eq w q) [] [] c.1) ∙ joined_none ws q)
    (cases_name w q)

-- of equal bags equal bags are joined
pub joined_bag : (test : List ℤ → Bool) (ws : List Name) (f g : ℕ → List (List ℤ)) (q : Name) → ((j : ℕ) → SameBag (f j) (g j))
    → count_by test (joined ws f q) ≡ count_by test (joined ws g q)
joined_bag test [] f g q h = refl
joined_bag test (w ∷ ws) f g q h =
    let i = joined_bag test ws (λ j. f (suc j)) (λ j. g (suc j)) q (λ j. h (suc j)) in
    let a = λ (x y : List (List ℤ)). count_by-append test x y in
    ⊎_elim
    (λ c.
    let e2 = ap (λ b. count_by test ((if b then f 0 else []) ++ joined ws (λ j. f (suc j)) q)) c.1 in
    let e3 = ap (λ b. count_by test ((if b then g 0 else []) ++ joined ws (λ j. g (suc j)) q)) c.1 in
    let a2 = a (f 0) (joined ws (λ j. f (suc j)) q) in
    let a3 = a (g 0) (joined ws (λ j. g (suc j)) q) in
    let z = h 0 test in
    omega (arith, e2, e3, a2, a3, i, z))
    (λ c.
    let e2 = ap (λ b. count_by test ((if b then f 0 else []) ++ joined ws (λ j. f (suc j)) q)) c.1 in
    let e3 = ap (λ b. count_by test ((if b then g 0 else []) ++ joined ws (λ j. g (suc j)) q)) c.1 in
    omega (arith, e2, e3, i))
    (cases_name w q)

-- at its own key a value stands
pub at_key_same : {A : Type 0} (k : ℕ) (v : A) (f : ℕ → A) → at_key k v f k ≡ v
at_key_same k v f = if_eq k k v (f k) refl

-- at other keys nothing changes
pub at_key_other : {A : Type 0} (k : ℕ) (v : A) (f : ℕ → A) (q : ℕ) → k ≢ q → at_key k v f q ≡ f q
at_key_other k v f q ne = if_ne k q v (f q) ne

-- one more firing
pub run_more : (f : ℕ → item.Item → List Kept → Fired) (u : Word) (p : ℕ) (x : item.Item) (ss : List Kept)
    → Same (run f (u ++ (p, x) ∷ []) ss) (and_then (run f u ss) (f p x (run f u ss).states))
run_more f [] p x ss = record { outs = λ q. append-nil ((f p x ss).outs q); adds = λ t. append-nil ((f p x ss).adds t); states = refl }
run_more f (e ∷ es) p x ss =
    let r = f e.0 e.1 ss in
    let h = run_more f es p x r.states in
    let s = run f es r.states in
    record {
      outs = λ q. ap (λ l. r.outs q ++ l) (h.outs q) ∙ sym (append_assoc (r.outs q) (s.outs q) ((f p x s.states).outs q));
      adds = λ t. ap (λ l. r.adds t ++ l) (h.adds t) ∙ sym (append_assoc (r.adds t) (s.adds t) ((f p x s.states).adds t));
      states = h.states;
    }

-- what holds at an operator holds at it by another number
pub at_same : (ops : List OpForm) (F : ℕ → OpForm → Type 0) (o o' : ℕ) (op op' : OpForm) → slice_get ops o ≡ Some op → slice_get ops o' ≡ Some op' → o ≡ o'
    → F o op → F o' op'
at_same ops F o o' op op' g g' e h =
    let eo : op ≡ op' = same_Some op op' (sym g ∙ ap (slice_get ops) e ∙ g') in
    subst (λ i. F i op') e (subst (F o) eo h)

-- one item more is taken
pub take_next : (xs more : List item.Item) (n : ℕ) (x : item.Item) → slice_get xs n ≡ Some x → take (n + 1) (xs ++ more) ≡ take n xs ++ x ∷ []
take_next xs more n x h =
    let lt = slice_get_within xs n x h in
    let x_is : get_or xs n x ≡ x = let g : Some (get_or xs n x) ≡ Some x = sym (slice_get-get_or xs n x lt) ∙ h in cc in
    take-append-le (n + 1) xs more (omega (arith, lt)) ∙ take_more xs n x lt ∙ ap (λ y. take n xs ++ y ∷ []) x_is

-- sums by place are equal, where their parts are
pub numbered_same : (f f' : ℕ → OpForm → ℕ) (ops : List OpForm) (j : ℕ) → ((i : ℕ) (op : OpForm) → slice_get ops i ≡ Some op → f (j + i) op ≡ f' (j + i) op)
    → sum_numbered f j ops ≡ sum_numbered f' j ops
numbered_same f f' [] j h = refl
numbered_same f f' (op ∷ ops) j h =
    let z : j + 0 ≡ j = omega arith in
    let a : f j op ≡ f' j op = subst (λ n. f n op ≡ f' n op) z (h 0 op refl) in
    let b = numbered_same f f' ops (suc j) (λ i op' g. let e : j + suc i ≡ suc j + i = omega arith in subst (λ n. f n op' ≡ f' n op') e (h (suc i) op' g)) in
    omega (arith, a, b)

-- one of them is more
pub numbered_more : (f f' : ℕ → OpForm → ℕ) (ops : List OpForm) (j o d : ℕ) (op : OpForm) → slice_get ops o ≡ Some op → f' (j + o) op ≡ f (j + o) op + d
    → ((i : ℕ) (op' : OpForm) → i ≢ j + o → f i op' ≡ f' i op') → sum_numbered f' j ops ≡ sum_numbered f j ops + d
numbered_more f f' [] j o d op g e h = absurd (cc g)
numbered_more f f' (a ∷ ops) j zero d op g e h =
    let z : j + 0 ≡ j = omega arith in
    let s = same_Some a op g in
    let e1 : f' j a ≡ f j a + d = subst (λ b. f' j b ≡ f j b + d) (sym s) (subst (λ n. f' n op ≡ f n op + d) z e) in
    let t = numbered_same f f' ops (suc j) (λ i op' g'. h (suc j + i) op' (let ne : suc j + i ≢ j + 0 = omega arith in ne)) in
    omega (arith, e1, t)
numbered_more f f' (a ∷ ops) j (suc o) d op g e h =
    let z : j + suc o ≡ suc j + o = omega arith in
    let e1 : f' (suc j + o) op ≡ f (suc j + o) op + d = subst (λ n. f' n op ≡ f n op + d) z e in
    let t = numbered_more f f' ops (suc j) o d op g e1 (λ i op' ne. h i op' (λ k. ne (k ∙ z))) in
    let u = h j a (let ne : j ≢ j + suc o = omega arith in ne) in
    omega (arith, t, u)

-- a sum by place that asks for no place is the sum
pub numbered_total : (f : OpForm → ℕ) (ops : List OpForm) (j : ℕ) → sum_numbered (λ i op. f op) j ops ≡ total f ops
numbered_total f [] j = refl
numbered_total f (op ∷ ops) j = let e = numbered_total f ops (suc j) in omega (arith, e)

-- of equal lists equal lists are joined
pub joined_cong : {A : Type 0} (ts : List Name) (f g : ℕ → List A) (t : Name) → ((j : ℕ) → f j ≡ g j) → joined ts f t ≡ joined ts g t
joined_cong [] f g t e = refl
joined_cong (w ∷ ws) f g t e =
    ap (λ l. (if name_eq w t then l else []) ++ joined ws (λ j. f (suc j)) t) (e 0)
    ∙ ap (λ l. (if name_eq w t then g 0 else []) ++ l) (joined_cong ws (λ j. f (suc j)) (λ j. g (suc j)) t (λ j. e (suc j)))

-- lists stand for histories, where equal ones do
pub lists_cong : (ws : List Name) (f g : ℕ → List item.Item) (h : History) → ((j : ℕ) → f j ≡ g j) → Lists ws f h → Lists ws g h
lists_cong [] f g h e l = tt
lists_cong (w ∷ ws) f g h e l = (l.0 ∙ e 0, lists_cong ws (λ j. f (suc j)) (λ j. g (suc j)) h (λ j. e (suc j)) l.1)

-- histories that agree at what is written are stood for alike
pub lists_agree : (ws : List Name) (f : ℕ → List item.Item) (h h' : History) → ((q : Name) → 0 < count q ws → h q ≡ h' q) → Lists ws f h → Lists ws f h'
lists_agree [] f h h' e l = tt
lists_agree (w ∷ ws) f h h' e l = (sym (e w (count_here w ws)) ∙ l.0, lists_agree ws (λ j. f (suc j)) h h' (λ q lt. e q (omega (arith, lt))) l.1)

-- what an operator adds to a table, counted, and what all do
abbrev pub adds_it : List Name → History → Name → (List ℤ → Bool) → OpForm → ℕ
adds_it tables h t test op = count_by test (joined (tables_of tables op) (given_on op h).adds t)

-- how many of the rows that all operators add to a table pass a test
pub adds_total : (tables : List Name) (ops : List OpForm) (h : History) (t : Name) (test : List ℤ → Bool)
    → count_by test (adds tables ops h t) ≡ total (adds_it tables h t test) ops
adds_total tables [] h t test = refl
adds_total tables (op ∷ ops) h t test =
    let e = adds_total tables ops h t test in
    let c = count_by-append test (joined (tables_of tables op) (given_on op h).adds t) (adds tables ops h t) in
    omega (arith, e, c)

-- HOW MANY FIRINGS THERE ARE

-- the firings at the ports from 1 on, each at the port before
abbrev later : ℕ → item.Item → Word → Word
later zero x es = es
later (suc p) x es = (p, x) ∷ es

abbrev others : Word → Word
others [] = []
others (e ∷ es) = later e.0 e.1 (others es)

later_length : (p : ℕ) (x : item.Item) (es : Word) → length es ≡ length (at_port 0 es) + length (others es)
    → length ((p, x) ∷ es) ≡ length (at_port 0 ((p, x) ∷ es)) + length (later p x (others es))
later_length zero x es h = let e = ap length (at_port_here 0 (0, x) es refl) in omega (arith, e, h)
later_length (suc p) x es h = let e = ap length (at_port_past 0 (suc p, x) es (let ne : suc p ≢ 0 = omega arith in ne)) in omega (arith, e, h)

others_length : (w : Word) → length w ≡ length (at_port 0 w) + length (others w)
others_length [] = refl
others_length (e ∷ es) = later_length e.0 e.1 es (others_length es)

later_port : (p : ℕ) (x : item.Item) (es : Word) (q : ℕ) → at_port q (others es) ≡ at_port (suc q) es
    → at_port q (later p x (others es)) ≡ at_port (suc q) ((p, x) ∷ es)
later_port zero x es q h = h ∙ sym (at_port_past (suc q) (0, x) es (let ne : 0 ≢ suc q = omega arith in ne))
later_port (suc p) x es q h = ⊎_elim
    (λ e. at_port_here q (p, x) (others es) e ∙ ap (λ l. x ∷ l) h ∙ sym (at_port_here (suc q) (suc p, x) es (ap suc e)))
    (λ n. at_port_past q (p, x) (others es) n ∙ h ∙ sym (at_port_past (suc q) (suc p, x) es (λ e. n (let d : p ≡ q = omega (arith, e) in d))))
    (cases_eq p q)

others_port : (w : Word) (q : ℕ) → at_port q (others w) ≡ at_port (suc q) w
others_port [] q = refl
others_port (e ∷ es) q = later_port e.0 e.1 es q (others_port es q)

later_below : (n p : ℕ) (x : item.Item) (es : Word) → p < suc n → PortsBelow n es → PortsBelow n (later p x es)
later_below n zero x es lt h = h
later_below n (suc p) x es lt h = (omega (arith, lt), h)

others_below : (n : ℕ) (w : Word) → PortsBelow (suc n) w → PortsBelow n (others w)
others_below n [] h = tt
others_below n (e ∷ es) h = later_below n e.0 e.1 (others es) h.0 (others_below n es h.1)

-- a word with these queues' items at its ports has as many firings as there are items
pub word_lengths : (rs : List Name) (h : History) (w : Word) → PortsBelow (length rs) w → ((p : ℕ) (q : Name) → slice_get rs p ≡ Some q → at_port p w ≡ h q)
    → length w ≡ lengths h rs
word_lengths [] h [] b e = refl
word_lengths [] h (f ∷ fs) b e = absurd (let z = b.0 in omega (arith, z))
word_lengths (r ∷ rs) h w b e =
    let o = others_length w in
    let first = ap length (e 0 r refl) in
    let rest = word_lengths rs h (others w) (others_below (length rs) w b) (λ p q g. others_port w p ∙ e (suc p) q g) in
    omega (arith, o, first, rest)
