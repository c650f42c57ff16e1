-- Choices are the pairs that are ready, in ascending order, and a round takes them in the order in which they are gone through.
use Rattle.std.proofs.Common.{◌≡◌, ℕ, zero, suc, ◌+◌, ◌%◌, ◌<◌, ◌≤◌, ◌⊎◌, inl, inr, Bool, true, false, Some, List, [], ◌∷◌, ◌++◌, length, map, refl, sym, ap, ◌∙◌, subst, arith}
use Rattle.std.proofs.Common.{append_assoc, ⊎_elim}
use Rattle.std.specs.Prelude.{if◌then◌else◌, slice_get}
use Rattle.std.proofs.lemmas.Bool.{cases_Bool}
use Rattle.std.proofs.lemmas.List.{append-nil}
use Rattle.std.proofs.lemmas.Option.{slice_get_within}
use Rattle.river_base.specs.Name.{name_eq}
use Rattle.river_base.proofs.PlaceLemmas.{if_true, if_false}
use Rattle.river_base.proofs.Tests.{lt_true}
use Rattle.river_base.proofs.Lists.{got_first}
use Rattle.river_plan.specs.Forms.{Name}
use Rattle.free_model.specs.Apart.{Every, Ready}
use Rattle.free_model.specs.Forms.{FreeOpForm, FreeForm}
use Rattle.free_model.specs.Machine.{State}
use Rattle.free_model.specs.Order.{IsLower, AreRising, Stands, AreReadyPairs, ChoicesAreReadyPairs, StandInOrder, RoundsTakeInOrder}
use Rattle.free_model.specs.Rounds.{has_item, ports_from, choices_from, choices, cells_at, shares, is_kept, kept_of, turned, round_of}
use Rattle.free_model.proofs.Kept.{choices_ready}
use Rattle.free_model.proofs.Lists.{every_join}

-- ALL THAT IS READY

stands_left : {A : Type 0} (xs ys : List A) (x : A) → Stands xs x → Stands (xs ++ ys) x
stands_left xs ys x h = (h.0, got_first xs ys h.0 x h.1)

stands_right : {A : Type 0} (xs ys : List A) (x : A) → Stands ys x → Stands (xs ++ ys) x
stands_right [] ys x h = h
stands_right (y ∷ xs) ys x h = let i = stands_right xs ys x h in (suc i.0, i.1)

port_stands : (s : State) (o port : ℕ) (qs : List Name) (k : ℕ) (q : Name) → slice_get qs k ≡ Some q → has_item s q ≡ true
    → Stands (ports_from (has_item s) o port qs) (o, port + k)
port_stands s o port [] k q g t = absurd (cc g)
port_stands s o port (r ∷ qs) zero q g t =
    let e : r ≡ q = cc g in
    let b : has_item s r ≡ true = subst (λ n. has_item s n ≡ true) (sym e) t in
    let there : Stands ((o, port) ∷ ports_from (has_item s) o (suc port) qs) (o, port) = (0, refl) in
    subst (λ n. Stands (ports_from (has_item s) o port (r ∷ qs)) (o, n)) (omega arith)
    (subst (λ c. Stands ((if c then (o, port) ∷ [] else []) ++ ports_from (has_item s) o (suc port) qs) (o, port)) (sym b) there)
port_stands s o port (r ∷ qs) (suc k) q g t =
    subst (λ n. Stands (ports_from (has_item s) o port (r ∷ qs)) (o, n)) (omega arith)
    (stands_right (if has_item s r then (o, port) ∷ [] else []) (ports_from (has_item s) o (suc port) qs) (o, suc port + k) (port_stands s o (suc port) qs k q g t))

abbrev reads_of : List FreeOpForm → List (List Name)
reads_of ops = map (λ op. op.reads) ops

op_stands : (s : State) (o : ℕ) (ops : List FreeOpForm) (k port : ℕ) (op : FreeOpForm) (q : Name) → slice_get ops k ≡ Some op → slice_get op.reads port ≡ Some q
    → has_item s q ≡ true → Stands (choices_from (has_item s) o (reads_of ops)) (o + k, port)
op_stands s o [] k port op q g h t = absurd (cc g)
op_stands s o (a ∷ ops) zero port op q g h t =
    let e : a ≡ op = cc g in
    let there = port_stands s o 0 a.reads port q (subst (λ (b : FreeOpForm). slice_get b.reads port ≡ Some q) (sym e) h) t in
    subst (λ n. Stands (choices_from (has_item s) o (reads_of (a ∷ ops))) (n, port)) (omega arith)
    (stands_left (ports_from (has_item s) o 0 a.reads) (choices_from (has_item s) (suc o) (reads_of ops)) (o, port)
    (subst (λ n. Stands (ports_from (has_item s) o 0 a.reads) (o, n)) (omega arith) there))
op_stands s o (a ∷ ops) (suc k) port op q g h t =
    subst (λ n. Stands (choices_from (has_item s) o (reads_of (a ∷ ops))) (n, port)) (omega arith)
    (stands_right (ports_from (has_item s) o 0 a.reads) (choices_from (has_item s) (suc o) (reads_of ops)) (suc o + k, port)
    (op_stands s (suc o) ops k port op q g h t))

all_stand : (p : FreeForm) (s : State) (c : ℕ × ℕ) → Ready p s c → Stands (choices p s) c
all_stand p s c r =
    let t : has_item s r.queue ≡ true = lt_true (s.taken r.queue) (length (s.hist r.queue)) (slice_get_within (s.hist r.queue) (s.taken r.queue) r.item r.item_is) in
    subst (λ n. Stands (choices p s) (n, c.1)) (omega arith) (op_stands s 0 p.ops c.0 c.1 r.op r.queue r.op_is r.queue_is t)

-- IN ASCENDING ORDER

rising_join : (xs ys : List (ℕ × ℕ)) → AreRising xs → AreRising ys → Every (λ x. Every (IsLower x) ys) xs → AreRising (xs ++ ys)
rising_join [] ys h g l = g
rising_join (x ∷ xs) ys h g l = (every_join (IsLower x) xs ys h.0 l.0, rising_join xs ys h.1 g l.1)

-- of one operator, from this port on
abbrev IsFrom : ℕ → ℕ → ℕ × ℕ → Type 0
IsFrom o port c = (c.0 ≡ o) × (port ≤ c.1)

every_weaker : (P Q : ℕ × ℕ → Type 0) → ((c : ℕ × ℕ) → P c → Q c) → (cs : List (ℕ × ℕ)) → Every P cs → Every Q cs
every_weaker P Q f [] h = tt
every_weaker P Q f (c ∷ cs) h = (f c h.0, every_weaker P Q f cs h.1)

ports_above : {A : Type 0} (test : A → Bool) (o port : ℕ) (qs : List A) → Every (IsFrom o port) (ports_from test o port qs)
ports_above test o port [] = tt
ports_above test o port (q ∷ qs) =
    every_join (IsFrom o port) (if test q then (o, port) ∷ [] else []) (ports_from test o (suc port) qs) (one (test q))
    (every_weaker (IsFrom o (suc port)) (IsFrom o port) (λ c h. (h.0, let le = h.1 in omega (arith, le))) (ports_from test o (suc port) qs) (ports_above test o (suc port) qs))
  where
    one : (b : Bool) → Every (IsFrom o port) (if b then (o, port) ∷ [] else [])
    one true = ((refl, omega arith), tt)
    one false = tt

ports_rise : {A : Type 0} (test : A → Bool) (o port : ℕ) (qs : List A) → AreRising (ports_from test o port qs)
ports_rise test o port [] = tt
ports_rise test o port (q ∷ qs) =
    rising_join (if test q then (o, port) ∷ [] else []) (ports_from test o (suc port) qs) (one (test q)) (ports_rise test o (suc port) qs) (lower (test q))
  where
    one : (b : Bool) → AreRising (if b then (o, port) ∷ [] else [])
    one true = (tt, tt)
    one false = tt

    lower : (b : Bool) → Every (λ x. Every (IsLower x) (ports_from test o (suc port) qs)) (if b then (o, port) ∷ [] else [])
    lower true = (
      every_weaker (IsFrom o (suc port)) (IsLower (o, port)) (λ c h. inr (sym h.0, let le = h.1 in omega (arith, le))) (ports_from test o (suc port) qs)
          (ports_above test o (suc port) qs),
      tt,
    )
    lower false = tt

ops_above : {A : Type 0} (test : A → Bool) (o : ℕ) (all : List (List A)) → Every (λ c. o ≤ c.0) (choices_from test o all)
ops_above test o [] = tt
ops_above test o (qs ∷ all) =
    every_join (λ c. o ≤ c.0) (ports_from test o 0 qs) (choices_from test (suc o) all)
    (every_weaker (IsFrom o 0) (λ c. o ≤ c.0) (λ c h. let e = h.0 in omega (arith, e)) (ports_from test o 0 qs) (ports_above test o 0 qs))
    (every_weaker (λ c. suc o ≤ c.0) (λ c. o ≤ c.0) (λ c h. omega (arith, h)) (choices_from test (suc o) all) (ops_above test (suc o) all))

choices_rise : {A : Type 0} (test : A → Bool) (o : ℕ) (all : List (List A)) → AreRising (choices_from test o all)
choices_rise test o [] = tt
choices_rise test o (qs ∷ all) =
    rising_join (ports_from test o 0 qs) (choices_from test (suc o) all) (ports_rise test o 0 qs) (choices_rise test (suc o) all)
    (every_weaker (IsFrom o 0) (λ x. Every (IsLower x) (choices_from test (suc o) all))
    (λ x h. every_weaker (λ c. suc o ≤ c.0) (IsLower x) (λ c g. inl (let e = h.0 in omega (arith, e, g))) (choices_from test (suc o) all) (ops_above test (suc o) all))
    (ports_from test o 0 qs) (ports_above test o 0 qs))

pub choices_are_ready_pairs : ChoicesAreReadyPairs
choices_are_ready_pairs p s = record { ready = choices_ready p s; all = all_stand p s; rising = choices_rise (has_item s) 0 (reads_of p.ops) }

-- IN THE ORDER GONE THROUGH

passed : (ys cs : List (ℕ × ℕ)) (c : ℕ × ℕ) → StandInOrder ys cs → StandInOrder ys (c ∷ cs)
passed [] cs c h = tt
passed (y ∷ ys) cs c h = inr h

kept_in_order : (share : ℕ × ℕ → ℕ × ℕ → Bool) (workers : ℕ) (kept cs : List (ℕ × ℕ))
    → (ys : List (ℕ × ℕ)) × (kept_of share workers kept cs ≡ kept ++ ys) × StandInOrder ys cs
kept_in_order share workers kept [] = ([], sym (append-nil kept), tt)
kept_in_order share workers kept (c ∷ cs) = ⊎_elim
    (λ e.
    let i = kept_in_order share workers (kept ++ c ∷ []) cs in (
      c ∷ i.0,
      ap (λ l. kept_of share workers l cs) (if_true (is_kept share workers kept c) (kept ++ c ∷ []) kept e) ∙ i.1 ∙ append_assoc kept (c ∷ []) i.0,
      inl (refl, i.2),
    ))
    (λ e.
    let i = kept_in_order share workers kept cs in
    (i.0, ap (λ l. kept_of share workers l cs) (if_false (is_kept share workers kept c) (kept ++ c ∷ []) kept e) ∙ i.1, passed i.0 cs c i.2))
    (cases_Bool (is_kept share workers kept c))

pub rounds_take_in_order : RoundsTakeInOrder
rounds_take_in_order p workers pick s =
    let cs = turned (pick % length (choices p s)) (choices p s) in
    let i = kept_in_order (shares name_eq (cells_at p)) workers [] cs in
    subst (λ l. StandInOrder l cs) (sym i.1) i.2
