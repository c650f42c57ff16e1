-- The other kernels, fed with an item for each instant.
use Rattle.std.proofs.Common.{◌≡◌, ℕ, zero, suc, ℤ, ◌+◌, ◌<◌, None, List, [], ◌∷◌, ◌++◌, refl, sym, ap, ◌∙◌, arith, subst, length, append_assoc}
use Rattle.std.specs.Prelude.{int_lt, filter}
use Rattle.std.proofs.lemmas.List.{append-nil}
use Rattle.river_base.proofs.PlaceLemmas.{if_lt}
use Rattle.river_base.specs.Instants.{Timed, item_at, spread}
use Rattle.river_base.specs.declared.item.Item as item
use Rattle.river_base.specs.Held.{batches}
use Rattle.river_base.specs.Row.{in_order}
use Rattle.river_base.specs.Drain.{drain, pass_on}
use Rattle.work_code.specs.Term.{Term}
use Rattle.kern_bags.specs.Contents.{selected, projected, product}
use Rattle.kern_bags.specs.Steps.{streamer_one, select_one, project_one, Pairing, front_of_pair, rest_of_pair, joined_batch, crosses}
use Rattle.kern_bags.specs.Steps as steps
use Rattle.cql_text.specs.declared.tree.Kind.{Kind}
use Rattle.cql_text.specs.declared.tree.Kind.TheVariants.{Istream, Dstream, Rstream}
use Rattle.river_kernels.specs.Kern.{select, project, streamer, cross, duplicate}
use Rattle.brooklet_model.specs.Firings.{Kept, Crossing, Fired, feed}
use Rattle.brooklet_model.specs.Fire.{fire, first_kept, crossed_fired}
use Rattle.brooklet_model.specs.Words.{Word, feed_all, run, word_of}
use Rattle.brooklet_model.proofs.Feeds.{feed_word}
use Rattle.cql_model.specs.KernelWords.{streamer_of}
use Rattle.cql_model.specs.Streams.{last_instant, at_last, content_before, changed}
use Rattle.cql_model.proofs.Feeding.{received_fed, given_spread, mapped_fed}
use Rattle.cql_model.proofs.Instants.{Ascends, below_front}
use Rattle.cql_model.proofs.Bags.{difference_is}

-- a selection, fed with a relation, gives the rows that pass at each instant
pub select_fed : (e : Term) (ts : List ℤ) (s : Timed) (ss : List Kept) → (feed (fire (select e) 0) (spread ts s) ss).outs 0 ≡ spread ts (λ t. selected e (s t))
select_fed e ts s ss = mapped_fed (selected e) (select_one e) (λ t rows. refl) ts s ss

-- a projection gives the values of the columns
pub project_fed : (es : List Term) (ts : List ℤ) (s : Timed) (ss : List Kept)
    → (feed (fire (project es) 0) (spread ts s) ss).outs 0 ≡ spread ts (λ t. projected es (s t))
project_fed es ts s ss = mapped_fed (projected es) (project_one es) (λ t rows. refl) ts s ss

-- COPIES

-- a copy gives what it is fed with, at each of its ports
pub copy_fed : (n q : ℕ) → q < n → (xs : List item.Item) (ss : List Kept) → (feed (fire (duplicate n) 0) xs ss).outs q ≡ xs
copy_fed n q lt [] ss = refl
copy_fed n q lt (x ∷ xs) ss = ap (λ l. l ++ (feed (fire (duplicate n) 0) xs ss).outs q) (if_lt q n (x ∷ []) [] lt) ∙ ap (λ l. x ∷ l) (copy_fed n q lt xs ss)

-- STREAMERS

rows_last : (r : Timed) (us : List ℤ) → steps.last_rows (batches (spread us r)) ≡ at_last r (last_instant us)
rows_last r [] = refl
rows_last r (u ∷ []) = refl
rows_last r (u ∷ v ∷ vs) = rows_last r (v ∷ vs)

-- of contents in order, what came and went is in order
streamed_is : (k : Kind) (old new : List (List ℤ)) → steps.streamed (streamer_of k) (in_order old) (in_order new) ≡ in_order (changed k old new)
streamed_is Istream old new = difference_is new old
streamed_is Dstream old new = difference_is old new
streamed_is Rstream old new = refl

last_in_order : (r c : Timed) (us : List ℤ) → ((t : ℤ) → r t ≡ in_order (c t)) → at_last r (last_instant us) ≡ in_order (at_last c (last_instant us))
last_in_order r c [] h = refl
last_in_order r c (u ∷ []) h = h u
last_in_order r c (u ∷ v ∷ vs) h = last_in_order r c (v ∷ vs) h

streamer_step : (k : Kind) (ts : List ℤ) (r c : Timed) → Ascends ts → ((t : ℤ) → r t ≡ in_order (c t)) → (us vs : List ℤ) (t : ℤ) → ts ≡ us ++ (t ∷ vs)
    → streamer_one (streamer_of k) (spread us r) (item_at t (r t)) ≡ item_at t (in_order (changed k (content_before ts c t) (c t))) ∷ []
streamer_step k ts r c up h us vs t e =
    let front : filter (λ u. int_lt u t) ts ≡ us = ap (filter (λ u. int_lt u t)) e ∙ below_front us vs t (subst Ascends e up) in
    let old : steps.last_rows (batches (spread us r)) ≡ in_order (content_before ts c t) = rows_last r us ∙ last_in_order r c us h
    ∙ ap (λ l. in_order (at_last c (last_instant l))) (sym front) in
    ap (λ l. item_at t l ∷ [])
    (ap (λ l. steps.streamed (streamer_of k) l (r t)) old ∙ ap (steps.streamed (streamer_of k) (in_order (content_before ts c t))) (h t)
    ∙ streamed_is k (content_before ts c t) (c t))

-- a streamer gives what came, what went, or all
pub streamer_fed : (k : Kind) (ts : List ℤ) (r c : Timed) → Ascends ts → ((t : ℤ) → r t ≡ in_order (c t))
    → (feed (fire (streamer (streamer_of k)) 0) (spread ts r) (first_kept (streamer (streamer_of k)))).outs 0 ≡ spread ts
    (λ t. in_order (changed k (content_before ts c t) (c t)))
streamer_fed k ts r c up h =
    received_fed (streamer_one (streamer_of k)) [] (spread ts r)
    ∙ given_spread ts r (λ t. in_order (changed k (content_before ts c t) (c t))) (streamer_one (streamer_of k)) (streamer_step k ts r c up h) [] ts refl

-- PRODUCTS: all of the first port, then all of the second

-- a product that keeps these batches
abbrev pub pairing : List item.Item → List item.Item → Pairing
pairing xs ys = record { left = xs; right = ys }

-- batches of the first side that wait
abbrev pub waiting : List item.Item → List Kept
waiting xs = Crossing (pairing xs []) ∷ []

-- what passes of a product
abbrev pub drained : ℕ → Pairing → List item.Item × Pairing
drained n s = drain front_of_pair rest_of_pair n s

front_none : (xs : List item.Item) → front_of_pair (pairing xs []) ≡ None
front_none [] = refl
front_none (x ∷ xs) = refl

-- nothing passes where the second port has nothing
pub none_passes : (n : ℕ) (xs : List item.Item) → drained n (pairing xs []) ≡ ([], pairing xs [])
none_passes zero xs = refl
none_passes (suc n) xs = ap (pass_on rest_of_pair (pairing xs []) (drain front_of_pair rest_of_pair n)) (front_none xs)

-- the items of the first port wait
left_one : (x : item.Item) (xs : List item.Item) → crosses 0 x (pairing xs []) ≡ ([], pairing (xs ++ x ∷ []) [])
left_one x xs = none_passes (length (xs ++ x ∷ []) + 0) (xs ++ x ∷ [])

-- a product, fed at its left port alone, keeps what came and gives nothing
pub left_fed : (xs ls : List item.Item)
    → ((feed (fire cross 0) xs (waiting ls)).outs 0 ≡ []) × ((feed (fire cross 0) xs (waiting ls)).states ≡ waiting (ls ++ xs))
left_fed [] ls = (refl, ap waiting (sym (append-nil ls)))
left_fed (x ∷ xs) ls =
    let one : fire cross 0 x (waiting ls) ≡ crossed_fired ([], pairing (ls ++ x ∷ []) []) [] = ap (λ d. crossed_fired d []) (left_one x ls) in
    let more = left_fed xs (ls ++ x ∷ []) in (
      ap (λ (r : Fired). r.outs 0 ++ (feed (fire cross 0) xs r.states).outs 0) one ∙ more.0,
      ap (λ (r : Fired). (feed (fire cross 0) xs r.states).states) one ∙ more.1 ∙ ap waiting (append_assoc ls (x ∷ []) xs),
    )

-- each item of the second port goes with the first that waits
pair_passes : (m n : ℕ) (x y : item.Item) (xs : List item.Item) → m ≡ suc n → drained m (pairing (x ∷ xs) (y ∷ [])) ≡ (joined_batch x y ++ [], pairing xs [])
pair_passes m n x y xs e =
    ap (λ k. drained k (pairing (x ∷ xs) (y ∷ []))) e ∙ ap (λ (d : List item.Item × Pairing). (joined_batch x y ++ d.0, d.1)) (none_passes n xs)

-- one item at its right port then meets the first that was kept
pub right_one : (x y : item.Item) (xs : List item.Item) → crosses 1 y (pairing (x ∷ xs) []) ≡ (joined_batch x y ++ [], pairing xs [])
right_one x y xs = pair_passes (length (x ∷ xs) + length (y ∷ [])) (length (x ∷ xs)) x y xs (omega arith)

right_fed : (ts : List ℤ) (a b : Timed) → (feed (fire cross 1) (spread ts b) (waiting (spread ts a))).outs 0 ≡ spread ts (λ t. product (a t) (b t))
right_fed [] a b = refl
right_fed (t ∷ ts) a b =
    let one : fire cross 1 (item_at t (b t)) (waiting (spread (t ∷ ts) a)) ≡ crossed_fired
    (item_at t (product (a t) (b t)) ∷ [], pairing (spread ts a) []) [] =
    ap (λ d. crossed_fired d []) (right_one (item_at t (a t)) (item_at t (b t)) (spread ts a)) in
    ap (λ (r : Fired). r.outs 0 ++ (feed (fire cross 1) (spread ts b) r.states).outs 0) one
    ∙ ap (λ l. item_at t (product (a t) (b t)) ∷ l) (right_fed ts a b)

-- a word of firings is run in two parts
pub run-append : (f : ℕ → item.Item → List Kept → Fired) (u w : Word) (ss : List Kept)
    → (run f (u ++ w) ss).outs 0 ≡ (run f u ss).outs 0 ++ (run f w (run f u ss).states).outs 0
run-append f [] w ss = refl
run-append f (e ∷ es) w ss =
    ap (λ l. (f e.0 e.1 ss).outs 0 ++ l) (run-append f es w (f e.0 e.1 ss).states)
    ∙ sym (append_assoc ((f e.0 e.1 ss).outs 0) ((run f es (f e.0 e.1 ss).states).outs 0) _)

-- fed port by port, a product gives at each instant the product of the two contents at this instant
pub cross_fed : (ts : List ℤ) (a b : Timed) (h : ℕ → List item.Item) → h 0 ≡ spread ts a → h 1 ≡ spread ts b
    → (feed_all cross h (first_kept cross)).outs 0 ≡ spread ts (λ t. product (a t) (b t))
cross_fed ts a b h e f =
    let left = left_fed (spread ts a) [] in
    ap (λ l. (run (fire cross) (word_of 0 l ++ (word_of 1 (h 1) ++ [])) (waiting [])).outs 0) e
    ∙ ap (λ l. (run (fire cross) (word_of 0 (spread ts a) ++ (word_of 1 l ++ [])) (waiting [])).outs 0) f
    ∙ run-append (fire cross) (word_of 0 (spread ts a)) (word_of 1 (spread ts b) ++ []) (waiting [])
    ∙ ap (λ (r : Fired). r.outs 0 ++ (run (fire cross) (word_of 1 (spread ts b) ++ []) r.states).outs 0) (feed_word (fire cross) 0 (spread ts a) (waiting []))
    ∙ ap (λ l. l ++ (run (fire cross) (word_of 1 (spread ts b) ++ []) (feed (fire cross 0) (spread ts a) (waiting [])).states).outs 0) left.0
    ∙ ap (λ st. (run (fire cross) (word_of 1 (spread ts b) ++ []) st).outs 0) left.1
    ∙ ap (λ w. (run (fire cross) w (waiting (spread ts a))).outs 0) (append-nil (word_of 1 (spread ts b)))
    ∙ ap (λ (r : Fired). r.outs 0) (feed_word (fire cross) 1 (spread ts b) (waiting (spread ts a)))
    ∙ right_fed ts a b
