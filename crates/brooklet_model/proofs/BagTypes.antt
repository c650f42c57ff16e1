-- What the kernels on streams and relations give is of their ports' types.
use Rattle.std.proofs.Common.{◌≡◌, ℕ, zero, suc, ℤ, pos, ◌+◌, ◌-◌, Bool, true, false, cond, Option, Some, None, List, [], ◌∷◌, ◌++◌, length, map, filter, fold}
use Rattle.std.proofs.Common.{drop, refl, subst, arith, length-append}
use Rattle.std.specs.Prelude.{All, int_lt, ◌-ℤ◌, int_le, ◌&&◌}
use Rattle.std.specs.List.{flat_map}
use Rattle.std.specs.Ordering.{int_eq}
use Rattle.std.proofs.lemmas.List.{length-map}
use Rattle.std.proofs.lemmas.List.Elements.{All-head, All-tail, All-cons, All-nil, All-append}
use Rattle.std.proofs.lemmas.List.Kept.{IsSortedBy-filter}
use Rattle.river_base.specs.declared.item.Batch.{Batch}
use Rattle.river_base.specs.declared.item.Item as item
use Rattle.river_base.specs.declared.item.Item.TheVariants.{Flat, Pack}
use Rattle.river_base.specs.declared.item.Flat.TheVariants.{One, Batch as Batched, Change as Changed}
use Rattle.river_base.specs.declared.kind.FlatType.{FlatType}
use Rattle.river_base.specs.declared.kind.FlatType.TheVariants.{Rows, Stream, Relation}
use Rattle.river_base.specs.declared.kind.QueueType.{QueueType}
use Rattle.river_base.specs.declared.kind.QueueType.TheVariants.{Flat as FlatOf}
use Rattle.river_base.specs.Drain.{drain, pass_on}
use Rattle.river_base.specs.Held.{HaveWidth, IsAscending, HasType, batches}
use Rattle.river_base.specs.Bags.{put_in_order}
use Rattle.river_base.specs.Row.{in_order, row_lt, row_eq}
use Rattle.river_base.proofs.Rows.{in_order_ascends, rows_ranked}
use Rattle.work_code.specs.Term.{Term}
use Rattle.work_code.specs.Value.{val, is_true}
use Rattle.kern_bags.specs.Contents.{take_out, selected, projected, product, difference, without, rows_where, put_batch, by_instant, in_window, content_of}
use Rattle.kern_bags.specs.Contents.{greatest, later}
use Rattle.kern_bags.specs.Steps.{last_rows, window_one, select_one, project_one, streamed, streamer_one, Pairing, rows_in_item, joined_batch, front_pair}
use Rattle.kern_bags.specs.Steps.{front_of_pair, without_first, rest_of_pair, put_pair, crosses}
use Rattle.kern_bags.specs.declared.kernel.Window.{Window}
use Rattle.kern_bags.specs.declared.kernel.Window.TheVariants.{Now, Range, Unbounded, Latest}
use Rattle.kern_bags.specs.declared.kernel.Streamer.{Streamer}
use Rattle.kern_bags.specs.declared.kernel.Streamer.TheVariants.{Istream, Dstream, Rstream}
use Rattle.river_kernels.specs.Fits.{stream, relation, is_bag}

-- ELEMENTS OF ROWS IN ORDER, AND OF WHAT IS LEFT OF ROWS

all-drop : {A : Type 0} (P : A → Type 0) (n : ℕ) (xs : List A) → All P xs → All P (drop n xs)
all-drop P zero xs h = h
all-drop P (suc n) [] h = h
all-drop P (suc n) (x ∷ xs) h = all-drop P n xs (All-tail P x xs h)

all-place : (P : List ℤ → Type 0) (x : List ℤ) (ys : List (List ℤ)) → P x → All P ys → All P (put_in_order row_lt x ys)
all-place P x [] p h = All-cons P x [] p h
all-place P x (y ∷ ys) p h = step (row_lt y x) (all-place P x ys p (All-tail P y ys h)) where
  step : (b : Bool) → All P (put_in_order row_lt x ys) → All P (cond b (y ∷ put_in_order row_lt x ys) (x ∷ (y ∷ ys)))
  step true more = All-cons P y (put_in_order row_lt x ys) (All-head P y ys h) more
  step false more = All-cons P x (y ∷ ys) p h

all-from : (P : List ℤ → Type 0) (done xs : List (List ℤ)) → All P done → All P xs → All P (fold (λ d x. put_in_order row_lt x d) done xs)
all-from P done [] d h = d
all-from P done (x ∷ xs) d h = all-from P (put_in_order row_lt x done) xs (all-place P x done (All-head P x xs h) d) (All-tail P x xs h)

all-in_order : (P : List ℤ → Type 0) (xs : List (List ℤ)) → All P xs → All P (in_order xs)
all-in_order P xs h = all-from P [] xs (All-nil P) h

all-take_out : (P : List ℤ → Type 0) (y : List ℤ) (xs : List (List ℤ)) → All P xs → All P (take_out y xs)
all-take_out P y [] h = h
all-take_out P y (x ∷ xs) h = step (row_eq x y) (all-take_out P y xs (All-tail P x xs h)) where
  step : (b : Bool) → All P (take_out y xs) → All P (cond b xs (x ∷ take_out y xs))
  step true more = All-tail P x xs h
  step false more = All-cons P x (take_out y xs) (All-head P x xs h) more

all-without : (P : List ℤ → Type 0) (xs ys : List (List ℤ)) → All P xs → All P (without xs ys)
all-without P xs [] h = h
all-without P xs (y ∷ ys) h = all-without P (take_out y xs) ys (all-take_out P y xs h)

abbrev IsWide : ℕ → List ℤ → Type 0
IsWide n row = length row ≡ n

-- BATCHES

abbrev pub WideBatch : ℕ → Batch → Type 0
WideBatch n b = HaveWidth n b.rows

one_of : (t : QueueType) (x : item.Item) → HasType t x → All (HasType t) (x ∷ [])
one_of t x h = All-cons (HasType t) x [] h (All-nil (HasType t))

-- the batches of a stream, or of a relation
pub stream_batches : (n : ℕ) (xs : List item.Item) → All (HasType (stream n)) xs → All (WideBatch n) (batches xs)
stream_batches n [] h = All-nil (WideBatch n)
stream_batches n (Flat (Batched b) ∷ xs) h =
    All-cons (WideBatch n) b (batches xs) (All-head (HasType (stream n)) (Flat (Batched b)) xs h)
    (stream_batches n xs (All-tail (HasType (stream n)) (Flat (Batched b)) xs h))
stream_batches n (Flat (One row) ∷ xs) h = stream_batches n xs (All-tail (HasType (stream n)) (Flat (One row)) xs h)
stream_batches n (Flat (Changed c) ∷ xs) h = stream_batches n xs (All-tail (HasType (stream n)) (Flat (Changed c)) xs h)
stream_batches n (Pack fs ∷ xs) h = stream_batches n xs (All-tail (HasType (stream n)) (Pack fs) xs h)

pub relation_batches : (n : ℕ) (xs : List item.Item) → All (HasType (relation n)) xs → All (WideBatch n) (batches xs)
relation_batches n [] h = All-nil (WideBatch n)
relation_batches n (Flat (Batched b) ∷ xs) h =
    All-cons (WideBatch n) b (batches xs) (All-head (HasType (relation n)) (Flat (Batched b)) xs h).0
    (relation_batches n xs (All-tail (HasType (relation n)) (Flat (Batched b)) xs h))
relation_batches n (Flat (One row) ∷ xs) h = relation_batches n xs (All-tail (HasType (relation n)) (Flat (One row)) xs h)
relation_batches n (Flat (Changed c) ∷ xs) h = relation_batches n xs (All-tail (HasType (relation n)) (Flat (Changed c)) xs h)
relation_batches n (Pack fs ∷ xs) h = relation_batches n xs (All-tail (HasType (relation n)) (Pack fs) xs h)

-- WINDOWS

all-filtered : {A : Type 0} (P : A → Type 0) (p : A → Bool) (xs : List A) → All P xs → All P (filter p xs)
all-filtered P p [] h = All-nil P
all-filtered P p (x ∷ xs) h = step (p x) (all-filtered P p xs (All-tail P x xs h)) where
  step : (b : Bool) → All P (filter p xs) → All P (cond b (x ∷ filter p xs) (filter p xs))
  step true more = All-cons P x (filter p xs) (All-head P x xs h) more
  step false more = more

rows_all : (n : ℕ) (bs : List Batch) → All (WideBatch n) bs → HaveWidth n (flat_map (λ (b : Batch). b.rows) bs)
rows_all n [] h = All-nil (IsWide n)
rows_all n (b ∷ bs) h =
    All-append (IsWide n) b.rows (flat_map (λ (c : Batch). c.rows) bs) (All-head (WideBatch n) b bs h) (rows_all n bs (All-tail (WideBatch n) b bs h))

where_wide : (n : ℕ) (p : ℤ → Bool) (bs : List Batch) → All (WideBatch n) bs → HaveWidth n (rows_where p bs)
where_wide n p bs h = rows_all n (filter (λ (b : Batch). p b.at) bs) (all-filtered (WideBatch n) (λ (b : Batch). p b.at) bs h)

put_all : (P : Batch → Type 0) (b : Batch) (bs : List Batch) → P b → All P bs → All P (put_batch b bs)
put_all P b [] p h = All-cons P b [] p h
put_all P b (c ∷ cs) p h = step (int_lt b.at c.at) (put_all P b cs p (All-tail P c cs h)) where
  step : (t : Bool) → All P (put_batch b cs) → All P (cond t (b ∷ (c ∷ cs)) (c ∷ put_batch b cs))
  step true more = All-cons P b (c ∷ cs) p h
  step false more = All-cons P c (put_batch b cs) (All-head P c cs h) more

order_all : (P : Batch → Type 0) (done bs : List Batch) → All P done → All P bs → All P (fold (λ d b. put_batch b d) done bs)
order_all P done [] d h = d
order_all P done (b ∷ bs) d h = order_all P (put_batch b done) bs (put_all P b done (All-head P b bs h) d) (All-tail P b bs h)

in_window_wide : (n : ℕ) (w : Window) (t : ℤ) (bs : List Batch) → All (WideBatch n) bs → HaveWidth n (in_window w t bs)
in_window_wide n Now t bs h = where_wide n (λ u. int_eq u t) bs h
in_window_wide n (Range span) t bs h = where_wide n (λ u. int_le u t && int_le (later (pos 0) (t -ℤ span)) u) bs h
in_window_wide n Unbounded t bs h = where_wide n (λ u. int_le u t) bs h
in_window_wide n (Latest k) t bs h =
    let rows = rows_where (λ u. int_le u t) (by_instant bs) in
    all-drop (IsWide n) (length rows - k) rows (where_wide n (λ u. int_le u t) (by_instant bs) (order_all (WideBatch n) [] bs (All-nil (WideBatch n)) h))

-- a bag put in order is a relation's content
pub content : (n : ℕ) (rows : List (List ℤ)) → HaveWidth n rows → HaveWidth n (in_order rows) × IsAscending (in_order rows)
content n rows h = (all-in_order (IsWide n) rows h, in_order_ascends rows)

-- what a window gives is a relation's content of its stream's width
pub window_typed : (n : ℕ) (w : Window) (past : List item.Item) (x : item.Item) → All (HasType (stream n)) past → HasType (stream n) x
    → All (HasType (relation n)) (window_one w past x)
window_typed n w past (Flat (Batched b)) h i =
    let bs = batches (past ++ Flat (Batched b) ∷ []) in
    let wide = stream_batches n (past ++ Flat (Batched b) ∷ [])
    (All-append (HasType (stream n)) past (Flat (Batched b) ∷ []) h (one_of (stream n) (Flat (Batched b)) i)) in
    one_of (relation n) (Flat (Batched (record { at = b.at; rows = content_of w bs })))
    (content n (in_window w (greatest bs) bs) (in_window_wide n w (greatest bs) bs wide))
window_typed n w past (Flat (One row)) h i = absurd i
window_typed n w past (Flat (Changed c)) h i = absurd i
window_typed n w past (Pack fs) h i = absurd i

-- SELECT AND PROJECT

selected_wide : (n : ℕ) (e : Term) (rows : List (List ℤ)) → HaveWidth n rows → HaveWidth n (selected e rows)
selected_wide n e rows h = all-filtered (IsWide n) (λ row. is_true (val e row [])) rows h

selected_up : (e : Term) (rows : List (List ℤ)) → IsAscending rows → IsAscending (selected e rows)
selected_up e rows h = IsSortedBy-filter row_lt rows_ranked (λ row. is_true (val e row [])) rows h

-- a selection gives rows of the width of what it is given, in order where they were
pub select_typed : (t : FlatType) (e : Term) (x : item.Item) → is_bag t ≡ true → HasType (FlatOf t) x → All (HasType (FlatOf t)) (select_one e x)
select_typed (Rows n) e x b i = absurd (cc b)
select_typed (Stream n) e (Flat (Batched b)) g i =
    one_of (stream n) (Flat (Batched (record { at = b.at; rows = selected e b.rows }))) (selected_wide n e b.rows i)
select_typed (Stream n) e (Flat (One row)) g i = absurd i
select_typed (Stream n) e (Flat (Changed c)) g i = absurd i
select_typed (Stream n) e (Pack fs) g i = absurd i
select_typed (Relation n) e (Flat (Batched b)) g i =
    one_of (relation n) (Flat (Batched (record { at = b.at; rows = selected e b.rows }))) (selected_wide n e b.rows i.0, selected_up e b.rows i.1)
select_typed (Relation n) e (Flat (One row)) g i = absurd i
select_typed (Relation n) e (Flat (Changed c)) g i = absurd i
select_typed (Relation n) e (Pack fs) g i = absurd i

images_wide : (es : List Term) (rows : List (List ℤ)) → HaveWidth (length es) (map (λ row. map (λ t. val t row []) es) rows)
images_wide es [] = All-nil (IsWide (length es))
images_wide es (r ∷ rs) =
    All-cons (IsWide (length es)) (map (λ t. val t r []) es) (map (λ row. map (λ t. val t row []) es) rs) (length-map es (λ t. val t r [])) (images_wide es rs)

-- a projection gives a relation's content, of one value for each term
pub project_typed : (n : ℕ) (es : List Term) (x : item.Item) → HasType (relation n) x → All (HasType (relation (length es))) (project_one es x)
project_typed n es (Flat (Batched b)) i =
    one_of (relation (length es)) (Flat (Batched (record { at = b.at; rows = projected es b.rows })))
    (content (length es) (map (λ row. map (λ t. val t row []) es) b.rows) (images_wide es b.rows))
project_typed n es (Flat (One row)) i = absurd i
project_typed n es (Flat (Changed c)) i = absurd i
project_typed n es (Pack fs) i = absurd i

-- STREAMERS

last_wide : (n : ℕ) (bs : List Batch) → All (WideBatch n) bs → HaveWidth n (last_rows bs)
last_wide n [] h = All-nil (IsWide n)
last_wide n (b ∷ []) h = All-head (WideBatch n) b [] h
last_wide n (b ∷ c ∷ bs) h = last_wide n (c ∷ bs) (All-tail (WideBatch n) b (c ∷ bs) h)

difference_wide : (n : ℕ) (xs ys : List (List ℤ)) → HaveWidth n xs → HaveWidth n (difference xs ys)
difference_wide n xs ys h = all-in_order (IsWide n) (without xs ys) (all-without (IsWide n) xs ys h)

streamed_wide : (n : ℕ) (k : Streamer) (old new : List (List ℤ)) → HaveWidth n old → HaveWidth n new → HaveWidth n (streamed k old new)
streamed_wide n Istream old new a b = difference_wide n new old b
streamed_wide n Dstream old new a b = difference_wide n old new a
streamed_wide n Rstream old new a b = b

-- a streamer gives rows of its relation's width
pub streamer_typed : (n : ℕ) (k : Streamer) (past : List item.Item) (x : item.Item) → All (HasType (relation n)) past → HasType (relation n) x
    → All (HasType (stream n)) (streamer_one k past x)
streamer_typed n k past (Flat (Batched b)) h i =
    one_of (stream n) (Flat (Batched (record { at = b.at; rows = streamed k (last_rows (batches past)) b.rows })))
    (streamed_wide n k (last_rows (batches past)) b.rows (last_wide n (batches past) (relation_batches n past h)) i.0)
streamer_typed n k past (Flat (One row)) h i = absurd i
streamer_typed n k past (Flat (Changed c)) h i = absurd i
streamer_typed n k past (Pack fs) h i = absurd i

-- PRODUCTS

rows_wide : (n : ℕ) (x : item.Item) → HasType (relation n) x → HaveWidth n (rows_in_item x)
rows_wide n (Flat (Batched b)) i = i.0
rows_wide n (Flat (One row)) i = absurd i
rows_wide n (Flat (Changed c)) i = absurd i
rows_wide n (Pack fs) i = absurd i

joined_rows : (a b : ℕ) (x : List ℤ) (ys : List (List ℤ)) → length x ≡ a → HaveWidth b ys → HaveWidth (a + b) (map (λ y. x ++ y) ys)
joined_rows a b x [] e h = All-nil (IsWide (a + b))
joined_rows a b x (y ∷ ys) e h =
    All-cons (IsWide (a + b)) (x ++ y) (map (λ z. x ++ z) ys) (let l = length-append x y in let f = All-head (IsWide b) y ys h in omega (arith, l, e, f))
    (joined_rows a b x ys e (All-tail (IsWide b) y ys h))

pairs_wide : (a b : ℕ) (xs ys : List (List ℤ)) → HaveWidth a xs → HaveWidth b ys → HaveWidth (a + b) (flat_map (λ x. map (λ y. x ++ y) ys) xs)
pairs_wide a b [] ys h g = All-nil (IsWide (a + b))
pairs_wide a b (x ∷ xs) ys h g =
    All-append (IsWide (a + b)) (map (λ y. x ++ y) ys) (flat_map (λ z. map (λ y. z ++ y) ys) xs) (joined_rows a b x ys (All-head (IsWide a) x xs h) g)
    (pairs_wide a b xs ys (All-tail (IsWide a) x xs h) g)

batch_typed : (a b : ℕ) (x y : item.Item) → HasType (relation a) x → HasType (relation b) y → All (HasType (relation (a + b))) (joined_batch x y)
batch_typed a b (Flat (Batched c)) y i j =
    one_of (relation (a + b)) (Flat (Batched (record { at = c.at; rows = product c.rows (rows_in_item y) })))
    (content (a + b) (flat_map (λ x. map (λ z. x ++ z) (rows_in_item y)) c.rows) (pairs_wide a b c.rows (rows_in_item y) i.0 (rows_wide b y j)))
batch_typed a b (Flat (One row)) y i j = absurd i
batch_typed a b (Flat (Changed c)) y i j = absurd i
batch_typed a b (Pack fs) y i j = absurd i

-- what waits is of the types of the ports
abbrev pub PairTyped : ℕ → ℕ → Pairing → Type 0
PairTyped a b s = All (HasType (relation a)) s.left × All (HasType (relation b)) s.right

front_typed : (a b : ℕ) (xs ys o : List item.Item) → All (HasType (relation a)) xs → All (HasType (relation b)) ys → front_pair xs ys ≡ Some o
    → All (HasType (relation (a + b))) o
front_typed a b [] ys o h g e = absurd (cc e)
front_typed a b (x ∷ xs) [] o h g e = absurd (cc e)
front_typed a b (x ∷ xs) (y ∷ ys) o h g e =
    let is : joined_batch x y ≡ o = cc in
    subst (All (HasType (relation (a + b)))) is (batch_typed a b x y (All-head (HasType (relation a)) x xs h) (All-head (HasType (relation b)) y ys g))

rest_typed : (t : QueueType) (xs : List item.Item) → All (HasType t) xs → All (HasType t) (without_first xs)
rest_typed t [] h = h
rest_typed t (x ∷ xs) h = All-tail (HasType t) x xs h

drain_typed : (a b n : ℕ) (s : Pairing) → PairTyped a b s
    → All (HasType (relation (a + b))) (drain front_of_pair rest_of_pair n s).0 × PairTyped a b (drain front_of_pair rest_of_pair n s).1
drain_typed a b zero s h = (All-nil (HasType (relation (a + b))), h)
drain_typed a b (suc n) s h =
    go (front_of_pair s) refl (drain_typed a b n (rest_of_pair s) (rest_typed (relation a) s.left h.0, rest_typed (relation b) s.right h.1)) where
      next : Pairing → List item.Item × Pairing
      next = drain front_of_pair rest_of_pair n

      go : (o : Option (List item.Item)) → front_of_pair s ≡ o
          → All (HasType (relation (a + b))) (drain front_of_pair rest_of_pair n (rest_of_pair s)).0
          × PairTyped a b (drain front_of_pair rest_of_pair n (rest_of_pair s)).1
          → All (HasType (relation (a + b))) (pass_on rest_of_pair s (drain front_of_pair rest_of_pair n) o).0
          × PairTyped a b (pass_on rest_of_pair s (drain front_of_pair rest_of_pair n) o).1
      go None e r = (All-nil (HasType (relation (a + b))), h)
      go (Some o) e r = (
        All-append (HasType (relation (a + b))) o (drain front_of_pair rest_of_pair n (rest_of_pair s)).0 (front_typed a b s.left s.right o h.0 h.1 e) r.0,
        r.1,
      )

-- a product gives a relation's content of both widths together, and what waits stays of its types: an item at the left
pub cross_typed_left : (a b : ℕ) (x : item.Item) (s : Pairing) → PairTyped a b s → HasType (relation a) x
    → All (HasType (relation (a + b))) (crosses 0 x s).0 × PairTyped a b (crosses 0 x s).1
cross_typed_left a b x s h i =
    drain_typed a b (length (s.left ++ x ∷ []) + length s.right) (put_pair 0 x s)
    (All-append (HasType (relation a)) s.left (x ∷ []) h.0 (one_of (relation a) x i), h.1)

-- and one at the right
pub cross_typed_right : (a b p : ℕ) (x : item.Item) (s : Pairing) → PairTyped a b s → HasType (relation b) x
    → All (HasType (relation (a + b))) (crosses (suc p) x s).0 × PairTyped a b (crosses (suc p) x s).1
cross_typed_right a b p x s h i =
    drain_typed a b (length s.left + length (s.right ++ x ∷ [])) (put_pair (suc p) x s)
    (h.0, All-append (HasType (relation b)) s.right (x ∷ []) h.1 (one_of (relation b) x i))
