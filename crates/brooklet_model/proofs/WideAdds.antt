-- All rows that are added to a table have its width.
use Rattle.std.proofs.Common.{◌≡◌, ℕ, zero, suc, ℤ, ◌-◌, Some, None, List, [], ◌∷◌, ◌++◌, length, take, drop, refl, sym, ap, ◌∙◌, subst, arith, ⊎_elim}
use Rattle.std.specs.Prelude.{All, slice_get}
use Rattle.std.proofs.lemmas.Bool.{cases_lt}
use Rattle.std.proofs.lemmas.List.Elements.{All-head, All-tail, All-cons, All-nil, All-append}
use Rattle.river_base.proofs.PlaceLemmas.{if_lt, if_ge}
use Rattle.river_base.specs.declared.item.Item as item
use Rattle.river_base.specs.declared.item.Item.TheVariants.{Flat, Pack}
use Rattle.river_base.specs.declared.item.Flat.TheVariants.{One, Batch as Batched, Change as Changed}
use Rattle.river_base.specs.declared.kind.QueueType.{QueueType}
use Rattle.river_base.specs.Held.{HasType}
use Rattle.river_base.specs.Places.{only, none}
use Rattle.kern_rows.specs.Forms.{CodeForm, FilterForm}
use Rattle.kern_bags.specs.Steps.{window_one, streamer_one}
use Rattle.river_kernels.specs.declared.types.VarKind.{VarKind}
use Rattle.river_kernels.specs.declared.types.VarKind.TheVariants.{Private, Table}
use Rattle.river_kernels.specs.Fits.{Fits, rows}
use Rattle.river_kernels.specs.Types.{types_of}
use Rattle.river_kernels.specs.Kern.{Kern, code, filter, deal, collect, unpack, window, cross, streamer, tally, fused}
use Rattle.brooklet_model.specs.Firings.{Kept, Slots, Buffered, Turn, Joining, Received, Crossing, Fired, feed, beside}
use Rattle.brooklet_model.specs.Fire.{fire, tabs, privates, values_of, code_one, filter_firing, deal_one, join_one, received_one, cross_one}
use Rattle.brooklet_model.specs.Shapes.{HasShape, IsShaped}
use Rattle.brooklet_model.specs.Typed.{IsTyped, IsOf, between, Holds, widths_in, IsWide, AreWide}
use Rattle.brooklet_model.proofs.Ports.{tables_in, counts as numbers, shaped}
use Rattle.brooklet_model.proofs.Shapes.{fire_shape}
use Rattle.brooklet_model.proofs.Typing.{between_is, fire_typed}

widths-append : (us vs : List VarKind) → widths_in (us ++ vs) ≡ widths_in us ++ widths_in vs
widths-append [] vs = refl
widths-append (Private ∷ us) vs = widths-append us vs
widths-append (Table n ∷ us) vs = ap (λ l. n ∷ l) (widths-append us vs)

-- there is a width for each table among the variables
pub widths_length : (us : List VarKind) → length (widths_in us) ≡ tables_in us
widths_length [] = refl
widths_length (Private ∷ us) = widths_length us
widths_length (Table n ∷ us) = let e = widths_length us in omega (arith, e)

nothing_wide : (ns : List ℕ) (f : ℕ → List (List ℤ)) → ((j : ℕ) → f j ≡ []) → AreWide ns f
nothing_wide ns f e j = subst (All (IsWide (slice_get ns j))) (sym (e j)) (All-nil (IsWide (slice_get ns j)))

-- KERNELS WITHOUT TABLES

code_none : (k : CodeForm) (x : item.Item) (ss : List Kept) (j : ℕ) → (code_one k x ss).adds j ≡ []
code_none k x (Slots zs ∷ ss) j = refl
code_none k x ss j = refl

filter_none : (f : FilterForm) (x : item.Item) (ss : List Kept) (j : ℕ) → (filter_firing f x ss).adds j ≡ []
filter_none f x (Buffered s ∷ ss) j = refl
filter_none f x ss j = refl

deal_none : (ws : List ℕ) (x : item.Item) (ss : List Kept) (j : ℕ) → (deal_one ws x ss).adds j ≡ []
deal_none ws x (Turn p q ∷ ss) j = refl
deal_none ws x ss j = refl

join_none : (give : item.Item → List item.Item) (ws : List ℕ) (p : ℕ) (x : item.Item) (ss : List Kept) (j : ℕ) → (join_one give ws p x ss).adds j ≡ []
join_none give ws p x (Joining s ∷ ss) j = refl
join_none give ws p x ss j = refl

received_none : (one : List item.Item → item.Item → List item.Item) (x : item.Item) (ss : List Kept) (j : ℕ) → (received_one one x ss).adds j ≡ []
received_none one x (Received xs ∷ ss) j = refl
received_none one x ss j = refl

cross_none : (p : ℕ) (x : item.Item) (ss : List Kept) (j : ℕ) → (cross_one p x ss).adds j ≡ []
cross_none p x (Crossing s ∷ ss) j = refl
cross_none p x ss j = refl

-- TALLIES

first_type : (t : QueueType) (p : ℕ) (x : item.Item) → IsOf (t ∷ []) p x → HasType t x
first_type t zero x h = h
first_type t (suc p) x h = absurd h

row_width : (n : ℕ) (x : item.Item) → HasType (rows n) x → length (values_of x) ≡ n
row_width n (Flat (One row)) h = h
row_width n (Flat (Batched b)) h = absurd h
row_width n (Flat (Changed c)) h = absurd h
row_width n (Pack fs) h = absurd h

one_wide : (n : ℕ) (row : List ℤ) → length row ≡ n → AreWide (n ∷ []) (only 0 (row ∷ []))
one_wide n row e zero = All-cons (IsWide (Some n)) row [] e (All-nil (IsWide (Some n)))
one_wide n row e (suc j) = All-nil (IsWide None)

-- TWO KERNELS

next_beside : {A : Type 0} (n : ℕ) (f g : ℕ → A) (p : ℕ) → beside (suc n) f g (suc p) ≡ beside n (λ j. f (suc j)) g p
next_beside n f g p = ⊎_elim
    (λ lt. if_lt (suc p) (suc n) (f (suc p)) (g (suc p - suc n)) (omega (arith, lt)) ∙ sym (if_lt p n (f (suc p)) (g (p - n)) lt))
    (λ ge. let e : suc p - suc n ≡ p - n = omega (arith, ge) in if_ge (suc p) (suc n) (f (suc p)) (g (suc p - suc n)) (omega (arith, ge)) ∙ ap g e
    ∙ sym (if_ge p n (f (suc p)) (g (p - n)) ge))
    (cases_lt p n)

beside_wide : (ns ms : List ℕ) (f g : ℕ → List (List ℤ)) → AreWide ns f → AreWide ms g → AreWide (ns ++ ms) (beside (length ns) f g)
beside_wide [] ms f g a b j =
    subst (All (IsWide (slice_get ms j))) (sym (if_ge j 0 (f j) (g (j - 0)) (omega arith) ∙ (let e : j - 0 ≡ j = omega arith in ap g e))) (b j)
beside_wide (n ∷ ns) ms f g a b zero = subst (All (IsWide (Some n))) (sym (if_lt 0 (suc (length ns)) (f 0) (g (0 - suc (length ns))) (omega arith))) (a 0)
beside_wide (n ∷ ns) ms f g a b (suc j) =
    subst (All (IsWide (slice_get (ns ++ ms) j))) (sym (next_beside (length ns) f g j)) (beside_wide ns ms (λ i. f (suc i)) g (λ i. a (suc i)) b j)

-- the tables of two kernels are those of the first and then those of the second
pub fused_wide : (a : Kern) (is ms : List QueueType) (us ws : List VarKind) (f g : ℕ → List (List ℤ)) → Fits a is ms us → AreWide (widths_in us) f
    → AreWide (widths_in ws) g → AreWide (widths_in (us ++ ws)) (beside (tabs a) f g)
fused_wide a is ms us ws f g fa x y =
    let n : length (widths_in us) ≡ tabs a = widths_length us ∙ (numbers a is ms us fa).tables in
    subst (λ ns. AreWide ns (beside (tabs a) f g)) (sym (widths-append us ws))
    (subst (λ k. AreWide (widths_in us ++ widths_in ws) (beside k f g)) n (beside_wide (widths_in us) (widths_in ws) f g x y))

feed_wide : (P : List Kept → Type 0) (m : QueueType) (ns : List ℕ) (f : item.Item → List Kept → Fired)
    → ((x : item.Item) (ss : List Kept) → HasType m x → P ss → AreWide ns (f x ss).adds × P (f x ss).states)
    → (xs : List item.Item) (ss : List Kept) → All (HasType m) xs → P ss → AreWide ns (feed f xs ss).adds
feed_wide P m ns f step [] ss a h = λ j. All-nil (IsWide (slice_get ns j))
feed_wide P m ns f step (x ∷ xs) ss a h =
    let one = step x ss (All-head (HasType m) x xs a) h in
    let rest = feed_wide P m ns f step xs (f x ss).states (All-tail (HasType m) x xs a) one.1 in
    λ j. All-append (IsWide (slice_get ns j)) ((f x ss).adds j) ((feed f xs (f x ss).states).adds j) (one.0 j) (rest j)

-- what a firing of a kernel adds to its tables has their widths
pub fire_wide : (k : Kern) (is os : List QueueType) (vs : List VarKind) (p : ℕ) (x : item.Item) (ss : List Kept) → Fits k is os vs → HasShape k ss
    → Holds k is ss → IsOf is p x → AreWide (widths_in vs) (fire k p x ss).adds
fire_wide (code k) is os vs p x ss f h t i = nothing_wide (widths_in vs) _ (code_none k x ss)
fire_wide (filter g) is os vs p x ss f h t i = nothing_wide (widths_in vs) _ (filter_none g x ss)
fire_wide (deal ws) is os vs p x ss f h t i = nothing_wide (widths_in vs) _ (deal_none _ x ss)
fire_wide (collect ws) is os vs p x ss f h t i = nothing_wide (widths_in vs) _ (join_none _ _ p x ss)
fire_wide (unpack n) is os vs p x ss f h t i = nothing_wide (widths_in vs) _ (join_none _ _ p x ss)
fire_wide (window w) is os vs p x ss f h t i = nothing_wide (widths_in vs) _ (received_none (window_one w) x ss)
fire_wide cross is os vs p x ss f h t i = nothing_wide (widths_in vs) _ (cross_none p x ss)
fire_wide (streamer s) is os vs p x ss f h t i = nothing_wide (widths_in vs) _ (received_none (streamer_one s) x ss)
fire_wide tally is os vs p x ss f h t i =
    let y : HasType (rows f.0) x = first_type (rows f.0) p x (subst (λ (l : List QueueType). IsOf l p x) f.1 i) in
    subst (λ (l : List VarKind). AreWide (widths_in l) (only 0 (values_of x ∷ []))) (sym f.3) (one_wide f.0 (values_of x) (row_width f.0 x y))
fire_wide (fused a b at) is os vs p x ss f h t i =
    let ms = f.0 in
    let m = f.1 in
    let bs = f.2 in
    let us = f.3 in
    let ws = f.4 in
    let fa : Fits a is ms us = f.5 in
    let fb : Fits b (m ∷ []) bs ws = f.7 in
    let there : IsShaped b = shaped b (m ∷ []) bs ws fb in
    let mid : between at (types_of a is) ≡ m ∷ [] = between_is a is ms m us at fa f.6 in
    let sa = take (privates a) ss in
    let sb = drop (privates a) ss in
    let ra = fire a p x sa in
    let ia = fire_typed a is ms us p x sa fa h.0 t.0 i in
    let wa = fire_wide a is ms us p x sa fa h.0 t.0 i in
    let rb = feed (fire b 0) (ra.outs at) sb in
    let items : All (HasType m) (ra.outs at) = subst (λ o. All (IsTyped o) (ra.outs at)) f.6 (ia.0 at) in
    let wb = feed_wide (λ (u : List Kept). HasShape b u × Holds b (m ∷ []) u) m (widths_in ws) (fire b 0)
    (λ y u iy hy. (fire_wide b (m ∷ []) bs ws 0 y u fb hy.0 hy.1 iy, (fire_shape b 0 y u there hy.0, (fire_typed b (m ∷ []) bs ws 0 y u fb hy.0 hy.1 iy).1)))
    (ra.outs at) sb items (h.1, subst (λ (l : List QueueType). Holds b l sb) mid t.1) in
    subst (λ (l : List VarKind). AreWide (widths_in l) (beside (tabs a) ra.adds rb.adds)) (sym f.9) (fused_wide a is ms us ws ra.adds rb.adds fa wa wb)
fire_wide kernel is os vs p x ss f h t i = nothing_wide (widths_in vs) none (λ j. refl)
