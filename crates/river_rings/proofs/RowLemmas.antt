-- Rows of one width, and the values of them.
use Rattle.std.proofs.Common.{rules, ◌≡◌, ℕ, ℤ, ◌+◌, ◌-◌, ◌*◌, ◌/◌, ◌%◌, ◌<◌, ◌≤◌, List, [], ◌∷◌, ◌++◌, length, drop, map, refl, sym, ap, ◌∙◌, subst, arith}
use Rattle.std.proofs.Common.{length-append}
use Rattle.std.proofs.lemmas.List.{map-append, length-map, take_all, drop_at}
use Rattle.std.proofs.lemmas.Nat.{le-div, div-mul-add, div-add-mod', mod_below}
use Rattle.std.proofs.Math.Nat.{add-mul-div_right, div-mul-le_self, mul-add-div_right, mul-div_cancel, mul-le-mul_right}
use Rattle.std.specs.declared.alloc.Global.{Global}
use Rattle.std.specs.Prelude.{slice_set}
use mathlib.Core.List.{IsPrefix}
use Rattle.rtrb.specs.declared.consumer.Consumer.{Consumer}
use Rattle.rtrb.specs.Ring.{known_items, consumer_capacity, ConsumerLooked}
use Rattle.river_rings.specs.Lots.{Lotted, LotLooked}
use Rattle.river_rings.specs.Ends.{HasRingRoom, HasSeen, HasSeenTaken, IsFullRing}
use Rattle.river_rings.specs.Rows.{AreWhole, row_item, rows_in, row_sending, row_taking}
use Rattle.river_base.specs.WideRows.{cut_rows}
use Rattle.river_base.proofs.CutRows.{length-cut, cut-both, cut-front}

-- COUNTS

-- more values make no fewer rows
pub div-more : (w m n : ℕ) → 1 ≤ w → m ≤ n → m / w ≤ n / w
div-more w m n some le = let h = div-mul-le_self m w in le-div (m / w) n w (omega (arith, some)) (omega (arith, h, le))

-- as many rows as whole ones
pub as_many : (w : ℕ) (vs : List ℤ) → length (rows_in w vs) ≡ length vs / w
as_many w vs = length-map (cut_rows w (length vs / w) vs) row_item ∙ length-cut w (length vs / w) vs

-- values of rows, and others, make as many rows as both
rows_of_both : (w : ℕ) (vs us : List ℤ) → AreWhole w vs → length (vs ++ us) / w ≡ length vs / w + length us / w
rows_of_both w vs us h =
    ap (λ n. n / w) (length-append vs us ∙ ap (λ n. n + length us) h.whole)
    ∙ mul-add-div_right {m = w} (let s = h.some in omega (arith, s)) (length vs / w) (length us)

-- ROWS

-- values of rows, and others behind: the rows of the one, then those of the other
pub rows-both : (w : ℕ) (vs us : List ℤ) → AreWhole w vs → rows_in w (vs ++ us) ≡ rows_in w vs ++ rows_in w us
rows-both w vs us h =
    let n = length vs / w in
    let m = length us / w in
    let le : n * w ≤ length vs = div-mul-le_self (length vs) w in
    ap (λ k. map row_item (cut_rows w k (vs ++ us))) (rows_of_both w vs us h)
    ∙ ap (map row_item)
    (cut-both w n m (vs ++ us)
    ∙ ap (λ t. t ++ cut_rows w m (drop (n * w) (vs ++ us))) (cut-front w n vs us le)
    ∙ ap (λ t. cut_rows w n vs ++ cut_rows w m t) (drop_at vs us (n * w) h.whole))
    ∙ map-append row_item (cut_rows w n vs) (cut_rows w m us)

-- the values of one row
pub one_row : (w : ℕ) (row : List ℤ) → 1 ≤ w → length row ≡ w → rows_in w row ≡ row_item row ∷ []
one_row w row some l =
    let one : length row / w ≡ 1 = ap (λ n. n / w) (l ∙ (let e : w ≡ 1 * w = omega arith in e)) ∙ mul-div_cancel 1 {n = w} (omega (arith, some)) in
    ap (λ k. map row_item (cut_rows w k row)) one ∙ ap (λ t. row_item t ∷ []) (take_all w row (omega (arith, l)))

-- they are those of rows with one row more
pub whole_more : (w : ℕ) (vs row ws : List ℤ) → AreWhole w vs → length row ≡ w → ws ≡ vs ++ row → AreWhole w ws
whole_more w vs row ws h l e =
    let some = h.some in
    let whole = h.whole in
    let one : length row / w ≡ 1 = ap (λ n. n / w) (l ∙ (let d : w ≡ 1 * w = omega arith in d)) ∙ mul-div_cancel 1 {n = w} (omega (arith, some)) in
    let n = length vs / w in
    let q : length (vs ++ row) / w ≡ n + 1 = rows_of_both w vs row h ∙ ap (λ k. n + k) one in
    let p : (n + 1) * w ≡ n * w + w = omega arith in
    subst (λ l. AreWhole w l) (sym e) (record {
      some = some;
      at_most = h.at_most;
      whole = length-append vs row ∙ (let s : length vs + length row ≡ (n + 1) * w = omega (arith, whole, l, p) in s) ∙ ap (λ k. k * w) (sym q);
    })

-- no values are the values of no rows
pub whole_none : (w : ℕ) → 1 ≤ w → w ≤ 16 → AreWhole w []
whole_none w some most =
    let z : 0 / w ≡ 0 = ap (λ n. n / w) (let e : 0 ≡ 0 * w = omega arith in e) ∙ mul-div_cancel 0 {n = w} (omega (arith, some)) in
    record { some = some; at_most = most; whole = let e : 0 ≡ 0 * w = omega arith in e ∙ ap (λ k. k * w) (sym z) }

-- no values make no rows
pub rows_none : (w : ℕ) → 1 ≤ w → rows_in w [] ≡ []
rows_none w some =
    let z : 0 / w ≡ 0 = ap (λ n. n / w) (let e : 0 ≡ 0 * w = omega arith in e) ∙ mul-div_cancel 0 {n = w} (omega (arith, some)) in
    ap (λ k. map row_item (cut_rows w k [])) z

-- a row behind the values of rows
pub row-more : (w : ℕ) (vs row ws : List ℤ) → AreWhole w vs → length row ≡ w → ws ≡ vs ++ row → rows_in w ws ≡ rows_in w vs ++ row_item row ∷ []
row-more w vs row ws h l e = ap (rows_in w) e ∙ rows-both w vs row h ∙ ap (λ t. rows_in w vs ++ t) (one_row w row h.some l)

-- a row before others
pub row-first : (w : ℕ) (row us : List ℤ) → 1 ≤ w → w ≤ 16 → length row ≡ w → rows_in w (row ++ us) ≡ row_item row ∷ rows_in w us
row-first w row us some most l =
    rows-both w row us (whole_more w [] row row (whole_none w some most) l refl) ∙ ap (λ t. t ++ rows_in w us) (one_row w row some l)

-- values that are a front of others make rows that are
pub rows-front : (w : ℕ) (vs ws : List ℤ) → 1 ≤ w → IsPrefix vs ws → IsPrefix (rows_in w vs) (rows_in w ws)
rows-front w vs ws some h =
    let us = h.0 in
    let n = length vs / w in
    let all = length (vs ++ us) / w in
    let more : n ≤ all = div-more w (length vs) (length (vs ++ us)) some (let l = length-append vs us in omega (arith, l)) in
    let m = all - n in
    let s : all ≡ n + m = omega (arith, more) in
    let rest = cut_rows w m (drop (n * w) (vs ++ us)) in (
      map row_item rest,
      sym (map-append row_item (cut_rows w n vs) rest)
          ∙ ap (λ t. map row_item (t ++ rest)) (sym (cut-front w n vs us (div-mul-le_self (length vs) w)))
          ∙ ap (map row_item) (sym (cut-both w n m (vs ++ us)))
          ∙ ap (λ k. map row_item (cut_rows w k (vs ++ us))) (sym s)
          ∙ ap (rows_in w) h.1,
    )

-- ENDS

-- a look at room for values is one at room for rows
pub looked_feed : (w : ℕ) (p q : Lotted) → 1 ≤ w → LotLooked p q → HasSeenTaken (row_sending w p) (row_sending w q)
looked_feed w p q some h =
    let more = div-more w (p.free) (q.free) some h.2 in
    let cap : q.capacity ≡ p.capacity = h.0.1 in
    record {
      same = search rules;
      sent = ap (rows_in w) h.1;
      waiting = subst (λ n. n / w - q.free / w ≤ p.capacity / w - p.free / w) (sym cap) (omega (arith, more));
    }

-- and one at values is one at rows
pub looked_take : {P : Type 0} (w : ℕ) (c d : Consumer ℤ Global P) → 1 ≤ w → ConsumerLooked c d → HasSeen (row_taking w c) (row_taking w d)
looked_take w c d some h = record {
  same = search rules;
  received = ap (rows_in w) h.1;
  known = rows-front w (known_items c) (known_items d) some h.2;
}

-- fewer values than a row has
few : (w n : ℕ) → n < w → n / w ≡ 0
few w n lt = ap (λ k. k / w) (let e : n ≡ 0 * w + n = omega arith in e) ∙ div-mul-add 0 w n lt

-- they make no row
pub rows_few : (w : ℕ) (vs : List ℤ) → length vs < w → rows_in w vs ≡ []
rows_few w vs lt = ap (λ k. map row_item (cut_rows w k vs)) (few w (length vs) lt)

-- as many as a row has make one
pub rows_some : (w : ℕ) (vs : List ℤ) → 1 ≤ w → w ≤ length vs → 0 < length (rows_in w vs)
rows_some w vs some le =
    let one : 1 ≤ length vs / w = le-div 1 (length vs) w (omega (arith, some)) (omega (arith, le)) in
    let e = as_many w vs in
    omega (arith, one, e)

-- where there is a row there are as many values
pub values_some : (w : ℕ) (vs : List ℤ) → 1 ≤ w → 0 < length (rows_in w vs) → w ≤ length vs
values_some w vs some lt =
    let e = as_many w vs in
    let one : 1 * w ≤ length vs / w * w = mul-le-mul_right w (let o : 1 ≤ length vs / w = omega (arith, lt, e) in o) in
    let le = div-mul-le_self (length vs) w in
    omega (arith, one, le)

-- room for the values of a row is room for a row
pub room_yes : (w : ℕ) (q : Lotted) → 1 ≤ w → q.free ≤ q.capacity → w ≤ q.free → HasRingRoom (row_sending w q)
room_yes w q some most_free le =
    let one : 1 ≤ q.free / w = le-div 1 (q.free) w (omega (arith, some)) (omega (arith, le)) in
    let most = div-more w (q.free) (q.capacity) some most_free in
    omega (arith, one, most)

-- where there is none there is none
pub room_no : (w : ℕ) (q : Lotted) → q.free < w → IsFullRing (row_sending w q)
room_no w q lt = let z = few w (q.free) lt in omega (arith, z)

-- and room for a row is room for its values
pub room_values : (w : ℕ) (q : Lotted) → 1 ≤ w → HasRingRoom (row_sending w q) → w ≤ q.free
room_values w q some lt =
    let o : 1 ≤ q.free / w = omega (arith, lt) in
    let one : 1 * w ≤ q.free / w * w = mul-le-mul_right w o in
    let le = div-mul-le_self (q.free) w in
    omega (arith, one, le)

-- a row more that waits
pub room_less : (w : ℕ) (p q : Lotted) → 1 ≤ w → q.capacity ≡ p.capacity → p.free ≤ q.free + w
    → q.capacity / w - q.free / w ≤ p.capacity / w - p.free / w + 1
room_less w p q some c le =
    let one : q.free + w ≡ q.free + 1 * w = omega arith in
    let more = div-more w (p.free) (q.free + 1 * w) some (omega (arith, le)) in
    let sum = add-mul-div_right (q.free) 1 {z = w} (omega (arith, some)) in
    let same = ap (λ n. n / w) c in
    omega (arith, more, sum, same)

-- what was sent waits until it was received
pub room_behind : (w : ℕ) (q : Lotted) (rs : List ℤ) → q.free ≤ q.capacity → AreWhole w q.sent → AreWhole w rs
    → q.free + length q.sent ≡ q.capacity + length rs
    → q.capacity / w - q.free / w + length (rows_in w rs) ≤ length (rows_in w q.sent)
room_behind w q rs most_free s r e =
    let some : 0 < w = (let o = s.some in omega (arith, o)) in
    let a = add-mul-div_right (q.free) (length q.sent / w) {z = w} some in
    let b = add-mul-div_right (q.capacity) (length rs / w) {z = w} some in
    let d : (q.free + length q.sent / w * w) / w ≡ (q.capacity + length rs / w * w) / w =
    ap (λ n. n / w) (ap (λ n. q.free + n) (sym s.whole) ∙ e ∙ ap (λ n. q.capacity + n) r.whole) in
    let most = div-more w (q.free) (q.capacity) s.some most_free in
    let m = as_many w rs in
    let n = as_many w q.sent in
    omega (arith, a, b, d, most, m, n)

-- a ring for the values of so many rows is one for the rows
pub room_for : (w cap n : ℕ) → 1 ≤ w → n ≡ cap * w → n / w ≡ cap
room_for w cap n some e = ap (λ k. k / w) e ∙ mul-div_cancel cap {n = w} (omega (arith, some))

-- as many rows are known as the ring holds at most
pub known_most : {P : Type 0} (w : ℕ) (c : Consumer ℤ Global P) → 1 ≤ w → length (rows_in w (known_items c)) ≤ consumer_capacity c / w
known_most w c some =
    let m = as_many w (known_items c) in
    let d = div-more w (length (known_items c)) (consumer_capacity c) some c.counts in
    omega (arith, m, d)

-- a value that is written where there is one place
pub single_set : (xs : List ℤ) (v : ℤ) → length xs ≡ 1 → slice_set xs 0 v ≡ v ∷ []
single_set [] v l = absurd (cc l)
single_set (x ∷ []) v l = refl
single_set (x ∷ (y ∷ xs)) v l = absurd (cc l)

-- SEVERAL ROWS

-- as many values as whole rows have, of a number of values
pub front_whole : (w n : ℕ) (vs : List ℤ) → 1 ≤ w → w ≤ 16 → length vs ≡ n - n % w → AreWhole w vs
front_whole w n vs some most l =
    let d = div-add-mod' n w in
    let k : length vs ≡ n / w * w = omega (arith, l, d) in
    record { some = some; at_most = most; whole = k ∙ ap (λ m. m * w) (sym (ap (λ m. m / w) k ∙ mul-div_cancel (n / w) {n = w} (omega (arith, some)))) }

-- they are some where there are as many as a row has
pub front_some : (w n : ℕ) → 1 ≤ w → w ≤ n → 1 ≤ n - n % w
front_some w n some le = let m = mod_below n w (omega (arith, some)) in omega (arith, m, le)

-- they are those of rows with other rows behind
pub whole_both : (w : ℕ) (vs us ws : List ℤ) → AreWhole w vs → AreWhole w us → ws ≡ vs ++ us → AreWhole w ws
whole_both w vs us ws h g e =
    let a = h.whole in
    let b = g.whole in
    let n = length vs / w in
    let m = length us / w in
    let q : length (vs ++ us) / w ≡ n + m = rows_of_both w vs us h in
    let p : (n + m) * w ≡ n * w + m * w = omega arith in
    subst (λ l. AreWhole w l) (sym e) (record {
      some = h.some;
      at_most = h.at_most;
      whole = length-append vs us ∙ (let s : length vs + length us ≡ (n + m) * w = omega (arith, a, b, p) in s) ∙ ap (λ k. k * w) (sym q);
    })

-- the values of rows behind the values of rows
pub rows-more : (w : ℕ) (vs us ws : List ℤ) → AreWhole w vs → ws ≡ vs ++ us → rows_in w ws ≡ rows_in w vs ++ rows_in w us
rows-more w vs us ws h e = ap (rows_in w) e ∙ rows-both w vs us h
