-- A list that a loop changes in place: its front is done, and its back is as it was.
use Rattle.std.proofs.Common.{◌≡◌, ◌<◌, ◌≤◌, ◌+◌, ℕ, Bool, true, false, cond, List, [], ◌∷◌, ◌++◌, length, get_or, set, map, filter, take, drop, sym, ap, ◌∙◌}
use Rattle.std.proofs.Common.{arith}
use Rattle.std.proofs.lemmas.List.{take_more, take_more_set, append-nil, get_or-drop, drop-set-lt, map-append}
use Rattle.std.proofs.lemmas.List.Elements.{filter-append}
use Rattle.std.proofs.lemmas.Grind.{drop_more_same}

-- the element that comes next is still as it was
pub as_it_was : {A : Type 0} (xs old : List A) (n : ℕ) (d : A) → drop n xs ≡ drop n old → get_or xs n d ≡ get_or old n d
as_it_was xs old n d back =
    ap (λ i. get_or xs i d) (omega arith) ∙ sym (get_or-drop n xs 0 d) ∙ ap (λ l. get_or l 0 d) back ∙ get_or-drop n old 0 d
    ∙ ap (λ i. get_or old i d) (omega arith)

-- a place that is done is written
pub rest_beside : {A : Type 0} (xs old : List A) (k n : ℕ) (x : A) → k ≤ n → drop n xs ≡ drop n old → drop (n + 1) (set xs k x) ≡ drop (n + 1) old
rest_beside xs old k n x le back = drop-set-lt (n + 1) xs k x (omega (arith, le)) ∙ drop_more_same xs old n back

filter_one : {A : Type 0} (p : A → Bool) (xs : List A) (n : ℕ) (x : A) → n < length xs → x ≡ get_or xs n x
    → filter p (take (n + 1) xs) ≡ filter p (take n xs) ++ cond (p x) (x ∷ []) []
filter_one p xs n x lt is =
    ap (filter p) (take_more xs n x lt) ∙ filter-append p (take n xs) (get_or xs n x ∷ []) ∙ ap (λ y. filter p (take n xs) ++ cond (p y) (y ∷ []) []) (sym is)

-- one more that passes the test, written behind those before
pub kept_next : {A : Type 0} (p : A → Bool) (xs old : List A) (k n : ℕ) (x : A) → k ≤ n → n < length xs → length xs ≡ length old
    → take k xs ≡ filter p (take n old) → x ≡ get_or old n x → p x ≡ true → take (k + 1) (set xs k x) ≡ filter p (take (n + 1) old)
kept_next p xs old k n x le lt same front is passed =
    take_more_set xs k x (omega (arith, le, lt)) ∙ ap (λ l. l ++ x ∷ []) front
    ∙ ap (λ b. filter p (take n old) ++ cond b (x ∷ []) []) (sym passed)
    ∙ sym (filter_one p old n x (omega (arith, lt, same)) is)

-- one more that does not
pub left_next : {A : Type 0} (p : A → Bool) (old l : List A) (n : ℕ) (x : A) → n < length old → l ≡ filter p (take n old) → x ≡ get_or old n x → p x ≡ false
    → l ≡ filter p (take (n + 1) old)
left_next p old l n x lt front is failed =
    front ∙ sym (append-nil (filter p (take n old))) ∙ ap (λ b. filter p (take n old) ++ cond b (x ∷ []) []) (sym failed) ∙ sym (filter_one p old n x lt is)

-- one more, changed in its place
pub changed_next : {A : Type 0} (f : A → A) (xs old : List A) (n : ℕ) (x : A) → n < length xs → length xs ≡ length old → take n xs ≡ map f (take n old)
    → x ≡ get_or old n x → take (n + 1) (set xs n (f x)) ≡ map f (take (n + 1) old)
changed_next f xs old n x lt same front is =
    take_more_set xs n (f x) lt ∙ ap (λ l. l ++ f x ∷ []) front
    ∙ ap (λ y. map f (take n old) ++ f y ∷ []) is ∙ sym (map-append f (take n old) (get_or old n x ∷ []))
    ∙ ap (map f) (sym (take_more old n x (omega (arith, lt, same))))
