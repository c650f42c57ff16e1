-- What a joiner collects ends where an item is missing.
use Rattle.std.proofs.Common.{◌≡◌, ℕ, zero, suc, ◌+◌, ◌<◌, ◌≤◌, List, [], ◌∷◌, length, drop, Option, Some, None, refl, sym, ap, ◌∙◌, arith}
use Rattle.std.specs.Prelude.{slice_get}
use Rattle.kern_rows.proofs.Passed.{stuck_at, less_at}
use Rattle.river_base.proofs.Lists.{got_drop}
use Rattle.river_base.specs.declared.item.Item as item
use Rattle.river_base.specs.Places.{list_at}
use Rattle.kern_rows.specs.Turns.{rest_at, waiting, itself}
use Rattle.brooklet_model.proofs.Collected.{IsLeft, left_next, cases_list, got_none, front_at_some, waiting_is}
use Rattle.brooklet_model.specs.ByIndex.{cycle, branch, number_in_branch, collected_at, and_more, found_front, size_of, collected}
use Rattle.brooklet_model.proofs.Cycles.{taken_none, taken_here}

cases_option : {A B : Type 0} (o : Option A) → (o ≡ None → B) → ((x : A) → o ≡ Some x → B) → B
cases_option None f g = f refl
cases_option (Some x) f g = g x refl

more_is : {A : Type 0} (f : ℕ → Option A) (o : Option A) (ys : List A) (x i : ℕ) → f x ≡ o → ((j : ℕ) → j < length ys → slice_get ys j ≡ f (suc x + j))
    → i < length (and_more o ys) → slice_get (and_more o ys) i ≡ f (x + i)
more_is f None ys x i e h lt = absurd (omega (arith, lt))
more_is f (Some y) ys x zero e h lt = sym e ∙ ap f (let z : x ≡ x + 0 = omega arith in z)
more_is f (Some y) ys x (suc i) e h lt = h i (omega (arith, lt)) ∙ ap f (let z : suc x + i ≡ x + suc i = omega arith in z)

-- each item is the one of its place
front_is : {A : Type 0} (f : ℕ → Option A) (n x i : ℕ) → i < length (found_front f n x) → slice_get (found_front f n x) i ≡ f (x + i)
front_is f zero x i lt = absurd (omega (arith, lt))
front_is f (suc n) x i lt = more_is f (f x) (found_front f n (suc x)) x i refl (λ j lj. front_is f n (suc x) j lj) lt

here_is : (ws : List ℕ) (ls rs : List (List item.Item)) (x : ℕ) → 0 < cycle ws → IsLeft ws ls rs x
    → list_at rs (branch ws x) ≡ drop (number_in_branch ws x) (list_at ls (branch ws x))
here_is ws ls rs x lt left = left.each (branch ws x) ∙ ap (λ k. drop k (list_at ls (branch ws x))) (taken_here ws x lt)

stops : {A : Type 0} (f : ℕ → Option A) (n x : ℕ) → f x ≡ None → found_front f n x ≡ []
stops f zero x e = refl
stops f (suc n) x e = ap (λ o. and_more o (found_front f n (suc x))) e

stopped : (ws : List ℕ) (ls rs : List (List item.Item)) (n x : ℕ) → 0 < cycle ws → IsLeft ws ls rs x → list_at rs (branch ws x) ≡ []
    → collected_at ws ls (x + length (found_front (collected_at ws ls) n x)) ≡ None
stopped ws ls rs n x lt left e =
    let gone = got_none (list_at ls (branch ws x)) (number_in_branch ws x) (sym (here_is ws ls rs x lt left) ∙ e) in
    ap (λ l. collected_at ws ls (x + length l)) (stops (collected_at ws ls) n x gone) ∙ ap (collected_at ws ls) (let z : x + 0 ≡ x = omega arith in z) ∙ gone

-- with a turn for each item that is left, the items go on until one is missing
ends : (ws : List ℕ) (ls rs : List (List item.Item)) (n x : ℕ) → 0 < cycle ws → IsLeft ws ls rs x → waiting rs ≤ n
    → collected_at ws ls (x + length (found_front (collected_at ws ls) n x)) ≡ None
ends ws ls rs zero x lt left le = cases_list (list_at rs (branch ws x))
    (stopped ws ls rs zero x lt left)
    (λ y ys e. absurd (some_none (sym (front_at_some rs (branch ws x) y ys e) ∙ stuck_at itself rs (branch ws x) (omega (arith, le)))))
  where
    some_none : {A : Type 0} {x : A} → Some x ≡ None → ⊥
    some_none h = cc h
ends ws ls rs (suc n) x lt left le = cases_list (list_at rs (branch ws x))
    (stopped ws ls rs (suc n) x lt left)
    (λ y ys e.
    let b = branch ws x in
    let there = got_drop (list_at ls b) (number_in_branch ws x) y ys (sym (here_is ws ls rs x lt left) ∙ e) in
    let less = less_at itself rs b (y ∷ []) (front_at_some rs b y ys e) in
    let rest = ends ws ls (rest_at rs b) n (suc x) lt (left_next ws ls rs x y ys lt left e) (omega (arith, less, le)) in
    ap (λ o. collected_at ws ls (x + length (and_more o (found_front (collected_at ws ls) n (suc x))))) there
    ∙ ap (collected_at ws ls)
    (let z : x + suc (length (found_front (collected_at ws ls) n (suc x))) ≡ suc x + length (found_front (collected_at ws ls) n (suc x)) = omega arith in z)
    ∙ rest)

-- each place has its item, and the first without one ends what is collected
pub longest : (ws : List ℕ) (ls : List (List item.Item)) → 0 < cycle ws
    → ((x : ℕ) → x < length (collected ws ls) → slice_get (collected ws ls) x ≡ collected_at ws ls x) × (collected_at ws ls (length (collected ws ls)) ≡ None)
longest ws ls lt = (
  (λ x below. front_is (collected_at ws ls) (size_of ls) 0 x below ∙ ap (collected_at ws ls) (let z : 0 + x ≡ x = omega arith in z)),
  (let start : IsLeft ws ls ls 0 = record { each = λ p. ap (λ k. drop k (list_at ls p)) (sym (taken_none ws p lt)) } in
      let e = ends ws ls ls (size_of ls) 0 lt start (let w = waiting_is ls in omega (arith, w)) in
      ap (collected_at ws ls) (let z : length (collected ws ls) ≡ 0 + length (collected ws ls) = omega arith in z) ∙ e),
)
