-- Queues by name and by place.
use Rattle.std.proofs.Common.{◌≡◌, ℕ, suc, ◌+◌, ◌<◌, ◌≤◌, Some, List, [], ◌∷◌, ◌++◌, length, take, drop, map, refl, sym, ap, ◌∙◌, arith, nat_eq}
use Rattle.std.proofs.Common.{⊎_elim, append_assoc}
use Rattle.std.specs.Prelude.{if◌then◌else◌, slice_get, slice_index_or}
use Rattle.std.proofs.lemmas.Bool.{cases_eq}
use Rattle.std.proofs.lemmas.List.{append-nil, take_more, length-take-le, drop_more}
use Rattle.river_base.specs.Name.{name_eq}
use Rattle.river_base.specs.Places.{list_at, append_at, each_grew, only, none}
use Rattle.river_base.proofs.PlaceLemmas.{each_grew_cong, each_grew-none, append_at-each_grew, only_same, only_other, if_true, if_false, if_eq, if_ne}
use Rattle.river_plan.specs.Forms.{Name}
use Rattle.river_plan.specs.Names.{count, one_if}
use Rattle.river_plan.specs.Places.{place, places}
use Rattle.river_plan.proofs.NameLemmas.{cases_name, name_same}
use Rattle.river_plan.proofs.PlaceLemmas.{place_at, place_apart, place-here, place-past}
use Rattle.river_base.specs.declared.item.Item as item
use Rattle.brooklet_model.specs.Histories.{History, joined, written}
use Rattle.brooklet_model.proofs.Traces.{place_once}
use Rattle.brooklet_step.specs.ByPlace.{joined_at}

-- WHERE A NAME STANDS

-- a name that stands once is at the place where it was got
pub place_is : (names : List Name) (i : ℕ) (q : Name) → count q names ≤ 1 → 0 < count q names → slice_get names i ≡ Some q → place names q ≡ i
place_is names i q once lt g = place_once names (place names q) i q once (place_at names q lt) g

-- WHAT COMES TO QUEUES

-- one queue more is written
pub joined_at-more : {A : Type 0} (ws : List ℕ) (w : ℕ) (f : ℕ → List A) (q : ℕ) → joined_at (ws ++ w ∷ []) f q ≡ joined_at ws f q ++ only w (f (length ws)) q
joined_at-more [] w f q = append-nil (if nat_eq w q then f 0 else []) ∙ ⊎_elim
    (λ e. if_eq w q (f 0) [] e ∙ sym (only_same w (f 0)) ∙ ap (only w (f 0)) e)
    (λ n. if_ne w q (f 0) [] n ∙ sym (only_other w q (f 0) (λ e. n (sym e))))
    (cases_eq w q)
joined_at-more (v ∷ ws) w f q =
    ap (λ l. (if nat_eq v q then f 0 else []) ++ l) (joined_at-more ws w (λ j. f (suc j)) q)
    ∙ sym (append_assoc (if nat_eq v q then f 0 else []) (joined_at ws (λ j. f (suc j)) q) (only w (f (suc (length ws))) q))

-- a step of the loop that sends
pub send_step : {A : Type 0} (to : List ℕ) (f : ℕ → List A) (n : ℕ) (start now new : List (List A)) (xs : List A) → n < length to
    → now ≡ each_grew start (joined_at (take n to) f) → xs ≡ f n → new ≡ append_at now (slice_index_or to n 0) xs
    → new ≡ each_grew start (joined_at (take (n + 1) to) f)
send_step to f n start now new xs lt en ex e =
    let w = slice_index_or to n 0 in
    let more : take (n + 1) to ≡ take n to ++ w ∷ [] = take_more to n 0 lt in
    let len : length (take n to) ≡ n = length-take-le n to (omega (arith, lt)) in
    e ∙ ap (λ l. append_at l w xs) en ∙ ap (append_at (each_grew start (joined_at (take n to) f)) w) (ex ∙ ap f (sym len))
    ∙ append_at-each_grew start (joined_at (take n to) f) w (f (length (take n to)))
    ∙ each_grew_cong start _ _ (λ q _. sym (joined_at-more (take n to) w f q))
    ∙ ap (λ ws. each_grew start (joined_at ws f)) (sym more)

-- before the first port nothing was sent
pub send_start : {A : Type 0} (f : ℕ → List A) (start : List (List A)) → start ≡ each_grew start (joined_at [] f)
send_start f start = sym (each_grew_cong start (joined_at [] f) none (λ p _. refl) ∙ each_grew-none start)

-- what is joined depends on the lists of the ports alone
pub joined_cong_below : {A : Type 0} (ws : List Name) (f g : ℕ → List A) (q : Name) → ((j : ℕ) → j < length ws → f j ≡ g j) → joined ws f q ≡ joined ws g q
joined_cong_below [] f g q h = refl
joined_cong_below (w ∷ ws) f g q h =
    ap (λ l. (if name_eq w q then l else []) ++ joined ws (λ j. f (suc j)) q) (h 0 (omega arith))
    ∙ ap (λ l. (if name_eq w q then g 0 else []) ++ l) (joined_cong_below ws (λ j. f (suc j)) (λ j. g (suc j)) q (λ j lt. h (suc j) (omega (arith, lt))))

same_choice : {A : Type 0} (names : List Name) (w q : Name) (x y : A) → 0 < count w names → 0 < count q names
    → (if nat_eq (place names w) (place names q) then x else y) ≡ (if name_eq w q then x else y)
same_choice names w q x y lw lq = ⊎_elim
    (λ c. if_eq (place names w) (place names q) x y (ap (place names) c.0) ∙ sym (if_true (name_eq w q) x y c.1))
    (λ c. if_ne (place names w) (place names q) x y (λ e. c.0 (place_apart names w q lw lq e)) ∙ sym (if_false (name_eq w q) x y c.1))
    (cases_name w q)

-- by place and by name the same comes to a queue
pub joined_places : {A : Type 0} (names ws : List Name) (f : ℕ → List A) (q : Name) → ((w : Name) → 0 < count w ws → 0 < count w names) → 0 < count q names
    → joined_at (places names ws) f (place names q) ≡ joined ws f q
joined_places names [] f q h lq = refl
joined_places names (w ∷ ws) f q h lq =
    let lw : 0 < count w names = h w (let e = ap one_if (name_same w) in omega (arith, e)) in
    ap (λ l. l ++ joined_at (places names ws) (λ j. f (suc j)) (place names q)) (same_choice names w q (f 0) [] lw lq)
    ∙ ap (λ l. (if name_eq w q then f 0 else []) ++ l) (joined_places names ws (λ j. f (suc j)) q (λ v lv. h v (omega (arith, lv))) lq)

-- LISTS IN ORDER

-- the lists of names that stand one after another
pub lists_in_order : {A : Type 0} (names : List Name) (ls : List (List A)) (ws : List Name) (n : ℕ)
    → ((i : ℕ) (q : Name) → slice_get ws i ≡ Some q → place names q ≡ n + i) → n + length ws ≤ length ls
    → map (λ q. list_at ls (place names q)) ws ≡ take (length ws) (drop n ls)
lists_in_order names ls [] n h le = refl
lists_in_order names ls (w ∷ ws) n h le =
    let at : place names w ≡ n = h 0 w refl ∙ omega arith in
    let step : n + 1 ≡ suc n = omega arith in
    ap (λ i. list_at ls i ∷ map (λ q. list_at ls (place names q)) ws) at
    ∙ ap (λ l. list_at ls n ∷ l) (lists_in_order names ls ws (suc n) (λ i q g. h (suc i) q g ∙ omega arith) (omega (arith, le)))
    ∙ ap (λ k. list_at ls n ∷ take (length ws) (drop k ls)) (sym step)
    ∙ sym (ap (take (suc (length ws))) (drop_more ls n [] (omega (arith, le))))

-- the list that a name is given, by its place
pub written_found : (names : List Name) (f : ℕ → List item.Item) (h : History) (q : Name) → 0 < count q names → written names f h q ≡ f (place names q)
written_found [] f h q lt = absurd (omega (arith, lt))
written_found (w ∷ ws) f h q lt = ⊎_elim
    (λ c. if_true (name_eq w q) (f 0) (written ws (λ j. f (suc j)) h q) c.1 ∙ ap f (sym (place-here w ws q c.1)))
    (λ c.
    let lx : 0 < count q ws = let e = ap one_if c.1 in omega (arith, e, lt) in
    if_false (name_eq w q) (f 0) (written ws (λ j. f (suc j)) h q) c.1 ∙ written_found ws (λ j. f (suc j)) h q lx ∙ ap f (sym (place-past w ws q c.1)))
    (cases_name w q)
