-- Lists whose items move out one after another.
use Rattle.std.proofs.Common.{◌≡◌, ℕ, suc, ◌+◌, ◌<◌, ◌≤◌, List, [], ◌∷◌, ◌++◌, length, take, refl, sym, ap, ◌∙◌, arith, append_assoc, get_or-set_other}
use Rattle.std.proofs.Common.{replicate, reverse, ⊎_elim, length-append}
use Rattle.std.specs.Prelude.{slice_set}
use Rattle.std.proofs.lemmas.Bool.{cases_lt}
use Rattle.std.proofs.lemmas.List.{take_more, length-set, get_or-set_same, reverse-append, replicate-append-replicate}
use Rattle.river_base.specs.Places.{list_at}

-- from this place on the lists are as they were
pub record Untouched {A : Type 0} (done : ℕ) (first now : List (List A)) : Type 0 where
  pub many : length now ≡ length first
  pub rest : (q : ℕ) → done ≤ q → list_at now q ≡ list_at first q

-- at first all are
pub untouched : {A : Type 0} (first : List (List A)) → Untouched 0 first first
untouched first = record { many = refl; rest = λ q le. refl }

-- the list at a place became another
pub untouched_next : {A : Type 0} (done : ℕ) (first now next : List (List A)) (xs : List A) → Untouched done first now → next ≡ slice_set now done xs
    → Untouched (done + 1) first next
untouched_next done first now next xs u e = record {
  many = ap length e ∙ length-set now done xs ∙ u.many;
  rest = λ q le. ap (λ l. list_at l q) e ∙ get_or-set_other now done q xs [] (λ d. omega (arith, d, le)) ∙ u.rest q (omega (arith, le));
}

take_list_more : {A : Type 0} (ls : List (List A)) (n : ℕ) → n < length ls → take (n + 1) ls ≡ take n ls ++ list_at ls n ∷ []
take_list_more ls n lt = take_more ls n [] lt

-- one more list moved to others
pub moved_next : {A : Type 0} (done : ℕ) (start queues queues' first now : List (List A)) (xs : List A) → done < length first → Untouched done first now
    → queues ≡ start ++ take done first → xs ≡ list_at now done → queues' ≡ queues ++ xs ∷ [] → queues' ≡ start ++ take (done + 1) first
moved_next done start queues queues' first now xs lt u q x e =
    e ∙ ap (λ l. l ++ xs ∷ []) q ∙ append_assoc start (take done first) (xs ∷ [])
    ∙ ap (λ (y : List _). start ++ (take done first ++ y ∷ [])) (x ∙ u.rest done (omega arith)) ∙ ap (λ l. start ++ l) (sym (take_list_more first done lt))

-- LISTS THAT BECOME EMPTY

-- lists of which none has anything
pub all_blank : {A : Type 0} (ls : List (List A)) → ((q : ℕ) → q < length ls → list_at ls q ≡ []) → ls ≡ replicate (length ls) []
all_blank [] h = refl
all_blank (l ∷ ls) h = ap (λ x. x ∷ ls) (h 0 (omega arith)) ∙ ap (λ t. [] ∷ t) (all_blank ls (λ q lt. h (suc q) (omega (arith, lt))))

-- before this place they have nothing, and from it on they are as they were
pub record Emptied {A : Type 0} (done : ℕ) (first now : List (List A)) : Type 0 where
  pub left : Untouched done first now
  pub nothing : (q : ℕ) → q < done → list_at now q ≡ []

-- before the first list was moved, nothing was
pub emptied : {A : Type 0} (first : List (List A)) → Emptied 0 first first
emptied first = record { left = untouched first; nothing = λ q lt. absurd (omega (arith, lt)) }

-- the list at a place was emptied
pub emptied_next : {A : Type 0} (done : ℕ) (first now next : List (List A)) → Emptied done first now → done < length first → next ≡ slice_set now done []
    → Emptied (done + 1) first next
emptied_next done first now next u lt e = record {
  left = untouched_next done first now next [] u.left e;
  nothing = λ q below. ap (λ l. list_at l q) e ∙ ⊎_elim
      (λ b. let apart : (q ≡ done → ⊥) = λ same. omega (arith, same, b) in get_or-set_other now done q [] [] apart ∙ u.nothing q b)
      (λ ge. let same : q ≡ done = omega (arith, below, ge) in let m = u.left.many in ap (λ n. list_at (slice_set now done []) n) same
      ∙ get_or-set_same now done [] [] (omega (arith, m, lt)))
      (cases_lt q done);
}

-- all of them were
pub emptied_all : {A : Type 0} (done : ℕ) (first now : List (List A)) → Emptied done first now → length first ≤ done → now ≡ replicate (length first) []
emptied_all done first now u le =
    let m = u.left.many in
    all_blank now (λ q lt. u.nothing q (omega (arith, lt, m, le))) ∙ ap (λ n. replicate n []) m

-- FROM THE END OF A LIST TO THE END OF A LINE

-- a list without its last item is shorter
pub one_less : {A : Type 0} (items items' : List A) (x : A) → items ≡ items' ++ x ∷ [] → length items' < length items
one_less items items' x e = let l = ap length e ∙ length-append items' (x ∷ []) in omega (arith, l)

-- the last item moved, and those that are left follow from the last to the first
pub line_next : {A : Type 0} (line line' items items' all : List A) (x : A) → items ≡ items' ++ x ∷ [] → line' ≡ line ++ x ∷ [] → line ++ reverse items ≡ all
    → line' ++ reverse items' ≡ all
line_next line line' items items' all x e l inv =
    ap (λ k. k ++ reverse items') l ∙ append_assoc line (x ∷ []) (reverse items')
    ∙ ap (λ k. line ++ k) (sym (ap reverse e ∙ reverse-append items' (x ∷ []))) ∙ inv

-- empty lists, and as many more as are missing
pub refilled : {A : Type 0} (count n m : ℕ) (now new : List (List A)) → now ≡ replicate n [] → new ≡ now ++ replicate m [] → n + m ≡ count
    → new ≡ replicate count []
refilled count n m now new e g h =
    g ∙ ap (λ l. l ++ replicate m []) e ∙ replicate-append-replicate n m [] ∙ ap (λ k. replicate k []) h
