-- The stream of a query, one instant after another.
use Rattle.std.proofs.Common.{◌≡◌, ℕ, ◌+◌, ◌<◌, ℤ, Some, List, [], ◌∷◌, ◌++◌, length, get_or, take, drop, filter, refl, sym, ap, ◌∙◌, subst}
use Rattle.std.specs.Prelude.{int_lt}
use Rattle.std.proofs.lemmas.List.{map-append, take-append-drop}
use Rattle.river_base.proofs.Lists.{drop_next, take_next}
use Rattle.river_base.specs.declared.item.Item as item
use Rattle.river_base.specs.Row.{in_order}
use Rattle.cql_text.specs.declared.tree.Kind.{Kind}
use Rattle.cql_model.specs.Streams.{Timed, Rises, last_instant, at_last, content_before, changed, as_stream, item_at, spread}
use Rattle.cql_model.proofs.Instants.{Ascends, ascends, below_front}

last_push : (us : List ℤ) (t : ℤ) → last_instant (us ++ t ∷ []) ≡ Some t
last_push [] t = refl
last_push (u ∷ []) t = refl
last_push (u ∷ v ∷ vs) t = last_push (v ∷ vs) t

-- the content of the last instant so far
pub last_more : (ts : List ℤ) (r : Timed) (n : ℕ) (t : ℤ) (new : List (List ℤ)) → n < length ts → t ≡ get_or ts n t → new ≡ r t
    → new ≡ at_last r (last_instant (take (n + 1) ts))
last_more ts r n t new lt e is = is ∙ sym (ap (λ l. at_last r (last_instant l)) (take_next ts n t lt e) ∙ ap (at_last r) (last_push (take n ts) t))

-- is the content before that of the next
before_is : (ts : List ℤ) (r : Timed) (n : ℕ) (t : ℤ) → Rises ts → n < length ts → t ≡ get_or ts n t
    → content_before ts r t ≡ at_last r (last_instant (take n ts))
before_is ts r n t up lt e =
    let split : ts ≡ take n ts ++ (t ∷ drop (n + 1) ts) = sym (take-append-drop n ts) ∙ ap (λ l. take n ts ++ l) (drop_next ts n t lt e) in
    ap (λ l. at_last r (last_instant (filter (λ u. int_lt u t) l))) split
    ∙ ap (λ l. at_last r (last_instant l)) (below_front (take n ts) (drop (n + 1) ts) t (subst Ascends split (ascends ts up)))

-- one batch more of a query's stream
pub batch_more : (k : Kind) (ts : List ℤ) (r : Timed) (n : ℕ) (t : ℤ) (old : List (List ℤ)) (items more : List item.Item) → Rises ts → n < length ts
    → t ≡ get_or ts n t
    → old ≡ at_last r (last_instant (take n ts)) → items ≡ spread (take n ts) (as_stream k ts r)
    → more ≡ items ++ item_at t (in_order (changed k old (r t))) ∷ []
    → more ≡ spread (take (n + 1) ts) (as_stream k ts r)
batch_more k ts r n t old items more up lt e is so pushed =
    pushed ∙ ap (λ l. l ++ item_at t (in_order (changed k old (r t))) ∷ []) so
    ∙ ap (λ l. spread (take n ts) (as_stream k ts r) ++ item_at t (in_order (changed k l (r t))) ∷ []) (is ∙ sym (before_is ts r n t up lt e))
    ∙ sym (ap (λ l. spread l (as_stream k ts r)) (take_next ts n t lt e) ∙ map-append (λ u. item_at u (as_stream k ts r u)) (take n ts) (t ∷ []))
