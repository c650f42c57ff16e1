-- Lemmas on lists, tests and feeding.
use Rattle.std.proofs.Common.{◌≡◌, true, false, List, [], ◌∷◌, ◌++◌, refl, sym, ap, ◌∙◌, append_assoc}
use Rattle.std.specs.Prelude.{if◌then◌else◌}
use Rattle.std.proofs.lemmas.List.{append-nil}
use Rattle.river_base.specs.Name.{name_eq}
use Rattle.river_base.specs.declared.item.Item as item
use Rattle.river_plan.specs.Forms.{Name}
use Rattle.brooklet_model.specs.Machine.{at_name}
use Rattle.brooklet_model.specs.Firings.{Kept, Fired, Same, feed, and_then}

-- equal at each place is equal
pub funext : {A B : Type 0} (f g : A → B) → ((x : A) → f x ≡ g x) → f ≡ g
funext f g h = λ i x. h x i

-- feeding goes on where it ended
pub feed-append : (f : item.Item → List Kept → Fired) (xs ys : List item.Item) (ss : List Kept)
    → Same (feed f (xs ++ ys) ss) (and_then (feed f xs ss) (feed f ys (feed f xs ss).states))
feed-append f [] ys ss = record { outs = λ p. refl; adds = λ t. refl; states = refl }
feed-append f (x ∷ xs) ys ss =
    let r = f x ss in
    let h = feed-append f xs ys r.states in
    record {
      outs =
          λ p. ap (λ t. r.outs p ++ t) (h.outs p)
          ∙ sym (append_assoc (r.outs p) ((feed f xs r.states).outs p) ((feed f ys (feed f xs r.states).states).outs p));
      adds =
          λ t. ap (λ l. r.adds t ++ l) (h.adds t)
          ∙ sym (append_assoc (r.adds t) ((feed f xs r.states).adds t) ((feed f ys (feed f xs r.states).states).adds t));
      states = h.states;
    }

-- feeding one item is one firing
pub feed_one : (f : item.Item → List Kept → Fired) (x : item.Item) (ss : List Kept) → Same (feed f (x ∷ []) ss) (f x ss)
feed_one f x ss = record { outs = λ p. append-nil ((f x ss).outs p); adds = λ t. append-nil ((f x ss).adds t); states = refl }

-- what each firing keeps, feeding keeps
pub feed_kept : (f : item.Item → List Kept → Fired) (P : List Kept → Type 0) → ((x : item.Item) (ss : List Kept) → P ss → P (f x ss).states)
    → (xs : List item.Item) (ss : List Kept) → P ss → P (feed f xs ss).states
feed_kept f P keep [] ss h = h
feed_kept f P keep (x ∷ xs) ss h = feed_kept f P keep xs (f x ss).states (keep x ss h)

-- a function that was changed at a name
pub at_here : {A : Type 0} (n m : Name) (z : A) (f : Name → A) → name_eq n m ≡ true → at_name n z f m ≡ z
at_here n m z f e = ap (λ b. if b then z else f m) e

-- a change at one name leaves the others
pub at_other : {A : Type 0} (n m : Name) (z : A) (f : Name → A) → name_eq n m ≡ false → at_name n z f m ≡ f m
at_other n m z f e = ap (λ b. if b then z else f m) e
