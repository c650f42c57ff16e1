-- Searches for the same thing find the same.
use Rattle.std.specs.Option.{option_map}
use Rattle.std.proofs.Common.{refl, List, [], ◌∷◌, ◌++◌, Option, Some, None, inl, inr, ⊎_elim}
use Rattle.river_plan.specs.First.{OrElse, As, Unless, Along, IsFirst}

-- one search and then another, where both are replaced by equal ones
pub or_else-cong : {B : Type 0} (s s' t t' : Option B → Type 0) → ((o : Option B) → s o → s' o) → ((o : Option B) → t o → t' o) → (o : Option B) → OrElse s t o
    → OrElse s' t' o
or_else-cong s s' t t' f g None h = (f None h.0, g None h.1)
or_else-cong s s' t t' f g (Some b) h = ⊎_elim (λ x. inl (f (Some b) x)) (λ x. inr (f None x.0, g (Some b) x.1)) h

pub as-cong : {A B : Type 0} (m : A → B) (s s' : Option A → Type 0) → ((o : Option A) → s o → s' o) → (o : Option B) → As m s o → As m s' o
as-cong m s s' f None h = f None h
as-cong m s s' f (Some b) h = (h.0, h.1, f (Some h.0) h.2)

-- a search that tells what is not so, where that is replaced by an equal condition
pub unless-cong : {A : Type 0} (P Q : Type 0) (y : A) → (P → Q) → (Q → P) → (o : Option A) → Unless P y o → Unless Q y o
unless-cong P Q y f g None h = f h
unless-cong P Q y f g (Some x) h = (λ q. h.0 (g q), h.1)

pub along-cong : {A B : Type 0} (s s' : List A → A → Option B → Type 0) → ((b : List A) (y : A) (o : Option B) → s b y o → s' b y o)
    → (before xs : List A) (o : Option B) → Along s before xs o → Along s' before xs o
along-cong s s' f before [] None h = tt
along-cong s s' f before [] (Some b) h = h
along-cong s s' f before (y ∷ ys) o h =
    or_else-cong (s before y) (s' before y) (Along s (before ++ y ∷ []) ys) (Along s' (before ++ y ∷ []) ys) (f before y)
    (along-cong s s' f (before ++ y ∷ []) ys) o h

pub first-cong : {A : Type 0} (P Q : List A → A → Type 0) → ((b : List A) (y : A) → P b y → Q b y) → ((b : List A) (y : A) → Q b y → P b y)
    → (xs : List A) (o : Option A) → IsFirst P xs o → IsFirst Q xs o
first-cong P Q f g xs o h = along-cong (λ b y. Unless (P b y) y) (λ b y. Unless (Q b y) y) (λ b y. unless-cong (P b y) (Q b y) y (f b y) (g b y)) [] xs o h

-- what is found, under f
pub as-map : {A B : Type 0} (f : A → B) (s : Option A → Type 0) (o : Option A) → s o → As f s (option_map f o)
as-map f s None h = h
as-map f s (Some x) h = (x, refl, h)
