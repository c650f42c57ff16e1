-- The instants of a run are exactly the timestamps of its files.
use Rattle.std.proofs.Common.{◌≡◌, ℤ, List, [], ◌∷◌, map, refl, sym, ap, subst, arith, ⊎_elim}
use Rattle.std.specs.List.{AllByRecursion, Contains}
use Rattle.std.specs.List.Sorted.{IsStrictlySortedBy}
use Rattle.std.specs.Ordering.{int_cmp}
use Rattle.std.proofs.lemmas.List.Elements.{Contains-append_left, Contains-append_right, Contains-push, Contains-push_cases, Contains-append_cases}
use Rattle.river_base.proofs.Tests.{cmp_less}
use Rattle.river_base.specs.Instants.{Timed, stamps, instants, spread}
use Rattle.river_base.proofs.Instants.{once_rises, once_has, has_once}
use Rattle.brooklet_model.specs.Fit.{Rises}
use Rattle.brooklet_model.specs.Fit as fit
use Rattle.cql_model.specs.Instants.{IsStamped, AreInstantsOf, InstantsAre, MeansAtInstants}
use Rattle.cql_model.specs.Meaning.{answers}

-- THEY RISE

rises_where : (ts : List ℤ) → IsStrictlySortedBy int_cmp ts → Rises ts
unfolding IsStrictlySortedBy
rises_where [] h = tt
rises_where (t ∷ []) h = tt
rises_where (t ∷ u ∷ ts) h = (cmp_less t u h.0.0, rises_where (u ∷ ts) h.1)

-- THEY ARE THE TIMESTAMPS

none_there : {A P : Type 0} (x : A) → Contains [] x → P
none_there x h = absurd (omega (arith, h.1))

there_first : {A : Type 0} (x : A) (xs : List A) → Contains (x ∷ xs) x
there_first x xs = Contains-append_left (x ∷ []) xs x (Contains-push [] x)

-- an element of a list is the first, or one of the others
first_or_more : {A P : Type 0} (y : A) (ys : List A) (x : A) → (y ≡ x → P) → (Contains ys x → P) → Contains (y ∷ ys) x → P
first_or_more y ys x f g h = ⊎_elim (λ a. ⊎_elim (λ z. none_there x z) f (Contains-push_cases [] y x a)) g (Contains-append_cases (y ∷ []) ys x h)

abbrev Entry : Type 0
Entry = ℤ × List ℤ

abbrev times : List Entry → List ℤ
times file = map (λ (e : Entry). e.0) file

row_at : (file : List Entry) (t : ℤ) → Contains (times file) t → (row : List ℤ) × Contains file (t, row)
row_at [] t h = none_there t h
row_at (e ∷ es) t h =
    first_or_more e.0 (times es) t (λ s. (e.1, subst (λ (u : ℤ). Contains (e ∷ es) (u, e.1)) s (there_first e es)))
    (λ m. let r = row_at es t m in (r.0, Contains-append_right (e ∷ []) es (t, r.0) r.1)) h

at_row : (file : List Entry) (t : ℤ) (row : List ℤ) → Contains file (t, row) → Contains (times file) t
at_row [] t row h = none_there (t, row) h
at_row (e ∷ es) t row h =
    first_or_more e es (t, row) (λ s. subst (λ (u : ℤ). Contains (times (e ∷ es)) u) (ap (λ (d : Entry). d.0) s) (there_first e.0 (times es)))
    (λ m. Contains-append_right (e.0 ∷ []) (times es) t (at_row es t row m)) h

stamped : (files : List (List Entry)) (t : ℤ) → Contains (stamps files) t → IsStamped files t
stamped [] t h = none_there t h
stamped (f ∷ fs) t h =
    ⊎_elim (λ a. let r = row_at f t a in (f, there_first f fs, r.0, r.1))
    (λ a. let r = stamped fs t a in (r.0, Contains-append_right (f ∷ []) fs r.0 r.1, r.2, r.3))
    (Contains-append_cases (times f) (stamps fs) t h)

stamps_of : (files : List (List Entry)) (t : ℤ) (file : List Entry) (row : List ℤ) → Contains files file → Contains file (t, row) → Contains (stamps files) t
stamps_of [] t file row h r = none_there file h
stamps_of (f ∷ fs) t file row h r =
    first_or_more f fs file (λ s. Contains-append_left (times f) (stamps fs) t (at_row f t row (subst (λ (l : List Entry). Contains l (t, row)) (sym s) r)))
    (λ m. Contains-append_right (times f) (stamps fs) t (stamps_of fs t file row m r)) h

-- the law: instants rise, and are the timestamps of the files
pub instants_are : InstantsAre
instants_are files = record {
  rise = rises_where (instants files) (once_rises (stamps files));
  all = λ t. ((λ h. stamped files t (has_once (stamps files) t h)), λ h. once_has (stamps files) t (stamps_of files t h.0 h.2 h.1 h.3));
}

-- EACH STREAM HAS THEM

-- a stream over instants has these instants
pub spread_instants : (ts : List ℤ) (s : Timed) → fit.instants_in (spread ts s) ≡ ts
spread_instants [] s = refl
spread_instants (t ∷ ts) s = ap (λ l. t ∷ l) (spread_instants ts s)

all_spread : (files : List (List Entry)) (ts : List ℤ) (ss : List Timed) → AreInstantsOf files ts
    → AllByRecursion (λ out. AreInstantsOf files (fit.instants_in out)) (map (spread ts) ss)
all_spread files ts [] h = tt
all_spread files ts (s ∷ ss) h = (subst (AreInstantsOf files) (sym (spread_instants ts s)) h, all_spread files ts ss h)

-- the law: what a program means has a batch at each instant
pub means_at_instants : MeansAtInstants
means_at_instants p files = all_spread files (instants files) (answers (instants files) [] p files) (instants_are files)
