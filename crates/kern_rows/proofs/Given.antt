-- What a filter gives, as items.
use Rattle.std.proofs.Common.{◌≡◌, ℕ, zero, suc, ℤ, pos, Bool, true, false, List, [], ◌∷◌, ◌++◌, length, take, map, refl, ap, ◌∙◌, arith}
use Rattle.std.specs.Prelude.{if◌then◌else◌, nat_le, nat_eq, slice_index_or}
use Rattle.std.specs.List.{AllByRecursion}
use Rattle.std.proofs.lemmas.List.{length-map}
use Rattle.river_base.specs.declared.item.Item as item
use Rattle.river_base.specs.declared.item.Item.TheVariants.{Flat}
use Rattle.river_base.specs.declared.item.Flat.TheVariants.{One}
use Rattle.work_code.specs.Value.{val, is_true}
use Rattle.work_code.specs.Steps.{Step, Steps, Set, Push, If, Done, Then}
use Rattle.work_code.specs.Ran.{Ran, ran, ran_once}
use Rattle.kern_rows.specs.Forms.{FilterForm}
use Rattle.kern_rows.specs.Needs.{GivesOnce, GivesValues, CanFilter}
use Rattle.kern_rows.specs.Runs.{pushed_to, Filtering, Filtered, buffer_of, filter_one, filter_turns, next_run, after_run, received, run_at, needs}
use Rattle.kern_rows.proofs.Filtered.{run_can}
use Rattle.kern_rows.specs.Stands.{first_values}

-- rows of one value for port 0
abbrev pub AreValues : List (ℕ × List ℤ) → Type 0
AreValues es = AllByRecursion (λ e. (e.0 ≡ 0) × (length e.1 ≡ 1)) es

both : (xs ys : List (ℕ × List ℤ)) → AreValues xs → AreValues ys → AreValues (xs ++ ys)
both [] ys h g = g
both (x ∷ xs) ys h g = (h.0, both xs ys h.1 g)

either : (b : Bool) (r s : Ran) → AreValues r.pushes → AreValues s.pushes → AreValues (if b then r else s).pushes
either true r s h g = h
either false r s h g = g

mutual
  once_values : (s : Step) (input slots : List ℤ) → GivesOnce s → AreValues (ran_once s input slots).pushes
  once_values (Set slot t) input slots h = tt
  once_values (Push port ts) input slots h = ((h.0, length-map ts (λ t. val t input slots) ∙ h.1), tt)
  once_values (If cond when otherwise) input slots h =
      either (is_true (val cond input slots)) (ran when input slots) (ran otherwise input slots) (ran_values when input slots h.0)
      (ran_values otherwise input slots h.1)

  -- what a body pushes are values of 64 bits
  pub ran_values : (ss : Steps) (input slots : List ℤ) → GivesValues ss → AreValues (ran ss input slots).pushes
  ran_values Done input slots h = tt
  ran_values (Then s ss) input slots h =
      both (ran_once s input slots).pushes (ran ss input (ran_once s input slots).slots).pushes (once_values s input slots h.0)
      (ran_values ss input (ran_once s input slots).slots h.1)

-- a filter pushes such rows
either_turn : (b : Bool) (x y : Filtered) → AreValues x.pushes → AreValues y.pushes → AreValues (if b then x else y).pushes
either_turn true x y h g = h
either_turn false x y h g = g

pub turn_values : (f : FilterForm) → CanFilter f → (n : ℕ) (s : Filtering) → AreValues (filter_turns f n s).pushes
turn_values f can zero s = tt
turn_values f can (suc n) s =
    either_turn (nat_le (needs f s.fired) (length (buffer_of f s))) _ (record { pushes = []; after = s })
    (both (next_run f s).pushes (filter_turns f n (after_run s (next_run f s))).pushes
    (ran_values (run_at f s.fired).body.steps (take (run_at f s.fired).peek (buffer_of f s)) _ (run_can f can s.fired).gives)
    (turn_values f can n (after_run s (next_run f s)))) tt

-- a filter pushes values of 64 bits
pub filter_values : (f : FilterForm) (v : ℤ) (s : Filtering) → CanFilter f → AreValues (filter_one f v s).pushes
filter_values f v s can = turn_values f can (suc (length (received v s).seen)) (received v s)

alone : (row : List ℤ) → length row ≡ 1 → row ≡ slice_index_or row 0 (pos 0) ∷ []
alone [] h = absurd (omega (arith, h))
alone (v ∷ []) h = refl
alone (v ∷ w ∷ ws) h = absurd (omega (arith, h))

to_0 : (port : ℕ) (x : item.Item) (xs : List item.Item) → port ≡ 0 → (if nat_eq port 0 then x ∷ xs else xs) ≡ x ∷ xs
to_0 zero x xs h = refl
to_0 (suc port) x xs h = absurd (omega (arith, h))

-- such rows as items are the rows of their values
pub given_items : (es : List (ℕ × List ℤ)) → AreValues es → pushed_to 0 es ≡ map (λ v. Flat (One (v ∷ []))) (first_values es)
given_items [] h = refl
given_items (e ∷ es) h =
    to_0 e.0 (Flat (One e.1)) (pushed_to 0 es) h.0.0
    ∙ ap (λ row. Flat (One row) ∷ pushed_to 0 es) (alone e.1 h.0.1)
    ∙ ap (λ xs. Flat (One (slice_index_or e.1 0 (pos 0) ∷ [])) ∷ xs) (given_items es h.1)
