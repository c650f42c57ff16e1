-- Blocks, statement after statement and turn after turn.
use Rattle.std.proofs.Common.{◌≡◌, ℕ, ◌+◌, ◌-◌, ◌^◌, ◌<◌, ◌≤◌, ℤ, pos, Bool, true, false, List, [], ◌∷◌, length, Option, Some, None, refl, sym, ap, ◌∙◌}
use Rattle.std.proofs.Common.{arith, to_z, w64}
use Rattle.std.specs.Prelude.{if◌then◌else◌, slice_index_or}
use Rattle.std.proofs.lemmas.Int.{to_z_pos}
use Rattle.std.proofs.lemmas.List.{get_or_past}
use Rattle.streamit_model.proofs.Numbers.{numbers_more}
use Rattle.river_base.specs.Name.{name_eq}
use Rattle.river_plan.specs.Forms.{Name}
use Rattle.brooklet_model.specs.Machine.{at_name}
use Rattle.streamit_text.specs.Tree as source
use Rattle.streamit_model.specs.Meaning.{State, numbers_from, each_turn, exec, exec_all, nought}
use Rattle.streamit_unroll.specs.Unrolling.{AreWritten}
use Rattle.streamit_text.specs.Tree.{in_turn}
use Rattle.slow_streamit.specs.Firing.{or_nought}

-- VALUES

-- where no name is known, no name has a value
pub none-known : (f : Name → Option ℤ) → ((q : Name) → f q ≡ None) → (λ q. or_nought (f q)) ≡ nought
none-known f none = λ i q. ap or_nought (none q) i

-- one name has another value
pub known-more : (f g : Name → Option ℤ) (n : Name) (z : ℤ) → ((q : Name) → g q ≡ (if name_eq n q then Some z else f q))
    → (λ q. or_nought (g q)) ≡ at_name n z (λ q. or_nought (f q))
known-more f g n z more = λ i q. (ap or_nought (more q) ∙ chosen (name_eq n q) q) i where
  chosen : (b : Bool) (q : Name) → or_nought (if b then Some z else f q) ≡ (if b then z else or_nought (f q))
  chosen true q = refl
  chosen false q = refl

-- BLOCKS

-- what is left to do gives what all does
pub record BlockSoFar (xs : List ℤ) (all rest : List source.Statement) (first now : State) : Type 0 where
  pub same : exec_all (in_turn rest) xs now ≡ exec_all (in_turn all) xs first
  pub written : AreWritten (in_turn rest)

pub block_start : (xs : List ℤ) (all : List source.Statement) (first : State) → AreWritten (in_turn all) → BlockSoFar xs all all first first
block_start xs all first written = record { same = refl; written = written }

pub block_next : (xs : List ℤ) (all rest : List source.Statement) (c : source.Statement) (first now next : State) → BlockSoFar xs all (c ∷ rest) first now
    → next ≡ exec c xs now → BlockSoFar xs all rest first next
block_next xs all rest c first now next f e = record { same = ap (exec_all (in_turn rest) xs) e ∙ f.same; written = f.written.1 }

pub block_end : (xs : List ℤ) (all : List source.Statement) (first now : State) → BlockSoFar xs all [] first now → now ≡ exec_all (in_turn all) xs first
block_end xs all first now f = f.same

-- TURNS

-- the turns that are left give what all give
pub record TurnsSoFar (block : State → State) (n : Name) (low v end : ℕ) (first now : State) : Type 0 where
  pub same : each_turn block n (numbers_from v (end - v)) now ≡ each_turn block n (numbers_from low (end - low)) first

pub turns_start : (block : State → State) (n : Name) (low end : ℕ) (first : State) → TurnsSoFar block n low low end first first
turns_start block n low end first = record { same = refl }

-- one turn more
pub turns_next : (block : State → State) (n : Name) (low v end : ℕ) (first now next : State) → v < end → TurnsSoFar block n low v end first now
    → next ≡ block (record now { values = at_name n (pos v) now.values }) → TurnsSoFar block n low (v + 1) end first next
turns_next block n low v end first now next lt f e = record {
  same = ap (each_turn block n (numbers_from (v + 1) (end - (v + 1)))) e ∙ ap (λ vs. each_turn block n vs now) (sym (numbers_more v end lt)) ∙ f.same;
}

-- a turn's value is a number
pub turn_value : (v end : ℕ) → v < end → end ≤ 2 ^ 63 → to_z w64 v ≡ pos v
turn_value v end lt le = to_z_pos w64 v (omega (arith, lt, le))

pub turns_end : (block : State → State) (n : Name) (low v end : ℕ) (first now : State) → end ≤ v → TurnsSoFar block n low v end first now
    → now ≡ each_turn block n (numbers_from low (end - low)) first
turns_end block n low v end first now le f = ap (λ k. each_turn block n (numbers_from v k) now) (let z : 0 ≡ end - v = omega (arith, le) in z) ∙ f.same

-- ITEMS

-- there are not so many items
pub far : (xs : List ℤ) (k : ℕ) → length xs ≤ k → pos 0 ≡ slice_index_or xs k (pos 0)
far xs k le = sym (get_or_past xs k (pos 0) le)
