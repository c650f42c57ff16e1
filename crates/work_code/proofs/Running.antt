-- A body that is run statement by statement.
use Rattle.std.proofs.Common.{◌≡◌, ℕ, zero, suc, ◌+◌, ◌<◌, ℤ, List, [], ◌∷◌, ◌++◌, length, take, map, get_or, refl, sym, ap, ◌∙◌}
use Rattle.std.proofs.Common.{subst, arith, append_assoc}
use Rattle.std.specs.List.{AllByRecursion}
use Rattle.std.proofs.lemmas.List.{append-nil}
use Rattle.std.proofs.Math.Seq.{take-append-add}
use Rattle.river_base.specs.Grew.{GrewByPrefix}
pub use Rattle.river_base.proofs.PlaceLemmas.{on_err}
use Rattle.work_code.specs.declared.code.Stmt.{Stmt, fold-roll-Stmt}
use Rattle.work_code.specs.declared.code.Stmt as built
use Rattle.work_code.specs.declared.code.Stmt.TheVariants.{rolls-Push, rolls-If, rolls-Set}
use Rattle.work_code.specs.declared.code.Stmt.TheOpen as layer
use Rattle.work_code.specs.declared.expr.Exprs.{Exprs}
use Rattle.work_code.specs.declared.code.Stmts.{Stmts}
use Rattle.work_code.specs.declared.expr.Expr.{Expr}
use Rattle.work_code.specs.Term.{Term, term, terms}
use Rattle.work_code.specs.Steps.{Step, Steps, Set, Push, If, step, steps, in_turn, step_at, steps_at}
use Rattle.work_code.proofs.Texts.{steps-is}
use Rattle.work_code.specs.Ran.{ran, ran_once, IsBodyWithin}

abbrev pub Pushes : Type 0
Pushes = List (ℕ × List ℤ)

-- what was pushed and what the rest pushes is what all push
pub record SoFar (input : List ℤ) (all rest : List Step) (slots now : List ℤ) (out out' : Pushes) : Type 0 where
  pub given : Pushes
  pub grew : out' ≡ out ++ given
  pub pushes : given ++ (ran (in_turn rest) input now).pushes ≡ (ran (in_turn all) input slots).pushes
  pub last : (ran (in_turn rest) input now).slots ≡ (ran (in_turn all) input slots).slots
  pub within : IsBodyWithin (length input) (length now) (in_turn rest)

pub so_far_start : (input : List ℤ) (all : List Step) (slots : List ℤ) (out : Pushes) → IsBodyWithin (length input) (length slots) (in_turn all)
    → SoFar input all all slots slots out out
so_far_start input all slots out h = record { given = []; grew = sym (append-nil out); pushes = refl; last = refl; within = h }

-- the next statement runs
pub so_far_step : (input : List ℤ) (all : List Step) (s : Step) (rest : List Step) (slots now next : List ℤ) (out out' out'' : Pushes)
    → SoFar input all (s ∷ rest) slots now out out' → out'' ≡ out' ++ (ran_once s input now).pushes → next ≡ (ran_once s input now).slots
    → length next ≡ length now → SoFar input all rest slots next out out''
so_far_step input all s rest slots now next out out' out'' f g n e =
    let r = ran_once s input now in
    record {
      given = f.given ++ r.pushes;
      grew = g ∙ ap (λ o. o ++ r.pushes) f.grew ∙ append_assoc out f.given r.pushes;
      pushes =
          append_assoc f.given r.pushes (ran (in_turn rest) input next).pushes ∙ ap (λ m. f.given ++ (r.pushes ++ (ran (in_turn rest) input m).pushes)) n
          ∙ f.pushes;
      last = ap (λ m. (ran (in_turn rest) input m).slots) n ∙ f.last;
      within = subst (λ k. IsBodyWithin (length input) k (in_turn rest)) (sym e) f.within.1;
    }

-- all have run
pub so_far_end : (input : List ℤ) (all : List Step) (slots now : List ℤ) (out out' : Pushes) → SoFar input all [] slots now out out'
    → (out' ≡ out ++ (ran (in_turn all) input slots).pushes) × (now ≡ (ran (in_turn all) input slots).slots)
so_far_end input all slots now out out' f = (f.grew ∙ ap (λ g. out ++ g) (sym (append-nil f.given) ∙ f.pushes), f.last)

-- the next statement is refused in the middle
pub so_far_refused : (input : List ℤ) (all : List Step) (s : Step) (rest : List Step) (slots now : List ℤ) (out out' out'' : Pushes)
    → SoFar input all (s ∷ rest) slots now out out' → GrewByPrefix out' (ran_once s input now).pushes out''
    → GrewByPrefix out (ran (in_turn all) input slots).pushes out''
so_far_refused input all s rest slots now out out' out'' f g =
    let r = ran_once s input now in
    let others = ran (in_turn rest) input r.slots in
    record {
      n = length f.given + length (take g.n r.pushes);
      is =
          g.is
          ∙ ap (λ o. o ++ take g.n r.pushes) f.grew
          ∙ append_assoc out f.given (take g.n r.pushes)
          ∙ ap (λ t. out ++ t)
          (sym (take-append-add f.given (r.pushes ++ others.pushes) (length (take g.n r.pushes)) ∙ ap (λ t. f.given ++ t) (prefix_is r.pushes others.pushes g.n)))
          ∙ ap (λ t. out ++ take (length f.given + length (take g.n r.pushes)) t) f.pushes;
    }
  where
    prefix_is : (a b : Pushes) (n : ℕ) → take (length (take n a)) (a ++ b) ≡ take n a
    prefix_is a b zero = refl
    prefix_is [] b (suc n) = refl
    prefix_is (x ∷ xs) b (suc n) = ap (λ t. x ∷ t) (prefix_is xs b n)

-- what holds of what is seen of each of some elements holds of one of them
pub within_each : {A : Type 0} (f : A → Term) (P : Term → Type 0) (xs : List A) (i : ℕ) (x : A) → AllByRecursion P (map f xs) → i < length xs
    → x ≡ get_or xs i x → P (f x)
within_each f P [] i x h lt at = absurd (omega arith)
within_each f P (y ∷ ys) zero x h lt at = subst (λ z. P (f z)) (sym at) h.0
within_each f P (y ∷ ys) (suc i) x h lt at = within_each f P ys i x h.1 (omega arith) at

-- what holds of each of some trees holds of one of them
pub within_at : (P : Term → Type 0) (es : List Expr) (i : ℕ) (e : Expr) → AllByRecursion P (map term es) → i < length es → e ≡ get_or es i e → P (term e)
within_at P es i e h lt at = within_each term P es i e h lt at

-- the tree of a push
pub step-push : (port : ℕ) (values : Exprs) → step (built.Push port values) ≡ Push port (terms values)
step-push port values = ap step (sym (rolls-Push port values)) ∙ fold-roll-Stmt Step Steps step_at steps_at (layer.Push port values)

-- a branch that is built is a branch, with its condition and both bodies
pub step-if : (c : Expr) (a b : Stmts) → step (built.If c a b) ≡ If (term c) (steps a) (steps b)
step-if c a b = ap step (sym (rolls-If c a b)) ∙ fold-roll-Stmt Step Steps step_at steps_at (layer.If c a b)

-- an assignment is the step of its value
pub step-set : (slot : ℕ) (value : Expr) → step (built.Set slot value) ≡ Set slot (term value)
step-set slot value = ap step (sym (rolls-Set slot value)) ∙ fold-roll-Stmt Step Steps step_at steps_at (layer.Set slot value)

pub ruleset step_trees = (step-push, step-if, step-set, steps-is)
