-- Constants in which no variable of a loop stands have one value, whatever those variables are.
use Rattle.std.proofs.Common.{◌≡◌, ℕ, zero, suc, ℤ, pos, ◌+◌, ◌<◌, Bool, true, Option, None, Some, List, [], ◌∷◌, ◌++◌, length, drop, map, get_or}
use Rattle.std.proofs.Common.{refl, sym, ap, ◌∙◌, subst, arith, ⊎_elim}
use Rattle.std.specs.Prelude.{if◌then◌else◌, slice_get}
use Rattle.std.proofs.lemmas.Bool.{and_parts}
use Rattle.river_plan.specs.Forms.{Name}
use Rattle.river_plan.proofs.NameLemmas.{cases_name}
use Rattle.streamit_text.specs.Tree.{Expression}
use Rattle.streamit_text.specs.Tree as tree
use Rattle.streamit_model.specs.Meaning.{eval, pops, nought, look}
use Rattle.streamit_text.proofs.Trees.{expression-peek}
use Rattle.params_build.proofs.Trees.{expression-name}
use Rattle.params_print.proofs.Values.{expression-bin}
use Rattle.params_text.specs.Program.{Step, Loop, Steps, End, Then, steps_in_turn, step_of}
use Rattle.params_text.specs.declared.program.Step as written
use Rattle.params_model.specs.Environment.{Environment, under, value}
use Rattle.params_front.specs.declared.bounds.Bounds.{Bounds}
use Rattle.params_front.specs.Valued.{is_none, is_free, low_noted, high_noted, inner_noted, IsFixed, IsOver, IsValued, AreValued, IsNoted, AreNoted}

-- a name that is no variable's is what it is without them
other-name : (vars known env : Environment) (n : Name) → is_none (look vars n) ≡ true → IsOver vars known env → under env nought n ≡ under known nought n
other-name [] known env n h o = ap (λ e. under e nought n) o
other-name (e ∷ vars) known env n h o = ⊎_elim
    (λ s. absurd (found (sym (ap (λ b. is_none (if b then Some e.1 else look vars n)) s.1) ∙ h)))
    (λ d. ap (λ x. under x nought n) o.2 ∙ ap (λ b. if b then pos o.0 else under o.1 nought n) d.1
    ∙ other-name vars known o.1 n (sym (ap (λ b. is_none (if b then Some e.1 else look vars n)) d.1) ∙ h) o.3)
    (cases_name e.0 n)
  where
    found : is_none (Some e.1) ≡ true → ⊥
    found h = cc h

free-eval : (vars known env : Environment) (c : Expression) (k : ℕ) → is_free vars c ≡ true → IsOver vars known env
    → eval c [] (under env nought) k ≡ eval c [] (under known nought) k
free-eval vars known env (tree.Number v) k h o = refl
free-eval vars known env (tree.Name n) k h o = other-name vars known env n h o
free-eval vars known env (tree.Peek t) k h o = refl
free-eval vars known env tree.Pop k h o = refl
free-eval vars known env (tree.Neg t) k h o = rw (free-eval vars known env t k h o) refl
free-eval vars known env (tree.Not t) k h o = rw (free-eval vars known env t k h o) refl
free-eval vars known env (tree.Bin f a b) k h o =
    let p = and_parts (is_free vars a) (is_free vars b) h in
    rw (free-eval vars known env a k p.0 o, free-eval vars known env b (k + pops a) p.1 o) refl

-- a constant in which none of the variables stands has the value that it has without them
pub free-fixed : (vars known : Environment) (c : Expression) (z : ℤ) → is_free vars c ≡ true → z ≡ value known c
    → (env : Environment) → IsOver vars known env → z ≡ value env c
free-fixed vars known c z h is env o = is ∙ sym (free-eval vars known env c 0 h o)

-- nothing was noted of steps
pub noted-none : (env : Environment) (ss : Steps) → AreNoted env ss []
noted-none env End = tt
noted-none env (Then s ss) = tt

-- what is known of each step was noted
pub noted-all : (env : Environment) (ss : Steps) (bs : List Bounds) → AreValued env ss bs → AreNoted env ss bs
noted-all env End bs h = tt
noted-all env (Then s ss) [] h = absurd h
noted-all env (Then s ss) (b ∷ bs) h = (h.0, noted-all env ss bs h.1)

drop_steps : (i : ℕ) (all : List written.Step) → drop i (map step_of all) ≡ map step_of (drop i all)
drop_steps zero all = refl
drop_steps (suc i) [] = refl
drop_steps (suc i) (s ∷ all) = drop_steps i all

found-at : (env : Environment) (ss : List Step) (bs : List Bounds) (i : ℕ) (s : Step) (rest : List Step) → AreNoted env (steps_in_turn ss) bs
    → drop i ss ≡ s ∷ rest → IsNoted env s (slice_get bs i)
found-at env ss [] i s rest h e = tt
found-at env [] (b ∷ bs) i s rest h e = absurd (cc (sym (drop_none i) ∙ e)) where
  drop_none : (k : ℕ) → drop {A = Step} k [] ≡ []
  drop_none zero = refl
  drop_none (suc k) = refl
found-at env (x ∷ ss) (b ∷ bs) zero s rest h e = subst (λ y. IsValued env y b) (first e) h.0 where
  head : List Step → Step
  head [] = x
  head (y ∷ ys) = y

  first : x ∷ ss ≡ s ∷ rest → x ≡ s
  first p = ap head p
found-at env (x ∷ ss) (b ∷ bs) (suc i) s rest h e = found-at env ss bs i s rest h.1 e

-- what was noted of a step stands at its place
pub noted-at : (env : Environment) (all : List written.Step) (bs : List Bounds) (i : ℕ) (s : Step) (rest : List Step)
    → AreNoted env (steps_in_turn (map step_of all)) bs → map step_of (drop i all) ≡ s ∷ rest → IsNoted env s (slice_get bs i)
noted-at env all bs i s rest h e = found-at env (map step_of all) bs i s rest h (drop_steps i all ∙ e)

-- what was noted of a loop is so of its lower bound
pub loop-low : (env : Environment) (n : Name) (low high : Expression) (upto : Bool) (ss : Steps) (o : Option Bounds) → IsNoted env (Loop n low upto high ss) o
    → IsFixed (low_noted o) (value env low)
loop-low env n low high upto ss None h = tt
loop-low env n low high upto ss (Some b) h = h.0

-- and of its upper bound
pub loop-high : (env : Environment) (n : Name) (low high : Expression) (upto : Bool) (ss : Steps) (o : Option Bounds) → IsNoted env (Loop n low upto high ss) o
    → IsFixed (high_noted o) (value env high)
loop-high env n low high upto ss None h = tt
loop-high env n low high upto ss (Some b) h = h.1

-- and of its steps, whatever its variable is
pub loop-inner : (env : Environment) (n : Name) (low high : Expression) (upto : Bool) (ss : Steps) (o : Option Bounds) → IsNoted env (Loop n low upto high ss) o
    → (v : ℕ) → AreNoted ((n, pos v) ∷ env) ss (inner_noted o)
loop-inner env n low high upto ss None h v = noted-none ((n, pos v) ∷ env) ss
loop-inner env n low high upto ss (Some b) h v = noted-all ((n, pos v) ∷ env) ss (inner_noted (Some b)) (h.2 v)

-- what is noted of one step more stands behind what is noted of those before it
pub valued-more : (env : Environment) (ss : List Step) (bs : List Bounds) (s : Step) (b : Bounds) → AreValued env (steps_in_turn ss) bs → IsValued env s b
    → AreValued env (steps_in_turn (ss ++ s ∷ [])) (bs ++ b ∷ [])
valued-more env [] [] s b h g = (g, tt)
valued-more env [] (c ∷ bs) s b h g = absurd h
valued-more env (x ∷ ss) [] s b h g = absurd h
valued-more env (x ∷ ss) (c ∷ bs) s b h g = (h.0, valued-more env ss bs s b h.1 g)

at-place : (env : Environment) (s : Step) (ss : Steps) (bs : List Bounds) (i : ℕ) → AreValued env (Then s ss) (drop i bs)
    → (i < length bs) × ((b : Bounds) → b ≡ get_or bs i b → IsValued env s b) × AreValued env ss (drop (suc i) bs)
at-place env s ss [] zero h = absurd h
at-place env s ss [] (suc i) h = absurd h
at-place env s ss (b ∷ bs) zero h = (omega arith, λ c is. subst (IsValued env s) (sym is) h.0, h.1)
at-place env s ss (b ∷ bs) (suc i) h = let r = at-place env s ss bs i h in (omega (arith, r.0), r.1, r.2)

-- the step at a place has what is noted at that place, and those behind it have the rest
pub valued-at : (env : Environment) (s : Step) (ss : Steps) (bs : List Bounds) (i : ℕ) → AreValued env (Then s ss) (drop i bs)
    → (i < length bs) × ((b : Bounds) → b ≡ get_or bs i b → IsValued env s b) × AreValued env ss (drop (i + 1) bs)
valued-at env s ss bs i h =
    let r = at-place env s ss bs i h in
    let on : suc i ≡ i + 1 = omega arith in
    (r.0, r.1, subst (λ n. AreValued env ss (drop n bs)) on r.2)

pub ruleset trees = (expression-name, expression-peek, expression-bin)
