-- Values of arguments are values of 64 bits.
use Rattle.std.proofs.Common.{◌≡◌, ℕ, suc, ℤ, pos, negsuc, Bool, true, false, Option, Some, None, ◌-ℤ◌, ◌≤◌, List, [], ◌∷◌, map, refl, sym, ap, ◌∙◌, subst, arith}
use Rattle.std.proofs.Common.{⊎_elim, w64, int_rem, nat_eq}
use Rattle.std.specs.Prelude.{if◌then◌else◌}
use Rattle.std.specs.Ordering.{int_eq}
use Rattle.std.proofs.lemmas.Int.{SFits-int_wrap, int_wrap_fits}
use Rattle.std.proofs.lemmas.Bool.{eqb-true}
use Rattle.std.proofs.lemmas.Option.{same_Some}
use Rattle.brooklet_model.proofs.Lists.{at_here, at_other}
use Rattle.river_base.specs.Name.{name_eq}
use Rattle.river_base.specs.Number.{IsValue, wrap, rem}
use Rattle.work_code.specs.declared.expr.BinOp.{BinOp}
use Rattle.work_code.specs.declared.expr.BinOp.TheVariants as op
use Rattle.work_code.specs.Value.{applied, truth}
use Rattle.streamit_text.specs.Tree.{Expression}
use Rattle.streamit_text.specs.Tree as tree
use Rattle.river_plan.specs.Forms.{Name}
use Rattle.river_plan.proofs.NameLemmas.{cases_name}
use Rattle.streamit_model.specs.Meaning.{Store, eval, nought, look}
use Rattle.params_model.specs.Environment.{Environment, bound, under, value}
use Rattle.params_model.specs.Laws.{HasValues, AreFit}
use Rattle.params_model.specs.Plain.{literal, literal_or}

-- a number that is small enough is a value
pub small : (n : ℕ) → n ≤ 9223372036854775807 → IsValue (pos n)
small n h = grind (arith, h)

-- what a comparison gives is a value
pub truth_fits : (b : Bool) → IsValue (truth b)
truth_fits true = small 1 (omega arith)
truth_fits false = small 0 (omega arith)

-- so is one of two values
pub if_fits : (b : Bool) (x y : ℤ) → IsValue x → IsValue y → IsValue (if b then x else y)
if_fits true x y h g = h
if_fits false x y h g = g

int_rem_fits : (a b : ℤ) → IsValue a → IsValue (int_rem a b)
int_rem_fits (pos n) (pos d) h = grind (arith, h)
int_rem_fits (pos n) (negsuc d) h = grind (arith, h)
int_rem_fits (negsuc n) (pos d) h = grind (arith, h)
int_rem_fits (negsuc n) (negsuc d) h = grind (arith, h)

-- so is a remainder
pub rem_fits : (a b : ℤ) → IsValue a → IsValue (rem a b)
rem_fits a b h = if_fits (int_eq b (pos 0)) (pos 0) (int_rem a b) (small 0 (omega arith)) (int_rem_fits a b h)

-- so is what an operator gives for values
pub applied_fits : (o : BinOp) (a b : ℤ) → IsValue a → IsValue b → IsValue (applied o a b)
applied_fits op.Add a b h g = SFits-int_wrap w64 _
applied_fits op.Sub a b h g = SFits-int_wrap w64 _
applied_fits op.Mul a b h g = SFits-int_wrap w64 _
applied_fits op.Quot a b h g = if_fits (int_eq b (pos 0)) (pos 0) _ (small 0 (omega arith)) (SFits-int_wrap w64 _)
applied_fits op.Rem a b h g = rem_fits a b h
applied_fits op.Eq a b h g = truth_fits _
applied_fits op.Ne a b h g = truth_fits _
applied_fits op.Lt a b h g = truth_fits _
applied_fits op.Le a b h g = truth_fits _
applied_fits op.Gt a b h g = truth_fits _
applied_fits op.Ge a b h g = truth_fits _
applied_fits op.And a b h g = truth_fits _
applied_fits op.Or a b h g = truth_fits _

-- an environment of values
abbrev pub Fits : Environment → Type 0
Fits [] = Unit {0}
Fits (e ∷ env) = IsValue e.1 × Fits env

-- each number is a value
abbrev pub AllFit : List ℤ → Type 0
AllFit [] = Unit {0}
AllFit (z ∷ zs) = IsValue z × AllFit zs

-- names bound to values are an environment of values
pub bound_fits : (ps : List Name) (zs : List ℤ) → AllFit zs → Fits (bound ps zs)
bound_fits [] zs h = tt
bound_fits (p ∷ ps) [] h = tt
bound_fits (p ∷ ps) (z ∷ zs) h = (h.0, bound_fits ps zs h.1)

under_fits : (env : Environment) (n : Name) → Fits env → IsValue (under env nought n)
under_fits [] n h = small 0 (omega arith)
under_fits (e ∷ env) n h = if_fits (name_eq e.0 n) e.1 (under env nought n) h.0 (under_fits env n h.1)

said_fits : (env : Environment) (c : Expression) (k : ℕ) → Fits env → HasValues c → IsValue (eval c [] (under env nought) k)
said_fits env (tree.Number v) k h f = small v f
said_fits env (tree.Name n) k h f = under_fits env n h
said_fits env (tree.Peek t) k h f = small 0 (omega arith)
said_fits env tree.Pop k h f = small 0 (omega arith)
said_fits env (tree.Neg t) k h f = SFits-int_wrap w64 _
said_fits env (tree.Not t) k h f = truth_fits _
said_fits env (tree.Bin o a b) k h f = applied_fits o _ _ (said_fits env a k h f.0) (said_fits env b _ h f.1)

-- the values of arguments under an environment of values are values
pub values_fit : (env : Environment) (cs : List Expression) → Fits env → AreFit cs → AllFit (map (value env) cs)
values_fit env [] h f = tt
values_fit env (c ∷ cs) h f = (said_fits env c 0 h f.0, values_fit env cs h f.1)

-- WHAT AN ENVIRONMENT GIVES

-- a name has the value that is found for it
pub given : (env : Environment) (vs : Store) (n : Name) (z : ℤ) → look env n ≡ Some z → under env vs n ≡ z
given [] vs n z h = absurd (cc h)
given (e ∷ env) vs n z h = ⊎_elim
    (λ s. at_here e.0 n e.1 (under env vs) s.1 ∙ same_Some e.1 z (sym (ap (λ b. if b then Some e.1 else look env n) s.1) ∙ h))
    (λ d. at_other e.0 n e.1 (under env vs) d.1 ∙ given env vs n z (sym (ap (λ b. if b then Some e.1 else look env n) d.1) ∙ h))
    (cases_name e.0 n)

-- a name that the environment does not have is as it was
pub not_given : (env : Environment) (vs : Store) (n : Name) → look env n ≡ None → under env vs n ≡ vs n
not_given [] vs n h = refl
not_given (e ∷ env) vs n h = ⊎_elim
    (λ s. absurd (some_none (sym (ap (λ b. if b then Some e.1 else look env n) s.1) ∙ h)))
    (λ d. at_other e.0 n e.1 (under env vs) d.1 ∙ not_given env vs n (sym (ap (λ b. if b then Some e.1 else look env n) d.1) ∙ h))
    (cases_name e.0 n)
  where
    some_none : Some e.1 ≡ None → ⊥
    some_none h = cc h

-- what an environment of values has for a name is a value
pub look_fits : (env : Environment) (n : Name) (z : ℤ) → Fits env → look env n ≡ Some z → IsValue z
look_fits env n z h e = subst IsValue (given env nought n z e) (under_fits env n h)

-- A LITERAL SAYS ITS VALUE

least : eval (tree.Bin op.Sub (tree.Neg (tree.Number 9223372036854775807)) (tree.Number 1)) [] nought 0 ≡ negsuc 9223372036854775807
least =
    let one : wrap (negsuc 9223372036854775806) ≡ negsuc 9223372036854775806 = int_wrap_fits w64 (negsuc 9223372036854775806) (grind arith) in
    let all : wrap (negsuc 9223372036854775807) ≡ negsuc 9223372036854775807 = int_wrap_fits w64 (negsuc 9223372036854775807) (grind arith) in
    ap (λ a. wrap (a -ℤ pos 1)) one ∙ all

said_literal : (z : ℤ) (xs : List ℤ) (vs : Store) (k : ℕ) → IsValue z → eval (literal z) xs vs k ≡ z
said_literal (pos n) xs vs k h = refl
said_literal (negsuc n) xs vs k h = negative (nat_eq n 9223372036854775807) refl
  where
    negative : (b : Bool) → nat_eq n 9223372036854775807 ≡ b → eval (literal (negsuc n)) xs vs k ≡ negsuc n
    negative true e =
        let is : n ≡ 9223372036854775807 = eqb-true n 9223372036854775807 e in
        ap (λ (b : Bool). eval
        (if b then tree.Bin op.Sub (tree.Neg (tree.Number 9223372036854775807)) (tree.Number 1) else tree.Neg (tree.Number (suc n))) xs vs k) e
        ∙ least ∙ ap negsuc (sym is)
    negative false e =
        ap (λ (b : Bool). eval
        (if b then tree.Bin op.Sub (tree.Neg (tree.Number 9223372036854775807)) (tree.Number 1) else tree.Neg (tree.Number (suc n))) xs vs k) e
        ∙ int_wrap_fits w64 (negsuc n) h

-- the literal of a name's value, or the name, says what the name does under the environment
pub said_literal_or : (env : Environment) (n : Name) (xs : List ℤ) (vs : Store) (k : ℕ) → Fits env
    → eval (literal_or n (look env n)) xs vs k ≡ under env vs n
said_literal_or env n xs vs k h = go (look env n) refl
  where
    go : (o : Option ℤ) → look env n ≡ o → eval (literal_or n o) xs vs k ≡ under env vs n
    go None e = sym (not_given env vs n e)
    go (Some z) e = said_literal z xs vs k (look_fits env n z h e) ∙ sym (given env vs n z e)
