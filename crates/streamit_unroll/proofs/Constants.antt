-- Constant expressions pop nothing.
use Rattle.std.proofs.Common.{◌≡◌, ℕ, ℤ, pos, ◌+◌, Result, Ok, Err, refl, arith, ap}
use Rattle.std.specs.Prelude.{OnOk}
use Rattle.std.specs.Ordering.{int_eq}
use Rattle.river_base.specs.Number.{negate}
use Rattle.work_code.specs.Value.{applied, truth}
use Rattle.streamit_text.specs.Tree.{Expression}
use Rattle.streamit_text.specs.Tree as tree
use Rattle.streamit_model.specs.Meaning.{pops}
use Rattle.streamit_model.specs.Elaborate.{Scope, on_ok, constant}
use Rattle.streamit_model.proofs.Elaborated.{ok_parts}

-- a constant pops nothing
pub constant_pops : (sc : Scope) (t : Expression) (z : ℤ) → constant sc t ≡ Ok z → pops t ≡ 0
constant_pops sc (tree.Number v) z h = refl
constant_pops sc (tree.Name n) z h = refl
constant_pops sc (tree.Peek t) z h = absurd (cc h)
constant_pops sc tree.Pop z h = absurd (cc h)
constant_pops sc (tree.Neg t) z h = let p = ok_parts (constant sc t) (λ a. Ok (negate a)) z h in constant_pops sc t p.0 p.1
constant_pops sc (tree.Not t) z h = let p = ok_parts (constant sc t) (λ a. Ok (truth (int_eq a (pos 0)))) z h in constant_pops sc t p.0 p.1
constant_pops sc (tree.Bin o l r) z h =
    let p = ok_parts (constant sc l) (λ a. on_ok (constant sc r) (λ b. Ok (applied o a b))) z h in
    let q = ok_parts (constant sc r) (λ b. Ok (applied o p.0 b)) z p.2 in
    let a = constant_pops sc l p.0 p.1 in let b = constant_pops sc r q.0 q.1 in omega (arith, a, b)

-- so `peek` pops nothing
pub peek_pops : {X F : Type 0} (r : Result X F) (k : ℕ) (sc : Scope) (whole t : Expression) (z : ℤ) → whole ≡ tree.Peek t → constant sc t ≡ Ok z
    → OnOk r (k ≡ k + pops whole)
peek_pops (Ok x) k sc whole t z e h = let p = constant_pops sc t z h in let q = ap pops e in omega (arith, p, q)
peek_pops (Err f) k sc whole t z e h = tt
