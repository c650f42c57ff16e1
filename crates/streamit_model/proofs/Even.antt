-- Blocks are even: what is known behind one is what was known before it.
use Rattle.std.proofs.Common.{◌≡◌, ℕ, ◌+◌, List, [], ◌∷◌, ◌++◌, map, Option, Some, None, refl, ap, arith}
use Rattle.river_base.specs.Name.{name_eq}
use Rattle.river_plan.specs.Forms.{Name}
use Rattle.river_plan.specs.Names.{one_if, count}
use Rattle.streamit_text.specs.Tree.{Expression, Statement, Declare, Assign, Push, Discard, If, For, Block, End, Then, Optional, Unwritten, Written}
use Rattle.streamit_text.specs.Tree as tree
use Rattle.brooklet_model.specs.Machine.{at_name}
use Rattle.std.specs.Prelude.{pos}
use Rattle.streamit_model.specs.Meaning.{Store, turns_between}
use Rattle.streamit_model.specs.Words.{ReadWord, Knows, Leaves, Uses, Fixes, Varies, Pops, Peeks, Bounds, Loops, Exits, Pushes, Otherwise, Joins, over, knows}
use Rattle.streamit_model.specs.Words.{leaves, enters, exits, popped_in, pushed_in}
use Rattle.streamit_model.specs.Text.{fixed, fixed_value, spelled, spelled_first, locals_of, with_end, turning, arms, read_of, all_read, optional_read}
use Rattle.streamit_model.proofs.Standing.{over-append, IsEven, even-append, leaves_nothing}

pub even_nil : IsEven []
even_nil n = (refl, refl)

-- a word that says nothing of names
pub even_cons : (w : ReadWord) (ws : List ReadWord) → ((n : Name) → (knows n w ≡ leaves n w) × (enters n w ≡ exits n w)) → IsEven ws → IsEven (w ∷ ws)
even_cons w ws h even n = let a = (h n).0 in let b = (h n).1 in let p = (even n).0 in let q = (even n).1 in (omega (arith, a, p), omega (arith, b, q))

pub even_fixed : (t : Expression) → IsEven (fixed t)
even_fixed (tree.Number v) = even_nil
even_fixed (tree.Name m) = even_cons (Fixes m) [] (λ n. (refl, refl)) even_nil
even_fixed (tree.Peek t) = even_cons Varies [] (λ n. (refl, refl)) even_nil
even_fixed tree.Pop = even_cons Varies [] (λ n. (refl, refl)) even_nil
even_fixed (tree.Neg t) = even_fixed t
even_fixed (tree.Not t) = even_fixed t
even_fixed (tree.Bin o l r) = even-append (fixed l) (fixed r) (even_fixed l) (even_fixed r)

pub even_spelled : (t : Expression) (turns : Store) → IsEven (spelled t turns)
even_spelled (tree.Number v) turns = even_nil
even_spelled (tree.Name m) turns = even_cons (Uses m) [] (λ n. (refl, refl)) even_nil
even_spelled (tree.Peek t) turns =
    even-append (fixed t) (Peeks (fixed_value t turns) ∷ []) (even_fixed t) (even_cons (Peeks (fixed_value t turns)) [] (λ n. (refl, refl)) even_nil)
even_spelled tree.Pop turns = even_cons Pops [] (λ n. (refl, refl)) even_nil
even_spelled (tree.Neg t) turns = even_spelled t turns
even_spelled (tree.Not t) turns = even_spelled t turns
even_spelled (tree.Bin o l r) turns = even-append (spelled l turns) (spelled r turns) (even_spelled l turns) (even_spelled r turns)

even_first : (t : Option Expression) (turns : Store) → IsEven (spelled_first t turns)
even_first None turns = even_nil
even_first (Some t) turns = even_spelled t turns

knows_leaves : (n : Name) (ns : List Name) → over (leaves n) (map Leaves ns) ≡ count n ns
knows_leaves n [] = refl
knows_leaves n (m ∷ ms) = ap (λ k. one_if (name_eq m n) + k) (knows_leaves n ms)

-- the locals of a block are known at its end
abbrev pub IsBlockEven : List ReadWord → Block → Type 0
IsBlockEven ws b = (n : Name) → (over (knows n) ws ≡ over (leaves n) ws + count n (locals_of b)) × (over (enters n) ws ≡ over (exits n) ws)

-- with its end
pub even_enclosed : (b : Block) (ws : List ReadWord) → IsBlockEven ws b → IsEven (with_end b ws)
even_enclosed b ws h n =
    let ns = locals_of b in
    let p = (h n).0 in let q = (h n).1 in
    let k = over-append (knows n) ws (map Leaves ns) in let l = over-append (leaves n) ws (map Leaves ns) in
    let e = over-append (enters n) ws (map Leaves ns) in let x = over-append (exits n) ws (map Leaves ns) in
    let k0 = leaves_nothing (knows n) ns (λ m. refl) in let l0 = knows_leaves n ns in
    let e0 = leaves_nothing (enters n) ns (λ m. refl) in let x0 = leaves_nothing (exits n) ns (λ m. refl) in
    (omega (arith, p, k, l, k0, l0), omega (arith, q, e, x, e0, x0))

pub even_turns : (n : Name) (block : Store → List ReadWord) (vs : List ℕ) (turns : Store) → ((inner : Store) → IsEven (block inner))
    → IsEven (turning n block vs turns)
even_turns n block [] turns h m = (refl, refl)
even_turns n block (v ∷ vs) turns h m =
    let b = block (at_name n (pos v) turns) in
    let rest = turning n block vs turns in
    let p = (h (at_name n (pos v) turns) m).0 in let q = (h (at_name n (pos v) turns) m).1 in
    let r = (even_turns n block vs turns h m).0 in let s = (even_turns n block vs turns h m).1 in
    let k = over-append (knows m) b (Exits n ∷ rest) in let l = over-append (leaves m) b (Exits n ∷ rest) in
    let e = over-append (enters m) b (Exits n ∷ rest) in let x = over-append (exits m) b (Exits n ∷ rest) in
    (omega (arith, p, r, k, l), omega (arith, q, s, e, x))

-- the local that a statement declares is one of its block
abbrev pub IsStatementEven : List ReadWord → Statement → Type 0
IsStatementEven ws c =
    (n : Name) (b : Block) → (over (knows n) ws + count n (locals_of b) ≡ over (leaves n) ws + count n (locals_of (Then c b)))
    × (over (enters n) ws ≡ over (exits n) ws)

even_arms : (xs ys : List ReadWord) → IsEven xs → IsEven ys → IsEven (arms xs ys)
even_arms xs ys a b =
    let p = popped_in xs in let q = pushed_in xs in let p' = popped_in ys in let q' = pushed_in ys in
    even-append xs (Otherwise p q ∷ (ys ++ Joins p q p' q' ∷ [])) a
    (even_cons (Otherwise p q) (ys ++ Joins p q p' q' ∷ []) (λ n. (refl, refl))
    (even-append ys (Joins p q p' q' ∷ []) b (even_cons (Joins p q p' q') [] (λ n. (refl, refl)) even_nil)))

mutual
  pub even_statement : (c : Statement) (turns : Store) → IsStatementEven (read_of c turns) c
  even_statement (Declare m t) turns n b =
      let sf = spelled_first t turns in
      let p = (even_first t turns n).0 in let q = (even_first t turns n).1 in
      let k = over-append (knows n) sf (Knows m ∷ []) in let l = over-append (leaves n) sf (Knows m ∷ []) in
      let e = over-append (enters n) sf (Knows m ∷ []) in let x = over-append (exits n) sf (Knows m ∷ []) in
      (omega (arith, p, k, l), omega (arith, q, e, x))
  even_statement (Assign m t) turns n b =
      let p = (even_spelled t turns n).0 in let q = (even_spelled t turns n).1 in (omega (arith, p), omega (arith, q))
  even_statement (Push t) turns n b =
      let even = even-append (spelled t turns) (Pushes ∷ []) (even_spelled t turns) (even_cons Pushes [] (λ n. (refl, refl)) even_nil) in
      let p = (even n).0 in let q = (even n).1 in (omega (arith, p), omega (arith, q))
  even_statement Discard turns n b = (omega arith, refl)
  even_statement (If t a o) turns n b =
      let even = even-append (spelled t turns) (arms (with_end a (all_read a turns)) (optional_read o turns)) (even_spelled t turns)
      (even_arms (with_end a (all_read a turns)) (optional_read o turns) (even_enclosed a (all_read a turns) (even_all a turns)) (even_optional o turns)) in
      let p = (even n).0 in let q = (even n).1 in (omega (arith, p), omega (arith, q))
  even_statement (For m low upto high c) turns n b =
      let l = fixed_value low turns in let h = fixed_value high turns in
      let inside = even_turns m (λ inner. with_end c (all_read c inner)) (turns_between l upto h) turns
      (λ inner. even_enclosed c (all_read c inner) (even_all c inner)) in
      let even = even_cons (Loops m) _ (λ n. (refl, refl))
      (even-append (fixed low) (Bounds l ∷ (fixed high ++ Bounds h ∷ turning m (λ inner. with_end c (all_read c inner)) (turns_between l upto h) turns))
      (even_fixed low)
      (even_cons (Bounds l) _ (λ n. (refl, refl))
      (even-append (fixed high) (Bounds h ∷ turning m (λ inner. with_end c (all_read c inner)) (turns_between l upto h) turns) (even_fixed high)
      (even_cons (Bounds h) _ (λ n. (refl, refl)) inside)))) in
      let p = (even n).0 in let q = (even n).1 in (omega (arith, p), omega (arith, q))

  pub even_all : (b : Block) (turns : Store) → IsBlockEven (all_read b turns) b
  even_all End turns n = (refl, refl)
  even_all (Then c b) turns n =
      let s = (even_statement c turns n b).0 in let t = (even_statement c turns n b).1 in
      let p = (even_all b turns n).0 in let q = (even_all b turns n).1 in
      let k = over-append (knows n) (read_of c turns) (all_read b turns) in let l = over-append (leaves n) (read_of c turns) (all_read b turns) in
      let e = over-append (enters n) (read_of c turns) (all_read b turns) in let x = over-append (exits n) (read_of c turns) (all_read b turns) in
      (omega (arith, s, p, k, l), omega (arith, t, q, e, x))

  pub even_optional : (o : Optional) (turns : Store) → IsEven (optional_read o turns)
  even_optional Unwritten turns = even_nil
  even_optional (Written b) turns = even_enclosed b (all_read b turns) (even_all b turns)

-- behind a block as much is known as before it
pub even_block : (b : Block) (turns : Store) → IsEven (with_end b (all_read b turns))
even_block b turns = even_enclosed b (all_read b turns) (even_all b turns)
