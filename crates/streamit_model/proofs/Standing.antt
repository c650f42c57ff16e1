-- Where the reading of a filter stands, against the words before: names, slots, pops, pushes and statements.
use Rattle.std.proofs.Common.{◌≡◌, ℕ, suc, ℤ, pos, ◌+◌, List, [], ◌∷◌, ◌++◌, Option, Some, None, refl, sym, ap, ◌∙◌, subst, arith, ⊎_elim, map}
use Rattle.brooklet_model.proofs.Lists.{at_here, at_other}
use Rattle.river_plan.specs.Forms.{Name}
use Rattle.river_plan.specs.Names.{one_if}
use Rattle.river_plan.proofs.NameLemmas.{cases_name}
use Rattle.brooklet_model.specs.Machine.{at_name}
use Rattle.streamit_model.specs.Meaning.{Store}
use Rattle.streamit_model.specs.Elaborate.{KnownName, Var, Turn, Scope, find, At}
use Rattle.streamit_model.specs.Words.{ReadWord, Knows, Leaves, Enters, over, knows, leaves, enters, exits, takes, begins_one, pops_one, pushes_one, pops_beside}
use Rattle.streamit_model.specs.Words.{pushes_beside, IsKnown, popped_in, pushed_in}
use Rattle.streamit_model.proofs.Elaborated.{found_here, found_other}

-- a sum over words one behind the other
pub over-append : (f : ReadWord → ℕ) (xs ys : List ReadWord) → over f (xs ++ ys) ≡ over f xs + over f ys
over-append f [] ys = omega arith
over-append f (x ∷ xs) ys = let e = over-append f xs ys in omega (arith, e)

-- what a name stands for, by how often it was declared, its blocks ended, and turns of its loop began and ended; and its value in a turn
abbrev pub NameIs : Option KnownName → ℕ → ℕ → ℕ → ℕ → ℤ → Type 0
NameIs None k l e x z = (k ≡ l) × (e ≡ x)
NameIs (Some (Var i)) k l e x z = (k ≡ suc l) × (e ≡ x)
NameIs (Some (Turn v)) k l e x z = (k ≡ l) × (e ≡ suc x) × (z ≡ pos v)

abbrev pub NameStands : List ReadWord → Scope → Store → Name → Type 0
NameStands before sc turns n = NameIs (find sc n) (over (knows n) before) (over (leaves n) before) (over (enters n) before) (over (exits n) before) (turns n)

-- the words before take so many slots, have so many statements and turns, and so many pops and pushes run before
pub record Counted (before : List ReadWord) (slots size popped pushed : ℕ) : Type 0 where
  pub slots_are : over takes before ≡ slots
  pub size_is : over begins_one before ≡ size
  pub pops_are : popped + over pops_beside before ≡ over pops_one before
  pub pushes_are : pushed + over pushes_beside before ≡ over pushes_one before

-- what was read so far leaves this state
pub record Stands (before : List ReadWord) (s : At) (turns : Store) : Type 0 where
  pub counts : Counted before s.slots s.size s.popped s.pushed
  pub names : (n : Name) → NameStands before s.scope turns n

-- the pops of the words are those that were counted
pub stands_popped : (before : List ReadWord) (s : At) (turns : Store) → Stands before s turns → popped_in before ≡ s.popped
stands_popped before s turns h = let e = h.counts.pops_are in omega (arith, e)

pub stands_pushed : (before : List ReadWord) (s : At) (turns : Store) → Stands before s turns → pushed_in before ≡ s.pushed
stands_pushed before s turns h = let e = h.counts.pushes_are in omega (arith, e)

-- NAMES

pub name_moves : (o : Option KnownName) (k l e x k' l' e' x' : ℕ) (z : ℤ) → k' + l ≡ k + l' → e' + x ≡ e + x' → NameIs o k l e x z → NameIs o k' l' e' x' z
name_moves None k l e x k' l' e' x' z p q h = let a = h.0 in let b = h.1 in (omega (arith, p, a), omega (arith, q, b))
name_moves (Some (Var i)) k l e x k' l' e' x' z p q h = let a = h.0 in let b = h.1 in (omega (arith, p, a), omega (arith, q, b))
name_moves (Some (Turn v)) k l e x k' l' e' x' z p q h = let a = h.0 in let b = h.1 in (omega (arith, p, a), omega (arith, q, b), h.2)

-- as many declarations as ends, and as many turns that begin as turns that end
abbrev pub IsEven : List ReadWord → Type 0
IsEven ws = (n : Name) → (over (knows n) ws ≡ over (leaves n) ws) × (over (enters n) ws ≡ over (exits n) ws)

-- words behind which as much is known as before, one behind the other
pub even-append : (xs ys : List ReadWord) → IsEven xs → IsEven ys → IsEven (xs ++ ys)
even-append xs ys a b n =
    let p = (a n).0 in let q = (b n).0 in let r = (a n).1 in let s = (b n).1 in
    let k = over-append (knows n) xs ys in let l = over-append (leaves n) xs ys in
    let e = over-append (enters n) xs ys in let x = over-append (exits n) xs ys in
    (omega (arith, p, q, k, l), omega (arith, r, s, e, x))

-- names stand as they did behind such words
pub names_on : (before ws : List ReadWord) (sc : Scope) (turns : Store) → IsEven ws → ((n : Name) → NameStands before sc turns n)
    → (n : Name) → NameStands (before ++ ws) sc turns n
names_on before ws sc turns even h n =
    let p = (even n).0 in let q = (even n).1 in
    let k = over-append (knows n) before ws in let l = over-append (leaves n) before ws in
    let e = over-append (enters n) before ws in let x = over-append (exits n) before ws in
    name_moves (find sc n) _ _ _ _ _ _ _ _ (turns n) (omega (arith, p, k, l)) (omega (arith, q, e, x)) (h n)

-- a name that is not known
pub none_known : (before : List ReadWord) (sc : Scope) (turns : Store) (n : Name) → find sc n ≡ None → NameStands before sc turns n → IsKnown before n → ⊥
none_known before sc turns n f h k =
    let d = subst (λ o. NameIs o (over (knows n) before) (over (leaves n) before) (over (enters n) before) (over (exits n) before) (turns n)) f h in
    let a = d.0 in let b = d.1 in ⊎_elim (λ lt. omega (arith, a, lt)) (λ lt. omega (arith, b, lt)) k

-- WORDS BEHIND

-- so many more are counted
pub counted_on : (before ws : List ReadWord) (slots size popped pushed slots' size' popped' pushed' : ℕ) → Counted before slots size popped pushed
    → slots + over takes ws ≡ slots' → size + over begins_one ws ≡ size' → popped' + over pops_beside ws ≡ popped + over pops_one ws
    → pushed' + over pushes_beside ws ≡ pushed + over pushes_one ws → Counted (before ++ ws) slots' size' popped' pushed'
counted_on before ws slots size popped pushed slots' size' popped' pushed' h a b c d =
    let s0 = h.slots_are in let s1 = h.size_is in let s2 = h.pops_are in let s3 = h.pushes_are in
    let t0 = over-append takes before ws in let t1 = over-append begins_one before ws in
    let t2 = over-append pops_one before ws in let t3 = over-append pops_beside before ws in
    let t4 = over-append pushes_one before ws in let t5 = over-append pushes_beside before ws in
    record {
      slots_are = omega (arith, s0, t0, a);
      size_is = omega (arith, s1, t1, b);
      pops_are = omega (arith, s2, t2, t3, c);
      pushes_are = omega (arith, s3, t4, t5, d);
    }

-- the reading goes on by these words, of which none changes what is known
pub moved : (before ws : List ReadWord) (s : At) (turns : Store) (slots popped pushed size : ℕ) → Stands before s turns → IsEven ws
    → s.slots + over takes ws ≡ slots → s.size + over begins_one ws ≡ size → popped + over pops_beside ws ≡ s.popped + over pops_one ws
    → pushed + over pushes_beside ws ≡ s.pushed + over pushes_one ws
    → Stands (before ++ ws) (record s { slots = slots; popped = popped; pushed = pushed; size = size }) turns
moved before ws s turns slots popped pushed size h even a b c d = record {
  counts = counted_on before ws s.slots s.size s.popped s.pushed slots size popped pushed h.counts a b c d;
  names = names_on before ws s.scope turns even h.names;
}

pub even_one : (w : ReadWord) → ((n : Name) → (knows n w ≡ leaves n w) × (enters n w ≡ exits n w)) → IsEven (w ∷ [])
even_one w h n = let a = (h n).0 in let b = (h n).1 in (omega (arith, a), omega (arith, b))

-- a word that counts for nothing
pub unmoved : (before : List ReadWord) (w : ReadWord) (s : At) (turns : Store) → Stands before s turns
    → ((n : Name) → (knows n w ≡ leaves n w) × (enters n w ≡ exits n w))
    → takes w ≡ 0 → begins_one w ≡ 0 → pops_one w ≡ 0 → pops_beside w ≡ 0 → pushes_one w ≡ 0 → pushes_beside w ≡ 0 → Stands (before ++ w ∷ []) s turns
unmoved before w s turns h even a b c d e f =
    moved before (w ∷ []) s turns s.slots s.popped s.pushed s.size h (even_one w even) (omega (arith, a)) (omega (arith, b)) (omega (arith, c, d))
    (omega (arith, e, f))

-- the same place, with the words before it in another grouping
pub regrouped : (xs ys : List ReadWord) (s : At) (turns : Store) → xs ≡ ys → Stands xs s turns → Stands ys s turns
regrouped xs ys s turns e h = subst (λ b. Stands b s turns) e h

-- the pops by another sum
pub repopped : (before : List ReadWord) (s : At) (turns : Store) (a b : ℕ) → a ≡ b → Stands before (record s { popped = a }) turns
    → Stands before (record s { popped = b }) turns
repopped before s turns a b e h = subst (λ k. Stands before (record s { popped = k }) turns) e h

-- NAMES THAT BEGIN

-- a new local is known, in the next slot
pub with_local : (before : List ReadWord) (s : At) (turns : Store) (n : Name) → find s.scope n ≡ None → Stands before s turns
    → Stands (before ++ Knows n ∷ []) (record s { scope = (n, Var s.slots) ∷ s.scope; slots = s.slots + 1 }) turns
with_local before s turns n new h =
    let ws = Knows n ∷ [] in
    record {
      counts = counted_on before ws s.slots s.size s.popped s.pushed (s.slots + 1) s.size s.popped s.pushed h.counts (omega arith) (omega arith) (omega arith)
          (omega arith);
      names = λ m.
          let k = over-append (knows m) before ws in let l = over-append (leaves m) before ws in
          let e = over-append (enters m) before ws in let x = over-append (exits m) before ws in ⊎_elim
          (λ c.
          let o = ap one_if c.1 in
          let was : NameIs None (over (knows m) before) (over (leaves m) before) (over (enters m) before) (over (exits m) before) (turns m) =
          subst (λ f. NameIs f (over (knows m) before) (over (leaves m) before) (over (enters m) before) (over (exits m) before) (turns m))
          (ap (find s.scope) (sym c.0) ∙ new) (h.names m) in
          let p = was.0 in let q = was.1 in
          subst (λ f. NameIs f (over (knows m) (before ++ ws)) (over (leaves m) (before ++ ws)) (over (enters m) (before ++ ws))
          (over (exits m) (before ++ ws)) (turns m)) (sym (found_here n m (Var s.slots) s.scope c.1))
          (omega (arith, o, k, l, p), omega (arith, e, x, q)))
          (λ c.
          let o = ap one_if c.1 in
          subst (λ f. NameIs f (over (knows m) (before ++ ws)) (over (leaves m) (before ++ ws)) (over (enters m) (before ++ ws))
          (over (exits m) (before ++ ws)) (turns m)) (sym (found_other n m (Var s.slots) s.scope c.1))
          (name_moves (find s.scope m) _ _ _ _ _ _ _ _ (turns m) (omega (arith, o, k, l)) (omega (arith, e, x)) (h.names m)))
          (cases_name n m);
    }

-- the variable of a loop has its turn's value
pub with_turn : (before : List ReadWord) (s : At) (turns : Store) (n : Name) (v : ℕ) → find s.scope n ≡ None → Stands before s turns
    → Stands (before ++ Enters n ∷ []) (record s { scope = (n, Turn v) ∷ s.scope }) (at_name n (pos v) turns)
with_turn before s turns n v new h =
    let ws = Enters n ∷ [] in
    record {
      counts = counted_on before ws s.slots s.size s.popped s.pushed s.slots s.size s.popped s.pushed h.counts (omega arith) (omega arith) (omega arith)
          (omega arith);
      names = λ m.
          let k = over-append (knows m) before ws in let l = over-append (leaves m) before ws in
          let e = over-append (enters m) before ws in let x = over-append (exits m) before ws in ⊎_elim
          (λ c.
          let o = ap one_if c.1 in
          let was : NameIs None (over (knows m) before) (over (leaves m) before) (over (enters m) before) (over (exits m) before) (turns m) =
          subst (λ f. NameIs f (over (knows m) before) (over (leaves m) before) (over (enters m) before) (over (exits m) before) (turns m))
          (ap (find s.scope) (sym c.0) ∙ new) (h.names m) in
          let p = was.0 in let q = was.1 in
          subst (λ f. NameIs f (over (knows m) (before ++ ws)) (over (leaves m) (before ++ ws)) (over (enters m) (before ++ ws))
          (over (exits m) (before ++ ws)) (at_name n (pos v) turns m)) (sym (found_here n m (Turn v) s.scope c.1))
          (omega (arith, k, l, p), omega (arith, o, e, x, q), at_here n m (pos v) turns c.1))
          (λ c.
          let o = ap one_if c.1 in
          subst (λ f. NameIs f (over (knows m) (before ++ ws)) (over (leaves m) (before ++ ws)) (over (enters m) (before ++ ws))
          (over (exits m) (before ++ ws)) (at_name n (pos v) turns m)) (sym (found_other n m (Turn v) s.scope c.1))
          (subst (λ z. NameIs (find s.scope m) (over (knows m) (before ++ ws)) (over (leaves m) (before ++ ws)) (over (enters m) (before ++ ws))
          (over (exits m) (before ++ ws)) z) (sym (at_other n m (pos v) turns c.1))
          (name_moves (find s.scope m) _ _ _ _ _ _ _ _ (turns m) (omega (arith, k, l)) (omega (arith, o, e, x)) (h.names m))))
          (cases_name n m);
    }

-- THE END OF A BLOCK

-- the ends of blocks count for nothing
pub leaves_nothing : (f : ReadWord → ℕ) (ns : List Name) → ((n : Name) → f (Leaves n) ≡ 0) → over f (map Leaves ns) ≡ 0
leaves_nothing f [] h = refl
leaves_nothing f (n ∷ ns) h = let a = h n in let b = leaves_nothing f ns h in omega (arith, a, b)

-- behind words that are even, the names are those before them
pub left_behind : (before ws : List ReadWord) (s : At) (turns : Store) (slots size popped pushed : ℕ) → Stands before s turns → IsEven ws
    → Counted (before ++ ws) slots size popped pushed
    → Stands (before ++ ws) (record s { slots = slots; popped = popped; pushed = pushed; size = size }) turns
left_behind before ws s turns slots size popped pushed h even c = record { counts = c; names = names_on before ws s.scope turns even h.names }
