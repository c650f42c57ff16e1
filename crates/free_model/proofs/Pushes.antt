-- How many rows a body gives, and how many of them come to the queues that operators read.
use Rattle.std.proofs.Common.{◌≡◌, ℕ, ℤ, zero, suc, ◌+◌, ◌*◌, ◌<◌, ◌≤◌, Bool, true, false, Some, List, [], ◌∷◌, ◌++◌, length, map, refl, sym, ap, ◌∙◌, subst, arith}
use Rattle.std.proofs.Common.{⊎_elim, nat_eq}
use Rattle.std.specs.Prelude.{if◌then◌else◌, nat_le, slice_get, All, flat_map}
use Rattle.std.proofs.lemmas.List.{length-append}
use Rattle.std.proofs.lemmas.List.Elements.{All-tail}
use Rattle.std.proofs.Math.Nat.{mul-le-mul_right}
use Rattle.river_base.specs.declared.item.Item as item
use Rattle.river_base.specs.declared.item.Item.TheVariants.{Flat}
use Rattle.river_base.specs.declared.item.Flat.TheVariants.{One}
use Rattle.river_base.specs.Name.{name_eq}
use Rattle.river_base.proofs.Lists.{got_all, got_first, got_map}
use Rattle.river_plan.specs.Forms.{Name}
use Rattle.river_plan.specs.Names.{count, one_if}
use Rattle.river_plan.specs.Uses.{total, reads_it}
use Rattle.river_plan.proofs.NameLemmas.{cases_name, name_sym}
use Rattle.river_kernels.specs.Limits.{size_once, size}
use Rattle.work_code.specs.Steps.{BodyForm, Step, Steps, Set, Push, If, Done, Then}
use Rattle.work_code.specs.Ran.{Ran, ran_once, ran}
use Rattle.work_code.specs.Value.{val, is_true}
use Rattle.kern_rows.specs.Runs.{pushed_to}
use Rattle.brooklet_model.specs.Histories.{joined}
use Rattle.free_model.specs.Forms.{FreeOpForm, FreeForm, wired_op}
use Rattle.free_model.specs.Valid.{IsFree, sizes}
use Rattle.free_model.specs.declared.fault.FreeLimit.TheVariants.{Statements}

-- WHAT A BODY GIVES

either_few : (b : Bool) (r s : Ran) (m n : ℕ) → length r.pushes ≤ m → length s.pushes ≤ n → length (if b then r else s).pushes ≤ m + n
either_few true r s m n h g = omega (arith, h)
either_few false r s m n h g = omega (arith, g)

mutual
  once_few : (s : Step) (input slots : List ℤ) → length (ran_once s input slots).pushes ≤ size_once s
  once_few (Set slot t) input slots = omega arith
  once_few (Push port ts) input slots = omega arith
  once_few (If cond when otherwise) input slots =
      let a = either_few (is_true (val cond input slots)) (ran when input slots) (ran otherwise input slots) (size when) (size otherwise)
      (ran_few when input slots) (ran_few otherwise input slots) in
      omega (arith, a)

  -- a body gives at most as many rows as it has statements
  pub ran_few : (ss : Steps) (input slots : List ℤ) → length (ran ss input slots).pushes ≤ size ss
  ran_few Done input slots = omega arith
  ran_few (Then s ss) input slots =
      let first = ran_once s input slots in
      let a = once_few s input slots in
      let b = ran_few ss input first.slots in
      let l = length-append first.pushes (ran ss input first.slots).pushes in
      omega (arith, a, b, l)

all_behind : (P : ℕ → Type 0) (xs ys : List ℕ) → All P (xs ++ ys) → All P ys
all_behind P [] ys h = h
all_behind P (x ∷ xs) ys h = all_behind P xs ys (All-tail P x (xs ++ ys) h)

sizes_at : (ops : List FreeOpForm) (o port : ℕ) (op : FreeOpForm) (body : BodyForm) → All (λ n. n ≤ 16384) (flat_map sizes ops)
    → slice_get ops o ≡ Some op → slice_get op.cases port ≡ Some body → size body.steps ≤ 16384
sizes_at [] o port op body h g b = absurd (cc g)
sizes_at (a ∷ ops) zero port op body h g b =
    let e : a ≡ op = cc g in
    let there : slice_get (sizes a) port ≡ Some (size body.steps) =
    got_map (λ (c : BodyForm). size c.steps) a.cases port body (subst (λ (f : FreeOpForm). slice_get f.cases port ≡ Some body) (sym e) b) in
    got_all (λ n. n ≤ 16384) (sizes a ++ flat_map sizes ops) port (size body.steps) h (got_first (sizes a) (flat_map sizes ops) port (size body.steps) there)
sizes_at (a ∷ ops) (suc o) port op body h g b = sizes_at ops o port op body (all_behind (λ n. n ≤ 16384) (sizes a) (flat_map sizes ops) h) g b

-- no body of a valid program has more than 16384 statements
pub body_small : (p : FreeForm) (o port : ℕ) (op : FreeOpForm) (body : BodyForm) → IsFree p → slice_get p.ops o ≡ Some op → slice_get op.cases port ≡ Some body
    → size body.steps ≤ 16384
body_small p o port op body v g b = sizes_at p.ops o port op body (v.within Statements) g b

-- WHERE IT COMES

-- the sum over these names
abbrev pub sum_names : (Name → ℕ) → List Name → ℕ
sum_names g [] = 0
sum_names g (q ∷ qs) = g q + sum_names g qs

-- the sum over all that operators read
abbrev pub sum_reads : (Name → ℕ) → List FreeOpForm → ℕ
sum_reads g [] = 0
sum_reads g (op ∷ ops) = sum_names g op.reads + sum_reads g ops

-- the sum over the ports
abbrev sum_ports : List Name → (ℕ → List item.Item) → ℕ
sum_ports [] f = 0
sum_ports (w ∷ ws) f = length (f 0) + sum_ports ws (λ j. f (suc j))

names_more : (g h : Name → ℕ) (w : Name) (c : ℕ) (qs : List Name) → ((n : Name) → g n ≤ one_if (name_eq n w) * c + h n)
    → sum_names g qs ≤ count w qs * c + sum_names h qs
names_more g h w c [] k = omega arith
names_more g h w c (q ∷ qs) k =
    let a = k q in
    let i = names_more g h w c qs k in
    let d : (one_if (name_eq q w) + count w qs) * c ≡ one_if (name_eq q w) * c + count w qs * c = omega arith in
    omega (arith, a, i, d)

reads_more : (g h : Name → ℕ) (w : Name) (c : ℕ) (ops : List FreeOpForm) → ((n : Name) → g n ≤ one_if (name_eq n w) * c + h n)
    → sum_reads g ops ≤ total (reads_it w) (map wired_op ops) * c + sum_reads h ops
reads_more g h w c [] k = omega arith
reads_more g h w c (op ∷ ops) k =
    let a = names_more g h w c op.reads k in
    let i = reads_more g h w c ops k in
    let d : (count w op.reads + total (reads_it w) (map wired_op ops)) * c ≡ count w op.reads * c + total (reads_it w) (map wired_op ops) * c = omega arith in
    omega (arith, a, i, d)

names_none : (qs : List Name) → sum_names (λ n. 0) qs ≡ 0
names_none [] = refl
names_none (q ∷ qs) = let i = names_none qs in omega (arith, i)

reads_none : (ops : List FreeOpForm) → sum_reads (λ n. 0) ops ≡ 0
reads_none [] = refl
reads_none (op ∷ ops) = let a = names_none op.reads in let i = reads_none ops in omega (arith, a, i)

one_port : (w n : Name) (xs ys : List item.Item) → length ((if name_eq w n then xs else []) ++ ys) ≤ one_if (name_eq n w) * length xs + length ys
one_port w n xs ys = subst (λ b. length ((if name_eq w n then xs else []) ++ ys) ≤ one_if b * length xs + length ys) (name_sym w n) (by (name_eq w n))
  where
    by : (b : Bool) → length ((if b then xs else []) ++ ys) ≤ one_if b * length xs + length ys
    by true = let l = length-append xs ys in omega (arith, l)
    by false = omega arith

-- what comes to queues, each of which is read once at most, is at most what goes to the ports
reads_ports : (ws : List Name) (f : ℕ → List item.Item) (ops : List FreeOpForm) → ((n : Name) → total (reads_it n) (map wired_op ops) ≤ 1)
    → sum_reads (λ n. length (joined ws f n)) ops ≤ sum_ports ws f
reads_ports [] f ops h = let z = reads_none ops in omega (arith, z)
reads_ports (w ∷ ws) f ops h =
    let i = reads_ports ws (λ j. f (suc j)) ops h in
    let a = reads_more (λ n. length (joined (w ∷ ws) f n)) (λ n. length (joined ws (λ j. f (suc j)) n)) w (length (f 0)) ops
    (λ n. one_port w n (f 0) (joined ws (λ j. f (suc j)) n)) in
    let c = mul-le-mul_right (length (f 0)) (h w) in
    omega (arith, i, a, c)

-- the rows that go to this port or a later one
abbrev from_port : ℕ → List (ℕ × List ℤ) → ℕ
from_port k [] = 0
from_port k (e ∷ es) = one_if (nat_le k e.0) + from_port k es

one_row : (a k : ℕ) → one_if (nat_eq a k) + one_if (nat_le (suc k) a) ≤ one_if (nat_le k a)
one_row a k = by (nat_eq a k) (nat_le (suc k) a) (nat_le k a) refl refl refl
  where
    by : (b c d : Bool) → nat_eq a k ≡ b → nat_le (suc k) a ≡ c → nat_le k a ≡ d → one_if b + one_if c ≤ one_if d
    by true true d x y z = absurd (grind (arith, x, y))
    by true false true x y z = omega arith
    by true false false x y z = absurd (grind (arith, x, z))
    by false true true x y z = omega arith
    by false true false x y z = absurd (grind (arith, y, z))
    by false false d x y z = omega arith

from_next : (k : ℕ) (es : List (ℕ × List ℤ)) → length (pushed_to k es) + from_port (suc k) es ≤ from_port k es
from_next k [] = omega arith
from_next k (e ∷ es) =
    let i = from_next k es in
    let a = one_row e.0 k in
    let l = by (nat_eq e.0 k) in
    omega (arith, i, a, l)
  where
    by : (b : Bool) → length (if b then Flat (One e.1) ∷ pushed_to k es else pushed_to k es) ≡ one_if b + length (pushed_to k es)
    by true = omega arith
    by false = omega arith

ports_few : (k : ℕ) (ws : List Name) (f : ℕ → List item.Item) (es : List (ℕ × List ℤ)) → ((j : ℕ) → f j ≡ pushed_to (k + j) es) → sum_ports ws f ≤ from_port k es
ports_few k [] f es h = omega arith
ports_few k (w ∷ ws) f es h =
    let i = ports_few (suc k) ws (λ j. f (suc j)) es (λ j. h (suc j) ∙ ap (λ n. pushed_to n es) (omega arith)) in
    let a = from_next k es in
    let z : k + 0 ≡ k = omega arith in
    let l = ap length (h 0 ∙ ap (λ n. pushed_to n es) z) in
    omega (arith, i, a, l)

from_few : (k : ℕ) (es : List (ℕ × List ℤ)) → from_port k es ≤ length es
from_few k [] = omega arith
from_few k (e ∷ es) = let i = from_few k es in let a = one (nat_le k e.0) in omega (arith, i, a)
  where
    one : (b : Bool) → one_if b ≤ 1
    one true = omega arith
    one false = omega arith

-- what comes to all that operators read is at most what was pushed
pub reads_few : (ws : List Name) (es : List (ℕ × List ℤ)) (ops : List FreeOpForm) → ((n : Name) → total (reads_it n) (map wired_op ops) ≤ 1)
    → sum_reads (λ n. length (joined ws (λ port. pushed_to port es) n)) ops ≤ length es
reads_few ws es ops h =
    let a = reads_ports ws (λ port. pushed_to port es) ops h in
    let b = ports_few 0 ws (λ port. pushed_to port es) es (λ j. ap (λ n. pushed_to n es) (omega arith)) in
    let c = from_few 0 es in
    omega (arith, a, b, c)
