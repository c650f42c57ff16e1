-- What a StreamIt program means: what it gives for the items of its input. Read `program_outputs` first, at the end; it rests on
-- `all_work`, what each declared stream does with a whole list, and so on `body_works`: a filter is `pushed_by`, a pipeline `piped`,
-- a split-join `collected` from branches that are `dealt` their shares (brooklet_model, ByIndex). A filter fires in turn,
-- `fires_from`: the first firing runs `prework`, where there is one, and each other `work`. A firing runs its block, `exec_all`, from
-- a state in which the fields have values. Statements are `exec`, and expressions `eval`, as they are written: loops are not
-- unrolled, and nothing here is judged (Judged) or built (Build). The trees are those of streamit_text, Tree and Program.
use Rattle.std.specs.Prelude.{ℕ, zero, suc, ℤ, pos, ◌+◌, ◌-◌, ◌*◌, Bool, List, [], ◌∷◌, ◌++◌, length, map, take, drop, replicate, max, Option, Some, None}
use Rattle.std.specs.Prelude.{if◌then◌else◌, nat_le, slice_index_or}
use Rattle.std.specs.Ordering.{int_eq}
use Rattle.river_base.specs.Name.{name_eq}
use Rattle.river_base.specs.Number.{count_of, negate}
use Rattle.work_code.specs.Value.{applied, truth, is_true}
use Rattle.river_plan.specs.Forms.{Name}
use Rattle.brooklet_model.specs.ByIndex.{dealt, collected}
use Rattle.brooklet_model.specs.Machine.{at_name}
use Rattle.streamit_text.specs.Program.{WorkTree, FilterTree, Dealing, Copies, Turns, Adds, Body, AFilter, APipeline, ASplitJoin, Program}
use Rattle.streamit_text.specs.Tree.{Expression, Statement, Declare, Assign, Push, Discard, If, For, Block, End, Then, Optional, Unwritten, Written}
use Rattle.streamit_text.specs.Tree as tree

-- EXPRESSIONS AND STATEMENTS

-- how many items an expression pops
abbrev pub pops : Expression → ℕ
pops (tree.Number v) = 0
pops (tree.Name n) = 0
pops (tree.Peek t) = pops t
pops tree.Pop = 1
pops (tree.Neg t) = pops t
pops (tree.Not t) = pops t
pops (tree.Bin o a b) = pops a + pops b

-- the values of all names
abbrev pub Store : Type 0
Store = Name → ℤ

-- the value of an expression, for the items that the firing looks at, the values of names, and k pops before it; from left to right
abbrev pub eval : Expression → List ℤ → Store → ℕ → ℤ
eval (tree.Number v) xs env k = pos v
eval (tree.Name n) xs env k = env n
eval (tree.Peek t) xs env k = slice_index_or xs (k + count_of (eval t xs env k)) (pos 0)
eval tree.Pop xs env k = slice_index_or xs k (pos 0)
eval (tree.Neg t) xs env k = negate (eval t xs env k)
eval (tree.Not t) xs env k = truth (int_eq (eval t xs env k) (pos 0))
eval (tree.Bin o a b) xs env k = applied o (eval a xs env k) (eval b xs env (k + pops a))

-- where a firing stands: the values of names, the items that it popped and the values that it pushed
pub record State : Type 0 where
  pub values : Store
  pub popped : ℕ
  pub pushed : List ℤ

-- n numbers from v on
abbrev pub numbers_from : ℕ → ℕ → List ℕ
numbers_from v zero = []
numbers_from v (suc n) = v ∷ numbers_from (suc v) n

-- the turns of a loop from one bound to another
abbrev pub turns_between : ℤ → Bool → ℤ → List ℕ
turns_between low upto high = numbers_from (count_of low) (count_of high + (if upto then 1 else 0) - count_of low)

-- a block for each value of a variable
abbrev pub each_turn : (State → State) → Name → List ℕ → State → State
each_turn block n [] s = s
each_turn block n (v ∷ vs) s = each_turn block n vs (block (record s { values = at_name n (pos v) s.values }))

abbrev pub first_value : Option Expression → List ℤ → State → ℤ
first_value None xs s = pos 0
first_value (Some t) xs s = eval t xs s.values s.popped

abbrev pub first_pops : Option Expression → ℕ
first_pops None = 0
first_pops (Some t) = pops t

abbrev mutual
  pub exec : Statement → List ℤ → State → State
  exec (Declare n t) xs s = record s { values = at_name n (first_value t xs s) s.values; popped = s.popped + first_pops t }
  exec (Assign n t) xs s = record s { values = at_name n (eval t xs s.values s.popped) s.values; popped = s.popped + pops t }
  exec (Push t) xs s = record s { popped = s.popped + pops t; pushed = s.pushed ++ eval t xs s.values s.popped ∷ [] }
  exec Discard xs s = record s { popped = s.popped + 1 }
  exec (If t a b) xs s =
      let then_on = record s { popped = s.popped + pops t } in
      if is_true (eval t xs s.values s.popped) then exec_all a xs then_on else exec_optional b xs then_on
  exec (For n low upto high b) xs s =
      each_turn (exec_all b xs) n (turns_between (eval low xs s.values s.popped) upto (eval high xs s.values s.popped)) s

  pub exec_all : Block → List ℤ → State → State
  exec_all End xs s = s
  exec_all (Then c b) xs s = exec_all b xs (exec c xs s)

  -- a block that is not written does nothing
  pub exec_optional : Optional → List ℤ → State → State
  exec_optional Unwritten xs s = s
  exec_optional (Written b) xs s = exec_all b xs s

-- A FILTER

-- a rate that is not written
abbrev pub rate_or : Option ℕ → ℕ → ℕ
rate_or None n = n
rate_or (Some r) n = r

-- without `push` or `pop` the rate is 0; without `peek` it is the rate of `pop`
abbrev pub push_of : WorkTree → ℕ
push_of w = rate_or w.push 0

abbrev pub pop_of : WorkTree → ℕ
pop_of w = rate_or w.pop 0

abbrev pub peek_of : WorkTree → ℕ
peek_of w = rate_or w.peek (pop_of w)

-- what firing j runs: the first one `prework`, where there is one, and all others `work`
abbrev pub or_work : Option WorkTree → WorkTree → WorkTree
or_work None w = w
or_work (Some p) w = p

abbrev pub runs_in : FilterTree → ℕ → WorkTree
runs_in t zero = or_work t.prework t.work
runs_in t (suc j) = t.work

-- the items of firing j start behind those that the firings before it pop
abbrev pub start_at : FilterTree → ℕ → ℕ
start_at t zero = 0
start_at t (suc j) = pop_of (runs_in t 0) + j * pop_of t.work

-- how many items have to be there from its start on; the first firing waits for one at least
abbrev pub waits_for : FilterTree → ℕ → ℕ
waits_for t zero = max (peek_of (runs_in t 0)) 1
waits_for t (suc j) = peek_of t.work

-- nothing has a value yet
abbrev pub nought : Store
nought n = pos 0

-- the values of the fields
abbrev pub with_fields : List Name → List ℤ → Store → Store
with_fields [] zs env = env
with_fields (f ∷ fs) [] env = env
with_fields (f ∷ fs) (z ∷ zs) env = with_fields fs zs (at_name f z env)

-- at the beginning of a firing only the fields have values
abbrev pub at_start : List Name → List ℤ → State
at_start fields kept = record { values = with_fields fields kept nought; popped = 0; pushed = [] }

-- the fields after `init`
abbrev pub initial : FilterTree → List ℤ
initial t = map (exec_optional t.init [] (at_start t.fields (replicate (length t.fields) (pos 0)))).values t.fields

-- the items that firing j looks at
abbrev pub looked_at : FilterTree → ℕ → List ℤ → List ℤ
looked_at t j xs = take (peek_of (runs_in t j)) (drop (start_at t j) xs)

-- firing j: its block runs on the items that it looks at
abbrev pub fires : FilterTree → ℕ → List ℤ → List ℤ → State
fires t j kept xs = exec_all (runs_in t j).block (looked_at t j xs) (at_start t.fields kept)

-- firing j and those after it, n at most; the fields pass from one to the next
abbrev pub fires_from : FilterTree → ℕ → ℕ → List ℤ → List ℤ → List ℤ
fires_from t zero j kept xs = []
fires_from t (suc n) j kept xs =
    if nat_le (start_at t j + waits_for t j) (length xs)
    then (let s = fires t j kept xs in s.pushed ++ fires_from t n (suc j) (map s.values t.fields) xs)
    else []

-- all firings: each but the first pops an item, so there are no more than one and the items. Which there are is said by Firings
abbrev pub pushed_by : FilterTree → List ℤ → List ℤ
pushed_by t xs = fires_from t (suc (length xs)) 0 (initial t) xs

-- A PROGRAM

-- without weights each branch has 1, and with one weight each branch has it
abbrev pub weights_for : Option (List ℕ) → ℕ → List ℕ
weights_for None n = replicate n 1
weights_for (Some []) n = replicate n 1
weights_for (Some (w ∷ [])) n = replicate n w
weights_for (Some (w ∷ v ∷ vs)) n = w ∷ v ∷ vs

-- what a stream does with the items of its input
abbrev pub Works : Type 0
Works = List ℤ → List ℤ

-- what is said of a name, the first that is met
abbrev pub look : {A : Type 0} → List (Name × A) → Name → Option A
look [] n = None
look (e ∷ es) n = if name_eq e.0 n then Some e.1 else look es n

abbrev pub or_same : Option Works → Works
or_same None xs = xs
or_same (Some f) xs = f xs

abbrev pub known_works : List (Name × Works) → Name → Works
known_works env n = or_same (look env n)

-- one stream after another
abbrev pub piped : List (Name × Works) → Name → List Name → Works
piped env n [] xs = known_works env n xs
piped env n (m ∷ ms) xs = piped env m ms (known_works env n xs)

-- branch by branch, branch p on what f gives it
abbrev pub branched : List (Name × Works) → Name → List Name → (ℕ → List ℤ) → List (List ℤ)
branched env n [] f = known_works env n (f 0) ∷ []
branched env n (m ∷ ms) f = known_works env n (f 0) ∷ branched env m ms (λ p. f (suc p))

abbrev pub branch_count : Adds → ℕ
branch_count a = suc (length a.others)

-- what branch p of n takes
abbrev pub share_of : Dealing → ℕ → ℕ → List ℤ → List ℤ
share_of Copies n p xs = xs
share_of (Turns ws) n p xs = dealt (weights_for ws n) p xs

-- what is declared does this, where env says what the streams above do
abbrev pub body_works : List (Name × Works) → Body → Works
body_works env (AFilter t) xs = pushed_by t xs
body_works env (APipeline a) xs = piped env a.first a.others xs
body_works env (ASplitJoin d a ws) xs = let n = branch_count a in collected (weights_for ws n) (branched env a.first a.others (λ p. share_of d n p xs))

-- what each declared stream does, the newest first
abbrev pub all_work : List (Name × Works) → Program → List (Name × Works)
all_work env [] = env
all_work env (u ∷ us) = all_work ((u.name, body_works env u.body) ∷ env) us

abbrev pub last_of : {A : Type 0} → List (Name × A) → Option A
last_of [] = None
last_of (e ∷ es) = Some e.1

-- the meaning of a program on the items of its input
abbrev pub program_outputs : Program → List ℤ → List ℤ
program_outputs p xs = or_same (last_of (all_work [] p)) xs
