-- The lock classes of tables by numbers, and the cells of the classes.
use Rattle.std.specs.Prelude.{◌≡◌, ℕ, suc, ◌<◌, ◌==◌, if◌then◌else◌, List, [], ◌∷◌, Some, length, slice_get, slice_index_or}
use Rattle.std.specs.List.Sorted.{IsStrictlyIncreasing}
use Rattle.kern_tables.specs.declared.kind.TableKind.{TableKind}
use Rattle.river_plan.specs.declared.plan.TableDecl.{TableDecl}
use Rattle.river_plan.specs.Forms.{PlanForm}
use Rattle.class_locks.specs.Logs.{Holding}
use Rattle.fire_tasks.specs.Adds.{table_class}

-- classes are numbered by their first table: whatever is below a table's class is the class of a table before it
abbrev pub AreByFirst : List ℕ → Type 0
AreByFirst classes = (i c d : ℕ) → slice_get classes i ≡ Some c → d < c → (k : ℕ) × (k < i) × (slice_get classes k ≡ Some d)

-- these are the classes of the plan's tables, table by table
pub record AreTableClasses (p : PlanForm) (classes : List ℕ) : Type 0 where
  pub many : length classes ≡ length p.tables
  pub each : (n : ℕ) → n < length p.tables → slice_get classes n ≡ Some (table_class p n)
  pub by_first : AreByFirst classes

-- one of these tables is of class c
abbrev pub HasClass : List ℕ → List ℕ → ℕ → Type 0
HasClass classes tables c = (j m : ℕ) × (slice_get tables j ≡ Some m) × (slice_index_or classes m 0 ≡ c)

-- the classes below n that one of these tables has, in ascending order
pub record AreClassesOf (classes tables : List ℕ) (n : ℕ) (own : List ℕ) : Type 0 where
  pub ascend : IsStrictlyIncreasing own
  pub below : (i c : ℕ) → slice_get own i ≡ Some c → c < n
  pub used : (i c : ℕ) → slice_get own i ≡ Some c → HasClass classes tables c
  pub all : (c : ℕ) → c < n → HasClass classes tables c → (i : ℕ) × (slice_get own i ≡ Some c)

-- the tables of class c among these, each with its number and its kind; the first of them has number n
abbrev pub kinds_from : (ℕ → ℕ) → ℕ → ℕ → List TableDecl → List (ℕ × TableKind)
kinds_from class c n [] = []
kinds_from class c n (t ∷ ts) = if class n == c then (n, t.kind) ∷ kinds_from class c (suc n) ts else kinds_from class c (suc n) ts

-- the tables of a class
abbrev pub class_kinds : PlanForm → ℕ → List (ℕ × TableKind)
class_kinds p c = kinds_from (table_class p) c 0 p.tables

-- there is a cell for each class, in order, and no other; each has the tables of its class
pub record AreClassCells (p : PlanForm) (cells : List Holding) : Type 0 where
  pub kinds : (c : ℕ) (x : Holding) → slice_get cells c ≡ Some x → x.kinds ≡ class_kinds p c
  pub all : (n : ℕ) → n < length p.tables → table_class p n < length cells
  pub used : (c : ℕ) → c < length cells → (n : ℕ) × (n < length p.tables) × (table_class p n ≡ c)

-- there are so many classes
pub record IsClassCount (classes : List ℕ) (n : ℕ) : Type 0 where
  pub used : (c : ℕ) → c < n → (i : ℕ) × (slice_get classes i ≡ Some c)
  pub all : (i c : ℕ) → slice_get classes i ≡ Some c → c < n
