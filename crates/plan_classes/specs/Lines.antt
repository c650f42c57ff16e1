-- The lines of lock classes that stand behind a plan's text: `# class K: $t $u`, ascending, the tables of a class in the order declared.
use Rattle.std.specs.Prelude.{ℕ, suc, ℤ, pos, List, [], ◌∷◌, ◌++◌, codes, if◌then◌else◌}
use Rattle.std.specs.Fmt.{decimal}
use Rattle.std.specs.Ordering.{int_eq}
use Rattle.plan_classes.specs.Numbered.{class_numbers}
use Rattle.river_plan.specs.Forms.{Name, PlanForm, table_names}
use Rattle.plan_classes.specs.Users.{table_users}

-- the tables of a class, each behind a space and its dollar sign
abbrev pub class_tables : ℕ → List Name → List ℤ → List ℕ
class_tables k [] classes = []
class_tables k (t ∷ tables) [] = []
class_tables k (t ∷ tables) (c ∷ classes) = (if int_eq c (pos k) then codes " $" ++ t else []) ++ class_tables k tables classes

abbrev pub class_line : ℕ → List Name → List ℤ → List ℕ
class_line k tables classes = codes "# class " ++ (decimal k ++ (codes ":" ++ (class_tables k tables classes ++ codes "\n")))

-- a line for each class from k on. Classes are numbered by their first table, so class k begins where its number comes first
abbrev pub class_lines : ℕ → List ℤ → List Name → List ℤ → List ℕ
class_lines k [] tables classes = []
class_lines k (c ∷ rest) tables classes =
    if int_eq c (pos k) then class_line k tables classes ++ class_lines (suc k) rest tables classes else class_lines k rest tables classes

-- the lines of a plan's classes
abbrev pub classes_text : PlanForm → List ℕ
classes_text p = let classes = class_numbers (table_users p) in class_lines 0 classes (table_names p.tables) classes
