-- What is told of a River text that has no plan.
use Rattle.std.specs.Prelude.{ℕ, List, ◌++◌, codes}
use Rattle.std.specs.Fmt.{decimal}
use Rattle.river_kernels.specs.declared.limit.Limit.{Limit}
use Rattle.river_kernels.specs.declared.limit.Limit.TheVariants as limit
use Rattle.river_plan.specs.declared.fault.Named.{Named}
use Rattle.river_plan.specs.declared.fault.Named.TheVariants.{Queue, Variable, Label}
use Rattle.river_plan.specs.declared.fault.PlanFault.{PlanFault}
use Rattle.river_plan.specs.declared.fault.PlanFault.TheVariants as plan
use Rattle.text_forms.specs.TextFaults.{text_words}
use Rattle.river_text.specs.declared.river_fault.RiverFault.{RiverFault}
use Rattle.river_text.specs.declared.river_fault.RiverFault.TheVariants.{Text, Plan}

-- a name at fault; that of a variable has its dollar sign
abbrev pub name_words : Named → List ℕ
name_words (Queue name) = name
name_words (Variable name) = codes "$" ++ name
name_words (Label name) = name

-- what is limited
abbrev pub limit_word : Limit → List ℕ
limit_word limit.Inputs = codes "inputs"
limit_word limit.Operators = codes "operators"
limit_word limit.Queues = codes "queues"
limit_word limit.Variables = codes "variables"
limit_word limit.Ports = codes "ports"
limit_word limit.Statements = codes "statements"
limit_word limit.Slots = codes "slots"
limit_word limit.Rates = codes "rates"
limit_word limit.Weights = codes "weights"
limit_word limit.Nesting = codes "nesting"
limit_word limit.Latest = codes "latest"
limit_word limit.Best = codes "best"

-- the name of the fault, and the name that is at fault, or the limit and the number that exceeds it
abbrev pub plan_words : PlanFault → List ℕ
plan_words (plan.P1 name) = codes "P1 " ++ name_words name
plan_words (plan.P2 name) = codes "P2 " ++ name_words name
plan_words (plan.P3 name) = codes "P3 " ++ name_words name
plan_words (plan.P4 name) = codes "P4 " ++ name_words name
plan_words (plan.P5 name) = codes "P5 " ++ name_words name
plan_words (plan.P6 name) = codes "P6 " ++ name_words name
plan_words (plan.P7 name) = codes "P7 " ++ name_words name
plan_words (plan.P8 limit number) = codes "P8 " ++ (limit_word limit ++ (codes " " ++ decimal number))
plan_words (plan.P9 name) = codes "P9 " ++ name_words name
plan_words plan.NoMemory = codes "NoMemory"

abbrev pub river_words : RiverFault → List ℕ
river_words (Text fault) = text_words fault
river_words (Plan fault) = plan_words fault
