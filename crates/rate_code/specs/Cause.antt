-- Why nothing is known of a queue.
use Rattle.std.specs.Prelude.{◌≡◌, ⊤, ◌⊎◌, ℕ, max, List, [], ◌∷◌, Result, Ok, Err}
use Rattle.river_plan.specs.Forms.{Name, OpForm}
use Rattle.stream_periods.specs.Periods as periods
use Rattle.stream_periods.specs.Periods.{beside, in_cycles, times_for}
use Rattle.stream_periods.specs.Walk as walk
use Rattle.stream_periods.specs.Walk.{Known, NoWalk, Queues, kernel_walk, on_known, or_lacks, rated, the_one}
use Rattle.streamit_model.specs.Meaning.{look}
use Rattle.rate_code.specs.declared.cause.NoRate.{NoRate}
use Rattle.rate_code.specs.declared.cause.NoRate.TheVariants as why

-- It is why the operator of this name leaves nothing known. That a number is above 2^64 - 1, or memory is wanting, may be anywhere.
abbrev pub SaysCause : {A : Type 0} → Name → Result A NoWalk → NoRate → Type 0
SaysCause label r (why.Lacks l) = (r ≡ Err (walk.Lacks l)) × (l ≡ label)
SaysCause label r (why.Keeps l) = (r ≡ Err (walk.Rates (periods.Keeps l))) × (l ≡ label)
SaysCause label r (why.Unbalanced l) = (r ≡ Err (walk.Rates periods.Unbalanced)) × (l ≡ label)
SaysCause label r why.Large = ⊤
SaysCause label r why.NoMemory = ⊤

-- one branch before those behind it, in cycles of the joiner
abbrev pub stepped : ℕ → Known → Known → Result Known NoWalk
stepped w a b =
    on_known (rated (beside (in_cycles w a.period) b.period)) (λ p. Ok (record { period = p; fades = max (times_for a.fades w) b.fades }))

-- what is known of the one queue that an operator reads
abbrev pub the_known : Name → List Name → Queues → Result Known NoWalk
the_known label reads known = on_known (the_one label reads) (λ q. or_lacks label (look known q))

abbrev pub SaysCauseOf : OpForm → Queues → NoRate → Type 0
SaysCauseOf op known = SaysCause op.label (kernel_walk op.kernel op.label op.reads op.writes known)

-- a number, or memory
abbrev pub IsRoom : NoRate → Type 0
IsRoom (why.Lacks l) = ⊥
IsRoom (why.Keeps l) = ⊥
IsRoom (why.Unbalanced l) = ⊥
IsRoom why.Large = ⊤
IsRoom why.NoMemory = ⊤

-- The operators before one leave something known, and that one does not: this is why.
abbrev pub StopsAt : List OpForm → Queues → NoRate → Type 0
StopsAt [] known why = IsRoom why
StopsAt (op ∷ ops) known why =
    SaysCauseOf op known why ⊎ ((next : Queues) × (kernel_walk op.kernel op.label op.reads op.writes known ≡ Ok next) × StopsAt ops next why)

-- Where the walk goes to its end, no other cause is told.
abbrev pub StopIsTheEnd : Type 0
StopIsTheEnd = (ops : List OpForm) (known next : Queues) (why : NoRate) → StopsAt ops known why → walk.walk ops known ≡ Ok next → IsRoom why
