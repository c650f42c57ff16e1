-- What an operator gives.
use Rattle.std.specs.Prelude.{◌≡◌, ℕ, ◌*◌, List, [], ◌∷◌, Ok, None, Some}
use Rattle.river_kernels.specs.Kern.{Kern}
use Rattle.river_plan.specs.Forms.{Name, OpForm}
use Rattle.streamit_model.specs.Meaning.{look}
use Rattle.kern_rows.specs.Forms.{FilterForm}
use Rattle.stream_periods.specs.Periods.{Period, after, times_for, filter_period, filter_fades}
use Rattle.stream_periods.specs.Walk.{Known, Queues, behind_filter, kernel_walk, walk, at_input}
use Rattle.rate_code.specs.declared.queues.Spot.{Spot}
use Rattle.rate_code.specs.declared.cause.NoRate.{NoRate}
use Rattle.rate_code.specs.Cause.{SaysCause, StopsAt}
use Rattle.rate_code.specs.Entries.{known_of}

abbrev pub walked_filter : FilterForm → Known → Spot → Type 0
walked_filter f a r = (name : List ℕ) → (p : Period) × (filter_period name f ≡ Ok p) × (known_of r ≡ behind_filter a p (filter_fades f f.first))

abbrev pub share_of : ℕ → ℕ → Known → Known
share_of all weight a = record { period = after a.period (record { takes = all; gives = weight; reach = 0 }); fades = times_for a.fades all * weight }

-- of the one queue that is read this is known
abbrev pub reads_one : List Name → Queues → Known → Type 0
reads_one reads known a = (q : Name) × (reads ≡ q ∷ []) × (look known q ≡ Some a)

-- of the one queue that is written this is known then
abbrev pub writes_one : List Name → Known → Queues → Queues → Type 0
writes_one writes a known next = (q : Name) × (writes ≡ q ∷ []) × (next ≡ (q, a) ∷ known)

-- the operator of this name leaves this known
abbrev pub walks : Kern → Name → List Name → List Name → Queues → Queues → Type 0
walks k label reads writes known next = kernel_walk k label reads writes known ≡ Ok next

-- or nothing, for this cause
abbrev pub stops : Kern → Name → List Name → List Name → Queues → NoRate → Type 0
stops k label reads writes known = SaysCause label (kernel_walk k label reads writes known)

abbrev pub walks_op : OpForm → Queues → Queues → Type 0
walks_op op known next = kernel_walk op.kernel op.label op.reads op.writes known ≡ Ok next

-- so much is known of a queue behind these operators
abbrev pub is_known_from : List OpForm → Queues → Name → Spot → Type 0
is_known_from ops old q s = (known : Queues) × (walk ops old ≡ Ok known) × (look known q ≡ Some (known_of s))

-- nothing is, since none of them writes it
abbrev pub is_unknown_from : List OpForm → Queues → Name → Type 0
is_unknown_from ops old q = (known : Queues) × (walk ops old ≡ Ok known) × (look known q ≡ None)

-- so of the queues of the operators of a plan of this input
abbrev pub is_known : List OpForm → Name → Name → Spot → Type 0
is_known ops input q s = is_known_from ops (at_input input) q s

abbrev pub is_unknown : List OpForm → Name → Name → Type 0
is_unknown ops input q = is_unknown_from ops (at_input input) q

-- one of them leaves nothing known
abbrev pub stops_from : List OpForm → Name → NoRate → Type 0
stops_from ops input = StopsAt ops (at_input input)
