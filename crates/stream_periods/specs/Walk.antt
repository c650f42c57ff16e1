-- The periods of the queues of a plan of filters, splitters and joiners, as functions of its one input, reckoned operator by operator: of any
-- River plan, also of one that a script made.
use Rattle.std.specs.Prelude.{◌≡◌, ℕ, suc, ℤ, ◌*◌, ◌<◌, ◌≤◌, max, List, [], ◌∷◌, Option, Some, None, Result, Ok, Err, map}
use Rattle.river_kernels.specs.Kern.{Kern, code, filter, duplicate, deal, collect, packed, unpack, window, select, project, cross, streamer, tally, fused}
use Rattle.kern_rows.specs.Turns.{shares}
use Rattle.river_plan.specs.declared.plan.Decl.{Decl}
use Rattle.river_plan.specs.Forms.{Name, OpForm, PlanForm}
use Rattle.river_plan.specs.Valid.{IsPlan}
use Rattle.brooklet_model.specs.ByIndex.{cycle}
use Rattle.brooklet_model.specs.Histories.{hist}
use Rattle.streamit_model.specs.Meaning.{Works, look}
use Rattle.streamit_model.specs.Laws.{as_items}
use Rattle.stream_periods.specs.Laws.{Grows, IsShifting}
use Rattle.stream_periods.specs.Periods.{NoPeriod, Period, after, beside, filter_fades, filter_period, in_cycles, times_for, weight}
use Rattle.stream_periods.specs.Pieces.{AreLong, pieces_of, put_together}

-- what is known of a queue: its period, and behind how many of its items first firings have no effect
pub record Known : Type 0 where
  pub period : Period
  pub fades : ℕ

-- why there is none: this operator is no filter, splitter or joiner, or reads a queue of which nothing is known; or a rate
pub data NoWalk : Type 0 where
  Lacks : Name → NoWalk
  Rates : NoPeriod → NoWalk

abbrev pub Queues : Type 0
Queues = List (Name × Known)

abbrev pub on_known : {A B : Type 0} → Result A NoWalk → (A → Result B NoWalk) → Result B NoWalk
on_known (Ok x) f = f x
on_known (Err e) f = Err e

abbrev pub rated : Result Period NoPeriod → Result Period NoWalk
rated (Ok p) = Ok p
rated (Err e) = Err (Rates e)

abbrev pub or_lacks : {A : Type 0} → Name → Option A → Result A NoWalk
or_lacks label None = Err (Lacks label)
or_lacks label (Some x) = Ok x

-- the one queue
abbrev pub the_one : Name → List Name → Result Name NoWalk
the_one label [] = Err (Lacks label)
the_one label (q ∷ []) = Ok q
the_one label (q ∷ r ∷ rs) = Err (Lacks label)

-- OPERATORS

abbrev pub behind_filter : Known → Period → (ℕ → ℕ) → Known
behind_filter a p fade = record { period = after a.period p; fades = fade a.fades }

abbrev pub dealt_to : List ℕ → ℕ → Known → Known
dealt_to ws i a = record {
  period = after a.period (record { takes = cycle ws; gives = weight ws i; reach = 0 });
  fades = times_for a.fades (cycle ws) * weight ws i;
}

-- for the queues from number i on
abbrev pub each_known : (ℕ → Known) → ℕ → List Name → Queues → Queues
each_known f i [] known = known
each_known f i (w ∷ ws) known = each_known f (suc i) ws ((w, f i) ∷ known)

-- a queue in cycles of the joiner
abbrev pub in_turn : ℕ → Known → Known
in_turn w a = record { period = in_cycles w a.period; fades = times_for a.fades w }

-- the queues of a joiner from number i on, in its cycles
abbrev pub turns : Name → List ℕ → ℕ → Queues → List Name → Result Known NoWalk
turns label ws i known [] = Err (Lacks label)
turns label ws i known (q ∷ []) = on_known (or_lacks label (look known q)) (λ a. Ok (in_turn (weight ws i) a))
turns label ws i known (q ∷ r ∷ rs) =
    on_known (or_lacks label (look known q)) (λ a. on_known (turns label ws (suc i) known (r ∷ rs))
    (λ b. on_known (rated (beside (in_cycles (weight ws i) a.period) b.period)) (λ p. Ok (record { period = p; fades = max (times_for a.fades (weight ws i)) b.fades }))))

abbrev pub joined_at : List ℕ → Known → Known
joined_at ws a = record {
  period = record { takes = a.period.takes; gives = a.period.gives * cycle ws; reach = a.period.reach };
  fades = a.fades * cycle ws;
}

abbrev pub kernel_walk : Kern → Name → List Name → List Name → Queues → Result Queues NoWalk
kernel_walk (code k) label reads writes known = Err (Lacks label)
kernel_walk (filter f) label reads writes known =
    on_known (the_one label reads) (λ q. on_known (or_lacks label (look known q)) (λ a. on_known (rated (filter_period label f)) (λ p.
    on_known (the_one label writes) (λ w. Ok ((w, behind_filter a p (filter_fades f f.first)) ∷ known)))))
kernel_walk (duplicate n) label reads writes known =
    on_known (the_one label reads) (λ q. on_known (or_lacks label (look known q)) (λ a. Ok (each_known (λ i. a) 0 writes known)))
kernel_walk (deal ws) label reads writes known =
    on_known (the_one label reads) (λ q. on_known (or_lacks label (look known q)) (λ a. Ok (each_known (λ i. dealt_to (shares ws) i a) 0 writes known)))
kernel_walk (collect ws) label reads writes known =
    on_known (turns label (shares ws) 0 known reads) (λ a. on_known (the_one label writes) (λ w. Ok ((w, joined_at (shares ws) a) ∷ known)))
kernel_walk (packed k) label reads writes known = Err (Lacks label)
kernel_walk (unpack n) label reads writes known = Err (Lacks label)
kernel_walk (window w) label reads writes known = Err (Lacks label)
kernel_walk (select e) label reads writes known = Err (Lacks label)
kernel_walk (project es) label reads writes known = Err (Lacks label)
kernel_walk cross label reads writes known = Err (Lacks label)
kernel_walk (streamer s) label reads writes known = Err (Lacks label)
kernel_walk tally label reads writes known = Err (Lacks label)
kernel_walk (fused a b at) label reads writes known = Err (Lacks label)

abbrev pub walk : List OpForm → Queues → Result Queues NoWalk
walk [] known = Ok known
walk (op ∷ ops) known = on_known (kernel_walk op.kernel op.label op.reads op.writes known) (walk ops)

-- the input itself
abbrev pub at_input : Name → Queues
at_input q = (q, record { period = record { takes = 1; gives = 1; reach = 0 }; fades = 0 }) ∷ []

-- THE LAW

-- in each queue of a plan of one input of which something is known stands what such a function gives for the input
pub record IsTraced (h : List ℤ → Name → List ℤ → Type 0) (q : Name) (a : Known) : Type 0 where
  pub works : Works
  pub is : (xs : List ℤ) → h xs q (works xs)
  pub grows : Grows works
  pub takes : 0 < a.period.takes
  pub shifting : IsShifting works a.period.takes a.period.gives a.period.reach a.fades

-- the items of a queue of the plan are these values
abbrev pub HasValues : PlanForm → List ℤ → Name → List ℤ → Type 0
HasValues p xs q ys = hist p (as_items xs ∷ []) q ≡ as_items ys

abbrev pub PlansSettle : Type 0
PlansSettle =
    (p : PlanForm) (d : Decl) (known : Queues) → IsPlan p → p.inputs ≡ d ∷ [] → walk p.ops (at_input d.name) ≡ Ok known
    → (q : Name) (a : Known) → look known q ≡ Some a → IsTraced (HasValues p) q a

-- so for pieces of the input, put together, stands in the queue what stands there for the whole
abbrev pub PlanPiecesGiveTheWhole : Type 0
PlanPiecesGiveTheWhole =
    (p : PlanForm) (d : Decl) (known : Queues) → IsPlan p → p.inputs ≡ d ∷ [] → walk p.ops (at_input d.name) ≡ Ok known
    → (q : Name) (a : Known) → look known q ≡ Some a
    → (f : Works) × ((xs : List ℤ) → HasValues p xs q (f xs))
    × ((early : ℕ) (ks : List ℕ) (xs : List ℤ) → a.fades ≤ early * a.period.gives → AreLong a.period early ks xs
    → put_together a.period early ks (map f (pieces_of a.period early ks xs)) ≡ f xs)
