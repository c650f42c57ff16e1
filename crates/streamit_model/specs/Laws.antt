-- What is true of all streams.
use Rattle.std.specs.Prelude.{◌≡◌, ◌≤◌, ◌<◌, ℕ, ℤ, List, [], ◌∷◌, length, map, None, Ok, slice_get}
use Rattle.river_base.specs.Places.{list_at}
use Rattle.river_base.specs.declared.item.Item as item
use Rattle.river_base.specs.declared.item.Item.TheVariants.{Flat}
use Rattle.river_base.specs.declared.item.Flat.TheVariants.{One}
use Rattle.kern_rows.specs.Forms.{FilterForm}
use Rattle.river_kernels.specs.Kern.{filter, duplicate, deal, collect}
use Rattle.river_plan.specs.Forms.{Name}
use Rattle.river_plan.specs.InTurn.{IsInTurn}
use Rattle.river_plan.specs.Uses.{Each}
use Rattle.river_plan.specs.Valid.{IsPlan}
use Rattle.brooklet_model.specs.Fire.{first_kept}
use Rattle.brooklet_model.specs.Words.{feed_all}
use Rattle.brooklet_model.specs.Histories.{History, Solves}
use Rattle.brooklet_model.specs.Meaning.{meaning}
use Rattle.brooklet_model.specs.ByIndex.{collected_at, dealt, collected}
use Rattle.streamit_model.specs.Unrolled.{Stream, IsRound, IsStream, IsSmall}
use Rattle.streamit_model.specs.UnrolledFilters.{filtered}
use Rattle.streamit_model.specs.UnrolledMeans.{outputs}
use Rattle.streamit_model.specs.Plan.{weights, build, ops_in, plan_of}
use Rattle.streamit_model.specs.Shallow.{IsShallowFilter, AreShallowUnits}
use Rattle.streamit_text.specs.Program.{FilterTree, Program}
use Rattle.streamit_model.specs.Meaning.{pushed_by, program_outputs}
use Rattle.streamit_model.specs.ElaborateFilter.{elaborated}
use Rattle.streamit_model.specs.Firings.{IsFired}
use Rattle.streamit_model.specs.Judged.{Streamed, judged}

-- values as the items of a queue that carries single values
abbrev pub as_items : List ℤ → List item.Item
as_items xs = map (λ x. Flat (One (x ∷ []))) xs

-- of a filter that is accepted those firings take place, and no others, whose items are there
abbrev pub FiringsAre : Type 0
FiringsAre = (t : FilterTree) (f : FilterForm) (xs : List ℤ) → elaborated t ≡ Ok f → (m : ℕ) × IsFired t xs m

-- fed with the items of an input, the kernel that is read of a filter gives what the filter gives as it is written
abbrev pub FedFilters : Type 0
FedFilters =
    (t : FilterTree) (f : FilterForm) (g : ℕ → List item.Item) (xs : List ℤ) → IsShallowFilter t → elaborated t ≡ Ok f → g 0 ≡ as_items xs
    → (feed_all (filter f) g (first_kept (filter f))).outs 0 ≡ as_items (pushed_by t xs)

-- fed splitters deal, or copy, to each branch what is its share
abbrev pub FedSplitters : Type 0
FedSplitters =
    (ws : List ℕ) (n p : ℕ) (g : ℕ → List item.Item) (xs : List ℤ) → IsRound ws n → p < n → g 0 ≡ as_items xs
    → ((feed_all (deal (weights ws)) g (first_kept (deal (weights ws)))).outs p ≡ as_items (dealt ws p xs))
    × ((feed_all (duplicate n) g (first_kept (duplicate n))).outs p ≡ as_items xs)

-- fed joiners collect
abbrev pub FedJoiners : Type 0
FedJoiners =
    (ws : List ℕ) (g : ℕ → List item.Item) (ls : List (List ℤ)) → IsRound ws (length ls) → ((p : ℕ) → p < length ls → g p ≡ as_items (list_at ls p))
    → (feed_all (collect (weights ws)) g (first_kept (collect (weights ws)))).outs 0 ≡ as_items (collected ws ls)

-- in any plan that has the operators of a stream, whatever solves their equations has the stream's outputs at its last queue
abbrev pub SolutionsMean : Type 0
SolutionsMean =
    (s : Stream) (c k : ℕ) (from to : Name) (h : History) (xs : List ℤ) → IsStream s → Each (Solves h) (build s c k from to)
    → h from ≡ as_items xs → h to ≡ as_items (outputs s xs)

-- the plan of a stream of at most 256 operators is valid
abbrev pub PlansAreValid : Type 0
PlansAreValid = (s : Stream) → IsStream s → IsSmall s → ops_in s ≤ 256 → IsPlan (plan_of s)

-- its queues and variables are declared in the order in which the operators first use them
abbrev pub PlansInTurn : Type 0
PlansInTurn = (s : Stream) → IsStream s → IsSmall s → ops_in s ≤ 256 → IsInTurn (plan_of s)

-- and it means what the stream means
abbrev pub TranslationMeans : Type 0
TranslationMeans =
    (s : Stream) (xs : List ℤ) → IsStream s → IsSmall s → ops_in s ≤ 256
    → meaning (plan_of s) (as_items xs ∷ []) ≡ record { outs = as_items (outputs s xs) ∷ []; tables = [] }

-- the filter that is read of a filter as it is written gives the same
abbrev pub FiltersMean : Type 0
FiltersMean = (t : FilterTree) (f : FilterForm) (xs : List ℤ) → elaborated t ≡ Ok f → pushed_by t xs ≡ filtered f xs

-- what a joiner collects is the longest front of its output for which all items are there
abbrev pub CollectsLongest : Type 0
CollectsLongest =
    (ws : List ℕ) (ls : List (List ℤ)) → IsRound ws (length ls)
    → ((x : ℕ) → x < length (collected ws ls) → slice_get (collected ws ls) x ≡ collected_at ws ls x) × (collected_at ws ls (length (collected ws ls)) ≡ None)

-- the plan of a program that is accepted is valid, and means what the program means
abbrev pub ProgramsMean : Type 0
ProgramsMean =
    (p : Program) (name : Name) (s : Stream) (others : Streamed) (xs : List ℤ) → AreShallowUnits p → judged p ≡ Ok ((name, s) ∷ others)
    → IsPlan (plan_of s) × (meaning (plan_of s) (as_items xs ∷ []) ≡ record { outs = as_items (program_outputs p xs) ∷ []; tables = [] })
