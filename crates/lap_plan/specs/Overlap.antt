-- How pieces of the input of a program overlap.
use Rattle.std.specs.Prelude.{◌≡◌, ⊤, ◌⊎◌, ℕ, List, codes, Option, None, Some, Ok, Err}
use Rattle.streamit_front.specs.Meaning.{Accepted, compiled}
use Rattle.streamit_front.specs.declared.fault.StreamitFault.{StreamitFault}
use Rattle.river_plan.specs.Forms.{OpForm}
use Rattle.streamit_model.specs.Plan.{plan_of}
use Rattle.rate_code.specs.Entries.{known_of}
use Rattle.rate_code.specs.Overlaps.{Overlaps, WhyNoOverlap}
use Rattle.rate_code.specs.Walked.{is_known, is_unknown, stops_from}
use Rattle.rate_code.specs.declared.cause.NoRate.{NoRate}
use Rattle.rate_code.specs.declared.overlap.NoOverlap.{NoOverlap}
use Rattle.rate_code.specs.declared.overlap.NoOverlap.TheVariants as no
use Rattle.rate_code.specs.declared.overlap.Overlap.{Overlap}
use Rattle.rate_code.specs.declared.queues.Spot.{Spot}
use Rattle.piece_work.specs.declared.fault.WorkFault.TheVariants as fault
use Rattle.lap_plan.specs.declared.no_laps.NoLaps.{NoLaps}
use Rattle.lap_plan.specs.declared.no_laps.NoLaps.TheVariants as why

-- the text of a program is accepted, and this is known of the output of its plan
pub record HasSpot (text : List ℕ) (spot : Spot) : Type 0 where
  pub a : Accepted
  pub compiles : compiled text ≡ Ok a
  pub known : is_known (plan_of a.stream).ops (codes "in") (codes "out") spot

-- and so pieces of its input overlap, of which each has at most so many records
pub record HasOverlap (text : List ℕ) (size : ℕ) (o : Overlap) : Type 0 where
  pub spot : Spot
  pub has : HasSpot text spot
  pub overlaps : Overlaps (known_of spot) size o

-- the text of a program is refused
pub record IsRefused (text : List ℕ) : Type 0 where
  pub fault : StreamitFault
  pub is : compiled text ≡ Err fault

abbrev pub IsOverlapOf : List ℕ → ℕ → Option Overlap → Type 0
IsOverlapOf text size None = IsRefused text
IsOverlapOf text size (Some o) = HasOverlap text size o

-- it is accepted, and nothing is known of the output of its plan, for this cause
pub record HasNoRate (text : List ℕ) (cause : NoRate) : Type 0 where
  pub a : Accepted
  pub compiles : compiled text ≡ Ok a
  pub stops : is_unknown (plan_of a.stream).ops (codes "in") (codes "out") ⊎ stops_from (plan_of a.stream).ops (codes "in") cause

-- or something is, and no pieces overlap so
pub record HasNoOverlap (text : List ℕ) (size : ℕ) (e : NoOverlap) : Type 0 where
  pub spot : Spot
  pub has : HasSpot text spot
  pub none : WhyNoOverlap (known_of spot) size e

-- why it is not known how pieces overlap
abbrev pub WhyNoLaps : List ℕ → ℕ → NoLaps → Type 0
WhyNoLaps text size (why.Work fault.NoMemory) = ⊤
WhyNoLaps text size (why.Work _) = ⊥
WhyNoLaps text size (why.Rate cause) = HasNoRate text cause
WhyNoLaps text size why.Finite = HasNoOverlap text size no.Finite
WhyNoLaps text size why.Long = HasNoOverlap text size no.Long

-- BY THE OPERATORS OF A PLAN

abbrev pub known_out : List OpForm → Spot → Type 0
known_out ops = is_known ops (codes "in") (codes "out")

-- nothing is known of the output, for this cause
abbrev pub NothingKnown : List OpForm → NoRate → Type 0
NothingKnown ops cause = is_unknown ops (codes "in") (codes "out") ⊎ stops_from ops (codes "in") cause

abbrev pub WhyNoSpot : List OpForm → NoLaps → Type 0
WhyNoSpot ops (why.Work fault.NoMemory) = ⊤
WhyNoSpot ops (why.Work _) = ⊥
WhyNoSpot ops (why.Rate cause) = NothingKnown ops cause
WhyNoSpot ops why.Finite = ⊥
WhyNoSpot ops why.Long = ⊥

abbrev pub IsOverlapBy : List OpForm → ℕ → Option Overlap → Type 0
IsOverlapBy ops size None = ⊥
IsOverlapBy ops size (Some o) = (spot : Spot) × known_out ops spot × Overlaps (known_of spot) size o

abbrev pub WhyNoOverlapBy : List OpForm → ℕ → NoLaps → Type 0
WhyNoOverlapBy ops size (why.Work fault.NoMemory) = ⊤
WhyNoOverlapBy ops size (why.Work _) = ⊥
WhyNoOverlapBy ops size (why.Rate cause) = NothingKnown ops cause
WhyNoOverlapBy ops size why.Finite = (spot : Spot) × known_out ops spot × WhyNoOverlap (known_of spot) size no.Finite
WhyNoOverlapBy ops size why.Long = (spot : Spot) × known_out ops spot × WhyNoOverlap (known_of spot) size no.Long
