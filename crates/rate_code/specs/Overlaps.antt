-- How pieces of an input overlap, of which each has whole periods.
use Rattle.std.specs.Prelude.{◌≡◌, ℕ, ◌+◌, ◌-◌, ◌*◌, ◌<◌, ◌≤◌}
use Rattle.stream_periods.specs.Periods.{Period}
use Rattle.stream_periods.specs.Walk.{Known}
use Rattle.rate_code.specs.declared.overlap.Overlap.{Overlap}
use Rattle.rate_code.specs.declared.overlap.NoOverlap.{NoOverlap}
use Rattle.rate_code.specs.declared.overlap.NoOverlap.TheVariants as why

-- so many periods, and what is looked at beyond them, are no more than so many items, and give fewer than 2^32
pub record Fits (p : Period) (size periods : ℕ) : Type 0 where
  pub takes : 0 < p.takes
  pub items : periods * p.takes + p.reach ≤ size
  pub gives : periods * p.gives ≤ 4294967295

-- Each piece has so many periods, and each but the first begins some of them earlier: what first firings leave behind has faded behind what
-- is given for those.
pub record Overlaps (a : Known) (size : ℕ) (o : Overlap) : Type 0 where
  pub early : ℕ
  pub periods : ℕ
  pub more : early < periods
  pub fades : a.fades ≤ early * a.period.gives
  pub fits : Fits a.period size periods
  pub items : o.items ≡ periods * a.period.takes + a.period.reach
  pub step : o.step ≡ (periods - early) * a.period.takes
  pub keep : o.keep ≡ periods * a.period.gives
  pub let_go : o.let_go ≡ early * a.period.gives

-- why there are none of at most so many items
abbrev pub WhyNoOverlap : Known → ℕ → NoOverlap → Type 0
WhyNoOverlap a size why.Finite = (a.period.gives ≡ 0) × (0 < a.fades)
WhyNoOverlap a size why.Long = (early periods : ℕ) → early < periods → a.fades ≤ early * a.period.gives → Fits a.period size periods → ⊥
