-- What a rate in memory stands for.
use Rattle.std.specs.Prelude.{◌≡◌, ℕ, ◌*◌, ◌/◌, ◌≤◌, Ok, Err}
use Rattle.rate_code.specs.declared.rate.Rate.{Rate}
use Rattle.rate_code.specs.declared.rate.Step.{Step}
use Rattle.rate_code.specs.declared.rate.Step.TheVariants.{Kept, Unbalanced, Large}
use Rattle.stream_periods.specs.Periods.{Period, beside, common}
use Rattle.stream_periods.specs.Periods as periods

abbrev pub period_of : Rate → Period
period_of r = record { takes = r.takes; gives = r.gives; reach = r.reach }

-- the largest number in memory
abbrev pub most : ℕ
most = 18446744073709551615

-- the numbers of a period have room in memory
abbrev pub IsSmall : Period → Type 0
IsSmall p = (p.takes ≤ most) × (p.gives ≤ most) × (p.reach ≤ most)

-- so have those of two branches that are brought to as many items
abbrev pub AreSmallBeside : Period → Period → Type 0
AreSmallBeside p q =
    (q.takes / common p.takes q.takes * p.takes ≤ most) × (q.takes / common p.takes q.takes * p.gives ≤ most) × (p.takes / common p.takes q.takes * q.gives ≤ most)

-- what is said of two branches is so; a number is too large where one has no room
abbrev pub SaysStep : Period → Period → Step → Type 0
SaysStep p q (Kept r) = beside p q ≡ Ok (period_of r)
SaysStep p q Unbalanced = beside p q ≡ Err periods.Unbalanced
SaysStep p q Large = AreSmallBeside p q → ⊥
