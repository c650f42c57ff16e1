-- How a window moves a bound, reckoned in one pass: of a stream it needs no rows, but how many come at each instant of the piece.
use Rattle.std.specs.Prelude.{◌≡◌, ℕ, ◌-◌, ◌==◌, ℤ, List, [], ◌∷◌, length, map, int_lt, if◌then◌else◌}
use Rattle.std.specs.List.{AllByRecursion}
use Rattle.river_base.specs.Instants.{Timed}
use Rattle.kern_bags.specs.Contents.{later}
use Rattle.cql_model.specs.Streams.{Rises}

-- the instants of a piece, each with a number of rows
abbrev pub Counts : Type 0
Counts = List (ℤ × ℕ)

-- the instants alone
abbrev pub times_of : Counts → List ℤ
times_of counts = map (λ e. e.0) counts

-- so many rows the stream has at these instants, which rise
pub record AreCounts (s : Timed) (counts : Counts) : Type 0 where
  pub rise : Rises (times_of counts)
  pub rows : AllByRecursion (λ e. e.1 ≡ length (s e.0)) counts

-- what is wanting of some rows, where so many come at t; those up to m are not counted
abbrev pub less_at : ℤ → ℤ → ℕ → ℕ → ℕ
less_at m t count wanting = if int_lt m t then wanting - count else wanting

-- the latest of an instant and of those at which rows are wanting still
abbrev pub last_wanting : ℤ → ℕ → ℤ → Counts → ℤ
last_wanting m wanting latest [] = latest
last_wanting m wanting latest (e ∷ es) =
    let left = less_at m e.0 e.1 wanting in
    last_wanting m left (if left == 0 then latest else later latest e.0) es
