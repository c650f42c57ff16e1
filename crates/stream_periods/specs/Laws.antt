-- What is true of filters, splitters and joiners that have a period: behind a period they give what they give for what is behind it.
use Rattle.std.specs.Prelude.{◌≡◌, ◌↔◌, ℕ, ℤ, ◌+◌, ◌*◌, ◌<◌, ◌≤◌, List, ◌++◌, length, drop, Ok, IsTrue, None, false}
use Rattle.kern_rows.specs.Forms.{FilterForm}
use Rattle.river_base.specs.Places.{list_at}
use Rattle.river_kernels.specs.Formed.{is_filter}
use Rattle.brooklet_model.specs.ByIndex.{cycle, dealt, collected}
use Rattle.streamit_model.specs.Unrolled.{IsRound}
use Rattle.streamit_model.specs.UnrolledFilters.{filtered}
use Rattle.streamit_model.specs.Meaning.{Works}
use Rattle.stream_periods.specs.Periods.{Period, any_sets_below, beside, filter_fades, filter_period, times_for, weight}

-- Where so many items are there, and as many more as it reaches for, it gives so many at least; and behind those it gives what it gives for
-- the items behind these.
pub record IsSteady (f : Works) (takes gives reach : ℕ) : Type 0 where
  pub moves : (xs : List ℤ) → takes + reach ≤ length xs → f (drop takes xs) ≡ drop gives (f xs)
  pub enough : (xs : List ℤ) → takes + reach ≤ length xs → gives ≤ length (f xs)

-- For more items it gives no less: what it gave stands at the front.
abbrev pub Grows : Works → Type 0
Grows f = (xs ys : List ℤ) → (zs : List ℤ) × (f (xs ++ ys) ≡ f xs ++ zs)

-- WITHOUT FIRST FIRINGS

-- a filter with no first firing of its own that sets no field, with no condition on the number of items
abbrev pub FiltersMove : Type 0
FiltersMove =
    (f : FilterForm) (xs : List ℤ) → IsTrue (is_filter f) → f.first ≡ None → any_sets_below (length f.starts) f.body.steps ≡ false
    → filtered f (drop f.pop xs) ≡ drop f.push (filtered f xs)

-- so many cycles of a splitter that deals
abbrev pub SplittersMove : Type 0
SplittersMove = (ws : List ℕ) (n i k : ℕ) → IsRound ws n → 0 < n → IsSteady (dealt ws i) (k * cycle ws) (k * weight ws i) 0

-- of so many cycles each list has the items
abbrev pub HaveCycles : List ℕ → ℕ → List (List ℤ) → List (List ℤ) → Type 0
HaveCycles ws k ls rest =
    (i : ℕ) → i < length ls → (list_at rest i ≡ drop (k * weight ws i) (list_at ls i)) × (k * weight ws i ≤ length (list_at ls i))

-- a joiner gives them, and then what it collects of what is behind
abbrev pub JoinersMove : Type 0
JoinersMove =
    (ws : List ℕ) (k : ℕ) (ls rest : List (List ℤ)) → IsRound ws (length ls) → 0 < length ls → length rest ≡ length ls → HaveCycles ws k ls rest
    → (collected ws rest ≡ drop (k * cycle ws) (collected ws ls)) × (k * cycle ws ≤ length (collected ws ls))

-- WITH FIRST FIRINGS

-- For lists of one length that agree behind v items it gives lists of one length that agree behind so many items.
pub record IsFading (f : Works) (fade : ℕ → ℕ) : Type 0 where
  pub agree : (v : ℕ) (xs ys : List ℤ) → length ys ≡ length xs → drop v ys ≡ drop v xs → drop (fade v) (f ys) ≡ drop (fade v) (f xs)
  pub same : (xs ys : List ℤ) → length ys ≡ length xs → length (f ys) ≡ length (f xs)
  pub rises : (v w : ℕ) → v ≤ w → fade v ≤ fade w

-- Where so many items are there, and as many more as it reaches for, it gives for those behind them so many fewer, and behind the first
-- w items the same.
pub record IsShifting (f : Works) (takes gives reach w : ℕ) : Type 0 where
  pub moves : (xs : List ℤ) → takes + reach ≤ length xs → drop w (f (drop takes xs)) ≡ drop (gives + w) (f xs)
  pub fewer : (xs : List ℤ) → takes + reach ≤ length xs → length (f (drop takes xs)) + gives ≡ length (f xs)

-- it takes some items in a period, and does both: first firings have no effect behind what comes of none of the items
pub record IsSettled (f : Works) (p : Period) (fade : ℕ → ℕ) : Type 0 where
  pub takes : 0 < p.takes
  pub fading : IsFading f fade
  pub shifting : IsShifting f p.takes p.gives p.reach (fade 0)

-- each filter that has a period, behind what its first firing gives
abbrev pub FiltersSettle : Type 0
FiltersSettle = (name : List ℕ) (f : FilterForm) (p : Period) → IsTrue (is_filter f) → filter_period name f ≡ Ok p → IsSettled (filtered f) p (filter_fades f f.first)

-- each branch of a splitter that deals
abbrev pub SplittersSettle : Type 0
SplittersSettle =
    (ws : List ℕ) (n i : ℕ) → IsRound ws n → 0 < n
    → IsSettled (dealt ws i) (record { takes = cycle ws; gives = weight ws i; reach = 0 }) (λ v. times_for v (cycle ws) * weight ws i)

-- each list of `late` has so many cycles fewer than that of `ls`, and behind c cycles more they agree
abbrev pub AreBehind : List ℕ → ℕ → ℕ → List (List ℤ) → List (List ℤ) → Type 0
AreBehind ws k c ls late =
    (i : ℕ) → i < length ls
    → (length (list_at late i) + k * weight ws i ≡ length (list_at ls i))
    × (drop (c * weight ws i) (list_at late i) ≡ drop (k * weight ws i + c * weight ws i) (list_at ls i))

-- so it is of what a joiner collects
abbrev pub JoinersSettle : Type 0
JoinersSettle =
    (ws : List ℕ) (k c : ℕ) (ls late : List (List ℤ)) → IsRound ws (length ls) → 0 < length ls → length late ≡ length ls → AreBehind ws k c ls late
    → (drop (c * cycle ws) (collected ws late) ≡ drop (k * cycle ws + c * cycle ws) (collected ws ls))
    × (length (collected ws late) + k * cycle ws ≡ length (collected ws ls))

-- RATES

-- two branches keep step exactly where they give as many cycles for as many items
abbrev pub BesideIsBalance : Type 0
BesideIsBalance =
    (p q : Period) → 0 < p.takes → 0 < q.takes → ((r : Period) × (beside p q ≡ Ok r)) ↔ (p.gives * q.takes ≡ q.gives * p.takes)
