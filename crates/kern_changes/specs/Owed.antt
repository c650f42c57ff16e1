-- Splitters and joiners of relations: what each list owes, by contents.
use Rattle.std.specs.Prelude.{◌≡◌, ◌<◌, ◌≤◌, ◌+◌, ◌*◌, ℕ, ℤ, List, [], ◌++◌, length, replicate, nat_eq, nat_le, if◌then◌else◌, ◌⊎◌, slice_index_or}
use Rattle.river_base.specs.Held.{HaveWidth}
use Rattle.river_base.specs.Row.{copies}
use Rattle.river_base.specs.declared.item.Batch.{Batch}
use Rattle.river_base.specs.Changes.{difference}
use Rattle.river_base.specs.declared.item.Change.{Change}
use Rattle.kern_changes.specs.declared.owed.Debt.{Debt}
use Rattle.river_base.specs.Changes.{change_to, LeadsTo, IsNormal, IsWideChange}

-- WHAT A LIST OWES

-- nothing is owed
abbrev pub no_debt : Debt
no_debt = record { plus = []; minus = []; left = 0 }

-- what the list at a place owes
abbrev pub debt_at : List Debt → ℕ → Debt
debt_at s p = slice_index_or s p no_debt

-- nothing is owed at so many lists
abbrev pub owed_start : ℕ → List Debt
owed_start n = replicate n no_debt

-- these rows came and went too
abbrev pub owing_more : List (List ℤ) → List (List ℤ) → Debt → Debt
owing_more plus minus d = record { plus = d.plus ++ plus; minus = d.minus ++ minus; left = d.left }

-- rows that came and went are left out
abbrev pub netted : Debt → Debt
netted d =
    record {
      plus = difference d.plus d.minus;
      minus = difference d.minus d.plus;
      left = length (difference d.plus d.minus) + length (difference d.minus d.plus);
    }

-- they are, once there are more than twice as many rows as were left the last time
abbrev pub tidied : Debt → Debt
tidied d = if nat_le (length d.plus + length d.minus) (2 * d.left + 1) then d else netted d

-- what is owed with these rows
abbrev pub owing : List (List ℤ) → List (List ℤ) → Debt → Debt
owing plus minus d = tidied (owing_more plus minus d)

-- HOW MUCH THAT IS

-- what is owed begins with rows of which none both comes and goes, and there are `left` of these
pub record BeginsNetted (d : Debt) : Type 0 where
  pub came : List (List ℤ)
  pub went : List (List ℤ)
  pub more_came : List (List ℤ)
  pub more_went : List (List ℤ)
  pub plus : d.plus ≡ came ++ more_came
  pub minus : d.minus ≡ went ++ more_went
  pub apart : (row : List ℤ) → (copies row came ≡ 0) ⊎ (copies row went ≡ 0)
  pub left : d.left ≡ length came + length went

-- and behind them are at most as many, and one more: rows that come and go by turns do not pile up
pub record OwesLittle (d : Debt) : Type 0 where
  pub begins : BeginsNetted d
  pub few : length d.plus + length d.minus ≤ 2 * d.left + 1

-- so it is at each list
pub record OweLittle (s : List Debt) : Type 0 where
  pub each : (p : ℕ) → p < length s → OwesLittle (debt_at s p)

-- all rows that are owed are so wide
pub record AreDebtsOf (width : ℕ) (s : List Debt) : Type 0 where
  pub plus : (p : ℕ) → p < length s → HaveWidth width (debt_at s p).plus
  pub minus : (p : ℕ) → p < length s → HaveWidth width (debt_at s p).minus

-- WHAT IT STANDS FOR

-- what is owed at each list leads from one content to another
abbrev pub AreOwed : List Debt → (ℕ → List (List ℤ)) → (ℕ → List (List ℤ)) → Type 0
AreOwed s before after = (p : ℕ) → p < length s → LeadsTo (before p) (after p) (debt_at s p).plus (debt_at s p).minus

-- the same but for one place
abbrev pub but_at : ℕ → List (List ℤ) → (ℕ → List (List ℤ)) → ℕ → List (List ℤ)
but_at port rows f p = if nat_eq port p then rows else f p

-- a splitter: at each list what is owed leads from the content last given there to the content last received. Whatever these are,
-- where the change is that to the next content, the change given is that of the list which this content comes to
pub record DealsOwed (port : ℕ) (c : Change) (old new : List Debt) (given : Change) : Type 0 where
  pub each : (now : List (List ℤ)) (last : ℕ → List (List ℤ)) (b : Batch) → AreOwed old last (λ p. now) → c ≡ change_to now b
      → (given ≡ change_to (last port) b) × AreOwed new (but_at port b.rows last) (λ p. b.rows)

-- a joiner: at each port what is owed leads from the content last given to the content of this port that last passed. Whatever these
-- are, where the change is that to the port's next content, the change given is that of what is given
pub record JoinsOwed (port : ℕ) (c : Change) (old new : List Debt) (given : Change) : Type 0 where
  pub each : (last : List (List ℤ)) (now : ℕ → List (List ℤ)) (b : Batch) → AreOwed old (λ p. last) now → c ≡ change_to (now port) b
      → (given ≡ change_to last b) × AreOwed new (λ p. b.rows) (but_at port b.rows now)

-- whether or not there are such contents: the change given is normalised, it is as wide as the change that came, and no list owes much
pub record KeepsOwed (c : Change) (old new : List Debt) (given : Change) : Type 0 where
  pub lists : length new ≡ length old
  pub normal : IsNormal given
  pub wide : (w : ℕ) → AreDebtsOf w old → IsWideChange w c → IsWideChange w given × AreDebtsOf w new
  pub few : OweLittle old → OweLittle new
