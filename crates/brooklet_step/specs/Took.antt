-- What came to the lists of an `Emit`.
use Rattle.std.specs.Prelude.{◌≡◌, ℕ, List, [], length, replicate}
use Rattle.river_base.specs.Places.{each_grew, list_at}
use Rattle.river_kernels.specs.Kern.{Kern}
use Rattle.brooklet_model.specs.Firings.{Fired}
use Rattle.brooklet_model.specs.Fire.{outs, tabs}
use Rattle.brooklet_step.specs.declared.emit.Emit.{Emit}

-- the firing's items and rows came to what was there, each to the list of its port or table
pub record Took (old new : Emit) (r : Fired) : Type 0 where
  pub outs : new.outs ≡ each_grew old.outs r.outs
  pub adds : new.adds ≡ each_grew old.adds r.adds

-- there is a list for each output port and for each table
pub record HasLists (k : Kern) (e : Emit) : Type 0 where
  pub outs : length e.outs ≡ outs k
  pub adds : length e.adds ≡ tabs k

-- there is an empty list for each
pub record IsBlank (k : Kern) (e : Emit) : Type 0 where
  pub outs : e.outs ≡ replicate (outs k) []
  pub adds : e.adds ≡ replicate (tabs k) []

-- lists of two kernels, put together by `join`, of which one was taken out: the others are as they were
pub record StayApart {A : Type 0} (join : (ℕ → List A) → (ℕ → List A) → ℕ → List A) (taken : ℕ) (first first' second second' : List (List A)) : Type 0 where
  pub many : length first' ≡ length first
  pub many_more : length second' ≡ length second
  pub others : (q : ℕ) → (q ≡ taken → ⊥) → join (list_at first') (list_at second') q ≡ join (list_at first) (list_at second) q
