-- Units that are judged one after another.
use Rattle.std.proofs.Common.{◌≡◌, ℕ, suc, ◌+◌, [], ◌∷◌, Result, Ok, Err, refl, sym, ap, ◌∙◌, add-one}
use Rattle.streamit_text.specs.Program.{UnitForm, Program}
use Rattle.streamit_model.specs.Judged.{Streamed, in_unit, unit_of, all_streams}
use Rattle.streamit_model.specs.declared.fault.Fault.{Fault}
use Rattle.streamit_model.specs.declared.fault.Refusal.{Refusal}
use Rattle.streamit_unroll.specs.declared.refused.RefusedUnit.{RefusedUnit}
use Rattle.streamit_unroll.specs.declared.refused.RefusedUnit.TheVariants as of_unit
use Rattle.streamit_unroll.specs.View.{IsWhyUnit}
use Rattle.streamit_build.specs.declared.streams.Known.{Known}
use Rattle.streamit_build.specs.Knowing.{Knows, Declares}
use Rattle.streamit_build.specs.Planned.{IsWhyRefused, refused_in, JudgesAll}

abbrev took : {A : Type 0} → A → Result A Refusal
took x = Ok x

-- the fault of a unit is the program's
unit_told : {A B : Type 0} (k : ℕ) (f : RefusedUnit) (r : Result A Fault) (r' : Result B Refusal)
    → ((g : Fault) → r ≡ Err g → r' ≡ Err (record { unit = k; fault = g })) → IsWhyUnit f r → IsWhyRefused r' (refused_in k f)
unit_told k (of_unit.Fault f) r r' h e = h f e
unit_told k of_unit.NoMemory r r' h e = tt

-- so far: what is known now, and that the whole is what is judged from here on
pub record Judging (whole : Result Streamed Refusal) (k : ℕ) (rest : Program) (now : Known) : Type 0 where
  pub known : Streamed
  pub knows : Knows now known
  pub whole_is : whole ≡ all_streams k known rest

-- before the first unit
pub judging_start : (start : Streamed) (p : Program) (now : Known) → Knows now start → Judging (all_streams 1 start p) 1 p now
judging_start start p now k = record { known = start; knows = k; whole_is = refl }

-- one unit more
pub judging_next : (whole : Result Streamed Refusal) (i : ℕ) (u : UnitForm) (us : Program) (now next : Known) (j : Judging whole (i + 1) (u ∷ us) now)
    → Declares (Ok tt) next j.known u.name (unit_of j.known u) → Judging whole (i + 1 + 1) us next
judging_next whole i u us now next j (s, e, k) = record {
  known = (u.name, s) ∷ j.known;
  knows = k;
  whole_is =
      j.whole_is ∙ ap (λ r. in_unit (i + 1) r (λ s. all_streams (suc (i + 1)) ((u.name, s) ∷ j.known) us)) e
      ∙ ap (λ n. all_streams n ((u.name, s) ∷ j.known) us) (sym (add-one (i + 1)));
}

-- a unit that is refused
pub judging_fault : (whole : Result Streamed Refusal) (i : ℕ) (u : UnitForm) (us : Program) (now next : Known) (f : RefusedUnit)
    (j : Judging whole (i + 1) (u ∷ us) now)
    → IsWhyUnit f (unit_of j.known u) → IsWhyRefused whole (refused_in (i + 1) f)
judging_fault whole i u us now next f j h =
    unit_told (i + 1) f (unit_of j.known u) whole
    (λ g e. j.whole_is ∙ ap (λ r. in_unit (i + 1) r (λ s. all_streams (suc (i + 1)) ((u.name, s) ∷ j.known) us)) e) h

-- all units
pub judging_end : (whole : Result Streamed Refusal) (k : ℕ) (now : Known) → Judging whole k [] now → JudgesAll (Ok tt) now whole
judging_end whole k now j = (j.known, j.whole_is, j.knows)
