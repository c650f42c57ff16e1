-- The last unit of a program.
use Rattle.std.proofs.Common.{◌≡◌, ℕ, suc, ◌+◌, ◌-◌, ◌<◌, true, false, List, [], ◌∷◌, ◌++◌, length, get_or, reverse, refl, sym, ap, ◌∙◌, arith}
use Rattle.river_base.proofs.Lists.{reverse-cons}
use Rattle.params_text.specs.Program.{UnitForm, ParamProgram, unit_form, unit_forms}
use Rattle.params_text.specs.declared.program.Unit as code_unit
use Rattle.params_model.specs.Judged.{no_fault, has_none, top_judged, head_or, tail_of, numbered_from, source_units}
use Rattle.params_model.specs.declared.fault.Fault.TheVariants.{Top}
use Rattle.params_model.specs.Making.{SourceUnit, demand}

abbrev last_unit : UnitForm → ParamProgram → UnitForm
last_unit u [] = u
last_unit u (v ∷ us) = last_unit v us

-- the newest source is the last unit, with its number
record Newest (k : ℕ) (u : UnitForm) (us : ParamProgram) (sizes : List ℕ) : Type 0 where
  source : SourceUnit
  others : List SourceUnit
  unit : source.unit ≡ k + length us
  stream : source.stream ≡ last_unit u us
  is : reverse (numbered_from k (u ∷ us) sizes) ≡ source ∷ others

newest : (k : ℕ) (u : UnitForm) (us : ParamProgram) (sizes : List ℕ) → Newest k u us sizes
newest k u [] sizes =
    let s : SourceUnit = record { unit = k; bytes = head_or sizes; stream = u } in
    record { source = s; others = []; unit = omega arith; stream = refl; is = reverse-cons s [] }
newest k u (v ∷ us) sizes =
    let s : SourceUnit = record { unit = k; bytes = head_or sizes; stream = u } in
    let n = newest (suc k) v us (tail_of sizes) in
    let same = n.unit in
    record {
      source = n.source;
      others = n.others ++ s ∷ [];
      unit = omega (arith, same);
      stream = n.stream;
      is = reverse-cons s (numbered_from (suc k) (v ∷ us) (tail_of sizes)) ∙ ap (λ l. l ++ s ∷ []) n.is;
    }

-- it stands at the last place
last_at : (u : code_unit.Unit) (us : List code_unit.Unit) (d : code_unit.Unit) → unit_form (get_or (u ∷ us) (length us) d) ≡ last_unit (unit_form u) (unit_forms us)
last_at u [] d = refl
last_at u (v ∷ us) d = last_at v us d

-- where there is no unit, nothing is asked
pub top-none : (us : List code_unit.Unit) (sizes : List ℕ) → length us ≡ 0 → top_judged (source_units (unit_forms us) sizes) ≡ no_fault
top-none [] sizes h = refl
top-none (u ∷ us) sizes h = absurd (omega (arith, h))

-- the last unit decides
pub top-at : (us : List code_unit.Unit) (sizes : List ℕ) (d : code_unit.Unit) → 0 < length us → d ≡ get_or us (length us - 1) d
    → top_judged (source_units (unit_forms us) sizes) ≡ demand (has_none d.params.items) (length us) Top
top-at [] sizes d lt is = absurd (omega (arith, lt))
top-at (u ∷ us) sizes d lt is =
    let n = newest 1 (unit_form u) (unit_forms us) sizes in
    let e : length (u ∷ us) - 1 ≡ length us = omega arith in
    let here : unit_form d ≡ last_unit (unit_form u) (unit_forms us) = ap unit_form (is ∙ ap (λ i. get_or (u ∷ us) i d) e) ∙ last_at u us d in
    let count : n.source.unit ≡ length (u ∷ us) = number us n.source.unit n.unit in
    ap top_judged n.is ∙ ap (λ (x : UnitForm). demand (has_none x.params) n.source.unit Top) (n.stream ∙ sym here)
    ∙ ap (λ k. demand (has_none d.params.items) k Top) count
  where
    same : (vs : List code_unit.Unit) → length (unit_forms vs) ≡ length vs
    same [] = refl
    same (v ∷ vs) = ap suc (same vs)

    number : (vs : List code_unit.Unit) (m : ℕ) → m ≡ 1 + length (unit_forms vs) → m ≡ suc (length vs)
    number vs m h =
        let s = same vs in
        omega (arith, h, s)

-- where the length is 0 there are no parameters
pub has-none : (ps : List (List ℕ)) → length ps ≡ 0 → has_none ps ≡ true
has-none [] h = refl
has-none (p ∷ ps) h = absurd (omega (arith, h))

-- and where it is not there are some
pub has-some : (ps : List (List ℕ)) → (length ps ≡ 0 → ⊥) → has_none ps ≡ false
has-some [] h = absurd (h refl)
has-some (p ∷ ps) h = refl
