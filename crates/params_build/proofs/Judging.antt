-- Parts judged one after another.
use Rattle.std.proofs.Common.{◌≡◌, ℕ, suc, List, [], ◌∷◌, ◌++◌, not, map, take, drop, length, ◌+◌, ◌<◌, ◌≤◌, get_or, sym, ap, ◌∙◌, subst, drop-cons, add-one}
use Rattle.std.proofs.Math.Seq.{take-suc}
use Rattle.river_base.proofs.Lists.{map_next, map_none}
use Rattle.streamit_text.specs.Tree.{statement, in_turn}
use Rattle.streamit_text.specs.declared.tree.Statement as written
use Rattle.params_text.specs.Params.{is_one_of}
use Rattle.params_text.specs.Program.{steps_in_turn, step_of, unit_form, unit_forms, ParamProgram}
use Rattle.params_text.specs.declared.program.Unit as code_unit
use Rattle.params_text.specs.declared.program.Step.{Step}
use Rattle.params_model.specs.Judged.{Above, Judgement, judged_then, no_fault, statement_judged, block_judged, step_judged, steps_judged, new_names, unit_judged}
use Rattle.params_model.specs.Judged.{units_judged}
use Rattle.params_model.specs.declared.fault.Fault.TheVariants.{NameTwice}
use Rattle.params_model.specs.Making.{demand}
use Rattle.params_build.specs.Above.{CountsParameters}
use Rattle.params_build.specs.declared.above.StreamsAbove.{StreamsAbove}
use Rattle.params_build.specs.declared.refused.RefusedUnit.{RefusedUnit}
use Rattle.params_build.specs.declared.refused.RefusedUnit.TheVariants as of_unit
use Rattle.params_build.specs.Judging.{IsWhyRefused, refused_in}

-- why the first part is refused is why both are
pub refused-first : (k : ℕ) (e : RefusedUnit) (a b : Judgement) → IsWhyRefused a (refused_in k e) → IsWhyRefused (judged_then a b) (refused_in k e)
refused-first k (of_unit.Fault f) a b h = ap (λ x. judged_then x b) h
refused-first k of_unit.NoMemory a b h = tt

-- a part without a fault is passed over
pub passed-over : (a b : Judgement) → a ≡ no_fault → judged_then a b ≡ b
passed-over a b h = ap (λ x. judged_then x b) h

-- the statements of a block from a place on
pub from-place : (k : ℕ) (ps : List (List ℕ)) (items : List written.Statement) (i : ℕ) (c : written.Statement) → i < length items → c ≡ get_or items i c
    → block_judged k ps (in_turn (map statement (drop i items)))
    ≡ judged_then (statement_judged k ps (statement c)) (block_judged k ps (in_turn (map statement (drop (i + 1) items))))
from-place k ps items i c lt is = ap (λ l. block_judged k ps (in_turn l)) (map_next statement items i c lt is)

-- behind the last statement nothing is left to judge
pub at-end : (k : ℕ) (ps : List (List ℕ)) (items : List written.Statement) (i : ℕ) → length items ≤ i
    → block_judged k ps (in_turn (map statement (drop i items))) ≡ no_fault
at-end k ps items i h = ap (λ l. block_judged k ps (in_turn l)) (map_none statement items i h)

-- the steps from a place on
pub steps-place : (k : ℕ) (us : Above) (ks : List (List ℕ)) (items : List Step) (i : ℕ) (s : Step) → i < length items → s ≡ get_or items i s
    → steps_judged k us ks (steps_in_turn (map step_of (drop i items)))
    ≡ judged_then (step_judged k us ks (step_of s)) (steps_judged k us ks (steps_in_turn (map step_of (drop (i + 1) items))))
steps-place k us ks items i s lt is = ap (λ l. steps_judged k us ks (steps_in_turn l)) (map_next step_of items i s lt is)

-- behind the last step nothing is left to judge
pub steps-end : (k : ℕ) (us : Above) (ks : List (List ℕ)) (items : List Step) (i : ℕ) → length items ≤ i
    → steps_judged k us ks (steps_in_turn (map step_of (drop i items))) ≡ no_fault
steps-end k us ks items i h = ap (λ l. steps_judged k us ks (steps_in_turn l)) (map_none step_of items i h)

-- the parameters from a place on, none of which has the name of one before it
pub names-place : (k : ℕ) (names : List (List ℕ)) (i : ℕ) (n : List ℕ) → i < length names → n ≡ get_or names i n
    → new_names k (take i names) (drop i names)
    ≡ judged_then (demand (not (is_one_of (take i names) n)) k NameTwice) (new_names k (take (i + 1) names) (drop (i + 1) names))
names-place k names i n lt is =
    ap (new_names k (take i names)) (drop-cons names i n lt ∙ ap (λ x. x ∷ drop (suc i) names) (sym is))
    ∙ ap (λ l. judged_then (demand (not (is_one_of (take i names) n)) k NameTwice) (new_names k l (drop (suc i) names)))
    (ap (λ x. take i names ++ x ∷ []) is ∙ sym (take-suc names i n lt))
    ∙ ap (λ j. judged_then (demand (not (is_one_of (take i names) n)) k NameTwice) (new_names k (take j names) (drop j names))) (sym (add-one i))

-- the units from a place on, below these streams
pub units-place : (k : ℕ) (us : Above) (units : List code_unit.Unit) (i : ℕ) (u : code_unit.Unit) → i < length units → u ≡ get_or units i u
    → units_judged k us (unit_forms (drop i units))
    ≡ judged_then (unit_judged k us (unit_form u)) (units_judged (suc k) ((u.name, length u.params.items) ∷ us) (unit_forms (drop (i + 1) units)))
units-place k us units i u lt is = ap (units_judged k us) (map_next unit_form units i u lt is)

-- what is known behind some units, and what is left to judge then
pub record Judging (whole : Judgement) (i : ℕ) (rest : ParamProgram) (streams : StreamsAbove) : Type 0 where
  pub above : Above
  pub knows : CountsParameters streams above
  pub judged : units_judged (suc i) above rest ≡ whole

-- one unit more is judged
pub judging-next : (whole : Judgement) (i : ℕ) (units : List code_unit.Unit) (u : code_unit.Unit) (old new : StreamsAbove) → i < length units → u ≡ get_or units i u
    → Judging whole i (unit_forms (drop i units)) old → ((us : Above) → CountsParameters old us → unit_judged (suc i) us (unit_form u) ≡ no_fault)
    → ((us : Above) → CountsParameters old us → CountsParameters new ((u.name, length u.params.items) ∷ us))
    → Judging whole (i + 1) (unit_forms (drop (i + 1) units)) new
judging-next whole i units u old new lt is j passed known =
    let above : Above = (u.name, length u.params.items) ∷ j.above in
    let rest = unit_forms (drop (i + 1) units) in
    record {
      above = above;
      knows = known j.above j.knows;
      judged = ap (λ k. units_judged (suc k) above rest) (add-one i)
          ∙ sym (passed-over (unit_judged (suc i) j.above (unit_form u)) _ (passed j.above j.knows))
          ∙ sym (units-place (suc i) j.above units i u lt is) ∙ j.judged;
    }

-- a unit that is refused
pub judging-refused : (whole : Judgement) (i : ℕ) (units : List code_unit.Unit) (u : code_unit.Unit) (old : StreamsAbove) (e : RefusedUnit) → i < length units
    → u ≡ get_or units i u
    → Judging whole i (unit_forms (drop i units)) old
    → ((us : Above) → CountsParameters old us → IsWhyRefused (unit_judged (suc i) us (unit_form u)) (refused_in (suc i) e))
    → IsWhyRefused whole (refused_in (suc i) e)
judging-refused whole i units u old e lt is j told =
    subst (λ (x : Judgement). IsWhyRefused x (refused_in (suc i) e)) (sym (units-place (suc i) j.above units i u lt is) ∙ j.judged)
    (refused-first (suc i) e (unit_judged (suc i) j.above (unit_form u)) _ (told j.above j.knows))
