-- Units that are judged one after another.
use Rattle.std.proofs.Common.{◌≡◌, ℕ, ◌+◌, ◌<◌, ◌≤◌, List, [], ◌∷◌, length, drop, get_or, Some, None, refl, sym, ap, ◌∙◌, arith}
use Rattle.river_base.proofs.Lists.{drop_next}
use Rattle.cql_model.specs.Judged.{in_unit, query_fault, first_fault}
use Rattle.cql_text.specs.Tree as tree
use Rattle.cql_text.specs.Tree.{Register, AQuery, Program}
use Rattle.cql_model.specs.Scopes.{Named}
use Rattle.cql_model.specs.Plan.{query_named}
use Rattle.cql_model.specs.declared.fault.Fault.{Fault}
use Rattle.cql_text.specs.declared.tree.Unit as code_unit
use Rattle.cql_model.specs.Places.{declares}
use Rattle.cql_build.specs.Judged.{unit_fault, registers}
use Rattle.cql_build.specs.Knowing.{Knows}
use Rattle.cql_text.specs.Tree.{unit_form, unit_forms}
use Rattle.cql_build.specs.declared.known.Known.{Known}

-- so far: the units before have no fault, and this is known behind them
pub record Judging (parts : List code_unit.Unit) (i many : ℕ) (k : Known) : Type 0 where
  pub ks : List Named
  pub knows : Knows k ks
  pub whole : first_fault [] 0 1 (unit_forms parts) ≡ first_fault ks many (i + 1) (unit_forms (drop i parts))

-- before the first unit
pub judging_start : (parts : List code_unit.Unit) (k : Known) → Knows k [] → Judging parts 0 0 k
judging_start parts k h = record { ks = []; knows = h; whole = refl }

one_unit : (ks : List Named) (many unit : ℕ) (p : tree.UnitForm) (ps : Program)
    → first_fault ks many unit (p ∷ ps) ≡ in_unit unit (unit_fault ks many p) (first_fault (declares ks p ∷ ks) (many + registers p) (unit + 1) ps)
one_unit ks many unit (Register name fields) ps = refl
one_unit ks many unit (AQuery q) ps =
    ap (λ n. in_unit unit (query_fault ks q) (first_fault (query_named ks q ∷ ks) n (unit + 1) ps)) (let e : many ≡ many + 0 = omega arith in e)

at_unit : (parts : List code_unit.Unit) (i many : ℕ) (k : Known) (p : code_unit.Unit) (j : Judging parts i many k) → i < length parts → p ≡ get_or parts i p
    → first_fault [] 0 1 (unit_forms parts)
    ≡ in_unit (i + 1) (unit_fault j.ks many (unit_form p))
    (first_fault (declares j.ks (unit_form p) ∷ j.ks) (many + registers (unit_form p)) (i + 1 + 1) (unit_forms (drop (i + 1) parts)))
at_unit parts i many k p j lt e =
    j.whole
    ∙ ap (λ l. first_fault j.ks many (i + 1) (unit_forms l)) (drop_next parts i p lt e)
    ∙ one_unit j.ks many (i + 1) (unit_form p) (unit_forms (drop (i + 1) parts))

-- one unit more, without a fault
pub judging_next : (parts : List code_unit.Unit) (i many : ℕ) (k k' : Known) (p : code_unit.Unit) (j : Judging parts i many k) → i < length parts → p ≡ get_or parts i p
    → None ≡ unit_fault j.ks many (unit_form p) → Knows k' (declares j.ks (unit_form p) ∷ j.ks) → Judging parts (i + 1) (many + registers (unit_form p)) k'
judging_next parts i many k k' p j lt e none knows = record {
  ks = declares j.ks (unit_form p) ∷ j.ks;
  knows = knows;
  whole =
      at_unit parts i many k p j lt e
      ∙ ap (λ o. in_unit (i + 1) o (first_fault (declares j.ks (unit_form p) ∷ j.ks) (many + registers (unit_form p)) (i + 1 + 1)
      (unit_forms (drop (i + 1) parts)))) (sym none);
}

-- a unit that has a fault
pub judging_fault : (parts : List code_unit.Unit) (i many : ℕ) (k : Known) (p : code_unit.Unit) (f : Fault) (j : Judging parts i many k) → i < length parts → p ≡ get_or parts i p
    → Some f ≡ unit_fault j.ks many (unit_form p) → Some (record { unit = i + 1; fault = f }) ≡ first_fault [] 0 1 (unit_forms parts)
judging_fault parts i many k p f j lt e some =
    sym (at_unit parts i many k p j lt e ∙ ap
    (λ o. in_unit (i + 1) o (first_fault (declares j.ks (unit_form p) ∷ j.ks) (many + registers (unit_form p)) (i + 1 + 1)
    (unit_forms (drop (i + 1) parts)))) (sym some))

-- a unit registers one stream at most
pub registers_few : (p : tree.UnitForm) → registers p ≤ 1
registers_few (Register name fields) = omega arith
registers_few (AQuery q) = omega arith
