-- The streams of units, noted one unit after another.
use Rattle.std.proofs.Common.{◌≡◌, ℕ, ◌+◌, ◌<◌, ◌≤◌, List, [], ◌∷◌, ◌++◌, length, drop, get_or, sym, ap, ◌∙◌, append_assoc, append-nil}
use Rattle.std.proofs.lemmas.List.{drop_all}
use Rattle.river_base.proofs.Lists.{drop_next}
use Rattle.cql_model.specs.Program.{registered, all_uses, streams_of}
use Rattle.cql_text.specs.Tree as tree
use Rattle.cql_text.specs.Tree.{Program, Register, AQuery, unit_form, unit_forms}
use Rattle.cql_text.specs.declared.tree.Unit as code_unit
use Rattle.cql_build.specs.declared.uses.StreamUses.{StreamUses}
use Rattle.cql_build.specs.Grown.{Notes}

-- so far: the units before are noted
pub record Noted (parts : List code_unit.Unit) (i : ℕ) (uses : StreamUses) : Type 0 where
  pub inputs : registered (unit_forms parts) ≡ uses.inputs ++ registered (unit_forms (drop i parts))
  pub all : all_uses (unit_forms parts) ≡ uses.all ++ all_uses (unit_forms (drop i parts))
  pub past : uses.past ≡ []

-- before the first unit
pub noted_start : (parts : List code_unit.Unit) (u : StreamUses) → u.inputs ≡ [] → u.all ≡ [] → u.past ≡ [] → Noted parts 0 u
noted_start parts u a b c = record {
  inputs = ap (λ l. l ++ registered (unit_forms parts)) (sym a);
  all = ap (λ l. l ++ all_uses (unit_forms parts)) (sym b);
  past = c;
}

more_inputs : (u v : StreamUses) (p : tree.UnitForm) (ps : Program) → Notes u v p → u.inputs ++ registered (p ∷ ps) ≡ v.inputs ++ registered ps
more_inputs u v (Register name fields) ps n = sym (append_assoc u.inputs (name ∷ []) (registered ps)) ∙ ap (λ l. l ++ registered ps) (sym n.0)
more_inputs u v (AQuery q) ps n = ap (λ l. l ++ registered ps) (sym n.0)

more_uses : (u v : StreamUses) (p : tree.UnitForm) (ps : Program) → Notes u v p → u.all ++ all_uses (p ∷ ps) ≡ v.all ++ all_uses ps
more_uses u v (Register name fields) ps n = ap (λ l. l ++ all_uses ps) (sym n.1)
more_uses u v (AQuery q) ps n = sym (append_assoc u.all (streams_of q.items) (all_uses ps)) ∙ ap (λ l. l ++ all_uses ps) (sym n.1)

same_past : (u v : StreamUses) (p : tree.UnitForm) → Notes u v p → v.past ≡ u.past
same_past u v (Register name fields) n = n.2
same_past u v (AQuery q) n = n.2

-- one unit more
pub noted_next : (parts : List code_unit.Unit) (i : ℕ) (p : code_unit.Unit) (u v : StreamUses) → Noted parts i u → i < length parts → p ≡ get_or parts i p → Notes u v (unit_form p)
    → Noted parts (i + 1) v
noted_next parts i p u v s lt e n =
    let d = drop_next parts i p lt e in
    let rest = unit_forms (drop (i + 1) parts) in
    record {
      inputs = s.inputs ∙ ap (λ l. u.inputs ++ registered (unit_forms l)) d ∙ more_inputs u v (unit_form p) rest n;
      all = s.all ∙ ap (λ l. u.all ++ all_uses (unit_forms l)) d ∙ more_uses u v (unit_form p) rest n;
      past = same_past u v (unit_form p) n ∙ s.past;
    }

-- all units
pub noted_inputs : (parts : List code_unit.Unit) (i : ℕ) (u : StreamUses) → Noted parts i u → length parts ≤ i → u.inputs ≡ registered (unit_forms parts)
noted_inputs parts i u s le = sym (s.inputs ∙ ap (λ l. u.inputs ++ registered (unit_forms l)) (drop_all i parts le) ∙ append-nil u.inputs)

-- once all units are noted, all uses are
pub noted_uses : (parts : List code_unit.Unit) (i : ℕ) (u : StreamUses) → Noted parts i u → length parts ≤ i → u.all ≡ all_uses (unit_forms parts)
noted_uses parts i u s le = sym (s.all ∙ ap (λ l. u.all ++ all_uses (unit_forms l)) (drop_all i parts le) ∙ append-nil u.all)
