-- Each condition on the lists of a plan holds or does not.
use Rattle.std.specs.Prelude.{◌≡◌, ℕ, ◌<◌, ◌≤◌, ◌⊎◌, Bool, true, false, List, [], ◌∷◌, Option, Some, None, map, refl}
use Rattle.std.specs.Bool.{Decides}
use Rattle.std.specs.Cmp.Lexicographic.{pointwise_decides}
use Rattle.std.proofs.Common.{inl, inr, sym, ap, ◌∙◌, subst, ⊎_elim}
use Rattle.std.proofs.lemmas.Bool.{cases_eq, cases_lt, true≢false}
use Rattle.std.proofs.Math.Nat.{not-le_of_lt}
use Rattle.std.proofs.lemmas.Option.{same_Some}
use Rattle.river_base.specs.declared.kind.FlatType.TheVariants.{Rows, Stream, Relation}
use Rattle.river_base.specs.declared.kind.QueueType.{QueueType}
use Rattle.river_base.specs.declared.kind.QueueType.TheVariants.{Flat, Pack}
use Rattle.kern_tables.specs.declared.kind.TableKind.{TableKind}
use Rattle.kern_tables.specs.declared.kind.TableKind.TheVariants.{Sum, Collection, Maximum}
use Rattle.river_kernels.specs.declared.types.VarKind.{VarKind}
use Rattle.river_kernels.specs.declared.types.Types.{Types}
use Rattle.river_kernels.specs.Formed.{is_width}
use Rattle.river_kernels.specs.Kern.{Kern}
use Rattle.river_kernels.specs.Fits.{Fits}
use Rattle.river_kernels.specs.Types.{given, types_of}
use Rattle.river_kernels.proofs.TypeLemmas.{not_some}
use Rattle.river_kernels.proofs.EqualLemmas.{queue_decides, var_decides}
use Rattle.river_kernels.proofs.FitsLaw.{fits_types, types_fits}
use Rattle.river_plan.specs.declared.plan.Decl.{Decl}
use Rattle.river_plan.specs.Forms.{Name, OpForm, PlanForm, all_decls}
use Rattle.river_plan.specs.Names.{count, IsUsedOnce}
use Rattle.river_plan.specs.Uses.{Each, total, vars_it}
use Rattle.river_plan.specs.Kinds.{kind_of, var_kind, IsFit}
use Rattle.river_plan.specs.Faults.{IsOuter, HasWidth, IsRowsOrStream, IsTableKind, IsApart, type_width}

-- the fact holds, or it does not
abbrev pub Decided : Type 0 → Type 0
Decided P = P ⊎ (P → ⊥)

pub both_decided : {P Q : Type 0} → Decided P → Decided Q → Decided (P × Q)
both_decided p q = ⊎_elim (λ a. ⊎_elim (λ b. inl (a, b)) (λ n. inr (λ h. n h.1)) q) (λ n. inr (λ h. n h.0)) p

pub implied_decided : {P Q : Type 0} → Decided P → Decided Q → Decided (P → Q)
implied_decided p q = ⊎_elim (λ a. ⊎_elim (λ b. inl (λ x. b)) (λ n. inr (λ h. n (h a))) q) (λ n. inl (λ a. absurd (n a))) p

pub less_decided : (m n : ℕ) → Decided (m < n)
less_decided m n = ⊎_elim (λ h. inl h) (λ h. inr (λ g. not-le_of_lt g h)) (cases_lt m n)

pub most_decided : (m n : ℕ) → Decided (m ≤ n)
most_decided m n = ⊎_elim (λ h. inr (λ g. not-le_of_lt h g)) (λ h. inl h) (cases_lt n m)

pub equal_decided : (m n : ℕ) → Decided (m ≡ n)
equal_decided m n = cases_eq m n

tested : (b : Bool) → Decided (b ≡ true)
tested true = inl refl
tested false = inr (λ h. true≢false (sym h))

test_decided : {b : Bool} {P : Type 0} → Decides b P → Decided P
test_decided {b = b} d = ⊎_elim (λ t. inl (d.0 t)) (λ n. inr (λ h. n (d.1 h))) (tested b)

each_decided : (P : OpForm → Type 0) → ((op : OpForm) → Decided (P op)) → (ops : List OpForm) → Decided (Each P ops)
each_decided P d [] = inl tt
each_decided P d (op ∷ ops) = both_decided (d op) (each_decided P d ops)

-- P3 and P4
pub once_decided : (given uses : ℕ) → Decided (IsUsedOnce given uses)
once_decided given uses = both_decided (most_decided uses 1) (implied_decided (less_decided 0 given) (equal_decided uses 0))

-- P6
pub width_decided : (d : Decl) → Decided (HasWidth d)
width_decided d = tested (is_width (type_width d.kind))

rows_or_stream_decided : (t : QueueType) → Decided (IsRowsOrStream t)
rows_or_stream_decided (Flat (Rows w)) = inl tt
rows_or_stream_decided (Flat (Stream w)) = inl tt
rows_or_stream_decided (Flat (Relation w)) = inr (λ h. h)
rows_or_stream_decided (Pack t) = inr (λ h. h)

pub outer_decided : (d : Decl) → Decided (IsOuter d)
outer_decided d = both_decided (width_decided d) (rows_or_stream_decided d.kind)

pub table_decided : (t : TableKind) → Decided (IsTableKind t)
table_decided (Sum keys) = most_decided keys 8
table_decided (Collection keys) = most_decided keys 8
table_decided (Maximum best keys) = both_decided (most_decided keys 8) (most_decided 1 best)

-- P7: a kernel fits where it has the types that are inferred for it
found_decided : (k : Kern) (is os : List QueueType) (vs : List VarKind) (o : Option Types) → types_of k is ≡ o → Decided (Fits k is os vs)
found_decided k is os vs None e = inr (λ f. not_some (sym e ∙ fits_types k is os vs f))
found_decided k is os vs (Some t) e = ⊎_elim
    (λ h. inl (subst (Fits k is os) h.1 (subst (λ l. Fits k is l t.vars) h.0 (types_fits k is t e))))
    (λ n. inr (λ f. let s : t ≡ given os vs = same_Some _ _ (sym e ∙ fits_types k is os vs f) in n (ap (λ (r : Types). r.outs) s, ap (λ (r : Types). r.vars) s)))
    (both_decided (test_decided (pointwise_decides queue_decides t.outs os)) (test_decided (pointwise_decides var_decides t.vars vs)))

pub fit_decided : (p : PlanForm) (op : OpForm) → Decided (IsFit p op)
fit_decided p op =
    found_decided op.kernel (map (kind_of (all_decls p)) op.reads) (map (kind_of (all_decls p)) op.writes) (map (var_kind p.tables p.vars) op.vars) _ refl

-- P9
pub apart_decided : (p : PlanForm) (v : Name) → Decided (IsApart p v)
apart_decided p v = both_decided
    (each_decided (λ op. vars_it v op ≤ 1) (λ op. most_decided (vars_it v op) 1) p.ops)
    (implied_decided (less_decided 0 (count v p.vars)) (most_decided (total (vars_it v) p.ops) 1))
