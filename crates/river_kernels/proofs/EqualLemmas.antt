-- Tests that decide whether two types, or two variables, are the same.
use Rattle.std.proofs.Common.{◌≡◌, true, false, refl, sym, ap, subst, ◌∙◌}
use Rattle.std.specs.Bool.{Decides}
use Rattle.std.proofs.lemmas.Bool.{true≢false}
use Rattle.river_base.proofs.Tests.{eq_by}
use Rattle.river_base.specs.declared.kind.FlatType.{FlatType}
use Rattle.river_base.specs.declared.kind.QueueType.{QueueType}
use Rattle.river_base.specs.declared.kind.FlatType.TheVariants.{Rows, Stream, Relation}
use Rattle.river_base.specs.declared.kind.QueueType.TheVariants.{Flat, Pack}
use Rattle.river_kernels.specs.declared.types.VarKind.{VarKind}
use Rattle.river_kernels.specs.declared.types.VarKind.TheVariants.{Private, Table}
use Rattle.river_base.specs.contracts.kind.QueueTypePartialEq.TheImpl as queue
use Rattle.river_kernels.specs.contracts.types.VarKindPartialEq.TheImpl as var
use Rattle.river_kernels.specs.Types.{same_flat, same_type}
use Rattle.river_kernels.proofs.TypeLemmas.{eq_same, type_same, same_type_is}

flat_eq : (t u : FlatType) → (queue.eq-value.it (Flat t) (Flat u) ≡ same_flat t u) × (queue.eq-value.it (Pack t) (Pack u) ≡ same_flat t u)
flat_eq (Rows m) (Rows n) = (refl, refl)
flat_eq (Rows m) (Stream n) = (refl, refl)
flat_eq (Rows m) (Relation n) = (refl, refl)
flat_eq (Stream m) (Rows n) = (refl, refl)
flat_eq (Stream m) (Stream n) = (refl, refl)
flat_eq (Stream m) (Relation n) = (refl, refl)
flat_eq (Relation m) (Rows n) = (refl, refl)
flat_eq (Relation m) (Stream n) = (refl, refl)
flat_eq (Relation m) (Relation n) = (refl, refl)

apart_eq : (t u : FlatType) → (queue.eq-value.it (Flat t) (Pack u) ≡ false) × (queue.eq-value.it (Pack t) (Flat u) ≡ false)
apart_eq t u = (refl, refl)

queue_eq : (a b : QueueType) → queue.eq-value.it a b ≡ same_type a b
queue_eq (Flat t) (Flat u) = (flat_eq t u).0
queue_eq (Flat t) (Pack u) = (apart_eq t u).0
queue_eq (Pack t) (Flat u) = (apart_eq t u).1
queue_eq (Pack t) (Pack u) = (flat_eq t u).1

-- the test for equal types of queues decides
pub queue_decides : (a b : QueueType) → Decides (queue.eq-value.it a b) (a ≡ b)
queue_decides a b = (λ h. same_type_is a b (sym (queue_eq a b) ∙ h), λ e. subst (λ c. queue.eq-value.it a c ≡ true) e (queue_eq a a ∙ type_same a))

var_eq : (a b : VarKind) → var.eq-value.it a b ≡ true → a ≡ b
var_eq Private Private h = refl
var_eq Private (Table n) h = absurd (true≢false (sym h))
var_eq (Table m) Private h = absurd (true≢false (sym h))
var_eq (Table m) (Table n) h = ap (λ k. Table k) (eq_by m n h)

var_same : (a : VarKind) → var.eq-value.it a a ≡ true
var_same Private = refl
var_same (Table n) = eq_same n

-- the test for equal kinds of variables decides
pub var_decides : (a b : VarKind) → Decides (var.eq-value.it a b) (a ≡ b)
var_decides a b = (var_eq a b, λ e. subst (λ c. var.eq-value.it a c ≡ true) e (var_same a))
