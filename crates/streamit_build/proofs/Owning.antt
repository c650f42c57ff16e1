-- The queues that operators write, one operator after another.
use Rattle.std.proofs.Common.{◌≡◌, ℕ, ◌+◌, ◌<◌, Bool, true, false, List, [], ◌∷◌, ◌++◌, length, map, take, get_or, Result, Ok, Err, refl, sym, ap, ◌∙◌, append_assoc, append-nil}
use Rattle.std.specs.Prelude.{IfOk, filter, if◌then◌else◌}
use Rattle.std.proofs.lemmas.List.{take_more, map-append}
use Rattle.river_plan.specs.Forms.{Name, OpForm, op_form}
use Rattle.river_plan.specs.Uses.{all_writes}
use Rattle.river_plan.specs.declared.op.Op.{Op}
use Rattle.streamit_model.specs.Plan.{is_own_queue, own_queues, values_in}

-- another fact of a value that is there
pub if_ok_then : {X E : Type 0} {P Q : X → Type 0} (r : Result X E) → ((x : X) → P x → Q x) → IfOk r P → IfOk r Q
if_ok_then (Ok x) f h = f x h
if_ok_then (Err e) f h = tt

-- the queues of the plan's own among names
abbrev pub own : List Name → List Name
own names = filter is_own_queue names

own-append : (xs ys : List Name) → own (xs ++ ys) ≡ own xs ++ own ys
own-append [] ys = refl
own-append (x ∷ xs) ys = by (is_own_queue x) (own-append xs ys) where
  by : (b : Bool) → own (xs ++ ys) ≡ own xs ++ own ys → (if b then x ∷ own (xs ++ ys) else own (xs ++ ys)) ≡ (if b then x ∷ own xs else own xs) ++ own ys
  by true e = ap (λ l. x ∷ l) e
  by false e = e

writes-append : (xs ys : List OpForm) → all_writes (xs ++ ys) ≡ all_writes xs ++ all_writes ys
writes-append [] ys = refl
writes-append (x ∷ xs) ys = ap (λ l. x.writes ++ l) (writes-append xs ys) ∙ sym (append_assoc x.writes (all_writes xs) (all_writes ys))

-- one operator more
pub own_next : (ops : List Op) (i : ℕ) (x : Op) → i < length ops → x ≡ get_or ops i x
    → map values_in (own_queues (map op_form (take (i + 1) ops))) ≡ map values_in (own_queues (map op_form (take i ops))) ++ map values_in (own x.writes)
own_next ops i x lt e =
    ap (λ l. map values_in (own_queues (map op_form l))) (take_more ops i x lt ∙ ap (λ y. take i ops ++ y ∷ []) (sym e))
    ∙ ap (λ l. map values_in (own_queues l)) (map-append op_form (take i ops) (x ∷ []))
    ∙ ap (λ l. map values_in (own l)) (writes-append (map op_form (take i ops)) (op_form x ∷ [])
    ∙ ap (λ l. all_writes (map op_form (take i ops)) ++ l) (append-nil x.writes))
    ∙ ap (map values_in) (own-append (all_writes (map op_form (take i ops))) x.writes)
    ∙ map-append values_in (own_queues (map op_form (take i ops))) (own x.writes)
