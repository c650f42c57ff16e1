-- What the call answers, from what its parts answer.
use Rattle.std.proofs.Common.{◌≡◌, ◌≢◌, ℕ, ◌+◌, ◌<◌, ◌≤◌, Bool, true, false, ◌&&◌, Option, Some, None, List, [], ◌∷◌, length, refl, sym, ap, ◌∙◌, subst, arith}
use Rattle.std.proofs.Common.{⊎_elim}
use Rattle.std.specs.Prelude.{if◌then◌else◌, nat_le, Result, Ok, Err, slice_get, slice_index_or}
use Rattle.std.proofs.lemmas.List.{length-map}
use Rattle.std.proofs.lemmas.Bool.{cases_Bool}
use Rattle.river_base.specs.declared.kind.QueueType.{QueueType}
use Rattle.river_plan.specs.declared.fault.PlanFault.{PlanFault}
use Rattle.river_plan.specs.declared.fault.PlanFault.TheVariants as fault
use Rattle.river_plan.specs.declared.op.Op.{Op}
use Rattle.river_plan.specs.Forms.{Name, OpForm, PlanForm, all_decls, op_forms, op_form}
use Rattle.river_plan.specs.Kinds.{kind_of}
use Rattle.river_plan.specs.Told.{IsTold, fault_of, first_fault_found}
use Rattle.river_plan.specs.Uses.{named_it}
use Rattle.river_plan.specs.Valid.{IsPlan}
use Rattle.river_plan.proofs.OneFirst.{fault-one}
use Rattle.river_plan.proofs.ValidLaw.{valid-no_fault}
use Rattle.plan_edits.specs.Answered.{IsAnswered}
use Rattle.rw_fission.specs.Asked.{HoldsOfAnswer, way_of, by_way, by_reads, by_op, all_made, are_short}
use Rattle.rw_fission.specs.Code.{IsPlace, IsJudgedAs, split_plan, longest}
use Rattle.rw_fission.specs.Fission.{Way, split_by, split_ops}
use Rattle.plan_edits.specs.Lists.{first_with}
use Rattle.rw_fission.specs.Made.{made_of}
use Rattle.rw_fission.specs.May.{is_apart}
use Rattle.plan_edits.specs.declared.unfit.Unfit.{Unfit}
use Rattle.plan_edits.specs.declared.unfit.Unfit.TheVariants.{U1, U2, U3, U4, U5, H1, H2, H3, H4, N1, N2, N3, N4, N5, NoMemory}
use Rattle.rw_fission.proofs.FissionLaw.{fission_apart}
use Rattle.rw_fission.proofs.MadeNames.{short_is}

abbrev Answer : Type 0
Answer = Result PlanForm Unfit

abbrev no : Unfit → Answer
no e = Err e

abbrev yes : PlanForm → Answer
yes q = Ok q

-- a plan that is told a fault is not valid
pub no_plan : (q : PlanForm) (f : PlanFault) → fault_of q ≡ Some f → IsPlan q → ⊥
no_plan q f e v =
    let n : None ≡ Some f = sym (fault-one q (fault_of q) None (first_fault_found q).1 (valid-no_fault q v)) ∙ e in
    absurd (cc n)

-- of each fault but want of memory the answer is N5
pub fault_step : (q : PlanForm) (f : PlanFault) (u : Unfit) → (f ≡ fault.NoMemory → u ≡ NoMemory) → ((f ≡ fault.NoMemory → ⊥) → u ≡ N5) → IsTold q (Err f)
    → IsJudgedAs q (no u)
fault_step q (fault.P1 n) u a b t = subst (λ x. IsJudgedAs q (no x)) (sym (b (λ e. absurd (cc e)))) (λ v. no_plan q (fault.P1 n) t v)
fault_step q (fault.P2 n) u a b t = subst (λ x. IsJudgedAs q (no x)) (sym (b (λ e. absurd (cc e)))) (λ v. no_plan q (fault.P2 n) t v)
fault_step q (fault.P3 n) u a b t = subst (λ x. IsJudgedAs q (no x)) (sym (b (λ e. absurd (cc e)))) (λ v. no_plan q (fault.P3 n) t v)
fault_step q (fault.P4 n) u a b t = subst (λ x. IsJudgedAs q (no x)) (sym (b (λ e. absurd (cc e)))) (λ v. no_plan q (fault.P4 n) t v)
fault_step q (fault.P5 n) u a b t = subst (λ x. IsJudgedAs q (no x)) (sym (b (λ e. absurd (cc e)))) (λ v. no_plan q (fault.P5 n) t v)
fault_step q (fault.P6 n) u a b t = subst (λ x. IsJudgedAs q (no x)) (sym (b (λ e. absurd (cc e)))) (λ v. no_plan q (fault.P6 n) t v)
fault_step q (fault.P7 n) u a b t = subst (λ x. IsJudgedAs q (no x)) (sym (b (λ e. absurd (cc e)))) (λ v. no_plan q (fault.P7 n) t v)
fault_step q (fault.P8 l n) u a b t = subst (λ x. IsJudgedAs q (no x)) (sym (b (λ e. absurd (cc e)))) (λ v. no_plan q (fault.P8 l n) t v)
fault_step q (fault.P9 n) u a b t = subst (λ x. IsJudgedAs q (no x)) (sym (b (λ e. absurd (cc e)))) (λ v. no_plan q (fault.P9 n) t v)
fault_step q fault.NoMemory u a b t = subst (λ x. IsJudgedAs q (no x)) (sym (a refl)) tt

-- the last layer
pub ended_no : (short : Bool) (q : PlanForm) → (is_apart q ≡ true → IsPlan q) → (IsPlan q → ⊥) → no N5 ≡ (if short && is_apart q then yes q else no N5)
ended_no false q v n = refl
ended_no true q v n = ⊎_elim
    (λ t. absurd (n (v t)))
    (λ f. sym (ap (λ b. if b then yes q else no N5) f))
    (cases_Bool (is_apart q))

-- a valid result is accepted
pub ended_yes : (short : Bool) (q : PlanForm) → short ≡ true → is_apart q ≡ true → yes q ≡ (if short && is_apart q then yes q else no N5)
ended_yes short q s a = sym (ap (λ b. if b && is_apart q then yes q else no N5) s ∙ ap (λ b. if b then yes q else no N5) a)

-- names that are too long are refused
pub ended_long : (short : Bool) (q : PlanForm) → short ≡ false → no N5 ≡ (if short && is_apart q then yes q else no N5)
ended_long short q s = sym (ap (λ b. if b && is_apart q then yes q else no N5) s)

-- what was judged ends the step
pub judged_step : (short : Bool) (q : PlanForm) (u : Answer) → short ≡ true → (is_apart q ≡ true → IsPlan q) × (IsPlan q → is_apart q ≡ true) → IsJudgedAs q u
    → HoldsOfAnswer (λ x. x ≡ (if short && is_apart q then yes q else no N5)) u
judged_step short q (Ok r) s v j = ap yes j.0 ∙ ended_yes short q s (v.1 j.1)
judged_step short q (Err U1) s v j = absurd j
judged_step short q (Err U2) s v j = absurd j
judged_step short q (Err U3) s v j = absurd j
judged_step short q (Err U4) s v j = absurd j
judged_step short q (Err U5) s v j = absurd j
judged_step short q (Err H1) s v j = absurd j
judged_step short q (Err H2) s v j = absurd j
judged_step short q (Err H3) s v j = absurd j
judged_step short q (Err H4) s v j = absurd j
judged_step short q (Err N1) s v j = absurd j
judged_step short q (Err N2) s v j = absurd j
judged_step short q (Err N3) s v j = absurd j
judged_step short q (Err N4) s v j = absurd j
judged_step short q (Err N5) s v j = ended_no short q v.0 j
judged_step short q (Err NoMemory) s v j = tt

-- how long a label may be
pub short_le : (l : Name) (n : ℕ) → 1 ≤ n → are_short (all_made (made_of l) n) ≡ true → length l + longest n ≤ 64
short_le l n some h = let e : nat_le (length l + longest n) 64 ≡ true = short_is l n (length l) (longest n) some refl refl ∙ h in grind (arith, e)

-- THE LAYERS BEFORE

in_bounds : (n : ℕ) (x y : Answer) → 2 ≤ n → n ≤ 16 → (if nat_le 2 n && nat_le n 16 then x else y) ≡ x
in_bounds n x y a b =
    ap (λ t. if t && nat_le n 16 then x else y) (let e : nat_le 2 n ≡ true = grind (arith, a) in e)
    ∙ ap (λ t. if t then x else y) (let e : nat_le n 16 ≡ true = grind (arith, b) in e)

not_one : (p : PlanForm) (l : Name) (op : OpForm) (n : ℕ) (rs : List Name) → length rs ≢ 1 → by_reads p l op n rs ≡ no N3
not_one p l op n [] h = refl
not_one p l op n (x ∷ []) h = absurd (h refl)
not_one p l op n (x ∷ y ∷ rs) h = refl

-- not one input
pub step_not_one : (p : PlanForm) (l : Name) (op : OpForm) (n : ℕ) → 2 ≤ n → n ≤ 16 → length op.reads ≢ 1 → no N3 ≡ by_op p l n (Some op)
step_not_one p l op n a b h = sym (in_bounds n (by_reads p l op n op.reads) (no N2) a b ∙ not_one p l op n op.reads h)

-- one input
pub one_read : (rs : List Name) (q : Name) → length rs ≡ 1 → ((d : Name) → q ≡ slice_index_or rs 0 d) → rs ≡ q ∷ []
one_read [] q l h = absurd (omega (arith, l))
one_read (x ∷ []) q l h = ap (λ y. y ∷ []) (sym (h x))
one_read (x ∷ y ∷ rs) q l h = absurd (omega (arith, l))

-- with one input
step_way : (p : PlanForm) (l : Name) (op : OpForm) (n : ℕ) (source : Name) (t : QueueType) (o : Option Way) → 2 ≤ n → n ≤ 16 → op.reads ≡ source ∷ []
    → t ≡ kind_of (all_decls p) source → way_of p op (made_of l) n t ≡ o
    → by_op p l n (Some op) ≡ by_way p l op n t o
step_way p l op n source t o a b r e h =
    in_bounds n (by_reads p l op n op.reads) (no N2) a b
    ∙ ap (by_reads p l op n) r
    ∙ ap (λ k. by_way p l op n k (way_of p op (made_of l) n k)) (sym e)
    ∙ ap (by_way p l op n t) h

-- none of the three forms
pub step_no_way : (p : PlanForm) (l : Name) (op : OpForm) (n : ℕ) (source : Name) (t : QueueType) → 2 ≤ n → n ≤ 16 → op.reads ≡ source ∷ []
    → t ≡ kind_of (all_decls p) source → way_of p op (made_of l) n t ≡ None → no N4 ≡ by_op p l n (Some op)
step_no_way p l op n source t a b r e h = sym (step_way p l op n source t None a b r e h)

module _ (p : PlanForm) (l : Name) (i : ℕ) (op : OpForm) (n : ℕ) (source : Name) (t : QueueType) (w : Way) (place : IsPlace l p.ops i)
    (g : slice_get p.ops i ≡ Some op) (few : n ≤ 16) (many : 2 ≤ n)
    (r : op.reads ≡ source ∷ []) (e : t ≡ kind_of (all_decls p) source) (h : way_of p op (made_of l) n t ≡ Some w) where
  split_is : split_by p l op (made_of l) n t w ≡ split_plan p i op (made_of l) n t w
  split_is = ap (λ ops. record (split_by p l op (made_of l) n t w) { ops = ops }) (place.swap (split_ops op (made_of l) n w))

  -- the tests of the result
  pub apart_valid : IsPlan p → let q = split_plan p i op (made_of l) n t w in (is_apart q ≡ true → IsPlan q) × (IsPlan q → is_apart q ≡ true)
  apart_valid v =
      let here : first_with (named_it l) p.ops ≡ Some op = place.first ∙ sym place.at ∙ g in
      subst (λ (q : PlanForm). (is_apart q ≡ true → IsPlan q) × (IsPlan q → is_apart q ≡ true)) split_is
      (subst (λ k. (is_apart (split_by p l op (made_of l) n k w) ≡ true → IsPlan (split_by p l op (made_of l) n k w)) ×
      (IsPlan (split_by p l op (made_of l) n k w) → is_apart (split_by p l op (made_of l) n k w) ≡ true)) (sym e)
      (fission_apart p l n op source w v here r (omega (arith, many)) (subst (λ k. way_of p op (made_of l) n k ≡ Some w) e h)))

  -- the layers one under the other
  pub step_ends : (u : Answer)
      → HoldsOfAnswer (λ x. x ≡
      (if are_short (all_made (made_of l) n) && is_apart (split_plan p i op (made_of l) n t w) then yes (split_plan p i op (made_of l) n t w) else no N5)) u
      → HoldsOfAnswer (λ x. x ≡ by_op p l n (Some op)) u
  step_ends u s =
      subst (λ y. HoldsOfAnswer (λ x. x ≡ y) u)
      (ap (λ q. if are_short (all_made (made_of l) n) && is_apart q then yes q else no N5) (sym split_is)
      ∙ sym (step_way p l op n source t (Some w) many few r e h)) s

-- the answer of the whole
pub step_answered : (told : Answer) (u : Answer) → HoldsOfAnswer (λ x. x ≡ told) u → IsAnswered told u
step_answered told (Ok q) h = sym h
step_answered told (Err U1) h = sym h
step_answered told (Err U2) h = sym h
step_answered told (Err U3) h = sym h
step_answered told (Err U4) h = sym h
step_answered told (Err U5) h = sym h
step_answered told (Err H1) h = sym h
step_answered told (Err H2) h = sym h
step_answered told (Err H3) h = sym h
step_answered told (Err H4) h = sym h
step_answered told (Err N1) h = sym h
step_answered told (Err N2) h = sym h
step_answered told (Err N3) h = sym h
step_answered told (Err N4) h = sym h
step_answered told (Err N5) h = sym h
step_answered told (Err NoMemory) h = tt

-- the place of a label
pub place_below : (l : Name) (ops : List Op) (i : ℕ) → IsPlace l (op_forms ops) i → i < length ops
place_below l ops i p = let e = length-map ops op_form in let b = p.below in omega (arith, b, e)
