-- What is known where a step of fusion is accepted.
use Rattle.std.proofs.Common.{◌≡◌, ◌<◌, false, Some, None, List, [], ◌∷◌, length, refl, sym, ap, ◌∙◌, subst, arith, ⊎_elim, nat_lt}
use Rattle.std.specs.Prelude.{Option, Ok}
use Rattle.std.proofs.lemmas.Bool.{cases_lt, cases_eq, or_parts, ltb-false, cases_Bool}
use Rattle.river_base.proofs.Options.{ok_same, not_ok}
use Rattle.river_base.proofs.PlaceLemmas.{if_lt, if_ge, if_true, if_false, if_eq, if_ne}
use Rattle.river_base.specs.declared.item.Item as item
use Rattle.river_kernels.specs.Limits.{nesting}
use Rattle.river_plan.specs.Forms.{Name, OpForm, PlanForm, queue_names}
use Rattle.river_plan.specs.Names.{count, one_if}
use Rattle.river_plan.specs.Uses.{writes_it, reads_it}
use Rattle.river_plan.specs.Valid.{IsPlan}
use Rattle.river_plan.proofs.NameLemmas.{cases_name}
use Rattle.plan_edits.specs.declared.unfit.Unfit.TheVariants.{U1, U2, U3, U4, U5}
use Rattle.plan_edits.specs.Lists.{first_with}
use Rattle.plan_edits.specs.Meaning.{SameOuter, SameMeaning}
use Rattle.plan_edits.proofs.MeaningSame.{meaning_same}
use Rattle.rw_local.specs.Fuse.{fused_op, fused_plan, share, is_large, fuse_two, fuse_found, fuse_of, FuseKeeps}
use Rattle.rw_local.proofs.FuseLaw.{MayFuse}
use Rattle.rw_local.proofs.FuseLaw.{fuse_keeps}

-- lists that share no name
pub shares_none : (vs us : List Name) → share vs us ≡ false → (x : Name) → 0 < count x vs → count x us ≡ 0
shares_none [] us h x lt = absurd (omega (arith, lt))
shares_none (v ∷ vs) us h x lt =
    let b = or_parts (nat_lt 0 (count v us)) (share vs us) h in
    ⊎_elim
    (λ c. let z = ltb-false 0 (count v us) b.0 in let e = ap (λ n. count n us) c.0 in omega (arith, z, e))
    (λ c. shares_none vs us b.1 x (let e = ap one_if c.1 in omega (arith, e, lt)))
    (cases_name v x)

-- the step is accepted: there are such operators, and the result is theirs
pub record Accepted (p : PlanForm) (q : Name) (p' : PlanForm) : Type 0 where
  pub writer : OpForm
  pub reader : OpForm
  pub may : MayFuse p q writer reader
  pub is : fused_plan p q writer reader ≡ p'

module _ (p : PlanForm) (q : Name) (p' : PlanForm) where
  two : (w r : OpForm) → first_with (writes_it q) p.ops ≡ Some w → first_with (reads_it q) p.ops ≡ Some r → fuse_two p q w r ≡ Ok p' → Accepted p q p'
  two w r hw hr h =
      ⊎_elim
      (λ one. ⊎_elim
      (λ large. absurd (not_ok U4 p' (sym (if_eq (length r.reads) 1 _ _ one ∙ if_true (is_large (fused_op q w r)) _ _ large) ∙ h)))
      (λ small. ⊎_elim
      (λ s. absurd (not_ok U5 p'
      (sym (if_eq (length r.reads) 1 _ _ one ∙ if_false (is_large (fused_op q w r)) _ _ small ∙ if_true (share w.vars r.vars) _ _ s) ∙ h)))
      (λ s.
      let l = or_parts (nat_lt 32 (nesting (fused_op q w r).kernel)) (nat_lt 64 (length (fused_op q w r).writes)) small in
      record {
        writer = w;
        reader = r;
        may = record {
          writer = hw;
          reader = hr;
          only_input = one;
          nested = ltb-false 32 (nesting (fused_op q w r).kernel) l.0;
          ports = ltb-false 64 (length (fused_op q w r).writes) l.1;
          apart = shares_none w.vars r.vars s;
        };
        is =
            ok_same (fuse_two p q w r) (fused_plan p q w r) p'
            (if_eq (length r.reads) 1 _ _ one ∙ if_false (is_large (fused_op q w r)) _ _ small ∙ if_false (share w.vars r.vars) _ _ s) h;
      })
      (cases_Bool (share w.vars r.vars)))
      (cases_Bool (is_large (fused_op q w r))))
      (λ more. absurd (not_ok U3 p' (sym (if_ne (length r.reads) 1 _ _ more) ∙ h)))
      (cases_eq (length r.reads) 1)

  found : (o o' : Option OpForm) → first_with (writes_it q) p.ops ≡ o → first_with (reads_it q) p.ops ≡ o' → fuse_found p q o o' ≡ Ok p' → Accepted p q p'
  found None o' hw hr h = absurd (not_ok U2 p' h)
  found (Some w) None hw hr h = absurd (not_ok U2 p' h)
  found (Some w) (Some r) hw hr h = two w r hw hr h

  -- an accepted fusion found a writer and a reader that may be fused
  pub accepted : fuse_of p q ≡ Ok p' → Accepted p q p'
  accepted h = ⊎_elim
      (λ lt. found (first_with (writes_it q) p.ops) (first_with (reads_it q) p.ops) refl refl (sym (if_lt 0 (count q (queue_names p)) _ _ lt) ∙ h))
      (λ ge. absurd (not_ok U1 p' (sym (if_ge 0 (count q (queue_names p)) _ _ ge) ∙ h)))
      (cases_lt 0 (count q (queue_names p)))

-- fusion keeps a plan valid, and all its histories and rows, on all inputs
pub fuse_same : (p p' : PlanForm) (q : Name) → IsPlan p → fuse_of p q ≡ Ok p'
    → IsPlan p' × SameOuter p p' × ((inputs : List (List item.Item)) → SameMeaning p p' inputs)
fuse_same p p' q v h =
    let a = accepted p q p' h in
    let k = fuse_keeps p q a.writer a.reader v a.may in (
      subst IsPlan a.is k.0,
      subst (SameOuter p) a.is (record { outputs = refl; inputs = refl; tables = refl }),
      λ inputs. subst (λ x. SameMeaning p x inputs) a.is (k.1 inputs),
    )

-- the law of fusion
pub fuse_law : FuseKeeps
fuse_law p p' q v h = let k = fuse_same p p' q v h in (k.0, k.1, λ inputs a. meaning_same p p' inputs k.1 (k.2 inputs))
