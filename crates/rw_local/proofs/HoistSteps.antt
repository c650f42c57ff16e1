-- What is known where a step of hoisting is accepted.
use Rattle.std.proofs.Common.{◌≡◌, ℕ, Some, None, List, [], ◌∷◌, length, refl, sym, ap, ◌∙◌, subst, ⊎_elim, map}
use Rattle.std.specs.Prelude.{Option, Result, Ok, Err, slice_get}
use Rattle.std.proofs.lemmas.Bool.{cases_eq}
use Rattle.river_base.proofs.PlaceLemmas.{if_eq, if_ne}
use Rattle.river_base.proofs.Options.{ok_same, not_ok}
use Rattle.river_base.specs.declared.item.Item as item
use Rattle.work_code.specs.Term.{Term}
use Rattle.river_kernels.specs.Kern.{Kern, select}
use Rattle.river_plan.specs.Forms.{Name, OpForm, PlanForm, all_decls}
use Rattle.river_plan.specs.Kinds.{kind_of}
use Rattle.river_plan.specs.Uses.{writes_it, named_it}
use Rattle.river_plan.specs.Valid.{IsPlan}
use Rattle.plan_edits.specs.declared.unfit.Unfit.{Unfit}
use Rattle.plan_edits.specs.declared.unfit.Unfit.TheVariants.{H1, H2}
use Rattle.plan_edits.specs.Lists.{first_with}
use Rattle.plan_edits.specs.Meaning.{SameOuter, SameMeaning}
use Rattle.plan_edits.proofs.MeaningSame.{AreTypedHistories}
use Rattle.brooklet_model.proofs.TypedPlan.{typed_law}
use Rattle.plan_edits.proofs.MeaningSame.{meaning_same}
use Rattle.rw_local.specs.Hoist.{first_width, passes, hoisted_plan, hoist_at, hoist_passed, hoist_past, hoist_between, hoist_kernel, hoist_found, hoist_of}
use Rattle.rw_local.specs.Hoist.{HoistKeeps}
use Rattle.rw_local.proofs.HoistLaw.{MayHoist}
use Rattle.rw_local.proofs.HoistLaw.{hoist_keeps}

-- what an accepted hoisting found
pub record Accepted (p : PlanForm) (l : Name) (p' : PlanForm) : Type 0 where
  pub above : OpForm
  pub below : OpForm
  pub cond : Term
  pub side : ℕ
  pub moved : Term
  pub src : Name
  pub mid : Name
  pub out : Name
  pub may : MayHoist p l above below cond side moved src mid out
  pub is : hoisted_plan p above below side moved src mid out ≡ p'

module _ (p : PlanForm) (l : Name) (p' : PlanForm) where
  abbrev first_of : OpForm → ℕ
  first_of b = first_width (map (kind_of (all_decls p)) b.reads)

  there : (u b : OpForm) (t : Term) (mid out : Name) (x : ℕ × Term) (o : Option Name) → first_with (named_it l) p.ops ≡ Some u → u.kernel ≡ select t
      → slice_get u.reads 0 ≡ Some mid → slice_get u.writes 0 ≡ Some out
      → first_with (writes_it mid) p.ops ≡ Some b → length b.writes ≡ 1 → passes (first_of b) b.kernel t ≡ Ok x → slice_get b.reads x.0 ≡ o
      → hoist_at p u b mid out x o ≡ Ok p' → Accepted p l p'
  there u b t mid out x None a k r w below one ps so h = absurd (not_ok H2 p' h)
  there u b t mid out x (Some src) a k r w below one ps so h = record {
    above = u;
    below = b;
    cond = t;
    side = x.0;
    moved = x.1;
    src = src;
    mid = mid;
    out = out;
    may = record { here = a; selects = k; reads = r; writes = w; below = below; only = one; passes = ps; source = so };
    is = ok_same (hoist_at p u b mid out x (Some src)) (hoisted_plan p u b x.0 x.1 src mid out) p' refl h;
  }

  passed : (u b : OpForm) (t : Term) (mid out : Name) (x : Result (ℕ × Term) Unfit) → first_with (named_it l) p.ops ≡ Some u → u.kernel ≡ select t
      → slice_get u.reads 0 ≡ Some mid → slice_get u.writes 0 ≡ Some out
      → first_with (writes_it mid) p.ops ≡ Some b → length b.writes ≡ 1 → passes (first_of b) b.kernel t ≡ x → hoist_passed p u b mid out x ≡ Ok p'
      → Accepted p l p'
  passed u b t mid out (Err f) a k r w below one ps h = absurd (not_ok f p' h)
  passed u b t mid out (Ok x) a k r w below one ps h = there u b t mid out x (slice_get b.reads x.0) a k r w below one ps refl h

  past : (u : OpForm) (t : Term) (mid out : Name) (o : Option OpForm) → first_with (named_it l) p.ops ≡ Some u → u.kernel ≡ select t
      → slice_get u.reads 0 ≡ Some mid → slice_get u.writes 0 ≡ Some out
      → first_with (writes_it mid) p.ops ≡ o → hoist_past p u t mid out o ≡ Ok p' → Accepted p l p'
  past u t mid out None a k r w below h = absurd (not_ok H2 p' h)
  past u t mid out (Some b) a k r w below h = ⊎_elim
      (λ one. passed u b t mid out (passes (first_of b) b.kernel t) a k r w below one refl (sym (if_eq (length b.writes) 1 _ _ one) ∙ h))
      (λ more. absurd (not_ok H2 p' (sym (if_ne (length b.writes) 1 _ _ more) ∙ h)))
      (cases_eq (length b.writes) 1)

  between : (u : OpForm) (t : Term) (rs ws : List Name) → first_with (named_it l) p.ops ≡ Some u → u.kernel ≡ select t → u.reads ≡ rs → u.writes ≡ ws
      → hoist_between p u t rs ws ≡ Ok p' → Accepted p l p'
  between u t [] ws a k r w h = absurd (not_ok H1 p' h)
  between u t (mid ∷ rs) [] a k r w h = absurd (not_ok H1 p' h)
  between u t (mid ∷ rs) (out ∷ ws) a k r w h =
      past u t mid out (first_with (writes_it mid) p.ops) a k (ap (λ x. slice_get x 0) r) (ap (λ x. slice_get x 0) w) refl h

  kernel : (u : OpForm) (k : Kern) → first_with (named_it l) p.ops ≡ Some u → u.kernel ≡ k → hoist_kernel p u k ≡ Ok p' → Accepted p l p'
  kernel u (select t) a e h = between u t u.reads u.writes a e refl refl h
  kernel u any a e h = absurd (not_ok H1 p' h)

  found : (o : Option OpForm) → first_with (named_it l) p.ops ≡ o → hoist_found p o ≡ Ok p' → Accepted p l p'
  found None a h = absurd (not_ok H1 p' h)
  found (Some u) a h = kernel u u.kernel a refl h

  -- an accepted hoisting found a selection that may be hoisted
  pub accepted : hoist_of p l ≡ Ok p' → Accepted p l p'
  accepted h = found (first_with (named_it l) p.ops) refl h

-- hoisting keeps a plan valid, and all its histories and rows, where all items are of their queues' types
pub hoist_same : (p p' : PlanForm) (l : Name) → IsPlan p → hoist_of p l ≡ Ok p'
    → IsPlan p' × SameOuter p p' × ((inputs : List (List item.Item)) → AreTypedHistories p inputs → SameMeaning p p' inputs)
hoist_same p p' l v h =
    let a = accepted p l p' h in
    let k = hoist_keeps p l a.above a.below a.cond a.side a.moved a.src a.mid a.out v a.may in (
      subst IsPlan a.is k.0,
      subst (SameOuter p) a.is (record { outputs = refl; inputs = refl; tables = refl }),
      λ inputs typed. subst (λ x. SameMeaning p x inputs) a.is (k.1 inputs typed),
    )

-- the law of hoisting
pub hoist_law : HoistKeeps
hoist_law p p' l v h =
    let k = hoist_same p p' l v h in (k.0, k.1, λ inputs a. meaning_same p p' inputs k.1 (k.2 inputs (typed_law p inputs v a)))
