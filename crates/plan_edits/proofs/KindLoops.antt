-- Loops that look for the type of a queue.
use Rattle.std.proofs.Common.{◌≡◌, ℕ, ◌+◌, ◌<◌, Bool, true, false, Option, Some, None, List, [], ◌∷◌, ◌++◌, length, drop, get_or, refl, sym, ap, ◌∙◌}
use Rattle.std.specs.Prelude.{if◌then◌else◌, unwrap_or}
use Rattle.std.proofs.lemmas.List.{at_drop_more}
use Rattle.river_base.specs.Name.{name_eq}
use Rattle.river_base.specs.declared.kind.QueueType.{QueueType}
use Rattle.river_kernels.specs.Fits.{rows}
use Rattle.river_plan.specs.declared.plan.Decl.{Decl}
use Rattle.river_plan.specs.Forms.{Name, PlanForm, all_decls}
use Rattle.river_plan.specs.Kinds.{kind_in, kind_of}

-- a declaration of another name decides nothing
pub kind_next : (q : Name) (ds : List Decl) (i : ℕ) (d : Decl) → i < length ds → d ≡ get_or ds i d → name_eq d.name q ≡ false
    → kind_in (drop i ds) q ≡ kind_in ds q → kind_in (drop (i + 1) ds) q ≡ kind_in ds q
kind_next q ds i d lt e n h =
    sym (ap (λ b. if b then Some d.kind else kind_in (drop (i + 1) ds) q) n) ∙ ap (λ u. kind_in (u ∷ drop (i + 1) ds) q) e
    ∙ sym (at_drop_more (λ l. kind_in l q) ds i d lt) ∙ h

-- the first declaration of the name decides
pub kind_found : (q : Name) (ds : List Decl) (i : ℕ) (d : Decl) → i < length ds → d ≡ get_or ds i d → name_eq d.name q ≡ true
    → kind_in (drop i ds) q ≡ kind_in ds q → Some d.kind ≡ kind_in ds q
kind_found q ds i d lt e n h =
    sym (sym h ∙ at_drop_more (λ l. kind_in l q) ds i d lt ∙ ap (λ u. kind_in (u ∷ drop (i + 1) ds) q) (sym e)
    ∙ ap (λ b. if b then Some d.kind else kind_in (drop (i + 1) ds) q) n)

-- the first of two look-ups that finds something
abbrev pub kind_or : Option QueueType → Option QueueType → Option QueueType
kind_or (Some t) o = Some t
kind_or None o = o

-- in the first list that has it
pub kind_join : (xs ys : List Decl) (q : Name) → kind_in (xs ++ ys) q ≡ kind_or (kind_in xs q) (kind_in ys q)
kind_join [] ys q = refl
kind_join (x ∷ xs) ys q = arms (name_eq x.name q) (kind_join xs ys q)
  where
    arms : (b : Bool) → kind_in (xs ++ ys) q ≡ kind_or (kind_in xs q) (kind_in ys q)
        → (if b then Some x.kind else kind_in (xs ++ ys) q) ≡ kind_or (if b then Some x.kind else kind_in xs q) (kind_in ys q)
    arms true h = refl
    arms false h = h

-- the type of a queue of a plan
pub kind_is : (p : PlanForm) (q : Name)
    → kind_of (all_decls p) q ≡ unwrap_or (kind_or (kind_in p.outputs q) (kind_or (kind_in p.inputs q) (kind_in p.queues q))) (rows 0)
kind_is p q =
    ap (λ o. unwrap_or o (rows 0)) (kind_join p.outputs (p.inputs ++ p.queues) q ∙ ap (kind_or (kind_in p.outputs q)) (kind_join p.inputs p.queues q))

-- found among the outputs
pub kind_first : (p : PlanForm) (q : Name) (k : QueueType) → kind_in p.outputs q ≡ Some k → k ≡ kind_of (all_decls p) q
kind_first p q k e = sym (kind_is p q ∙ ap (λ o. unwrap_or (kind_or o (kind_or (kind_in p.inputs q) (kind_in p.queues q))) (rows 0)) e)

-- found among the inputs
pub kind_second : (p : PlanForm) (q : Name) (k : QueueType) → kind_in p.outputs q ≡ None → kind_in p.inputs q ≡ Some k → k ≡ kind_of (all_decls p) q
kind_second p q k n e =
    sym (kind_is p q ∙ ap (λ o. unwrap_or (kind_or o (kind_or (kind_in p.inputs q) (kind_in p.queues q))) (rows 0)) n
    ∙ ap (λ o. unwrap_or (kind_or o (kind_in p.queues q)) (rows 0)) e)

-- found among the other queues, or nowhere
pub kind_third : (p : PlanForm) (q : Name) (o : Option QueueType) → kind_in p.outputs q ≡ None → kind_in p.inputs q ≡ None → kind_in p.queues q ≡ o
    → unwrap_or o (rows 0) ≡ kind_of (all_decls p) q
kind_third p q o n m e =
    sym (kind_is p q ∙ ap (λ x. unwrap_or (kind_or x (kind_or (kind_in p.inputs q) (kind_in p.queues q))) (rows 0)) n
    ∙ ap (λ x. unwrap_or (kind_or x (kind_in p.queues q)) (rows 0)) m ∙ ap (λ x. unwrap_or x (rows 0)) e)
