-- Lists of queues in which one takes the place of another, and declarations with another type.
use Rattle.std.proofs.Common.{◌≡◌, ◌≢◌, ℕ, zero, suc, ◌+◌, ◌<◌, ◌≤◌, false, Some, None, List, [], ◌∷◌, ◌++◌, length, refl, sym, ap, ◌∙◌, subst, arith, ⊎_elim}
use Rattle.std.proofs.Common.{map}
use Rattle.std.specs.Prelude.{slice_get, All, if◌then◌else◌, unwrap_or}
use Rattle.std.proofs.lemmas.Bool.{cases_eq}
use Rattle.std.proofs.lemmas.List.Elements.{All-head, All-tail, All-cons, All-nil}
use Rattle.std.proofs.lemmas.Option.{same_Some}
use Rattle.brooklet_model.proofs.Spliced.{spliced_next}
use Rattle.river_plan.proofs.ValidLaw.{total-append}
use Rattle.river_base.proofs.PlaceLemmas.{if_lt, if_true, if_false, if_eq, if_ne}
use Rattle.river_base.specs.Held.{HasType}
use Rattle.river_base.specs.Name.{name_eq}
use Rattle.river_base.specs.declared.kind.QueueType.{QueueType}
use Rattle.river_kernels.specs.Limits.{either}
use Rattle.river_kernels.specs.Fits.{spliced, rows}
use Rattle.river_plan.specs.declared.plan.Decl.{Decl}
use Rattle.river_plan.specs.Forms.{Name, OpForm, decl_names}
use Rattle.river_plan.specs.Names.{count, one_if}
use Rattle.river_plan.specs.Uses.{total}
use Rattle.river_plan.specs.Kinds.{kind_in, kind_of}
use Rattle.river_plan.proofs.NameLemmas.{cases_name, count-append}
use Rattle.plan_edits.proofs.Lookups.{kind_in-append}
use Rattle.brooklet_model.specs.Histories.{History, lists_of}
use Rattle.brooklet_model.specs.Typed.{IsOf, AreOf}
use Rattle.brooklet_model.proofs.Solutions.{count_here, lists_by_place}
use Rattle.plan_edits.specs.Lists.{first_with, retyped}
use Rattle.plan_edits.proofs.Surgery.{found, first_past}
use Rattle.rw_local.proofs.PassCases.{with_at}

-- ONE NAME IN THE PLACE OF ANOTHER

-- how often a name is read, one in the place of another
pub moved_count : (rs vs : List Name) (side : ℕ) (src x : Name) → slice_get rs side ≡ Some src
    → count x (spliced side rs vs) + one_if (name_eq src x) ≡ count x rs + count x vs
moved_count [] vs side src x h = absurd (cc h)
moved_count (r ∷ rs) vs zero src x h = let a = count-append x vs rs in let e = ap (λ n. one_if (name_eq n x)) (same_Some r src h) in omega (arith, a, e)
moved_count (r ∷ rs) vs (suc side) src x h = let n = ap (count x) (spliced_next side r rs vs) in let i = moved_count rs vs side src x h in omega (arith, n, i)

-- an element in its own place
pub spliced_same : {A : Type 0} (xs : List A) (side : ℕ) (x : A) → slice_get xs side ≡ Some x → spliced side xs (x ∷ []) ≡ xs
spliced_same [] side x h = absurd (cc h)
spliced_same (y ∷ ys) zero x h = let e : y ≡ x = cc h in ap (λ z. z ∷ ys) (sym e)
spliced_same (y ∷ ys) (suc side) x h = spliced_next side y ys (x ∷ []) ∙ ap (λ l. y ∷ l) (spliced_same ys side x h)

-- what is read once mid stands in the place of one
pub lists_moved : (h h' : History) (rs : List Name) (side : ℕ) (mid : Name) → side < length rs → ((x : Name) → 0 < count x rs → h' x ≡ h x) → (p : ℕ)
    → lists_of h' (spliced side rs (mid ∷ [])) p ≡ with_at side (h' mid) (lists_of h rs) p
lists_moved h h' [] side mid lt e p = absurd (omega (arith, lt))
lists_moved h h' (r ∷ rs) zero mid lt e zero = sym (if_eq 0 0 (h' mid) (h r) refl)
lists_moved h h' (r ∷ rs) zero mid lt e (suc p) =
    lists_by_place h' h rs (λ x lx. e x (omega (arith, lx))) p ∙ sym (if_ne (suc p) 0 (h' mid) (lists_of h rs p) (let n : suc p ≢ 0 = omega arith in n))
lists_moved h h' (r ∷ rs) (suc side) mid lt e zero =
    ap (λ l. lists_of h' l 0) (spliced_next side r rs (mid ∷ [])) ∙ e r (count_here r rs)
    ∙ sym (if_ne 0 (suc side) (h' mid) (h r) (let n : 0 ≢ suc side = omega arith in n))
lists_moved h h' (r ∷ rs) (suc side) mid lt e (suc p) =
    ap (λ l. lists_of h' l (suc p)) (spliced_next side r rs (mid ∷ []))
    ∙ lists_moved h h' rs side mid (omega (arith, lt)) (λ x lx. e x (omega (arith, lx))) p
    ∙ ⊎_elim
    (λ k. if_eq p side (h' mid) (lists_of h rs p) k ∙ sym (if_eq (suc p) (suc side) (h' mid) (lists_of h rs p) (ap suc k)))
    (λ k. if_ne p side (h' mid) (lists_of h rs p) k
    ∙ sym (if_ne (suc p) (suc side) (h' mid) (lists_of h rs p) (λ d. k (let u : p ≡ side = omega (arith, d) in u))))
    (cases_eq p side)

-- all items that are read are of their queues' types
pub reads_of : (kind : Name → QueueType) (h : History) (rs : List Name) → ((q : Name) → All (HasType (kind q)) (h q)) → AreOf (map kind rs) (lists_of h rs)
reads_of kind h [] a p = All-nil (IsOf [] p)
reads_of kind h (r ∷ rs) a zero = a r
reads_of kind h (r ∷ rs) a (suc p) = reads_of kind h rs a p

-- an operator found by one thing is found by another that stands once
pub found_too : (f g : OpForm → ℕ) (ops : List OpForm) (op : OpForm) → first_with f ops ≡ Some op → 0 < g op → total g ops ≤ 1 → first_with g ops ≡ Some op
found_too f g ops op h lt once =
    let w = found f ops op h in
    let a = ap (total g) w.is ∙ total-append g w.before (op ∷ w.behind) in
    ap (first_with g) w.is ∙ first_past g w.before (op ∷ w.behind) (omega (arith, a, once, lt)) ∙ if_lt 0 (g op) (Some op) (first_with g w.behind) lt

-- a list with one element
pub only_one : {A : Type 0} (xs : List A) (x : A) → length xs ≡ 1 → slice_get xs 0 ≡ Some x → xs ≡ x ∷ []
only_one [] x e h = absurd (omega (arith, e))
only_one (y ∷ []) x e h = let d : y ≡ x = cc h in ap (λ z. z ∷ []) d
only_one (y ∷ z ∷ zs) x e h = absurd (omega (arith, e))

-- ANOTHER TYPE

-- the names stay
pub retyped_names : (q : Name) (t : QueueType) (ds : List Decl) → decl_names (retyped q t ds) ≡ decl_names ds
retyped_names q t [] = refl
retyped_names q t (d ∷ ds) = ⊎_elim
    (λ c. ap decl_names (if_true (name_eq d.name q) (record d { kind = t } ∷ ds) (d ∷ retyped q t ds) c.1))
    (λ c. ap decl_names (if_false (name_eq d.name q) (record d { kind = t } ∷ ds) (d ∷ retyped q t ds) c.1) ∙ ap (λ l. d.name ∷ l) (retyped_names q t ds))
    (cases_name d.name q)

-- the types of other names stay
pub retyped_other : (q : Name) (t : QueueType) (ds : List Decl) (x : Name) → name_eq q x ≡ false → kind_in (retyped q t ds) x ≡ kind_in ds x
retyped_other q t [] x n = refl
retyped_other q t (d ∷ ds) x n = ⊎_elim
    (λ c.
    let z : name_eq d.name x ≡ false = ap (λ m. name_eq m x) c.0 ∙ n in
    ap (λ l. kind_in l x) (if_true (name_eq d.name q) (record d { kind = t } ∷ ds) (d ∷ retyped q t ds) c.1)
    ∙ if_false (name_eq d.name x) (Some t) (kind_in ds x) z ∙ sym (if_false (name_eq d.name x) (Some d.kind) (kind_in ds x) z))
    (λ c. ap (λ l. kind_in l x) (if_false (name_eq d.name q) (record d { kind = t } ∷ ds) (d ∷ retyped q t ds) c.1)
    ∙ ap (λ o. if name_eq d.name x then Some d.kind else o) (retyped_other q t ds x n))
    (cases_name d.name q)

-- the type of the name
pub retyped_here : (q : Name) (t : QueueType) (ds : List Decl) → 0 < count q (decl_names ds) → kind_in (retyped q t ds) q ≡ Some t
retyped_here q t [] lt = absurd (omega (arith, lt))
retyped_here q t (d ∷ ds) lt = ⊎_elim
    (λ c. ap (λ l. kind_in l q) (if_true (name_eq d.name q) (record d { kind = t } ∷ ds) (d ∷ retyped q t ds) c.1)
    ∙ if_true (name_eq d.name q) (Some t) (kind_in ds q) c.1)
    (λ c. ap (λ l. kind_in l q) (if_false (name_eq d.name q) (record d { kind = t } ∷ ds) (d ∷ retyped q t ds) c.1)
    ∙ if_false (name_eq d.name q) (Some d.kind) (kind_in (retyped q t ds) q) c.1
    ∙ retyped_here q t ds (let z = ap one_if c.1 in omega (arith, z, lt)))
    (cases_name d.name q)

kind_none : (ds : List Decl) (q : Name) → count q (decl_names ds) ≡ 0 → kind_in ds q ≡ None
kind_none [] q z = refl
kind_none (d ∷ ds) q z = ⊎_elim
    (λ c. absurd (let e = ap one_if c.1 in omega (arith, e, z)))
    (λ c. if_false (name_eq d.name q) (Some d.kind) (kind_in ds q) c.1 ∙ kind_none ds q (omega (arith, z)))
    (cases_name d.name q)

-- a declared name
pub kind_there : (os is ds : List Decl) (q : Name) (t : QueueType) → count q (decl_names os) ≡ 0 → count q (decl_names is) ≡ 0 → kind_in ds q ≡ Some t
    → kind_of (os ++ (is ++ ds)) q ≡ t
kind_there os is ds q t a b e =
    ap (λ o. unwrap_or o (rows 0)) (kind_in-append os (is ++ ds) q ∙ ap (λ o. either o (kind_in (is ++ ds) q)) (kind_none os q a)
    ∙ kind_in-append is ds q ∙ ap (λ o. either o (kind_in ds q)) (kind_none is q b) ∙ e)

-- as many declarations
pub retyped_length : (q : Name) (t : QueueType) (ds : List Decl) → length (retyped q t ds) ≡ length ds
retyped_length q t [] = refl
retyped_length q t (d ∷ ds) = ⊎_elim
    (λ c. ap length (if_true (name_eq d.name q) (record d { kind = t } ∷ ds) (d ∷ retyped q t ds) c.1))
    (λ c. ap length (if_false (name_eq d.name q) (record d { kind = t } ∷ ds) (d ∷ retyped q t ds) c.1) ∙ ap suc (retyped_length q t ds))
    (cases_name d.name q)

-- what holds of the declarations and of the new type
pub all_retyped : (P : Decl → Type 0) (q : Name) (t : QueueType) (ds : List Decl) → ((d : Decl) → P (record d { kind = t })) → All P ds → All P (retyped q t ds)
all_retyped P q t [] n h = h
all_retyped P q t (d ∷ ds) n h = ⊎_elim
    (λ c. subst (All P) (sym (if_true (name_eq d.name q) (record d { kind = t } ∷ ds) (d ∷ retyped q t ds) c.1))
    (All-cons P (record d { kind = t }) ds (n d) (All-tail P d ds h)))
    (λ c. subst (All P) (sym (if_false (name_eq d.name q) (record d { kind = t } ∷ ds) (d ∷ retyped q t ds) c.1))
    (All-cons P d (retyped q t ds) (All-head P d ds h) (all_retyped P q t ds n (All-tail P d ds h))))
    (cases_name d.name q)
