-- Lists of names and of declarations that are cut at a name.
use Rattle.std.proofs.Common.{◌≡◌, suc, ◌<◌, List, [], ◌∷◌, ◌++◌, length, refl, ap, ◌∙◌, subst, arith, ⊎_elim}
use Rattle.std.specs.Prelude.{true}
use Rattle.brooklet_model.proofs.Spliced.{spliced_next}
use Rattle.river_base.proofs.PlaceLemmas.{if_true, if_false}
use Rattle.river_base.specs.Name.{name_eq}
use Rattle.river_kernels.specs.Fits.{spliced}
use Rattle.river_base.specs.declared.kind.QueueType.{QueueType}
use Rattle.river_plan.specs.declared.plan.Decl.{Decl}
use Rattle.river_plan.specs.Forms.{Name, decl_names}
use Rattle.river_plan.specs.Names.{count, one_if}
use Rattle.river_plan.proofs.NameLemmas.{cases_name, name_same}
use Rattle.plan_edits.specs.Lists.{place_of_name, undeclared, retyped}

-- the names on both sides of one
pub record Parted (q : Name) (ws : List Name) : Type 0 where
  pub left : List Name
  pub right : List Name
  pub is : ws ≡ left ++ q ∷ right

-- a name that is there
pub parted : (q : Name) (ws : List Name) → 0 < count q ws → Parted q ws
parted q [] lt = absurd (omega (arith, lt))
parted q (w ∷ ws) lt = ⊎_elim
    (λ c. record { left = []; right = ws; is = ap (λ n. n ∷ ws) c.0 })
    (λ c.
    let z = ap one_if c.1 in
    let r = parted q ws (omega (arith, z, lt)) in
    record { left = w ∷ r.left; right = r.right; is = ap (λ l. w ∷ l) r.is })
    (cases_name w q)

-- its place is the length of the left side
pub place_cut : (left right : List Name) (q : Name) → count q left ≡ 0 → place_of_name q (left ++ q ∷ right) ≡ length left
place_cut [] right q z = if_true (name_eq q q) 0 (suc (place_of_name q right)) (name_same q)
place_cut (w ∷ left) right q z = ⊎_elim
    (λ c. absurd (let e = ap one_if c.1 in omega (arith, e, z)))
    (λ c. if_false (name_eq w q) 0 (suc (place_of_name q (left ++ q ∷ right))) c.1 ∙ ap suc (place_cut left right q (omega (arith, z))))
    (cases_name w q)

-- others in its place
pub spliced_cut : {A : Type 0} (left : List A) (x : A) (right bs : List A) → spliced (length left) (left ++ x ∷ right) bs ≡ left ++ (bs ++ right)
spliced_cut [] x right bs = refl
spliced_cut (w ∷ left) x right bs = spliced_next (length left) w (left ++ x ∷ right) bs ∙ ap (λ l. w ∷ l) (spliced_cut left x right bs)

-- the declarations on both sides of one
pub record Declared (q : Name) (ds : List Decl) : Type 0 where
  pub ahead : List Decl
  pub decl : Decl
  pub after : List Decl
  pub named : decl.name ≡ q
  pub is : ds ≡ ahead ++ decl ∷ after
  pub none : count q (decl_names ahead) ≡ 0

-- a name that is declared
pub declared : (q : Name) (ds : List Decl) → 0 < count q (decl_names ds) → Declared q ds
declared q [] lt = absurd (omega (arith, lt))
declared q (d ∷ ds) lt = ⊎_elim
    (λ c. record { ahead = []; decl = d; after = ds; named = c.0; is = refl; none = refl })
    (λ c.
    let z = ap one_if c.1 in
    let r = declared q ds (omega (arith, z, lt)) in
    let n = r.none in
    record { ahead = d ∷ r.ahead; decl = r.decl; after = r.after; named = r.named; is = ap (λ l. d ∷ l) r.is; none = omega (arith, z, n) })
    (cases_name d.name q)

-- the others
pub undeclared_cut : (ahead after : List Decl) (d : Decl) (q : Name) → d.name ≡ q → count q (decl_names ahead) ≡ 0
    → undeclared q (ahead ++ d ∷ after) ≡ ahead ++ after
undeclared_cut [] after d q n z = if_true (name_eq d.name q) after (d ∷ undeclared q after) (subst (λ m. name_eq d.name m ≡ true) n (name_same d.name))
undeclared_cut (a ∷ ahead) after d q n z = ⊎_elim
    (λ c. absurd (let e = ap one_if c.1 in omega (arith, e, z)))
    (λ c.
    if_false (name_eq a.name q) (ahead ++ d ∷ after) (a ∷ undeclared q (ahead ++ d ∷ after)) c.1
    ∙ ap (λ l. a ∷ l) (undeclared_cut ahead after d q n (omega (arith, z))))
    (cases_name a.name q)

-- the same with another type
pub retyped_cut : (ahead after : List Decl) (d : Decl) (q : Name) (t : QueueType) → d.name ≡ q → count q (decl_names ahead) ≡ 0
    → retyped q t (ahead ++ d ∷ after) ≡ ahead ++ record d { kind = t } ∷ after
retyped_cut [] after d q t n z =
    if_true (name_eq d.name q) (record d { kind = t } ∷ after) (d ∷ retyped q t after) (subst (λ m. name_eq d.name m ≡ true) n (name_same d.name))
retyped_cut (a ∷ ahead) after d q t n z = ⊎_elim
    (λ c. absurd (let e = ap one_if c.1 in omega (arith, e, z)))
    (λ c.
    if_false (name_eq a.name q) (record a { kind = t } ∷ (ahead ++ d ∷ after)) (a ∷ retyped q t (ahead ++ d ∷ after)) c.1
    ∙ ap (λ l. a ∷ l) (retyped_cut ahead after d q t n (omega (arith, z))))
    (cases_name a.name q)
