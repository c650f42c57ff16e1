-- What the code of hoisting stands on.
use Rattle.std.proofs.Common.{◌≡◌, ℕ, suc, ◌+◌, ◌<◌, ◌≤◌, length, take, drop, get_or, Some, None, List, [], ◌∷◌, ◌++◌, refl, sym, ap, ◌∙◌, subst, arith, ⊎_elim}
use Rattle.std.proofs.Common.{map}
use Rattle.std.specs.Prelude.{Option, slice_get, slice_index_or, Ok, Err, Result}
use Rattle.std.specs.Option.{option_map}
use Rattle.std.proofs.Common.{append_assoc}
use Rattle.std.proofs.lemmas.Bool.{cases_lt, cases_Bool}
use Rattle.std.proofs.lemmas.List.{append-nil, map-append}
use Rattle.std.proofs.lemmas.Option.{slice_get-map, slice_get_past, slice_get_read}
use Rattle.river_base.proofs.PlaceLemmas.{if_lt, if_ge, if_true, if_false, if_eq}
use Rattle.river_base.specs.Name.{name_eq}
use Rattle.river_base.specs.declared.kind.QueueType.{QueueType}
use Rattle.work_code.specs.declared.expr.Expr.{Expr}
use Rattle.work_code.specs.Term.{Term, term}
use Rattle.river_kernels.specs.Kern.{select}
use Rattle.river_plan.specs.declared.op.Op.{Op}
use Rattle.river_plan.specs.declared.plan.Decl.{Decl}
use Rattle.river_plan.specs.Forms.{Name, OpForm, PlanForm, op_form, op_forms, decl_names, all_decls}
use Rattle.river_plan.specs.Names.{count, one_if}
use Rattle.river_plan.specs.Uses.{writes_it, named_it}
use Rattle.river_plan.specs.Kinds.{kind_of}
use Rattle.river_plan.specs.Valid.{IsPlan}
use Rattle.river_plan.proofs.NameLemmas.{name_is}
use Rattle.plan_edits.specs.declared.unfit.Unfit.{Unfit}
use Rattle.plan_edits.specs.declared.unfit.Unfit.TheVariants.{U1, U2, U3, U4, U5, H1, H2, H3, H4, N1, N2, N3, N4, N5, NoMemory}
use Rattle.plan_edits.specs.Lists.{place_of_name, first_with, replaced, retyped}
use Rattle.plan_edits.specs.Answered.{IsAnswered}
use Rattle.rw_local.specs.HoistCode.{IsPassing, SelectsAt}
use Rattle.rw_local.specs.Hoist.{plain_field, of_projection, first_side_width, first_width, passes, hoisted_plan, hoist_passed, hoist_past, hoist_between}
use Rattle.rw_local.specs.Hoist.{hoist_kernel, hoist_found, hoist_of}
use Rattle.rw_local.proofs.HoistLaw.{MayHoist}
use Rattle.rw_local.proofs.OpLoops.{forms_next}
use Rattle.rw_local.proofs.HoistLaw.{hoist_keeps, mid_inner}

-- the field of which a field of a projection is a copy
pub plain_at : (xs : List Expr) (i : ℕ) (x : Expr) (o : Option ℕ) → slice_get xs i ≡ Some x → o ≡ plain_field (Some (term x))
    → o ≡ of_projection (map term xs) i
plain_at xs i x o h e = e ∙ sym (ap plain_field (slice_get-map term xs i ∙ ap (option_map term) h))

-- beyond a projection there is no field
pub plain_past : (xs : List Expr) (i : ℕ) → length xs ≤ i → None ≡ of_projection (map term xs) i
plain_past xs i ge = sym (ap plain_field (slice_get-map term xs i ∙ ap (option_map term) (slice_get_past xs i ge)))

-- TYPES

-- the width of the first input
pub width_first : (kind : Name → QueueType) (rs : List Name) (r : Name) (n : ℕ) → 0 < length rs → ((d : Name) → r ≡ slice_index_or rs 0 d)
    → n ≡ first_side_width (kind r) → n ≡ first_width (map kind rs)
width_first kind [] r n lt e h = absurd (omega (arith, lt))
width_first kind (x ∷ rs) r n lt e h = h ∙ ap (λ m. first_side_width (kind m)) (e r)

-- the first name
pub got_first : (rs : List Name) (r : Name) → 0 < length rs → ((d : Name) → r ≡ slice_index_or rs 0 d) → Some r ≡ slice_get rs 0
got_first [] r lt e = absurd (omega (arith, lt))
got_first (x ∷ rs) r lt e = ap Some (e r)

-- a list that is not empty
pub not_empty : (rs : List Name) → (rs ≡ [] → ⊥) → 0 < length rs
not_empty [] h = absurd (h refl)
not_empty (x ∷ rs) h = omega arith

-- the declarations with one in its place
pub retyped_is : (q : Name) (k : QueueType) (ds : List Decl) (n : ℕ) → 0 < count q (decl_names ds) → n ≡ place_of_name q (decl_names ds)
    → take n ds ++ (record { name = q; kind = k } ∷ drop (n + 1) ds) ≡ retyped q k ds
retyped_is q k ds n lt e = ap (λ m. take m ds ++ (record { name = q; kind = k } ∷ drop (m + 1) ds)) e ∙ go ds lt
  where
    go : (xs : List Decl) → 0 < count q (decl_names xs)
        → take (place_of_name q (decl_names xs)) xs ++ (record { name = q; kind = k } ∷ drop (place_of_name q (decl_names xs) + 1) xs) ≡ retyped q k xs
    go [] l = absurd (omega (arith, l))
    go (x ∷ xs) l = ⊎_elim
        (λ c.
        ap (λ m. take m (x ∷ xs) ++ (record { name = q; kind = k } ∷ drop (m + 1) (x ∷ xs)))
        (if_true (name_eq x.name q) 0 (suc (place_of_name q (decl_names xs))) c)
        ∙ ap (λ m. record { name = m; kind = k } ∷ xs) (sym (name_is x.name q c))
        ∙ sym (if_true (name_eq x.name q) (record x { kind = k } ∷ xs) (x ∷ retyped q k xs) c))
        (λ c.
        let s : suc (place_of_name q (decl_names xs)) + 1 ≡ suc (place_of_name q (decl_names xs) + 1) = omega arith in
        ap (λ m. take m (x ∷ xs) ++ (record { name = q; kind = k } ∷ drop (m + 1) (x ∷ xs)))
        (if_false (name_eq x.name q) 0 (suc (place_of_name q (decl_names xs))) c)
        ∙ ap (λ m. x ∷ (take (place_of_name q (decl_names xs)) xs ++ (record { name = q; kind = k } ∷ drop m (x ∷ xs)))) s
        ∙ ap (λ m. x ∷ m) (go xs (let z = ap one_if c in omega (arith, z, l)))
        ∙ sym (if_false (name_eq x.name q) (record x { kind = k } ∷ xs) (x ∷ retyped q k xs) c))
        (cases_Bool (name_eq x.name q))

-- OPERATORS

replaced-append : (q : Name) (news xs ys : List OpForm) → replaced q news (xs ++ ys) ≡ replaced q news xs ++ replaced q news ys
replaced-append q news [] ys = refl
replaced-append q news (x ∷ xs) ys = ⊎_elim
    (λ lt. if_lt 0 (count q x.writes) _ _ lt ∙ ap (λ l. news ++ l) (replaced-append q news xs ys)
    ∙ sym (assoc news (replaced q news xs) (replaced q news ys)) ∙ sym (ap (λ l. l ++ replaced q news ys) (if_lt 0 (count q x.writes) _ _ lt)))
    (λ ge. if_ge 0 (count q x.writes) _ _ ge ∙ ⊎_elim
    (λ lt. if_lt 0 (count q x.reads) _ _ lt ∙ replaced-append q news xs ys
    ∙ sym (ap (λ l. l ++ replaced q news ys) (if_ge 0 (count q x.writes) _ _ ge ∙ if_lt 0 (count q x.reads) _ _ lt)))
    (λ g. if_ge 0 (count q x.reads) _ _ g ∙ ap (λ l. x ∷ l) (replaced-append q news xs ys)
    ∙ sym (ap (λ l. l ++ replaced q news ys) (if_ge 0 (count q x.writes) _ _ ge ∙ if_ge 0 (count q x.reads) _ _ g)))
    (cases_lt 0 (count q x.reads)))
    (cases_lt 0 (count q x.writes))
  where
    assoc : (a b c : List OpForm) → (a ++ b) ++ c ≡ a ++ (b ++ c)
    assoc [] b c = refl
    assoc (y ∷ a) b c = ap (λ l. y ∷ l) (assoc a b c)

-- the loop that replaces, one operator further
pub replaced_next : (q : Name) (news : List OpForm) (xs : List Op) (i : ℕ) (x : Op) (now new : List OpForm) → i < length xs → x ≡ get_or xs i x
    → now ≡ replaced q news (op_forms (take i xs)) → new ≡ now ++ replaced q news (op_form x ∷ []) → new ≡ replaced q news (op_forms (take (i + 1) xs))
replaced_next q news xs i x now new lt e h s =
    s ∙ ap (λ l. l ++ replaced q news (op_form x ∷ [])) h
    ∙ sym (ap (replaced q news) (forms_next xs i x lt e) ∙ replaced-append q news (op_forms (take i xs)) (op_form x ∷ []))

-- one operator more
pub pushed : (old new : List Op) (x : Op) (o : OpForm) → new ≡ old ++ x ∷ [] → op_form x ≡ o → op_forms new ≡ op_forms old ++ o ∷ []
pushed old new x o e h = ap op_forms e ∙ map-append op_form old (x ∷ []) ∙ ap (λ y. op_forms old ++ y ∷ []) h

-- two operators more
pub two_pushed : (old one new : List Op) (x y : Op) (o p : OpForm) → one ≡ old ++ x ∷ [] → op_form x ≡ o → new ≡ one ++ y ∷ [] → op_form y ≡ p
    → op_forms new ≡ op_forms old ++ o ∷ p ∷ []
two_pushed old one new x y o p e h d k =
    pushed one new y p d k ∙ ap (λ l. l ++ p ∷ []) (pushed old one x o e h) ∙ append_assoc (op_forms old) (o ∷ []) (p ∷ [])

-- what stands for an operator that writes the queue, for one that reads it, and for any other
pub for_writer : (q : Name) (news : List OpForm) (op : OpForm) (now new : List OpForm) → 0 < count q op.writes → new ≡ now ++ news
    → new ≡ now ++ replaced q news (op ∷ [])
for_writer q news op now new lt e = e ∙ ap (λ l. now ++ l) (sym (if_lt 0 (count q op.writes) _ _ lt ∙ append-nil news))

-- one that reads it is left out
pub for_reader : (q : Name) (news : List OpForm) (op : OpForm) (now : List OpForm) → count q op.writes ≡ 0 → 0 < count q op.reads
    → now ≡ now ++ replaced q news (op ∷ [])
for_reader q news op now z lt =
    sym (ap (λ l. now ++ l) (if_ge 0 (count q op.writes) _ _ (omega (arith, z)) ∙ if_lt 0 (count q op.reads) _ _ lt) ∙ append-nil now)

-- an operator that does not touch the queue is taken over
pub for_other : (q : Name) (news : List OpForm) (op : OpForm) (now new : List OpForm) → count q op.writes ≡ 0 → count q op.reads ≡ 0 → new ≡ now ++ op ∷ []
    → new ≡ now ++ replaced q news (op ∷ [])
for_other q news op now new y z e =
    e ∙ ap (λ l. now ++ l) (sym (if_ge 0 (count q op.writes) _ _ (omega (arith, y)) ∙ if_ge 0 (count q op.reads) _ _ (omega (arith, z))))

-- THE STEP

between_is : (p : PlanForm) (u : OpForm) (t : Term) (rs ws : List Name) (mid out : Name) → Some mid ≡ slice_get rs 0 → Some out ≡ slice_get ws 0
    → hoist_between p u t rs ws ≡ hoist_past p u t mid out (first_with (writes_it mid) p.ops)
between_is p u t [] ws mid out a b = absurd (cc a)
between_is p u t (r ∷ rs) [] mid out a b = absurd (cc b)
between_is p u t (r ∷ rs) (w ∷ ws) mid out a b =
    let e : mid ≡ r = cc a in let f : out ≡ w = cc b in
    ap (λ n. hoist_past p u t n w (first_with (writes_it n) p.ops)) (sym e) ∙ ap (λ n. hoist_past p u t mid n (first_with (writes_it mid) p.ops)) (sym f)

-- as far as the operator below
pub hoist_upto : (p : PlanForm) (l : Name) (u b : OpForm) (t : Term) (mid out : Name) (width : ℕ) → first_with (named_it l) p.ops ≡ Some u → u.kernel ≡ select t
    → Some mid ≡ slice_get u.reads 0 → Some out ≡ slice_get u.writes 0
    → first_with (writes_it mid) p.ops ≡ Some b → length b.writes ≡ 1 → width ≡ first_width (map (kind_of (all_decls p)) b.reads)
    → hoist_of p l ≡ hoist_passed p u b mid out (passes width b.kernel t)
hoist_upto p l u b t mid out width a k r w below one e =
    ap (hoist_found p) a ∙ ap (hoist_kernel p u) k ∙ between_is p u t u.reads u.writes mid out r w ∙ ap (hoist_past p u t mid out) below
    ∙ if_eq (length b.writes) 1 _ _ one
    ∙ ap (λ n. hoist_passed p u b mid out (passes n b.kernel t)) (sym e)

-- a refusal of the operator below is that of the step
pub passing_err : (told : Result (ℕ × Term) Unfit) (whole : Result PlanForm Unfit) (f : Unfit) → ((g : Unfit) → told ≡ Err g → whole ≡ Err g)
    → IsPassing told (Err f) → IsAnswered whole (Err f)
passing_err told whole U1 g h = g U1 h
passing_err told whole U2 g h = g U2 h
passing_err told whole U3 g h = g U3 h
passing_err told whole U4 g h = g U4 h
passing_err told whole U5 g h = g U5 h
passing_err told whole H1 g h = g H1 h
passing_err told whole H2 g h = g H2 h
passing_err told whole H3 g h = g H3 h
passing_err told whole H4 g h = g H4 h
passing_err told whole N1 g h = g N1 h
passing_err told whole N2 g h = g N2 h
passing_err told whole N3 g h = g N3 h
passing_err told whole N4 g h = g N4 h
passing_err told whole N5 g h = g N5 h
passing_err told whole NoMemory g h = tt

-- a selection is hoisted by what its queue's writer allows
pub hoist_selects : (p : PlanForm) (l : Name) (u : OpForm) (t : Term) (mid out : Name) → SelectsAt p l u t mid out
    → hoist_of p l ≡ hoist_past p u t mid out (first_with (writes_it mid) p.ops)
hoist_selects p l u t mid out s =
    ap (hoist_found p) s.here ∙ ap (hoist_kernel p u) s.kernel ∙ between_is p u t u.reads u.writes mid out (sym s.reads) (sym s.writes)

-- the operator below lets it pass, or not
pub hoist_below : (p : PlanForm) (u b : OpForm) (t : Term) (mid out : Name) (width : ℕ) (o : Option OpForm) → o ≡ Some b → length b.writes ≡ 1
    → width ≡ first_width (map (kind_of (all_decls p)) b.reads) → hoist_past p u t mid out o ≡ hoist_passed p u b mid out (passes width b.kernel t)
hoist_below p u b t mid out width o below one e =
    ap (hoist_past p u t mid out) below ∙ if_eq (length b.writes) 1 _ _ one ∙ ap (λ n. hoist_passed p u b mid out (passes n b.kernel t)) (sym e)

-- the operator below is passed: the queue between the two is neither an input nor an output, and the new lists are valid
pub hoist_may : (p : PlanForm) (l : Name) (u b : OpForm) (t : Term) (mid out : Name) (width side : ℕ) (t' : Term) → IsPlan p → SelectsAt p l u t mid out
    → first_with (writes_it mid) p.ops ≡ Some b → length b.writes ≡ 1 → width ≡ first_width (map (kind_of (all_decls p)) b.reads)
    → passes width b.kernel t ≡ Ok (side, t') → (src : Name) → slice_get b.reads side ≡ Some src
    → (0 < count mid (decl_names p.queues)) × IsPlan (hoisted_plan p u b side t' src mid out)
hoist_may p l u b t mid out width side t' v s below one e ps src source =
    let may : MayHoist p l u b t side t' src mid out = record {
      here = s.here;
      selects = s.kernel;
      reads = s.reads;
      writes = s.writes;
      below = below;
      only = one;
      passes = subst (λ n. passes n b.kernel t ≡ Ok (side, t')) e ps;
      source = source;
    } in
    ((mid_inner p l u b t side t' src mid out v may).2, (hoist_keeps p l u b t side t' src mid out v may).0)

-- the queue that the selection reads then
pub read_at : (rs : List Name) (side n : ℕ) (src : Name) → n ≡ length rs → side < n → ((d : Name) → src ≡ slice_index_or rs side d)
    → slice_get rs side ≡ Some src
read_at rs side n src e lt so = slice_get_read rs (length rs) side src refl (subst (λ k. side < k) e lt) (so src)
