-- Faults that are found by the users of places.
use Rattle.std.proofs.Common.{◌≡◌, ℕ, ◌+◌, ◌<◌, ◌≤◌, List, [], ◌∷◌, ◌++◌, Option, length, map, take, drop, get_or, refl, sym, ap, ◌∙◌, subst, inl, inr, arith}
use Rattle.std.proofs.Common.{⊎_elim}
use Rattle.std.specs.Prelude.{slice_index}
use Rattle.std.specs.List.Sorted.{IsStrictlyIncreasing}
use Rattle.std.proofs.lemmas.List.{length-map, length-take-le, map-append, take-append-drop, drop_more}
use Rattle.river_base.specs.Places.{list_at}
use Rattle.river_plan.specs.declared.op.Op.{Op}
use Rattle.river_plan.specs.declared.wiring.Wiring.{Wiring}
use Rattle.river_plan.specs.Forms.{Name, OpForm, PlanForm, op_form, op_forms, decl_names, table_names, queue_names, variable_names}
use Rattle.river_plan.specs.Names.{count, IsUsedOnce}
use Rattle.river_plan.specs.Uses.{total, writes_it, reads_it, vars_it}
use Rattle.river_plan.specs.Places.{place, places, users_from, users}
use Rattle.river_plan.specs.ByUsers.{IsOnceAt, IsApartAt, IsBefore, IsKnownAt}
use Rattle.river_plan.specs.First.{IsFirst}
use Rattle.river_plan.specs.Faults.{IsApart, IsWritten}
use Rattle.river_plan.specs.Wired.{AreNamed, IsWired}
use Rattle.river_plan.proofs.NameLemmas.{count-append, one_same, more_or_zero}
use Rattle.river_plan.proofs.PlaceLemmas.{place_below, place_front, place_back}
use Rattle.river_plan.proofs.UserCounts.{placed, placed_names, place_there, users-count, rising-each, each-rising, written-before, before-written, middle_place}
use Rattle.river_plan.proofs.UserCounts.{place_middle}
use Rattle.river_plan.proofs.UserLemmas.{users-there}
use Rattle.river_plan.proofs.ValidLaw.{names-once, declared-all, total-append}
use Rattle.river_plan.proofs.WiredLemmas.{at_op}

-- the users of a name, at its place
used_at : (names : List Name) (ls all : List (List ℕ)) (q : Name) → all ≡ users (length names) ls → 0 < count q names
    → list_at all (place names q) ≡ users_from 0 ls (place names q)
used_at names ls all q e lt = users-there (length names) (place names q) ls all [] e (place_below names q lt)

once-first : (us bs cs : List Name) (f : OpForm → List Name) (ops : List OpForm) (all : List (List ℕ))
    → ((q : Name) → count q (us ++ (bs ++ cs)) ≤ 1) → all ≡ users (length (us ++ (bs ++ cs))) (map (λ op. places (us ++ (bs ++ cs)) (f op)) ops)
    → (o : Option Name) → IsFirst (λ b q. IsOnceAt (length us) (length bs) (length b) (length (list_at all (length b)))) (us ++ (bs ++ cs)) o
    → IsFirst (λ b q. IsUsedOnce (count q bs) (total (λ op. count q (f op)) ops)) (us ++ (bs ++ cs)) o
once-first us bs cs f ops all once e o h =
    placed_names names (λ i. IsOnceAt (length us) (length bs) i (length (list_at all i)))
    (λ q. IsUsedOnce (count q bs) (total (λ op. count q (f op)) ops)) once there back o h
  where
    names : List Name
    names = us ++ (bs ++ cs)

    uses : (q : Name) → 0 < count q names → length (list_at all (place names q)) ≡ total (λ op. count q (f op)) ops
    uses q lt = ap length (used_at names (map (λ op. places names (f op)) ops) all q e lt) ∙ users-count names q lt f ops 0

    there : (q : Name) → 0 < count q names → IsOnceAt (length us) (length bs) (place names q) (length (list_at all (place names q)))
        → IsUsedOnce (count q bs) (total (λ op. count q (f op)) ops)
    there q lt g =
        let u = uses q lt in let a = g.0 in (omega (arith, u, a), λ i. let m = middle_place us bs cs q (once q) i in let z = g.1 m.0 m.1 in omega (arith, u, z))

    back : (q : Name) → 0 < count q names → IsUsedOnce (count q bs) (total (λ op. count q (f op)) ops)
        → IsOnceAt (length us) (length bs) (place names q) (length (list_at all (place names q)))
    back q lt g = let u = uses q lt in let a = g.0 in (omega (arith, u, a), λ le l. let z = g.1 (place_middle us bs cs q lt le l) in omega (arith, u, z))

-- the first queue that is written twice, or that is an input and written
pub written_first : (p : PlanForm) (w : Wiring) (names : List Name) (outputs inputs : ℕ) → AreNamed p → IsWired p w → names ≡ queue_names p
    → outputs ≡ length p.outputs → inputs ≡ length p.inputs
    → (o : Option Name) → IsFirst (λ b q. IsOnceAt outputs inputs (length b) (length (list_at w.writes.by_place (length b)))) names o
    → IsFirst (λ b q. IsUsedOnce (count q (decl_names p.inputs)) (total (writes_it q) p.ops)) (queue_names p) o
written_first p w names outputs inputs n h e a b o g =
    once-first (decl_names p.outputs) (decl_names p.inputs) (decl_names p.queues) (λ op. op.writes) p.ops w.writes.by_place
    (names-once (queue_names p) n.0.0) h.writes.by_place o
    (subst (λ i. IsFirst (λ b q. IsOnceAt i (length (decl_names p.inputs)) (length b) (length (list_at w.writes.by_place (length b)))) (queue_names p) o)
    (a ∙ sym (length-map p.outputs (λ d. d.name)))
    (subst (λ i. IsFirst (λ b q. IsOnceAt outputs i (length b) (length (list_at w.writes.by_place (length b)))) (queue_names p) o)
    (b ∙ sym (length-map p.inputs (λ d. d.name)))
    (subst (λ l. IsFirst (λ b q. IsOnceAt outputs inputs (length b) (length (list_at w.writes.by_place (length b)))) l o) e g)))

-- the first queue that is read twice, or that is an output and read
pub read_first : (p : PlanForm) (w : Wiring) (names : List Name) (outputs : ℕ) → AreNamed p → IsWired p w → names ≡ queue_names p → outputs ≡ length p.outputs
    → (o : Option Name) → IsFirst (λ b q. IsOnceAt 0 outputs (length b) (length (list_at w.reads.by_place (length b)))) names o
    → IsFirst (λ b q. IsUsedOnce (count q (decl_names p.outputs)) (total (reads_it q) p.ops)) (queue_names p) o
read_first p w names outputs n h e a o g =
    once-first [] (decl_names p.outputs) (decl_names p.inputs ++ decl_names p.queues) (λ op. op.reads) p.ops w.reads.by_place
    (names-once (queue_names p) n.0.0) h.reads.by_place o
    (subst (λ i. IsFirst (λ b q. IsOnceAt 0 i (length b) (length (list_at w.reads.by_place (length b)))) (queue_names p) o)
    (a ∙ sym (length-map p.outputs (λ d. d.name)))
    (subst (λ l. IsFirst (λ b q. IsOnceAt 0 outputs (length b) (length (list_at w.reads.by_place (length b)))) l o) e g))

-- the first variable that stands twice in one operator, or that is private and stands in two
pub shared_first : (p : PlanForm) (w : Wiring) (names : List Name) (tables : ℕ) → AreNamed p → IsWired p w → names ≡ variable_names p → tables ≡ length p.tables
    → (o : Option Name) → IsFirst (λ b v. IsApartAt tables (length b) (list_at w.vars.by_place (length b))) names o
    → IsFirst (λ b v. IsApart p v) (variable_names p) o
shared_first p w names tables n h e a o g =
    placed_names (variable_names p) (λ i. IsApartAt (length ts) i (list_at w.vars.by_place i)) (IsApart p) once there back o
    (subst (λ i. IsFirst (λ b v. IsApartAt i (length b) (list_at w.vars.by_place (length b))) (variable_names p) o)
    (a ∙ sym (length-map p.tables (λ t. t.name)))
    (subst (λ l. IsFirst (λ b v. IsApartAt tables (length b) (list_at w.vars.by_place (length b))) l o) e g))
  where
    ts : List Name
    ts = table_names p.tables

    ls : List (List ℕ)
    ls = map (λ op. places (variable_names p) op.vars) p.ops

    once : (v : Name) → count v (variable_names p) ≤ 1
    once = names-once (variable_names p) n.0.1.0

    at : (v : Name) → 0 < count v (variable_names p) → list_at w.vars.by_place (place (variable_names p) v) ≡ users_from 0 ls (place (variable_names p) v)
    at v lt = used_at (variable_names p) ls w.vars.by_place v h.vars.by_place lt

    uses : (v : Name) → 0 < count v (variable_names p) → length (list_at w.vars.by_place (place (variable_names p) v)) ≡ total (vars_it v) p.ops
    uses v lt = ap length (at v lt) ∙ users-count (variable_names p) v lt (λ op. op.vars) p.ops 0

    there : (v : Name) → 0 < count v (variable_names p)
        → IsApartAt (length ts) (place (variable_names p) v) (list_at w.vars.by_place (place (variable_names p) v)) → IsApart p v
    there v lt k = (
      rising-each (variable_names p) v lt p.ops 0 (subst IsStrictlyIncreasing (at v lt) k.0),
      λ i. let u =
          uses v lt in let c = count-append v ts p.vars in let l = once v in let b = place_back ts p.vars v (omega (arith, c, l, i)) in let m =
          k.1 (omega (arith, b)) in omega (arith, u, m),
    )

    back : (v : Name) → 0 < count v (variable_names p) → IsApart p v
        → IsApartAt (length ts) (place (variable_names p) v) (list_at w.vars.by_place (place (variable_names p) v))
    back v lt k = (
      subst IsStrictlyIncreasing (sym (at v lt)) (each-rising (variable_names p) v lt p.ops 0 k.0),
      λ le. let u = uses v lt in let c = count-append v ts p.vars in let m = k.1 (⊎_elim
          (λ i. absurd (let f = place_front ts p.vars v i in let s = place_below ts v i in omega (arith, f, s, le)))
          (λ z. omega (arith, c, lt, z))
          (more_or_zero (count v ts))) in omega (arith, u, m),
    )

-- the first queue that an operator reads, and that is neither an input nor written by an operator before
module _ (p : PlanForm) (w : Wiring) (named : AreNamed p) (wired : IsWired p w) (before after : List OpForm) (op : OpForm)
    (ops : p.ops ≡ before ++ op ∷ after) where
  abbrev pub names : List Name
  names = queue_names p

  abbrev ls : List (List ℕ)
  ls = map (λ o. places names o.writes) p.ops

  declared : (b xs : List Name) (r : Name) → b ++ r ∷ xs ≡ op.reads → 0 < count r names
  declared b xs r e =
      let c = ap (count r) (sym e) ∙ count-append r b (r ∷ xs) in
      let s = one_same r in
      let t = ap (total (reads_it r)) ops ∙ total-append (reads_it r) before (op ∷ after) in
      (declared-all names (variable_names p) [] p.ops named.1).0 r (omega (arith, c, s, t))

  users_of : (r : Name) → 0 < count r names
      → list_at w.writes.by_place (place names r) ≡ users_from 0 (map (λ o. places names o.writes) (before ++ op ∷ after)) (place names r)
  users_of r lt =
      used_at names ls w.writes.by_place r wired.writes.by_place lt
      ∙ ap (λ (l : List OpForm). users_from 0 (map (λ o. places names o.writes) l) (place names r)) ops

  module _ (outputs inputs n : ℕ) (os : outputs ≡ length p.outputs) (is : inputs ≡ length p.inputs) (at : n ≡ length before) where
    known-written : (r : Name) → 0 < count r names → IsKnownAt outputs inputs n w.writes.by_place (place names r) → IsWritten (decl_names p.inputs) before r
    known-written r lt k = ⊎_elim
        (λ m. let a = length-map p.outputs (λ d. d.name) in let b = length-map p.inputs (λ d. d.name) in
        let i = place_middle (decl_names p.outputs) (decl_names p.inputs) (decl_names p.queues) r lt (let l = m.0 in omega (arith, a, os, l))
        (let l = m.1 in omega (arith, a, b, os, is, l)) in
        omega (arith, i))
        (λ b. let u = before-written names r lt (λ o. o.writes) (op ∷ after) before 0 n (omega (arith, at)) (subst (IsBefore n) (users_of r lt) b) in omega
        (arith, u))
        k

    written-known : (r : Name) → 0 < count r names → IsWritten (decl_names p.inputs) before r → IsKnownAt outputs inputs n w.writes.by_place (place names r)
    written-known r lt h = ⊎_elim
        (λ i. inl (let a = length-map p.outputs (λ d. d.name) in let b = length-map p.inputs (λ d. d.name) in
        let m = middle_place (decl_names p.outputs) (decl_names p.inputs) (decl_names p.queues) r (names-once names named.0.0 r) i in let l = m.0 in
        let g = m.1 in
        (omega (arith, a, os, l), omega (arith, a, b, os, is, g))))
        (λ z. inr (subst (IsBefore n) (sym (users_of r lt))
        (written-before names r lt (λ o. o.writes) (op ∷ after) before 0 n (omega (arith, at)) (omega (arith, h, z)))))
        (more_or_zero (count r (decl_names p.inputs)))

    pub early_first : (ps : List ℕ) → ps ≡ places names op.reads → (o : Option Name)
        → IsFirst (λ b r. IsKnownAt outputs inputs n w.writes.by_place (slice_index ps (length b))) op.reads o
        → IsFirst (λ b r. IsWritten (decl_names p.inputs) before r) op.reads o
    early_first ps e =
        placed op.reads (λ i. IsKnownAt outputs inputs n w.writes.by_place (slice_index ps i)) (IsWritten (decl_names p.inputs) before) same [] op.reads refl
      where
        same : (b xs : List Name) (r : Name) → b ++ r ∷ xs ≡ op.reads
            → (IsKnownAt outputs inputs n w.writes.by_place (slice_index ps (length b)) → IsWritten (decl_names p.inputs) before r)
            × (IsWritten (decl_names p.inputs) before r → IsKnownAt outputs inputs n w.writes.by_place (slice_index ps (length b)))
        same b xs r d =
            let lt = declared b xs r d in
            let i : slice_index ps (length b) ≡ place names r = ap (λ l. slice_index l (length b)) (e ∙ ap (places names) (sym d))
            ∙ place_there names b xs r in (
              (λ k. known-written r lt (subst (IsKnownAt outputs inputs n w.writes.by_place) i k)),
              (λ h. subst (IsKnownAt outputs inputs n w.writes.by_place) (sym i) (written-known r lt h)),
            )

-- a queue is known at equal places alike
pub same_known : (a a' b b' n i i' : ℕ) (us : List (List ℕ)) → a ≡ a' → b ≡ b' → i ≡ i' → IsKnownAt a b n us i → IsKnownAt a' b' n us i'
same_known a a' b b' n i i' us d e f h = subst (λ k. IsKnownAt k b' n us i') d (subst (λ k. IsKnownAt a k n us i') e (subst (IsKnownAt a b n us) f h))

-- the same at an operator of the lists
module _ (p : PlanForm) (w : Wiring) (ops : List Op) (i : ℕ) (op : Op) (are : p.ops ≡ op_forms ops) (wired : IsWired p w) (lt : i < length ops)
    (e : op ≡ get_or ops i op) where
  -- the places that an operator reads
  pub read_there : (ps : List ℕ) → ps ≡ list_at w.reads.by_op i → ps ≡ places (queue_names p) op.reads
  read_there ps h =
      h ∙ ap (λ l. list_at l i) (wired.reads.by_op ∙ ap (map (λ (o : OpForm). places (queue_names p) o.reads)) are)
      ∙ at_op (λ o. places (queue_names p) o.reads) ops i op lt e

  -- the first queue that is read before it is written
  pub early_at : (ps : List ℕ) (outputs inputs : ℕ) → AreNamed p → ps ≡ list_at w.reads.by_op i → outputs ≡ length p.outputs → inputs ≡ length p.inputs
      → (o : Option Name) → IsFirst (λ b r. IsKnownAt outputs inputs i w.writes.by_place (slice_index ps (length b))) op.reads o
      → IsFirst (λ b r. IsWritten (decl_names p.inputs) (op_forms (take i ops)) r) op.reads o
  early_at ps outputs inputs named h os is o g =
      early_first p w named wired (op_forms (take i ops)) (op_forms (drop (i + 1) ops)) (op_form op) split outputs inputs i os is
      (sym (length-map (take i ops) op_form ∙ length-take-le i ops (omega (arith, lt)))) ps (read_there ps h) o g
    where
      split : p.ops ≡ op_forms (take i ops) ++ op_form op ∷ op_forms (drop (i + 1) ops)
      split =
          are ∙ ap op_forms (sym (take-append-drop i ops)) ∙ map-append op_form (take i ops) (drop i ops)
          ∙ ap (λ l. op_forms (take i ops) ++ op_forms l) (drop_more ops i op lt ∙ ap (λ y. y ∷ drop (i + 1) ops) (sym e))
