-- Blocks are read word by word: the first word that has a fault is told, and else the reading stands behind the last.
use Rattle.std.proofs.Common.{◌≡◌, ℕ, ℤ, pos, negsuc, ◌+◌, ◌-◌, ◌≤◌, inl, inr, Bool, true, false, List, [], ◌∷◌, ◌++◌, map, Option, Some, None, Result, Ok}
use Rattle.std.proofs.Common.{refl, sym, ap, ◌∙◌, subst, arith, append_assoc, nat_lt, nat_le, nat_eq}
use Rattle.std.specs.Prelude.{if◌then◌else◌, ◌&&◌}
use Rattle.std.proofs.lemmas.List.{append-nil}
use Rattle.std.proofs.lemmas.Bool.{and_parts, ltb-true, ltb-false, leb-true, leb-false}
use Rattle.river_base.proofs.Tests.{pos_is, negative}
use Rattle.work_code.specs.Term.{Term}
use Rattle.work_code.specs.Steps.{Steps, both_steps, one_step}
use Rattle.work_code.specs.Steps as steps
use Rattle.river_plan.specs.Forms.{Name}
use Rattle.streamit_text.specs.Tree.{Expression, Statement, Declare, Assign, Push, Discard, If, For, Block, End, Then, Optional, Unwritten, Written}
use Rattle.brooklet_model.specs.Machine.{at_name}
use Rattle.streamit_model.specs.Meaning.{Store, pops, numbers_from, turns_between}
use Rattle.streamit_model.specs.Elaborate.{on_ok, KnownName, Var, Turn, find, constant, term_of, At, counted, has_slot, is_new, slot_of}
use Rattle.streamit_model.specs.declared.fault.Fault.{Fault}
use Rattle.streamit_model.specs.declared.fault.Fault.TheVariants.{BranchRates, Limit}
use Rattle.streamit_model.specs.Elaborate.{bound_of, first_term, first_popped, Read, declared, after_arms, unrolled, step_of, steps_of}
use Rattle.streamit_model.specs.Elaborate.{optional_of}
use Rattle.streamit_text.specs.Program.{UnitForm}
use Rattle.streamit_model.specs.Words.{ReadWord, Begins, Declares, Knows, Leaves, Sets, Drops, Bounds, Loops, Enters, Exits, Pushes, Otherwise, Joins, knows}
use Rattle.streamit_model.specs.Words.{leaves, enters, exits, takes, begins_one, pops_one, pushes_one, pops_beside, pushes_beside, popped_in, pushed_in}
use Rattle.streamit_model.specs.Text.{fixed, fixed_value, spelled, spelled_first, locals_of, with_end, turning, arms, read_of, all_read, optional_read}
use Rattle.streamit_model.specs.Places.{Reads, each_word}
use Rattle.streamit_model.proofs.Meeting.{IsFree, AllFree, Meets, free, first_twice, first_unknown, first_variable, first_limit, first_arms, behind, finish}
use Rattle.streamit_model.proofs.Meeting.{test, last_test, next, ended, beyond, weaken}
use Rattle.streamit_model.proofs.Standing.{over-append, Counted, Stands, none_known, IsEven, names_on, counted_on, moved, unmoved, regrouped, with_local}
use Rattle.streamit_model.proofs.Standing.{with_turn, leaves_nothing, left_behind}
use Rattle.streamit_model.proofs.Even.{even_block}
use Rattle.streamit_model.proofs.Spelled.{local_known, turn_known, some_known, Fixed, fixed_met, spelled_met, first_met}

same_numbers : (a b c d : ℕ) → nat_eq a b && nat_eq c d ≡ true → (a ≡ b) × (c ≡ d)
same_numbers a b c d h = let p = and_parts (nat_eq a b) (nat_eq c d) h in let x = p.0 in let y = p.1 in (grind (arith, x), grind (arith, y))

other_numbers : (a b c d : ℕ) → nat_eq a b && nat_eq c d ≡ false → (a ≡ b) × (c ≡ d) → ⊥
other_numbers a b c d h e = let x = e.0 in let y = e.1 in grind (arith, x, y, h)

-- a word more, and the words behind it
pub regroup : (before : List ReadWord) (w : ReadWord) (ws : List ReadWord) → (before ++ w ∷ []) ++ ws ≡ before ++ w ∷ ws
regroup before w ws = append_assoc before (w ∷ []) ws

module _ (above : List UnitForm) (e : ℕ) where
  -- WORDS THAT ARE ALWAYS RIGHT

  -- where a name becomes known there is no fault
  pub knows_free : (before : List ReadWord) (n : Name) → IsFree above (Reads e before (Knows n))
  knows_free before n = free above (Reads e before (Knows n)) (λ h. h) (λ h. h) (λ d c h. h) (λ i r h. h) (λ h. h) (λ h. h) (λ h. h) (λ h. h)

  leaves_free : (before : List ReadWord) (n : Name) → IsFree above (Reads e before (Leaves n))
  leaves_free before n = free above (Reads e before (Leaves n)) (λ h. h) (λ h. h) (λ d c h. h) (λ i r h. h) (λ h. h) (λ h. h) (λ h. h) (λ h. h)

  drops_free : (before : List ReadWord) → IsFree above (Reads e before Drops)
  drops_free before = free above (Reads e before Drops) (λ h. h) (λ h. h) (λ d c h. h) (λ i r h. h) (λ h. h) (λ h. h) (λ h. h) (λ h. h)

  enters_free : (before : List ReadWord) (n : Name) → IsFree above (Reads e before (Enters n))
  enters_free before n = free above (Reads e before (Enters n)) (λ h. h) (λ h. h) (λ d c h. h) (λ i r h. h) (λ h. h) (λ h. h) (λ h. h) (λ h. h)

  exits_free : (before : List ReadWord) (n : Name) → IsFree above (Reads e before (Exits n))
  exits_free before n = free above (Reads e before (Exits n)) (λ h. h) (λ h. h) (λ d c h. h) (λ i r h. h) (λ h. h) (λ h. h) (λ h. h) (λ h. h)

  pushes_free : (before : List ReadWord) → IsFree above (Reads e before Pushes)
  pushes_free before = free above (Reads e before Pushes) (λ h. h) (λ h. h) (λ d c h. h) (λ i r h. h) (λ h. h) (λ h. h) (λ h. h) (λ h. h)

  otherwise_free : (before : List ReadWord) (p q : ℕ) → IsFree above (Reads e before (Otherwise p q))
  otherwise_free before p q = free above (Reads e before (Otherwise p q)) (λ h. h) (λ h. h) (λ d c h. h) (λ i r h. h) (λ h. h) (λ h. h) (λ h. h) (λ h. h)

  all_leave : (before : List ReadWord) (ns : List Name) → AllFree above (each_word e before (map Leaves ns))
  all_leave before [] = tt
  all_leave before (n ∷ ns) = (leaves_free before n, all_leave (before ++ Leaves n ∷ []) ns)

  -- ONE CHECK, AND WHAT COMES THEN

  begins_met : {B : Type 0} (before ws : List ReadWord) (s : At) (turns : Store) (g : At → Result B Fault) (Q : B → Type 0) → Stands before s turns
      → (Stands (before ++ Begins ∷ []) (record s { size = s.size + 1 }) turns → Meets above (each_word e (before ++ Begins ∷ []) ws)
      (g (record s { size = s.size + 1 })) Q)
      → Meets above (each_word e before (Begins ∷ ws)) (on_ok (counted s) g) Q
  begins_met before ws s turns g Q h k =
      let spot = Reads e before Begins in
      let rest = each_word e (before ++ Begins ∷ []) ws in
      let z = h.counts.size_is in
      test above (spot ∷ rest) (nat_lt s.size 16384) (record s { size = s.size + 1 }) Limit g Q
      (λ t.
      let lt = ltb-true s.size 16384 t in
      behind above (spot ∷ []) rest (g (record s { size = s.size + 1 })) Q
      (free above spot (λ h. h) (λ h. h) (λ d c h. h) (λ i r h. h) (λ h. h) (λ h. h) (λ h. omega (arith, lt, z, h)) (λ h. h), tt)
      (k (moved before (Begins ∷ []) s turns s.slots s.popped s.pushed (s.size + 1) h (λ n. (refl, refl)) (omega arith) (omega arith) (omega arith)
      (omega arith))))
      (λ f. let le = ltb-false s.size 16384 f in inl (first_limit above spot (omega (arith, le, z)) (λ h. h) (λ h. h) (λ h. h) (λ h. h) (λ i r h. h)))

  -- where a name is declared, reading tells what the table has
  pub declares_met : {B : Type 0} (before ws : List ReadWord) (s : At) (turns : Store) (n : Name) (o : Option KnownName) (r : Result B Fault) (Q : B → Type 0)
      → find s.scope n ≡ o
      → Stands before s turns
      → (find s.scope n ≡ None → Stands (before ++ Declares n ∷ []) s turns → Meets above (each_word e (before ++ Declares n ∷ []) ws) r Q)
      → Meets above (each_word e before (Declares n ∷ ws)) (on_ok (is_new o) (λ u. on_ok (has_slot s) (λ w. r))) Q
  declares_met before ws s turns n (Some b) r Q f h k =
      inl (first_twice above (Reads e before (Declares n)) (some_known before n (find s.scope n) b (turns n) f (h.names n)))
  declares_met before ws s turns n None r Q f h k =
      let spot = Reads e before (Declares n) in
      let rest = each_word e (before ++ Declares n ∷ []) ws in
      let z = h.counts.slots_are in
      let new = none_known before s.scope turns n f (h.names n) in
      test above (spot ∷ rest) (nat_lt s.slots 256) tt Limit (λ w. r) Q
      (λ t.
      let lt = ltb-true s.slots 256 t in
      behind above (spot ∷ []) rest r Q
      (free above spot (λ h. h) new (λ d c h. h) (λ i r h. h) (λ h. h) (λ h. h) (λ h. omega (arith, lt, z, h)) (λ h. h), tt)
      (k f (unmoved before (Declares n) s turns h (λ m. (refl, refl)) refl refl refl refl refl refl)))
      (λ t. let le = ltb-false s.slots 256 t in inl (first_limit above spot (omega (arith, le, z)) new (λ h. h) (λ h. h) (λ h. h) (λ i r h. h)))

  loops_met : {B : Type 0} (before ws : List ReadWord) (s : At) (turns : Store) (n : Name) (o : Option KnownName) (r : Result B Fault) (Q : B → Type 0)
      → find s.scope n ≡ o
      → Stands before s turns
      → (find s.scope n ≡ None → Stands (before ++ Loops n ∷ []) s turns → Meets above (each_word e (before ++ Loops n ∷ []) ws) r Q)
      → Meets above (each_word e before (Loops n ∷ ws)) (on_ok (is_new o) (λ u. r)) Q
  loops_met before ws s turns n (Some b) r Q f h k =
      inl (first_twice above (Reads e before (Loops n)) (some_known before n (find s.scope n) b (turns n) f (h.names n)))
  loops_met before ws s turns n None r Q f h k =
      let spot = Reads e before (Loops n) in
      behind above (spot ∷ []) (each_word e (before ++ Loops n ∷ []) ws) r Q
      (free above spot (λ h. h) (none_known before s.scope turns n f (h.names n)) (λ d c h. h) (λ i r h. h) (λ h. h) (λ h. h) (λ h. h) (λ h. h), tt)
      (k f (unmoved before (Loops n) s turns h (λ m. (refl, refl)) refl refl refl refl refl refl))

  sets_met : {B : Type 0} (before ws : List ReadWord) (s : At) (turns : Store) (n : Name) (o : Option KnownName) (g : ℕ → Result B Fault) (Q : B → Type 0)
      → find s.scope n ≡ o
      → Stands before s turns → ((i : ℕ) → Stands (before ++ Sets n ∷ []) s turns → Meets above (each_word e (before ++ Sets n ∷ []) ws) (g i) Q)
      → Meets above (each_word e before (Sets n ∷ ws)) (on_ok (slot_of o) g) Q
  sets_met before ws s turns n None g Q f h k =
      inl (first_unknown above (Reads e before (Sets n)) (none_known before s.scope turns n f (h.names n)) (λ h. h))
  sets_met before ws s turns n (Some (Turn v)) g Q f h k =
      let t = turn_known before n (find s.scope n) v (turns n) f (h.names n) in
      inl (first_variable above (Reads e before (Sets n)) t.0 (λ h. h) (λ h. h (inr t.0)))
  sets_met before ws s turns n (Some (Var i)) g Q f h k =
      let spot = Reads e before (Sets n) in
      let l = local_known before n (find s.scope n) i (turns n) f (h.names n) in
      behind above (spot ∷ []) (each_word e (before ++ Sets n ∷ []) ws) (g i) Q
      (free above spot (λ h. h (inl l.0)) (λ h. h) (λ d c h. h) (λ i r h. h) (λ h. l.1 h) (λ h. h) (λ h. h) (λ h. h), tt)
      (k i (unmoved before (Sets n) s turns h (λ m. (refl, refl)) refl refl refl refl refl refl))

  bounds_at : {B : Type 0} (before ws : List ReadWord) (s : At) (turns : Store) (x : ℤ) (g : ℕ → Result B Fault) (Q : B → Type 0) → Stands before s turns
      → ((l : ℕ) → x ≡ pos l → Stands (before ++ Bounds x ∷ []) s turns → Meets above (each_word e (before ++ Bounds x ∷ []) ws) (g l) Q)
      → Meets above (each_word e before (Bounds x ∷ ws)) (on_ok (bound_of x) g) Q
  bounds_at before ws s turns (pos m) g Q h k =
      let spot = Reads e before (Bounds (pos m)) in
      let rest = each_word e (before ++ Bounds (pos m) ∷ []) ws in
      test above (spot ∷ rest) (nat_le m 65536) m Limit g Q
      (λ t.
      let le = leb-true m 65536 t in
      behind above (spot ∷ []) rest (g m) Q
      (free above spot (λ h. h) (λ h. h) (λ d c h. h) (λ i r h. h) (λ h. h) (λ h. h) (λ h. h (m, refl, le)) (λ h. h), tt)
      (k m refl (unmoved before (Bounds (pos m)) s turns h (λ n. (refl, refl)) refl refl refl refl refl refl)))
      (λ t.
      let lt = leb-false m 65536 t in
      inl (first_limit above spot (λ b. let n = pos_is m b.0 b.1 in let c = b.2 in omega (arith, lt, n, c)) (λ h. h) (λ h. h) (λ h. h) (λ h. h) (λ i r h. h)))
  bounds_at before ws s turns (negsuc m) g Q h k =
      inl (first_limit above (Reads e before (Bounds (negsuc m))) (λ b. negative m b.0 b.1) (λ h. h) (λ h. h) (λ h. h) (λ h. h) (λ i r h. h))

  -- WHAT WAS READ

  -- behind these words, and no pop or push is taken back
  pub record Went (before ws : List ReadWord) (s : At) (turns : Store) (y : Steps × At) : Type 0 where
    pub stands : Stands (before ++ ws) y.1 turns
    pub popped : s.popped ≤ y.1.popped
    pub pushed : s.pushed ≤ y.1.pushed

  -- the same of a block with its end, behind which the names are those before it
  pub record Within (before ws : List ReadWord) (s : At) (turns : Store) (y : Steps × At) : Type 0 where
    pub stands : Stands (before ++ ws) (record y.1 { scope = s.scope }) turns
    pub popped : s.popped ≤ y.1.popped
    pub pushed : s.pushed ≤ y.1.pushed

  went_by : (before xs ys : List ReadWord) (s : At) (turns : Store) (y : Steps × At) → xs ≡ before ++ ys → Stands xs y.1 turns → s.popped ≤ y.1.popped
      → s.pushed ≤ y.1.pushed → Went before ys s turns y
  went_by before xs ys s turns y eq h a b = record { stands = regrouped xs (before ++ ys) y.1 turns eq h; popped = a; pushed = b }

  -- DECLARATIONS, ASSIGNMENTS, PUSHES

  declare_met : (n : Name) (t : Option Expression) (before : List ReadWord) (s : At) (turns : Store) → e ≤ 65536 → Stands before s turns
      → Meets above (each_word e before (read_of (Declare n t) turns)) (step_of e (Declare n t) s) (Went before (read_of (Declare n t) turns) s turns)
  declare_met n t before s turns small h =
      let sf = spelled_first t turns in
      let o = record s { size = s.size + 1 } in
      let b1 = before ++ Begins ∷ [] in
      let b2 = b1 ++ Declares n ∷ [] in
      let Q = Went before (read_of (Declare n t) turns) s turns in
      begins_met before (Declares n ∷ (sf ++ Knows n ∷ [])) s turns
      (λ s. on_ok (is_new (find s.scope n)) (λ u. on_ok (has_slot s) (λ w. on_ok (first_term e t s) (λ v. Ok (declared n t s v))))) Q h
      (λ h1. declares_met b1 (sf ++ Knows n ∷ []) o turns n (find s.scope n) (on_ok (first_term e t o) (λ v. Ok (declared n t o v))) Q refl h1
      (λ new h2. next above e b2 sf (Knows n ∷ []) (first_term e t o) (λ v. Ok (declared n t o v))
      (λ u. Stands (b2 ++ sf) (record o { popped = o.popped + first_popped t }) turns) Q (first_met above e t b2 o turns small h2)
      (λ v f. (
        (knows_free (b2 ++ sf) n, tt),
        went_by before ((b2 ++ sf) ++ Knows n ∷ []) (read_of (Declare n t) turns) s turns (declared n t o v)
            (append_assoc b2 sf (Knows n ∷ []) ∙ regroup b1 (Declares n) (sf ++ Knows n ∷ []) ∙ regroup before Begins (Declares n ∷ (sf ++ Knows n ∷ [])))
            (with_local (b2 ++ sf) (record o { popped = o.popped + first_popped t }) turns n new f)
            (omega arith) (omega arith),
      ))))

  assign_met : (n : Name) (t : Expression) (before : List ReadWord) (s : At) (turns : Store) → e ≤ 65536 → Stands before s turns
      → Meets above (each_word e before (read_of (Assign n t) turns)) (step_of e (Assign n t) s) (Went before (read_of (Assign n t) turns) s turns)
  assign_met n t before s turns small h =
      let sp = spelled t turns in
      let o = record s { size = s.size + 1 } in
      let b1 = before ++ Begins ∷ [] in
      let b2 = b1 ++ Sets n ∷ [] in
      let Q = Went before (read_of (Assign n t) turns) s turns in
      begins_met before (Sets n ∷ sp) s turns
      (λ s. on_ok (slot_of (find s.scope n)) (λ i. on_ok (term_of e s.scope t s.popped)
      (λ v. Ok (one_step (steps.Set i v), record s { popped = s.popped + pops t })))) Q h
      (λ h1. sets_met b1 sp o turns n (find s.scope n) (λ i. on_ok (term_of e s.scope t s.popped)
      (λ v. Ok (one_step (steps.Set i v), record o { popped = o.popped + pops t }))) Q refl h1
      (λ i h2. finish above (each_word e b2 sp) (term_of e s.scope t s.popped) (λ v. (one_step (steps.Set i v), record o { popped = o.popped + pops t }))
      (λ u. Stands (b2 ++ sp) (record o { popped = o.popped + pops t }) turns) Q (spelled_met above e t b2 o turns small h2)
      (λ v f. went_by before (b2 ++ sp) (read_of (Assign n t) turns) s turns (one_step (steps.Set i v), record o { popped = o.popped + pops t })
      (regroup b1 (Sets n) sp ∙ regroup before Begins (Sets n ∷ sp)) f (omega arith) (omega arith))))

  push_met : (t : Expression) (before : List ReadWord) (s : At) (turns : Store) → e ≤ 65536 → Stands before s turns
      → Meets above (each_word e before (read_of (Push t) turns)) (step_of e (Push t) s) (Went before (read_of (Push t) turns) s turns)
  push_met t before s turns small h =
      let sp = spelled t turns in
      let o = record s { size = s.size + 1 } in
      let b1 = before ++ Begins ∷ [] in
      let Q = Went before (read_of (Push t) turns) s turns in
      let o1 = record o { popped = o.popped + pops t } in
      let y : Term → Steps × At = λ v. (one_step (steps.Push 0 (v ∷ [])), record o { popped = o.popped + pops t; pushed = o.pushed + 1 }) in
      begins_met before (sp ++ Pushes ∷ []) s turns
      (λ s. on_ok (term_of e s.scope t s.popped) (λ v. Ok (one_step (steps.Push 0 (v ∷ [])), record s { popped = s.popped + pops t; pushed = s.pushed + 1 })))
      Q h
      (λ h1. next above e b1 sp (Pushes ∷ []) (term_of e s.scope t s.popped) (λ v. Ok (y v)) (λ u. Stands (b1 ++ sp) o1 turns) Q
      (spelled_met above e t b1 o turns small h1)
      (λ v f. (
        (pushes_free (b1 ++ sp), tt),
        went_by before ((b1 ++ sp) ++ Pushes ∷ []) (read_of (Push t) turns) s turns (y v)
            (append_assoc b1 sp (Pushes ∷ []) ∙ regroup before Begins (sp ++ Pushes ∷ []))
            (moved (b1 ++ sp) (Pushes ∷ []) o1 turns o1.slots o1.popped (o1.pushed + 1) o1.size f (λ m. (refl, refl)) (omega arith) (omega arith) (omega arith)
            (omega arith))
            (omega arith) (omega arith),
      )))

  drop_met : (before : List ReadWord) (s : At) (turns : Store) → Stands before s turns
      → Meets above (each_word e before (read_of Discard turns)) (step_of e Discard s) (Went before (read_of Discard turns) s turns)
  drop_met before s turns h = (
    (drops_free before, tt),
    record {
      stands = moved before (Drops ∷ []) s turns s.slots (s.popped + 1) s.pushed s.size h (λ m. (refl, refl)) (omega arith) (omega arith) (omega arith)
          (omega arith);
      popped = omega arith;
      pushed = omega arith;
    },
  )

  -- ARMS

  -- where the second arm begins
  second_stands : (before ws : List ReadWord) (s t : At) (turns : Store) → IsEven ws → Stands before s turns
      → Stands (before ++ ws) (record t { scope = s.scope }) turns
      → s.popped ≤ t.popped → s.pushed ≤ t.pushed
      → Stands ((before ++ ws) ++ Otherwise (popped_in ws) (pushed_in ws) ∷ []) (record s { slots = t.slots; size = t.size }) turns
  second_stands before ws s t turns even h g a b =
      let o = Otherwise (popped_in ws) (pushed_in ws) in
      let c0 = g.counts.slots_are in let c1 = g.counts.size_is in let c2 = g.counts.pops_are in let c3 = g.counts.pushes_are in
      let d2 = h.counts.pops_are in let d3 = h.counts.pushes_are in
      let t0 = over-append takes (before ++ ws) (o ∷ []) in let t1 = over-append begins_one (before ++ ws) (o ∷ []) in
      let t2 = over-append pops_one (before ++ ws) (o ∷ []) in let t3 = over-append pops_beside (before ++ ws) (o ∷ []) in
      let t4 = over-append pushes_one (before ++ ws) (o ∷ []) in let t5 = over-append pushes_beside (before ++ ws) (o ∷ []) in
      let u2 = over-append pops_one before ws in let u3 = over-append pops_beside before ws in
      let u4 = over-append pushes_one before ws in let u5 = over-append pushes_beside before ws in
      record {
        counts = record {
          slots_are = omega (arith, c0, t0);
          size_is = omega (arith, c1, t1);
          pops_are = omega (arith, c2, d2, t2, t3, u2, u3, a);
          pushes_are = omega (arith, c3, d3, t4, t5, u4, u5, b);
        };
        names = names_on (before ++ ws) (o ∷ []) s.scope turns (λ n. (refl, refl)) (names_on before ws s.scope turns even h.names);
      }

  -- what an arm pops
  arm_pops : (before ws : List ReadWord) (s t : At) (turns : Store) → Stands before s turns → Stands (before ++ ws) t turns
      → popped_in ws ≡ t.popped - s.popped
  arm_pops before ws s t turns h g =
      let c = g.counts.pops_are in let d = h.counts.pops_are in
      let u = over-append pops_one before ws in let v = over-append pops_beside before ws in
      omega (arith, c, d, u, v)

  arm_pushes : (before ws : List ReadWord) (s t : At) (turns : Store) → Stands before s turns → Stands (before ++ ws) t turns
      → pushed_in ws ≡ t.pushed - s.pushed
  arm_pushes before ws s t turns h g =
      let c = g.counts.pushes_are in let d = h.counts.pushes_are in
      let u = over-append pushes_one before ws in let v = over-append pushes_beside before ws in
      omega (arith, c, d, u, v)

  joins_met : (before : List ReadWord) (s : At) (turns : Store) (c : Term) (p q : Steps × At) (a b a' b' : ℕ) (Q : Steps × At → Type 0)
      → (a ≡ a' → p.1.popped ≡ q.1.popped) → (p.1.popped ≡ q.1.popped → a ≡ a') → (b ≡ b' → p.1.pushed ≡ q.1.pushed) → (p.1.pushed ≡ q.1.pushed → b ≡ b')
      → Q (one_step (steps.If c p.0 q.0), record q.1 { scope = s.scope })
      → Meets above (Reads e before (Joins a b a' b') ∷ []) (after_arms s c p q) Q
  joins_met before s turns c p q a b a' b' Q f g f' g' k =
      let spot = Reads e before (Joins a b a' b') in
      last_test above (spot ∷ []) (nat_eq p.1.popped q.1.popped && nat_eq p.1.pushed q.1.pushed)
      (one_step (steps.If c p.0 q.0), record q.1 { scope = s.scope }) BranchRates Q
      (λ t.
      let same = same_numbers p.1.popped q.1.popped p.1.pushed q.1.pushed t in (
        (free above spot (λ h. h) (λ h. h) (λ d c h. h) (λ i r h. h) (λ h. h) (λ h. h (g same.0, g' same.1)) (λ h. h) (λ h. h), tt),
        k,
      ))
      (λ t.
      inl (first_arms above spot (λ same. other_numbers p.1.popped q.1.popped p.1.pushed q.1.pushed t (f same.0, f' same.1)) (λ h. h) (λ h. h) (λ h. h) (λ h. h)
      (λ i r h. h) (λ h. h) (λ d c h. h)))

  -- TURNS

  abbrev pub IsRead : (Store → List ReadWord) → (At → Read) → Type 0
  IsRead block f =
      (before : List ReadWord) (s : At) (turns : Store) → Stands before s turns → Meets above (each_word e before (block turns)) (f s)
      (Within before (block turns) s turns)

  turns_met : (block : Store → List ReadWord) (f : At → Read) → IsRead block f → ((inner : Store) → IsEven (block inner)) → (n : Name) (vs : List ℕ)
      → (before : List ReadWord) (s : At) (turns : Store) → find s.scope n ≡ None → Stands before s turns
      → Meets above (each_word e before (turning n block vs turns)) (unrolled f n vs s) (Went before (turning n block vs turns) s turns)
  turns_met block f reads even n [] before s turns new h =
      (tt, record { stands = regrouped before (before ++ []) s turns (sym (append-nil before)) h; popped = omega arith; pushed = omega arith })
  turns_met block f reads even n (v ∷ vs) before s turns new h =
      let inner = at_name n (pos v) turns in
      let bw = block inner in
      let rest = turning n block vs turns in
      let o = record s { size = s.size + 1 } in
      let i = record o { scope = (n, Turn v) ∷ s.scope } in
      let b1 = before ++ Begins ∷ [] in
      let b2 = b1 ++ Enters n ∷ [] in
      let b3 = b2 ++ bw in
      let b4 = b3 ++ Exits n ∷ [] in
      let Q = Went before (turning n block (v ∷ vs) turns) s turns in
      begins_met before (Enters n ∷ (bw ++ Exits n ∷ rest)) s turns
      (λ t. on_ok (f (record t { scope = (n, Turn v) ∷ s.scope })) (λ a. on_ok (unrolled f n vs (record a.1 { scope = s.scope }))
      (λ b. Ok (both_steps a.0 b.0, b.1)))) Q h
      (λ h1. beyond above e b1 (Enters n ∷ []) (bw ++ Exits n ∷ rest) _ Q (enters_free b1 n, tt)
      (next above e b2 bw (Exits n ∷ rest) (f i) (λ a. on_ok (unrolled f n vs (record a.1 { scope = s.scope })) (λ b. Ok (both_steps a.0 b.0, b.1)))
      (Within b2 bw i inner) Q (reads b2 i inner (with_turn b1 o turns n v new h1))
      (λ a w.
      let t = record a.1 { scope = s.scope } in
      let ws = Enters n ∷ (bw ++ Exits n ∷ []) in
      let g : b1 ++ ws ≡ b4 = sym (append_assoc b2 bw (Exits n ∷ []) ∙ regroup b1 (Enters n) (bw ++ Exits n ∷ [])) in
      let c : Counted b4 t.slots t.size t.popped t.pushed =
      counted_on b3 (Exits n ∷ []) t.slots t.size t.popped t.pushed t.slots t.size t.popped t.pushed w.stands.counts (omega arith) (omega arith) (omega arith)
      (omega arith) in
      let at : Stands b4 t turns =
      regrouped (b1 ++ ws) b4 t turns g
      (left_behind b1 ws o turns t.slots t.size t.popped t.pushed h1 (even_turn n bw (even inner))
      (subst (λ b. Counted b t.slots t.size t.popped t.pushed) (sym g) c)) in
      let wp = w.popped in let wq = w.pushed in
      beyond above e b3 (Exits n ∷ []) rest _ Q (exits_free b3 n, tt)
      (finish above (each_word e b4 rest) (unrolled f n vs t) (λ b. (both_steps a.0 b.0, b.1)) (Went b4 rest t turns) Q
      (turns_met block f reads even n vs b4 t turns new at)
      (λ b z.
      let zp = z.popped in let zq = z.pushed in
      went_by before (b4 ++ rest) (turning n block (v ∷ vs) turns) s turns (both_steps a.0 b.0, b.1)
      (regroup b3 (Exits n) rest ∙ append_assoc b2 bw (Exits n ∷ rest) ∙ regroup b1 (Enters n) (bw ++ Exits n ∷ rest) ∙ regroup before Begins
      (Enters n ∷ (bw ++ Exits n ∷ rest)))
      z.stands (omega (arith, wp, zp)) (omega (arith, wq, zq)))))))
    where
      even_turn : (n : Name) (bw : List ReadWord) → IsEven bw → IsEven (Enters n ∷ (bw ++ Exits n ∷ []))
      even_turn n bw h m =
          let p = (h m).0 in let q = (h m).1 in
          let k = over-append (knows m) bw (Exits n ∷ []) in let l = over-append (leaves m) bw (Exits n ∷ []) in
          let x = over-append (enters m) bw (Exits n ∷ []) in let y = over-append (exits m) bw (Exits n ∷ []) in
          (omega (arith, p, k, l), omega (arith, q, x, y))

  -- STATEMENTS AND BLOCKS

  -- a block that was read, with its end
  block_by : (b : Block) (before : List ReadWord) (s : At) (turns : Store) → Stands before s turns
      → Meets above (each_word e before (all_read b turns)) (steps_of e b s) (Went before (all_read b turns) s turns)
      → Meets above (each_word e before (with_end b (all_read b turns))) (steps_of e b s) (Within before (with_end b (all_read b turns)) s turns)
  block_by b before s turns h m =
      let ws = all_read b turns in
      let ns = locals_of b in
      ended above e before ws (map Leaves ns) (steps_of e b s) (Went before ws s turns) (Within before (with_end b ws) s turns) m (all_leave (before ++ ws) ns)
      (λ y w.
      let t = y.1 in
      let g : (before ++ ws) ++ map Leaves ns ≡ before ++ with_end b ws = append_assoc before ws (map Leaves ns) in
      let z0 = leaves_nothing takes ns (λ n. refl) in let z1 = leaves_nothing begins_one ns (λ n. refl) in
      let z2 = leaves_nothing pops_one ns (λ n. refl) in let z3 = leaves_nothing pops_beside ns (λ n. refl) in
      let z4 = leaves_nothing pushes_one ns (λ n. refl) in let z5 = leaves_nothing pushes_beside ns (λ n. refl) in
      let c : Counted ((before ++ ws) ++ map Leaves ns) t.slots t.size t.popped t.pushed =
      counted_on (before ++ ws) (map Leaves ns) t.slots t.size t.popped t.pushed t.slots t.size t.popped t.pushed w.stands.counts
      (omega (arith, z0)) (omega (arith, z1)) (omega (arith, z2, z3)) (omega (arith, z4, z5)) in
      record {
        stands = left_behind before (with_end b ws) s turns t.slots t.size t.popped t.pushed h (even_block b turns)
            (subst (λ x. Counted x t.slots t.size t.popped t.pushed) g c);
        popped = w.popped;
        pushed = w.pushed;
      })

  then_met : (xs ys : List ReadWord) (r : Read) (g : At → Read) (before : List ReadWord) (s : At) (turns : Store)
      → Meets above (each_word e before xs) r (Went before xs s turns)
      → ((b : List ReadWord) (t : At) → Stands b t turns → Meets above (each_word e b ys) (g t) (Went b ys t turns))
      → Meets above (each_word e before (xs ++ ys)) (on_ok r (λ p. on_ok (g p.1) (λ q. Ok (both_steps p.0 q.0, q.1)))) (Went before (xs ++ ys) s turns)
  then_met xs ys r g before s turns m k =
      next above e before xs ys r (λ p. on_ok (g p.1) (λ q. Ok (both_steps p.0 q.0, q.1))) (Went before xs s turns) (Went before (xs ++ ys) s turns) m
      (λ p w. finish above (each_word e (before ++ xs) ys) (g p.1) (λ q. (both_steps p.0 q.0, q.1)) (Went (before ++ xs) ys p.1 turns)
      (Went before (xs ++ ys) s turns)
      (k (before ++ xs) p.1 w.stands)
      (λ q z.
      let wp = w.popped in let wq = w.pushed in let zp = z.popped in let zq = z.pushed in
      went_by before ((before ++ xs) ++ ys) (xs ++ ys) s turns (both_steps p.0 q.0, q.1) (append_assoc before xs ys) z.stands (omega (arith, wp, zp))
      (omega (arith, wq, zq))))

  if_met : (t : Expression) (a : Block) (b : Optional) (before : List ReadWord) (s : At) (turns : Store) → e ≤ 65536 → Stands before s turns
      → ((x : List ReadWord) (u : At) → Stands x u turns → Meets above (each_word e x (all_read a turns)) (steps_of e a u) (Went x (all_read a turns) u turns))
      → ((x : List ReadWord) (u : At) → Stands x u turns → Meets above (each_word e x (optional_read b turns)) (optional_of e b u)
      (Within x (optional_read b turns) u turns))
      → Meets above (each_word e before (read_of (If t a b) turns)) (step_of e (If t a b) s) (Went before (read_of (If t a b) turns) s turns)
  if_met t a b before s turns small h ra rb =
      let sp = spelled t turns in
      let A = with_end a (all_read a turns) in
      let B = optional_read b turns in
      let O = Otherwise (popped_in A) (pushed_in A) in
      let J = Joins (popped_in A) (pushed_in A) (popped_in B) (pushed_in B) in
      let o = record s { size = s.size + 1 } in
      let s1 = record o { popped = o.popped + pops t } in
      let b1 = before ++ Begins ∷ [] in
      let b2 = b1 ++ sp in
      let b3 = b2 ++ A in
      let b4 = b3 ++ O ∷ [] in
      let b5 = b4 ++ B in
      let Q = Went before (read_of (If t a b) turns) s turns in
      begins_met before (sp ++ arms A B) s turns
      (λ s. on_ok (term_of e s.scope t s.popped) (λ c.
      on_ok (steps_of e a (record s { popped = s.popped + pops t })) (λ p.
      on_ok (optional_of e b (record s { popped = s.popped + pops t; slots = p.1.slots; size = p.1.size })) (after_arms s c p)))) Q h
      (λ h1. next above e b1 sp (arms A B) (term_of e s.scope t s.popped)
      (λ c. on_ok (steps_of e a s1) (λ p. on_ok (optional_of e b (record s1 { slots = p.1.slots; size = p.1.size })) (after_arms o c p)))
      (λ u. Stands b2 s1 turns) Q (spelled_met above e t b1 o turns small h1)
      (λ c f. next above e b2 A (O ∷ (B ++ J ∷ [])) (steps_of e a s1) (λ p. on_ok (optional_of e b (record s1 { slots = p.1.slots; size = p.1.size }))
      (after_arms o c p))
      (Within b2 A s1 turns) Q (block_by a b2 s1 turns f (ra b2 s1 f))
      (λ p w.
      let s2 = record s1 { slots = p.1.slots; size = p.1.size } in
      let at = second_stands b2 A s1 p.1 turns (even_block a turns) f w.stands w.popped w.pushed in
      beyond above e b3 (O ∷ []) (B ++ J ∷ []) (on_ok (optional_of e b s2) (after_arms o c p)) Q (otherwise_free b3 (popped_in A) (pushed_in A), tt)
      (next above e b4 B (J ∷ []) (optional_of e b s2) (after_arms o c p) (Within b4 B s2 turns) Q (rb b4 s2 at)
      (λ q z.
      let pa = arm_pops b2 A s1 (record p.1 { scope = s1.scope }) turns f w.stands in
      let pb = arm_pops b4 B s2 (record q.1 { scope = s2.scope }) turns at z.stands in
      let qa = arm_pushes b2 A s1 (record p.1 { scope = s1.scope }) turns f w.stands in
      let qb = arm_pushes b4 B s2 (record q.1 { scope = s2.scope }) turns at z.stands in
      let wp = w.popped in let wq = w.pushed in let zp = z.popped in let zq = z.pushed in
      joins_met b5 o turns c p q (popped_in A) (pushed_in A) (popped_in B) (pushed_in B) Q
      (λ x. omega (arith, pa, pb, wp, zp, x)) (λ x. omega (arith, pa, pb, wp, zp, x)) (λ x. omega (arith, qa, qb, wq, zq, x))
      (λ x. omega (arith, qa, qb, wq, zq, x))
      (went_by before (b5 ++ J ∷ []) (read_of (If t a b) turns) s turns (one_step (steps.If c p.0 q.0), record q.1 { scope = o.scope })
      (append_assoc b4 B (J ∷ []) ∙ regroup b3 O (B ++ J ∷ []) ∙ append_assoc b2 A (O ∷ (B ++ J ∷ [])) ∙ append_assoc b1 sp (arms A B) ∙ regroup before Begins
      (sp ++ arms A B))
      (unmoved b5 J (record q.1 { scope = s.scope }) turns z.stands (λ n. (refl, refl)) refl refl refl refl refl refl)
      (omega (arith, zp)) (omega (arith, zq))))))))

  for_met : (n : Name) (low : Expression) (upto : Bool) (high : Expression) (b : Block) (before : List ReadWord) (s : At) (turns : Store)
      → Stands before s turns
      → ((x : List ReadWord) (u : At) (inner : Store) → Stands x u inner → Meets above (each_word e x (all_read b inner)) (steps_of e b u)
      (Went x (all_read b inner) u inner))
      → Meets above (each_word e before (read_of (For n low upto high b) turns)) (step_of e (For n low upto high b) s)
      (Went before (read_of (For n low upto high b) turns) s turns)
  for_met n low upto high b before s turns h rb =
      let fl = fixed low in
      let fh = fixed high in
      let lv = fixed_value low turns in
      let hv = fixed_value high turns in
      let block = λ (inner : Store). with_end b (all_read b inner) in
      let T = turning n block (turns_between lv upto hv) turns in
      let b1 = before ++ Loops n ∷ [] in
      let b2 = b1 ++ fl in
      let b3 = b2 ++ Bounds lv ∷ [] in
      let b4 = b3 ++ fh in
      let b5 = b4 ++ Bounds hv ∷ [] in
      let Q = Went before (read_of (For n low upto high b) turns) s turns in
      let to = λ (l h : ℕ). unrolled (steps_of e b) n (numbers_from l (h + (if upto then 1 else 0) - l)) s in
      let second = λ (l : ℕ). on_ok (constant s.scope high) (λ y. on_ok (bound_of y) (to l)) in
      loops_met before (fl ++ Bounds lv ∷ (fh ++ Bounds hv ∷ T)) s turns n (find s.scope n) (on_ok (constant s.scope low) (λ x. on_ok (bound_of x) second)) Q
      refl h
      (λ new h1. next above e b1 fl (Bounds lv ∷ (fh ++ Bounds hv ∷ T)) (constant s.scope low) (λ x. on_ok (bound_of x) second) (Fixed above e b1 low s turns) Q
      (fixed_met above e low b1 s turns h1)
      (λ x f. subst (λ z. Meets above (each_word e b2 (Bounds lv ∷ (fh ++ Bounds hv ∷ T))) (on_ok (bound_of z) second) Q) (f.value [] 0)
      (bounds_at b2 (fh ++ Bounds hv ∷ T) s turns lv second Q f.stands
      (λ l is h2. next above e b3 fh (Bounds hv ∷ T) (constant s.scope high) (λ y. on_ok (bound_of y) (to l)) (Fixed above e b3 high s turns) Q
      (fixed_met above e high b3 s turns h2)
      (λ y g. subst (λ z. Meets above (each_word e b4 (Bounds hv ∷ T)) (on_ok (bound_of z) (to l)) Q) (g.value [] 0)
      (bounds_at b4 T s turns hv (to l) Q g.stands
      (λ k is' h3.
      let same : turns_between lv upto hv ≡ numbers_from l (k + (if upto then 1 else 0) - l) = ap (λ z. turns_between z upto hv) is ∙ ap
      (λ z. turns_between (pos l) upto z) is' in
      subst (λ vs. Meets above (each_word e b5 T) (unrolled (steps_of e b) n vs s) Q) same
      (weaken above (each_word e b5 T) (unrolled (steps_of e b) n (turns_between lv upto hv) s) (Went b5 T s turns) Q
      (turns_met block (steps_of e b) (λ x u inner st. block_by b x u inner st (rb x u inner st)) (λ inner. even_block b inner) n (turns_between lv upto hv) b5
      s turns new h3)
      (λ y w. went_by before (b5 ++ T) (read_of (For n low upto high b) turns) s turns y
      (regroup b4 (Bounds hv) T ∙ append_assoc b3 fh (Bounds hv ∷ T) ∙ regroup b2 (Bounds lv) (fh ++ Bounds hv ∷ T) ∙ append_assoc b1 fl
      (Bounds lv ∷ (fh ++ Bounds hv ∷ T))
      ∙ regroup before (Loops n) (fl ++ Bounds lv ∷ (fh ++ Bounds hv ∷ T)))
      w.stands w.popped w.pushed)))))))))

  mutual
    pub statement_met : (c : Statement) (before : List ReadWord) (s : At) (turns : Store) → e ≤ 65536 → Stands before s turns
        → Meets above (each_word e before (read_of c turns)) (step_of e c s) (Went before (read_of c turns) s turns)
    statement_met (Declare n t) before s turns small h = declare_met n t before s turns small h
    statement_met (Assign n t) before s turns small h = assign_met n t before s turns small h
    statement_met (Push t) before s turns small h = push_met t before s turns small h
    statement_met Discard before s turns small h = drop_met before s turns h
    statement_met (If t a b) before s turns small h =
        if_met t a b before s turns small h (λ x u st. all_met a x u turns small st) (λ x u st. optional_met b x u turns small st)
    statement_met (For n low upto high b) before s turns small h =
        for_met n low upto high b before s turns h (λ x u inner st. all_met b x u inner small st)

    -- reading a block tells the first fault of its words, or goes on behind them
    pub all_met : (b : Block) (before : List ReadWord) (s : At) (turns : Store) → e ≤ 65536 → Stands before s turns
        → Meets above (each_word e before (all_read b turns)) (steps_of e b s) (Went before (all_read b turns) s turns)
    all_met End before s turns small h =
        (tt, record { stands = regrouped before (before ++ []) s turns (sym (append-nil before)) h; popped = omega arith; pushed = omega arith })
    all_met (Then c b) before s turns small h =
        then_met (read_of c turns) (all_read b turns) (step_of e c s) (λ t. steps_of e b t) before s turns (statement_met c before s turns small h)
        (λ x u st. all_met b x u turns small st)

    -- and so does reading one that may be left out
    pub optional_met : (o : Optional) (before : List ReadWord) (s : At) (turns : Store) → e ≤ 65536 → Stands before s turns
        → Meets above (each_word e before (optional_read o turns)) (optional_of e o s) (Within before (optional_read o turns) s turns)
    optional_met Unwritten before s turns small h =
        (tt, record { stands = regrouped before (before ++ []) s turns (sym (append-nil before)) h; popped = omega arith; pushed = omega arith })
    optional_met (Written b) before s turns small h = block_by b before s turns h (all_met b before s turns small h)
