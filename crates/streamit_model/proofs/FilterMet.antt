-- A filter of a plan gives what the filter as it is written gives.
use Rattle.std.proofs.Common.{◌≡◌, ℕ, zero, suc, ℤ, pos, ◌+◌, ◌-◌, ◌*◌, ◌<◌, ◌≤◌, true, List, [], ◌∷◌, ◌++◌, length, map, take, drop, replicate, max, Option, Some, None, Ok, refl}
use Rattle.std.proofs.Common.{sym, ap, ◌∙◌, subst, arith, nat_le, nat_eq, ⊎_elim, length-append}
use Rattle.std.specs.Prelude.{if◌then◌else◌, ◌&&◌, slice_index_or, nat_lt}
use Rattle.std.proofs.lemmas.Bool.{and_parts, leb-true, eqb-true}
use Rattle.std.proofs.lemmas.List.{length-replicate}
use Rattle.std.proofs.Math.Nat.{le_refl}
use Rattle.std.proofs.lemmas.Option.{same_Some}
use Rattle.brooklet_model.proofs.Lists.{at_here, at_other}
use Rattle.work_code.specs.Steps.{Steps}
use Rattle.work_code.specs.Ran.{ran}
use Rattle.kern_rows.specs.Forms.{FilterForm, RunForm}
use Rattle.kern_rows.specs.Runs.{run_kept, slots_from, run_or, run_at, begins, needs}
use Rattle.kern_rows.specs.Stands.{first_values}
use Rattle.kern_rows.proofs.Lengths.{ran_length, run_kept_length}
use Rattle.river_plan.specs.Forms.{Name}
use Rattle.river_plan.proofs.NameLemmas.{cases_name, name_same}
use Rattle.brooklet_model.specs.Machine.{at_name}
use Rattle.streamit_text.specs.Tree.{Block, End, Optional, Unwritten, Written}
use Rattle.streamit_model.specs.Meaning.{Store, exec_all, State, exec_optional, push_of, pop_of, peek_of, nought, with_fields, at_start, initial, fires}
use Rattle.streamit_model.specs.Meaning.{or_work, runs_in, start_at, waits_for, looked_at, fires_from, pushed_by}
use Rattle.streamit_model.specs.Elaborate.{on_ok, demand, Var, Scope, find, is_new, has_slot, At, steps_of, optional_of}
use Rattle.streamit_model.specs.declared.fault.Fault.TheVariants.{Rates, Limit}
use Rattle.streamit_text.specs.Program.{WorkTree, FilterTree}
use Rattle.streamit_model.specs.ElaborateFilter.{read_field, read_fields, nothing_read, starts_of, elaborated_form, judged_rates, kept_rates, elaborated}
use Rattle.streamit_model.specs.ElaborateFilter.{run_of, read_work, read_prework, slots_for, widened, widened_first}
use Rattle.streamit_model.specs.UnrolledFilters.{firing, firings_from, filtered}
use Rattle.streamit_model.proofs.Elaborated.{fine, ok_parts, ok_is, demanded, new_is, found_here, found_other, Holds, Agrees}
use Rattle.streamit_model.proofs.Elaborated.{IsSound, Keeps, keeps_new, sound_var, steps_grow, steps_met}

-- THE FIELDS

next : Name → At → At
next f s = record s { scope = (f, Var s.slots) ∷ s.scope; slots = s.slots + 1 }

record Field (f : Name) (fs : List Name) (s s' : At) : Type 0 where
  few : nat_lt s.slots 256 ≡ true
  new : find s.scope f ≡ None
  others : read_fields fs (next f s) ≡ Ok s'

field : (f : Name) (fs : List Name) (s s' : At) → read_fields (f ∷ fs) s ≡ Ok s' → Field f fs s s'
unfolding next
field f fs s s' h =
    let r = ok_parts (read_field f s) (read_fields fs) s' h in
    let p = ok_parts (is_new (find s.scope f)) (λ u. on_ok (has_slot s) (λ w. fine (next f s))) r.0 r.1 in
    let q = ok_parts (has_slot s) (λ w. fine (next f s)) r.0 p.2 in
    record {
      new = new_is (find s.scope f) p.0 p.1;
      few = demanded (nat_lt s.slots 256) Limit q.0 q.1;
      others = ap (read_fields fs) (ok_is (next f s) r.0 q.2) ∙ r.2;
    }

pub record Read (fs : List Name) (s s' : At) : Type 0 where
  pub keeps : Keeps s.scope s'.scope
  pub slots : s'.slots ≡ s.slots + length fs
  pub sound : IsSound s.scope s.slots → IsSound s'.scope s'.slots
  pub popped : s'.popped ≡ s.popped
  pub pushed : s'.pushed ≡ s.pushed
  pub size : s'.size ≡ s.size

-- what is known behind the fields
pub fields_read : (fs : List Name) (s s' : At) → read_fields fs s ≡ Ok s' → Read fs s s'
unfolding next
fields_read [] s s' h =
    subst (Read [] s) (ok_is s s' h) (record { keeps = λ n b f. f; slots = omega arith; sound = λ z. z; popped = refl; pushed = refl; size = refl })
fields_read (f ∷ fs) s s' h =
    let p = field f fs s s' h in
    let r = fields_read fs (next f s) s' p.others in
    record {
      keeps = λ n b g. r.keeps n b (keeps_new f (Var s.slots) s.scope p.new n b g);
      slots = let e = r.slots in omega (arith, e);
      sound = λ z. r.sound (sound_var f s.scope s.slots z);
      popped = r.popped;
      pushed = r.pushed;
      size = r.size;
    }

-- fields take no more slots than there are
pub fields_few : (fs : List Name) (s s' : At) → read_fields fs s ≡ Ok s' → s.slots ≤ 256 → s'.slots ≤ 256
unfolding next
fields_few [] s s' h le = subst (λ t. t.slots ≤ 256) (ok_is s s' h) le
fields_few (f ∷ fs) s s' h le = let p = field f fs s s' h in fields_few fs (next f s) s' p.others (below p.few)
  where
    below : nat_lt s.slots 256 ≡ true → s.slots + 1 ≤ 256
    below e = grind (arith, e)

-- the fields have the values of their slots
fields_agree : (fs : List Name) (kept : List ℤ) (s s' : At) (env : Store) (mem : List ℤ) → read_fields fs s ≡ Ok s' → length kept ≡ length fs
    → ((i : ℕ) → i < length fs → slice_index_or mem (s.slots + i) (pos 0) ≡ slice_index_or kept i (pos 0)) → Agrees s.scope env mem
    → Agrees s'.scope (with_fields fs kept env) mem
unfolding next
fields_agree [] kept s s' env mem h len at a = subst (λ t. Agrees t.scope env mem) (ok_is s s' h) a
fields_agree (f ∷ fs) [] s s' env mem h len at a = absurd (omega (arith, len))
fields_agree (f ∷ fs) (z ∷ zs) s s' env mem h len at a =
    let p = field f fs s s' h in
    let here : slice_index_or mem s.slots (pos 0) ≡ z = ap (λ k. slice_index_or mem k (pos 0)) (let e : s.slots ≡ s.slots + 0 = omega arith in e)
    ∙ at 0 (omega arith) in
    fields_agree fs zs (next f s) s' (at_name f z env) mem p.others (omega (arith, len))
    (λ i lt. ap (λ k. slice_index_or mem k (pos 0)) (let e : s.slots + 1 + i ≡ s.slots + suc i = omega arith in e) ∙ at (suc i) (omega (arith, lt)))
    (record {
      each = λ m b g. ⊎_elim
          (λ e. subst (λ c. Holds c (at_name f z env m) mem) (same_Some (Var s.slots) b (sym (found_here f m (Var s.slots) s.scope e.1) ∙ g))
          (here ∙ sym (at_here f m z env e.1)))
          (λ e. subst (λ w. Holds b w mem) (sym (at_other f m z env e.1)) (a.each m b (sym (found_other f m (Var s.slots) s.scope e.1) ∙ g)))
          (cases_name f m);
    })

taken_one : (mem : List ℤ) (k n : ℕ) → k < length mem → take (suc n) (drop k mem) ≡ slice_index_or mem k (pos 0) ∷ take n (drop (suc k) mem)
taken_one [] k n lt = absurd (omega (arith, lt))
taken_one (z ∷ mem) zero n lt = refl
taken_one (z ∷ mem) (suc k) n lt = taken_one mem k n (omega (arith, lt))

-- what the fields have afterwards are the first slots
fields_kept : (fs : List Name) (s s' : At) (sc : Scope) (env : Store) (mem : List ℤ) → read_fields fs s ≡ Ok s' → Keeps s'.scope sc → Agrees sc env mem
    → s.slots + length fs ≤ length mem → map env fs ≡ take (length fs) (drop s.slots mem)
unfolding next
fields_kept [] s s' sc env mem h k a le = refl
fields_kept (f ∷ fs) s s' sc env mem h k a le =
    let p = field f fs s s' h in
    let r = fields_read fs (next f s) s' p.others in
    let slot = k f (Var s.slots) (r.keeps f (Var s.slots) (found_here f f (Var s.slots) s.scope (name_same f))) in
    let v = a.each f (Var s.slots) slot in
    ap (λ z. z ∷ map env fs) (sym v)
    ∙ ap (λ l. slice_index_or mem s.slots (pos 0) ∷ l) (fields_kept fs (next f s) s' sc env mem p.others k a (omega (arith, le)))
    ∙ ap (λ j. slice_index_or mem s.slots (pos 0) ∷ take (length fs) (drop j mem)) (let e : s.slots + 1 ≡ suc s.slots = omega arith in e)
    ∙ sym (taken_one mem s.slots (length fs) (omega (arith, le)))

-- ONE RUN OF A BLOCK

at_first : (xs ys : List ℤ) (i : ℕ) → i < length xs → slice_index_or (xs ++ ys) i (pos 0) ≡ slice_index_or xs i (pos 0)
at_first [] ys i lt = absurd (omega (arith, lt))
at_first (x ∷ xs) ys zero lt = refl
at_first (x ∷ xs) ys (suc i) lt = at_first xs ys i (omega (arith, lt))

no_scope : (env : Store) (mem : List ℤ) → Agrees [] env mem
no_scope env mem = record { each = λ n b f. absurd (cc f) }

-- where nothing is known, all that is known has a slot
pub sound_nothing : IsSound [] 0
sound_nothing = record { below = λ n i f. absurd (cc f); apart = λ n m i f g. absurd (cc f) }

-- a run of a block does what is read of it does, with so many slots
pub record RunMet (fs : List Name) (run : List ℤ → State → State) (steps : Steps) (m : ℕ) (kept xs : List ℤ) : Type 0 where
  pub pushed : (run xs (at_start fs kept)).pushed ≡ first_values (ran steps xs (slots_from m kept)).pushes
  pub fields : map (run xs (at_start fs kept)).values fs ≡ take (length kept) (ran steps xs (slots_from m kept)).slots

run_met : (fs : List Name) (b : Block) (e m : ℕ) (s : At) (y : Steps × At) (kept xs : List ℤ) → read_fields fs nothing_read ≡ Ok s → steps_of e b s ≡ Ok y
    → y.1.slots ≤ m → length kept ≡ length fs → RunMet fs (exec_all b) y.0 m kept xs
run_met fs b e m s y kept xs hf hb le len =
    let r = fields_read fs nothing_read s hf in
    let g = steps_grow e b s y hb in
    let mem = slots_from m kept in
    let a0 = length-append kept (replicate (m - length kept) (pos 0)) in
    let a1 = length-replicate (m - length kept) (pos 0) in
    let a2 = r.slots in
    let a3 = g.slots in
    let n : length mem ≡ m = omega (arith, a0, a1, a2, a3, len, le) in
    let agree = fields_agree fs kept nothing_read s nought mem hf len
    (λ i lt. ap (λ k. slice_index_or mem k (pos 0)) (let z : 0 + i ≡ i = omega arith in z)
    ∙ at_first kept (replicate (m - length kept) (pos 0)) i (omega (arith, len, lt))) (no_scope nought mem) in
    let d = steps_met e xs b s y mem (at_start fs kept) hb (r.sound sound_nothing) agree (sym r.popped) (omega (arith, n, le)) in
    let l = ran_length y.0 xs mem in
    record {
      pushed = d.pushed;
      fields =
          fields_kept fs nothing_read s y.1.scope (exec_all b xs (at_start fs kept)).values (ran y.0 xs mem).slots hf g.keeps d.agrees
          (omega (arith, l, n, le, a2, a3))
          ∙ ap (λ k. take k (ran y.0 xs mem).slots) (sym len);
    }

run_optional : (fs : List Name) (b : Optional) (e : ℕ) (s : At) (y : Steps × At) (kept xs : List ℤ) → read_fields fs nothing_read ≡ Ok s
    → optional_of e b s ≡ Ok y → length kept ≡ length fs → RunMet fs (exec_optional b) y.0 y.1.slots kept xs
run_optional fs Unwritten e s y kept xs hf hb len =
    let r = run_met fs End e y.1.slots s y kept xs hf hb (le_refl y.1.slots) len in
    record { pushed = r.pushed; fields = r.fields }
run_optional fs (Written b) e s y kept xs hf hb len =
    let r = run_met fs b e y.1.slots s y kept xs hf hb (le_refl y.1.slots) len in
    record { pushed = r.pushed; fields = r.fields }

-- WHAT IS ACCEPTED

-- the rates that are accepted
pub record AreRates (least : ℕ) (w : WorkTree) : Type 0 where
  pub push : push_of w ≤ 65536
  pub pop : pop_of w ≤ 65536
  pub peek : peek_of w ≤ 65536
  pub pops : least ≤ pop_of w
  pub peeks : pop_of w ≤ peek_of w

rates_are : (least : ℕ) (w : WorkTree) (u : Unit {0}) → judged_rates least (push_of w) (pop_of w) (peek_of w) ≡ Ok u → AreRates least w
rates_are least w u h =
    let small = nat_le (push_of w) 65536 && (nat_le (pop_of w) 65536 && nat_le (peek_of w) 65536) in
    let f1 = λ (v : Unit {0}). demand (nat_le (pop_of w) (peek_of w)) (Rates (peek_of w) (pop_of w)) in
    let p = ok_parts (demand small Limit) (λ u. on_ok (demand (nat_le least (pop_of w)) Limit) f1) u h in
    let q = ok_parts (demand (nat_le least (pop_of w)) Limit) f1 u p.2 in
    let a = and_parts (nat_le (push_of w) 65536) (nat_le (pop_of w) 65536 && nat_le (peek_of w) 65536) (demanded small Limit p.0 p.1) in
    let b = and_parts (nat_le (pop_of w) 65536) (nat_le (peek_of w) 65536) a.1 in
    record {
      push = leb-true (push_of w) 65536 a.0;
      pop = leb-true (pop_of w) 65536 b.0;
      peek = leb-true (peek_of w) 65536 b.1;
      pops = leb-true least (pop_of w) (demanded (nat_le least (pop_of w)) Limit q.0 q.1);
      peeks = leb-true (pop_of w) (peek_of w) (demanded (nat_le (pop_of w) (peek_of w)) (Rates (peek_of w) (pop_of w)) u q.2);
    }

-- what is read of `prework` or `work` behind the fields
pub record WorkRead (least : ℕ) (w : WorkTree) (s : At) (r : RunForm) : Type 0 where
  pub read : Steps × At
  pub steps_are : steps_of (peek_of w) w.block s ≡ Ok read
  pub rates : AreRates least w
  pub popped : read.1.popped ≡ pop_of w
  pub pushed : read.1.pushed ≡ push_of w
  pub is : run_of w read ≡ r

-- what is read of `prework`, where there is one, and nothing where there is none
abbrev pub PreworkRead : Option WorkTree → At → Option RunForm → Type 0
PreworkRead None s None = Unit {0}
PreworkRead None s (Some r) = ⊥
PreworkRead (Some w) s None = ⊥
PreworkRead (Some w) s (Some r) = WorkRead 0 w s r

pub record Elaborated (t : FilterTree) (f : FilterForm) : Type 0 where
  pub fields : At
  pub init : Steps × At
  pub prework : Option RunForm
  pub work : RunForm
  pub fields_are : read_fields t.fields nothing_read ≡ Ok fields
  pub init_is : optional_of 0 t.init fields ≡ Ok init
  pub prework_is : PreworkRead t.prework fields prework
  pub work_is : WorkRead 1 t.work fields work
  pub is : elaborated_form t init prework work ≡ f

work_parts : (least : ℕ) (w : WorkTree) (s : At) (r : RunForm) → read_work least w s ≡ Ok r → WorkRead least w s r
work_parts least w s r h =
    let f2 = λ (y : Steps × At). on_ok (kept_rates (push_of w) (pop_of w) y.1) (λ v. fine (run_of w y)) in
    let f1 = λ (u : Unit {0}). on_ok (steps_of (peek_of w) w.block s) f2 in
    let p = ok_parts (judged_rates least (push_of w) (pop_of w) (peek_of w)) f1 r h in
    let q = ok_parts (steps_of (peek_of w) w.block s) f2 r p.2 in
    let k = ok_parts (kept_rates (push_of w) (pop_of w) q.0.1) (λ v. fine (run_of w q.0)) r q.2 in
    let m = ok_parts (demand (nat_eq q.0.1.popped (pop_of w)) (Rates (pop_of w) q.0.1.popped))
    (λ u. demand (nat_eq q.0.1.pushed (push_of w)) (Rates (push_of w) q.0.1.pushed)) k.0 k.1 in
    record {
      read = q.0;
      steps_are = q.1;
      rates = rates_are least w p.0 p.1;
      popped = eqb-true q.0.1.popped (pop_of w) (demanded (nat_eq q.0.1.popped (pop_of w)) (Rates (pop_of w) q.0.1.popped) m.0 m.1);
      pushed = eqb-true q.0.1.pushed (push_of w) (demanded (nat_eq q.0.1.pushed (push_of w)) (Rates (push_of w) q.0.1.pushed) k.0 m.2);
      is = ok_is (run_of w q.0) r k.2;
    }

prework_parts : (o : Option WorkTree) (s : At) (p : Option RunForm) → read_prework o s ≡ Ok p → PreworkRead o s p
prework_parts None s p h = subst (λ q. PreworkRead None s q) (ok_is None p h) tt
prework_parts (Some w) s p h =
    let q = ok_parts (read_work 0 w s) (λ r. fine (Some r)) p h in
    subst (λ q. PreworkRead (Some w) s q) (ok_is (Some q.0) p q.2) (work_parts 0 w s q.0 q.1)

-- the parts of a filter that is accepted
pub elaborated_parts : (t : FilterTree) (f : FilterForm) → elaborated t ≡ Ok f → Elaborated t f
elaborated_parts t f h =
    let f3 = λ (s : At) (i : Steps × At) (p : Option RunForm). on_ok (read_work 1 t.work s) (λ w. fine (elaborated_form t i p w)) in
    let f2 = λ (s : At) (i : Steps × At). on_ok (read_prework t.prework s) (f3 s i) in
    let f1 = λ (s : At). on_ok (optional_of 0 t.init s) (f2 s) in
    let p = ok_parts (read_fields t.fields nothing_read) f1 f h in
    let q = ok_parts (optional_of 0 t.init p.0) (f2 p.0) f p.2 in
    let r = ok_parts (read_prework t.prework p.0) (f3 p.0 q.0) f q.2 in
    let w = ok_parts (read_work 1 t.work p.0) (λ w. fine (elaborated_form t q.0 r.0 w)) f r.2 in
    record {
      fields = p.0;
      init = q.0;
      prework = r.0;
      work = w.0;
      fields_are = p.1;
      init_is = q.1;
      prework_is = prework_parts t.prework p.0 r.0 r.1;
      work_is = work_parts 1 t.work p.0 w.0 w.1;
      is = ok_is (elaborated_form t q.0 r.0 w.0) f w.2;
    }

-- no firing of an accepted filter pops more than it looks at
pub first_peeks : (o : Option WorkTree) (w : WorkTree) (s : At) (p : Option RunForm) (r : RunForm) → PreworkRead o s p → WorkRead 1 w s r
    → pop_of (or_work o w) ≤ peek_of (or_work o w)
first_peeks None w s p r a b = b.rates.peeks
first_peeks (Some v) w s None r a b = absurd a
first_peeks (Some v) w s (Some q) r a b = a.rates.peeks

-- ALL FIRINGS

-- what a firing runs does what it does as it is written
record RunsAs (fs : List Name) (w : WorkTree) (r : RunForm) : Type 0 where
  peek : r.peek ≡ peek_of w
  pop : r.pop ≡ pop_of w
  met : (kept xs : List ℤ) → length kept ≡ length fs → RunMet fs (exec_all w.block) r.body.steps r.body.slots kept xs

work_as : (fs : List Name) (least n : ℕ) (w : WorkTree) (s : At) (r : RunForm) → read_fields fs nothing_read ≡ Ok s → WorkRead least w s r → r.body.slots ≤ n
    → RunsAs fs w (widened n r)
work_as fs least n w s r hf k le =
    subst (λ (g : RunForm). g.body.slots ≤ n → RunsAs fs w (widened n g)) k.is
    (λ le. record { peek = refl; pop = refl; met = λ kept xs len. run_met fs w.block (peek_of w) n s k.read kept xs hf k.steps_are le len }) le

first_as : (fs : List Name) (o : Option WorkTree) (w : WorkTree) (s : At) (p : Option RunForm) (r : RunForm) → read_fields fs nothing_read ≡ Ok s
    → PreworkRead o s p → WorkRead 1 w s r
    → RunsAs fs (or_work o w) (run_or (widened (slots_for p r.body.slots) r) (widened_first (slots_for p r.body.slots) p))
first_as fs None w s None r hf a b = work_as fs 1 r.body.slots w s r hf b (le_refl r.body.slots)
first_as fs None w s (Some q) r hf a b = absurd a
first_as fs (Some v) w s None r hf a b = absurd a
first_as fs (Some v) w s (Some q) r hf a b = work_as fs 0 (max q.body.slots r.body.slots) v s q hf a (omega arith)

-- the slots that both runs share are no fewer than those of `work`
pub slots_within : (p : Option RunForm) (n : ℕ) → n ≤ slots_for p n
slots_within None n = le_refl n
slots_within (Some q) n = omega arith

module _ (t : FilterTree) (s : At) (i : Steps × At) (p : Option RunForm) (w : RunForm) (hf : read_fields t.fields nothing_read ≡ Ok s)
    (hp : PreworkRead t.prework s p) (hw : WorkRead 1 t.work s w) where
  runs_as : (j : ℕ) → RunsAs t.fields (runs_in t j) (run_at (elaborated_form t i p w) j)
  runs_as zero = first_as t.fields t.prework t.work s p w hf hp hw
  runs_as (suc j) = work_as t.fields 1 (slots_for p w.body.slots) t.work s w hf hw (slots_within p w.body.slots)

  begins_as : (j : ℕ) → begins (elaborated_form t i p w) j ≡ start_at t j
  begins_as zero = refl
  begins_as (suc j) =
      let f = elaborated_form t i p w in
      ap (λ k. k + j * f.pop) (runs_as 0).pop ∙ ap (λ k. pop_of (runs_in t 0) + j * k) (runs_as (suc j)).pop

  needs_as : (j : ℕ) → needs (elaborated_form t i p w) j ≡ waits_for t j
  needs_as zero = ap (λ k. max k 1) (runs_as 0).peek
  needs_as (suc j) = (runs_as (suc j)).peek

  firings_met : (n j : ℕ) (kept xs : List ℤ) → length kept ≡ length t.fields → fires_from t n j kept xs ≡ firings_from (elaborated_form t i p w) n j kept xs
  firings_met zero j kept xs len = refl
  firings_met (suc n) j kept xs len =
      let f = elaborated_form t i p w in
      let q = runs_as j in
      let b = (run_at f j).body in
      let input = looked_at t j xs in
      let r = run_kept b kept input in
      let m = q.met kept input len in
      let after : map (fires t j kept xs).values t.fields ≡ r.slots = m.fields in
      let both : (fires t j kept xs).pushed ++ fires_from t n (suc j) (map (fires t j kept xs).values t.fields) xs ≡ first_values r.pushes ++ firings_from f n
      (suc j) r.slots xs =
      ap (λ l. l ++ fires_from t n (suc j) (map (fires t j kept xs).values t.fields) xs) m.pushed
      ∙ ap (λ k. first_values r.pushes ++ fires_from t n (suc j) k xs) after
      ∙ ap (λ l. first_values r.pushes ++ l) (firings_met n (suc j) r.slots xs (run_kept_length b kept input ∙ len)) in
      let same : r ≡ firing f j kept xs =
      ap (λ k. run_kept b kept (take k (drop (start_at t j) xs))) (sym q.peek)
      ∙ ap (λ k. run_kept b kept (take (run_at f j).peek (drop k xs))) (sym (begins_as j)) in
      ap (λ l. if nat_le (start_at t j + waits_for t j) (length xs) then l else [])
      (both ∙ ap (λ r. first_values r.pushes ++ firings_from f n (suc j) r.slots xs) same)
      ∙ ap (λ k. if nat_le k (length xs) then first_values (firing f j kept xs).pushes ++ firings_from f n (suc j) (firing f j kept xs).slots xs else [])
      (ap (λ k. k + waits_for t j) (sym (begins_as j)) ∙ ap (λ k. begins f j + k) (sym (needs_as j)))

-- the filter of a plan gives what the filter gives as it is written
pub filter_met : (t : FilterTree) (f : FilterForm) (xs : List ℤ) → elaborated t ≡ Ok f → pushed_by t xs ≡ filtered f xs
filter_met t f xs h =
    let e = elaborated_parts t f h in
    let zeros = replicate (length t.fields) (pos 0) in
    let len = length-replicate (length t.fields) (pos 0) in
    let start : initial t ≡ starts_of (length t.fields) e.init = (run_optional t.fields t.init 0 e.fields e.init zeros [] e.fields_are e.init_is len).fields in
    let kept = run_kept_length (record { inputs = 0; slots = e.init.1.slots; steps = e.init.0 }) zeros [] in
    subst (λ g. pushed_by t xs ≡ filtered g xs) e.is
    (ap (λ k. fires_from t (suc (length xs)) 0 k xs) start
    ∙ firings_met t e.fields e.init e.prework e.work e.fields_are e.prework_is e.work_is (suc (length xs)) 0 (starts_of (length t.fields) e.init) xs
    (kept ∙ len))
