-- What is read of a filter is a well-formed filter within its limits.
use Rattle.std.proofs.Common.{◌≡◌, ℕ, suc, ℤ, pos, negsuc, ◌+◌, ◌<◌, ◌≤◌, true, List, [], ◌∷◌, length, replicate, Option, Some, None, Ok, refl, sym, ap}
use Rattle.std.proofs.Common.{◌∙◌, subst, arith, nat_lt, nat_le, nat_eq}
use Rattle.std.specs.Prelude.{if◌then◌else◌, ◌&&◌, max}
use Rattle.std.proofs.lemmas.Bool.{and_parts, and_from, lt-ltb, le-leb, eq-eqb, ltb-true}
use Rattle.work_code.specs.Term.{Term}
use Rattle.work_code.specs.Term as term
use Rattle.work_code.specs.Steps.{Step, Steps, Done, both_steps, one_step}
use Rattle.work_code.specs.Steps as steps
use Rattle.kern_rows.specs.Forms.{FilterForm, RunForm}
use Rattle.kern_rows.specs.Needs.{CanRun}
use Rattle.kern_rows.proofs.Lengths.{run_kept_length}
use Rattle.river_kernels.specs.Formed.{is_sound, is_term, is_step, is_steps, is_first, is_filter, both_counts, same, pushes_once, pushes, is_number}
use Rattle.river_kernels.specs.Limits.{size, size_once}
use Rattle.river_plan.specs.Forms.{Name}
use Rattle.streamit_text.specs.Tree.{Expression, Statement, Declare, Assign, Push, Discard, If, For, Block, End, Then, Optional, Unwritten, Written}
use Rattle.streamit_text.specs.Tree as tree
use Rattle.streamit_model.specs.Unrolled.{IsSmallRun, IsSmallFirst, IsSmallFilter}
use Rattle.streamit_model.specs.Meaning.{pops, turns_between, push_of, peek_of}
use Rattle.streamit_model.specs.Shallow.{IsLowFirst, IsShallow, AreShallow, IsItemlessFirst, KeepsItems, KeepAll, AreShallowOptional, KeepAllOptional}
use Rattle.streamit_model.specs.Shallow.{IsShallowPrework, IsShallowFilter}
use Rattle.streamit_model.specs.Elaborate.{on_ok, KnownName, Var, Turn, Scope, find, constant, named_term, peeked, term_of, At, first_term}
use Rattle.streamit_model.specs.declared.fault.Fault.TheVariants.{Limit, PeekRange}
use Rattle.streamit_model.specs.Elaborate.{first_popped, Read, unrolled, step_of, steps_of, optional_of}
use Rattle.std.proofs.lemmas.List.{length-replicate}
use Rattle.std.proofs.Math.Nat.{le_refl}
use Rattle.streamit_text.specs.Program.{WorkTree, FilterTree}
use Rattle.streamit_model.specs.ElaborateFilter.{elaborated, read_fields, nothing_read, starts_of, slots_for, widened_first}
use Rattle.river_kernels.proofs.WellFormed.{steps_within}
use Rattle.streamit_model.proofs.FilterMet.{fields_few, elaborated_parts, fields_read, sound_nothing, WorkRead, PreworkRead, slots_within}
use Rattle.streamit_model.proofs.Elaborated.{ok_is, ok_parts, if_ok, IsSound, more_slots, Grown, left, at_arm, at_second, turning, grows_turn, unrolled_grows}
use Rattle.streamit_model.proofs.Elaborated.{step_grows, steps_grow, optional_grows, turned, declared_parts, assigned_parts, pushed_parts, forked_parts}
use Rattle.streamit_model.proofs.Elaborated.{looped_parts, followed_parts}

-- EXPRESSIONS

-- so many inputs and slots are enough, and it is no deeper than what was written
abbrev Fits : ℕ → ℕ → ℕ → Term → Type 0
Fits p m d u = (is_sound p m u ≡ true) × (term.depth_of u ≤ d)

named_fits : (p m : ℕ) (o : Option KnownName) (u : Term) → ((i : ℕ) → o ≡ Some (Var i) → i < m) → named_term o ≡ Ok u → Fits p m 1 u
named_fits p m None u h c = absurd (cc c)
named_fits p m (Some (Var i)) u h c = subst (Fits p m 1) (ok_is (term.Slot i) u c) (lt-ltb i m (h i refl), omega arith)
named_fits p m (Some (Turn v)) u h c = subst (Fits p m 1) (ok_is (term.Const (pos v)) u c) (refl, omega arith)

peeked_fits : (p m e k d : ℕ) (i : ℤ) (u : Term) → e ≤ p → peeked e k i ≡ Ok u → Fits p m (suc d) u
peeked_fits p m e k d (pos i) u le h =
    let q = if_ok (nat_lt (k + i) e) (term.Input (k + i)) u (PeekRange (pos i) e) h in
    let lt = ltb-true (k + i) e q.0 in
    subst (Fits p m (suc d)) q.1 (lt-ltb (k + i) p (omega (arith, lt, le)), omega arith)
peeked_fits p m e k d (negsuc i) u le h = absurd (cc h)

term_fits : (p m e : ℕ) (sc : Scope) (t : Expression) (k : ℕ) (u : Term) → e ≤ p → k + pops t ≤ p → ((n : Name) (i : ℕ) → find sc n ≡ Some (Var i) → i < m)
    → term_of e sc t k ≡ Ok u → Fits p m (tree.depth_of t) u
term_fits p m e sc (tree.Number v) k u le pp b c = subst (Fits p m 1) (ok_is (term.Const (pos v)) u c) (refl, omega arith)
term_fits p m e sc (tree.Name n) k u le pp b c = named_fits p m (find sc n) u (b n) c
term_fits p m e sc (tree.Peek t) k u le pp b c = let q = ok_parts (constant sc t) (peeked e k) u c in peeked_fits p m e k (tree.depth_of t) q.0 u le q.2
term_fits p m e sc tree.Pop k u le pp b c =
    subst (Fits p m 1) (if_ok (nat_le k 65536) (term.Input k) u Limit c).1 (lt-ltb k p (omega (arith, pp)), omega arith)
term_fits p m e sc (tree.Neg t) k u le pp b c =
    let q = ok_parts (term_of e sc t k) (λ a. Ok (term.Neg a)) u c in
    let i = term_fits p m e sc t k q.0 le pp b q.1 in
    let d = i.1 in
    subst (Fits p m (suc (tree.depth_of t))) (ok_is (term.Neg q.0) u q.2) (i.0, omega (arith, d))
term_fits p m e sc (tree.Not t) k u le pp b c =
    let q = ok_parts (term_of e sc t k) (λ a. Ok (term.Not a)) u c in
    let i = term_fits p m e sc t k q.0 le pp b q.1 in
    let d = i.1 in
    subst (Fits p m (suc (tree.depth_of t))) (ok_is (term.Not q.0) u q.2) (i.0, omega (arith, d))
term_fits p m e sc (tree.Bin o l r) k u le pp b c =
    let q = ok_parts (term_of e sc l k) (λ a. on_ok (term_of e sc r (k + pops l)) (λ b. Ok (term.Bin o a b))) u c in
    let w = ok_parts (term_of e sc r (k + pops l)) (λ b. Ok (term.Bin o q.0 b)) u q.2 in
    let i = term_fits p m e sc l k q.0 le (omega (arith, pp)) b q.1 in
    let j = term_fits p m e sc r (k + pops l) w.0 le (omega (arith, pp)) b w.1 in
    let d = i.1 in let g = j.1 in
    subst (Fits p m (suc (max (tree.depth_of l) (tree.depth_of r)))) (ok_is (term.Bin o q.0 w.0) u w.2)
    (and_from (is_sound p m q.0) (is_sound p m w.0) i.0 j.0, omega (arith, d, g))

is_one : (p m d : ℕ) (u : Term) → d ≤ 64 → Fits p m d u → is_term p m u ≡ true
is_one p m d u low f = let e = f.1 in and_from (is_sound p m u) (nat_le (term.depth_of u) 64) f.0 (le-leb (term.depth_of u) 64 (omega (arith, e, low)))

-- STATEMENTS, COUNTED

both-assoc : (a b c : Option ℕ) → both_counts (both_counts a b) c ≡ both_counts a (both_counts b c)
both-assoc None b c = refl
both-assoc (Some l) None c = refl
both-assoc (Some l) (Some m) None = refl
both-assoc (Some l) (Some m) (Some n) = ap Some (let e : l + m + n ≡ l + (m + n) = omega arith in e)

pushes_joined : (a b : Steps) → pushes (both_steps a b) ≡ both_counts (pushes a) (pushes b)
pushes_joined Done b = zero_both (pushes b)
  where
    zero_both : (o : Option ℕ) → o ≡ both_counts (Some 0) o
    zero_both None = refl
    zero_both (Some n) = ap Some (let e : n ≡ 0 + n = omega arith in e)
pushes_joined (steps.Then c a) b = ap (both_counts (pushes_once c)) (pushes_joined a b) ∙ sym (both-assoc (pushes_once c) (pushes a) (pushes b))

size_joined : (a b : Steps) → size (both_steps a b) ≡ size a + size b
size_joined Done b = omega arith
size_joined (steps.Then c a) b = let e = size_joined a b in omega (arith, e)

record Counts (s : At) (y : Steps × At) : Type 0 where
  popped : s.popped ≤ y.1.popped
  more : ℕ
  pushes : pushes y.0 ≡ Some more
  pushed : s.pushed + more ≡ y.1.pushed
  size : size y.0 + s.size ≤ y.1.size
  small : s.size ≤ 16384 → y.1.size ≤ 16384
  few : s.slots ≤ 256 → y.1.slots ≤ 256

abbrev Counted : (At → Read) → Type 0
Counted f = (s : At) (y : Steps × At) → f s ≡ Ok y → Counts s y

counts_both : (s : At) (a b : Steps × At) → Counts s a → Counts a.1 b → Counts s (both_steps a.0 b.0, b.1)
counts_both s a b f g =
    let z = size_joined a.0 b.0 in
    let f1 = f.popped in let g1 = g.popped in let f2 = f.pushed in let g2 = g.pushed in let f3 = f.size in let g3 = g.size in
    record {
      popped = omega (arith, f1, g1);
      more = f.more + g.more;
      pushes = pushes_joined a.0 b.0 ∙ ap (λ o. both_counts o (pushes b.0)) f.pushes ∙ ap (both_counts (Some f.more)) g.pushes;
      pushed = omega (arith, f2, g2);
      size = omega (arith, z, f3, g3);
      small = λ h. g.small (f.small h);
      few = λ h. g.few (f.few h);
    }

counts_done : (s t : At) → s.popped ≤ t.popped → s.pushed ≡ t.pushed → s.size ≡ t.size → s.slots ≡ t.slots → Counts s (Done, t)
counts_done s t p q r w =
    record {
      popped = p;
      more = 0;
      pushes = refl;
      pushed = omega (arith, q);
      size = omega (arith, r);
      small = λ h. omega (arith, h, r);
      few =
          λ h. omega (arith, h, w);
    }

mutual
  unfolding left at_arm at_second turning

  unrolled_counts : (block : At → Read) → Counted block → (n : Name) (vs : List ℕ) → Counted (unrolled block n vs)
  unrolled_counts block f n [] s y h = subst (Counts s) (ok_is (Done, s) y h) (counts_done s s (omega arith) refl refl refl)
  unrolled_counts block f n (v ∷ vs) s y h =
      let p = turned block n v vs s y h in
      let a = f (turning n v s) p.first p.first_is in
      let b = unrolled_counts block f n vs (left s p.first.1) p.others p.others_is in
      let r = p.room in
      let z = a.size in
      let first : Counts s (p.first.0, left s p.first.1) =
      record {
        popped = a.popped;
        more = a.more;
        pushes = a.pushes;
        pushed = a.pushed;
        size = omega (arith, z);
        small =
            λ h. a.small (omega (arith, r));
        few = λ h. a.few h;
      } in
      subst (Counts s) (sym p.is) (counts_both s (p.first.0, left s p.first.1) p.others first b)

one_counts : (s t : At) (c : Step) (m : ℕ) → s.popped ≤ t.popped → pushes_once c ≡ Some m → s.pushed + m ≡ t.pushed → size_once c + s.size ≤ t.size
    → (s.size ≤ 16384 → t.size ≤ 16384) → (s.slots ≤ 256 → t.slots ≤ 256) → Counts s (one_step c, t)
one_counts s t c m p q r z k w =
    record {
      popped = p;
      more = m;
      pushes = ap (λ o. both_counts o (Some 0)) q
          ∙ ap Some (let e : m + 0 ≡ m = omega arith in e);
      pushed = r;
      size = omega (arith, z);
      small = k;
      few = w;
    }

mutual
  unfolding left at_arm at_second

  step_counts : (e : ℕ) (c : Statement) → Counted (step_of e c)
  step_counts e (Declare n t) s y h =
      let p = declared_parts e n t s y h in let r = p.room in
      subst (Counts s) (sym p.is)
      (one_counts s _ (steps.Set s.slots p.value) 0 (omega arith) refl (omega arith) (omega arith) (λ h. omega (arith, r))
      (λ h. let f = ltb-true s.slots 256 p.few in omega (arith, f)))
  step_counts e (Assign n t) s y h =
      let p = assigned_parts e n t s y h in let r = p.room in
      subst (Counts s) (sym p.is) (one_counts s _ (steps.Set p.slot p.value) 0 (omega arith) refl (omega arith) (omega arith) (λ h. omega (arith, r)) (λ h. h))
  step_counts e (Push t) s y h =
      let p = pushed_parts e t s y h in let r = p.room in
      subst (Counts s) (sym p.is) (one_counts s _ (steps.Push 0 (p.value ∷ [])) 1 (omega arith) refl refl (omega arith) (λ h. omega (arith, r)) (λ h. h))
  step_counts e Discard s y h =
      subst (Counts s) (ok_is (Done, record s { popped = s.popped + 1 }) y h) (counts_done s (record s { popped = s.popped + 1 }) (omega arith) refl refl refl)
  step_counts e (If t a b) s y h =
      let p = forked_parts e t a b s y h in let r = p.room in
      let f = steps_count e a (at_arm t s) p.one p.one_is in
      let g = optional_counts e b (at_second t s p.one.1) p.two p.two_is in
      let f1 = f.popped in let g1 = g.popped in let f2 = f.pushed in let g2 = g.pushed in let f3 = f.size in let g3 = g.size in let q = p.pushed in
      let m : f.more ≡ g.more = omega (arith, f2, g2, q) in
      subst (Counts s) (sym p.is) (one_counts s (left s p.two.1) (steps.If p.test p.one.0 p.two.0) g.more (omega (arith, g1))
      (ap (λ o. same o (pushes p.two.0)) f.pushes ∙ ap (same (Some f.more)) g.pushes ∙ one_of f.more g.more m)
      g2 (omega (arith, f3, g3)) (λ h. g.small (f.small (omega (arith, r)))) (λ h. g.few (f.few h)))
    where
      one_of : (m n : ℕ) → m ≡ n → (if nat_eq m n then Some m else None) ≡ Some n
      one_of m n e = ap (λ b. if b then Some m else None) (eq-eqb m n e) ∙ ap Some e
  step_counts e (For n low upto high b) s y h =
      let p = looped_parts e n low upto high b s y h in
      unrolled_counts (steps_of e b) (steps_count e b) n (turns_between p.first upto p.last) s y p.is

  steps_count : (e : ℕ) (b : Block) → Counted (steps_of e b)
  steps_count e End s y h = subst (Counts s) (ok_is (Done, s) y h) (counts_done s s (omega arith) refl refl refl)
  steps_count e (Then c b) s y h =
      let p = followed_parts e c b s y h in
      subst (Counts s) (sym p.is) (counts_both s p.first p.others (step_counts e c s p.first p.first_is) (steps_count e b p.first.1 p.others p.others_is))

  optional_counts : (e : ℕ) (b : Optional) → Counted (optional_of e b)
  optional_counts e Unwritten s y h = subst (Counts s) (ok_is (Done, s) y h) (counts_done s s (omega arith) refl refl refl)
  optional_counts e (Written b) s y h = steps_count e b s y h

-- STATEMENTS, WELL FORMED

abbrev one_port : List ℤ
one_port = pos 1 ∷ []

steps_joined : (p m : ℕ) (a b : Steps) → is_steps p m one_port a ≡ true → is_steps p m one_port b ≡ true → is_steps p m one_port (both_steps a b) ≡ true
steps_joined p m Done b h g = g
steps_joined p m (steps.Then c a) b h g =
    let q = and_parts (is_step p m one_port c) (is_steps p m one_port a) h in
    and_from (is_step p m one_port c) (is_steps p m one_port (both_steps a b)) q.0 (steps_joined p m a b q.1 g)

one_formed : (p m : ℕ) (c : Step) → is_step p m one_port c ≡ true → is_steps p m one_port (one_step c) ≡ true
one_formed p m c h = and_from (is_step p m one_port c) true h refl

-- where no more than p items and m slots are used
abbrev Formed : ℕ → ℕ → (At → Read) → Type 0
Formed p m f = (s : At) (y : Steps × At) → f s ≡ Ok y → IsSound s.scope s.slots → y.1.popped ≤ p → y.1.slots ≤ m → is_steps p m one_port y.0 ≡ true

below_of : (s : At) (m : ℕ) → IsSound s.scope s.slots → s.slots ≤ m → (n : Name) (i : ℕ) → find s.scope n ≡ Some (Var i) → i < m
below_of s m ok le n i f = let b = ok.below n i f in omega (arith, b, le)

first_fits : (p m e : ℕ) (t : Option Expression) (s : At) (u : Term) → IsLowFirst t → e ≤ p → s.popped + first_popped t ≤ p → IsSound s.scope s.slots
    → s.slots ≤ m
    → first_term e t s ≡ Ok u → is_term p m u ≡ true
first_fits p m e None s u low le pp ok sl h = is_one p m 64 u (omega arith) (subst (Fits p m 64) (ok_is (term.Const (pos 0)) u h) (refl, omega arith))
first_fits p m e (Some t) s u low le pp ok sl h = is_one p m (tree.depth_of t) u low (term_fits p m e s.scope t s.popped u le pp (below_of s m ok sl) h)

unrolled_formed : (p m : ℕ) (block : At → Read) → Grown block → Counted block → Formed p m block → (n : Name) (vs : List ℕ) (s : At) (y : Steps × At)
    → find s.scope n ≡ None → unrolled block n vs s ≡ Ok y → IsSound s.scope s.slots → y.1.popped ≤ p → y.1.slots ≤ m → is_steps p m one_port y.0 ≡ true
unfolding left turning
unrolled_formed p m block g k f n [] s y new h ok pp sl = subst (λ (r : Steps × At). is_steps p m one_port r.0 ≡ true) (ok_is (Done, s) y h) refl
unrolled_formed p m block g k f n (v ∷ vs) s y new h ok pp sl =
    let q = turned block n v vs s y h in
    let gt = grows_turn n v s new in
    let gf = g (turning n v s) q.first q.first_is in
    let go = (unrolled_grows block g n vs (left s q.first.1) q.others new q.others_is).slots in
    let ko = (unrolled_counts block k n vs (left s q.first.1) q.others q.others_is).popped in
    let pp' : q.others.1.popped ≤ p = subst (λ (r : Steps × At). r.1.popped ≤ p) q.is pp in
    let sl' : q.others.1.slots ≤ m = subst (λ (r : Steps × At). r.1.slots ≤ m) q.is sl in
    let l = gf.slots in
    let a = f (turning n v s) q.first q.first_is (gt.sound ok) (omega (arith, pp', ko)) (omega (arith, sl', go)) in
    let b = unrolled_formed p m block g k f n vs (left s q.first.1) q.others new q.others_is (more_slots s.scope s.slots q.first.1.slots l ok) pp' sl' in
    subst (λ (r : Steps × At). is_steps p m one_port r.0 ≡ true) (sym q.is) (steps_joined p m q.first.0 q.others.0 a b)

mutual
  unfolding left at_arm at_second

  step_formed : (p m e : ℕ) (c : Statement) → e ≤ p → IsShallow c → Formed p m (step_of e c)
  step_formed p m e (Declare n t) le low s y h ok pp sl =
      let q = declared_parts e n t s y h in
      let pp' : s.popped + first_popped t ≤ p = subst (λ (r : Steps × At). r.1.popped ≤ p) q.is pp in
      let sl' : s.slots + 1 ≤ m = subst (λ (r : Steps × At). r.1.slots ≤ m) q.is sl in
      subst (λ (r : Steps × At). is_steps p m one_port r.0 ≡ true) (sym q.is)
      (one_formed p m (steps.Set s.slots q.value)
      (and_from (nat_lt s.slots m) (is_term p m q.value) (lt-ltb s.slots m (omega (arith, sl')))
      (first_fits p m e t s q.value low le pp' ok (omega (arith, sl')) q.value_is)))
  step_formed p m e (Assign n t) le low s y h ok pp sl =
      let q = assigned_parts e n t s y h in
      let pp' : s.popped + pops t ≤ p = subst (λ (r : Steps × At). r.1.popped ≤ p) q.is pp in
      let sl' : s.slots ≤ m = subst (λ (r : Steps × At). r.1.slots ≤ m) q.is sl in
      subst (λ (r : Steps × At). is_steps p m one_port r.0 ≡ true) (sym q.is)
      (one_formed p m (steps.Set q.slot q.value)
      (and_from (nat_lt q.slot m) (is_term p m q.value) (lt-ltb q.slot m (below_of s m ok sl' n q.slot q.found))
      (is_one p m (tree.depth_of t) q.value low (term_fits p m e s.scope t s.popped q.value le pp' (below_of s m ok sl') q.value_is))))
  step_formed p m e (Push t) le low s y h ok pp sl =
      let q = pushed_parts e t s y h in
      let pp' : s.popped + pops t ≤ p = subst (λ (r : Steps × At). r.1.popped ≤ p) q.is pp in
      let sl' : s.slots ≤ m = subst (λ (r : Steps × At). r.1.slots ≤ m) q.is sl in
      subst (λ (r : Steps × At). is_steps p m one_port r.0 ≡ true) (sym q.is)
      (one_formed p m (steps.Push 0 (q.value ∷ []))
      (and_from (is_term p m q.value) true
      (is_one p m (tree.depth_of t) q.value low (term_fits p m e s.scope t s.popped q.value le pp' (below_of s m ok sl') q.value_is)) refl))
  step_formed p m e Discard le low s y h ok pp sl =
      subst (λ (r : Steps × At). is_steps p m one_port r.0 ≡ true) (ok_is (Done, record s { popped = s.popped + 1 }) y h) refl
  step_formed p m e (If t a b) le low s y h ok pp sl =
      let q = forked_parts e t a b s y h in
      let ga = (steps_grow e a (at_arm t s) q.one q.one_is).slots in
      let gb = (optional_grows e b (at_second t s q.one.1) q.two q.two_is).slots in
      let ka = (steps_count e a (at_arm t s) q.one q.one_is).popped in
      let pp' : q.two.1.popped ≤ p = subst (λ (r : Steps × At). r.1.popped ≤ p) q.is pp in
      let sl' : q.two.1.slots ≤ m = subst (λ (r : Steps × At). r.1.slots ≤ m) q.is sl in
      let same = q.popped in
      let u = is_one p m (tree.depth_of t) q.test low.0
      (term_fits p m e s.scope t s.popped q.test le (omega (arith, pp', same, ka)) (below_of s m ok (omega (arith, sl', ga, gb))) q.test_is) in
      let x = steps_formed p m e a le low.1 (at_arm t s) q.one q.one_is ok (omega (arith, pp', same)) (omega (arith, sl', gb)) in
      let z = optional_formed p m e b le low.2 (at_second t s q.one.1) q.two q.two_is (more_slots s.scope s.slots q.one.1.slots ga ok) pp' sl' in
      subst (λ (r : Steps × At). is_steps p m one_port r.0 ≡ true) (sym q.is)
      (one_formed p m (steps.If q.test q.one.0 q.two.0)
      (and_from (is_term p m q.test) (is_steps p m one_port q.one.0 && is_steps p m one_port q.two.0) u
      (and_from (is_steps p m one_port q.one.0) (is_steps p m one_port q.two.0) x z)))
  step_formed p m e (For n low upto high b) le shallow s y h ok pp sl =
      let q = looped_parts e n low upto high b s y h in
      unrolled_formed p m (steps_of e b) (steps_grow e b) (steps_count e b) (steps_formed p m e b le shallow) n
      (turns_between q.first upto q.last) s y q.new q.is ok pp sl

  steps_formed : (p m e : ℕ) (b : Block) → e ≤ p → AreShallow b → Formed p m (steps_of e b)
  steps_formed p m e End le low s y h ok pp sl = subst (λ (r : Steps × At). is_steps p m one_port r.0 ≡ true) (ok_is (Done, s) y h) refl
  steps_formed p m e (Then c b) le low s y h ok pp sl =
      let q = followed_parts e c b s y h in
      let gf = step_grows e c s q.first q.first_is in
      let go = (steps_grow e b q.first.1 q.others q.others_is).slots in
      let ko = (steps_count e b q.first.1 q.others q.others_is).popped in
      let pp' : q.others.1.popped ≤ p = subst (λ (r : Steps × At). r.1.popped ≤ p) q.is pp in
      let sl' : q.others.1.slots ≤ m = subst (λ (r : Steps × At). r.1.slots ≤ m) q.is sl in
      let x = step_formed p m e c le low.0 s q.first q.first_is ok (omega (arith, pp', ko)) (omega (arith, sl', go)) in
      let z = steps_formed p m e b le low.1 q.first.1 q.others q.others_is (gf.sound ok) pp' sl' in
      subst (λ (r : Steps × At). is_steps p m one_port r.0 ≡ true) (sym q.is) (steps_joined p m q.first.0 q.others.0 x z)

  optional_formed : (p m e : ℕ) (b : Optional) → e ≤ p → AreShallowOptional b → Formed p m (optional_of e b)
  optional_formed p m e Unwritten le low s y h ok pp sl = subst (λ (r : Steps × At). is_steps p m one_port r.0 ≡ true) (ok_is (Done, s) y h) refl
  optional_formed p m e (Written b) le low s y h ok pp sl = steps_formed p m e b le low s y h ok pp sl

-- WHERE NOTHING IS POPPED

abbrev Same : (At → Read) → Type 0
Same f = (s : At) (y : Steps × At) → f s ≡ Ok y → y.1.popped ≡ s.popped

unrolled_same : (block : At → Read) → Same block → (n : Name) (vs : List ℕ) → Same (unrolled block n vs)
unfolding left turning
unrolled_same block f n [] s y h = ap (λ r. r.1.popped) (sym (ok_is (Done, s) y h))
unrolled_same block f n (v ∷ vs) s y h =
    let p = turned block n v vs s y h in
    let a = f (turning n v s) p.first p.first_is in
    let b = unrolled_same block f n vs (left s p.first.1) p.others p.others_is in
    ap (λ r. r.1.popped) p.is ∙ b ∙ a

first_same : (t : Option Expression) → IsItemlessFirst t → first_popped t ≡ 0
first_same None k = refl
first_same (Some t) k = k

mutual
  unfolding left at_arm at_second

  step_same : (e : ℕ) (c : Statement) → KeepsItems c → Same (step_of e c)
  step_same e (Declare n t) k s y h = let p = declared_parts e n t s y h in ap (λ r. r.1.popped) p.is ∙ (let z = first_same t k in omega (arith, z))
  step_same e (Assign n t) k s y h = let p = assigned_parts e n t s y h in ap (λ r. r.1.popped) p.is ∙ omega (arith, k)
  step_same e (Push t) k s y h = absurd k
  step_same e Discard k s y h = absurd k
  step_same e (If t a b) k s y h =
      let p = forked_parts e t a b s y h in
      let z = k.0 in
      ap (λ r. r.1.popped) p.is ∙ optional_same e b k.2 (at_second t s p.one.1) p.two p.two_is ∙ omega (arith, z)
  step_same e (For n low upto high b) k s y h =
      let p = looped_parts e n low upto high b s y h in
      unrolled_same (steps_of e b) (steps_same e b k) n (turns_between p.first upto p.last) s y p.is

  pub steps_same : (e : ℕ) (b : Block) → KeepAll b → Same (steps_of e b)
  steps_same e End k s y h = ap (λ r. r.1.popped) (sym (ok_is (Done, s) y h))
  steps_same e (Then c b) k s y h =
      let p = followed_parts e c b s y h in
      ap (λ r. r.1.popped) p.is ∙ steps_same e b k.1 p.first.1 p.others p.others_is ∙ step_same e c k.0 s p.first p.first_is

  optional_same : (e : ℕ) (b : Optional) → KeepAllOptional b → Same (optional_of e b)
  optional_same e Unwritten k s y h = ap (λ r. r.1.popped) (sym (ok_is (Done, s) y h))
  optional_same e (Written b) k s y h = steps_same e b k s y h

-- what is read of `init` runs on the fields alone
pub init_runs : (fs : List Name) (b : Optional) (s : At) (y : Steps × At) → read_fields fs nothing_read ≡ Ok s → AreShallowOptional b → KeepAllOptional b
    → optional_of 0 b s ≡ Ok y → CanRun 0 (record { inputs = 0; slots = y.1.slots; steps = y.0 }) (length fs)
init_runs fs b s y hf low k h =
    let r = fields_read fs nothing_read s hf in
    let g = (optional_grows 0 b s y h).slots in
    let rs = r.slots in
    let p = optional_same 0 b k s y h in
    let rp = r.popped in
    let formed = optional_formed 0 y.1.slots 0 b (omega arith) low s y h (r.sound sound_nothing) (omega (arith, p, rp)) (le_refl y.1.slots) in
    record { within = steps_within 0 y.1.slots one_port y.0 refl formed; slots = omega (arith, g, rs) }

-- THE FILTER

-- what is read of `prework` or `work` is well formed with so many slots, and within the limits
record RunFormed (names n least : ℕ) (r : RunForm) : Type 0 where
  inputs : r.body.inputs ≡ r.peek
  pops : least ≤ r.pop
  peeks : r.pop ≤ r.peek
  formed : is_steps r.peek n one_port r.body.steps ≡ true
  given : is_number (pushes r.body.steps) r.push ≡ true
  fields : names ≤ r.body.slots
  small : IsSmallRun r

run_formed : (fs : List Name) (s : At) (least n : ℕ) (w : WorkTree) (r : RunForm) → read_fields fs nothing_read ≡ Ok s → AreShallow w.block
    → WorkRead least w s r → r.body.slots ≤ n → RunFormed (length fs) n least r
run_formed fs s least n w r hf low e le =
    let k = fields_read fs nothing_read s hf in
    let y = e.read in
    let ok = k.sound sound_nothing in
    let pp = e.popped in
    let peek = e.rates.peeks in
    let c = steps_count (peek_of w) w.block s y e.steps_are in
    let zero = k.pushed in
    let size0 = k.size in
    let cp = c.pushed in
    let cs = c.size in
    let small = c.small (omega (arith, size0)) in
    let ep = e.pushed in
    let more : c.more ≡ push_of w = omega (arith, cp, ep, zero) in
    let g = (steps_grow (peek_of w) w.block s y e.steps_are).slots in
    let ks = k.slots in
    subst (λ (r : RunForm). r.body.slots ≤ n → RunFormed (length fs) n least r) e.is (λ le. record {
      inputs = refl;
      pops = e.rates.pops;
      peeks = peek;
      formed = steps_formed (peek_of w) n (peek_of w) w.block (le_refl (peek_of w)) low s y e.steps_are ok (omega (arith, pp, peek)) le;
      given = ap (λ o. is_number o (push_of w)) c.pushes ∙ eq-eqb c.more (push_of w) more;
      fields = omega (arith, g, ks);
      small = record {
        statements = omega (arith, cs, small);
        slots = c.few (fields_few fs nothing_read s hf (omega arith));
        peek = e.rates.peek;
        pop = e.rates.pop;
        push = e.rates.push;
      };
    }) le

-- where `prework` is read, it is a first run
first_formed : (fs : List Name) (s : At) (o : Option WorkTree) (p : Option RunForm) (m : ℕ) → read_fields fs nothing_read ≡ Ok s → IsShallowPrework o
    → PreworkRead o s p
    → m ≤ 256 → (is_first (slots_for p m) (widened_first (slots_for p m) p) ≡ true) × IsSmallFirst (widened_first (slots_for p m) p) × (slots_for p m ≤ 256)
first_formed fs s None None m hf low h le = (refl, tt, le)
first_formed fs s None (Some r) m hf low h le = absurd h
first_formed fs s (Some w) None m hf low h le = absurd h
first_formed fs s (Some w) (Some r) m hf low h le =
    let n = max r.body.slots m in
    let k = run_formed fs s 0 n w r hf low h (omega arith) in
    let few = k.small.slots in
    let most : n ≤ 256 = omega (arith, few, le) in (
      and_from _ _ (eq-eqb r.body.inputs r.peek k.inputs) (and_from _ _ (eq-eqb n n refl)
          (and_from _ _ (le-leb r.pop r.peek k.peeks) (and_from _ _ k.formed k.given))),
      record { statements = k.small.statements; slots = most; peek = k.small.peek; pop = k.small.pop; push = k.small.push },
      most,
    )

-- the filter of an accepted one is well formed, and within the limits
pub filter_formed : (t : FilterTree) (f : FilterForm) → IsShallowFilter t → elaborated t ≡ Ok f → (is_filter f ≡ true) × IsSmallFilter f
filter_formed t f low h =
    let e = elaborated_parts t f h in
    let w = e.work in
    let n = slots_for e.prework w.body.slots in
    let le = slots_within e.prework w.body.slots in
    let k = run_formed t.fields e.fields 1 n t.work w e.fields_are low.1 e.work_is le in
    let p = first_formed t.fields e.fields t.prework e.prework w.body.slots e.fields_are low.0 e.prework_is k.small.slots in
    let kept : length (starts_of (length t.fields) e.init) ≡ length t.fields =
    run_kept_length (record { inputs = 0; slots = e.init.1.slots; steps = e.init.0 }) (replicate (length t.fields) (pos 0)) []
    ∙ length-replicate (length t.fields) (pos 0) in
    let few = k.fields in
    subst (λ (g : FilterForm). (is_filter g ≡ true) × IsSmallFilter g) e.is (
      and_from _ _ (and_from _ _ (and_from _ _ (eq-eqb w.body.inputs w.peek k.inputs) (and_from _ _ (le-leb 1 w.pop k.pops) (le-leb w.pop w.peek k.peeks)))
          (and_from _ _ k.formed (and_from _ _ (le-leb (length (starts_of (length t.fields) e.init)) n (omega (arith, kept, few, le))) k.given))) p.0,
      record {
        statements = k.small.statements;
        slots = p.2;
        peek = k.small.peek;
        pop = k.small.pop;
        push = k.small.push;
        first = p.1;
      },
    )
