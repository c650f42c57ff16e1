-- The first fault of a program and its unit.
use Rattle.std.proofs.Common.{◌≡◌, ℕ, suc, ◌+◌, ◌⊎◌, inl, inr, List, [], ◌∷◌, ◌++◌, length, refl, sym, ap, ◌∙◌, subst, arith, ⊎_elim, append_assoc}
use Rattle.std.specs.List.{AllByRecursion}
use Rattle.std.specs.Prelude.{Result, Ok, Err}
use Rattle.std.proofs.lemmas.List.{append-nil}
use Rattle.work_code.specs.Steps.{Steps, both_steps}
use Rattle.saw_text.specs.Tree.{UnitForm, Program}
use Rattle.saw_model.specs.declared.fault.Fault.{Fault}
use Rattle.saw_model.specs.declared.fault.Refusal.{Refusal}
use Rattle.saw_model.specs.Elaborate.{At, unit_judged, nothing_read}
use Rattle.saw_model.specs.Judged.{on_fine, in_unit, units_judged, judged}
use Rattle.saw_model.specs.Faults.{IsFaultless, IsFaultOf, RefusalsAre, AcceptedAre}
use Rattle.saw_model.specs.Places.{Spot, unit_spots, program_spots, places_of}
use Rattle.saw_model.proofs.Judging.{IsAt, AtEnd, part_read, nothing_at}
use Rattle.saw_model.proofs.Verdicts.{AreFine, IsFirstAt, HasFirst, Verdict, fine_both, not_both, one_fault, first_stands, stands_first}

-- of the units, numbered from k, this is the first that has a fault, and its first
abbrev FirstIn : List Spot → ℕ → Program → Refusal → Type 0
FirstIn b k [] r = ⊥
FirstIn b k (c ∷ ps) r = ((r.unit ≡ k) × HasFirst b (unit_spots c) r.fault) ⊎ (AreFine b (unit_spots c) × FirstIn (b ++ unit_spots c) (suc k) ps r)

-- what is answered of the units
abbrev Answers : List Spot → ℕ → Program → Result (Steps × At) Refusal → Type 0
Answers b k ps (Ok read) = AreFine b (program_spots ps)
Answers b k ps (Err r) = FirstIn b k ps r

later : (b : List Spot) (k : ℕ) (c : UnitForm) (ps : Program) (p : Steps × At) → AreFine b (unit_spots c) → (r : Result (Steps × At) Refusal)
    → Answers (b ++ unit_spots c) (suc k) ps r
    → Answers b k (c ∷ ps) (on_fine r (λ q. Ok (both_steps p.0 q.0, q.1)))
later b k c ps p f (Ok q) a = fine_both b (unit_spots c) (program_spots ps) f a
later b k c ps p f (Err e) a = inr (f, a)

unit_read : (b : List Spot) (k : ℕ) (c : UnitForm) (ps : Program) (r : Result (Steps × At) Fault) → Verdict AtEnd b (unit_spots c) r
    → ((s : At) → IsAt (b ++ unit_spots c) s → Answers (b ++ unit_spots c) (suc k) ps (units_judged (suc k) ps s))
    → Answers b k (c ∷ ps) (in_unit k r (λ p. on_fine (units_judged (suc k) ps p.1) (λ q. Ok (both_steps p.0 q.0, q.1))))
unit_read b k c ps (Ok p) v more = later b k c ps p v.0 (units_judged (suc k) ps p.1) (more p.1 v.1)
unit_read b k c ps (Err e) v more = inl (refl, v)

units_read : (b : List Spot) (k : ℕ) (ps : Program) (s : At) → IsAt b s → Answers b k ps (units_judged k ps s)
units_read b k [] s a = tt
units_read b k (c ∷ ps) s a = unit_read b k c ps (unit_judged c s) (part_read c b s a) (λ t h. units_read (b ++ unit_spots c) (suc k) ps t h)

program_read : (p : Program) → Answers [] 1 p (judged p)
program_read p = units_read [] 1 p nothing_read nothing_at

-- THE PLACE

record Told (b : List Spot) (k : ℕ) (ps : Program) (r : Refusal) : Type 0 where
  units : Program
  unit : UnitForm
  others : Program
  parts : ps ≡ units ++ unit ∷ others
  counted : r.unit ≡ length units + k
  read : List Spot
  here : Spot
  left : List Spot
  spots : unit_spots unit ≡ read ++ here ∷ left
  fine : AreFine b (program_spots units ++ read)
  fault : IsFirstAt (b ++ (program_spots units ++ read)) here r.fault

told : (b : List Spot) (k : ℕ) (ps : Program) (r : Refusal) → FirstIn b k ps r → Told b k ps r
told b k [] r h = absurd h
told b k (c ∷ ps) r h = ⊎_elim
    (λ x.
    let s = first_stands b (unit_spots c) r.fault x.1 in
    record {
      units = [];
      unit = c;
      others = ps;
      parts = refl;
      counted = let n = x.0 in omega (arith, n);
      read = s.read;
      here = s.here;
      left = s.left;
      spots = s.spots;
      fine = s.fine;
      fault = s.fault;
    })
    (λ x.
    let s = told (b ++ unit_spots c) (suc k) ps r x.1 in
    let n = s.counted in
    record {
      units = c ∷ s.units;
      unit = s.unit;
      others = s.others;
      parts = ap (λ l. c ∷ l) s.parts;
      counted = omega (arith, n);
      read = s.read;
      here = s.here;
      left = s.left;
      spots = s.spots;
      fine = subst (AreFine b) (sym (append_assoc (unit_spots c) (program_spots s.units) s.read))
          (fine_both b (unit_spots c) (program_spots s.units ++ s.read) x.0 s.fine);
      fault =
          subst (λ y. IsFirstAt y s.here r.fault)
          (append_assoc b (unit_spots c) (program_spots s.units ++ s.read) ∙ ap (λ y. b ++ y) (sym
          (append_assoc (unit_spots c) (program_spots s.units) s.read)))
          s.fault;
    })
    h

fine_parts : (b ms ns : List Spot) → AreFine b (ms ++ ns) → AreFine b ms × AreFine (b ++ ms) ns
fine_parts b [] ns a = (tt, subst (λ x. AreFine x ns) (sym (append-nil b)) a)
fine_parts b (m ∷ ms) ns a =
    let r = fine_parts (b ++ m ∷ []) ms ns a.1 in ((a.0, r.0), subst (λ x. AreFine x ns) (append_assoc b (m ∷ []) ms) r.1)

is_told : (b : List Spot) (k : ℕ) (units : Program) (unit : UnitForm) (others : Program) (read : List Spot) (here : Spot) (left : List Spot)
    (r : Refusal)
    → r.unit ≡ length units + k
    → unit_spots unit ≡ read ++ here ∷ left
    → AreFine b (program_spots units ++ read)
    → IsFirstAt (b ++ (program_spots units ++ read)) here r.fault
    → FirstIn b k (units ++ unit ∷ others) r
is_told b k [] unit others read here left r n e f h = inl (
  omega (arith, n),
  subst (λ ms. HasFirst b ms r.fault) (sym e)
      (stands_first b read here left r.fault f h),
)
is_told b k (c ∷ cs) unit others read here left r n e f h =
    let a = append_assoc (unit_spots c) (program_spots cs) read in
    let s = fine_parts b (unit_spots c) (program_spots cs ++ read) (subst (AreFine b) a f) in
    inr (
      s.0,
      is_told (b ++ unit_spots c) (suc k) cs unit others read here left r (omega (arith, n)) e s.1
          (subst (λ y. IsFirstAt y here r.fault) (ap (λ y. b ++ y) a ∙ sym (append_assoc b (unit_spots c) (program_spots cs ++ read))) h),
    )

-- there is one
one_told : (b : List Spot) (k : ℕ) (ps : Program) (r q : Refusal) → FirstIn b k ps r → FirstIn b k ps q → r ≡ q
one_told b k [] r q x y = absurd x
one_told b k (c ∷ ps) r q x y = ⊎_elim
    (λ a. ⊎_elim
    (λ d.
    let u = a.0 ∙ sym d.0 in
    let f = one_fault b (unit_spots c) r.fault q.fault a.1 d.1 in
    λ i. record { unit = u i; fault = f i })
    (λ d. absurd (not_both b (unit_spots c) r.fault d.0 a.1)) y)
    (λ a. ⊎_elim
    (λ d. absurd (not_both b (unit_spots c) q.fault a.0 d.1))
    (λ d. one_told (b ++ unit_spots c) (suc k) ps r q a.1 d.1) y)
    x

-- where no place has a fault, none is told
none_told : (b : List Spot) (k : ℕ) (ps : Program) (r : Refusal) → AreFine b (program_spots ps) → FirstIn b k ps r → ⊥
none_told b k [] r f x = x
none_told b k (c ∷ ps) r f x =
    let s = fine_parts b (unit_spots c) (program_spots ps) f in ⊎_elim
    (λ a. not_both b (unit_spots c) r.fault s.0 a.1)
    (λ a. none_told (b ++ unit_spots c) (suc k) ps r s.1 a.1)
    x

-- THE LAWS

fault_in : (p : Program) (r : Refusal) → IsFaultOf p r.unit r.fault → FirstIn [] 1 p r
fault_in p r h =
    subst (λ ps. FirstIn [] 1 ps r) (sym h.parts)
    (is_told [] 1 h.units h.unit h.others h.read h.here h.left r h.counted h.spots h.faultless h.faulty)

refused_by : (p : Program) (r : Refusal) → IsFaultOf p r.unit r.fault → (told : Result (Steps × At) Refusal) → Answers [] 1 p told → told ≡ Err r
refused_by p r h (Ok q) a = absurd (none_told [] 1 p r a (fault_in p r h))
refused_by p r h (Err e) a = ap (λ x. Err x) (one_told [] 1 p e r a (fault_in p r h))

-- a program is refused by its first fault
pub refused_at_first : RefusalsAre
refused_at_first p r = (
  (λ e.
      let t = told [] 1 p r (subst (Answers [] 1 p) e (program_read p)) in
      record {
        units = t.units;
        unit = t.unit;
        others = t.others;
        parts = t.parts;
        counted = t.counted;
        read = t.read;
        here = t.here;
        left = t.left;
        spots = t.spots;
        faultless = t.fine;
        faulty = t.fault;
      }),
  (λ h. refused_by p r h (judged p) (program_read p)),
)

accepted_by : (p : Program) → AllByRecursion IsFaultless (places_of p) → (told : Result (Steps × At) Refusal) → judged p ≡ told → Answers [] 1 p told
    → (read : Steps × At) × (judged p ≡ Ok read)
accepted_by p h (Ok read) e a = (read, e)
accepted_by p h (Err r) e a = absurd (none_told [] 1 p r h a)

-- it is accepted where it has none
pub accepted_faultless : AcceptedAre
accepted_faultless p = (
  (λ r. subst (Answers [] 1 p) r.1 (program_read p)),
  (λ h. accepted_by p h (judged p) refl (program_read p)),
)
