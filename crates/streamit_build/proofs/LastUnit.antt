-- The last unit of a program, whose stream is planned.
use Rattle.std.proofs.Common.{◌≡◌, ℕ, suc, ◌-◌, ◌<◌, ◌≤◌, Bool, true, false, List, [], ◌∷◌, length, map, Result, Ok, Err, refl, sym, ap, ◌∙◌, arith, nat_le}
use Rattle.std.specs.Prelude.{slice_index_or}
use Rattle.river_base.proofs.Tests.{le_true}
use Rattle.river_plan.specs.Forms.{Name, plan_form}
use Rattle.river_plan.specs.declared.plan.RawPlan.{RawPlan}
use Rattle.streamit_model.specs.Elaborate.{demand}
use Rattle.streamit_model.specs.Unrolled.{Stream}
use Rattle.streamit_model.specs.Plan.{ops_in}
use Rattle.streamit_text.specs.Program.{UnitForm, Program, unit_form, unit_forms}
use Rattle.streamit_model.specs.Judged.{Streamed, on_fine, in_unit, unit_of, all_streams, few_operators, judged}
use Rattle.streamit_model.specs.declared.fault.Fault.{Fault}
use Rattle.streamit_model.specs.declared.fault.Fault.TheVariants.{Limit}
use Rattle.streamit_model.specs.declared.fault.Refusal.{Refusal}
use Rattle.streamit_build.specs.declared.planning.Refused.{Refused}
use Rattle.streamit_build.specs.declared.planning.Refused.TheVariants as refused
use Rattle.streamit_text.specs.declared.program.Unit as code_unit
use Rattle.streamit_build.specs.Planned.{IsWhyRefused, few_in, PlansLast, PlansBy}

-- a result without a refusal
abbrev pub took : {A : Type 0} → A → Result A Refusal
took x = Ok x

took_is : {A : Type 0} (x y : A) → took x ≡ took y → x ≡ y
took_is x y h = cc

unit_parts : {A B : Type 0} (k : ℕ) (r : Result A Fault) (f : A → Result B Refusal) (y : B) → in_unit k r f ≡ took y
    → (x : A) × (r ≡ Ok x) × (f x ≡ took y)
unit_parts k (Ok x) f y h = (x, refl, h)
unit_parts k (Err e) f y h = absurd (cc h)

-- why a program is refused is why another is
refused_on : {A B : Type 0} (e : Refused) (r : Result A Refusal) (r' : Result B Refusal) → ((g : Refusal) → r ≡ Err g → r' ≡ Err g)
    → IsWhyRefused r e → IsWhyRefused r' e
refused_on (refused.Program g) r r' h is = h g is
refused_on refused.NoMemory r r' h is = tt

abbrev last_unit : UnitForm → Program → UnitForm
last_unit u [] = u
last_unit u (v ∷ us) = last_unit v us

-- the newest stream is that of the last unit
record Newest (u : UnitForm) (us : Program) (known : Streamed) : Type 0 where
  stream : Stream
  others : Streamed
  is : known ≡ ((last_unit u us).name, stream) ∷ others

newest : (u : UnitForm) (us : Program) (k : ℕ) (start known : Streamed) → all_streams k start (u ∷ us) ≡ took known → Newest u us known
newest u [] k start known h =
    let p = unit_parts k (unit_of start u) (λ s. all_streams (suc k) ((u.name, s) ∷ start) []) known h in
    record { stream = p.0; others = start; is = sym (took_is ((u.name, p.0) ∷ start) known p.2) }
newest u (v ∷ us) k start known h =
    let p = unit_parts k (unit_of start u) (λ s. all_streams (suc k) ((u.name, s) ∷ start) (v ∷ us)) known h in
    let n = newest v us (suc k) ((u.name, p.0) ∷ start) known p.2 in
    record { stream = n.stream; others = n.others; is = n.is }

-- it stands at the last place
last_at : {D : Type 0} (f : D → UnitForm) (d : D) (ds : List D) (x : D) → f (slice_index_or (d ∷ ds) (length ds) x) ≡ last_unit (f d) (map f ds)
last_at f d [] x = refl
last_at f d (e ∷ ds) x = last_at f e ds x

-- the stream of the last unit is the newest
pub last_known : (units : List code_unit.Unit) (d : code_unit.Unit) (known : Streamed) → 0 < length units → all_streams 1 [] (unit_forms units) ≡ took known
    → (s : Stream) × (others : Streamed) × (known ≡ ((slice_index_or units (length units - 1) d).name, s) ∷ others)
last_known [] d known lt h = absurd (omega (arith, lt))
last_known (u ∷ us) d known lt h =
    let n = newest (unit_form u) (unit_forms us) 1 [] known h in
    let e : length (u ∷ us) - 1 ≡ length us = omega arith in (
      n.stream,
      n.others,
      n.is ∙ ap (λ (x : UnitForm). (x.name, n.stream) ∷ n.others) (sym (last_at unit_form u us d))
          ∙ ap (λ i. ((slice_index_or (u ∷ us) i d).name, n.stream) ∷ n.others) (sym e),
    )

-- THE LIMIT OF ITS PLAN

judged_ok : (p : Program) (name : Name) (s : Stream) (others : Streamed) → all_streams 1 [] p ≡ took ((name, s) ∷ others) → ops_in s ≤ 256
    → judged p ≡ took ((name, s) ∷ others)
judged_ok p name s others h le =
    ap (λ r. on_fine r (λ known. in_unit (length p) (few_operators known) (λ u. took known))) h
    ∙ ap (λ b. in_unit (length p) (demand b Limit) (λ u. took ((name, s) ∷ others))) (le_true (ops_in s) 256 le)

abbrev stopped : Refusal → Result (Unit {0}) Refusal
stopped a = Err a

err_is : (a b : Refusal) → stopped a ≡ stopped b → a ≡ b
err_is a b h = cc

few_err : {A : Type 0} (k : ℕ) (b : Bool) (x : A) (g : Refusal) → in_unit k (demand b Limit) (λ u. took u) ≡ Err g
    → in_unit k (demand b Limit) (λ u. took x) ≡ Err g
few_err k true x g h = absurd (cc h)
few_err k false x g h = ap Err (err_is (record { unit = k; fault = Limit }) g h)

judged_many : (p : Program) (k : ℕ) (e : Refused) (name : Name) (s : Stream) (others : Streamed) → all_streams 1 [] p ≡ took ((name, s) ∷ others)
    → k ≡ length p → IsWhyRefused (few_in k s) e → IsWhyRefused (judged p) e
judged_many p k e name s others h n t =
    refused_on e (few_in k s) (judged p)
    (λ g d. ap (λ r. on_fine r (λ known. in_unit (length p) (few_operators known) (λ u. took known))) h
    ∙ ap (λ m. in_unit m (demand (nat_le (ops_in s) 256) Limit) (λ u. took ((name, s) ∷ others))) (sym n)
    ∙ few_err k (nat_le (ops_in s) 256) ((name, s) ∷ others) g d)
    t

-- the plan of the newest stream is the program's
pub planned : (result : Result RawPlan Refused) (p : Program) (k : ℕ) (name : Name) (s : Stream) (others : Streamed)
    → all_streams 1 [] p ≡ took ((name, s) ∷ others) → k ≡ length p → PlansLast result k s → PlansBy plan_form result (judged p)
planned (Ok raw) p k name s others h e t = (name, s, others, judged_ok p name s others h t.0, t.1)
planned (Err r) p k name s others h e t = judged_many p k r name s others h e t
