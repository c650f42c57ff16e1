-- What is told where no choice is left is the journal.
use Rattle.std.proofs.Common.{◌≡◌, ℕ, ℤ, zero, suc, ◌<◌, ◌≤◌, true, Some, List, [], ◌∷◌, length, refl, sym, ap, ◌∙◌, subst, arith}
use Rattle.std.specs.Prelude.{slice_get}
use Rattle.std.proofs.lemmas.Bool.{and_parts}
use Rattle.work_code.specs.Steps.{BodyForm}
use Rattle.river_plan.specs.Forms.{Name}
use Rattle.free_model.specs.Apart.{Every, IsApart, AreApart, Ready}
use Rattle.free_model.specs.Forms.{FreeOpForm, FreeForm}
use Rattle.free_model.specs.Valid.{IsFree, IsFit, EachFree, is_case, are_cases}
use Rattle.free_model.specs.Machine.{State, Step, Run, fired}
use Rattle.free_model.specs.Rounds.{choices, round_of, pick_at, Rounds}
use Rattle.free_model.specs.Told.{after_firing, after_all, Told, one_more, told_round, told, RoundsFire}
use Rattle.free_model.proofs.Firings.{ready_after}
use Rattle.free_model.proofs.Kept.{round_apart, round_ready}
use Rattle.free_model.proofs.Lists.{every_map}
use Rattle.free_model.proofs.Telling.{step_after}

fit_at : (P : FreeOpForm → Type 0) (ops : List FreeOpForm) (o : ℕ) (op : FreeOpForm) → EachFree P ops → slice_get ops o ≡ Some op → P op
fit_at P [] o op h g = absurd (cc g)
fit_at P (a ∷ ops) zero op h g = let e : a ≡ op = cc g in subst P e h.0
fit_at P (a ∷ ops) (suc o) op h g = fit_at P ops o op h.1 g

body_there : (p : FreeForm) (op : FreeOpForm) (qs : List Name) (bs : List BodyForm) (port : ℕ) (q : Name) → are_cases p op qs bs ≡ true → slice_get qs port ≡ Some q
    → (b : BodyForm) × (slice_get bs port ≡ Some b)
body_there p op [] bs port q h g = absurd (cc g)
body_there p op (r ∷ qs) [] port q h g = absurd (cc h)
body_there p op (r ∷ qs) (b ∷ bs) zero q h g = (b, refl)
body_there p op (r ∷ qs) (b ∷ bs) (suc port) q h g = body_there p op qs bs port q (and_parts (is_case p op r b) (are_cases p op qs bs) h).1 g

-- what is ready can fire
pub ready_fires : (p : FreeForm) → IsFree p → (s : State) (e : ℕ × ℕ) → Ready p s e → Step p s e.0 e.1 (after_firing p s e)
ready_fires p v s e r =
    let b = body_there p r.op r.op.reads r.op.cases e.1 r.queue (fit_at (IsFit p) p.ops e.0 r.op v.fits r.op_is).cases r.queue_is in
    let n : State = fired r.op b.0 r.queue r.item s in
    let t : Step p s e.0 e.1 n =
    record { op = r.op; queue = r.queue; body = b.0; item = r.item; op_is = r.op_is; queue_is = r.queue_is; body_is = b.1; item_is = r.item_is; after = refl } in
    subst (λ (x : State). Step p s e.0 e.1 x) (sym (step_after p s n e t)) t

all_fire : (p : FreeForm) → IsFree p → (es : List (ℕ × ℕ)) (s : State) → Every (Ready p s) es → AreApart p es → Run p s es (after_all p s es)
all_fire p v [] s r a = refl
all_fire p v (e ∷ es) s r a =
    let t = ready_fires p v s e r.0 in
    let m = after_firing p s e in
    let left = every_map (IsApart p e) (Ready p s) (Ready p m) (λ x h k. ready_after p v s m e x h t k) es a.0 r.1 in
    (m, t, all_fire p v es m left a.1)

pub rounds_fire : RoundsFire
rounds_fire p workers pick s v = all_fire p v (round_of p workers pick s) s (round_ready p workers pick s) (round_apart p workers pick s)

-- what is told are the rounds, where no choice is left then
pub told_back : (p : FreeForm) (workers : ℕ) (picks : List ℤ) (n r : ℕ) (s : State) → IsFree p → choices p (told p workers picks n r s).last ≡ []
    → Rounds p workers picks r s (told p workers picks n r s).rounds (told p workers picks n r s).last
told_back p workers picks zero r s v h = (refl, h)
told_back p workers picks (suc n) r s v h =
    by (choices p s) refl h
    (λ k. told_back p workers picks n (suc r) (after_all p s (round_of p workers (pick_at picks r) s)) v k)
  where
    es : List (ℕ × ℕ)
    es = round_of p workers (pick_at picks r) s

    more : Told
    more = told p workers picks n (suc r) (after_all p s es)

    by : (cs : List (ℕ × ℕ)) → choices p s ≡ cs → choices p (told_round s cs (one_more es more)).last ≡ []
        → (choices p more.last ≡ [] → Rounds p workers picks (suc r) (after_all p s es) more.rounds more.last)
        → Rounds p workers picks r s (told_round s cs (one_more es more)).rounds (told_round s cs (one_more es more)).last
    by [] e k i = (refl, e)
    by (c ∷ cs) e k i =
        let l = ap length e in
        (omega (arith, l), refl, (after_all p s es, rounds_fire p workers (pick_at picks r) s v, i k))
