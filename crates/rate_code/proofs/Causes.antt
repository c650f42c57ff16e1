-- Why operators leave nothing known.
use Rattle.std.proofs.Common.{◌≡◌, ⊎_elim, inl, List, [], ◌∷◌, Result, Ok, Err, OnOk, IfErr, refl, sym, ap, ◌∙◌, subst}
use Rattle.stream_periods.specs.Walk.{NoWalk, Queues, kernel_walk, on_known, walk}
use Rattle.river_plan.specs.Forms.{Name, OpForm}
use Rattle.rate_code.specs.declared.cause.NoRate.{NoRate}
use Rattle.rate_code.specs.declared.cause.NoRate.TheVariants as why
use Rattle.rate_code.specs.Cause.{IsRoom, SaysCause, SaysCauseOf, StopIsTheEnd, StopsAt}

-- room may be wanting anywhere
pub room_cause : {A : Type 0} (label : Name) (r : Result A NoWalk) (e : NoRate) → IsRoom e → SaysCause label r e
room_cause label r (why.Lacks l) h = absurd h
room_cause label r (why.Keeps l) h = absurd h
room_cause label r (why.Unbalanced l) h = absurd h
room_cause label r why.Large h = h
room_cause label r why.NoMemory h = h

-- why the first step leaves nothing, the steps do not
pub on_cause : {A B : Type 0} (label : Name) (r : Result A NoWalk) (f : A → Result B NoWalk) (e : NoRate) → SaysCause label r e → SaysCause label (on_known r f) e
on_cause label r f (why.Lacks l) h = (ap (λ o. on_known o f) h.0, h.1)
on_cause label r f (why.Keeps l) h = (ap (λ o. on_known o f) h.0, h.1)
on_cause label r f (why.Unbalanced l) h = (ap (λ o. on_known o f) h.0, h.1)
on_cause label r f why.Large h = h
on_cause label r f why.NoMemory h = h

-- or why the second does not
pub then_cause : {A B : Type 0} (label : Name) (r : Result A NoWalk) (x : A) (f : A → Result B NoWalk) (e : NoRate) → r ≡ Ok x → SaysCause label (f x) e
    → SaysCause label (on_known r f) e
then_cause label r x f e is h = subst (λ o. SaysCause label (on_known o f) e) (sym is) h

pub twice : {A B C : Type 0} (r : Result A NoWalk) (f : A → Result B NoWalk) (g : B → Result C NoWalk)
    → on_known (on_known r f) g ≡ on_known r (λ x. on_known (f x) g)
twice (Ok x) f g = refl
twice (Err e) f g = refl

-- a cause that is no room is no end
no_end : {A : Type 0} (label : Name) (r : Result A NoWalk) (x : A) (e : NoRate) → SaysCause label r e → r ≡ Ok x → IsRoom e
no_end label r x (why.Lacks l) h is = let z = sym h.0 ∙ is in absurd cc
no_end label r x (why.Keeps l) h is = let z = sym h.0 ∙ is in absurd cc
no_end label r x (why.Unbalanced l) h is = let z = sym h.0 ∙ is in absurd cc
no_end label r x why.Large h is = h
no_end label r x why.NoMemory h is = h

-- a step that leads to an end is one
leads : {A B : Type 0} (r : Result A NoWalk) (f : A → Result B NoWalk) (y : B) → on_known r f ≡ Ok y → (x : A) × (r ≡ Ok x)
leads (Ok x) f y h = (x, refl)
leads (Err e) f y h = absurd cc

pub stop_is_the_end : StopIsTheEnd
stop_is_the_end [] known next e h is = h
stop_is_the_end (op ∷ ops) known next e h is =
    let one = kernel_walk op.kernel op.label op.reads op.writes known in
    ⊎_elim
    (λ (c : SaysCauseOf op known e). let p = leads one (walk ops) next is in no_end op.label one p.0 e c p.1)
    (λ (c : (mid : Queues) × (one ≡ Ok mid) × StopsAt ops mid e).
    stop_is_the_end ops c.0 next e c.2 (sym (ap (λ o. on_known o (walk ops)) c.1) ∙ is))
    h

-- what is so where it is done
pub ok-map : {A E : Type 0} (P Q : Type 0) (r : Result A E) → (P → Q) → OnOk r P → OnOk r Q
ok-map P Q (Ok x) f h = f h
ok-map P Q (Err e) f h = tt

-- and where it is not
pub err-map : {A E : Type 0} (P Q : E → Type 0) (r : Result A E) → ((e : E) → P e → Q e) → IfErr r P → IfErr r Q
err-map P Q (Ok x) f h = tt
err-map P Q (Err e) f h = f e h

-- memory may be wanting anywhere
pub no_memory_stops : (ops : List OpForm) (known : Queues) → StopsAt ops known why.NoMemory
no_memory_stops [] known = tt
no_memory_stops (op ∷ ops) known = inl tt
