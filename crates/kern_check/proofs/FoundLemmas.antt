-- What may be answered for two kernels, from what was answered for each.
use Rattle.std.proofs.Common.{◌≡◌, ℕ, ◌+◌, ◌-◌, ◌<◌, Option, Some, None, List, [], ◌∷◌, ◌++◌, length, take, drop, refl, sym, ap, ◌∙◌, subst, arith}
use Rattle.std.proofs.Common.{length-append, length-drop}
use Rattle.std.specs.Prelude.{slice_get}
use Rattle.std.proofs.lemmas.List.{length-take-le}
use Rattle.std.proofs.lemmas.Option.{slice_get_within, same_Some}
use Rattle.river_base.specs.declared.kind.QueueType.{QueueType}
use Rattle.river_kernels.specs.declared.types.VarKind.{VarKind}
use Rattle.river_kernels.specs.declared.types.Types.{Types}
use Rattle.river_kernels.specs.Kern.{Kern}
use Rattle.river_kernels.specs.Fits.{Fits, spliced}
use Rattle.river_kernels.specs.Types.{given, joined_types, behind, fused_types, types_of, MayAnswer}
use Rattle.river_kernels.proofs.TypeLemmas.{not_some}
use Rattle.river_kernels.proofs.FitsLaw.{fits_types, types_fits}

-- how many ports there are
length-spliced : {A : Type 0} (at : ℕ) (xs ys : List A) → at < length xs → length (spliced at xs ys) + 1 ≡ length xs + length ys
length-spliced at xs ys h =
    let a : length (spliced at xs ys) ≡ length (take at xs) + length (ys ++ drop (at + 1) xs) = length-append (take at xs) (ys ++ drop (at + 1) xs) in
    let b : length (ys ++ drop (at + 1) xs) ≡ length ys + length (drop (at + 1) xs) = length-append ys (drop (at + 1) xs) in
    let c : length (take at xs) ≡ at = length-take-le at xs (omega arith) in
    let d : length (drop (at + 1) xs) ≡ length xs - (at + 1) = length-drop (at + 1) xs in
    omega (arith, a, b, c, d, h)

joined_long : (most at : ℕ) (p : Types) (o : Option Types) → at < length p.outs → most + 1 < length p.outs → MayAnswer most (joined_types at p o) None
joined_long most at p None h g = tt
joined_long most at p (Some q) h g = let e = length-spliced at p.outs q.outs h in omega (arith, e, g)

behind_long : (most at : ℕ) (p : Types) (o : Option QueueType) (f : List QueueType → Option Types) → slice_get p.outs at ≡ o → most + 1 < length p.outs
    → MayAnswer most (behind at p o f) None
behind_long most at p None f e g = tt
behind_long most at p (Some m) f e g = joined_long most at p (f (m ∷ [])) (slice_get_within p.outs at m e) g

-- nothing was found for the first
pub fused_none : (most at : ℕ) (o : Option Types) (f : List QueueType → Option Types) → MayAnswer (most + 1) o None → MayAnswer most (fused_types at o f) None
fused_none most at None f h = tt
fused_none most at (Some p) f h = behind_long most at p (slice_get p.outs at) f refl h

behind_no_port : (most at : ℕ) (p : Types) (o : Option QueueType) (f : List QueueType → Option Types) → o ≡ None → MayAnswer most (behind at p o f) None
behind_no_port most at p None f h = tt
behind_no_port most at p (Some m) f h = absurd (not_some (sym h))

-- the first has no such port
pub fused_no_port : (most room at : ℕ) (o : Option Types) (f : List QueueType → Option Types) (one : Types) → MayAnswer room o (Some one)
    → slice_get one.outs at ≡ None → MayAnswer most (fused_types at o f) None
fused_no_port most room at None f one h g = absurd h
fused_no_port most room at (Some p) f one h g = behind_no_port most at p (slice_get p.outs at) f (ap (λ (t : Types). slice_get t.outs at) (sym h) ∙ g)

second_long : (most at : ℕ) (p : Types) (o : Option Types) → at < length p.outs → MayAnswer most o None → MayAnswer most (joined_types at p o) None
second_long most at p None h g = tt
second_long most at p (Some q) h g = let e = length-spliced at p.outs q.outs h in omega (arith, e, g, h)

behind_second : (most at : ℕ) (p : Types) (m : QueueType) (o : Option QueueType) (f : List QueueType → Option Types) → o ≡ Some m → at < length p.outs
    → MayAnswer most (f (m ∷ [])) None → MayAnswer most (behind at p o f) None
behind_second most at p m None f e h g = absurd (not_some e)
behind_second most at p m (Some n) f e h g = second_long most at p (f (n ∷ [])) h (subst (λ k. MayAnswer most (f (k ∷ [])) None) (sym (same_Some _ _ e)) g)

-- nothing was found for the second
pub fused_second : (most room at : ℕ) (o : Option Types) (f : List QueueType → Option Types) (one : Types) (m : QueueType) → MayAnswer room o (Some one)
    → slice_get one.outs at ≡ Some m → MayAnswer most (f (m ∷ [])) None → MayAnswer most (fused_types at o f) None
fused_second most room at None f one m h e g = absurd h
fused_second most room at (Some p) f one m h e g =
    let there : slice_get p.outs at ≡ Some m = ap (λ (t : Types). slice_get t.outs at) (sym h) ∙ e in
    behind_second most at p m (slice_get p.outs at) f there (slice_get_within p.outs at m there) g

joined_both : (most at : ℕ) (p : Types) (o : Option Types) (two r : Types) → MayAnswer most o (Some two) → r.outs ≡ spliced at p.outs two.outs
    → r.vars ≡ p.vars ++ two.vars → MayAnswer most (joined_types at p o) (Some r)
joined_both most at p None two r h e g = absurd h
joined_both most at p (Some q) two r h e g =
    let outs : r.outs ≡ spliced at p.outs q.outs = e ∙ ap (λ (t : Types). spliced at p.outs t.outs) h in
    let vars : r.vars ≡ p.vars ++ q.vars = g ∙ ap (λ (t : Types). p.vars ++ t.vars) h in
    λ i. given (outs i) (vars i)

behind_both : (most at : ℕ) (p : Types) (m : QueueType) (o : Option QueueType) (f : List QueueType → Option Types) (two r : Types) → o ≡ Some m
    → MayAnswer most (f (m ∷ [])) (Some two) → r.outs ≡ spliced at p.outs two.outs → r.vars ≡ p.vars ++ two.vars → MayAnswer most (behind at p o f) (Some r)
behind_both most at p m None f two r e g u v = absurd (not_some e)
behind_both most at p m (Some n) f two r e g u v =
    joined_both most at p (f (n ∷ [])) two r (subst (λ k. MayAnswer most (f (k ∷ [])) (Some two)) (sym (same_Some _ _ e)) g) u v

-- both were found
pub fused_both : (most room at : ℕ) (o : Option Types) (f : List QueueType → Option Types) (one : Types) (m : QueueType) (two r : Types)
    → MayAnswer room o (Some one) → slice_get one.outs at ≡ Some m → MayAnswer most (f (m ∷ [])) (Some two) → r.outs ≡ spliced at one.outs two.outs
    → r.vars ≡ one.vars ++ two.vars → MayAnswer most (fused_types at o f) (Some r)
fused_both most room at None f one m two r h e g u v = absurd h
fused_both most room at (Some p) f one m two r h e g u v =
    behind_both most at p m (slice_get p.outs at) f two r (ap (λ (t : Types). slice_get t.outs at) (sym h) ∙ e) g
    (u ∙ ap (λ (t : Types). spliced at t.outs two.outs) h) (v ∙ ap (λ (t : Types). t.vars ++ two.vars) h)

-- the first was found, and what was found of the second is put behind its port
pub fused_joined : (most room at : ℕ) (o : Option Types) (f : List QueueType → Option Types) (one : Types) (m : QueueType) (two r : Option Types)
    → MayAnswer room o (Some one) → slice_get one.outs at ≡ Some m → MayAnswer most (f (m ∷ [])) two → r ≡ joined_types at one two
    → MayAnswer most (fused_types at o f) r
fused_joined most room at o f one m None r h e g j = subst (MayAnswer most (fused_types at o f)) (sym j) (fused_second most room at o f one m h e g)
fused_joined most room at o f one m (Some two) r h e g j =
    subst (MayAnswer most (fused_types at o f)) (sym j)
    (fused_both most room at o f one m two (given (spliced at one.outs two.outs) (one.vars ++ two.vars)) h e g refl refl)

-- what was found decides whether the kernel fits
decided : (k : Kern) (is os : List QueueType) (vs : List VarKind) (o r : Option Types) → types_of k is ≡ o → MayAnswer (length os) o r → Fits k is os vs
    → r ≡ Some (given os vs)
decided k is os vs None None h g f = absurd (not_some (sym h ∙ fits_types k is os vs f))
decided k is os vs None (Some p) h g f = absurd g
decided k is os vs (Some q) None h g f =
    let e : q ≡ given os vs = same_Some _ _ (sym h ∙ fits_types k is os vs f) in
    let n : length q.outs ≡ length os = ap (λ (t : Types). length t.outs) e in
    absurd (omega (arith, n, g))
decided k is os vs (Some q) (Some p) h g f = ap (λ t. Some t) (g ∙ same_Some _ _ (sym h ∙ fits_types k is os vs f))

-- nothing that fits was left out
pub none_fits : (k : Kern) (is os : List QueueType) (vs : List VarKind) → MayAnswer (length os) (types_of k is) None → Fits k is os vs → ⊥
none_fits k is os vs g f = not_some (decided k is os vs (types_of k is) None refl g f)

-- types that fit are those that are found
pub fits_found : (k : Kern) (is os : List QueueType) (vs : List VarKind) (r : Types) → MayAnswer (length os) (types_of k is) (Some r) → Fits k is os vs
    → (r.outs ≡ os) × (r.vars ≡ vs)
fits_found k is os vs r g f =
    let e : r ≡ given os vs = same_Some _ _ (decided k is os vs (types_of k is) (Some r) refl g f) in
    (ap (λ (t : Types). t.outs) e, ap (λ (t : Types). t.vars) e)

found_some : (k : Kern) (is : List QueueType) (most : ℕ) (o : Option Types) (r : Types) → types_of k is ≡ o → MayAnswer most o (Some r)
    → Fits k is r.outs r.vars
found_some k is most None r h g = absurd g
found_some k is most (Some q) r h g = types_fits k is r (h ∙ ap (λ t. Some t) (sym g))

-- what was found fits
pub found_fits : (k : Kern) (is os : List QueueType) (vs : List VarKind) (most : ℕ) (r : Types) → MayAnswer most (types_of k is) (Some r) → r.outs ≡ os
    → r.vars ≡ vs → Fits k is os vs
found_fits k is os vs most r g u v = subst (Fits k is os) v (subst (λ l. Fits k is l r.vars) u (found_some k is most (types_of k is) r refl g))
