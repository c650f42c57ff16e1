-- Loops over statements and expressions: what is asked of all is asked of those behind.
use Rattle.std.proofs.Common.{◌≡◌, ℕ, ℤ, ◌+◌, ◌-◌, ◌<◌, ◌≤◌, Bool, true, false, ◌&&◌, Option, Some, None, List, length, drop, get_or, map, refl, sym, ap, ◌∙◌, arith, ⊎_elim, nat_le}
use Rattle.std.specs.Prelude.{if◌then◌else◌}
use Rattle.std.specs.List.{list_all}
use Rattle.std.proofs.lemmas.Bool.{cases_lt}
use Rattle.std.proofs.lemmas.Option.{same_Some, none-some}
use Rattle.river_base.proofs.Lists.{drop_next}
use Rattle.work_code.specs.declared.code.Stmt.{Stmt}
use Rattle.work_code.specs.declared.expr.Expr.{Expr}
use Rattle.work_code.specs.Steps.{step, in_turn}
use Rattle.work_code.specs.Term.{term}
use Rattle.river_kernels.specs.Formed.{both_counts, left_of, pushes, pushes_once, is_step, is_steps, is_term}

within : (n room : ℕ) → n ≤ room → left_of (Some n) room ≡ Some (room - n)
within n room le = ap (λ b. if b then Some (room - n) else None) (let e : nat_le n room ≡ true = grind (arith, le) in e)

beyond : (n room : ℕ) → room < n → left_of (Some n) room ≡ None
beyond n room lt = ap (λ b. if b then Some (room - n) else None) (let e : nat_le n room ≡ false = grind (arith, lt) in e)

-- what two together leave
left_of_both : (a b : Option ℕ) (room left : ℕ) → left_of a room ≡ Some left → left_of b left ≡ left_of (both_counts a b) room
left_of_both None b room left h = absurd (none-some left h)
left_of_both (Some m) None room left h = refl
left_of_both (Some m) (Some n) room left h = ⊎_elim
    (λ lt. absurd (none-some left (sym (beyond m room lt) ∙ h)))
    (λ le.
    let e : room - m ≡ left = same_Some (room - m) left (sym (within m room le) ∙ h) in
    ⊎_elim
    (λ more. beyond n left more ∙ sym (beyond (m + n) room (omega (arith, e, le, more))))
    (λ fits.
    let d : left - n ≡ room - (m + n) = omega (arith, e, le, fits) in
    within n left fits ∙ ap (λ k. Some k) d ∙ sym (within (m + n) room (omega (arith, e, le, fits))))
    (cases_lt left n))
    (cases_lt room m)

-- what the statements behind leave
pub pushes_next : (xs : List Stmt) (i : ℕ) (x : Stmt) (room left : ℕ) (told : Option ℕ) → i < length xs → x ≡ get_or xs i x
    → left_of (pushes_once (step x)) room ≡ Some left
    → left_of (pushes (in_turn (map step (drop i xs)))) room ≡ told → left_of (pushes (in_turn (map step (drop (i + 1) xs)))) left ≡ told
pushes_next xs i x room left told lt e h g =
    left_of_both (pushes_once (step x)) (pushes (in_turn (map step (drop (i + 1) xs)))) room left h
    ∙ sym (ap (λ l. left_of (pushes (in_turn (map step l))) room) (drop_next xs i x lt e)) ∙ g

-- whether the statements behind are formed
pub steps_next : (inputs slots : ℕ) (outs : List ℤ) (xs : List Stmt) (i : ℕ) (x : Stmt) (told : Bool) → i < length xs → x ≡ get_or xs i x
    → is_step inputs slots outs (step x) ≡ true → is_steps inputs slots outs (in_turn (map step (drop i xs))) ≡ told
    → is_steps inputs slots outs (in_turn (map step (drop (i + 1) xs))) ≡ told
steps_next inputs slots outs xs i x told lt e h g =
    sym (ap (λ b. b && is_steps inputs slots outs (in_turn (map step (drop (i + 1) xs)))) h)
    ∙ sym (ap (λ l. is_steps inputs slots outs (in_turn (map step l))) (drop_next xs i x lt e)) ∙ g

-- whether the expressions behind are formed
pub terms_next : (inputs slots : ℕ) (xs : List Expr) (i : ℕ) (x : Expr) (told : Bool) → i < length xs → x ≡ get_or xs i x → is_term inputs slots (term x) ≡ true
    → list_all (is_term inputs slots) (map term (drop i xs)) ≡ told → list_all (is_term inputs slots) (map term (drop (i + 1) xs)) ≡ told
terms_next inputs slots xs i x told lt e h g =
    sym (ap (λ b. b && list_all (is_term inputs slots) (map term (drop (i + 1) xs))) h)
    ∙ sym (ap (λ l. list_all (is_term inputs slots) (map term l)) (drop_next xs i x lt e)) ∙ g
