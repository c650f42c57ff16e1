-- From what a rewrite answers to its conditions, and back.
use Rattle.std.proofs.Common.{◌≡◌, ◌↔◌, ℕ, ◌<◌, Bool, true, false, refl, sym, ap, ◌∙◌, subst, arith, ⊎_elim}
use Rattle.std.specs.Prelude.{Result, Ok, Err, if◌then◌else◌, nat_eq}
use Rattle.std.proofs.lemmas.Bool.{cases_lt}
use Rattle.river_plan.specs.Forms.{PlanForm}
use Rattle.plan_edits.specs.declared.unfit.Unfit.{Unfit}
use Rattle.plan_edits.specs.declared.unfit.Unfit.TheVariants.{U1, U2, U3, U4, U5, H1, H2, H3, H4, N1, N2, N3, N4, N5, NoMemory}
use Rattle.plan_edits.specs.Judged.{rank, IsFirstToFail, IsJudgedBy}

-- the condition of a rank
abbrev of_rank : ℕ → Unfit
of_rank n =
    if nat_eq n 0 then U1
    else if nat_eq n 1 then U2
    else if nat_eq n 2 then U3
    else if nat_eq n 3 then U4
    else if nat_eq n 4 then U5
    else if nat_eq n 5 then H1
    else if nat_eq n 6 then H2
    else if nat_eq n 7 then H3
    else if nat_eq n 8 then H4
    else if nat_eq n 9 then N1
    else if nat_eq n 10 then N2
    else if nat_eq n 11 then N3
    else if nat_eq n 12 then N4
    else if nat_eq n 13 then N5
    else NoMemory

ranked : (f : Unfit) → of_rank (rank f) ≡ f
ranked U1 = refl
ranked U2 = refl
ranked U3 = refl
ranked U4 = refl
ranked U5 = refl
ranked H1 = refl
ranked H2 = refl
ranked H3 = refl
ranked H4 = refl
ranked N1 = refl
ranked N2 = refl
ranked N3 = refl
ranked N4 = refl
ranked N5 = refl
ranked NoMemory = refl

-- no rank is above the last
pub rank_most : (f : Unfit) → rank f < 15
rank_most U1 = omega arith
rank_most U2 = omega arith
rank_most U3 = omega arith
rank_most U4 = omega arith
rank_most U5 = omega arith
rank_most H1 = omega arith
rank_most H2 = omega arith
rank_most H3 = omega arith
rank_most H4 = omega arith
rank_most N1 = omega arith
rank_most N2 = omega arith
rank_most N3 = omega arith
rank_most N4 = omega arith
rank_most N5 = omega arith
rank_most NoMemory = omega arith

one_first : (Fails : Unfit → Type 0) (f g : Unfit) → IsFirstToFail Fails f → IsFirstToFail Fails g → f ≡ g
one_first Fails f g a b = ⊎_elim
    (λ lt. absurd (b.first f lt a.fails))
    (λ ge. ⊎_elim
    (λ lt. absurd (a.first g lt b.fails))
    (λ le. let e : rank f ≡ rank g = omega (arith, ge, le) in sym (ranked f) ∙ ap of_rank e ∙ ranked g)
    (cases_lt (rank g) (rank f)))
    (cases_lt (rank f) (rank g))

one_answer : (Fails : Unfit → Type 0) (Makes : PlanForm → Type 0) (told made : Result PlanForm Unfit) → IsJudgedBy Fails Makes told
    → ((a b : PlanForm) → Makes a → Makes b → a ≡ b) → IsJudgedBy Fails Makes made → told ≡ made
one_answer Fails Makes (Ok a) (Ok b) h one k = ap (λ x. Ok x) (one a b h.1 k.1)
one_answer Fails Makes (Ok a) (Err g) h one k = absurd (h.0 g k.fails)
one_answer Fails Makes (Err f) (Ok b) h one k = absurd (k.0 f h.fails)
one_answer Fails Makes (Err f) (Err g) h one k = ap (λ x. Err x) (one_first Fails f g h k)

-- an answer that the conditions allow is the only one, where they make one plan
pub judged_law : (Fails : Unfit → Type 0) (Makes : PlanForm → Type 0) (told : Result PlanForm Unfit) → IsJudgedBy Fails Makes told
    → ((a b : PlanForm) → Makes a → Makes b → a ≡ b) → (made : Result PlanForm Unfit) → (told ≡ made) ↔ IsJudgedBy Fails Makes made
judged_law Fails Makes told h one made = ((λ e. subst (IsJudgedBy Fails Makes) e h), (λ k. one_answer Fails Makes told made h one k))

-- by the cases of a test
pub by_if : (P : Result PlanForm Unfit → Type 0) (b : Bool) (x y : Result PlanForm Unfit) → (b ≡ true → P x) → (b ≡ false → P y) → P (if b then x else y)
by_if P true x y f g = f refl
by_if P false x y f g = g refl
