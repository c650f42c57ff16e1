-- The steps by which code reads the units of a script.
use Rattle.std.proofs.Common.{◌≡◌, ℕ, ◌<◌, ◌≤◌, ◌+◌, List, [], ◌∷◌, ◌++◌, length, drop, get_or, Some, None, Ok, Err, sym, ap, ◌∙◌}
use Rattle.std.specs.Prelude.{map}
use Rattle.std.specs.Borrow.{Bor}
use Rattle.std.proofs.lemmas.List.{drop_more, drop_all}
use Rattle.text_tokens.specs.Cut.{unit_tokens}
use Rattle.text_tokens.specs.declared.token.Lexeme.{Lexeme}
use Rattle.text_forms.specs.Texts.{whole}
use Rattle.river_script.specs.Script.{StepForm}
use Rattle.river_script.specs.Reading.{step_at, with_step, read_steps}

at : (n : ℕ) (done : List StepForm) (parts : List (Bor (List Lexeme))) (i : ℕ) (d : Bor (List Lexeme)) → i < length parts
    → read_steps n done (map unit_tokens (drop i parts)) ≡ with_step n (λ e. read_steps (n + 1) (done ++ e ∷ []) (map unit_tokens (drop (i + 1) parts)))
    (whole step_at (unit_tokens (get_or parts i d)))
unfolding read_steps
at n done parts i d h = ap (λ (l : List (Bor (List Lexeme))). read_steps n done (map unit_tokens l)) (drop_more parts i d h)

-- one step more
pub steps-next : (n : ℕ) (done : List StepForm) (parts : List (Bor (List Lexeme))) (i : ℕ) (d : Bor (List Lexeme)) (e : StepForm) → i < length parts
    → whole step_at (unit_tokens (get_or parts i d)) ≡ Some e
    → read_steps (n + 1) (done ++ e ∷ []) (map unit_tokens (drop (i + 1) parts)) ≡ read_steps n done (map unit_tokens (drop i parts))
steps-next n done parts i d e h read =
    sym (at n done parts i d h ∙ ap (with_step n (λ f. read_steps (n + 1) (done ++ f ∷ []) (map unit_tokens (drop (i + 1) parts)))) read)

-- a unit that is no step
pub steps-bad : (n : ℕ) (done : List StepForm) (parts : List (Bor (List Lexeme))) (i : ℕ) (d : Bor (List Lexeme)) → i < length parts
    → whole step_at (unit_tokens (get_or parts i d)) ≡ None → read_steps n done (map unit_tokens (drop i parts)) ≡ Err n
steps-bad n done parts i d h read =
    at n done parts i d h ∙ ap (with_step n (λ f. read_steps (n + 1) (done ++ f ∷ []) (map unit_tokens (drop (i + 1) parts)))) read

-- no unit is left
pub steps-end : (n : ℕ) (done : List StepForm) (parts : List (Bor (List Lexeme))) (i : ℕ) → length parts ≤ i
    → read_steps n done (map unit_tokens (drop i parts)) ≡ Ok done
unfolding read_steps
steps-end n done parts i h = ap (λ (l : List (Bor (List Lexeme))). read_steps n done (map unit_tokens l)) (drop_all i parts h)
