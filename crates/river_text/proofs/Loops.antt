-- The steps by which code reads the units of a text.
use Rattle.std.proofs.Common.{◌≡◌, ℕ, ◌<◌, ◌≤◌, ◌+◌, List, length, drop, get_or, Some, None, Ok, Err, sym, ap, ◌∙◌}
use Rattle.std.specs.Prelude.{map}
use Rattle.std.specs.Borrow.{Bor}
use Rattle.std.proofs.lemmas.List.{drop_more, drop_all}
use Rattle.text_tokens.specs.Cut.{unit_tokens}
use Rattle.text_tokens.specs.declared.token.Lexeme.{Lexeme}
use Rattle.text_forms.specs.Texts.{whole}
use Rattle.river_text.specs.Plans.{EntryForm, TextForm, add_entry, next_place}
use Rattle.river_text.specs.declared.entry.Place.{Place}
use Rattle.river_text.specs.ReadPlans.{unit_from, with_entry, read_plan}

step : (place : Place) (n : ℕ) (t : TextForm) (parts : List (Bor (List Lexeme))) (i : ℕ) (d : Bor (List Lexeme)) → i < length parts
    → read_plan place n t (map unit_tokens (drop i parts)) ≡ with_entry n
    (λ e. read_plan (next_place place e) (n + 1) (add_entry t e) (map unit_tokens (drop (i + 1) parts)))
    (whole (unit_from place) (unit_tokens (get_or parts i d)))
unfolding read_plan
step place n t parts i d h = ap (λ (l : List (Bor (List Lexeme))). read_plan place n t (map unit_tokens l)) (drop_more parts i d h)

-- one entry more
pub plan-next : (place : Place) (n : ℕ) (t : TextForm) (parts : List (Bor (List Lexeme))) (i : ℕ) (d : Bor (List Lexeme)) (e : EntryForm) → i < length parts
    → whole (unit_from place) (unit_tokens (get_or parts i d)) ≡ Some e
    → read_plan (next_place place e) (n + 1) (add_entry t e) (map unit_tokens (drop (i + 1) parts)) ≡ read_plan place n t (map unit_tokens (drop i parts))
plan-next place n t parts i d e h read =
    sym (step place n t parts i d h
    ∙ ap (with_entry n (λ f. read_plan (next_place place f) (n + 1) (add_entry t f) (map unit_tokens (drop (i + 1) parts)))) read)

-- a unit that is none is told by its number
pub plan-bad : (place : Place) (n : ℕ) (t : TextForm) (parts : List (Bor (List Lexeme))) (i : ℕ) (d : Bor (List Lexeme)) → i < length parts
    → whole (unit_from place) (unit_tokens (get_or parts i d)) ≡ None → read_plan place n t (map unit_tokens (drop i parts)) ≡ Err n
plan-bad place n t parts i d h read =
    step place n t parts i d h ∙ ap (with_entry n (λ f. read_plan (next_place place f) (n + 1) (add_entry t f) (map unit_tokens (drop (i + 1) parts)))) read

-- behind the last unit all is read
pub plan-end : (place : Place) (n : ℕ) (t : TextForm) (parts : List (Bor (List Lexeme))) (i : ℕ) → length parts ≤ i
    → read_plan place n t (map unit_tokens (drop i parts)) ≡ Ok t
unfolding read_plan
plan-end place n t parts i h = ap (λ (l : List (Bor (List Lexeme))). read_plan place n t (map unit_tokens l)) (drop_all i parts h)
