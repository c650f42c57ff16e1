-- The steps by which code reads filters.
use Rattle.std.proofs.Common.{◌≡◌, ℕ, ◌<◌, ◌+◌, List, [], ◌∷◌, ◌++◌, length, true, false, Some, None, refl, sym, ap, ◌∙◌, arith, length-append}
use Rattle.text_tokens.specs.Tok.{Tok}
use Rattle.text_forms.specs.Parse as parse
use Rattle.text_forms.specs.Repeat.{repeated}
use Rattle.text_forms.proofs.Many.{many-shortens}
use Rattle.text_forms.proofs.Repeat.{repeated-next, repeated-stop, repeated-fail}
use Rattle.streamit_text.specs.Reading.{no_field, field_at}
use Rattle.streamit_text.proofs.Units.{exact-field, listed-fields}

pub fields-stop : (done : List (List ℕ)) (ts : List Tok) → no_field ts ≡ true → repeated (parse.many_turn no_field field_at) done ts ≡ Some (done, ts)
fields-stop done ts e = repeated-stop (parse.many_turn no_field field_at) done ts (rw e refl)

pub fields-bad : (done : List (List ℕ)) (ts : List Tok) → no_field ts ≡ false → field_at ts ≡ None → repeated (parse.many_turn no_field field_at) done ts ≡ None
fields-bad done ts e bad = repeated-fail (parse.many_turn no_field field_at) done ts (rw (e, bad) refl)

-- one field more
pub fields-next : (done : List (List ℕ)) (ts us : List Tok) (v : List ℕ) → no_field ts ≡ false → field_at ts ≡ Some (v, us)
    → repeated (parse.many_turn no_field field_at) (done ++ v ∷ []) us ≡ repeated (parse.many_turn no_field field_at) done ts
fields-next done ts us v e read =
    sym (repeated-next (parse.many_turn no_field field_at) (many-shortens no_field exact-field listed-fields) done ts (done ++ v ∷ []) us (rw (e, read) refl))

-- a field takes a token at least
pub field-shortens : (ts us : List Tok) (v : List ℕ) → field_at ts ≡ Some (v, us) → length us < length ts
field-shortens ts us v e =
    let f = exact-field.sound ts v us e in
    let size : length ts ≡ length f.front + length us = ap length f.is ∙ length-append f.front us in
    let some : 0 < length f.front = listed-fields.some v f.front f.formed in
    omega arith

pub ruleset fields = (fields-stop, fields-bad, fields-next, field-shortens)
