-- The steps by which code reads what stands in square brackets.
use Rattle.std.proofs.Common.{◌≡◌, ℕ, ◌<◌, ◌+◌, List, [], ◌∷◌, ◌++◌, length, true, false, Some, None, refl, sym, ap, ◌∙◌, arith, length-append}
use Rattle.text_tokens.specs.Tok.{Tok}
use Rattle.text_forms.specs.Parse as parse
use Rattle.text_forms.specs.Repeat.{repeated}
use Rattle.text_forms.proofs.Many.{many-shortens}
use Rattle.text_forms.proofs.Repeat.{repeated-next, repeated-stop, repeated-fail}
use Rattle.saw_text.specs.declared.tree.Field.{Field}
use Rattle.text_blocks.specs.Parts.{square_at}
use Rattle.saw_text.specs.Blocks.{no_bracket}
use Rattle.saw_text.specs.Expressions.{IsExpression, term_at}
use Rattle.saw_text.specs.Tree.{Expression}
use Rattle.saw_text.specs.Grammar.{IsField}
use Rattle.saw_text.specs.Reading.{column_at}
use Rattle.saw_text.specs.ExactStatements.{exact-index, listed-squares}
use Rattle.saw_text.proofs.Units.{exact-column}

pub indexes-stop : (n : ℕ) (done : List Expression) (ts : List Tok) → no_bracket ts ≡ true
    → repeated (parse.many_turn no_bracket (square_at term_at n)) done ts ≡ Some (done, ts)
indexes-stop n done ts e = repeated-stop (parse.many_turn no_bracket (square_at term_at n)) done ts (rw e refl)

pub indexes-bad : (n : ℕ) (done : List Expression) (ts : List Tok) → no_bracket ts ≡ false → square_at term_at n ts ≡ None
    → repeated (parse.many_turn no_bracket (square_at term_at n)) done ts ≡ None
indexes-bad n done ts e bad = repeated-fail (parse.many_turn no_bracket (square_at term_at n)) done ts (rw (e, bad) refl)

-- one index more
pub indexes-next : (n : ℕ) (done : List Expression) (ts us : List Tok) (v : Expression) → no_bracket ts ≡ false → square_at term_at n ts ≡ Some (v, us)
    → repeated (parse.many_turn no_bracket (square_at term_at n)) (done ++ v ∷ []) us ≡ repeated (parse.many_turn no_bracket (square_at term_at n)) done ts
indexes-next n done ts us v e read =
    sym (repeated-next (parse.many_turn no_bracket (square_at term_at n)) (many-shortens no_bracket (exact-index n) (listed-squares IsExpression n)) done ts
    (done ++ v ∷ []) us (rw (e, read) refl))

pub index-shortens : (n : ℕ) (ts us : List Tok) (v : Expression) → square_at term_at n ts ≡ Some (v, us) → length us < length ts
index-shortens n ts us v e =
    let f = (exact-index n).sound ts v us e in
    let size : length ts ≡ length f.front + length us = ap length f.is ∙ length-append f.front us in
    let some : 0 < length f.front = (listed-squares IsExpression n).some v f.front f.formed in
    omega arith

pub ruleset indexes = (indexes-stop, indexes-bad, index-shortens)

pub columns-stop : (n : ℕ) (done : List Field) (ts : List Tok) → no_bracket ts ≡ true
    → repeated (parse.many_turn no_bracket (column_at n)) done ts ≡ Some (done, ts)
columns-stop n done ts e = repeated-stop (parse.many_turn no_bracket (column_at n)) done ts (rw e refl)

pub columns-bad : (n : ℕ) (done : List Field) (ts : List Tok) → no_bracket ts ≡ false → column_at n ts ≡ None
    → repeated (parse.many_turn no_bracket (column_at n)) done ts ≡ None
columns-bad n done ts e bad = repeated-fail (parse.many_turn no_bracket (column_at n)) done ts (rw (e, bad) refl)

-- one field more
pub columns-next : (n : ℕ) (done : List Field) (ts us : List Tok) (v : Field) → no_bracket ts ≡ false → column_at n ts ≡ Some (v, us)
    → repeated (parse.many_turn no_bracket (column_at n)) (done ++ v ∷ []) us ≡ repeated (parse.many_turn no_bracket (column_at n)) done ts
columns-next n done ts us v e read =
    sym (repeated-next (parse.many_turn no_bracket (column_at n)) (many-shortens no_bracket (exact-column n) (listed-squares (λ m. IsField) n)) done ts
    (done ++ v ∷ []) us (rw (e, read) refl))

pub column-shortens : (n : ℕ) (ts us : List Tok) (v : Field) → column_at n ts ≡ Some (v, us) → length us < length ts
column-shortens n ts us v e =
    let f = (exact-column n).sound ts v us e in
    let size : length ts ≡ length f.front + length us = ap length f.is ∙ length-append f.front us in
    let some : 0 < length f.front = (listed-squares (λ m. IsField) n).some v f.front f.formed in
    omega arith

pub ruleset columns = (columns-stop, columns-bad, columns-next, column-shortens)
