-- A name, where so many more brackets may be open.
use Rattle.std.proofs.Common.{◌≡◌, ◌≢◌, ℕ, zero, suc, true, false, List, Option, Some, None, refl, sym, ap, ◌∙◌}
use Rattle.text_tokens.specs.Tok.{Tok}
use Rattle.streamit_text.specs.Tree.{Expression, Name, expression, expression_layer}
use Rattle.streamit_text.specs.declared.tree.Expr as written
use Rattle.streamit_text.specs.declared.tree.Expr.{fold-roll-Expr}
use Rattle.streamit_text.specs.declared.tree.Expr.TheVariants.{rolls-Name}
use Rattle.streamit_text.specs.declared.tree.Expr.TheOpen as layer
use Rattle.params_text.specs.Parameters.{place_at}
use Rattle.params_text.specs.Params.{is_one_of}

-- the tree of a name
expression-name : (n : List ℕ) → expression (written.Name n) ≡ Name n
expression-name n = ap expression (sym (rolls-Name n)) ∙ fold-roll-Expr Expression expression_layer (layer.Name n)

seen : (n : List ℕ) (ts : List Tok) → ◌≡◌ {A = Option (Expression × List Tok)} (Some (Name n, ts)) (Some (expression (written.Name n), ts))
seen n ts = ap (λ (t : Expression). Some (t, ts)) (sym (expression-name n))

-- a parameter has no place where no bracket may be open
pub place-none : (ps : List (List ℕ)) (text : List ℕ) (ts : List Tok) → is_one_of ps text ≡ true → place_at ps 0 text ts ≡ None
unfolding place_at
place-none ps text ts h = rw h refl

-- a name that is none of these parameters is a name alone
pub place-other : (ps : List (List ℕ)) (text : List ℕ) (ts : List Tok) → is_one_of ps text ≡ false
    → place_at ps 0 text ts ≡ Some (expression (written.Name text), ts)
unfolding place_at
place-other ps text ts h = rw h (seen text ts)

-- where a bracket may yet be open, a name is a name alone
pub place-some : (ps : List (List ℕ)) (n : ℕ) (text : List ℕ) (ts : List Tok) → n ≢ 0 → place_at ps n text ts ≡ Some (expression (written.Name text), ts)
unfolding place_at
place-some ps zero text ts h = absurd (h refl)
place-some ps (suc n) text ts h = seen text ts

pub ruleset places = (place-none, place-other, place-some)
