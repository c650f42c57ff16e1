-- An expression begins with no closing bracket.
use Rattle.std.proofs.Common.{◌≡◌, ℕ, suc, Bool, true, false, Option, Some, None, List, ◌∷◌, ◌++◌, refl, ap, ◌∙◌, append_assoc}
use Rattle.text_tokens.specs.Tok.{Tok, symbol}
use Rattle.text_tokens.specs.declared.sign.Symbol.TheVariants as s
use Rattle.text_forms.specs.Levels.{level_of}
use Rattle.text_forms.specs.Levels as levels
use Rattle.text_forms.specs.Parse.{begins_with}
use Rattle.text_forms.proofs.Symbols.{begins_with-is}
use Rattle.text_blocks.proofs.Seven.{sign-none}
use Rattle.streamit_text.specs.Expressions.{syntax, sign_at, call_at, IsExpression}
use Rattle.streamit_text.specs.Leaves.{IsLeaf}
use Rattle.streamit_text.specs.Leaves as rule
use Rattle.streamit_text.specs.Tree.{Expression}
use Rattle.streamit_text.specs.declared.term.Sign.{Sign}

-- what is no closing bracket does not begin with one
no-close : (x : Tok) (rest : List Tok) → (x ≡ symbol s.Close → ⊥) → begins_with s.Close (x ∷ rest) ≡ false
no-close x rest other = by (begins_with s.Close (x ∷ rest)) refl where
  head : (y : Tok) (ys zs : List Tok) → x ∷ ys ≡ y ∷ zs → x ≡ y
  head y ys zs e = cc

  by : (b : Bool) → begins_with s.Close (x ∷ rest) ≡ b → b ≡ false
  by false e = refl
  by true e = absurd (other (head (symbol s.Close) rest _ (begins_with-is s.Close (x ∷ rest) e)))

none-some : {A : Type 0} (o : Option A) (x : A) → o ≡ None → o ≡ Some x → ⊥
none-some o x e f = cc

leaf-begins : (n : ℕ) (t : Expression) (ts rest : List Tok) → IsLeaf n t ts → begins_with s.Close (ts ++ rest) ≡ false
leaf-begins n t ts rest (rule.number m v h) = refl
leaf-begins n t ts rest (rule.name m text h) = refl
leaf-begins n t ts rest (rule.pop m) = refl

call-is : (x : Tok) (p : Sign) → call_at x ≡ Some p → x ≡ symbol s.Close → ⊥
call-is x p e is = none-some (call_at x) p (ap call_at is) e

sign-is : (k : ℕ) (x : Tok) (p : Sign) → levels.sign (level_of syntax.levels k) x ≡ Some p → x ≡ symbol s.Close → ⊥
sign-is k x p e is =
    none-some (levels.sign (level_of syntax.levels k) x) p (ap (levels.sign (level_of syntax.levels k)) is ∙ sign-none sign_at k (symbol s.Close) refl) e

spells-begin : (n k : ℕ) (t : Expression) (ts rest : List Tok) → levels.Spells syntax IsLeaf n k t ts → begins_with s.Close (ts ++ rest) ≡ false
spells-begin n k t ts rest (levels.leaf m u us h) = leaf-begins m u us rest h
spells-begin n k t ts rest (levels.bracket m u us h) = refl
spells-begin n k t ts rest (levels.call m x p u us e h) = no-close x _ (call-is x p e)
spells-begin n k t ts rest (levels.tighter m j u us h) = spells-begin m j u us rest h
spells-begin n k t ts rest (levels.chain m j x o a b us vs f e g h) = rw append_assoc (spells-begin m (suc j) a us _ g)
spells-begin n k t ts rest (levels.once m j x o a b us vs f e g h) = rw append_assoc (spells-begin m j a us _ g)
spells-begin n k t ts rest (levels.prefix m j x p u us e h) = no-close x _ (sign-is j x p e)

pub expression-begins : (n : ℕ) (t : Expression) (ts rest : List Tok) → IsExpression IsLeaf n t ts → begins_with s.Close (ts ++ rest) ≡ false
expression-begins n t ts rest h = spells-begin n 7 t ts rest h.0
