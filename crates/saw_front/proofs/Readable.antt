-- What the grammar sees to: numbers are values, expressions are at most 64 deep, and tables have short names.
use Rattle.std.proofs.Common.{◌≡◌, ℕ, suc, ◌≤◌, ◌<◌, ◌^◌, Bool, true, false, List, [], ◌∷◌, Option, Some, None, inl, inr, refl, sym, subst, arith}
use Rattle.std.proofs.lemmas.Bool.{and_parts}
use Rattle.std.proofs.lemmas.Bool.Decides.{nat_tests}
use Rattle.std.specs.Prelude.{◌&&◌, codes, length, nat_le}
use Rattle.std.specs.List.{AllByRecursion}
use Rattle.std.specs.Str.{bytes_eq}
use Rattle.river_base.proofs.Tests.{le_by}
use Rattle.river_base.specs.Name.{is_name}
use Rattle.text_tokens.specs.Tok.{Tok}
use Rattle.text_tokens.specs.declared.sign.Symbol.TheVariants as s
use Rattle.text_forms.specs.Forms as form
use Rattle.text_forms.specs.Parse.{is_value}
use Rattle.saw_text.specs.Tree.{Expression}
use Rattle.saw_text.specs.Tree.{Statement, If, Block, UnitForm}
use Rattle.saw_model.specs.Meaning.{listed}
use Rattle.saw_model.specs.Shallow.{IsLow, AreLow, IsShallow, AreShallow, IsShallowPart, AreShallowUnits}
use Rattle.saw_text.specs.Tree.{in_turn, or_unwritten, TableForm, UnitForm, TableUnit}
use Rattle.text_blocks.specs.Statements.{IsRest}
use Rattle.text_blocks.specs.Parts.{Round, Square}
use Rattle.text_blocks.specs.declared.sign.Sign.{Sign}
use Rattle.text_blocks.specs.declared.sign.Sign.TheVariants as sign
use Rattle.text_blocks.proofs.Every.{chosen, enclosed, IfThere, every-rest}
use Rattle.text_forms.specs.Levels.{Spells}
use Rattle.text_forms.specs.Levels as spelled
use Rattle.saw_text.specs.Blocks.{IsDeclare, IsAssign, IsEmit, NamedAfter, PlainAfter, style, holes}
use Rattle.saw_text.specs.Expressions.{syntax, marked, IsLeaf, IsExpression}
use Rattle.saw_text.specs.Expressions as rule
use Rattle.saw_text.specs.Words.{is_plain, is_user}
use Rattle.saw_text.specs.Grammar.{TypedAfter, UnitNamed, IsUnit, AreUnits}
use Rattle.saw_front.specs.Valued.{AreValues, AllValues, IsValued, AreValued, IsValuedUnit, AreValuedUnits}

-- ---- EXPRESSIONS

a_value : (v : ℕ) → is_value v ≡ true → v < 2 ^ 63
a_value v h = let le : v ≤ 9223372036854775807 = grind (arith, nat_tests) in omega (arith, le)

leaf-values : (n : ℕ) (t : Expression) (ts : List Tok) → IsLeaf n t ts → AreValues t
leaf-values n t ts (rule.number m v h) = a_value v h
leaf-values n t ts (rule.name m text h) = tt
leaf-values n t ts (rule.input m k h) = tt

marked-values : (p : Sign) (t : Expression) → AreValues t → AreValues (marked p t)
marked-values sign.Neg t h = h
marked-values sign.Not t h = h

values : (n rank : ℕ) (t : Expression) (ts : List Tok) → Spells syntax IsLeaf n rank t ts → AreValues t
values n rank t ts (spelled.leaf m u us h) = leaf-values m u us h
values n rank t ts (spelled.bracket m u us h) = values m 7 u us h
values n rank t ts (spelled.call m x p u us e h) = marked-values p u (values m 7 u us h)
values n rank t ts (spelled.tighter m k u us h) = values m k u us h
values n rank t ts (spelled.chain m k x o a b us vs e f g h) = (values m (suc k) a us g, values m k b vs h)
values n rank t ts (spelled.once m k x o a b us vs e f g h) = (values m k a us g, values m k b vs h)
values n rank t ts (spelled.prefix m k x p u us e h) = marked-values p u (values m (suc k) u us h)

abbrev IsFine : Expression → Type 0
IsFine t = AreValues t × IsLow t

abbrev AllFine : List Expression → Type 0
AllFine ts = AllValues ts × AreLow ts

term-fine : (n : ℕ) (t : Expression) (ts : List Tok) → IsExpression n t ts → IsFine t
term-fine n t ts h = (values n 7 t ts h.0, h.1)

round-fine : (n : ℕ) (t : Expression) (ts : List Tok) → Round IsExpression n t ts → IsFine t
round-fine n t ts h = enclosed IsFine _ _ _ n t ts h (λ m us f. term-fine m t us f)

squares-fine : (n : ℕ) (is : List Expression) (ts : List Tok) → form.Many (Square IsExpression n) is ts → AllFine is
squares-fine n [] ts h = (tt, tt)
squares-fine n (i ∷ is) ts h =
    let a = enclosed IsFine _ _ _ n i h.0 h.3 (λ m us f. term-fine m i us f) in
    let b = squares-fine n is h.1 h.4 in
    ((a.0, b.0), (a.1, b.1))

-- ---- STATEMENTS

abbrev IsFineStep : Statement → Type 0
IsFineStep s = IsValued s × IsShallow s

abbrev AreFine : Block → Type 0
AreFine b = AreValued b × AreShallow b

first-fine : (n : ℕ) (o : Option Expression) (ts : List Tok) → form.Maybe (form.After (s.Assign ∷ []) (IsExpression n)) o ts → AllFine (listed o)
first-fine n None ts h = (tt, tt)
first-fine n (Some t) ts h = let a = term-fine n t h.back h.formed in ((a.0, tt), (a.1, tt))

declare-fine : (w : List ℕ) (n : ℕ) (s : Statement) (ts : List Tok) → IsDeclare w n s ts → IsFineStep s
declare-fine w n s ts h = subst IsFineStep (sym h.is) (first-fine n h.value h.formed.front h.formed.formed)

assign-fine : (w : List ℕ) (n : ℕ) (s : Statement) (ts : List Tok) → IsAssign w n s ts → IsFineStep s
assign-fine w n s ts h = subst IsFineStep (sym h.is) (term-fine n h.value h.formed.formed.front h.formed.formed.formed)

weight-fine : (n : ℕ) (o : Option Expression) (ts : List Tok) → form.Maybe (form.AfterWord (codes "weight") (IsExpression n)) o ts → AllFine (listed o)
weight-fine n None ts h = (tt, tt)
weight-fine n (Some t) ts h = let a = term-fine n t h.back h.formed in ((a.0, tt), (a.1, tt))

emit-fine : (n : ℕ) (s : Statement) (ts : List Tok) → IsEmit n s ts → IsFineStep s
emit-fine n s ts h =
    let v = h.value in
    let rest = h.formed.second in
    let both = rest.second.formed in
    let is = squares-fine n v.1.0 rest.front rest.first in
    let t = term-fine n v.1.1.0 both.front both.first in
    let w = weight-fine n v.1.1.1 both.second.front both.second.formed in
    subst IsFineStep (sym h.is) ((is.0, t.0, w.0), (is.1, t.1, w.1))

named-fine : (w : List ℕ) (n : ℕ) (s : Statement) (ts : List Tok) → NamedAfter w n s ts → IsFineStep s
named-fine w n s ts (inl f) = declare-fine w n s f.formed.back f.formed.formed
named-fine w n s ts (inr f) = assign-fine w n s ts f

plain-fine : (k n : ℕ) (w : List ℕ) (s : Statement) (ts : List Tok) → PlainAfter n w s ts → IsFineStep s
plain-fine k n w s ts h =
    chosen (IsFineStep s) _ _ (bytes_eq w (codes "emit")) s ts h (λ e f. emit-fine n s ts f) (λ h.
    chosen (IsFineStep s) _ _ (is_user w) s ts h (λ e f. named-fine w n s ts f) (λ h. absurd h))

branch-fine : (k n : ℕ) (c : Expression) (ts : List Tok) (a : Block) (o : Option Block) → Round IsExpression n c ts → AreFine a → IfThere AreFine o
    → IsFineStep (If c a (or_unwritten o))
branch-fine k n c ts a None h x y = let z = round-fine n c ts h in ((z.0, x.0, tt), (z.1, x.1, tt))
branch-fine k n c ts a (Some b) h x y = let z = round-fine n c ts h in ((z.0, x.0, y.0), (z.1, x.1, y.1))

block-fine : (k : ℕ) (ss : List Statement) → AllByRecursion IsFineStep ss → AreFine (in_turn ss)
block-fine k [] h = (tt, tt)
block-fine k (s ∷ ss) h = let a = h.0 in let b = block-fine k ss h.1 in ((a.0, b.0), (a.1, b.1))

rest-fine : (k n : ℕ) (w : List ℕ) (s : Statement) (ts : List Tok) → IsRest style holes k n w s ts → IsFineStep s
rest-fine = every-rest style holes (λ k. IsFineStep) (λ k. AreFine) branch-fine (λ k n w h ts b f q. absurd f) plain-fine block-fine

-- ---- UNITS

abbrev IsFinePart : UnitForm → Type 0
IsFinePart c = IsValuedUnit c × IsShallowPart c

-- a name that users may give is short
user-short : (w : List ℕ) → is_user w ≡ true → length w ≤ 40
unfolding is_plain
user-short w h = by (nat_le (length w) 40) _ refl (and_parts (is_plain w) (is_name w) h).0 where
  by : (b c : Bool) → nat_le (length w) 40 ≡ b → (b && c) ≡ true → length w ≤ 40
  by true c e g = le_by (length w) 40 e
  by false c e g = cc

typed-fine : (name : List ℕ) (n : ℕ) (w : List ℕ) (u : UnitForm) (ts : List Tok) → length name ≤ 40 → TypedAfter name n w u ts → IsFinePart u
typed-fine name n w u ts short h =
    chosen (IsFinePart u) _ _ (bytes_eq w (codes "table")) u ts h
    (λ e f.
    let is = f.formed.formed.is in
    subst (λ (x : UnitForm). IsFinePart x) (sym f.is) (subst (λ (t : TableForm). IsFinePart (TableUnit t)) (sym is) (short, tt))) (λ h.
    chosen (IsFinePart u) _ _ (bytes_eq w (codes "int")) u ts h
    (λ e f. subst (λ (x : UnitForm). IsFinePart x) (sym f.is) (declare-fine name n f.value ts f.formed)) (λ h. absurd h))

unit_named-fine : (w : List ℕ) (n : ℕ) (u : UnitForm) (ts : List Tok) → length w ≤ 40 → UnitNamed w n u ts → IsFinePart u
unit_named-fine w n u ts short (inl f) = typed-fine w n f.formed.word u f.formed.back short f.formed.formed
unit_named-fine w n u ts short (inr f) = subst (λ (x : UnitForm). IsFinePart x) (sym f.is) (assign-fine w n f.value ts f.formed)

unit-fine : (u : UnitForm) (ts : List Tok) → IsUnit u ts → IsFinePart u
unit-fine u ts h =
    chosen (IsFinePart u) _ _ (is_user h.word) u h.back h.formed
    (λ e f. unit_named-fine h.word 128 u h.back (user-short h.word e) f)
    (λ f.
    subst IsFinePart (sym f.is) (rest-fine 16 128 h.word f.value h.back f.formed))

-- units that the grammar has are readable, and their expressions are not too deep
pub units-fine : (us : List UnitForm) (units : List (List Tok)) → AreUnits us units → AreValuedUnits us × AreShallowUnits us
units-fine [] units h = (tt, tt)
units-fine (u ∷ us) [] h = absurd h
units-fine (u ∷ us) (t ∷ ts) h =
    let a = unit-fine u t h.0 in
    let b = units-fine us ts h.1 in
    ((a.0, b.0), (a.1, b.1))
