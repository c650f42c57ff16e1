-- What the grammar sees to: numbers are values, expressions are at most 64 deep, and `init` pops nothing.
use Rattle.std.proofs.Common.{◌≡◌, ℕ, suc, ◌≤◌, ◌<◌, ◌^◌, true, List, [], ◌∷◌, Option, Some, None, refl, sym, subst, arith}
use Rattle.std.proofs.lemmas.Bool.{and_parts}
use Rattle.std.proofs.lemmas.Bool.Decides.{nat_tests}
use Rattle.std.specs.Prelude.{◌&&◌, codes}
use Rattle.std.specs.List.{AllByRecursion}
use Rattle.std.specs.Str.{bytes_eq}
use Rattle.text_tokens.specs.Tok.{Tok}
use Rattle.text_tokens.specs.declared.sign.Symbol.TheVariants as s
use Rattle.text_forms.specs.Forms as form
use Rattle.text_forms.specs.Levels.{Spells}
use Rattle.text_forms.specs.Levels as spelled
use Rattle.text_forms.specs.Parse.{is_value}
use Rattle.text_blocks.specs.Parts.{Round}
use Rattle.text_blocks.proofs.Every.{chosen, enclosed, IfThere, every-block}
use Rattle.streamit_text.specs.Blocks.{IsDeclare, IsAssign, IsPush, IsDiscard, IsPlain, Head, HeadAfter, IsHead, looped, style, holes}
use Rattle.streamit_text.specs.Expressions.{syntax, marked, IsExpression, expr_at}
use Rattle.streamit_text.specs.Leaves.{IsLeaf, leaf_at}
use Rattle.streamit_text.specs.Leaves as rule
use Rattle.streamit_text.specs.Program.{WorkTree, FilterTree, Body, UnitForm, Program}
use Rattle.streamit_text.specs.Tree.{Expression, Statement, Declare, Assign, Push, Discard, If, For, Block, End, Then, Optional, Unwritten, Written, in_turn}
use Rattle.streamit_text.specs.Tree.{or_unwritten}
use Rattle.streamit_text.specs.Tree as tree
use Rattle.streamit_text.specs.Words.{is_own}
use Rattle.streamit_text.specs.declared.term.Sign.{Sign}
use Rattle.streamit_text.specs.declared.term.Sign.TheVariants as sign
use Rattle.streamit_text.specs.Grammar.{IsBlock, is_still, is_still_first, stays, stay, stay_optional, IsInit, IsWork, IsPrework, InFilter, BodyAfter, IsUnit, AreUnits}
use Rattle.streamit_model.specs.Shallow.{IsLow, IsLowFirst, IsShallow, AreShallow, AreShallowOptional, IsItemless, IsItemlessFirst, KeepsItems, KeepAll}
use Rattle.streamit_model.specs.Shallow.{KeepAllOptional, IsShallowPrework, IsShallowFilter, IsShallowBody, AreShallowUnits}
use Rattle.streamit_unroll.specs.Numbers.{AreValues}
use Rattle.streamit_unroll.specs.Filter.{IsWrittenPrework, IsReadable}
use Rattle.streamit_unroll.specs.Unrolling.{AreOptional, IsWritten, AreWritten, AreWrittenOptional}
use Rattle.streamit_build.specs.Readable.{IsReadableBody, AreReadable}

-- the expressions of a program, and how they are read
abbrev F : ℕ → Expression → List Tok → Type 0
F = IsExpression IsLeaf

-- ---- EXPRESSIONS

a_value : (v : ℕ) → is_value v ≡ true → v < 2 ^ 63
a_value v h = let le : v ≤ 9223372036854775807 = grind (arith, nat_tests) in omega (arith, le)

leaf-values : (n : ℕ) (t : Expression) (ts : List Tok) → IsLeaf n t ts → AreValues t
leaf-values n t ts (rule.number m v h) = a_value v h
leaf-values n t ts (rule.name m text h) = tt
leaf-values n t ts (rule.pop m) = tt

marked-values : (p : Sign) (t : Expression) → AreValues t → AreValues (marked p t)
marked-values sign.Neg t h = h
marked-values sign.Not t h = h
marked-values sign.Peek t h = h

values : (n rank : ℕ) (t : Expression) (ts : List Tok) → Spells syntax IsLeaf n rank t ts → AreValues t
values n rank t ts (spelled.leaf m u us h) = leaf-values m u us h
values n rank t ts (spelled.bracket m u us h) = values m 7 u us h
values n rank t ts (spelled.call m x p u us e h) = marked-values p u (values m 7 u us h)
values n rank t ts (spelled.tighter m k u us h) = values m k u us h
values n rank t ts (spelled.chain m k x o a b us vs e f g h) = (values m (suc k) a us g, values m k b vs h)
values n rank t ts (spelled.once m k x o a b us vs e f g h) = (values m k a us g, values m k b vs h)
values n rank t ts (spelled.prefix m k x p u us e h) = marked-values p u (values m (suc k) u us h)

abbrev IsFine : Expression → Type 0
IsFine t = AreValues t × IsLow t

term-fine : (n : ℕ) (t : Expression) (ts : List Tok) → F n t ts → IsFine t
term-fine n t ts h = (values n 7 t ts h.0, h.1)

round-fine : (n : ℕ) (t : Expression) (ts : List Tok) → Round F n t ts → IsFine t
round-fine n t ts h = enclosed IsFine _ _ _ n t ts h (λ m us f. term-fine m t us f)

-- ---- STATEMENTS

abbrev IsFineStep : Statement → Type 0
IsFineStep s = IsWritten s × IsShallow s

abbrev AreFine : Block → Type 0
AreFine b = AreWritten b × AreShallow b

abbrev AreFineOptional : Optional → Type 0
AreFineOptional b = AreWrittenOptional b × AreShallowOptional b

first-fine : (n : ℕ) (o : Option Expression) (ts : List Tok) → form.Maybe (form.After (s.Assign ∷ []) (F n)) o ts → AreOptional o × IsLowFirst o
first-fine n None ts h = (tt, tt)
first-fine n (Some t) ts h = term-fine n t h.back h.formed

declare-fine : (n : ℕ) (s : Statement) (ts : List Tok) → IsDeclare F n s ts → IsFineStep s
declare-fine n s ts h = subst IsFineStep (sym h.is) (first-fine n h.value.1 h.formed.second.front h.formed.second.formed)

assign-fine : (name : List ℕ) (n : ℕ) (s : Statement) (ts : List Tok) → IsAssign F name n s ts → IsFineStep s
assign-fine name n s ts h = subst IsFineStep (sym h.is) (term-fine n h.value h.formed.formed.front h.formed.formed.formed)

push-fine : (n : ℕ) (s : Statement) (ts : List Tok) → IsPush F n s ts → IsFineStep s
push-fine n s ts h = subst IsFineStep (sym h.is) (round-fine n h.value h.formed.front h.formed.formed)

discard-fine : (n : ℕ) (s : Statement) (ts : List Tok) → IsDiscard F n s ts → IsFineStep s
discard-fine n s ts h = subst IsFineStep (sym h.is) (tt, tt)

plain-fine : (k n : ℕ) (w : List ℕ) (s : Statement) (ts : List Tok) → IsPlain F n w s ts → IsFineStep s
plain-fine k n w s ts h =
    chosen (IsFineStep s) _ _ (bytes_eq w (codes "int")) s ts h (λ e. declare-fine n s ts) (λ h.
    chosen (IsFineStep s) _ _ (bytes_eq w (codes "push")) s ts h (λ e. push-fine n s ts) (λ h.
    chosen (IsFineStep s) _ _ (bytes_eq w (codes "pop")) s ts h (λ e. discard-fine n s ts) (λ h.
    chosen (IsFineStep s) _ _ (is_own w) s ts h (λ e. assign-fine w n s ts) (λ h. absurd h))))

-- the bounds of a loop are values
abbrev HasBounds : Head → Type 0
HasBounds h = AreValues h.low × AreValues h.high

head-after-fine : (n : ℕ) (name : List ℕ) (v : Head) (ts : List Tok) → HeadAfter F n name v ts → HasBounds v
head-after-fine n name v ts h =
    let low = h.formed.formed.first in
    let high = h.formed.formed.second.formed.second.first in
    subst HasBounds (sym h.is) ((term-fine n h.value.0 low.front low.formed).0, (term-fine n h.value.1.1.0 high.front high.formed).0)

head-fine : (n : ℕ) (v : Head) (ts : List Tok) → IsHead F n v ts → HasBounds v
head-fine n v ts h =
    let g = h.formed in
    chosen (HasBounds v) _ _ (is_own g.word) v g.back g.formed (λ e f. head-after-fine n g.word v g.back f) (λ f. absurd f)

branch-fine : (k n : ℕ) (c : Expression) (ts : List Tok) (a : Block) (o : Option Block) → Round F n c ts → AreFine a → IfThere AreFine o
    → IsFineStep (If c a (or_unwritten o))
branch-fine k n c ts a None h x y = let z = round-fine n c ts h in ((z.0, x.0, tt), (z.1, x.1, tt))
branch-fine k n c ts a (Some b) h x y = let z = round-fine n c ts h in ((z.0, x.0, y.0), (z.1, x.1, y.1))

loop-fine : (k n : ℕ) (w : List ℕ) (h : Head) (ts : List Tok) (b : Block) → Round (IsHead F) n h ts → AreFine b → IsFineStep (looped h b)
loop-fine k n w h ts b f x = let z = enclosed HasBounds _ _ _ n h ts f (λ m us g. head-fine m h us g) in ((z.0, z.1, x.0), x.1)

block-fine : (k : ℕ) (ss : List Statement) → AllByRecursion IsFineStep ss → AreFine (in_turn ss)
block-fine k [] h = (tt, tt)
block-fine k (s ∷ ss) h = let a = h.0 in let b = block-fine k ss h.1 in ((a.0, b.0), (a.1, b.1))

whole-fine : (n : ℕ) (b : Block) (ts : List Tok) → IsBlock n b ts → AreFine b
whole-fine = every-block (style (expr_at leaf_at)) (holes F) (λ k. IsFineStep) (λ k. AreFine) branch-fine loop-fine plain-fine block-fine 16

-- ---- INIT

still : (t : Expression) → is_still t ≡ true → IsItemless t
still (tree.Number v) h = refl
still (tree.Name n) h = refl
still (tree.Peek t) h = absurd (cc h)
still tree.Pop h = absurd (cc h)
still (tree.Neg t) h = still t h
still (tree.Not t) h = still t h
still (tree.Bin o a b) h = let p = and_parts (is_still a) (is_still b) h in let x = still a p.0 in let y = still b p.1 in omega (arith, x, y)

still-first : (o : Option Expression) → is_still_first o ≡ true → IsItemlessFirst o
still-first None h = tt
still-first (Some t) h = still t h

mutual
  keeps : (s : Statement) → stays s ≡ true → KeepsItems s
  keeps (Declare n t) h = still-first t h
  keeps (Assign n t) h = still t h
  keeps (Push t) h = absurd (cc h)
  keeps Discard h = absurd (cc h)
  keeps (If t a b) h =
      let p = and_parts (is_still t) (stay a && stay_optional b) h in
      let q = and_parts (stay a) (stay_optional b) p.1 in
      (still t p.0, keep a q.0, keep-optional b q.1)
  keeps (For n low upto high b) h =
      let p = and_parts (is_still low) (is_still high && stay b) h in
      keep b (and_parts (is_still high) (stay b) p.1).1

  keep : (b : Block) → stay b ≡ true → KeepAll b
  keep End h = tt
  keep (Then c b) h = let p = and_parts (stays c) (stay b) h in (keeps c p.0, keep b p.1)

  keep-optional : (b : Optional) → stay_optional b ≡ true → KeepAllOptional b
  keep-optional Unwritten h = tt
  keep-optional (Written b) h = keep b h

abbrev IsInitial : Optional → Type 0
IsInitial b = AreFineOptional b × KeepAllOptional b

init-fine : (n : ℕ) (b : Optional) (ts : List Tok) → IsInit n b ts → IsInitial b
init-fine n b ts h = subst IsInitial (sym h.is) (by h.value ts h.formed) where
  by : (o : Option Block) (us : List Tok) → form.Maybe (form.AfterWord (codes "init") (form.Tested stay (IsBlock n))) o us → IsInitial (or_unwritten o)
  by None us f = ((tt, tt), tt)
  by (Some c) us f = (whole-fine n c f.back f.formed.formed, keep c f.formed.passes)

-- ---- UNITS

abbrev IsFinePrework : Option WorkTree → Type 0
IsFinePrework o = IsWrittenPrework o × IsShallowPrework o

abbrev IsFineFilter : FilterTree → Type 0
IsFineFilter t = IsReadable t × IsShallowFilter t

abbrev IsFineWork : WorkTree → Type 0
IsFineWork w = AreWritten w.block × AreShallow w.block

work-fine : (n : ℕ) (w : WorkTree) (ts : List Tok) → IsWork n w ts → IsFineWork w
work-fine n w ts h = subst IsFineWork (sym h.is) (whole-fine n h.value.1 h.formed.back h.formed.second)

prework-fine : (n : ℕ) (o : Option WorkTree) (ts : List Tok) → IsPrework n o ts → IsFinePrework o
prework-fine n None ts h = (tt, tt)
prework-fine n (Some w) ts h = work-fine n w h.back h.formed

filter-fine : (n : ℕ) (t : FilterTree) (ts : List Tok) → InFilter n t ts → IsFineFilter t
filter-fine n t ts h =
    let v = h.value in
    let rest = h.formed.second in
    let i = init-fine n v.1.0 rest.front rest.first in
    let p = prework-fine n v.1.1.0 rest.second.front rest.second.first in
    let w = work-fine n v.1.1.1 rest.second.second.back rest.second.second.formed in
    subst IsFineFilter (sym h.is) (record { init = i.0.0; prework = p.0; work = w.0; low = i.0.1; kept = i.1 }, (p.1, w.1))

abbrev IsFineBody : Body → Type 0
IsFineBody b = IsReadableBody b × IsShallowBody b

body-fine : (n : ℕ) (w : List ℕ) (b : Body) (ts : List Tok) → BodyAfter n w b ts → IsFineBody b
body-fine n w b ts h =
    chosen (IsFineBody b) _ _ (bytes_eq w (codes "filter")) b ts h
    (λ e f. subst IsFineBody (sym f.is) (enclosed IsFineFilter _ _ _ n f.value ts f.formed (λ m us g. filter-fine m f.value us g))) (λ h.
    chosen (IsFineBody b) _ _ (bytes_eq w (codes "pipeline")) b ts h (λ e f. subst IsFineBody (sym f.is) (tt, tt)) (λ h.
    chosen (IsFineBody b) _ _ (bytes_eq w (codes "splitjoin")) b ts h
    (λ e f. enclosed IsFineBody _ _ _ n b ts f (λ m us g. subst IsFineBody (sym g.is) (tt, tt))) (λ h. absurd h)))

unit-fine : (d : UnitForm) (ts : List Tok) → IsUnit d ts → IsFineBody d.body
unit-fine d ts h =
    let g = h.formed.formed.formed in
    let k = g.formed in
    subst (λ (e : UnitForm). IsFineBody e.body) (sym k.is) (body-fine 128 g.word k.value.1 k.formed.back k.formed.second)

-- units that the grammar has are readable, and their expressions are not too deep
pub units-fine : (p : Program) (units : List (List Tok)) → AreUnits p units → AreReadable p × AreShallowUnits p
units-fine [] units h = (tt, tt)
units-fine (d ∷ ds) [] h = absurd h
units-fine (d ∷ ds) (u ∷ us) h =
    let a = unit-fine d u h.0 in
    let b = units-fine ds us h.1 in
    ((a.0, b.0), (a.1, b.1))
