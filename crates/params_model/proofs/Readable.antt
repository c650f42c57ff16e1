-- What the grammar has can be written out: numbers are values, names are names, expressions are low, and `if` and `for` nest at most
-- 16 deep.
use Rattle.std.proofs.Common.{◌≡◌, ℕ, zero, suc, ◌≤◌, true, List, [], ◌∷◌, length, Option, Some, None, refl, sym, subst, arith, ⊎_elim, nat_le}
use Rattle.std.proofs.lemmas.Bool.{and_parts}
use Rattle.std.proofs.lemmas.Bool.Decides.{nat_tests}
use Rattle.std.specs.Prelude.{◌&&◌, codes}
use Rattle.std.specs.List.{AllByRecursion}
use Rattle.std.specs.Str.{bytes_eq}
use Rattle.text_tokens.specs.Tok.{Tok}
use Rattle.text_tokens.specs.declared.sign.Symbol.TheVariants as s
use Rattle.text_forms.specs.Forms as form
use Rattle.text_forms.specs.Levels.{Spells}
use Rattle.text_forms.specs.Levels as spelled
use Rattle.text_forms.specs.Parse.{is_value}
use Rattle.text_blocks.specs.Parts.{Round}
use Rattle.text_blocks.proofs.Every.{chosen, enclosed, IfThere, every-block, every-rest}
use Rattle.streamit_text.specs.Blocks.{IsDeclare, IsAssign, IsPush, IsDiscard, IsPlain, Head, HeadAfter, IsHead, looped}
use Rattle.streamit_text.specs.Blocks as streamit
use Rattle.streamit_text.specs.Expressions.{syntax, marked, IsExpression, expr_at}
use Rattle.streamit_text.specs.Grammar.{stay, stay_optional, IsField}
use Rattle.streamit_text.specs.Leaves.{IsLeaf}
use Rattle.streamit_text.specs.Leaves as leaf
use Rattle.streamit_text.specs.Tree.{Expression, Statement, Declare, Assign, Push, Discard, If, For, Block, End, Then, Optional, Unwritten, Written, in_turn, or_unwritten}
use Rattle.streamit_text.specs.Words.{is_own}
use Rattle.streamit_text.specs.declared.term.Sign.{Sign}
use Rattle.streamit_text.specs.declared.term.Sign.TheVariants as sign
use Rattle.streamit_text.specs.Tree as tree
use Rattle.params_text.specs.Grammar.{IsBlock, IsInit, IsWork, IsPrework, InFilter, IsStep, IsPipe, InBoth, BodyAfter, IsUnit, AreUnits}
use Rattle.params_text.specs.Parameters.{IsLeafWith, leaf_with}
use Rattle.params_text.specs.Parameters as rule
use Rattle.params_text.specs.Params.{low, lows, low_optional, is_low, is_low_first, param_depth}
use Rattle.params_text.specs.Program.{ParamWork, ParamFilter, Step, Steps, steps_in_turn, Body, UnitForm, ParamProgram}
use Rattle.params_text.specs.Steps.{Constant, or_none, Constants, StepHead, StepAfter, style, holes}
use Rattle.params_text.specs.Steps as step
use Rattle.params_text.specs.Told.{IsOwnName, AreOwnNames, IsToldTree, FirstBy, OnceBy, AllBy, OptionalBy}
use Rattle.params_model.specs.Laws.{HasValues, AreFit, IsFitStep, AreFitSteps, IsFitBody, IsFitProgram, TextsAreWritten}
use Rattle.params_model.specs.Written.{IsWrittenExpr, IsWrittenPrework, IsWrittenFilter, IsWrittenBody, IsWrittenUnit, IsWrittenProgram}

-- EXPRESSIONS

a_value : (v : ℕ) → is_value v ≡ true → v ≤ 9223372036854775807
a_value v h = grind (arith, nat_tests)

marked-told : (p : Sign) (t : Expression) → IsToldTree t → IsToldTree (marked p t)
marked-told sign.Neg t h = h
marked-told sign.Not t h = h
marked-told sign.Peek t h = h

-- whatever the leaves are
module _ (Leaf : ℕ → Expression → List Tok → Type 0) (leaves : (n : ℕ) (t : Expression) (ts : List Tok) → Leaf n t ts → IsToldTree t) where
  spells-told : (n rank : ℕ) (t : Expression) (ts : List Tok) → Spells syntax Leaf n rank t ts → IsToldTree t
  spells-told n rank t ts (spelled.leaf m u us h) = leaves m u us h
  spells-told n rank t ts (spelled.bracket m u us h) = spells-told m 7 u us h
  spells-told n rank t ts (spelled.call m x p u us e h) = marked-told p u (spells-told m 7 u us h)
  spells-told n rank t ts (spelled.tighter m k u us h) = spells-told m k u us h
  spells-told n rank t ts (spelled.chain m k x o a b us vs e f g h) = (spells-told m (suc k) a us g, spells-told m k b vs h)
  spells-told n rank t ts (spelled.once m k x o a b us vs e f g h) = (spells-told m k a us g, spells-told m k b vs h)
  spells-told n rank t ts (spelled.prefix m k x p u us e h) = marked-told p u (spells-told m (suc k) u us h)

  -- an expression that tokens stand for is one that a text can stand for
  pub term-told : (n : ℕ) (t : Expression) (ts : List Tok) → IsExpression Leaf n t ts → IsToldTree t
  term-told n t ts h = spells-told n 7 t ts h.0

-- so is a leaf that tokens stand for
pub leaf-told : (n : ℕ) (t : Expression) (ts : List Tok) → IsLeaf n t ts → IsToldTree t
leaf-told n t ts (leaf.number m v h) = a_value v h
leaf-told n t ts (leaf.name m text h) = h
leaf-told n t ts (leaf.pop m) = tt

-- the numbers of an expression that a text can stand for are values
pub told-fit : (t : Expression) → IsToldTree t → HasValues t
told-fit (tree.Number v) h = h
told-fit (tree.Name n) h = tt
told-fit (tree.Peek t) h = tt
told-fit tree.Pop h = tt
told-fit (tree.Neg t) h = told-fit t h
told-fit (tree.Not t) h = told-fit t h
told-fit (tree.Bin o a b) h = (told-fit a h.0, told-fit b h.1)

-- the numbers of a constant are values
pub constant-fit : (n : ℕ) (t : Expression) (ts : List Tok) → Constant n t ts → HasValues t
constant-fit n t ts h = told-fit t (term-told IsLeaf leaf-told n t ts h.formed)

-- STEPS

commas-fit : (n : ℕ) (cs : List Expression) (ts : List Tok) → form.Many (form.After (s.Comma ∷ []) (Constant n)) cs ts → AreFit cs
commas-fit n [] ts h = tt
commas-fit n (c ∷ cs) ts h = (constant-fit n c h.3.back h.3.formed, commas-fit n cs h.1 h.4)

listing-fit : (n : ℕ) (cs : List Expression) (ts : List Tok) → form.Listing (Constant n) cs ts → AreFit cs
listing-fit n cs ts h = ⊎_elim
    (λ e. subst AreFit (sym e.0) tt)
    (λ f. subst AreFit (sym f.is) (constant-fit n f.value.0 f.formed.front f.formed.first, commas-fit n f.value.1 f.formed.back f.formed.second))
    h

-- so are those of a list of constants
pub constants-fit : (n : ℕ) (o : Option (List Expression)) (ts : List Tok) → Constants n o ts → AreFit (or_none o)
constants-fit n None ts h = tt
constants-fit n (Some cs) ts h = enclosed AreFit _ _ _ n cs ts h (λ m us f. listing-fit m cs us f)

abbrev FitStep : ℕ → Step → Type 0
FitStep k s = IsFitStep s

abbrev FitSteps : ℕ → Steps → Type 0
FitSteps k ss = AreFitSteps ss

branch-fit : (k n : ℕ) (c : Step) (ts : List Tok) (a : Steps) (o : Option Steps) → ⊥ → FitSteps k a → IfThere (FitSteps k) o → FitStep (suc k) c
branch-fit k n c ts a o h x y = absurd h

loop-fit : (k n : ℕ) (w : List ℕ) (h : Head) (ts : List Tok) (b : Steps) → StepHead n h ts → FitSteps k b → FitStep (suc k) (step.looped h b)
loop-fit k n w h ts b f x = x

add-fit : (k n : ℕ) (w : List ℕ) (v : Step) (ts : List Tok) → StepAfter n w v ts → FitStep k v
add-fit k n w v ts h =
    chosen (FitStep k v) _ _ (bytes_eq w (codes "add")) v ts h
    (λ e f. subst IsFitStep (sym f.is) (constants-fit n f.value.1 f.formed.second.front f.formed.second.formed)) (λ f. absurd f)

order-fit : (k : ℕ) (ss : List Step) → AllByRecursion (FitStep k) ss → FitSteps k (steps_in_turn ss)
order-fit k [] h = tt
order-fit k (s ∷ ss) h = (h.0, order-fit k ss h.1)

pipe-fit : (n : ℕ) (ss : Steps) (ts : List Tok) → IsPipe n ss ts → AreFitSteps ss
pipe-fit n ss ts h = every-block style holes FitStep FitSteps branch-fit loop-fit add-fit order-fit 16 n ss ts h

step-fit : (n : ℕ) (s : Step) (ts : List Tok) → IsStep n s ts → IsFitStep s
step-fit n s ts h = every-rest style holes FitStep FitSteps branch-fit loop-fit add-fit order-fit 16 n h.word s h.back h.formed

each-fit : (n : ℕ) (ss : List Step) (ts : List Tok) → form.Many (IsStep n) ss ts → AreFitSteps (steps_in_turn ss)
each-fit n [] ts h = tt
each-fit n (s ∷ ss) ts h = (step-fit n s h.0 h.3, each-fit n ss h.1 h.4)

-- BLOCKS OF FILTERS

module _ (ps : List (List ℕ)) where
  abbrev F : ℕ → Expression → List Tok → Type 0
  F = IsExpression (IsLeafWith ps)

  with-told : (n : ℕ) (t : Expression) (ts : List Tok) → IsLeafWith ps n t ts → IsToldTree t
  with-told n t ts (rule.number m v h) = a_value v h
  with-told n t ts (rule.name m text h p) = h
  with-told n t ts (rule.parameter m text h p) = h
  with-told n t ts (rule.pop m) = tt

  expr-told : (n : ℕ) (t : Expression) (ts : List Tok) → F n t ts → IsToldTree t
  expr-told = term-told (IsLeafWith ps) with-told

  round-told : (n : ℕ) (t : Expression) (ts : List Tok) → Round F n t ts → IsToldTree t
  round-told n t ts h = enclosed IsToldTree _ _ _ n t ts h (λ m us f. expr-told m t us f)

  abbrev Once : ℕ → Statement → Type 0
  Once k s = OnceBy IsToldTree k s

  abbrev All : ℕ → Block → Type 0
  All k b = AllBy IsToldTree k b

  first-told : (n : ℕ) (o : Option Expression) (ts : List Tok) → form.Maybe (form.After (s.Assign ∷ []) (F n)) o ts → FirstBy IsToldTree o
  first-told n None ts h = tt
  first-told n (Some t) ts h = expr-told n t h.back h.formed

  declare-told : (k n : ℕ) (v : Statement) (ts : List Tok) → IsDeclare F n v ts → Once k v
  declare-told k n v ts h =
      subst (Once k) (sym h.is) (h.formed.first.passes, first-told n h.value.1 h.formed.second.front h.formed.second.formed)

  assign-told : (k n : ℕ) (w : List ℕ) (v : Statement) (ts : List Tok) → is_own w ≡ true → IsAssign F w n v ts → Once k v
  assign-told k n w v ts own h = subst (Once k) (sym h.is) (own, expr-told n h.value h.formed.formed.front h.formed.formed.formed)

  push-told : (k n : ℕ) (v : Statement) (ts : List Tok) → IsPush F n v ts → Once k v
  push-told k n v ts h = subst (Once k) (sym h.is) (round-told n h.value h.formed.front h.formed.formed)

  discard-told : (k n : ℕ) (v : Statement) (ts : List Tok) → IsDiscard F n v ts → Once k v
  discard-told k n v ts h = subst (Once k) (sym h.is) tt

  plain-told : (k n : ℕ) (w : List ℕ) (v : Statement) (ts : List Tok) → IsPlain F n w v ts → Once k v
  plain-told k n w v ts h =
      chosen (Once k v) _ _ (bytes_eq w (codes "int")) v ts h (λ e. declare-told k n v ts) (λ h.
      chosen (Once k v) _ _ (bytes_eq w (codes "push")) v ts h (λ e. push-told k n v ts) (λ h.
      chosen (Once k v) _ _ (bytes_eq w (codes "pop")) v ts h (λ e. discard-told k n v ts) (λ h.
      chosen (Once k v) _ _ (is_own w) v ts h (λ e. assign-told k n w v ts e) (λ h. absurd h))))

  abbrev HeadTold : Head → Type 0
  HeadTold h = IsOwnName h.name × IsToldTree h.low × IsToldTree h.high

  after-told : (n : ℕ) (name : List ℕ) (v : Head) (ts : List Tok) → is_own name ≡ true → HeadAfter F n name v ts → HeadTold v
  after-told n name v ts own h =
      let from = h.formed.formed.first in
      let to = h.formed.formed.second.formed.second.first in
      subst HeadTold (sym h.is) (own, expr-told n h.value.0 from.front from.formed, expr-told n h.value.1.1.0 to.front to.formed)

  head-told : (n : ℕ) (v : Head) (ts : List Tok) → IsHead F n v ts → HeadTold v
  head-told n v ts h =
      let g = h.formed in
      chosen (HeadTold v) _ _ (is_own g.word) v g.back g.formed (λ e f. after-told n g.word v g.back e f) (λ f. absurd f)

  branch-told : (k n : ℕ) (c : Expression) (ts : List Tok) (a : Block) (o : Option Block) → Round F n c ts → All k a → IfThere (All k) o
      → Once (suc k) (If c a (or_unwritten o))
  branch-told k n c ts a None h x y = (round-told n c ts h, x, tt)
  branch-told k n c ts a (Some b) h x y = (round-told n c ts h, x, y)

  loop-told : (k n : ℕ) (w : List ℕ) (h : Head) (ts : List Tok) (b : Block) → Round (IsHead F) n h ts → All k b → Once (suc k) (looped h b)
  loop-told k n w h ts b f x =
      let g = enclosed HeadTold _ _ _ n h ts f (λ m us e. head-told m h us e) in
      (g.0, g.1, g.2, x)

  turn-told : (k : ℕ) (ss : List Statement) → AllByRecursion (Once k) ss → All k (in_turn ss)
  turn-told k [] h = tt
  turn-told k (c ∷ ss) h = (h.0, turn-told k ss h.1)

  -- what is low is so everywhere
  below : (d : ℕ) → nat_le d 64 ≡ true → d ≤ 64
  below d h = grind (arith, nat_tests, h)

  expr-written : (t : Expression) → IsToldTree t → is_low ps t ≡ true → IsWrittenExpr ps t
  expr-written t h g = (h, below (param_depth ps t) g)

  first-written : (o : Option Expression) → FirstBy IsToldTree o → is_low_first ps o ≡ true → FirstBy (IsWrittenExpr ps) o
  first-written None h g = tt
  first-written (Some t) h g = expr-written t h g

  mutual
    once-written : (k : ℕ) (c : Statement) → OnceBy IsToldTree k c → lows ps c ≡ true → OnceBy (IsWrittenExpr ps) k c
    once-written k (Declare n t) h g = (h.0, first-written t h.1 g)
    once-written k (Assign n t) h g = (h.0, expr-written t h.1 g)
    once-written k (Push t) h g = expr-written t h g
    once-written k Discard h g = tt
    once-written zero (If t a b) h g = absurd h
    once-written (suc k) (If t a b) h g =
        let p = and_parts (is_low ps t) (low ps a && low_optional ps b) g in
        let q = and_parts (low ps a) (low_optional ps b) p.1 in
        (expr-written t h.0 p.0, all-written k a h.1 q.0, optional-written k b h.2 q.1)
    once-written zero (For n from upto to b) h g = absurd h
    once-written (suc k) (For n from upto to b) h g =
        let p = and_parts (is_low ps from) (is_low ps to && low ps b) g in
        let q = and_parts (is_low ps to) (low ps b) p.1 in
        (h.0, expr-written from h.1 p.0, expr-written to h.2 q.0, all-written k b h.3 q.1)

    all-written : (k : ℕ) (b : Block) → AllBy IsToldTree k b → low ps b ≡ true → AllBy (IsWrittenExpr ps) k b
    all-written k End h g = tt
    all-written k (Then c b) h g =
        let p = and_parts (lows ps c) (low ps b) g in
        (once-written k c h.0 p.0, all-written k b h.1 p.1)

    optional-written : (k : ℕ) (b : Optional) → OptionalBy IsToldTree k b → low_optional ps b ≡ true → OptionalBy (IsWrittenExpr ps) k b
    optional-written k Unwritten h g = tt
    optional-written k (Written b) h g = all-written k b h g

  block-written : (n : ℕ) (b : Block) (ts : List Tok) → IsBlock ps n b ts → AllBy (IsWrittenExpr ps) 16 b
  block-written n b ts h =
      all-written 16 b
      (every-block (streamit.style (expr_at (leaf_with ps))) (streamit.holes F) Once All branch-told loop-told plain-told turn-told 16 n b ts h.formed) h.passes

  -- FILTERS

  fields-own : (fs : List (List ℕ)) (ts : List Tok) → form.Many IsField fs ts → AreOwnNames fs
  fields-own [] ts h = tt
  fields-own (f ∷ fs) ts h = (h.3.formed.formed.passes, fields-own fs h.1 h.4)

  abbrev InitWritten : Optional → Type 0
  InitWritten b = OptionalBy (IsWrittenExpr ps) 16 b × (stay_optional b ≡ true)

  init-written : (n : ℕ) (b : Optional) (ts : List Tok) → IsInit ps n b ts → InitWritten b
  init-written n b ts h = subst InitWritten (sym h.is) (by h.value h.formed) where
    by : (o : Option Block) → form.Maybe (form.AfterWord (codes "init") (form.Tested stay (IsBlock ps n))) o ts → InitWritten (or_unwritten o)
    by None g = (tt, refl)
    by (Some a) g = (block-written n a g.back g.formed.formed, g.formed.passes)

  work-written : (n : ℕ) (w : ParamWork) (ts : List Tok) → IsWork ps n w ts → AllBy (IsWrittenExpr ps) 16 w.block
  work-written n w ts h =
      subst (λ (v : ParamWork). AllBy (IsWrittenExpr ps) 16 v.block) (sym h.is) (block-written n h.value.1 h.formed.back h.formed.second)

  prework-written : (n : ℕ) (o : Option ParamWork) (ts : List Tok) → IsPrework ps n o ts → IsWrittenPrework ps o
  prework-written n None ts h = tt
  prework-written n (Some w) ts h = work-written n w h.back h.formed

  filter-written : (n : ℕ) (t : ParamFilter) (ts : List Tok) → InFilter ps n t ts → IsWrittenFilter ps t
  filter-written n t ts h =
      let v = h.value in
      let rest = h.formed.second in
      let works = rest.second in
      let i = init-written n v.1.0 rest.front rest.first in
      subst (IsWrittenFilter ps) (sym h.is) (record {
        fields = fields-own v.0 h.formed.front h.formed.first;
        init = i.0;
        stays = i.1;
        prework = prework-written n v.1.1.0 works.front works.first;
        work = work-written n v.1.1.1 works.second.back works.second.formed;
      })

-- UNITS

brief : (n : ℕ) → nat_le n 32 ≡ true → n ≤ 32
brief n h = grind (arith, nat_tests, h)

abbrev BodyWritten : List (List ℕ) → Body → Type 0
BodyWritten ps b = IsWrittenBody ps b × IsFitBody b

both-written : (ps : List (List ℕ)) (n : ℕ) (b : Body) (ts : List Tok) → InBoth n b ts → BodyWritten ps b
both-written ps n b ts h = subst (BodyWritten ps) (sym h.is) (tt, each-fit n h.value.1.0 h.formed.second.front h.formed.second.first)

body-written : (n : ℕ) (w : List ℕ) (ps : List (List ℕ)) (b : Body) (ts : List Tok) → BodyAfter n w ps b ts → BodyWritten ps b
body-written n w ps b ts h =
    chosen (BodyWritten ps b) _ _ (bytes_eq w (codes "filter")) b ts h
    (λ e f. subst (BodyWritten ps) (sym f.is) (enclosed (IsWrittenFilter ps) _ _ _ n f.value ts f.formed (λ m us g. filter-written ps m f.value us g), tt))
    (λ h.
    chosen (BodyWritten ps b) _ _ (bytes_eq w (codes "pipeline")) b ts h
    (λ e f. subst (BodyWritten ps) (sym f.is) (tt, pipe-fit n f.value ts f.formed)) (λ h.
    chosen (BodyWritten ps b) _ _ (bytes_eq w (codes "splitjoin")) b ts h
    (λ e f. enclosed (BodyWritten ps) _ _ _ n b ts f (λ m us g. both-written ps m b us g)) (λ h. absurd h)))

abbrev UnitWritten : UnitForm → Type 0
UnitWritten u = IsWrittenUnit u × IsFitBody u.body

unit-written : (u : UnitForm) (ts : List Tok) → IsUnit u ts → UnitWritten u
unit-written u ts h =
    let k = h.formed.formed.formed in
    let v = k.formed.value in
    let name = k.formed.formed.first in
    let parts = k.formed.formed.second in
    let b = body-written 128 k.word v.1.0 v.1.1 parts.back parts.second in
    subst UnitWritten (sym k.formed.is) (record { name = name.formed.passes; short = brief (length v.0) name.passes; body = b.0 }, b.1)

units-written : (p : ParamProgram) (us : List (List Tok)) → AreUnits p us → IsFitProgram p × IsWrittenProgram p
units-written [] [] h = (tt, tt)
units-written [] (u ∷ us) h = absurd h
units-written (d ∷ ds) [] h = absurd h
units-written (d ∷ ds) (u ∷ us) h =
    let a = unit-written d u h.0 in
    let b = units-written ds us h.1 in
    ((a.1, b.0), (a.0, b.1))

-- the law
pub texts_are_written : TextsAreWritten
texts_are_written text p t = units-written p _ t.formed
