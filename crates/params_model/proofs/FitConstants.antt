-- The grammar has no constant with a number that is no value.
use Rattle.std.proofs.Common.{◌≡◌, ℕ, suc, List, [], ◌∷◌, Option, Some, None, refl, sym, subst}
use Rattle.std.specs.Prelude.{codes}
use Rattle.std.specs.List.{AllByRecursion}
use Rattle.std.specs.Str.{bytes_eq}
use Rattle.text_tokens.specs.Tok.{Tok}
use Rattle.text_forms.specs.Forms as form
use Rattle.text_blocks.proofs.Every.{chosen, enclosed, IfThere, every-block, every-rest}
use Rattle.streamit_text.specs.Blocks.{Head, HeadAfter, IsHead}
use Rattle.streamit_text.specs.Expressions.{IsExpression}
use Rattle.streamit_text.specs.Grammar.{on_some}
use Rattle.streamit_text.specs.Leaves.{IsLeaf}
use Rattle.streamit_text.specs.Tree.{Expression}
use Rattle.streamit_text.specs.Words.{is_own}
use Rattle.params_text.specs.Grammar.{Rate, push, pop, peek, IsRate, Rates, unwritten, fresh, with_rate, rates_in, AreRates, IsWork, IsPrework, InFilter, IsStep, IsPipe, SplitAfter, InBoth, BodyAfter, IsUnit, AreUnits}
use Rattle.params_text.specs.Program.{ParamWork, ParamFilter, Step, Steps, steps_in_turn, Dealing, Body, UnitForm, ParamProgram}
use Rattle.params_text.specs.Steps.{or_none, StepHead, StepAfter, style, holes}
use Rattle.params_text.specs.Steps as step
use Rattle.params_model.specs.Laws.{HasValues, AreFit}
use Rattle.params_model.specs.Constants.{IsFitOption, AreFitOption, IsFitDealing, IsFitWork, IsFitPrework, IsFitFilter, HasFitConstants, HaveFitConstants, IsFitUnit, AreFitUnits, ConstantsAreFit}
use Rattle.params_model.proofs.Readable.{term-told, leaf-told, told-fit, constant-fit, constants-fit}

-- STEPS

expr-fit : (n : ℕ) (t : Expression) (ts : List Tok) → IsExpression IsLeaf n t ts → HasValues t
expr-fit n t ts h = told-fit t (term-told IsLeaf leaf-told n t ts h)

abbrev HeadFit : Head → Type 0
HeadFit h = HasValues h.low × HasValues h.high

after-fit : (n : ℕ) (name : List ℕ) (v : Head) (ts : List Tok) → HeadAfter (IsExpression IsLeaf) n name v ts → HeadFit v
after-fit n name v ts h =
    let from = h.formed.formed.first in
    let to = h.formed.formed.second.formed.second.first in
    subst HeadFit (sym h.is) (expr-fit n h.value.0 from.front from.formed, expr-fit n h.value.1.1.0 to.front to.formed)

head-fit : (n : ℕ) (v : Head) (ts : List Tok) → IsHead (IsExpression IsLeaf) n v ts → HeadFit v
head-fit n v ts h =
    let g = h.formed in
    chosen (HeadFit v) _ _ (is_own g.word) v g.back g.formed (λ e f. after-fit n g.word v g.back f) (λ f. absurd f)

abbrev Once : ℕ → Step → Type 0
Once k s = HasFitConstants s

abbrev All : ℕ → Steps → Type 0
All k ss = HaveFitConstants ss

branch-has : (k n : ℕ) (c : Step) (ts : List Tok) (a : Steps) (o : Option Steps) → ⊥ → All k a → IfThere (All k) o → Once (suc k) c
branch-has k n c ts a o h x y = absurd h

loop-has : (k n : ℕ) (w : List ℕ) (h : Head) (ts : List Tok) (b : Steps) → StepHead n h ts → All k b → Once (suc k) (step.looped h b)
loop-has k n w h ts b f x =
    let g = enclosed HeadFit _ _ _ n h ts f.formed (λ m us e. head-fit m h us e) in
    (g.0, g.1, x)

add-has : (k n : ℕ) (w : List ℕ) (v : Step) (ts : List Tok) → StepAfter n w v ts → Once k v
add-has k n w v ts h =
    chosen (Once k v) _ _ (bytes_eq w (codes "add")) v ts h
    (λ e f. subst HasFitConstants (sym f.is) (constants-fit n f.value.1 f.formed.second.front f.formed.second.formed)) (λ f. absurd f)

order-has : (k : ℕ) (ss : List Step) → AllByRecursion (Once k) ss → All k (steps_in_turn ss)
order-has k [] h = tt
order-has k (s ∷ ss) h = (h.0, order-has k ss h.1)

pipe-has : (n : ℕ) (ss : Steps) (ts : List Tok) → IsPipe n ss ts → HaveFitConstants ss
pipe-has n ss ts h = every-block style holes Once All branch-has loop-has add-has order-has 16 n ss ts h

step-has : (n : ℕ) (s : Step) (ts : List Tok) → IsStep n s ts → HasFitConstants s
step-has n s ts h = every-rest style holes Once All branch-has loop-has add-has order-has 16 n h.word s h.back h.formed

each-has : (n : ℕ) (ss : List Step) (ts : List Tok) → form.Many (IsStep n) ss ts → HaveFitConstants (steps_in_turn ss)
each-has n [] ts h = tt
each-has n (s ∷ ss) ts h = (step-has n s h.0 h.3, each-has n ss h.1 h.4)

-- RATES

abbrev RateFit : Rate → Type 0
RateFit (push c) = HasValues c
RateFit (pop c) = HasValues c
RateFit (peek c) = HasValues c

abbrev RatesFit : Rates → Type 0
RatesFit r = IsFitOption r.push × IsFitOption r.pop × IsFitOption r.peek

rate-fit : (n : ℕ) (r : Rate) (ts : List Tok) → IsRate n r ts → RateFit r
rate-fit n r ts h =
    let w = h.word in
    chosen (RateFit r) _ _ (bytes_eq w (codes "push")) r h.back h.formed (λ e f. subst RateFit (sym f.is) (constant-fit n f.value h.back f.formed)) (λ g.
    chosen (RateFit r) _ _ (bytes_eq w (codes "pop")) r h.back g (λ e f. subst RateFit (sym f.is) (constant-fit n f.value h.back f.formed)) (λ g.
    chosen (RateFit r) _ _ (bytes_eq w (codes "peek")) r h.back g (λ e f. subst RateFit (sym f.is) (constant-fit n f.value h.back f.formed)) (λ g. absurd g)))

fresh-fit : (o : Option Expression) (r q : Rates) → RatesFit r → fresh o r ≡ Some q → RatesFit q
fresh-fit None r q h e = let same : r ≡ q = cc in subst RatesFit same h
fresh-fit (Some c) r q h e = absurd (cc e)

with-fit : (r q : Rates) (x : Rate) → RatesFit r → RateFit x → with_rate r x ≡ Some q → RatesFit q
with-fit r q (push c) h g e = fresh-fit r.push (record r { push = Some c }) q (g, h.1, h.2) e
with-fit r q (pop c) h g e = fresh-fit r.pop (record r { pop = Some c }) q (h.0, g, h.2) e
with-fit r q (peek c) h g e = fresh-fit r.peek (record r { peek = Some c }) q (h.0, h.1, g) e

some-of : (P : Type 0) (o : Option Rates) (f : Rates → Option Rates) (q : Rates) → on_some o f ≡ Some q → ((m : Rates) → o ≡ Some m → f m ≡ Some q → P) → P
some-of P None f q e k = absurd (cc e)
some-of P (Some m) f q e k = k m refl e

in-fit : (n : ℕ) (xs : List Rate) (r q : Rates) (ts : List Tok) → RatesFit r → form.Many (IsRate n) xs ts → rates_in r xs ≡ Some q → RatesFit q
in-fit n [] r q ts h g e = let same : r ≡ q = cc in subst RatesFit same h
in-fit n (x ∷ xs) r q ts h g e =
    some-of (RatesFit q) (with_rate r x) (λ m. rates_in m xs) q e
    (λ m is f. in-fit n xs m q g.1 (with-fit r m x h (rate-fit n x g.0 g.3) is) g.4 f)

rates-fit : (n : ℕ) (r : Rates) (ts : List Tok) → AreRates n r ts → RatesFit r
rates-fit n r ts h = in-fit n h.value unwritten r ts (tt, tt, tt) h.formed h.is

work-fit : (ps : List (List ℕ)) (n : ℕ) (w : ParamWork) (ts : List Tok) → IsWork ps n w ts → IsFitWork w
work-fit ps n w ts h =
    let r = rates-fit n h.value.0 h.formed.front h.formed.first in
    subst IsFitWork (sym h.is) (record { push = r.0; pop = r.1; peek = r.2 })

prework-fit : (ps : List (List ℕ)) (n : ℕ) (o : Option ParamWork) (ts : List Tok) → IsPrework ps n o ts → IsFitPrework o
prework-fit ps n None ts h = tt
prework-fit ps n (Some w) ts h = work-fit ps n w h.back h.formed

filter-fit : (ps : List (List ℕ)) (n : ℕ) (t : ParamFilter) (ts : List Tok) → InFilter ps n t ts → IsFitFilter t
filter-fit ps n t ts h =
    let v = h.value in
    let works = h.formed.second.second in
    subst IsFitFilter (sym h.is) (record {
      prework = prework-fit ps n v.1.1.0 works.front works.first;
      work = work-fit ps n v.1.1.1 works.second.back works.second.formed;
    })

-- WEIGHTS

weights-fit : (o : Option (List Expression)) → AreFit (or_none o) → AreFitOption o
weights-fit None h = tt
weights-fit (Some cs) h = h

split-fit : (n : ℕ) (w : List ℕ) (d : Dealing) (ts : List Tok) → SplitAfter n w d ts → IsFitDealing d
split-fit n w d ts h =
    chosen (IsFitDealing d) _ _ (bytes_eq w (codes "duplicate")) d ts h (λ e f. subst IsFitDealing (sym f.is) tt) (λ g.
    chosen (IsFitDealing d) _ _ (bytes_eq w (codes "roundrobin")) d ts g
    (λ e f. subst IsFitDealing (sym f.is) (weights-fit f.value (constants-fit n f.value ts f.formed))) (λ g. absurd g))

both-fit : (n : ℕ) (b : Body) (ts : List Tok) → InBoth n b ts → IsFitUnit b
both-fit n b ts h =
    let v = h.value in
    let split = h.formed.first.formed.formed in
    let rest = h.formed.second in
    let join = rest.second.formed.formed in
    subst IsFitUnit (sym h.is) (
      split-fit n split.word v.0 split.back split.formed,
      each-has n v.1.0 rest.front rest.first,
      weights-fit v.1.1 (constants-fit n v.1.1 join.front join.formed),
    )

-- UNITS

body-fit : (n : ℕ) (w : List ℕ) (ps : List (List ℕ)) (b : Body) (ts : List Tok) → BodyAfter n w ps b ts → IsFitUnit b
body-fit n w ps b ts h =
    chosen (IsFitUnit b) _ _ (bytes_eq w (codes "filter")) b ts h
    (λ e f. subst IsFitUnit (sym f.is) (enclosed IsFitFilter _ _ _ n f.value ts f.formed (λ m us g. filter-fit ps m f.value us g))) (λ h.
    chosen (IsFitUnit b) _ _ (bytes_eq w (codes "pipeline")) b ts h (λ e f. subst IsFitUnit (sym f.is) (pipe-has n f.value ts f.formed)) (λ h.
    chosen (IsFitUnit b) _ _ (bytes_eq w (codes "splitjoin")) b ts h (λ e f. enclosed IsFitUnit _ _ _ n b ts f (λ m us g. both-fit m b us g)) (λ h. absurd h)))

unit-fit : (u : UnitForm) (ts : List Tok) → IsUnit u ts → IsFitUnit u.body
unit-fit u ts h =
    let k = h.formed.formed.formed in
    let v = k.formed.value in
    let parts = k.formed.formed.second in
    subst (λ (d : UnitForm). IsFitUnit d.body) (sym k.formed.is) (body-fit 128 k.word v.1.0 v.1.1 parts.back parts.second)

-- in units that tokens stand for, every constant is a value
pub units-fit : (p : ParamProgram) (us : List (List Tok)) → AreUnits p us → AreFitUnits p
units-fit [] [] h = tt
units-fit [] (u ∷ us) h = absurd h
units-fit (d ∷ ds) [] h = absurd h
units-fit (d ∷ ds) (u ∷ us) h = (unit-fit d u h.0, units-fit ds us h.1)

-- the law
pub constants_are_fit : ConstantsAreFit
constants_are_fit text p t = units-fit p _ t.formed
