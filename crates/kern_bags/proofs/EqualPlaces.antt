-- Places that a condition holds equal.
use Rattle.std.proofs.Common.{◌≡◌, ◌<◌, ◌≤◌, ℕ, Bool, true, false, ◌&&◌, [], ◌∷◌, Global, Box, refl, sym, ap, ◌∙◌, ⊎_elim, inl, inr, subst}
use Rattle.std.specs.Prelude.{Option, None, Some, IfNone, IfSome, All}
use Rattle.std.proofs.lemmas.List.Elements.{All-append, All-cons, All-nil}
use Rattle.std.specs.Ordering.{int_eq}
use Rattle.std.proofs.lemmas.Bool.{and_parts}
use Rattle.river_base.proofs.Tests.{int_eq_by}
use Rattle.work_code.specs.declared.expr.BinOp.TheVariants as op
use Rattle.work_code.specs.declared.expr.BinOp.{BinOp}
use Rattle.work_code.specs.declared.expr.Expr.{Expr, fold-roll-Expr, fold_out-Expr}
use Rattle.work_code.specs.declared.expr.Expr as view
use Rattle.work_code.specs.declared.expr.Expr.TheVariants as expr
use Rattle.work_code.specs.declared.expr.Expr.TheOpen as open_expr
use Rattle.work_code.specs.declared.expr.Expr.TheOpen.{Expr-F}
use Rattle.work_code.specs.Term.{Term, Const, Input, Slot, Neg, Not, Bin, term, term_layer}
use Rattle.work_code.specs.Value.{val, is_true, truth}
use Rattle.kern_changes.specs.Keyed.{at_place}
use Rattle.kern_bags.specs.Joined.{ComparesAcross, HoldsEqual, IsAcross, NoneComparesAcross, conjuncts}

true_truth : (b : Bool) → is_true (truth b) ≡ b
true_truth true = refl
true_truth false = refl

-- what one part of a conjunction holds equal, the whole does
pub and_left : (left : ℕ) (a b : Term) (i j : ℕ) → HoldsEqual left a i j → HoldsEqual left (Bin op.And a b) i j
and_left left a b i j h = record {
  first = h.first;
  second = h.second;
  same = λ row p. h.same row (and_parts (is_true (val a row [])) (is_true (val b row [])) (sym (true_truth (is_true (val a row []) && is_true (val b row []))) ∙ p)).0;
  reads = λ n s w. h.reads n s w.0;
}

pub and_right : (left : ℕ) (a b : Term) (i j : ℕ) → HoldsEqual left b i j → HoldsEqual left (Bin op.And a b) i j
and_right left a b i j h = record {
  first = h.first;
  second = h.second;
  same = λ row p. h.same row (and_parts (is_true (val a row [])) (is_true (val b row [])) (sym (true_truth (is_true (val a row []) && is_true (val b row []))) ∙ p)).1;
  reads = λ n s w. h.reads n s w.1;
}

direct : (left i j : ℕ) → i < left → left ≤ j → HoldsEqual left (Bin op.Eq (Input i) (Input j)) i j
direct left i j f s = record {
  first = f;
  second = s;
  same = λ row p. int_eq_by (at_place i row) (at_place j row) (sym (true_truth (int_eq (at_place i row) (at_place j row))) ∙ p);
  reads = λ n m w. w.1;
}

turned_round : (left i j : ℕ) → i < left → left ≤ j → HoldsEqual left (Bin op.Eq (Input j) (Input i)) i j
turned_round left i j f s = record {
  first = f;
  second = s;
  same = λ row p. sym (int_eq_by (at_place j row) (at_place i row) (sym (true_truth (int_eq (at_place j row) (at_place i row))) ∙ p));
  reads = λ n m w. w.0;
}

is_input : (t : Term) (a : Option ℕ) (i : ℕ) → a ≡ Some i → IfSome a (λ p. t ≡ Input p) → t ≡ Input i
is_input t a i e h = subst (λ o. IfSome o (λ p. t ≡ Input p)) e h

-- a test of two inputs for equality holds their places equal
pub equality : (left : ℕ) (t u : Term) (a b : Option ℕ) (places : ℕ × ℕ) → IfSome a (λ p. t ≡ Input p) → IfSome b (λ p. u ≡ Input p)
    → IsAcross a b left places → HoldsEqual left (Bin op.Eq t u) places.0 places.1
equality left t u a b places h g s = ⊎_elim
    (λ e. subst (λ x. HoldsEqual left (Bin op.Eq x u) places.0 places.1) (sym (is_input t a places.0 e.0 h))
    (subst (λ x. HoldsEqual left (Bin op.Eq (Input places.0) x) places.0 places.1) (sym (is_input u b places.1 e.1 g))
    (direct left places.0 places.1 s.first s.second)))
    (λ e. subst (λ x. HoldsEqual left (Bin op.Eq x u) places.0 places.1) (sym (is_input t a places.1 e.0 h))
    (subst (λ x. HoldsEqual left (Bin op.Eq (Input places.1) x) places.0 places.1) (sym (is_input u b places.0 e.1 g))
    (turned_round left places.0 places.1 s.first s.second)))
    s.are

-- what follows of what is there
pub some_weaker : {A : Type 0} {P Q : A → Type 0} (o : Option A) → ((x : A) → P x → Q x) → IfSome o P → IfSome o Q
some_weaker None f h = tt
some_weaker (Some x) f h = f x h

-- the tree of an operation
pub term_bin : (o : BinOp) (a b : Box Expr Global) → term (expr.Bin o a b) ≡ Bin o (term a.value) (term b.value)
term_bin o a b = ap term (sym (expr.rolls-Bin o a b)) ∙ fold-roll-Expr Term term_layer (open_expr.Bin o a b)

-- WHERE THERE IS NO SUCH TEST

-- what is no input has no such tree
pub no_input : (e : Expr) → ((i : ℕ) → e ≡ expr.Input i → ⊥) → (place : ℕ) → term e ≡ Input place → ⊥
unfolding view.out-Expr denote.Hole.Carrier.out
no_input (expr.Input i) h place u = absurd (h i refl)
no_input e h place u = let f = fold_out-Expr Term term_layer e in cc

-- a condition that is one part, and no test of two places
alone : (left : ℕ) (t : Term) → conjuncts t ≡ t ∷ [] → (ComparesAcross left t → ⊥) → NoneComparesAcross left t
alone left t e h = subst (All (λ part. ComparesAcross left part → ⊥)) (sym e)
    (All-cons (λ part. ComparesAcross left part → ⊥) t [] h (All-nil (λ part. ComparesAcross left part → ⊥)))

-- a tree that is no operation is one part, and no test
leaf : (left : ℕ) (e : Expr) (t : Term) → term e ≡ t → conjuncts t ≡ t ∷ [] → ((o : BinOp) (a b : Term) → t ≡ Bin o a b → ⊥) → NoneComparesAcross left (term e)
leaf left e t is one h = subst (NoneComparesAcross left) (sym is)
    (alone left t one (λ w. ⊎_elim (h op.Eq (Input w.first) (Input w.second)) (h op.Eq (Input w.second) (Input w.first)) w.is))

by_layer : (left : ℕ) (l : Expr-F Expr) → ((o : BinOp) (a b : Box Expr Global) → view.roll-Expr l ≡ expr.Bin o a b → ⊥)
    → NoneComparesAcross left (term (view.roll-Expr l))
by_layer left (open_expr.Const z) h = leaf left _ (Const z) (fold-roll-Expr Term term_layer (open_expr.Const z)) refl (λ o a b e. cc e)
by_layer left (open_expr.Input i) h = leaf left _ (Input i) (fold-roll-Expr Term term_layer (open_expr.Input i)) refl (λ o a b e. cc e)
by_layer left (open_expr.Slot i) h = leaf left _ (Slot i) (fold-roll-Expr Term term_layer (open_expr.Slot i)) refl (λ o a b e. cc e)
by_layer left (open_expr.Neg x) h = leaf left _ (Neg (term x.value)) (fold-roll-Expr Term term_layer (open_expr.Neg x)) refl (λ o a b e. cc e)
by_layer left (open_expr.Not x) h = leaf left _ (Not (term x.value)) (fold-roll-Expr Term term_layer (open_expr.Not x)) refl (λ o a b e. cc e)
by_layer left (open_expr.Bin o a b) h = absurd (h o a b (expr.rolls-Bin o a b))

-- an expression that is no operation has no such test
pub no_operation : (left : ℕ) (e : Expr) → ((o : BinOp) (a b : Box Expr Global) → e ≡ expr.Bin o a b → ⊥) → NoneComparesAcross left (term e)
no_operation left e h =
    let is = view.roll-out-Expr e in
    subst (λ x. NoneComparesAcross left (term x)) is (by_layer left (view.out-Expr e) (λ o a b g. h o a b (sym is ∙ g)))

-- of two conditions of which none has such a test, the conjunction has none
pub and_none : (left : ℕ) (a b : Term) → NoneComparesAcross left a → NoneComparesAcross left b → NoneComparesAcross left (Bin op.And a b)
and_none left a b h g = All-append (λ part. ComparesAcross left part → ⊥) (conjuncts a) (conjuncts b) h g

-- the place of the input that a tree is, or it is none
pub record IsPlaceOf (t : Term) (o : Option ℕ) : Type 0 where
  pub some : IfSome o (λ place. t ≡ Input place)
  pub none : IfNone o ((place : ℕ) → t ≡ Input place → ⊥)

found : (t : Term) (o : Option ℕ) (i : ℕ) → IsPlaceOf t o → t ≡ Input i → o ≡ Some i
found t None i h e = absurd (h.none i e)
found t (Some p) i h e = let g : Input p ≡ Input i = sym h.some ∙ e in cc

same_left : (o : op.the_data) (t u v w : Term) → Bin o t u ≡ Bin o v w → t ≡ v
same_left o t u v w e = cc

same_right : (o : op.the_data) (t u v w : Term) → Bin o t u ≡ Bin o v w → u ≡ w
same_right o t u v w e = cc

-- a test for equality of which the sides are no two such places
pub no_equality : (left : ℕ) (t u : Term) (a b : Option ℕ) → IsPlaceOf t a → IsPlaceOf u b → ((places : ℕ × ℕ) → IsAcross a b left places → ⊥)
    → NoneComparesAcross left (Bin op.Eq t u)
no_equality left t u a b h g none = alone left (Bin op.Eq t u) refl (λ w. none (w.first, w.second) (record {
  first = w.below;
  second = w.not_below;
  are = ⊎_elim
      (λ e. inl (
        found t a w.first h (same_left op.Eq t u (Input w.first) (Input w.second) e),
        found u b w.second g (same_right op.Eq t u (Input w.first) (Input w.second) e),
      ))
      (λ e. inr (
        found t a w.second h (same_left op.Eq t u (Input w.second) (Input w.first) e),
        found u b w.first g (same_right op.Eq t u (Input w.second) (Input w.first) e),
      ))
      w.is;
}))

-- what follows where nothing is there
pub none_weaker : {A : Type 0} {P Q : Type 0} (o : Option A) → (P → Q) → IfNone o P → IfNone o Q
none_weaker None f h = f h
none_weaker (Some x) f h = tt
