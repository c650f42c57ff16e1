-- Expressions, read part by part.
use Rattle.std.proofs.Common.{◌≡◌, ℕ, ◌+◌, Result, Ok, Err, sym, ap, ◌∙◌, subst, Global, Box}
use Rattle.std.specs.Prelude.{OnOk}
use Rattle.streamit_text.specs.declared.tree.Expr.{Expr, fold-roll-Expr}
use Rattle.streamit_text.specs.declared.tree.Expr as written
use Rattle.streamit_text.specs.declared.tree.Expr.TheVariants.{rolls-Neg, rolls-Not, rolls-Bin}
use Rattle.streamit_text.specs.declared.tree.Expr.TheOpen as part
use Rattle.streamit_text.specs.Tree.{Expression, expression, expression_layer}
use Rattle.streamit_text.specs.Tree as source
use Rattle.work_code.specs.declared.expr.BinOp.{BinOp}
use Rattle.work_code.specs.declared.expr.Expr as built
use Rattle.work_code.specs.declared.expr.Expr.TheVariants as made
use Rattle.work_code.specs.declared.expr.Expr.TheOpen as layer
use Rattle.work_code.specs.Term.{Term, term, term_layer}
use Rattle.work_code.specs.Term as tree
use Rattle.streamit_model.specs.Meaning.{pops}
use Rattle.streamit_model.specs.Elaborate.{Scope, on_ok, constant, peeked, term_of}
use Rattle.streamit_model.specs.declared.fault.Fault.{Fault}
use Rattle.streamit_unroll.specs.declared.refused.RefusedUnit.{RefusedUnit}
use Rattle.streamit_unroll.specs.View.{IsWhyUnit, Judges}
use Rattle.streamit_unroll.proofs.SoFar.{good, tells_more}

-- the trees of expressions that are written
pub expression-neg : (t : Box Expr Global) → expression (written.Neg t) ≡ source.Neg (expression t.value)
expression-neg t = ap expression (sym (rolls-Neg t)) ∙ fold-roll-Expr Expression expression_layer (part.Neg t)

-- `!` before a tree
pub expression-not : (t : Box Expr Global) → expression (written.Not t) ≡ source.Not (expression t.value)
expression-not t = ap expression (sym (rolls-Not t)) ∙ fold-roll-Expr Expression expression_layer (part.Not t)

-- an operation on two trees
pub expression-bin : (o : BinOp) (l r : Box Expr Global) → expression (written.Bin o l r) ≡ source.Bin o (expression l.value) (expression r.value)
expression-bin o l r = ap expression (sym (rolls-Bin o l r)) ∙ fold-roll-Expr Expression expression_layer (part.Bin o l r)

-- the trees of expressions that are built
pub term-neg : (t : Box built.Expr Global) → term (built.Neg t) ≡ tree.Neg (term t.value)
term-neg t = ap term (sym (made.rolls-Neg t)) ∙ built.fold-roll-Expr Term term_layer (layer.Neg t)

pub term-not : (t : Box built.Expr Global) → term (built.Not t) ≡ tree.Not (term t.value)
term-not t = ap term (sym (made.rolls-Not t)) ∙ built.fold-roll-Expr Term term_layer (layer.Not t)

-- an operation that is built of two
pub term-bin : (o : BinOp) (l r : Box built.Expr Global) → term (built.Bin o l r) ≡ tree.Bin o (term l.value) (term r.value)
term-bin o l r = ap term (sym (made.rolls-Bin o l r)) ∙ built.fold-roll-Expr Term term_layer (layer.Bin o l r)

-- an answer that is a fault
pub judged_err : {X A : Type 0} (view : X → A) (result : Result X RefusedUnit) (f : RefusedUnit) (r : Result A Fault) → result ≡ Err f → IsWhyUnit f r
    → Judges view result r
judged_err view result f r is t = subst (λ q. Judges view q r) (sym is) t

module _ (e : ℕ) (sc : Scope) (k : ℕ) where
  -- an answer about an expression that is the same one
  pub judged_as : (result : Result built.Expr RefusedUnit) {c d : Expression} → c ≡ d → Judges term result (term_of e sc d k)
      → Judges term result (term_of e sc c k)
  judged_as result is h = subst (λ c. Judges term result (term_of e sc c k)) (sym is) h

  -- as many items are popped, where the trees are the same
  pub popped_as : (result : Result built.Expr RefusedUnit) (n : ℕ) {c d : Expression} → c ≡ d → OnOk result (n ≡ k + pops d) → OnOk result (n ≡ k + pops c)
  popped_as result n is h = subst (λ c. OnOk result (n ≡ k + pops c)) (sym is) h

  module _ (whole t : Expression) where
    -- a fault of the place that is looked at is that of the whole
    pub peek_fault : whole ≡ source.Peek t → (f : RefusedUnit) → IsWhyUnit f (constant sc t) → IsWhyUnit f (term_of e sc whole k)
    peek_fault is f h = tells_more f (constant sc t) (term_of e sc whole k) (λ g q. ap (λ c. term_of e sc c k) is ∙ ap (λ r. on_ok r (peeked e k)) q) h

    -- so is one behind `-`
    pub neg_fault : whole ≡ source.Neg t → (f : RefusedUnit) → IsWhyUnit f (term_of e sc t k) → IsWhyUnit f (term_of e sc whole k)
    neg_fault is f h = tells_more f (term_of e sc t k) (term_of e sc whole k)
        (λ g q. ap (λ c. term_of e sc c k) is ∙ ap (λ r. on_ok r (λ a. good (tree.Neg a))) q) h

    -- and one behind `!`
    pub not_fault : whole ≡ source.Not t → (f : RefusedUnit) → IsWhyUnit f (term_of e sc t k) → IsWhyUnit f (term_of e sc whole k)
    not_fault is f h = tells_more f (term_of e sc t k) (term_of e sc whole k)
        (λ g q. ap (λ c. term_of e sc c k) is ∙ ap (λ r. on_ok r (λ a. good (tree.Not a))) q) h

    -- what is read behind `-` is built behind it
    pub neg_read : whole ≡ source.Neg t → (v : built.Expr) (b : Box built.Expr Global) → b.value ≡ v → term_of e sc t k ≡ Ok (term v)
        → term_of e sc whole k ≡ Ok (term (built.Neg b))
    neg_read is v b eb h =
        ap (λ c. term_of e sc c k) is ∙ ap (λ r. on_ok r (λ a. good (tree.Neg a))) h ∙ ap (λ a. good (tree.Neg (term a))) (sym eb) ∙ ap good (sym (term-neg b))

    -- and so behind `!`
    pub not_read : whole ≡ source.Not t → (v : built.Expr) (b : Box built.Expr Global) → b.value ≡ v → term_of e sc t k ≡ Ok (term v)
        → term_of e sc whole k ≡ Ok (term (built.Not b))
    not_read is v b eb h =
        ap (λ c. term_of e sc c k) is ∙ ap (λ r. on_ok r (λ a. good (tree.Not a))) h ∙ ap (λ a. good (tree.Not (term a))) (sym eb) ∙ ap good (sym (term-not b))

  -- an operation, from left to right
  module _ (o : BinOp) (l r : Expression) where
    -- a fault of the left side is that of the whole
    pub left_fault : (f : RefusedUnit) → IsWhyUnit f (term_of e sc l k) → IsWhyUnit f (term_of e sc (source.Bin o l r) k)
    left_fault f h =
        tells_more f (term_of e sc l k) (term_of e sc (source.Bin o l r) k)
        (λ g q. ap (λ p. on_ok p (λ a. on_ok (term_of e sc r (k + pops l)) (λ b. good (tree.Bin o a b)))) q) h

    module _ (a : Term) (m : ℕ) (hl : term_of e sc l k ≡ Ok a) (hm : m ≡ k + pops l) where
      right_on : term_of e sc (source.Bin o l r) k ≡ on_ok (term_of e sc r m) (λ b. good (tree.Bin o a b))
      right_on =
          ap (λ p. on_ok p (λ a. on_ok (term_of e sc r (k + pops l)) (λ b. good (tree.Bin o a b)))) hl
          ∙ ap (λ n. on_ok (term_of e sc r n) (λ b. good (tree.Bin o a b))) (sym hm)

      -- a fault of the right side is that of the whole, where the left one is read
      pub right_fault : (f : RefusedUnit) → IsWhyUnit f (term_of e sc r m) → IsWhyUnit f (term_of e sc (source.Bin o l r) k)
      right_fault f h = tells_more f (term_of e sc r m) (term_of e sc (source.Bin o l r) k)
          (λ g q. right_on ∙ ap (λ p. on_ok p (λ b. good (tree.Bin o a b))) q) h

      -- where both are read, the operation is built of both
      pub bin_read : (b : Term) → term_of e sc r m ≡ Ok b → term_of e sc (source.Bin o l r) k ≡ Ok (tree.Bin o a b)
      bin_read b h = right_on ∙ ap (λ p. on_ok p (λ b. good (tree.Bin o a b))) h
