-- The printed text of statements.
use Rattle.std.proofs.Common.{◌≡◌, List, [], ◌∷◌, ◌++◌, refl, ap, ◌∙◌, append_assoc}
use Rattle.std.specs.Prelude.{ℕ, codes}
use Rattle.std.proofs.Common.{map}
use Rattle.work_code.specs.Steps.{Step, Steps, Done, Then, in_turn, both_steps, step, steps, statements, step_at, steps_at}
use Rattle.work_code.specs.declared.code.Stmt.{Stmt}
use Rattle.work_code.specs.declared.code.Stmts.{Stmts}
use Rattle.work_code.specs.declared.code.Stmt.TheFolds.{fold_out-Stmts}
use Rattle.work_code.specs.Printed.{step_text, body_text, more_text, else_text}

-- a body is its statements between braces
pub body_text-is : (ss : Steps) → codes "{" ++ (more_text ss ++ codes " }") ≡ body_text ss
body_text-is Done = refl
body_text-is (Then s ss) = ap (λ (l : List ℕ). codes "{ " ++ l) (append_assoc (step_text s) (more_text ss) (codes " }"))

pub else_text-is : (all : List Step) → (all ≡ [] → ⊥) → codes " else " ++ body_text (in_turn all) ≡ else_text (in_turn all)
else_text-is [] more = absurd (more refl)
else_text-is (s ∷ ss) more = refl

pub else_text-none : (all : List Step) → all ≡ [] → else_text (in_turn all) ≡ []
else_text-none all none = ap (λ (l : List Step). else_text (in_turn l)) none

-- texts appended one after another are one text
pub two : (old a b all x y : List ℕ) → x ≡ old ++ a → y ≡ x ++ b → a ++ b ≡ all → y ≡ old ++ all
two old a b all x y first second is = second ∙ ap (λ (l : List ℕ). l ++ b) first ∙ append_assoc old a b ∙ ap (λ (l : List ℕ). old ++ l) is

-- three texts that are appended one after another
pub three : (old a b c all x y z : List ℕ) → x ≡ old ++ a → y ≡ x ++ b → z ≡ y ++ c → a ++ (b ++ c) ≡ all → z ≡ old ++ all
three old a b c all x y z first second third is =
    third ∙ ap (λ (l : List ℕ). l ++ c) (two old a b (a ++ b) x y first second refl) ∙ append_assoc old (a ++ b) c
    ∙ ap (λ (l : List ℕ). old ++ l) (append_assoc a b c ∙ is)

-- the tree of a list of statements is that of its statements in turn
pub steps-is : (all : Stmts) → steps all ≡ in_turn (map step (statements all))
steps-is all = fold_out-Stmts Step Steps step_at steps_at all

-- lists of statements one behind the other
pub joined-in_turn : (xs ys : List Step) → both_steps (in_turn xs) (in_turn ys) ≡ in_turn (xs ++ ys)
joined-in_turn [] ys = refl
joined-in_turn (x ∷ xs) ys = ap (Then x) (joined-in_turn xs ys)

-- an else that is not empty is printed
pub else_of : (all : Stmts) → (statements all ≡ [] → ⊥) → codes " else " ++ body_text (steps all) ≡ else_text (steps all)
else_of all more = rw (steps-is all) (else_text-is (map step (statements all)) (some (statements all) more)) where
  some : (ss : List Stmt) → (ss ≡ [] → ⊥) → map step ss ≡ [] → ⊥
  some [] m e = m refl
  some (s ∷ ss) m e = cc
