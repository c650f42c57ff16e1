-- The printed text of expressions and bodies. Each operation stands in brackets of its own.
use Rattle.std.specs.Prelude.{ℕ, List, [], ◌∷◌, ◌++◌, map, codes}
use Rattle.std.specs.Fmt.{decimal, signed_decimal}
use Rattle.work_code.specs.declared.expr.BinOp.{BinOp}
use Rattle.work_code.specs.declared.expr.BinOp.TheVariants as op
use Rattle.work_code.specs.Term.{Term, Const, Input, Slot, Neg, Not, Bin}
use Rattle.work_code.specs.Steps.{Step, Steps, Set, Push, If, Done, Then}

abbrev pub sign_text : BinOp → List ℕ
sign_text op.Add = codes "+"
sign_text op.Sub = codes "-"
sign_text op.Mul = codes "*"
sign_text op.Quot = codes "/"
sign_text op.Rem = codes "%"
sign_text op.Eq = codes "=="
sign_text op.Ne = codes "!="
sign_text op.Lt = codes "<"
sign_text op.Le = codes "<="
sign_text op.Gt = codes ">"
sign_text op.Ge = codes ">="
sign_text op.And = codes "&&"
sign_text op.Or = codes "||"

abbrev pub text_of : Term → List ℕ
text_of (Const z) = signed_decimal z
text_of (Input place) = codes "input[" ++ (decimal place ++ codes "]")
text_of (Slot slot) = codes "slot[" ++ (decimal slot ++ codes "]")
text_of (Neg t) = codes "(-" ++ (text_of t ++ codes ")")
text_of (Not t) = codes "(!" ++ (text_of t ++ codes ")")
text_of (Bin o l r) = codes "(" ++ (text_of l ++ (codes " " ++ (sign_text o ++ (codes " " ++ (text_of r ++ codes ")")))))

-- each text behind a comma and a space
abbrev pub more_items : List (List ℕ) → List ℕ
more_items [] = []
more_items (item ∷ items) = codes ", " ++ (item ++ more_items items)

-- texts joined by a comma and a space
abbrev pub items_text : List (List ℕ) → List ℕ
items_text [] = []
items_text (item ∷ items) = item ++ more_items items

abbrev mutual
  pub step_text : Step → List ℕ
  step_text (Set slot value) = codes "slot[" ++ (decimal slot ++ (codes "] = " ++ (text_of value ++ codes ";")))
  step_text (Push port values) = codes "push " ++ (decimal port ++ (codes " (" ++ (items_text (map text_of values) ++ codes ");")))
  step_text (If cond when otherwise) = codes "if (" ++ (text_of cond ++ (codes ") " ++ (body_text when ++ else_text otherwise)))

  -- the statements between braces
  pub body_text : Steps → List ℕ
  body_text Done = codes "{ }"
  body_text (Then s ss) = codes "{ " ++ (step_text s ++ (more_text ss ++ codes " }"))

  -- each statement behind a space
  pub more_text : Steps → List ℕ
  more_text Done = []
  more_text (Then s ss) = codes " " ++ (step_text s ++ more_text ss)

  -- an empty else is not printed
  pub else_text : Steps → List ℕ
  else_text Done = []
  else_text (Then s ss) = codes " else { " ++ (step_text s ++ (more_text ss ++ codes " }"))
