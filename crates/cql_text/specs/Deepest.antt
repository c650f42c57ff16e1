-- A value is as deep as the deepest value in it and one more.
use Rattle.std.specs.Prelude.{◌≡◌, suc, refl}
use Rattle.text_forms.specs.Deep.{IsDeeper}
use Rattle.cql_text.specs.Tree.{Scalar, scalar_depth}
use Rattle.cql_text.specs.Values.{syntax, signed}
use Rattle.cql_text.specs.declared.operator.Sign.{Sign}
use Rattle.cql_text.specs.declared.operator.Sign.TheVariants as sign

marked-deeper : (p : Sign) (t : Scalar) → scalar_depth (signed p t) ≡ suc (scalar_depth t)
marked-deeper sign.Minus t = refl
marked-deeper sign.Not t = refl

pub deepest : IsDeeper syntax
deepest = record { join = λ o a b. refl; mark = marked-deeper }
