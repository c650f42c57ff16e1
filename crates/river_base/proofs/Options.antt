-- Options and results.
use Rattle.std.proofs.Common.{◌≡◌, Option, Some, None, Result, Ok, Err, sym, ◌∙◌}

-- what is not there has no value
pub none_some : {A : Type 0} (o : Option A) (x : A) → o ≡ None → o ≡ Some x → ⊥
none_some o x h g = cc (sym h ∙ g)

-- an answer is one value
pub ok_same : {A B : Type 0} (r : Result A B) (x y : A) → r ≡ Ok x → r ≡ Ok y → x ≡ y
ok_same r x y e h = cc

-- what is refused is not accepted
pub not_ok : {A B : Type 0} (b : B) (a : A) → Err b ≡ Ok a → ⊥
not_ok b a h = cc
