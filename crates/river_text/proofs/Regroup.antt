-- Reading functions whose parts are grouped in another way.
use Rattle.std.proofs.Common.{◌≡◌, List, [], ◌∷◌, Bool, true, false, cond, Option, None, Some, refl}
use Rattle.text_tokens.specs.Tok.{Tok}
use Rattle.text_tokens.specs.declared.sign.Symbol.TheVariants as s
use Rattle.text_forms.specs.Parse.{count_at, short_name_at, then_parsed, then_rest, answer_at, both, after, seen, tested}
use Rattle.river_text.specs.Plans.{brackets, same_vars, made_op}
use Rattle.river_text.specs.ReadKernels.{two_at, four, braced_at}
use Rattle.river_text.specs.ReadPlans.{ports_at, op_from_at, op_at}

-- what is read behind a reading is read in it
pub read-read : {A B C : Type 0} (o : Option (A × List Tok)) (f : A → List Tok → Option (B × List Tok)) (g : B → List Tok → Option (C × List Tok))
    → then_parsed (then_parsed o f) g ≡ then_parsed o (λ a us. then_parsed (f a us) g)
read-read None f g = refl
read-read (Some read) f g = refl

-- readers one behind another, grouped otherwise
pub read-rest : {B C : Type 0} (o : Option (List Tok)) (f : List Tok → Option (B × List Tok)) (g : B → List Tok → Option (C × List Tok))
    → then_parsed (then_rest o f) g ≡ then_rest o (λ us. then_parsed (f us) g)
read-rest None f g = refl
read-rest (Some rest) f g = refl

-- what is read behind a choice of two readers
pub read-if : {A B : Type 0} (b : Bool) (x y : Option (A × List Tok)) (f : A → List Tok → Option (B × List Tok))
    → then_parsed (cond b x y) f ≡ cond b (then_parsed x f) (then_parsed y f)
read-if true x y f = refl
read-if false x y f = refl

-- what a choice of two readers answers
pub given-if : {A : Type 0} (b : Bool) (x y : Option A) (ts : List Tok) → answer_at (cond b x y) ts ≡ cond b (answer_at x ts) (answer_at y ts)
given-if true x y ts = refl
given-if false x y ts = refl

-- four numbers, by pairs or one after another
pub rates-same : (ts : List Tok) → seen four (both two_at (after (s.Comma ∷ []) two_at)) ts
    ≡ both count_at (after (s.Comma ∷ []) (both count_at (after (s.Comma ∷ []) (both count_at (after (s.Comma ∷ []) count_at))))) ts
unfolding two_at
rates-same ts = simp (read-read, read-rest)

-- an operator, part by part or as a whole
pub op-same : (ts : List Tok) → op_at ts
    ≡ seen made_op (tested same_vars
    (both short_name_at (after (s.Colon ∷ []) (both ports_at (after (s.Less ∷ s.Minus ∷ []) (both ports_at (braced_at brackets))))))) ts
unfolding op_at op_from_at
op-same ts = simp (read-read, read-rest, read-if, given-if)
