-- Names in a set, in order.
use Rattle.std.proofs.Common.{◌≡◌, ◌||◌, ◌++◌, ◌∷◌, [], List, ℕ, Bool, false, length, take, refl, ap, ◌∙◌}
use Rattle.std.specs.Prelude.{if◌then◌else◌}
use Rattle.std.specs.List.{list_any}
use Rattle.river_base.specs.Name.{name_eq}
use Rattle.params_text.specs.Params.{is_one_of}
use Rattle.params_text.proofs.Found.{name_sym}

-- a set has the names that are among its keys
pub any_one : (n : List ℕ) (ks : List (List ℕ)) → list_any (name_eq n) ks ≡ is_one_of ks n
any_one n [] = refl
any_one n (k ∷ ks) = λ i. name_sym n k i || any_one n ks i

-- a name that is none of the keys comes behind them
pub added_last : (n : List ℕ) (ks new : List (List ℕ)) → new ≡ (if list_any (name_eq n) ks then ks else ks ++ n ∷ []) → is_one_of ks n ≡ false
    → new ≡ ks ++ n ∷ []
added_last n ks new h absent = h ∙ ap (λ (b : Bool). if b then ks else ks ++ n ∷ []) (any_one n ks ∙ absent)

-- what was not there is forgotten again
pub taken_back : (ks : List (List ℕ)) (n : List ℕ) → take (length ks) (ks ++ n ∷ []) ≡ ks
taken_back [] n = refl
taken_back (k ∷ ks) n = ap (λ l. k ∷ l) (taken_back ks n)
