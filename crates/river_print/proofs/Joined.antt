-- Texts that are appended one after another.
use Rattle.std.proofs.Common.{◌≡◌, ℕ, List, [], ◌∷◌, ◌++◌, refl, sym, ap, ◌∙◌, append_assoc}
use Rattle.std.specs.Prelude.{codes}
use Rattle.work_code.specs.Printed.{more_items}

pub ruleset joins = (append_assoc)

pub more_items-append : (xs ys : List (List ℕ)) → more_items (xs ++ ys) ≡ more_items xs ++ more_items ys
more_items-append [] ys = refl
more_items-append (x ∷ xs) ys =
    ap (λ (l : List ℕ). codes ", " ++ l) (ap (λ (l : List ℕ). x ++ l) (more_items-append xs ys) ∙ sym (append_assoc x (more_items xs) (more_items ys)))

pub ruleset ports = (append_assoc, more_items-append)
