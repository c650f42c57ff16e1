-- The numbers that lists get as they come are their classes.
use Rattle.std.proofs.Common.{◌≡◌, ℤ, pos, List, [], ◌∷◌, ◌++◌, fold, sym, subst, append_assoc}
use Rattle.std.proofs.lemmas.List.{append-nil}
use Rattle.plan_classes.specs.Classes.{AreClasses}
use Rattle.plan_classes.specs.Sets.{place_in, with_list}
use Rattle.plan_classes.specs.Numbered.{numbered_classes, class_numbers, NumbersAreClasses}
use Rattle.plan_classes.proofs.Numbering.{IsNumbered, none_numbered, one_more, are_classes}
use Rattle.plan_classes.proofs.Unique.{classes_are_unique}

numbered_on : (done seen : List (List ℤ)) (classes : List ℤ) (users : List (List ℤ)) → IsNumbered done seen classes
    → IsNumbered (done ++ users) (fold with_list seen users) (classes ++ numbered_classes seen users)
numbered_on done seen classes [] r =
    subst (λ (d : List (List ℤ)). IsNumbered d seen (classes ++ [])) (sym (append-nil done))
    (subst (λ (c : List ℤ). IsNumbered done seen c) (sym (append-nil classes)) r)
numbered_on done seen classes (ops ∷ users) r =
    subst (λ (d : List (List ℤ)). IsNumbered d (fold with_list (with_list seen ops) users) (classes ++ numbered_classes seen (ops ∷ users)))
    (append_assoc done (ops ∷ []) users)
    (subst (λ (c : List ℤ). IsNumbered ((done ++ ops ∷ []) ++ users) (fold with_list (with_list seen ops) users) c)
    (append_assoc classes (pos (place_in seen ops) ∷ []) (numbered_classes (with_list seen ops) users))
    (numbered_on (done ++ ops ∷ []) (with_list seen ops) (classes ++ pos (place_in seen ops) ∷ []) users (one_more done seen classes ops r)))

-- the law: each table has the place of its operators as its class
pub numbers_are_classes : NumbersAreClasses
numbers_are_classes users = are_classes users (fold with_list [] users) (class_numbers users) (numbered_on [] [] [] users none_numbered)

-- whatever are the classes are these numbers
pub are_numbers : (users : List (List ℤ)) (classes : List ℤ) → AreClasses users classes → classes ≡ class_numbers users
are_numbers users classes h = classes_are_unique users classes (class_numbers users) h (numbers_are_classes users)
