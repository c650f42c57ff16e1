-- Word 0 is swapped, and one more seat comes.
use Rattle.std.proofs.Common.{◌≡◌, ℕ, suc, ◌<◌, List, [], ◌∷◌, ◌++◌, length, get_or, set, sym, ◌∙◌, subst, length-append, arith}
use Rattle.std.proofs.lemmas.List.{get_or-set_same, get_or-set_other, length-set}
use Rattle.class_locks.specs.declared.view.View.{View}
use Rattle.class_locks.specs.Rule.{class_word}

-- the words of the classes are the same
pub word_same : (ws : List ℕ) (c : ℕ) → class_word (set ws 0 1) c ≡ class_word ws c
word_same ws c = get_or-set_other ws 0 (suc c) 1 0 (λ e. omega arith)

-- word 0 is 1
pub open_word : (ws : List ℕ) (k : ℕ) → length ws ≡ suc k → get_or (set ws 0 1) 0 0 ≡ 1
open_word ws k wide = get_or-set_same ws 0 1 0 (subst (λ m. 0 < m) (sym wide) (omega arith))

-- there are as many words
pub still_wide : (ws : List ℕ) (k : ℕ) → length ws ≡ suc k → length (set ws 0 1) ≡ suc k
still_wide ws k wide = length-set ws 0 1 ∙ wide

-- a number up to that of the new seat is one of a seat
pub longer : (vs : List View) (w : View) (m : ℕ) → m < suc (length vs) → m < length (vs ++ w ∷ [])
longer vs w m h = subst (λ q. m < q) (sym (length-append vs (w ∷ []))) (omega arith)
