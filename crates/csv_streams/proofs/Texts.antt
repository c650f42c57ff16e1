-- Texts that are appended one after another.
use Rattle.std.proofs.Common.{◌≡◌, ℤ, List, [], ◌∷◌, ◌++◌, refl, sym, ap, ◌∙◌, append_assoc}
use Rattle.std.proofs.lemmas.List.{append-nil}
use Rattle.river_base.specs.declared.item.Item as item
use Rattle.kern_rows.specs.Even.{row_items}
use Rattle.csv_streams.specs.Outcome.{texts_of, item_text, row_line}

pub ruleset joins = (append_assoc)

-- rows as items, and further items
pub lines-parts : (rows : List (List ℤ)) (is : List item.Item) → texts_of item_text (row_items rows ++ is) ≡ texts_of row_line rows ++ texts_of item_text is
lines-parts [] is = refl
lines-parts (r ∷ rs) is =
    ap (λ t. t ++ texts_of item_text (row_items rs ++ is)) (append-nil (row_line r))
    ∙ ap (λ t. row_line r ++ t) (lines-parts rs is)
    ∙ sym (append_assoc (row_line r) (texts_of row_line rs) (texts_of item_text is))
