-- Rows of one value.
use Rattle.std.proofs.Common.{◌≡◌, ℤ, List, [], ◌∷◌, length, refl, ap, arith}
use Rattle.std.proofs.lemmas.List.Elements.{All-head, All-tail}
use Rattle.river_base.specs.declared.item.Flat.TheVariants.{One}
use Rattle.river_base.specs.declared.item.Item.TheVariants.{Flat}
use Rattle.river_base.specs.Held.{HaveWidth}
use Rattle.streamit_model.specs.Laws.{as_items}
use Rattle.kern_rows.specs.Even.{row_items}
use Rattle.river_langs.specs.Sources.{values}
use Rattle.river_road.specs.declared.content.FileContent.TheVariants.{Rows as Plain}

-- rows of one value are the items of their values
pub values-are : (r : List (List ℤ)) → HaveWidth 1 r → row_items r ≡ as_items (values (Plain r ∷ []))
values-are [] t = refl
values-are (row ∷ r) t = here row r t (values-are r (All-tail (λ (l : List ℤ). length l ≡ 1) row r t))
  where
    here : (row : List ℤ) (r : List (List ℤ)) → HaveWidth 1 (row ∷ r) → row_items r ≡ as_items (values (Plain r ∷ []))
        → row_items (row ∷ r) ≡ as_items (values (Plain (row ∷ r) ∷ []))
    here [] r t h = absurd (omega (arith, All-head (λ (l : List ℤ). length l ≡ 1) [] r t))
    here (x ∷ []) r t h = ap (λ l. Flat (One (x ∷ [])) ∷ l) h
    here (x ∷ y ∷ more) r t h = absurd (omega (arith, All-head (λ (l : List ℤ). length l ≡ 1) (x ∷ y ∷ more) r t))
