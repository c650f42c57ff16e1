-- Steps of loops over pairs, and what functions of the content do.
use Rattle.std.proofs.Common.{◌≡◌, ◌<◌, ◌+◌, ℕ, ℤ, List, [], ◌∷◌, ◌++◌, length, get_or, map, take, refl, sym, ap, ◌∙◌, append_assoc, subst}
use Rattle.std.proofs.lemmas.List.{take_more, append-nil}
use Rattle.std.proofs.lemmas.List.Elements.{All-filter}
use Rattle.std.proofs.lemmas.List.Concat.{flat_map-append}
use Rattle.river_base.specs.Changes.{cancelled, all_pairs, IsChangeOf}
use Rattle.river_base.specs.declared.item.Change.{Change}
use Rattle.work_code.specs.Term.{Term}
use Rattle.work_code.specs.Value.{val, is_true}
use Rattle.kern_bags.specs.Contents.{selected, projected}
use Rattle.kern_bags.specs.Following.{FollowsContent}
use Rattle.kern_changes.proofs.Widths.{cancelled_of}
use Rattle.kern_bags.proofs.Followed.{change_selected, change_projected, selected_normal}
use Rattle.kern_bags.proofs.Wide.{wide_projected}

-- PAIRS

-- the pairs of one row more
pub pairs_more : (lefts rights start old new : List (List ℤ)) (i : ℕ) (x : List ℤ) → i < length lefts → x ≡ get_or lefts i x
    → old ≡ start ++ all_pairs (take i lefts) rights
    → new ≡ old ++ map (λ y. x ++ y) rights → new ≡ start ++ all_pairs (take (i + 1) lefts) rights
pairs_more lefts rights start old new i x lt is o e =
    let f : List ℤ → List (List ℤ) = λ z. map (λ y. z ++ y) rights in
    e ∙ ap (λ l. l ++ f x) o ∙ append_assoc start (all_pairs (take i lefts) rights) (f x)
    ∙ ap (λ l. start ++ l)
    (ap (λ z. all_pairs (take i lefts) rights ++ f z) is
    ∙ ap (λ l. all_pairs (take i lefts) rights ++ l) (sym (append-nil (f (get_or lefts i x))))
    ∙ sym (flat_map-append f (take i lefts) (get_or lefts i x ∷ [])) ∙ ap (λ l. all_pairs l rights) (sym (take_more lefts i x lt)))

-- there is no pair with nothing
pub pairs_none : (lefts : List (List ℤ)) → all_pairs lefts [] ≡ []
pairs_none [] = refl
pairs_none (x ∷ xs) = pairs_none xs

-- FUNCTIONS OF THE CONTENT

-- what passes in both parts is the change of the selection
pub selects : (t : Term) (c d : Change) → d ≡ record { at = c.at; plus = selected t c.plus; minus = selected t c.minus } → FollowsContent (selected t) c d
selects t c d e = record { each = λ before b is. e ∙ ap (λ (k : Change). half k) is ∙ sym (change_selected t before b) } where
  half : Change → Change
  half k = record { at = k.at; plus = selected t k.plus; minus = selected t k.minus }

-- the images of both parts make the change of the projection
pub projects : (ts : List Term) (c d : Change)
    → d ≡ cancelled c.at (map (λ row. map (λ t. val t row []) ts) c.plus) (map (λ row. map (λ t. val t row []) ts) c.minus) → FollowsContent (projected ts) c d
projects ts c d e = record { each = λ before b is. e ∙ ap (λ (k : Change). both k) is ∙ sym (change_projected ts before b) } where
  both : Change → Change
  both k = cancelled k.at (map (λ row. map (λ t. val t row []) ts) k.plus) (map (λ row. map (λ t. val t row []) ts) k.minus)

-- a selection of a normalised change is one
pub select_fits : (w : ℕ) (t : Term) (c d : Change) → d ≡ record { at = c.at; plus = selected t c.plus; minus = selected t c.minus } → IsChangeOf w c
    → IsChangeOf w d
select_fits w t c d e h = subst (IsChangeOf w) (sym e) (record {
  normal = selected_normal t c h.normal;
  wide = record {
    plus = All-filter (λ row. is_true (val t row [])) (λ row. length row ≡ w) c.plus h.wide.plus;
    minus = All-filter (λ row. is_true (val t row [])) (λ row. length row ≡ w) c.minus h.wide.minus;
  };
})

-- a projection of any change is a normalised one
pub project_fits : (ts : List Term) (at : ℤ) (plus minus : List (List ℤ)) (d : Change)
    → d ≡ cancelled at (map (λ row. map (λ t. val t row []) ts) plus) (map (λ row. map (λ t. val t row []) ts) minus) → IsChangeOf (length ts) d
project_fits ts at plus minus d e =
    subst (IsChangeOf (length ts)) (sym e)
    (cancelled_of (length ts) at (map (λ row. map (λ t. val t row []) ts) plus) (map (λ row. map (λ t. val t row []) ts) minus) (wide_projected ts plus)
    (wide_projected ts minus))

-- where nothing comes, no pair does
pub nothing_meets : (old lefts rights : List (List ℤ)) → rights ≡ [] → old ≡ old ++ all_pairs lefts rights
nothing_meets old lefts rights e = sym (append-nil old) ∙ ap (λ l. old ++ l) (sym (pairs_none lefts)) ∙ ap (λ l. old ++ all_pairs lefts l) (sym e)
