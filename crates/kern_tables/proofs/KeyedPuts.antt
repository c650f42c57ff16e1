-- A table by keys is a function of the bag of what was added.
use Rattle.std.proofs.Common.{◌≡◌, List, [], ◌∷◌, Ordering, refl, sym, ap, ◌∙◌}
use Rattle.std.specs.declared.cmp.Ordering.TheVariants.{Less, Equal, Greater}
use Rattle.std.specs.Ordering.{match_ordering, ordering_reverse}
use Rattle.std.specs.Cmp.{IsTotalOrder}
use Rattle.std.specs.List.Sorted.{IsPermutation}
use Rattle.std.proofs.lemmas.Map.Lookups.{CmpEqualImpliesEq}
use Rattle.std.proofs.Common.{Option, Some, None, arith, unwrap_or}
use Rattle.std.specs.Ordering.{is_eq}
use Rattle.std.specs.Map.{keys_of, lookup}
use Rattle.std.specs.BTreeMap.{insert_entry, is_at}
use Rattle.std.specs.List.Sorted.{IsStrictlySortedBy}
use Rattle.std.proofs.lemmas.Map.Keys.{sorted_tail}
use Rattle.std.proofs.lemmas.Map.Entries.{lookup_at_gap, lookup_head, lookup_tail}
use Rattle.river_base.proofs.Bags.{fold-IsPermutation}
use Rattle.kern_tables.specs.Keyed as table

module _ {K V W : Type 0} (R : K → K → Ordering) (o : IsTotalOrder R) (exact : CmpEqualImpliesEq R) (start : V) (merge : V → W → V)
    (commutes : (v : V) (w u : W) → merge (merge v w) u ≡ merge (merge v u) w) where
  pub first : (e : K × V) (es : List (K × V)) (a : K × W) → R a.0 e.0 ≡ Less → table.put R start merge (e ∷ es) a ≡ (a.0, merge start a.1) ∷ (e ∷ es)
  first e es a h = ap (λ r. match_ordering r ((a.0, merge start a.1) ∷ (e ∷ es)) ((e.0, merge e.1 a.1) ∷ es) (e ∷ table.put R start merge es a)) h

  pub joins : (e : K × V) (es : List (K × V)) (a : K × W) → R a.0 e.0 ≡ Equal → table.put R start merge (e ∷ es) a ≡ (e.0, merge e.1 a.1) ∷ es
  joins e es a h = ap (λ r. match_ordering r ((a.0, merge start a.1) ∷ (e ∷ es)) ((e.0, merge e.1 a.1) ∷ es) (e ∷ table.put R start merge es a)) h

  pub passes : (e : K × V) (es : List (K × V)) (a : K × W) → R a.0 e.0 ≡ Greater → table.put R start merge (e ∷ es) a ≡ e ∷ table.put R start merge es a
  passes e es a h = ap (λ r. match_ordering r ((a.0, merge start a.1) ∷ (e ∷ es)) ((e.0, merge e.1 a.1) ∷ es) (e ∷ table.put R start merge es a)) h

  turned : (x y : K) (r : Ordering) → R x y ≡ r → R y x ≡ ordering_reverse r
  turned x y r h = o.antisymm y x ∙ ap ordering_reverse h

  -- two new keys, both below what is there
  in_turn : (a b : K × W) (rest : List (K × V)) → table.put R start merge rest a ≡ (a.0, merge start a.1) ∷ rest
      → table.put R start merge rest b ≡ (b.0, merge start b.1) ∷ rest
      → table.put R start merge ((b.0, merge start b.1) ∷ rest) a ≡ table.put R start merge ((a.0, merge start a.1) ∷ rest) b
  in_turn a b rest pa pb = step (R a.0 b.0) refl where
    step : (r : Ordering) → R a.0 b.0 ≡ r
        → table.put R start merge ((b.0, merge start b.1) ∷ rest) a ≡ table.put R start merge ((a.0, merge start a.1) ∷ rest) b
    step Less h =
        first (b.0, merge start b.1) rest a h ∙ sym (passes (a.0, merge start a.1) rest b (turned a.0 b.0 Less h) ∙ ap (λ l. (a.0, merge start a.1) ∷ l) pb)
    step Equal h =
        let same : a.0 ≡ b.0 = exact a.0 b.0 h in
        joins (b.0, merge start b.1) rest a h ∙ (λ i. (sym same i, commutes start b.1 a.1 i) ∷ rest)
        ∙ sym (joins (a.0, merge start a.1) rest b (turned a.0 b.0 Equal h))
    step Greater h =
        passes (b.0, merge start b.1) rest a h ∙ ap (λ l. (b.0, merge start b.1) ∷ l) pa ∙ sym (first (a.0, merge start a.1) rest b (turned a.0 b.0 Greater h))

  -- a new key below what is there, and another above it
  leftmost : (a b : K × W) (e e' : K × V) (es rest : List (K × V)) → R a.0 e.0 ≡ Less → R b.0 a.0 ≡ Greater → R a.0 e'.0 ≡ Less
      → table.put R start merge (e ∷ es) b ≡ e' ∷ rest
      → table.put R start merge (table.put R start merge (e ∷ es) b) a ≡ table.put R start merge (table.put R start merge (e ∷ es) a) b
  leftmost a b e e' es rest h g k p =
      ap (λ l. table.put R start merge l a) p ∙ first e' rest a k
      ∙ sym (ap (λ l. table.put R start merge l b) (first e es a h) ∙ passes (a.0, merge start a.1) (e ∷ es) b g ∙ ap (λ l. (a.0, merge start a.1) ∷ l) p)

  -- a key that is there, and another above it
  middle : (a b : K × W) (e : K × V) (es : List (K × V)) → R a.0 e.0 ≡ Equal → R b.0 e.0 ≡ Greater
      → table.put R start merge (table.put R start merge (e ∷ es) b) a ≡ table.put R start merge (table.put R start merge (e ∷ es) a) b
  middle a b e es h g =
      ap (λ l. table.put R start merge l a) (passes e es b g) ∙ joins e (table.put R start merge es b) a h
      ∙ sym (ap (λ l. table.put R start merge l b) (joins e es a h) ∙ passes (e.0, merge e.1 a.1) es b g)

  above_tie : (x y z : K) → R x z ≡ Less → R y z ≡ Equal → R y x ≡ Greater
  above_tie x y z h g = o.congr y z x g ∙ turned x z Less h

  above_far : (x y z : K) → R x z ≡ Less → R y z ≡ Greater → R y x ≡ Greater
  above_far x y z h g = turned x y Less (o.trans x z y h (turned y z Greater g))

  pub put-put : (es : List (K × V)) (a b : K × W)
      → table.put R start merge (table.put R start merge es b) a ≡ table.put R start merge (table.put R start merge es a) b
  put-put [] a b = in_turn a b [] refl refl
  put-put (e ∷ es) a b = step (put-put es a b) (R a.0 e.0) (R b.0 e.0) refl refl where
    step : table.put R start merge (table.put R start merge es b) a ≡ table.put R start merge (table.put R start merge es a) b → (r s : Ordering)
        → R a.0 e.0 ≡ r → R b.0 e.0 ≡ s
        → table.put R start merge (table.put R start merge (e ∷ es) b) a ≡ table.put R start merge (table.put R start merge (e ∷ es) a) b
    step more Less Less h g =
        ap (λ l. table.put R start merge l a) (first e es b g) ∙ in_turn a b (e ∷ es) (first e es a h) (first e es b g)
        ∙ sym (ap (λ l. table.put R start merge l b) (first e es a h))
    step more Less Equal h g = leftmost a b e (e.0, merge e.1 b.1) es es h (above_tie a.0 b.0 e.0 h g) h (joins e es b g)
    step more Less Greater h g = leftmost a b e e es (table.put R start merge es b) h (above_far a.0 b.0 e.0 h g) h (passes e es b g)
    step more Equal Less h g = sym (leftmost b a e (e.0, merge e.1 a.1) es es g (above_tie b.0 a.0 e.0 g h) g (joins e es a h))
    step more Greater Less h g = sym (leftmost b a e e es (table.put R start merge es a) g (above_far b.0 a.0 e.0 g h) g (passes e es a h))
    step more Equal Equal h g =
        ap (λ l. table.put R start merge l a) (joins e es b g) ∙ joins (e.0, merge e.1 b.1) es a h ∙ ap (λ v. (e.0, v) ∷ es) (commutes e.1 b.1 a.1)
        ∙ sym (ap (λ l. table.put R start merge l b) (joins e es a h) ∙ joins (e.0, merge e.1 a.1) es b g)
    step more Equal Greater h g = middle a b e es h g
    step more Greater Equal h g = sym (middle b a e es g h)
    step more Greater Greater h g =
        ap (λ l. table.put R start merge l a) (passes e es b g) ∙ passes e (table.put R start merge es b) a h ∙ ap (λ l. e ∷ l) more
        ∙ sym (ap (λ l. table.put R start merge l b) (passes e es a h) ∙ passes e (table.put R start merge es a) b g)

  -- the table is a function of the bag
  pub keyed-IsPermutation : (xs ys : List (K × W)) → IsPermutation xs ys → table.keyed R start merge xs ≡ table.keyed R start merge ys
  keyed-IsPermutation xs ys h = fold-IsPermutation (table.put R start merge) (λ es a b. put-put es b a) [] xs ys h

  -- what a map's `insert` makes of the merged value
  pub put_is_insert : (es : List (K × V)) (k : K) (w : W) (old : Option V) → IsStrictlySortedBy R (keys_of es) → lookup (is_at (R k)) es ≡ old
      → insert_entry R es k (merge (unwrap_or old start) w) ≡ table.put R start merge es (k, w)
  put_is_insert [] k w old s h = λ i. (k, merge (unwrap_or (sym h i) start) w) ∷ []
  put_is_insert (e ∷ es) k w old s h = step (R k e.0) refl (put_is_insert es k w old (sorted_tail R e.0 (keys_of es) s)) where
    v : V
    v = merge (unwrap_or old start) w

    step : (r : Ordering) → R k e.0 ≡ r
        → (lookup (is_at (R k)) es ≡ old → insert_entry R es k (merge (unwrap_or old start) w) ≡ table.put R start merge es (k, w))
        → insert_entry R (e ∷ es) k (merge (unwrap_or old start) w) ≡ table.put R start merge (e ∷ es) (k, w)
    step Less p more =
        let none : lookup (is_at (R k)) (e ∷ es) ≡ None =
        lookup_at_gap o k (e ∷ es) 0 s (λ j f l g. absurd (omega arith)) (λ f g. let same : e ≡ f = cc in ap (λ x. R k x.0) (sym same) ∙ p) in
        let absent : old ≡ None = sym h ∙ none in
        ap (λ r. match_ordering r ((k, merge (unwrap_or old start) w) ∷ (e ∷ es)) ((e.0, merge (unwrap_or old start) w) ∷ es)
        (e ∷ insert_entry R es k (merge (unwrap_or old start) w))) p
        ∙ ap (λ q. (k, merge (unwrap_or q start) w) ∷ (e ∷ es)) absent ∙ sym (first e es (k, w) p)
    step Equal p more =
        let found : lookup (is_at (R k)) (e ∷ es) ≡ Some e.1 = lookup_head (is_at (R k)) e es (ap is_eq p) in
        let there : old ≡ Some e.1 = sym h ∙ found in
        ap (λ r. match_ordering r ((k, merge (unwrap_or old start) w) ∷ (e ∷ es)) ((e.0, merge (unwrap_or old start) w) ∷ es)
        (e ∷ insert_entry R es k (merge (unwrap_or old start) w))) p
        ∙ ap (λ q. (e.0, merge (unwrap_or q start) w) ∷ es) there ∙ sym (joins e es (k, w) p)
    step Greater p more =
        let behind : lookup (is_at (R k)) es ≡ old = sym (lookup_tail (is_at (R k)) e es (ap is_eq p)) ∙ h in
        ap (λ r. match_ordering r ((k, merge (unwrap_or old start) w) ∷ (e ∷ es)) ((e.0, merge (unwrap_or old start) w) ∷ es)
        (e ∷ insert_entry R es k (merge (unwrap_or old start) w))) p
        ∙ ap (λ l. e ∷ l) (more behind) ∙ sym (passes e es (k, w) p)
