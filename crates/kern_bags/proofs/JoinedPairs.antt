-- Pairs of changes pass a product with a selection behind it, one after another.
use Rattle.std.proofs.Common.{◌≡◌, ◌<◌, ℕ, List, [], ◌∷◌, ◌++◌, length, map, refl, sym, ap, ◌∙◌, subst, append_assoc}
use Rattle.std.proofs.lemmas.List.{append-nil, map-append}
use Rattle.std.specs.Prelude.{All}
use Rattle.std.proofs.lemmas.List.Elements.{All-head}
use Rattle.river_base.specs.Changes.{all_pairs, cancelled, IsWideChange}
use Rattle.river_base.specs.Held.{HaveWidth}
use Rattle.river_base.specs.declared.item.Change.{Change}
use Rattle.river_base.specs.declared.item.Flat as flat
use Rattle.river_base.specs.declared.item.Flat.TheVariants.{Change as Changed}
use Rattle.river_base.specs.declared.item.Item as item
use Rattle.work_code.specs.Term.{Term}
use Rattle.kern_bags.specs.Following.{CrossKept, CrossSteps, StandsForCrossing, passed_pairs, as_changes, put_change}
use Rattle.kern_bags.specs.Joined.{kept_of, CanMakeWhere, CanJoinChanges, JoinsWhere, JoinsPairs, JoinsFlat, JoinsPart}
use Rattle.kern_bags.specs.Takes.{TakesChanges, HasNoChanges, JoinsChanges}
use Rattle.kern_bags.specs.Contents.{product}
use Rattle.river_base.specs.Grew.{GrewByPrefix}
use Rattle.kern_bags.proofs.JoinLaws.{selections_of_changes}
use Rattle.kern_bags.proofs.Crossed.{PairsSoFar, pairs_start, pairs_step, pairs_end, pairs_fit, pairs_less}

-- some pairs have passed: the changes that the product alone gives, of each of which what is kept was given
pub record JoinedSoFar (t : Term) (start now : CrossKept) (out out' : List Change) : Type 0 where
  pub whole : List Change
  pub so : PairsSoFar start now [] whole
  pub grew : out' ≡ out ++ map (kept_of t) whole

pub joined_start : (t : Term) (s : CrossKept) (out : List Change) → CanJoinChanges t s → JoinedSoFar t s s out out
joined_start t s out can = record {
  whole = [];
  so = pairs_start s [] (record { left = can.left; right = can.right; wide = can.wide });
  grew = sym (append-nil out);
}

pub joined_makes : (t : Term) (start s0 s1 : CrossKept) (c d : Change) (out out' : List Change) → CanJoinChanges t start → JoinedSoFar t start s0 out out'
    → TakesChanges s0 s1 c d → CanMakeWhere t c d s1
joined_makes t start s0 s1 c d out out' can f k =
    let of = (f.so.fits.each can.left can.right can.wide).1 in
    record {
      left = can.left;
      right = can.right;
      few = can.wide.few;
      reads = can.reads;
      lefts = subst (HaveWidth can.left) (sym k.lefts) of.lefts;
      rights = subst (HaveWidth can.right) (sym k.rights) of.rights;
      first = All-head (IsWideChange can.left) c s1.left (subst (All (IsWideChange can.left)) k.left of.wait_left);
      second = All-head (IsWideChange can.right) d s1.right (subst (All (IsWideChange can.right)) k.right of.wait_right);
    }

-- the change of the product, of which what is kept came
abbrev whole_of : CrossKept → CrossKept → Change → Change → Change
whole_of old new c d =
    cancelled c.at (all_pairs c.plus old.rights ++ all_pairs new.lefts d.plus) (all_pairs c.minus old.rights ++ all_pairs new.lefts d.minus)

whole_joins : (t : Term) (c d : Change) (old new : CrossKept) (out out' whole : List Change) → JoinsWhere t c d old new out out'
    → JoinsChanges c d old new whole (whole ++ whole_of old new c d ∷ [])
whole_joins t c d old new out out' whole j = record { left = j.left; right = j.right; lefts = j.lefts; rights = j.rights; gave = refl }

pub joined_step : (t : Term) (start s0 s1 s2 : CrossKept) (c d : Change) (out out' out'' : List Change) → JoinedSoFar t start s0 out out'
    → TakesChanges s0 s1 c d → JoinsWhere t c d s1 s2 out' out'' → JoinedSoFar t start s2 out out''
joined_step t start s0 s1 s2 c d out out' out'' f k j =
    let x = whole_of s1 s2 c d in
    record {
      whole = f.whole ++ x ∷ [];
      so = pairs_step start s0 s1 s2 c d [] f.whole (f.whole ++ x ∷ []) f.so k (whole_joins t c d s1 s2 out' out'' f.whole j);
      grew =
          j.gave ∙ ap (λ l. l ++ kept_of t x ∷ []) f.grew ∙ append_assoc out (map (kept_of t) f.whole) (kept_of t x ∷ [])
          ∙ ap (λ l. out ++ l) (sym (map-append (kept_of t) f.whole (x ∷ [])));
    }

pub joined_less : (t : Term) (s0 s1 s2 : CrossKept) (c d : Change) (out out' : List Change) → TakesChanges s0 s1 c d → JoinsWhere t c d s1 s2 out out'
    → length s2.left < length s0.left
joined_less t s0 s1 s2 c d out out' k j = pairs_less s0 s1 s2 c d [] ([] ++ whole_of s1 s2 c d ∷ []) k (whole_joins t c d s1 s2 out out' [] j)

pub joined_end : (t : Term) (start now next : CrossKept) (out out' : List Change) → JoinedSoFar t start now out out' → HasNoChanges now next
    → JoinsPairs t start next out out'
joined_end t start now next out out' f stop = record {
  whole = f.whole;
  grew = f.grew;
  is = record { contents = pairs_end start now next [] f.whole f.so stop; fits = pairs_fit start now next [] f.whole f.so stop };
}

same_change : (c d : Change) → Changed c ≡ Changed d → c ≡ d
same_change c d e = cc e

-- an item came to a port, and pairs passed
pub joins_flat : (t : Term) (port : ℕ) (x : flat.Flat) (c : Change) (old mid new : CrossKept) (none given : List Change) (out out' : List item.Item)
    → Changed c ≡ x → mid ≡ put_change port c old → none ≡ [] → JoinsPairs t mid new none given → out' ≡ out ++ as_changes given
    → JoinsFlat t port x old new out out'
joins_flat t port x c old mid new none given out out' is came nil j g = record {
  each = λ e same.
      let put : mid ≡ put_change port e old = came ∙ (λ i. put_change port (same_change c e (is ∙ same) i) old) in
      record {
        whole = j.whole;
        grew = g ∙ ap (λ l. out ++ as_changes l) (j.grew ∙ ap (λ l. l ++ map (kept_of t) j.whole) nil);
        is = subst (λ s. CrossSteps s new j.whole) put j.is;
      };
}

-- a part of what passes was given
pub joins_part : (t : Term) (port : ℕ) (x : flat.Flat) (c : Change) (old mid new : CrossKept) (none given : List Change) (out out' : List item.Item)
    → Changed c ≡ x → mid ≡ put_change port c old → none ≡ [] → JoinsPairs t mid new none given → GrewByPrefix out (as_changes given) out'
    → JoinsPart t port x old out out'
joins_part t port x c old mid new none given out out' is came nil j g = record {
  each = λ e same m h.
      let put : mid ≡ put_change port e old = came ∙ (λ i. put_change port (same_change c e (is ∙ same) i) old) in
      let r = j.is.contents.each m (subst (λ s. StandsForCrossing s m) (sym put) h) in
      subst (λ l. GrewByPrefix out (as_changes l) out')
      (j.grew ∙ ap (λ l. l ++ map (kept_of t) j.whole) nil ∙ ap (map (kept_of t)) r.0
      ∙ selections_of_changes t (product m.lefts m.rights) (passed_pairs m).0)
      g;
}
