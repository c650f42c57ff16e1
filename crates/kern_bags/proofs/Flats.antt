-- Steps on items that are changes.
use Rattle.std.proofs.Common.{◌≡◌, ℕ, ℤ, List, [], ◌∷◌, ◌++◌, sym, ◌∙◌, subst}
use Rattle.river_base.specs.Grew.{GrewByPrefix}
use Rattle.river_base.specs.declared.item.Batch.{Batch}
use Rattle.river_base.specs.declared.item.Change.{Change}
use Rattle.river_base.specs.declared.item.Flat as flat
use Rattle.river_base.specs.declared.item.Flat.TheVariants.{Batch as Batched, Change as Changed}
use Rattle.river_base.specs.declared.item.Item as item
use Rattle.river_base.specs.declared.item.Item.TheVariants.{Flat}
use Rattle.work_code.specs.Term.{Term}
use Rattle.kern_bags.specs.Following.{as_changes, Projects, ProjectsFlat, StreamSteps, StreamsFlat, CrossKept, Crosses}
use Rattle.kern_bags.specs.Following.{CrossFits, put_change, StandsForCrossing, CrossesFlat, CrossesPart}
use Rattle.kern_bags.specs.declared.kernel.Streamer.{Streamer}

same_change : (c d : Change) → Changed c ≡ Changed d → c ≡ d
same_change c d e = cc e

-- a projection gave the change of what is projected
pub projects_flat : (ts : List Term) (x : flat.Flat) (c d : Change) (out out' : List item.Item) → Changed c ≡ x → Projects ts c d
    → out' ≡ out ++ Flat (Changed d) ∷ [] → ProjectsFlat ts x out out'
projects_flat ts x c d out out' is p g =
    record { each = λ e same. record { change = d; grew = g; is = subst (λ k. Projects ts k d) (same_change c e (is ∙ same)) p } }

-- a streamer gave a batch
pub streams_flat : (s : Streamer) (x : flat.Flat) (c : Change) (b : Batch) (old new : List (List ℤ)) (out out' : List item.Item) → Changed c ≡ x
    → StreamSteps s c old new b → out' ≡ out ++ Flat (Batched b) ∷ [] → StreamsFlat s x old new out out'
streams_flat s x c b old new out out' is p g =
    record { each = λ e same. record { batch = b; grew = g; is = subst (λ k. StreamSteps s k old new b) (same_change c e (is ∙ same)) p } }

-- PRODUCTS

module _ (port : ℕ) (x : flat.Flat) (c : Change) (old mid : CrossKept) (out out' : List item.Item) (is : Changed c ≡ x)
    (came : mid ≡ put_change port c old) where
  same_put : (e : Change) → x ≡ Changed e → mid ≡ put_change port e old
  same_put e same = came ∙ (λ i. put_change port (same_change c e (is ∙ same) i) old)

  -- a product gave the changes that passed
  pub crosses_flat : (new : CrossKept) (none given : List Change) → none ≡ [] → Crosses mid new none given → CrossFits mid new none given
      → out' ≡ out ++ as_changes given → CrossesFlat port x old new out out'
  crosses_flat new none given nil contents fits g = record {
    each = λ e same. record {
      given = given;
      grew = g;
      is = record {
        contents = subst (λ s. Crosses s new [] given) (same_put e same) (subst (λ l. Crosses mid new l given) nil contents);
        fits = subst (λ s. CrossFits s new [] given) (same_put e same) (subst (λ l. CrossFits mid new l given) nil fits);
      };
    };
  }

  -- a product gave a part of them
  pub crosses_part : (new : CrossKept) (none given : List Change) → none ≡ [] → Crosses mid new none given → GrewByPrefix out (as_changes given) out'
      → CrossesPart port x old out out'
  crosses_part new none given nil contents g = record {
    each = λ e same m h.
        let r = (subst (λ l. Crosses mid new l given) nil contents).each m (subst (λ s. StandsForCrossing s m) (sym (same_put e same)) h) in
        subst (λ l. GrewByPrefix out (as_changes l) out') r.0 g;
  }
