-- Capacities by the names of queues.
use Rattle.std.proofs.Common.{◌≡◌, ℕ, ◌+◌, ◌<◌, Bool, true, false, Option, Some, None, List, [], ◌∷◌, drop, get_or, length, cond, refl, sym, ap, ◌∙◌, subst}
use Rattle.std.specs.Prelude.{if◌then◌else◌, unwrap_or}
use Rattle.std.proofs.lemmas.List.{drop_more}
use Rattle.std.proofs.lemmas.List.Elements.{All-head, All-tail}
use Rattle.indexmap.specs.IndexMap.{IndexMap, Updates, get}
use Rattle.river_base.specs.Name.{name_eq}
use Rattle.river_plan.specs.Caps.{KnowsCaps, IsCap, AreCaps, IsOwnCap, OwnCaps, first_cap, capacity}
use Rattle.river_plan.specs.Forms.{Name}
use Rattle.river_plan.specs.declared.caps.Cap.{Cap}

chosen : {A : Type 0} (b : Bool) (x y : A) → (if b then x else y) ≡ cond b x y
chosen true x y = refl
chosen false x y = refl

-- with the entry before them
pub known_more : {S : Type 0} (known known' : IndexMap Name ℕ S) (caps : List Cap) (i j k : ℕ) (c : Cap) → i < length caps → j ≡ i + 1 → k ≡ i
    → c ≡ get_or caps k c
    → KnowsCaps known (drop j caps) → Updates name_eq known known' c.queue (Some c.most) → KnowsCaps known' (drop i caps)
known_more known known' caps i j k c lt next same at known_j u = record { each = each } where
  h : KnowsCaps known (drop (i + 1) caps)
  h = subst (λ n. KnowsCaps known (drop n caps)) next known_j

  front : drop i caps ≡ c ∷ drop (i + 1) caps
  front = drop_more caps i c lt ∙ ap (λ x. x ∷ drop (i + 1) caps) (sym (at ∙ ap (λ n. get_or caps n c) same))

  each : (q : Name) → get name_eq known' q ≡ first_cap (drop i caps) q
  each q =
      u.0 q ∙ ap (λ o. cond (name_eq c.queue q) (Some c.most) o) (h.each q)
      ∙ sym (ap (λ l. first_cap l q) front ∙ chosen (name_eq c.queue q) (Some c.most) (first_cap (drop (i + 1) caps) q))

-- what the first entry gives is within the bounds
pub first_fits : (caps : List Cap) (q : Name) → AreCaps caps → IsOwnCap (first_cap caps q)
first_fits [] q all = tt
first_fits (c ∷ cs) q all = by (name_eq c.queue q) (first_fits cs q (All-tail (λ (x : Cap). IsCap x.most) c cs all)) where
  by : (b : Bool) → IsOwnCap (first_cap cs q) → IsOwnCap (if b then Some c.most else first_cap cs q)
  by true more = All-head (λ (x : Cap). IsCap x.most) c cs all
  by false more = more

-- a capacity is within the bounds, whether a queue has its own or not
pub capacity_fits : (own : OwnCaps) (most : ℕ) (q : Name) → IsCap most → IsOwnCap (own q) → IsCap (capacity most own q)
capacity_fits own most q h fits = by (own q) fits where
  by : (o : Option ℕ) → IsOwnCap o → IsCap (unwrap_or o most)
  by None f = h
  by (Some n) f = f
