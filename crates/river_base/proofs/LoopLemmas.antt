use Rattle.std.proofs.Common.{◌≡◌, ℕ, ◌<◌, ◌+◌, List, [], ◌∷◌, ◌++◌, length, take, get_or, sym, ap, ◌∙◌}
use Rattle.std.proofs.Math.ListN.{set}
use Rattle.std.proofs.lemmas.List.{take-map, set-get_or, flat_map_more, take_more}
use Rattle.std.proofs.Math.Seq.{take-append_seam}
use Rattle.std.specs.List.{flat_map}
use Rattle.std.proofs.Common.{map}
use Rattle.river_base.specs.Grew.{GrewByPrefix}

-- to write the element that is there changes nothing
pub set_unchanged : {X : Type 0} (xs : List X) (i : ℕ) (x : X) → x ≡ get_or xs i x → set xs i x ≡ xs
set_unchanged xs i x h = ap (set xs i) h ∙ set-get_or xs i x

-- a loop's step: the outputs of the element at i are appended
pub flat_map_step : {X A : Type 0} (f : X → List A) (bs out out' : List A) (xs : List X) (i : ℕ) (x : X) → i < length xs → x ≡ get_or xs i x
    → out ≡ bs ++ flat_map f (take i xs) → out' ≡ out ++ f x → out' ≡ bs ++ flat_map f (take (i + 1) xs)
flat_map_step f bs out out' xs i x lt e before after =
    after ∙ ap (λ o. o ++ f x) before ∙ flat_map_more f bs (take i xs) x
    ∙ ap (λ l. bs ++ flat_map f l) (ap (λ y. take i xs ++ y ∷ []) e ∙ sym (take_more xs i x lt))

-- a loop that was left at i
pub grew_by_map : {X A : Type 0} (f : X → A) (old new : List A) (xs : List X) (i : ℕ) → new ≡ old ++ map f (take i xs) → GrewByPrefix old (map f xs) new
grew_by_map f old new xs i h = record { n = i; is = h ∙ ap (λ l. old ++ l) (sym (take-map f i xs)) }

-- a loop that was left after `done`
pub grew_by_part : {X A : Type 0} (f : X → A) (old new : List A) (done rest xs : List X) → xs ≡ done ++ rest → new ≡ old ++ map f done
    → GrewByPrefix old (map f xs) new
grew_by_part f old new done rest xs e h =
    record {
      n = length done;
      is = h
          ∙ ap (λ l. old ++ l)
          (sym (ap (λ l. take (length done) (map f l)) e ∙ take-map f (length done) (done ++ rest) ∙ ap (map f) (take-append_seam done rest)));
    }
