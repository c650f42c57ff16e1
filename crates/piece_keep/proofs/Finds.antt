-- What a mark is of.
use Rattle.std.proofs.Common.{◌≡◌, ℕ, ◌≤◌, Bool, true, false, List, [], length, take, drop, sym, ap, ◌∙◌, subst, arith}
use Rattle.std.specs.Prelude.{Option, None, Some, IfSome, ◌↔◌}
use Rattle.std.proofs.lemmas.Bool.{true≢false}
use Rattle.sha2.specs.Hashers.{Holds256}
use Rattle.csv_cuts.specs.Cut.{is_marked}
use Rattle.csv_cuts.proofs.Marks.{unmarked-strips, unmarked-test}
use Rattle.river_outside.specs.Held.{Held}
use Rattle.piece_work.specs.Cutting.{IsShorter}
use Rattle.piece_work.specs.Held.{bytes_of}
use Rattle.piece_keep.specs.Fed.{FedFront}
use Rattle.piece_keep.specs.Found.{HasPlaces, IsMarkOf, IsMarked}
use Rattle.piece_keep.specs.Mark.{count_in, mark_text, place_in}
use Rattle.piece_keep.specs.declared.extent.Extent.{Extent}
use Rattle.piece_keep.specs.declared.found.Front.{Front}
use Rattle.piece_keep.proofs.Places.{marks_tell_places}

-- a mark of this file is of the place that it tells
place-is : (mark : List ℕ) (file : Option (List ℕ)) (header : Bool) (program tables : List ℕ) (extent : Extent) → HasPlaces extent
    → IsMarkOf mark file header program tables extent → (place_in mark ≡ extent.at) × (count_in mark ≡ extent.records)
place-is mark file header program tables extent h m =
    let t = marks_tell_places extent.at extent.records header (take extent.at (bytes_of file)) program tables h.0 h.1 in
    (ap place_in m.is ∙ t.0, ap count_in m.is ∙ t.1)

-- no mark of a file that is shorter than it tells
pub marked-shorter : (o : Option Held) (name mark : List ℕ) (header : Bool) (program tables : List ℕ) (at : ℕ) → at ≡ place_in mark
    → IfSome o (λ h. IsShorter (h name) at) → IfSome o (λ h. IsMarked mark (h name) header program tables None)
marked-shorter None name mark header program tables at is short = tt
marked-shorter (Some held) name mark header program tables at is short = by (held name) short where
  by : (file : Option (List ℕ)) → IsShorter file at → IsMarked mark file header program tables None
  by None short = absurd short
  by (Some bytes) short =
      λ other within m.
      let e = (place-is mark (Some bytes) header program tables other within m).0 in
      let most = m.within in
      absurd (omega (arith, e, is, short, most))

-- no mark of a file that has a byte-order mark where it tells
pub marked-behind : (o p : Option Held) (name mark : List ℕ) (header : Bool) (program tables : List ℕ) (at : ℕ) (here : Bool) → at ≡ place_in mark → p ≡ o
    → IfSome p (λ h. here ≡ is_marked (drop at (bytes_of (h name)))) → here ≡ true → IfSome o (λ h. IsMarked mark (h name) header program tables None)
marked-behind o p name mark header program tables at here is same has on =
    by o (subst (λ (q : Option Held). IfSome q (λ h. here ≡ is_marked (drop at (bytes_of (h name))))) same has) where
      by : (q : Option Held) → IfSome q (λ h. here ≡ is_marked (drop at (bytes_of (h name)))) → IfSome q (λ h. IsMarked mark (h name) header program tables None)
      by None has = tt
      by (Some held) has =
          λ other within m.
          let e : other.at ≡ at = sym (place-is mark (held name) header program tables other within m).0 ∙ sym is in
          let off : is_marked (drop at (bytes_of (held name))) ≡ false =
          subst (λ (k : ℕ). is_marked (drop k (bytes_of (held name))) ≡ false) e (unmarked-test (drop other.at (bytes_of (held name))) m.unmarked) in
          absurd (true≢false (sym on ∙ has ∙ off))

-- what the hasher was fed with is the front of the file
pub front-fed : (o : Option Held) (name : List ℕ) (at : ℕ) (Holds : List ℕ → Type 0) → IfSome o (λ h. FedFront Holds [] (h name) at)
    → IfSome o (λ h. (at ≤ length (bytes_of (h name))) × Holds (take at (bytes_of (h name))))
front-fed None name at Holds f = tt
front-fed (Some held) name at Holds f = by (held name) f where
  by : (file : Option (List ℕ)) → FedFront Holds [] file at → (at ≤ length (bytes_of file)) × Holds (take at (bytes_of file))
  by None f = let e = f.0 in (omega (arith, e), subst (λ (k : ℕ). Holds (take k [])) (sym f.0) f.1)
  by (Some bytes) f = f

-- the mark is another one than that of the front at the place that it tells
pub marked-other : (o : Option Held) (name mark : List ℕ) (header : Bool) (program tables : List ℕ) (front : Front) (same : Bool)
    → front.extent.at ≡ place_in mark → front.extent.records ≡ count_in mark
    → IfSome o (λ h. FedFront (Holds256 front.hasher) [] (h name) front.extent.at)
    → ((bytes : List ℕ) → Holds256 front.hasher bytes → same ≡ true ↔ (mark ≡ mark_text front.extent.at front.extent.records header bytes program tables)) → same ≡ false
    → IfSome o (λ h. IsMarked mark (h name) header program tables None)
marked-other None name mark header program tables front same is many fed test off = tt
marked-other (Some held) name mark header program tables front same is many fed test off =
    λ other within m.
    let p = place-is mark (held name) header program tables other within m in
    let e : other.at ≡ front.extent.at = sym p.0 ∙ sym is in
    let r : other.records ≡ front.extent.records = sym p.1 ∙ sym many in
    let f = front-fed (Some held) name front.extent.at (Holds256 front.hasher) fed in
    let on = (test (take front.extent.at (bytes_of (held name))) f.1).1
    (m.is ∙ ap (λ (k : ℕ). mark_text k other.records header (take k (bytes_of (held name))) program tables) e
    ∙ ap (λ (k : ℕ). mark_text front.extent.at k header (take front.extent.at (bytes_of (held name))) program tables) r) in
    absurd (true≢false (sym on ∙ off))

-- the mark is that of the front
pub marked-so : (o p : Option Held) (name mark : List ℕ) (header : Bool) (program tables : List ℕ) (front : Front) (here same : Bool) → p ≡ o
    → IfSome o (λ h. FedFront (Holds256 front.hasher) [] (h name) front.extent.at)
    → IfSome p (λ h. here ≡ is_marked (drop front.extent.at (bytes_of (h name)))) → here ≡ false
    → ((bytes : List ℕ) → Holds256 front.hasher bytes → same ≡ true ↔ (mark ≡ mark_text front.extent.at front.extent.records header bytes program tables)) → same ≡ true
    → IfSome o (λ h. IsMarked mark (h name) header program tables (Some front))
marked-so o p name mark header program tables front here same there fed has off test on =
    by o fed (subst (λ (q : Option Held). IfSome q (λ h. here ≡ is_marked (drop front.extent.at (bytes_of (h name))))) there has) where
      by : (q : Option Held) → IfSome q (λ h. FedFront (Holds256 front.hasher) [] (h name) front.extent.at)
          → IfSome q (λ h. here ≡ is_marked (drop front.extent.at (bytes_of (h name)))) → IfSome q (λ h. IsMarked mark (h name) header program tables (Some front))
      by None fed has = tt
      by (Some held) fed has =
          let f = front-fed (Some held) name front.extent.at (Holds256 front.hasher) fed in (
            record {
              within = f.0;
              is = (test (take front.extent.at (bytes_of (held name))) f.1).0 on;
              unmarked = unmarked-strips (drop front.extent.at (bytes_of (held name))) (sym has ∙ off);
            },
            f.1,
          )
