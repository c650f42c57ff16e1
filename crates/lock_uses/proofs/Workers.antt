-- What a worker has claimed after its visits.
use Rattle.std.proofs.Common.{◌≡◌, ℕ, suc, ◌+◌, ◌%◌, Bool, true, false, List, [], ◌∷◌, ◌++◌, length, sym, refl, ap, ◌∙◌, subst, append_assoc, arith}
use Rattle.std.proofs.lemmas.List.{append-nil}
use lib.ListN.{get_elem?}
use Rattle.class_locks.specs.declared.view.View.{View}
use Rattle.class_locks.specs.declared.view.Claim.{Claim}
use Rattle.class_locks.specs.Logs.{Holding}
use Rattle.class_locks.specs.Views.{StandsIn, claims_of}
use Rattle.lock_uses.specs.Uses.{IsReadyToAdd, HasTriedToAdd, HasWorked, entry, visits}

ready_again : (added : Bool) (op : ℕ) (v w : View) → IsReadyToAdd op v → HasTriedToAdd added op v w → IsReadyToAdd op w
ready_again added op v w r t = record {
  rests = t.rests;
  classes = ap length t.starts ∙ r.classes;
  tables = λ c x e. r.tables c x (ap (λ (s : List Holding). get_elem? s c) (sym t.starts) ∙ e);
  part = subst (λ (ps : List ℕ). StandsIn (op % w.seats) ps) (sym t.parts) (subst (λ (n : ℕ). StandsIn (op % n) v.parts) (sym t.seats) r.part);
}

pub worked_none : (op : ℕ) (v : View) → IsReadyToAdd op v → HasWorked op 0 v v
worked_none op v r = record { ready = r; starts = refl; seats = refl; parts = refl; claims = sym (append-nil v.claims) }

-- a try that did not come through leaves the work as it is
pub worked_on : (op n : ℕ) (v w u : View) → HasWorked op n v w → HasTriedToAdd false op w u → HasWorked op n v u
worked_on op n v w u h t = record {
  ready = ready_again false op w u h.ready t;
  starts = t.starts ∙ h.starts;
  seats = t.seats ∙ h.seats;
  parts = t.parts ∙ h.parts;
  claims = t.kept refl ∙ h.claims;
}

-- one that came through is one turn more
pub worked_more : (op n : ℕ) (v w u : View) → HasWorked op n v w → HasTriedToAdd true op w u → HasWorked op (n + 1) v u
worked_more op n v w u h t =
    let next : suc n ≡ n + 1 = omega arith in
    let low = claims_of 0 (entry op 0 ∷ []) in
    let high = claims_of 1 (entry op 1 ∷ []) in
    record {
      ready = ready_again true op w u h.ready t;
      starts = t.starts ∙ h.starts;
      seats = t.seats ∙ h.seats;
      parts = t.parts ∙ h.parts;
      claims = t.put refl ∙ (ap (λ (q : List Claim). (q ++ high) ++ low) h.claims
          ∙ (ap (λ (q : List Claim). q ++ low) (append_assoc v.claims (visits op n) high)
          ∙ (append_assoc v.claims (visits op n ++ high) low ∙ ap (λ (m : ℕ). v.claims ++ visits op m) next)));
    }
