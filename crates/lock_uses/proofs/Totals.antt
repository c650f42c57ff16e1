-- What two workers added comes to what each of them claims.
use Rattle.std.proofs.Common.{◌≡◌, ℕ, zero, suc, ◌<◌, List, [], ◌∷◌, ◌++◌, length, inl, inr, sym, refl, ap, ◌∙◌, subst, append_assoc, arith}
use Rattle.std.proofs.lemmas.List.{append-nil}
use mathlib.Core.Option.{some, some-injective}
use lib.ListN.{get_elem?}
use Rattle.kern_tables.specs.declared.kind.TableKind.TheVariants.{Sum}
use Rattle.class_locks.specs.declared.log.LogEntry.{LogEntry}
use Rattle.class_locks.specs.declared.view.View.{View}
use Rattle.class_locks.specs.declared.view.Claim.{Claim}
use Rattle.class_locks.specs.Logs.{Holding, entries_of_part}
use Rattle.class_locks.specs.Rule.{IsLogged}
use Rattle.class_locks.specs.Seats.{HasAll, LogsHaveGrown}
use Rattle.class_locks.specs.Views.{StandsIn, own, claims_of, both_views}
use Rattle.class_locks.proofs.Lists.{at_within}
use Rattle.class_locks.proofs.Owns.{own-append}
use Rattle.lock_uses.specs.Uses.{HasWorked, entry, visits}
use Rattle.lock_uses.specs.Crews.{entry_times, two_blank, blank_cell, HasTotal, first_view}

once : ℕ → List Claim
once op = claims_of 1 (entry op 1 ∷ []) ++ claims_of 0 (entry op 0 ∷ [])

module _ (k c op : ℕ) where
  own_more : (n : ℕ) → own 2 k c (visits op (suc n)) ≡ own 2 k c (visits op n) ++
      (own 2 k c (claims_of 1 (entry op 1 ∷ [])) ++ own 2 k c (claims_of 0 (entry op 0 ∷ [])))
  own_more n =
      own-append 2 k c (visits op n ++ claims_of 1 (entry op 1 ∷ [])) (claims_of 0 (entry op 0 ∷ []))
      ∙ (ap (λ (l : List LogEntry). l ++ own 2 k c (claims_of 0 (entry op 0 ∷ []))) (own-append 2 k c (visits op n) (claims_of 1 (entry op 1 ∷ [])))
      ∙ append_assoc (own 2 k c (visits op n)) (own 2 k c (claims_of 1 (entry op 1 ∷ []))) (own 2 k c (claims_of 0 (entry op 0 ∷ []))))

  own_visits : own 2 k c (claims_of 1 (entry op 1 ∷ [])) ++ own 2 k c (claims_of 0 (entry op 0 ∷ [])) ≡ entry op c ∷ [] → (n : ℕ)
      → own 2 k c (visits op n) ≡ entry_times n (entry op c)
  own_visits h zero = refl
  own_visits h (suc n) = own_more n
      ∙ (ap (λ (l : List LogEntry). own 2 k c (visits op n) ++ l) h ∙ ap (λ (l : List LogEntry). l ++ entry op c ∷ []) (own_visits h n))

  no_visits : own 2 k c (claims_of 1 (entry op 1 ∷ [])) ++ own 2 k c (claims_of 0 (entry op 0 ∷ [])) ≡ [] → (n : ℕ) → own 2 k c (visits op n) ≡ []
  no_visits h zero = refl
  no_visits h (suc n) = own_more n ∙ (ap (λ (l : List LogEntry). own 2 k c (visits op n) ++ l) h ∙ ap (λ (l : List LogEntry). l ++ []) (no_visits h n))

-- what both claim, for each worker and class
own_first : (a b c : ℕ) → c < 2 → own 2 0 c (visits 0 a ++ visits 1 b) ≡ entry_times a (entry 0 c)
own_first a b zero lt = own-append 2 0 0 (visits 0 a) (visits 1 b)
    ∙ (ap (λ (l : List LogEntry). own 2 0 0 (visits 0 a) ++ l) (no_visits 0 0 1 refl b) ∙ (append-nil (own 2 0 0 (visits 0 a)) ∙ own_visits 0 0 0 refl a))
own_first a b (suc zero) lt = own-append 2 0 1 (visits 0 a) (visits 1 b)
    ∙ (ap (λ (l : List LogEntry). own 2 0 1 (visits 0 a) ++ l) (no_visits 0 1 1 refl b) ∙ (append-nil (own 2 0 1 (visits 0 a)) ∙ own_visits 0 1 0 refl a))
own_first a b (suc (suc c)) lt = absurd (omega (arith, lt))

own_second : (a b c : ℕ) → c < 2 → own 2 1 c (visits 0 a ++ visits 1 b) ≡ entry_times b (entry 1 c)
own_second a b zero lt = own-append 2 1 0 (visits 0 a) (visits 1 b)
    ∙ (ap (λ (l : List LogEntry). l ++ own 2 1 0 (visits 1 b)) (no_visits 1 0 0 refl a) ∙ own_visits 1 0 1 refl b)
own_second a b (suc zero) lt = own-append 2 1 1 (visits 0 a) (visits 1 b)
    ∙ (ap (λ (l : List LogEntry). l ++ own 2 1 1 (visits 1 b)) (no_visits 1 1 0 refl a) ∙ own_visits 1 1 1 refl b)
own_second a b (suc (suc c)) lt = absurd (omega (arith, lt))

blank_there : (c : ℕ) (x : Holding) → get_elem? two_blank c ≡ some x → (x.kinds ≡ (c, Sum 0) ∷ []) × (x.log ≡ [])
blank_there zero x e = let s = sym (some-injective (blank_cell 0) x e) in (ap (λ (y : Holding). y.kinds) s, ap (λ (y : Holding). y.log) s)
blank_there (suc zero) x e = let s = sym (some-injective (blank_cell 1) x e) in (ap (λ (y : Holding). y.kinds) s, ap (λ (y : Holding). y.log) s)
blank_there (suc (suc c)) x e = absurd (let lt = at_within two_blank (suc (suc c)) x e in omega (arith, lt))

module _ (a b : ℕ) (v w : View) (one : HasWorked 0 a (first_view 0) v) (two : HasWorked 1 b (first_view 1) w) where
  seats_are : (both_views v w).seats ≡ 2
  seats_are = one.seats

  starts_are : (both_views v w).starts ≡ two_blank
  starts_are = one.starts

  claims_are : (both_views v w).claims ≡ visits 0 a ++ visits 1 b
  claims_are = ap (λ (l : List Claim). l ++ w.claims) one.claims ∙ ap (λ (l : List Claim). visits 0 a ++ l) two.claims

  has_part : (k : ℕ) → k < 2 → StandsIn k (both_views v w).parts
  has_part k lt = subst (λ (ps : List ℕ). StandsIn k (ps ++ w.parts)) (sym one.parts) (subst (λ (ps : List ℕ). StandsIn k (0 ∷ ps)) (sym two.parts) (by k lt))
    where
      by : (k : ℕ) → k < 2 → StandsIn k (0 ∷ 1 ∷ [])
      by zero lt = inl refl
      by (suc zero) lt = inr (inl refl)
      by (suc (suc k)) lt = absurd (omega (arith, lt))

  pub has_all : HasAll (both_views v w)
  has_all k lt = has_part k (subst (λ (n : ℕ). k < n) seats_are lt)

  part_is : (c k : ℕ) (x : Holding) → k < 2 → IsLogged (both_views v w) c x → entries_of_part 2 k x.log ≡ own 2 k c (visits 0 a ++ visits 1 b)
  part_is c k x lt l =
      let start = blank_there c l.start (ap (λ (s : List Holding). get_elem? s c) (sym starts_are) ∙ l.given) in
      let log : x.log ≡ l.growth = l.log ∙ ap (λ (g : List LogEntry). g ++ l.growth) start.1 in
      ap (entries_of_part 2 k) log
      ∙ (ap (λ (n : ℕ). entries_of_part n k l.growth) (sym seats_are)
      ∙ (l.owns 0 (both_views v w) refl k (has_part k lt)
      ∙ (ap (λ (n : ℕ). own n k c (both_views v w).claims) seats_are ∙ ap (own 2 k c) claims_are)))

  -- cells that have grown as both views tell have the total of the visits
  pub total : (cells : List Holding) → LogsHaveGrown (both_views v w) cells → HasTotal a b cells
  total cells h =
      let many : length cells ≡ 2 = h.as_many ∙ ap length starts_are in
      record {
        as_many = many;
        kinds = λ c x e. let l = h.each c x e in l.kinds ∙ (blank_there c l.start (ap (λ (s : List Holding). get_elem? s c) (sym starts_are) ∙ l.given)).0;
        first = λ c x e. let lt = at_within cells c x e in part_is c 0 x (omega arith) (h.each c x e) ∙ own_first a b c (omega (arith, lt, many));
        second = λ c x e. let lt = at_within cells c x e in part_is c 1 x (omega arith) (h.each c x e) ∙ own_second a b c (omega (arith, lt, many));
      }
