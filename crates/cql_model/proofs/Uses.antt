-- Each use of a stream reads a queue of its own.
use Rattle.std.proofs.Common.{◌≡◌, ℕ, zero, suc, ◌+◌, ◌<◌, ◌≤◌, ◌⊎◌, inl, inr, Some, None, List, [], ◌∷◌, ◌++◌, refl, sym, ap, ◌∙◌, arith, subst, length}
use Rattle.std.proofs.Common.{⊎_elim}
use Rattle.std.specs.Prelude.{IsTrue}
use Rattle.std.specs.List.{AllByRecursion}
use Rattle.std.proofs.lemmas.Bool.{cases_lt}
use Rattle.river_plan.specs.Forms.{Name}
use Rattle.river_plan.specs.Names.{one_if, count}
use Rattle.river_plan.proofs.NameLemmas.{cases_name, count-append, one_same, more_or_zero}
use Rattle.cql_model.specs.Numeral.{numeral}
use Rattle.cql_model.specs.Plannable.{has_no_at}
use Rattle.cql_text.specs.Tree.{Query, Register, AQuery, Program}
use Rattle.cql_model.specs.Plan.{queue_of_use, queues_of_uses}
use Rattle.cql_model.proofs.Naming.{split, Tag, tagged, tags, class, split_tagged, own_count, own_base, starts_low, low_class}
use Rattle.cql_model.proofs.Counting.{among, among-append, inner_tags, inner_from}
use Rattle.cql_model.proofs.Numerals.{numeral_injective}
use Rattle.cql_model.proofs.Sums.{taken_of, copy_read, sums, FewItems}
use Rattle.std.proofs.lemmas.Option.{none-some, same_Some}

-- a use reads the stream's own queue, or a copy
pub record Own (inputs all : List Name) (n : Name) (k : ℕ) : Type 0 where
  pub input : 0 < count n inputs
  pub few : count n all ≤ 1
  pub is : queue_of_use inputs all n k ≡ tagged n None

pub record Copied (inputs all : List Name) (n : Name) (k : ℕ) : Type 0 where
  pub is : queue_of_use inputs all n k ≡ tagged n (Some (numeral (k + 1)))

-- a use reads the stream itself or one of its copies
pub which : (inputs all : List Name) (n : Name) (k : ℕ) → Own inputs all n k ⊎ Copied inputs all n k
which inputs all n k = ⊎_elim
    (λ lt. ⊎_elim
    (λ more. inr (record { is = grind (arith, more) }))
    (λ le. inl (record { input = lt; few = omega (arith, le); is = grind (arith, lt, le) }))
    (cases_lt 1 (count n all)))
    (λ z. inr (record { is = grind (arith, z) }))
    (more_or_zero (count n inputs))

module _ (inputs all : List Name) where
  -- two uses that read one queue are one, or the stream is used once
  pub one_use : (n m : Name) (k j : ℕ) → IsTrue (has_no_at n) → IsTrue (has_no_at m)
      → queue_of_use inputs all n k ≡ queue_of_use inputs all m j
      → (n ≡ m) × ((k ≡ j) ⊎ (count n all ≤ 1))
  one_use n m k j hn hm e = ⊎_elim
      (λ a. ⊎_elim
      (λ b. let s = pair (tagged n None) (tagged m None) None None (sym a.is ∙ e ∙ b.is) (split_tagged n None hn) (split_tagged m None hm) in (s.0, inr a.few))
      (λ b. let s = pair (tagged n None) (tagged m (Some (numeral (j + 1)))) None (Some (numeral (j + 1))) (sym a.is ∙ e ∙ b.is) (split_tagged n None hn)
      (split_tagged m (Some (numeral (j + 1))) hm) in absurd (none-some (numeral (j + 1)) s.1))
      (which inputs all m j))
      (λ a. ⊎_elim
      (λ b. let s = pair (tagged n (Some (numeral (k + 1)))) (tagged m None) (Some (numeral (k + 1))) None (sym a.is ∙ e ∙ b.is)
      (split_tagged n (Some (numeral (k + 1))) hn) (split_tagged m None hm) in absurd (none-some (numeral (k + 1)) (sym s.1)))
      (λ b. let s = pair (tagged n (Some (numeral (k + 1)))) (tagged m (Some (numeral (j + 1)))) (Some (numeral (k + 1))) (Some (numeral (j + 1)))
      (sym a.is ∙ e ∙ b.is) (split_tagged n (Some (numeral (k + 1))) hn) (split_tagged m (Some (numeral (j + 1))) hm) in
      let d = numeral_injective (k + 1) (j + 1) (same_Some (numeral (k + 1)) (numeral (j + 1)) s.1) in (s.0, inl (omega (arith, d))))
      (which inputs all m j))
      (which inputs all n k)
    where
      pair : (x y : Name) (s t : Tag) → x ≡ y → split x ≡ (n, s) → split y ≡ (m, t) → (n ≡ m) × (s ≡ t)
      pair x y s t same p q = let r : (n, s) ≡ (m, t) = sym p ∙ ap split same ∙ q in (ap (λ (v : Name × Tag). v.0) r, ap (λ (v : Name × Tag). v.1) r)

  abbrev pub Plain : List Name → Type 0
  Plain ns = AllByRecursion (λ n. IsTrue (has_no_at n)) ns

  -- there are copies for the uses so far
  abbrev pub Room : List Name → List Name → Type 0
  Room past ns = (n : Name) → count n past + count n ns ≤ count n all

  next_room : (past : List Name) (m : Name) (ns : List Name) → Room past (m ∷ ns) → Room (past ++ m ∷ []) ns
  next_room past m ns r n = let a = count-append n past (m ∷ []) in let b = r n in omega (arith, a, b)

  -- what an earlier use reads is not read again
  pub not_again : (n : Name) (k : ℕ) (past ns : List Name) → IsTrue (has_no_at n) → Plain ns → Room past ns → k < count n past
      → count (queue_of_use inputs all n k) (queues_of_uses inputs all past ns) ≡ 0
  not_again n k past [] hn hs r lt = refl
  not_again n k past (m ∷ ms) hn hs r lt =
      let rn = r n in let rm = r m in
      let rest = not_again n k (past ++ m ∷ []) ms hn hs.1 (next_room past m ms r) (let a = count-append n past (m ∷ []) in omega (arith, a, lt)) in
      let o = one_same m in
      ⊎_elim
      (λ c. let u = one_use m n (count m past) k hs.0 hn c.0 in
      let lt' : k < count m past = subst (λ x. k < count x past) (sym u.0) lt in
      absurd (⊎_elim (λ e. omega (arith, e, lt')) (λ le. omega (arith, le, lt', rm, o)) u.1))
      (λ c. let z = ap one_if c.1 in omega (arith, z, rest))
      (cases_name (queue_of_use inputs all m (count m past)) (queue_of_use inputs all n k))

  -- no queue is read by two uses
  pub read_once : (z : Name) (past ns : List Name) → Plain ns → Room past ns → count z (queues_of_uses inputs all past ns) ≤ 1
  read_once z past [] hs r = omega arith
  read_once z past (m ∷ ms) hs r = ⊎_elim
      (λ c. let rest = not_again m (count m past) (past ++ m ∷ []) ms hs.0 hs.1 (next_room past m ms r)
      (let a = count-append m past (m ∷ []) in let o = one_same m in omega (arith, a, o)) in
      let rest2 : count z (queues_of_uses inputs all (past ++ m ∷ []) ms) ≡ 0 =
      subst (λ x. count x (queues_of_uses inputs all (past ++ m ∷ []) ms) ≡ 0) c.0 rest in
      let f = ap one_if c.1 in omega (arith, f, rest2))
      (λ c. let f = ap one_if c.1 in let m2 = read_once z (past ++ m ∷ []) ms hs.1 (next_room past m ms r) in omega (arith, f, m2))
      (cases_name (queue_of_use inputs all m (count m past)) z)

  -- a queue that a use reads
  pub record Hit (z : Name) : Type 0 where
    pub stream : Name
    pub number : ℕ
    pub plain : IsTrue (has_no_at stream)
    pub below : number < count stream all
    pub is : queue_of_use inputs all stream number ≡ z

  -- a queue that is read is of a stream that is used
  pub hit : (z : Name) (past ns : List Name) → Plain ns → Room past ns → 0 < count z (queues_of_uses inputs all past ns) → Hit z
  hit z past [] hs r lt = absurd (omega (arith, lt))
  hit z past (m ∷ ms) hs r lt = ⊎_elim
      (λ c. record { stream = m; number = count m past; plain = hs.0; below = let a = r m in let o = one_same m in omega (arith, a, o); is = c.0 })
      (λ c. hit z (past ++ m ∷ []) ms hs.1 (next_room past m ms r) (let f = ap one_if c.1 in omega (arith, f, lt)))
      (cases_name (queue_of_use inputs all m (count m past)) z)

  -- such a queue is no output, and read by nothing else
  abbrev pub Apart : Program → Type 0
  Apart [] = Unit {0}
  Apart (Register name fields ∷ ps) = IsTrue (has_no_at name) × Apart ps
  Apart (AQuery q ∷ ps) = IsTrue (has_no_at q.name) × (count q.name inputs ≡ 0) × Apart ps

  none_hit : (z b : Name) (ts : List Tag) → IsTrue (has_no_at b) → tags (split z).1 ts ≡ 0 → among z b ts ≡ 0
  none_hit z b ts h e = let o = own_count b z ts h in omega (arith, o, e)

  -- an own queue
  not_read : (u : ℕ) (t : Tag) → u ≤ 1 → tags t (copy_read u) ≡ 0
  not_read zero t h = refl
  not_read (suc zero) t h = refl
  not_read (suc (suc u)) t h = absurd (omega (arith, h))

  inner_plain : (u : ℕ) (q : Query) → length q.items ≤ 4 → tags None (inner_tags u q) ≡ 0
  inner_plain u q h = ⊎_elim (λ lt. absurd (let a = (inner_from u q h).above None lt in omega (arith, a))) (λ z. z) (more_or_zero (tags None (inner_tags u q)))

  inner_low : (u : ℕ) (q : Query) (t : Tag) → length q.items ≤ 4 → class t ≡ 2 → tags t (inner_tags u q) ≡ 0
  inner_low u q t h c = ⊎_elim (λ lt. absurd (let a = (inner_from u q h).above t lt in omega (arith, a, c))) (λ z. z) (more_or_zero (tags t (inner_tags u q)))

  own_apart : (n : Name) (ps : Program) → IsTrue (has_no_at n) → 0 < count n inputs → count n all ≤ 1 → Apart ps → FewItems ps → sums (taken_of all) n ps ≡ 0
  own_apart n [] hn i f a h = refl
  own_apart n (Register name fields ∷ ps) hn i f a h =
      let m = own_apart n ps hn i f a.1 h in
      let here : among n name (copy_read (count name all)) ≡ 0 = ⊎_elim
      (λ lt. let e : n ≡ name = sym (ap (λ (x : Name × Tag). x.0) (split_tagged n None hn)) ∙ own_base name n (copy_read (count name all)) a.0 lt in
      none_hit n name (copy_read (count name all)) a.0 (not_read (count name all) (split n).1 (subst (λ x. count x all ≤ 1) e f)))
      (λ z. z)
      (more_or_zero (among n name (copy_read (count name all)))) in
      omega (arith, m, here)
  own_apart n (AQuery q ∷ ps) hn i f a h =
      let m = own_apart n ps hn i f a.2 h.2 in
      let u = count q.name all in
      let t : (split n).1 ≡ None = ap (λ (x : Name × Tag). x.1) (split_tagged n None hn) in
      let inner = none_hit n q.name (inner_tags u q) a.0 (subst (λ x. tags x (inner_tags u q) ≡ 0) (sym t) (inner_plain u q h.1)) in
      let b = among-append n q.name (None ∷ []) (inner_tags u q) in
      ⊎_elim
      (λ c. absurd (let z : count n inputs ≡ 0 = subst (λ x. count x inputs ≡ 0) c.0 a.1 in omega (arith, i, z)))
      (λ c. let o = ap one_if c.1 in omega (arith, m, inner, b, o))
      (cases_name q.name n)

  copy_apart : (z : Name) (ds : List ℕ) (ps : Program) → (split z).1 ≡ Some ds → class (Some ds) ≡ 2 → Apart ps → FewItems ps → sums (taken_of all) z ps ≡ 0
  copy_apart z ds [] s c a h = refl
  copy_apart z ds (Register name fields ∷ ps) s c a h =
      let m = copy_apart z ds ps s c a.1 h in
      let here = none_hit z name (copy_read (count name all)) a.0 (subst (λ x. tags x (copy_read (count name all)) ≡ 0) (sym s) (by (count name all))) in
      omega (arith, m, here)
    where
      by : (u : ℕ) → tags (Some ds) (copy_read u) ≡ 0
      by zero = refl
      by (suc zero) = refl
      by (suc (suc u)) = refl
  copy_apart z ds (AQuery q ∷ ps) s c a h =
      let m = copy_apart z ds ps s c a.2 h.2 in
      let u = count q.name all in
      let plain = none_hit z q.name (None ∷ []) a.0 (subst (λ x. tags x (None ∷ []) ≡ 0) (sym s) refl) in
      let inner = none_hit z q.name (inner_tags u q) a.0 (subst (λ x. tags x (inner_tags u q) ≡ 0) (sym s) (inner_low u q (Some ds) h.1 c)) in
      let b = among-append z q.name (None ∷ []) (inner_tags u q) in
      omega (arith, m, inner, b, plain)

  -- and is no inner queue of a query
  pub hit_apart : (z : Name) (ps : Program) → Hit z → Apart ps → FewItems ps → sums (taken_of all) z ps ≡ 0
  hit_apart z ps g a h = ⊎_elim
      (λ o. subst (λ x. sums (taken_of all) x ps ≡ 0) (sym o.is ∙ g.is) (own_apart g.stream ps g.plain o.input o.few a h))
      (λ c. let k = g.number in
      let s : (split z).1 ≡ Some (numeral (k + 1)) = ap (λ x. (split x).1) (sym g.is ∙ c.is)
      ∙ ap (λ (x : Name × Tag). x.1) (split_tagged g.stream (Some (numeral (k + 1))) g.plain) in
      copy_apart z (numeral (k + 1)) ps s (low_class (numeral (k + 1)) (starts_low (k + 1))) a h)
      (which inputs all g.stream g.number)
