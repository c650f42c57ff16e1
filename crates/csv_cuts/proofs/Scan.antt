-- Where a piece ends is found byte by byte.
use Rattle.std.proofs.Common.{◌≡◌, ℕ, zero, suc, ◌+◌, ◌-◌, ◌<◌, ◌≤◌, ◌==◌, ◌⊎◌, inl, inr, Bool, true, false, List, [], ◌∷◌, ◌++◌, length, take, drop, refl, sym}
use Rattle.std.proofs.Common.{ap, ◌∙◌, subst, arith, get_or}
use Rattle.std.specs.Prelude.{◌↔◌, ◌&&◌, ◌||◌, not, if◌then◌else◌, nat_lt, nat_le}
use Rattle.std.proofs.lemmas.Bool.{true≢false, and_parts, eqb-true, ltb-true, ltb-false, lt-ltb, leb-true, leb-false}
use Rattle.std.proofs.lemmas.List.{drop_more}
use Rattle.std.proofs.Math.Seq.{take-add}
use Rattle.csv.specs.Reading.{strip_bom}
use Rattle.csv.specs.declared.parser.State.{State}
use Rattle.csv.specs.declared.parser.State.TheVariants as st
use Rattle.csv_streams.specs.FilePieces.{state_behind, EndsRecord}
use Rattle.csv_streams.specs.Records.{csv_records}
use Rattle.csv_cuts.specs.Cut.{HasFew, csv_state_after, ends, is_start, is_marked, records_in, mark_length}
use Rattle.csv_cuts.specs.Window.{CutsOff, NoneUpTo, IsPieceEnd, is_end, better, count_on, at_last}
use Rattle.csv_cuts.proofs.Marks.{start-is, unmarked-strips, unmarked-test, marked-strips, records-many, mark-take, in-one, in-two}

-- HOW MANY RECORDS ENDED

pub ended : State → List ℕ → ℕ
ended s [] = 0
ended s (c ∷ cs) = count_on (ends s c) (ended (csv_state_after s c) cs)

records-ended : (s : State) (xs : List ℕ) → records_in s xs ≡ ended s xs + at_last (state_behind s xs)
unfolding ended
records-ended s [] = omega arith
records-ended s (c ∷ cs) =
    by (ends s c) (records_in (csv_state_after s c) cs) (ended (csv_state_after s c) cs) (at_last (state_behind (csv_state_after s c) cs))
    (records-ended (csv_state_after s c) cs)
  where
    by : (b : Bool) (n m k : ℕ) → n ≡ m + k → (if b then suc n else n) ≡ count_on b m + k
    by true n m k e = omega (arith, e)
    by false n m k e = e

ended-append : (s : State) (xs ys : List ℕ) → ended s (xs ++ ys) ≡ ended s xs + ended (state_behind s xs) ys
unfolding ended
ended-append s [] ys = omega arith
ended-append s (c ∷ cs) ys =
    by (ends s c) (ended (csv_state_after s c) (cs ++ ys)) (ended (csv_state_after s c) cs) (ended (state_behind (csv_state_after s c) cs) ys)
    (ended-append (csv_state_after s c) cs ys)
  where
    by : (b : Bool) (n m k : ℕ) → n ≡ m + k → count_on b n ≡ count_on b m + k
    by true n m k e = omega (arith, e)
    by false n m k e = e

pub behind-append : (s : State) (xs ys : List ℕ) → state_behind s (xs ++ ys) ≡ state_behind (state_behind s xs) ys
behind-append s [] ys = refl
behind-append s (c ∷ cs) ys = behind-append (csv_state_after s c) cs ys

-- BYTES BEHIND THE MARK

-- the bytes up to a place, without the mark at the front
abbrev pub read_to : List ℕ → ℕ → List ℕ
read_to bytes place = strip_bom (take place bytes)

marked-more : (bytes : List ℕ) (n : ℕ) → is_marked bytes ≡ true → 3 ≤ n → read_to bytes n ≡ drop 3 (take n bytes)
marked-more [] n h l = absurd (true≢false (sym h))
marked-more (a ∷ []) n h l = absurd (true≢false (sym h))
marked-more (a ∷ b ∷ []) n h l = absurd (true≢false (sym h))
marked-more (a ∷ b ∷ c ∷ r) zero h l = absurd (omega (arith, l))
marked-more (a ∷ b ∷ c ∷ r) (suc zero) h l = absurd (omega (arith, l))
marked-more (a ∷ b ∷ c ∷ r) (suc (suc zero)) h l = absurd (omega (arith, l))
marked-more (a ∷ b ∷ c ∷ r) (suc (suc (suc p))) h l = marked-strips a b c (take p r) h

drop3-append : (xs ys : List ℕ) → 3 ≤ length xs → drop 3 (xs ++ ys) ≡ drop 3 xs ++ ys
drop3-append [] ys l = absurd (omega (arith, l))
drop3-append (a ∷ []) ys l = absurd (omega (arith, l))
drop3-append (a ∷ b ∷ []) ys l = absurd (omega (arith, l))
drop3-append (a ∷ b ∷ c ∷ r) ys l = refl

take3 : (bytes : List ℕ) (n : ℕ) → is_marked bytes ≡ true → 3 ≤ n → 3 ≤ length (take n bytes)
take3 [] n h l = absurd (true≢false (sym h))
take3 (a ∷ []) n h l = absurd (true≢false (sym h))
take3 (a ∷ b ∷ []) n h l = absurd (true≢false (sym h))
take3 (a ∷ b ∷ c ∷ r) zero h l = absurd (omega (arith, l))
take3 (a ∷ b ∷ c ∷ r) (suc zero) h l = absurd (omega (arith, l))
take3 (a ∷ b ∷ c ∷ r) (suc (suc zero)) h l = absurd (omega (arith, l))
take3 (a ∷ b ∷ c ∷ r) (suc (suc (suc p))) h l = omega arith

-- so many bytes more
pub reads-on : (bytes : List ℕ) (n k : ℕ) → mark_length bytes ≤ n → read_to bytes (n + k) ≡ read_to bytes n ++ take k (drop n bytes)
reads-on bytes n k l = by (is_marked bytes) refl l where
  by : (b : Bool) → is_marked bytes ≡ b → (if b then 3 else 0) ≤ n → read_to bytes (n + k) ≡ read_to bytes n ++ take k (drop n bytes)
  by true h l =
      marked-more bytes (n + k) h (omega (arith, l)) ∙ ap (drop 3) (take-add n k bytes)
      ∙ drop3-append (take n bytes) (take k (drop n bytes)) (take3 bytes n h l)
      ∙ ap (λ (xs : List ℕ). xs ++ take k (drop n bytes)) (sym (marked-more bytes n h l))
  by false h l =
      unmarked-strips (take (n + k) bytes) (mark-take bytes (n + k) h) ∙ take-add n k bytes
      ∙ ap (λ (xs : List ℕ). xs ++ take k (drop n bytes)) (sym (unmarked-strips (take n bytes) (mark-take bytes n h)))

-- one byte more
reads-one : (bytes : List ℕ) (n d : ℕ) → mark_length bytes ≤ n → n < length bytes → read_to bytes (n + 1) ≡ read_to bytes n ++ get_or bytes n d ∷ []
reads-one bytes n d m l = reads-on bytes n 1 m ∙ ap (λ (xs : List ℕ). read_to bytes n ++ take 1 xs) (drop_more bytes n d l)

-- nothing is read in the mark
reads-none : (bytes : List ℕ) → read_to bytes (mark_length bytes) ≡ []
reads-none bytes = by bytes (is_marked bytes) refl where
  by : (bytes : List ℕ) (b : Bool) → is_marked bytes ≡ b → read_to bytes (if b then 3 else 0) ≡ []
  by bytes false h = unmarked-strips [] refl
  by [] true h = absurd (true≢false (sym h))
  by (a ∷ []) true h = absurd (true≢false (sym h))
  by (a ∷ b ∷ []) true h = absurd (true≢false (sym h))
  by (a ∷ b ∷ c ∷ r) true h = marked-strips a b c [] h

-- A PLACE

-- behind these bytes the reader stands so, and so many records ended
pub record Stands (bytes : List ℕ) (place : ℕ) (s : State) (count : ℕ) : Type 0 where
  pub state : state_behind st.StartRecord (read_to bytes place) ≡ s
  pub count_is : ended st.StartRecord (read_to bytes place) ≡ count

many : (bytes : List ℕ) (place : ℕ) → length (csv_records (take place bytes))
    ≡ ended st.StartRecord (read_to bytes place) + at_last (state_behind st.StartRecord (read_to bytes place))
many bytes place = records-many (take place bytes) ∙ records-ended st.StartRecord (read_to bytes place)

-- where a record may begin, as many records are before it as ended
many-start : (bytes : List ℕ) (place : ℕ) (s : State) (count : ℕ) → Stands bytes place s count → EndsRecord (take place bytes)
    → length (csv_records (take place bytes)) ≡ count
many-start bytes place s count h e =
    let m = many bytes place in
    let z : at_last (state_behind st.StartRecord (read_to bytes place)) ≡ 0 = ap at_last e in
    let c = h.count_is in omega (arith, m, z, c)

end-cuts : (bytes : List ℕ) (place : ℕ) (s : State) (count : ℕ) → Stands bytes place s count → is_end s count (drop place bytes) ≡ true → CutsOff bytes place
end-cuts bytes place s count h t =
    let a = and_parts (is_start s) (nat_lt 0 count && not (is_marked (drop place bytes))) t in
    let b = and_parts (nat_lt 0 count) (not (is_marked (drop place bytes))) a.1 in
    let e : EndsRecord (take place bytes) = h.state ∙ start-is s a.0 in
    record {
      ends = e;
      unmarked = unmarked-strips (drop place bytes) (not-true (is_marked (drop place bytes)) b.1);
      some = (let m = many-start bytes place s count h e in let l = ltb-true 0 count b.0 in omega (arith, m, l));
    }
  where
    not-true : (b : Bool) → not b ≡ true → b ≡ false
    not-true true e = absurd (true≢false (sym e))
    not-true false e = refl

cuts-end : (bytes : List ℕ) (place : ℕ) (s : State) (count : ℕ) → Stands bytes place s count → CutsOff bytes place → is_end s count (drop place bytes) ≡ true
cuts-end bytes place s count h c =
    let start : is_start s ≡ true = ap is_start (sym h.state ∙ c.ends) in
    let some : nat_lt 0 count ≡ true = (let m = many-start bytes place s count h c.ends in let l = c.some in lt-ltb 0 count (omega (arith, m, l))) in
    let un : is_marked (drop place bytes) ≡ false = unmarked-test (drop place bytes) c.unmarked in
    (λ i. start i && (some i && not (un i)))

-- one byte on
stands-on : (bytes : List ℕ) (place d : ℕ) (s : State) (count byte : ℕ) → mark_length bytes ≤ place → place < length bytes → byte ≡ get_or bytes place d
    → Stands bytes place s count → Stands bytes (place + 1) (csv_state_after s byte) (count_on (ends s byte) count)
unfolding ended
stands-on bytes place d s count byte m l e h = record {
  state = ap (state_behind st.StartRecord) one ∙ behind-append st.StartRecord (read_to bytes place) (byte ∷ [])
      ∙ ap (λ (t : State). csv_state_after t byte) h.state;
  count_is = ap (ended st.StartRecord) one ∙ ended-append st.StartRecord (read_to bytes place) (byte ∷ [])
      ∙ (λ i. h.count_is i + ended (h.state i) (byte ∷ [])) ∙ by (ends s byte);
} where
  one : read_to bytes (place + 1) ≡ read_to bytes place ++ byte ∷ []
  one = reads-one bytes place d m l ∙ ap (λ (x : ℕ). read_to bytes place ++ x ∷ []) (sym e)

  by : (b : Bool) → count + count_on b 0 ≡ count_on b count
  by true = omega arith
  by false = omega arith

-- THE LOOP

-- what is known at a place
pub record ScanSo (bytes : List ℕ) (records place : ℕ) (s : State) (count last : ℕ) : Type 0 where
  pub stands : Stands bytes place s count
  pub none : last ≡ 0 → NoneUpTo bytes place
  pub found : 0 < last → IsPieceEnd bytes records place last

no-records : (bytes : List ℕ) (place : ℕ) → read_to bytes place ≡ [] → CutsOff bytes place → ⊥
unfolding ended
no-records bytes place e c =
    let m = many bytes place in
    let z : ended st.StartRecord (read_to bytes place) + at_last (state_behind st.StartRecord (read_to bytes place)) ≡ 0 + 0 =
    ap (λ (xs : List ℕ). ended st.StartRecord xs + at_last (state_behind st.StartRecord xs)) e in
    let s = c.some in omega (arith, m, z, s)

pub none-first : (bytes : List ℕ) → NoneUpTo bytes (mark_length bytes)
none-first bytes = by bytes (is_marked bytes) refl where
  by : (bytes : List ℕ) (b : Bool) → is_marked bytes ≡ b → NoneUpTo bytes (if b then 3 else 0)
  by bytes false h zero l c = no-records bytes zero (unmarked-strips [] refl) c
  by bytes false h (suc place) l c = absurd (omega (arith, l))
  by [] true h place l c = absurd (true≢false (sym h))
  by (a ∷ []) true h place l c = absurd (true≢false (sym h))
  by (a ∷ b ∷ []) true h place l c = absurd (true≢false (sym h))
  by (a ∷ b ∷ x ∷ r) true h zero l c = no-records (a ∷ b ∷ x ∷ r) zero (unmarked-strips [] refl) c
  by (a ∷ b ∷ x ∷ r) true h (suc zero) l c = in-one a b x h c.ends
  by (a ∷ b ∷ x ∷ r) true h (suc (suc zero)) l c = in-two a b x h c.ends
  by (a ∷ b ∷ x ∷ r) true h (suc (suc (suc zero))) l c = no-records (a ∷ b ∷ x ∷ r) 3 (marked-strips a b x [] h) c
  by (a ∷ b ∷ x ∷ r) true h (suc (suc (suc (suc place)))) l c = absurd (omega (arith, l))

-- at the front
pub scan-first : (bytes : List ℕ) (records front : ℕ) → front ≡ mark_length bytes → ScanSo bytes records front st.StartRecord 0 0
unfolding ended
scan-first bytes records front e = subst (λ (k : ℕ). ScanSo bytes records k st.StartRecord 0 0) (sym e) (record {
  stands = record { state = ap (state_behind st.StartRecord) (reads-none bytes); count_is = ap (ended st.StartRecord) (reads-none bytes) };
  none = λ z. none-first bytes;
  found = λ l. absurd (omega (arith, l));
})

last-or : (q k : ℕ) → q ≤ k + 1 → (q ≤ k) ⊎ (q ≡ k + 1)
last-or q k l = by (nat_le q k) refl where
  by : (b : Bool) → nat_le q k ≡ b → (q ≤ k) ⊎ (q ≡ k + 1)
  by true e = inl (leb-true q k e)
  by false e = inr (let m = leb-false q k e in omega (arith, l, m))

-- one byte on
pub scan-next : (bytes : List ℕ) (records place d : ℕ) (s : State) (count last byte : ℕ) → mark_length bytes ≤ place → place < length bytes
    → byte ≡ get_or bytes place d → ScanSo bytes records place s count last
    → ScanSo bytes records (place + 1) (csv_state_after s byte) (count_on (ends s byte) count)
    (better (is_end (csv_state_after s byte) (count_on (ends s byte) count) (drop (place + 1) bytes)) (count_on (ends s byte) count) records last (place + 1))
scan-next bytes records place d s count last byte m l e so = by (is_end s2 n (drop (place + 1) bytes)) refl (nat_le n records) refl (last == 0) refl where
  s2 : State
  s2 = csv_state_after s byte

  n : ℕ
  n = count_on (ends s byte) count

  here : Stands bytes (place + 1) (csv_state_after s byte) (count_on (ends s byte) count)
  here = stands-on bytes place d s count byte m l e so.stands

  cuts : is_end s2 n (drop (place + 1) bytes) ≡ true → CutsOff bytes (place + 1)
  cuts t = end-cuts bytes (place + 1) s2 n here t

  few : is_end s2 n (drop (place + 1) bytes) ≡ true → n ≤ records → HasFew bytes records (place + 1)
  few t l = let m = many-start bytes (place + 1) s2 n here (cuts t).ends in omega (arith, m, l)

  none-next : NoneUpTo bytes place → is_end s2 n (drop (place + 1) bytes) ≡ false → (q : ℕ) → (q ≤ place) ⊎ (q ≡ place + 1) → CutsOff bytes q → ⊥
  none-next none t q (inl l) c = none q l c
  none-next none t q (inr e) c = true≢false (sym (cuts-end bytes (place + 1) s2 n here (subst (CutsOff bytes) e c)) ∙ t)

  kept : IsPieceEnd bytes records place last → (CutsOff bytes (place + 1) → HasFew bytes records (place + 1) → ⊥) → IsPieceEnd bytes records (place + 1) last
  kept so not = record {
    within = (let w = so.within in omega (arith, w));
    cuts = so.cuts;
    few = so.few;
    last = λ other a b c f. later other a (last-or other place b) c f;
  } where
    later : (other : ℕ) → last < other → (other ≤ place) ⊎ (other ≡ place + 1) → CutsOff bytes other → HasFew bytes records other → ⊥
    later other a (inl l) c f = so.last other a l c f
    later other a (inr e) c f = not (subst (CutsOff bytes) e c) (subst (HasFew bytes records) e f)

  by : (b : Bool) → is_end s2 n (drop (place + 1) bytes) ≡ b → (f : Bool) → nat_le n records ≡ f → (z : Bool) → (last == 0) ≡ z
      → ScanSo bytes records (place + 1) s2 n (if b && (f || z) then place + 1 else last)
  by true t true g z h = record {
    stands = here;
    none = λ e. absurd (omega (arith, e));
    found = λ l. record {
      within = omega arith;
      cuts = cuts t;
      few = inl (few t (leb-true n records g));
      last = λ other a b c f. absurd (omega (arith, a, b));
    };
  }
  by true t false g true h = record {
    stands = here;
    none = λ e. absurd (omega (arith, e));
    found = λ l. record {
      within = omega arith;
      cuts = cuts t;
      few = inr (λ other a c. so.none (eqb-true last 0 h) other (omega (arith, a)) c);
      last = λ other a b c f. absurd (omega (arith, a, b));
    };
  }
  by true t false g false h = record {
    stands = here;
    none = λ e. absurd (true≢false (sym (ap (λ (k : ℕ). k == 0) e) ∙ h));
    found = λ l. kept (so.found l) (λ c f. (let m = many-start bytes (place + 1) s2 n here c.ends in let k = leb-false n records g in absurd (omega (arith, m, k, f))));
  }
  by false t f g z h = record {
    stands = here;
    none = λ e q l c. none-next (so.none e) t q (last-or q place l) c;
    found = λ l. kept (so.found l) (λ c f. absurd (true≢false (sym (cuts-end bytes (place + 1) s2 n here c) ∙ t)));
  }

-- too many records follow the last place
pub scan-full : (bytes : List ℕ) (records most place d : ℕ) (s : State) (count last byte : ℕ) → mark_length bytes ≤ place → place < length bytes
    → byte ≡ get_or bytes place d → ScanSo bytes records place s count last → ends s byte ≡ true → 0 < last → records ≤ count → place < most
    → IsPieceEnd bytes records most last
scan-full bytes records most place d s count last byte m l e so t some full w = record {
  within = (let h = end.within in omega (arith, h, w));
  cuts = end.cuts;
  few = end.few;
  last = λ other a b c f. later other a (nat_le other place) refl c f;
} where
  end : IsPieceEnd bytes records place last
  end = so.found some

  here : Stands bytes (place + 1) (csv_state_after s byte) (count_on (ends s byte) count)
  here = stands-on bytes place d s count byte m l e so.stands

  enough : ended st.StartRecord (read_to bytes (place + 1)) ≡ count + 1
  enough = here.count_is ∙ ap (λ (b : Bool). count_on b count) t

  too-many : (k : ℕ) → HasFew bytes records (place + 1 + k) → ⊥
  too-many k f =
      let more = ap (ended st.StartRecord) (reads-on bytes (place + 1) k (omega (arith, m)))
      ∙ ended-append st.StartRecord (read_to bytes (place + 1)) (take k (drop (place + 1) bytes)) in
      let n = many bytes (place + 1 + k) in
      let one = enough in
      omega (arith, more, n, one, f, full)

  later : (other : ℕ) → last < other → (b : Bool) → nat_le other place ≡ b → CutsOff bytes other → HasFew bytes records other → ⊥
  later other a true g c f = end.last other a (leb-true other place g) c f
  later other a false g c f =
      let k = leb-false other place g in
      let is : other ≡ place + 1 + (other - (place + 1)) = omega (arith, k) in
      too-many (other - (place + 1)) (subst (HasFew bytes records) is f)

-- in the mark there is none
pub none-in-mark : (bytes : List ℕ) (most : ℕ) → most < mark_length bytes → NoneUpTo bytes most
none-in-mark bytes most l place p c = none-first bytes place (omega (arith, l, p)) c

pub ruleset whole = (none-in-mark)

-- a record more ended
pub scan-many : (bytes : List ℕ) (records most place d : ℕ) (s : State) (count last byte : ℕ) → mark_length bytes ≤ place → place < length bytes
    → byte ≡ get_or bytes place d → ScanSo bytes records place s count last → ends s byte ≡ true → records ≤ count → place < most
    → records < length (csv_records (take most bytes))
scan-many bytes records most place d s count last byte m l e so t full w =
    let here = stands-on bytes place d s count byte m l e so.stands in
    let one : ended st.StartRecord (read_to bytes (place + 1)) ≡ count + 1 = here.count_is ∙ ap (λ (b : Bool). count_on b count) t in
    let k = most - (place + 1) in
    let is : most ≡ place + 1 + (most - (place + 1)) = omega (arith, w) in
    let more = ap (ended st.StartRecord) (ap (read_to bytes) is ∙ reads-on bytes (place + 1) (most - (place + 1)) (omega (arith, m)))
    ∙ ended-append st.StartRecord (read_to bytes (place + 1)) (take (most - (place + 1)) (drop (place + 1) bytes)) in
    let n = many bytes most in omega (arith, more, n, one, full)

-- so many records have the bytes
pub scan-count : (bytes : List ℕ) (place : ℕ) (s : State) (count : ℕ) → Stands bytes place s count → length (csv_records (take place bytes)) ≡ count + at_last s
scan-count bytes place s count h = many bytes place ∙ (λ i. h.count_is i + at_last (h.state i))

pub not-many : (b : Bool) (n m : ℕ) → (b ≡ true) ↔ (n < m) → b ≡ false → m ≤ n
not-many b n m h e = by (nat_lt n m) refl where
  by : (t : Bool) → nat_lt n m ≡ t → m ≤ n
  by true l = absurd (true≢false (sym (h.1 (ltb-true n m l)) ∙ e))
  by false l = ltb-false n m l

pub count_on-le : (ended : Bool) (n k : ℕ) → n ≤ k → count_on ended n ≤ k + 1
count_on-le true n k l = omega (arith, l)
count_on-le false n k l = omega (arith, l)
