-- The records of a text, read one after another.
use Rattle.std.proofs.Common.{◌≡◌, ℕ, zero, suc, ◌+◌, ◌-◌, ◌≤◌, List, [], ◌∷◌, ◌++◌, length, Bool, true, false, cond, inl, refl, sym, ◌∙◌, ap, arith}
use Rattle.std.specs.Prelude.{Option, None, Some}
use Rattle.std.specs.Borrow.{Bor}
use Rattle.std.proofs.lemmas.List.{append-nil}
use Rattle.csv.specs.Machine.{Read, next_record, step, is_end, fields_after, field_after, ends_at_end}
use Rattle.csv.specs.Reading.{Reached, ReadRecord, records_from, records_next, strip_bom, default_config, is_bom}
use Rattle.csv.specs.declared.parser.Config.{Config}
use Rattle.csv.specs.declared.parser.State.{State}
use Rattle.csv.specs.declared.parser.State.TheVariants as st
use Rattle.csv.specs.declared.reader.Reader.{Reader}
use Rattle.csv.proofs.ReadFacts.{rows-end, rows-more}
use Rattle.csv_streams.specs.Records.{csv_records, IsBehind, ReadsRecord}

-- how many bytes a read leaves, and in which state
abbrev bytes_after : Option Read → ℕ
bytes_after None = 0
bytes_after (Some p) = length p.2

abbrev rest_of : Option Read → List ℕ
rest_of None = []
rest_of (Some p) = p.2

abbrev state_of : Option Read → State
state_of None = st.StartRecord
state_of (Some p) = p.1

-- the read of a byte that may end the record
one_byte : (b : Bool) (r : Read) (more : Option Read) (rest : List ℕ) (p : Read) → r.2 ≡ rest → (more ≡ Some p → length p.2 ≤ length rest)
    → cond b (Some r) more ≡ Some p → length p.2 ≤ length rest
one_byte true r more rest p is later e = omega (arith, ap bytes_after e, ap length is)
one_byte false r more rest p is later e = later e

at_end : (b : Bool) (fields : List (List ℕ)) (p : Read) → cond b (Some (fields, st.StartRecord, [])) None ≡ Some p → (p.1 ≡ st.StartRecord) × (p.2 ≡ [])
at_end true fields p e = (sym (ap state_of e), sym (ap rest_of e))
at_end false fields p e = cc

ends : (cfg : Config) (s : State) (fields : List (List ℕ)) (field : List ℕ) (p : Read) → next_record cfg s fields field [] ≡ Some p
    → (p.1 ≡ st.StartRecord) × (p.2 ≡ [])
unfolding next_record
ends cfg s fields field p e = at_end (ends_at_end s) (fields ++ (field ∷ [])) p e

no_longer : (cfg : Config) (s : State) (fields : List (List ℕ)) (field xs : List ℕ) (p : Read) → next_record cfg s fields field xs ≡ Some p
    → length p.2 ≤ length xs
unfolding next_record
no_longer cfg s fields field [] p e = omega (arith, ap length (at_end (ends_at_end s) (fields ++ (field ∷ [])) p e).1)
no_longer cfg s fields field (c ∷ rest) p e =
    let le : length p.2 ≤ length rest =
    one_byte (is_end (step cfg s c).1) (fields_after (step cfg s c).1 fields field, (step cfg s c).0, rest) _ rest p refl
    (no_longer cfg (step cfg s c).0 (fields_after (step cfg s c).1 fields field) (field_after (step cfg s c).1 c field) rest p) e in
    omega arith

shorter : (cfg : Config) (s : State) (c : ℕ) (rest : List ℕ) (p : Read) → next_record cfg s [] [] (c ∷ rest) ≡ Some p → length p.2 ≤ length rest
unfolding next_record
shorter cfg s c rest p e =
    one_byte (is_end (step cfg s c).1) (fields_after (step cfg s c).1 [] [], (step cfg s c).0, rest) _ rest p refl
    (no_longer cfg (step cfg s c).0 (fields_after (step cfg s c).1 [] []) (field_after (step cfg s c).1 c []) rest p) e

-- there is no record at the end of a text that has ended one
nothing : (cfg : Config) (p : Read) → next_record cfg st.StartRecord [] [] [] ≡ Some p → ⊥
unfolding next_record
nothing cfg p e = cc

-- there are at most as many records as bytes, and one
pub reached-length : (cfg : Config) (s : State) (xs : List ℕ) (rows : List (List (List ℕ))) (s2 : State) (ys : List ℕ) → Reached cfg s xs rows s2 ys
    → length rows ≤ length xs + 1
unfolding Reached
reached-length cfg s xs [] s2 ys r = omega arith
reached-length cfg s (c ∷ rest) (row ∷ rows) s2 ys r =
    let le : length r.0.2 ≤ length rest = shorter cfg s c rest r.0 r.1 in
    let ih : length rows ≤ length r.0.2 + 1 = reached-length cfg r.0.1 r.0.2 rows s2 ys r.3 in
    omega arith
reached-length cfg s [] (row ∷ []) s2 ys r = omega arith
reached-length cfg s [] (row ∷ next ∷ rows) s2 ys r =
    let e = ends cfg s [] [] r.0 r.1 in
    absurd (nothing cfg r.3.0 (rw (e.0, e.1) at r.3.1))

-- the records that were reached are the first of all
pub reached-records : (cfg : Config) (s : State) (xs : List ℕ) (rows : List (List (List ℕ))) (s2 : State) (ys : List ℕ) (m : ℕ) → Reached cfg s xs rows s2 ys
    → records_from cfg (length rows + m) s xs ≡ rows ++ records_from cfg m s2 ys
unfolding Reached records_from
reached-records cfg s xs [] s2 ys m r = rw (r.0, r.1) (ap (λ (k : ℕ). records_from cfg k s2 ys) (omega arith))
reached-records cfg s xs (row ∷ rows) s2 ys m r =
    let more : suc (length rows) + m ≡ suc (length rows + m) = omega arith in
    ap (λ (k : ℕ). records_from cfg k s xs) more
    ∙ ap (λ (o : Option Read). records_next (records_from cfg (length rows + m)) o) r.1
    ∙ ap (λ (l : List (List (List ℕ))). r.0.0 ∷ l) (reached-records cfg r.0.1 r.0.2 rows s2 ys m r.3)
    ∙ ap (λ (f : List (List ℕ)). f ∷ (rows ++ records_from cfg m s2 ys)) (sym r.2)

strip-length : (xs : List ℕ) → length (strip_bom xs) ≤ length xs
unfolding strip_bom
strip-length [] = omega arith
strip-length (a ∷ []) = omega arith
strip-length (a ∷ b ∷ []) = omega arith
strip-length (a ∷ b ∷ c ∷ rest) = shorter_or_same (is_bom a b c)
  where
    shorter_or_same : (t : Bool) → length (cond t rest (a ∷ b ∷ c ∷ rest)) ≤ length (a ∷ b ∷ c ∷ rest)
    shorter_or_same true = omega arith
    shorter_or_same false = omega arith

-- all the records of a text, of which these are the first
pub all-from_reached : (text : List ℕ) (rows : List (List (List ℕ))) (s2 : State) (ys : List ℕ)
    → Reached default_config st.StartRecord (strip_bom text) rows s2 ys
    → (more : List (List (List ℕ))) × (csv_records text ≡ rows ++ more) × (length rows ≤ length text + 1)
all-from_reached text rows s2 ys r =
    let xs = strip_bom text in
    let few = reached-length default_config st.StartRecord xs rows s2 ys r in
    let size : length xs + 1 ≡ length rows + (length xs + 1 - length rows) = omega arith in (
      records_from default_config (length xs + 1 - length rows) s2 ys,
      ap (λ (n : ℕ). records_from default_config n st.StartRecord xs) size
          ∙ reached-records default_config st.StartRecord xs rows s2 ys (length xs + 1 - length rows) r,
      omega (arith, strip-length text),
    )

-- no record from here on
none_from : (cfg : Config) (m : ℕ) (s : State) (ys : List ℕ) → next_record cfg s [] [] ys ≡ None → records_from cfg m s ys ≡ []
unfolding records_from
none_from cfg zero s ys none = refl
none_from cfg (suc m) s ys none = ap (λ (o : Option Read). records_next (records_from cfg m) o) none

-- all the records of a text, where there is no other
pub all-records : (text : List ℕ) (rows : List (List (List ℕ))) (s2 : State) (ys : List ℕ) → Reached default_config st.StartRecord (strip_bom text) rows s2 ys
    → next_record default_config s2 [] [] ys ≡ None → csv_records text ≡ rows
all-records text rows s2 ys r none =
    let xs = strip_bom text in
    let few = reached-length default_config st.StartRecord xs rows s2 ys r in
    let size : length xs + 1 ≡ length rows + (length xs + 1 - length rows) = omega arith in
    ap (λ (n : ℕ). records_from default_config n st.StartRecord xs) size
    ∙ reached-records default_config st.StartRecord xs rows s2 ys (length xs + 1 - length rows) r
    ∙ ap (λ (l : List (List (List ℕ))). rows ++ l) (none_from default_config (length xs + 1 - length rows) s2 ys none)
    ∙ append-nil rows

-- a reader behind some records reads the next, or there is none
pub reads-next : (bytes : List ℕ) (recs : List (List (List ℕ))) (a b : Reader (Bor (List ℕ))) (fields : List (List ℕ)) (found : Bool) → IsBehind bytes recs a
    → ReadRecord (λ s. Some s.now) a b found fields → b.first ≡ true → ReadsRecord bytes recs fields b found
reads-next bytes recs a b fields true h s first =
    let (z, at_z, more) =
    rows-more (λ (s : Bor (List ℕ)). Some s.now) a b fields default_config st.StartRecord (strip_bom bytes) h.left recs h.config h.source h.reached s in
    record { trims = s.3 ∙ h.trims; ready = inl first; config = s.2 ∙ h.config; left = z; source = at_z; reached = more }
reads-next bytes recs a b fields false h s first =
    let none = rows-end (λ (s : Bor (List ℕ)). Some s.now) a b fields default_config h.left h.config h.source s in
    all-records bytes recs a.state h.left h.reached none

-- the records that a reader is behind are the first of all
pub behind-first : (bytes : List ℕ) (recs : List (List (List ℕ))) (a : Reader (Bor (List ℕ))) → IsBehind bytes recs a
    → (more : List (List (List ℕ))) × (csv_records bytes ≡ recs ++ more)
behind-first bytes recs a h = let all = all-from_reached bytes recs a.state h.left h.reached in (all.0, all.1)
