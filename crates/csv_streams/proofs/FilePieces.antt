-- Files that are cut behind a record.
use Rattle.std.proofs.Common.{◌≡◌, ℕ, zero, suc, ◌+◌, ◌≤◌, ◌==◌, ℤ, Bool, true, false, List, [], ◌∷◌, ◌++◌, length, drop, Some, None, refl, sym, ap, ◌∙◌, subst, arith}
use Rattle.std.specs.Prelude.{if◌then◌else◌, ◌&&◌}
use Rattle.std.proofs.lemmas.Bool.{true≢false, eqb-true}
use Rattle.std.proofs.lemmas.List.{drop-append-le}
use Rattle.csv.specs.Machine.{step, next_record, ends_at_end, ends_with, after_end, in_field, start_field, start_record, is_end, fields_after, field_after}
use Rattle.csv.specs.Reading.{default_config, records_from, records_next, strip_bom, records, is_bom}
use Rattle.csv.specs.declared.parser.Action.{Action}
use Rattle.csv.specs.declared.parser.Action.TheVariants as act
use Rattle.csv.specs.declared.parser.State.{State}
use Rattle.csv.specs.declared.parser.State.TheVariants as st
use Rattle.csv_streams.specs.FilePieces.{state_behind, EndsRecord, IsUnmarked, RecordsInPieces, RowsInPieces}
use Rattle.csv_streams.specs.Records.{csv_records}
use Rattle.csv_streams.specs.Rows.{headers}
use Rattle.csv_streams.specs.Written.{WriteRows}

abbrev pub after : State → ℕ → State
after s c = (step default_config s c).0

abbrev pub does : State → ℕ → Action
does s c = (step default_config s c).1

-- ALL RECORDS IN ONE GO

-- the records that a text has from a state on, with the fields and the field begun so far
abbrev pub all_from : State → List (List ℕ) → List ℕ → List ℕ → List (List (List ℕ))
all_from s fs f [] = if ends_at_end s then (fs ++ f ∷ []) ∷ [] else []
all_from s fs f (c ∷ cs) =
    if is_end (does s c) then fields_after (does s c) fs f ∷ all_from (after s c) [] [] cs
    else all_from (after s c) (fields_after (does s c) fs f) (field_after (does s c) c f) cs

none_left : (n : ℕ) → records_from default_config n st.StartRecord [] ≡ []
unfolding records_from next_record
none_left zero = refl
none_left (suc n) = refl

one_more : (n : ℕ) (s : State) (cs : List ℕ) → records_next (records_from default_config n) (next_record default_config s [] [] cs) ≡ all_from s [] [] cs
    → records_from default_config (suc n) s cs ≡ all_from s [] [] cs
unfolding records_from
one_more n s cs e = e

in_one_go : (n : ℕ) (s : State) (fs : List (List ℕ)) (f bytes : List ℕ) → length bytes ≤ n
    → records_next (records_from default_config n) (next_record default_config s fs f bytes) ≡ all_from s fs f bytes
unfolding next_record
in_one_go n s fs f [] h = at_end (ends_at_end s) where
  at_end : (b : Bool) → records_next (records_from default_config n) (if b then Some (fs ++ f ∷ [], st.StartRecord, []) else None)
      ≡ (if b then (fs ++ f ∷ []) ∷ [] else [])
  at_end true = ap (λ l. (fs ++ f ∷ []) ∷ l) (none_left n)
  at_end false = refl
in_one_go zero s fs f (c ∷ cs) h = absurd (omega (arith, h))
in_one_go (suc n) s fs f (c ∷ cs) h =
    either (is_end (does s c)) (one_more n (after s c) cs (in_one_go n (after s c) [] [] cs (omega (arith, h))))
    (in_one_go (suc n) (after s c) (fields_after (does s c) fs f) (field_after (does s c) c f) cs (omega (arith, h)))
  where
    either : (b : Bool) → records_from default_config (suc n) (after s c) cs ≡ all_from (after s c) [] [] cs
        → records_next (records_from default_config (suc n)) (next_record default_config (after s c) (fields_after (does s c) fs f) (field_after (does s c) c f) cs)
        ≡ all_from (after s c) (fields_after (does s c) fs f) (field_after (does s c) c f) cs
        → records_next (records_from default_config (suc n))
        (if b then Some (fields_after (does s c) fs f, after s c, cs)
        else next_record default_config (after s c) (fields_after (does s c) fs f) (field_after (does s c) c f) cs)
        ≡ (if b then fields_after (does s c) fs f ∷ all_from (after s c) [] [] cs
        else all_from (after s c) (fields_after (does s c) fs f) (field_after (does s c) c f) cs)
    either true e g = ap (λ l. fields_after (does s c) fs f ∷ l) e
    either false e g = g

-- the records of bytes
pub all_records : (bytes : List ℕ) → records default_config bytes ≡ all_from st.StartRecord [] [] bytes
all_records bytes =
    let e : length bytes + 1 ≡ suc (length bytes) = omega arith in
    ap (λ k. records_from default_config k st.StartRecord bytes) e
    ∙ one_more (length bytes) st.StartRecord bytes (in_one_go (length bytes) st.StartRecord [] [] bytes (omega arith))

-- BETWEEN RECORDS

-- no field of a record has begun
abbrev is_quiet : State → Bool
is_quiet st.StartRecord = true
is_quiet st.AfterCr = true
is_quiet st.InComment = true
is_quiet st.StartField = false
is_quiet st.InField = false
is_quiet st.InQuoted = false
is_quiet st.AfterQuote = false
is_quiet st.InEscape = false

-- a step that ends no record comes to such a state from such a state alone, and passes over its byte
abbrev ComesQuiet : Bool → State × Action → Type 0
ComesQuiet quiet p = is_end p.1 ≡ false → is_quiet p.0 ≡ true → (quiet ≡ true) × (p.1 ≡ act.Skip)

in_field_quiet : (quiet : Bool) (c : ℕ) → ComesQuiet quiet (in_field default_config c)
in_field_quiet quiet c = first (c == 44) where
  second : (b : Bool) → ComesQuiet quiet (if b then (after_end default_config.terminator c, act.EndRecord) else (st.InField, act.Copy))
  second true e g = absurd (true≢false e)
  second false e g = absurd (true≢false (sym g))

  first : (b : Bool) → ComesQuiet quiet (if b then (st.StartField, act.EndField) else if ends_with default_config.terminator c then (after_end default_config.terminator c, act.EndRecord) else (st.InField, act.Copy))
  first true e g = absurd (true≢false (sym g))
  first false e g = second (ends_with default_config.terminator c) e g

start_field_quiet : (quiet : Bool) (c : ℕ) → ComesQuiet quiet (start_field default_config c)
start_field_quiet quiet c = first (c == 34) where
  first : (b : Bool) → ComesQuiet quiet (if b then (st.InQuoted, act.Skip) else in_field default_config c)
  first true e g = absurd (true≢false (sym g))
  first false e g = in_field_quiet quiet c e g

start_record_quiet : (c : ℕ) → ComesQuiet true (start_record default_config c)
start_record_quiet c = first (ends_with default_config.terminator c) where
  first : (b : Bool) → ComesQuiet true (if b then (st.StartRecord, act.Skip) else start_field default_config c)
  first true e g = (refl, refl)
  first false e g = start_field_quiet true c e g

step_quiet : (s : State) (c : ℕ) → ComesQuiet (is_quiet s) (step default_config s c)
step_quiet st.StartRecord c = start_record_quiet c
step_quiet st.StartField c = start_field_quiet false c
step_quiet st.InField c = in_field_quiet false c
step_quiet st.InQuoted c = first (c == 34) where
  first : (b : Bool) → ComesQuiet false (if b then (st.AfterQuote, act.Skip) else (st.InQuoted, act.Copy))
  first true e g = absurd (true≢false (sym g))
  first false e g = absurd (true≢false (sym g))
step_quiet st.InEscape c = λ e g. absurd (true≢false (sym g))
step_quiet st.AfterQuote c = first (c == 34) where
  first : (b : Bool) → ComesQuiet false (if b then (st.InQuoted, act.Copy) else in_field default_config c)
  first true e g = absurd (true≢false (sym g))
  first false e g = in_field_quiet false c e g
step_quiet st.InComment c = first (c == 10) where
  first : (b : Bool) → ComesQuiet true (if b then (st.StartRecord, act.Skip) else (st.InComment, act.Skip))
  first true e g = (refl, refl)
  first false e g = (refl, refl)
step_quiet st.AfterCr c = first (c == 10) where
  first : (b : Bool) → ComesQuiet true (if b then (st.StartRecord, act.Skip) else start_record default_config c)
  first true e g = (refl, refl)
  first false e g = start_record_quiet c e g

-- THE CUT

abbrev IsClean : State → List (List ℕ) → List ℕ → Type 0
IsClean s fs f = is_quiet s ≡ true → (fs ≡ []) × (f ≡ [])

cut : (xs ys : List ℕ) (s : State) (fs : List (List ℕ)) (f : List ℕ) → IsClean s fs f → state_behind s xs ≡ st.StartRecord
    → all_from s fs f (xs ++ ys) ≡ all_from s fs f xs ++ all_from st.StartRecord [] [] ys
cut [] ys s fs f clean e =
    let empty = clean (ap is_quiet e) in
    (λ i. all_from (e i) (empty.0 i) (empty.1 i) ys)
    ∙ sym (ap (λ b. (if b then (fs ++ f ∷ []) ∷ [] else []) ++ all_from st.StartRecord [] [] ys) (ap ends_at_end e))
cut (c ∷ cs) ys s fs f clean e =
    either (is_end (does s c)) refl (cut cs ys (after s c) [] [] (λ q. (refl, refl)) e)
    (λ g. cut cs ys (after s c) (fields_after (does s c) fs f) (field_after (does s c) c f) (still g) e)
  where
    still : is_end (does s c) ≡ false → IsClean (after s c) (fields_after (does s c) fs f) (field_after (does s c) c f)
    still g q =
        let was = step_quiet s c g q in
        let empty = clean was.0 in
        (ap (λ a. fields_after a fs f) was.1 ∙ empty.0, ap (λ a. field_after a c f) was.1 ∙ empty.1)

    either : (b : Bool) → is_end (does s c) ≡ b
        → all_from (after s c) [] [] (cs ++ ys) ≡ all_from (after s c) [] [] cs ++ all_from st.StartRecord [] [] ys
        → (is_end (does s c) ≡ false → all_from (after s c) (fields_after (does s c) fs f) (field_after (does s c) c f) (cs ++ ys)
        ≡ all_from (after s c) (fields_after (does s c) fs f) (field_after (does s c) c f) cs ++ all_from st.StartRecord [] [] ys)
        → (if b then fields_after (does s c) fs f ∷ all_from (after s c) [] [] (cs ++ ys)
        else all_from (after s c) (fields_after (does s c) fs f) (field_after (does s c) c f) (cs ++ ys))
        ≡ (if b then fields_after (does s c) fs f ∷ all_from (after s c) [] [] cs
        else all_from (after s c) (fields_after (does s c) fs f) (field_after (does s c) c f) cs) ++ all_from st.StartRecord [] [] ys
    either true h one other = ap (λ l. fields_after (does s c) fs f ∷ l) one
    either false h one other = other h

-- THE MARK

not_starting : (a : ℕ) → a ≡ 239 → state_behind st.StartRecord (a ∷ []) ≡ st.StartRecord → ⊥
not_starting a e h = clash (sym (ap (λ x. state_behind st.StartRecord (x ∷ [])) e) ∙ h) where
  clash : st.InField ≡ st.StartRecord → ⊥
  clash x = true≢false (sym (ap is_quiet x))

not_after : (a b : ℕ) → a ≡ 239 → b ≡ 187 → state_behind st.StartRecord (a ∷ b ∷ []) ≡ st.StartRecord → ⊥
not_after a b e g h = clash (sym (λ i. state_behind st.StartRecord (e i ∷ g i ∷ [])) ∙ h) where
  clash : st.InField ≡ st.StartRecord → ⊥
  clash x = true≢false (sym (ap is_quiet x))

mark_parts : (a b c : ℕ) → is_bom a b c ≡ true → (a ≡ 239) × (b ≡ 187)
mark_parts a b c h = step (a == 239) (b == 187) refl refl h where
  step : (p q : Bool) → (a == 239) ≡ p → (b == 187) ≡ q → (p && q && (c == 191)) ≡ true → (a ≡ 239) × (b ≡ 187)
  step true true e g h = (eqb-true a 239 e, eqb-true b 187 g)
  step true false e g h = absurd (true≢false (sym h))
  step false q e g h = absurd (true≢false (sym h))

strip_first : (xs ys : List ℕ) → EndsRecord xs → IsUnmarked ys → strip_bom (xs ++ ys) ≡ strip_bom xs ++ ys
unfolding strip_bom
strip_first [] ys e u = u
strip_first (a ∷ []) [] e u = refl
strip_first (a ∷ []) (b ∷ []) e u = refl
strip_first (a ∷ []) (b ∷ c ∷ r) e u = either (is_bom a b c) refl where
  either : (t : Bool) → is_bom a b c ≡ t → (if t then r else a ∷ b ∷ c ∷ r) ≡ a ∷ b ∷ c ∷ r
  either true h = absurd (not_starting a (mark_parts a b c h).0 e)
  either false h = refl
strip_first (a ∷ b ∷ []) [] e u = refl
strip_first (a ∷ b ∷ []) (c ∷ r) e u = either (is_bom a b c) refl where
  either : (t : Bool) → is_bom a b c ≡ t → (if t then r else a ∷ b ∷ c ∷ r) ≡ a ∷ b ∷ c ∷ r
  either true h = let p = mark_parts a b c h in absurd (not_after a b p.0 p.1 e)
  either false h = refl
strip_first (a ∷ b ∷ c ∷ r) ys e u = either (is_bom a b c) where
  either : (t : Bool) → (if t then r ++ ys else a ∷ b ∷ c ∷ (r ++ ys)) ≡ (if t then r else a ∷ b ∷ c ∷ r) ++ ys
  either true = refl
  either false = refl

-- the records of two texts are those of the one that they make
pub records_in_pieces : RecordsInPieces
records_in_pieces xs ys e u =
    ap (records default_config) (strip_first xs ys e u)
    ∙ all_records (strip_bom xs ++ ys)
    ∙ cut (strip_bom xs) ys st.StartRecord [] [] (λ q. (refl, refl)) e
    ∙ (λ i. sym (all_records (strip_bom xs)) i ++ (sym (all_records ys) ∙ ap (records default_config) (sym u)) i)

-- ROWS

both_write : (w : ℕ) (more : Bool) (rs ss : List (List (List ℕ))) (first second : List (List ℤ)) → WriteRows w more rs first → WriteRows w more ss second
    → WriteRows w more (rs ++ ss) (first ++ second)
both_write w more [] ss [] second a b = b
both_write w more [] ss (x ∷ xs) second a b = absurd a
both_write w more (r ∷ rs) ss [] second a b = absurd a
both_write w more (r ∷ rs) ss (x ∷ xs) second a b = (a.0, both_write w more rs ss xs second a.1 b)

-- so are the rows that they write
pub rows_in_pieces : RowsInPieces
rows_in_pieces xs ys w skip more first second e u there a b =
    subst (λ recs. WriteRows w more recs (first ++ second))
    (sym (ap (drop (headers skip)) (records_in_pieces xs ys e u) ∙ drop-append-le (headers skip) (csv_records xs) (csv_records ys) there))
    (both_write w more (drop (headers skip) (csv_records xs)) (csv_records ys) first second a b)
