-- The mark at the front of a file, and how many records a file has.
use Rattle.std.proofs.Common.{◌≡◌, ℕ, zero, suc, ◌==◌, Bool, true, false, List, [], ◌∷◌, ◌++◌, length, take, drop, refl, sym}
use Rattle.std.proofs.Common.{ap, ◌∙◌, arith}
use Rattle.std.specs.Prelude.{◌&&◌, if◌then◌else◌}
use Rattle.std.proofs.lemmas.Bool.{true≢false, eqb-true}
use Rattle.csv.specs.Machine.{ends_at_end, fields_after, field_after, step}
use Rattle.csv.specs.Reading.{default_config, strip_bom, is_bom}
use Rattle.csv.specs.declared.parser.State.{State}
use Rattle.csv.specs.declared.parser.State.TheVariants as st
use Rattle.csv_streams.specs.FilePieces.{state_behind, EndsRecord, IsUnmarked}
use Rattle.csv_streams.specs.Records.{csv_records}
use Rattle.csv_streams.proofs.FilePieces.{all_from, all_records}
use Rattle.csv_cuts.specs.Cut.{csv_state_after, ends, is_start, is_marked}
use Rattle.csv_cuts.specs.Cut.{records_in, CountsAreRecords}

-- HOW MANY RECORDS

chosen-many : (b : Bool) (xs ys : List (List (List ℕ))) (n m : ℕ) → length xs ≡ n → length ys ≡ m → length (if b then xs else ys) ≡ (if b then n else m)
chosen-many true xs ys n m e f = e
chosen-many false xs ys n m e f = f

all-many : (s : State) (fs : List (List ℕ)) (f xs : List ℕ) → length (all_from s fs f xs) ≡ records_in s xs
all-many s fs f [] = chosen-many (ends_at_end s) ((fs ++ f ∷ []) ∷ []) [] 1 0 refl refl
all-many s fs f (c ∷ cs) =
    chosen-many (ends s c) (fields_after (step default_config s c).1 fs f ∷ all_from (csv_state_after s c) [] [] cs)
    (all_from (csv_state_after s c) (fields_after (step default_config s c).1 fs f) (field_after (step default_config s c).1 c f) cs)
    (suc (records_in (csv_state_after s c) cs)) (records_in (csv_state_after s c) cs) (ap suc (all-many (csv_state_after s c) [] [] cs))
    (all-many (csv_state_after s c) (fields_after (step default_config s c).1 fs f) (field_after (step default_config s c).1 c f) cs)

pub records-many : (xs : List ℕ) → length (csv_records xs) ≡ records_in st.StartRecord (strip_bom xs)
records-many xs = ap length (all_records (strip_bom xs)) ∙ all-many st.StartRecord [] [] (strip_bom xs)

-- WHERE THE MARK IS

pub start-is : (s : State) → is_start s ≡ true → s ≡ st.StartRecord
start-is st.StartRecord h = refl
start-is st.StartField h = absurd (true≢false (sym h))
start-is st.InField h = absurd (true≢false (sym h))
start-is st.InQuoted h = absurd (true≢false (sym h))
start-is st.AfterQuote h = absurd (true≢false (sym h))
start-is st.InEscape h = absurd (true≢false (sym h))
start-is st.InComment h = absurd (true≢false (sym h))
start-is st.AfterCr h = absurd (true≢false (sym h))

pub unmarked-strips : (xs : List ℕ) → is_marked xs ≡ false → strip_bom xs ≡ xs
unfolding strip_bom
unmarked-strips [] h = refl
unmarked-strips (a ∷ []) h = refl
unmarked-strips (a ∷ b ∷ []) h = refl
unmarked-strips (a ∷ b ∷ c ∷ r) h = rw h refl

pub marked-strips : (a b c : ℕ) (r : List ℕ) → is_bom a b c ≡ true → strip_bom (a ∷ b ∷ c ∷ r) ≡ r
unfolding strip_bom
marked-strips a b c r h = rw h refl

pub unmarked-test : (xs : List ℕ) → IsUnmarked xs → is_marked xs ≡ false
unmarked-test [] h = refl
unmarked-test (a ∷ []) h = refl
unmarked-test (a ∷ b ∷ []) h = refl
unmarked-test (a ∷ b ∷ c ∷ r) h = by (is_bom a b c) refl where
  by : (t : Bool) → is_bom a b c ≡ t → t ≡ false
  by false e = refl
  by true e = let l = ap length (sym (marked-strips a b c r e) ∙ h) in absurd (omega (arith, l))

pub mark-take : (xs : List ℕ) (p : ℕ) → is_marked xs ≡ false → is_marked (take p xs) ≡ false
mark-take [] zero h = refl
mark-take [] (suc p) h = refl
mark-take (a ∷ xs) zero h = refl
mark-take (a ∷ []) (suc zero) h = refl
mark-take (a ∷ []) (suc (suc p)) h = refl
mark-take (a ∷ b ∷ xs) (suc zero) h = refl
mark-take (a ∷ b ∷ []) (suc (suc zero)) h = refl
mark-take (a ∷ b ∷ []) (suc (suc (suc p))) h = refl
mark-take (a ∷ b ∷ c ∷ r) (suc (suc zero)) h = refl
mark-take (a ∷ b ∷ c ∷ r) (suc (suc (suc p))) h = h

pub mark_parts : (a b c : ℕ) → is_bom a b c ≡ true → (a ≡ 239) × (b ≡ 187)
mark_parts a b c h = step (a == 239) (b == 187) refl refl h where
  step : (p q : Bool) → (a == 239) ≡ p → (b == 187) ≡ q → (p && q && (c == 191)) ≡ true → (a ≡ 239) × (b ≡ 187)
  step true true e g h = (eqb-true a 239 e, eqb-true b 187 g)
  step true false e g h = absurd (true≢false (sym h))
  step false q e g h = absurd (true≢false (sym h))

in-field : st.InField ≡ st.StartRecord → ⊥
in-field e = true≢false (sym (ap is_start e))

-- behind the first byte of a mark no record begins
pub not-one : (a : ℕ) → a ≡ 239 → state_behind st.StartRecord (a ∷ []) ≡ st.StartRecord → ⊥
not-one a e h = in-field (sym (ap (λ (x : ℕ). state_behind st.StartRecord (x ∷ [])) e) ∙ h)

-- nor behind the second
pub not-two : (a b : ℕ) → a ≡ 239 → b ≡ 187 → state_behind st.StartRecord (a ∷ b ∷ []) ≡ st.StartRecord → ⊥
not-two a b e f h = in-field (sym (λ i. state_behind st.StartRecord (e i ∷ f i ∷ [])) ∙ h)

-- so a file cannot be cut there
pub in-one : (a b c : ℕ) → is_bom a b c ≡ true → EndsRecord (a ∷ []) → ⊥
unfolding strip_bom
in-one a b c h g = not-one a (mark_parts a b c h).0 g

-- nor there
pub in-two : (a b c : ℕ) → is_bom a b c ≡ true → EndsRecord (a ∷ b ∷ []) → ⊥
unfolding strip_bom
in-two a b c h g = not-two a b (mark_parts a b c h).0 (mark_parts a b c h).1 g

-- HOW MANY RECORDS

mark-off : (bytes : List ℕ) (b : Bool) → is_marked bytes ≡ b → strip_bom bytes ≡ drop (if b then 3 else 0) bytes
mark-off bytes false h = unmarked-strips bytes h
mark-off [] true h = absurd (true≢false (sym h))
mark-off (a ∷ []) true h = absurd (true≢false (sym h))
mark-off (a ∷ b ∷ []) true h = absurd (true≢false (sym h))
mark-off (a ∷ b ∷ c ∷ r) true h = marked-strips a b c r h

-- as many records are counted as the file has
pub counts_are_records : CountsAreRecords
counts_are_records bytes = records-many bytes ∙ ap (records_in st.StartRecord) (mark-off bytes (is_marked bytes) refl)
