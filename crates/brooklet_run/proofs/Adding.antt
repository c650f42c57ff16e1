-- Loops that add rows to tables.
use Rattle.std.proofs.Common.{◌≡◌, ℕ, zero, suc, ℤ, ◌+◌, ◌<◌, ◌≤◌, Bool, true, false, Some, List, [], ◌∷◌, ◌++◌, length, take, drop, fold, nat_lt, refl, sym}
use Rattle.std.proofs.Common.{ap, ◌∙◌, subst, arith, get_or, append_assoc}
use Rattle.std.specs.Prelude.{All, slice_get, slice_set, if◌then◌else◌}
use Rattle.std.proofs.lemmas.List.{append-nil, take_more, take-append-drop, length-take-le}
use Rattle.std.proofs.lemmas.List.Elements.{filter-append, filter_more}
use Rattle.std.proofs.lemmas.List.Sums.{fold-append}
use Rattle.std.proofs.lemmas.Option.{slice_get_within}
use Rattle.river_base.proofs.Lists.{got_mid}
use Rattle.river_base.proofs.PlaceLemmas.{if_lt, if_ge}
use Rattle.river_base.specs.Places.{list_at, only}
use Rattle.kern_tables.specs.declared.kept.Aggregate.{Aggregate}
use Rattle.kern_tables.specs.Kept.{with_row, width_of_table}
use Rattle.kern_tables.specs.Tables.{table_width}
use Rattle.kern_tables.proofs.Tabs.{added_kind}
use Rattle.brooklet_step.specs.ByPlace.{joined_at}
use Rattle.brooklet_step.specs.Tables.{table_places, each_added, AreFor}
use Rattle.brooklet_step.proofs.QueuePlaces.{joined_at-more}

-- ROWS FOR ONE TABLE

-- adding rows keeps the width of a table
pub all_width : (t : Aggregate) (rows : List (List ℤ)) → width_of_table (fold with_row t rows) ≡ width_of_table t
all_width t [] = refl
all_width t (r ∷ rs) = all_width (with_row t r) rs ∙ ap table_width (added_kind t r)

-- one row more
pub added_step : (t now new : Aggregate) (rows : List (List ℤ)) (i : ℕ) (row : List ℤ) → i < length rows → row ≡ get_or rows i row
    → now ≡ fold with_row t (take i rows)
    → new ≡ with_row now row → new ≡ fold with_row t (take (i + 1) rows)
added_step t now new rows i row lt e h a =
    a ∙ ap (λ k. with_row k row) h ∙ sym (fold-append with_row t (take i rows) (row ∷ []))
    ∙ ap (λ l. fold with_row t l) (ap (λ y. take i rows ++ y ∷ []) e ∙ sym (take_more rows i row lt))

-- ALL TABLES

-- adding rows to tables keeps their number
pub length-each_added : (ts : List Aggregate) (f : ℕ → List (List ℤ)) → length (each_added ts f) ≡ length ts
length-each_added [] f = refl
length-each_added (t ∷ ts) f = ap suc (length-each_added ts (λ p. f (suc p)))

each_added-cong : (ts : List Aggregate) (f g : ℕ → List (List ℤ)) → ((p : ℕ) → f p ≡ g p) → each_added ts f ≡ each_added ts g
each_added-cong [] f g h = refl
each_added-cong (t ∷ ts) f g h =
    let a = ap (fold with_row t) (h 0) in let b = each_added-cong ts (λ p. f (suc p)) (λ p. g (suc p)) (λ p. h (suc p)) in λ i. a i ∷ b i

-- adding no rows keeps each table
pub each_added-none : (ts : List Aggregate) → each_added ts (λ p. []) ≡ ts
each_added-none [] = refl
each_added-none (t ∷ ts) = ap (λ l. t ∷ l) (each_added-none ts)

-- one table is given more
set_added : (ts : List Aggregate) (f : ℕ → List (List ℤ)) (n : ℕ) (xs : List (List ℤ)) (d : Aggregate) → n < length ts
    → slice_set (each_added ts f) n (fold with_row (get_or (each_added ts f) n d) xs) ≡ each_added ts (λ p. f p ++ only n xs p)
set_added [] f n xs d h = absurd (omega (arith, h))
set_added (t ∷ ts) f zero xs d h =
    let a = sym (fold-append with_row t (f 0) xs) in
    let b = each_added-cong ts (λ p. f (suc p)) (λ p. f (suc p) ++ []) (λ p. sym (append-nil (f (suc p)))) in
    λ i. a i ∷ b i
set_added (t ∷ ts) f (suc n) xs d h =
    let a = ap (fold with_row t) (sym (append-nil (f 0))) in
    let b = set_added ts (λ p. f (suc p)) n xs d (omega (arith, h)) in
    λ i. a i ∷ b i

-- a table to which rows were added has the width that it had
added_there : (ts : List Aggregate) (f : ℕ → List (List ℤ)) (w : ℕ) (d : Aggregate) → w < length ts
    → (t : Aggregate) × (slice_get ts w ≡ Some t) × (get_or (each_added ts f) w d ≡ fold with_row t (f w))
added_there [] f w d h = absurd (omega (arith, h))
added_there (t ∷ ts) f zero d h = (t, refl, refl)
added_there (t ∷ ts) f (suc w) d h = added_there ts (λ p. f (suc p)) w d (omega (arith, h))

-- THE VARIABLES ONE AFTER ANOTHER

few : (n : ℕ) (vs : List ℕ) → length (table_places n vs) ≤ length vs
few n [] = omega arith
few n (v ∷ vs) = by (nat_lt v n) (few n vs)
  where
    by : (b : Bool) → length (table_places n vs) ≤ length vs → length (if b then v ∷ table_places n vs else table_places n vs) ≤ suc (length vs)
    by true h = omega (arith, h)
    by false h = omega (arith, h)

-- no more tables than variables
pub tables_few : (n : ℕ) (vars : List ℕ) (i number : ℕ) → i < length vars → number ≡ length (table_places n (take i vars)) → number ≤ i
tables_few n vars i number lt e = let f = few n (take i vars) in let l = length-take-le i vars (omega (arith, lt)) in omega (arith, e, f, l)

module _ (n : ℕ) (vars : List ℕ) (i w : ℕ) (lt : i < length vars) (e : w ≡ get_or vars i 0) where
  abbrev before : List ℕ
  before = table_places n (take i vars)

  next : table_places n (take (i + 1) vars) ≡ before ++ table_places n (w ∷ [])
  next = filter_more (λ v. nat_lt v n) vars i 0 lt ∙ ap (λ v. before ++ table_places n (v ∷ [])) (sym e)

  -- one that is a table
  pub places_more : w < n → table_places n (take (i + 1) vars) ≡ before ++ w ∷ []
  places_more below = next ∙ ap (λ l. before ++ l) (if_lt w n (w ∷ []) [] below)

  -- one that is none
  pub places_stay : n ≤ w → table_places n (take (i + 1) vars) ≡ before
  places_stay past = next ∙ ap (λ l. before ++ l) (if_ge w n (w ∷ []) [] past) ∙ append-nil before

  -- where it stands among the tables
  pub place_here : w < n → slice_get (table_places n vars) (length before) ≡ Some w
  place_here below =
      ap (λ l. slice_get (table_places n l) (length before)) (sym (take-append-drop (i + 1) vars))
      ∙ ap (λ l. slice_get l (length before))
      (filter-append (λ v. nat_lt v n) (take (i + 1) vars) (drop (i + 1) vars) ∙ ap (λ l. l ++ table_places n (drop (i + 1) vars)) (places_more below)
      ∙ append_assoc before (w ∷ []) (table_places n (drop (i + 1) vars)))
      ∙ got_mid before w (table_places n (drop (i + 1) vars))

-- the rows for one table more were added
pub added_next : (ts now : List Aggregate) (vars : List ℕ) (f : ℕ → List (List ℤ)) (i w number : ℕ) (old new : Aggregate) → i < length vars → w ≡ get_or vars i 0
    → w < length ts
    → now ≡ each_added ts (joined_at (table_places (length ts) (take i vars)) f) → number ≡ length (table_places (length ts) (take i vars))
    → old ≡ get_or now w old → new ≡ fold with_row old (f number)
    → slice_set now w new ≡ each_added ts (joined_at (table_places (length ts) (take (i + 1) vars)) f)
added_next ts now vars f i w number old new lt we below h c o n =
    let before = table_places (length ts) (take i vars) in
    let rows = f (length before) in
    let more = places_more (length ts) vars i w lt we below in
    ap (slice_set now w) (n ∙ ap (λ t. fold with_row t (f number)) o ∙ ap (λ k. fold with_row (get_or now w old) (f k)) c)
    ∙ ap (λ l. slice_set l w (fold with_row (get_or l w old) rows)) h
    ∙ set_added ts (joined_at before f) w rows old below
    ∙ each_added-cong ts (λ p. joined_at before f p ++ only w rows p) (joined_at (table_places (length ts) (take (i + 1) vars)) f) (λ p.
    sym (ap (λ l. joined_at l f p) more ∙ joined_at-more before w f p))

-- they have the table's width
pub rows_wide : (ts now : List Aggregate) (vars : List ℕ) (adds : List (List (List ℤ))) (i w number : ℕ) (old : Aggregate) → i < length vars → w ≡ get_or vars i 0
    → w < length ts
    → now ≡ each_added ts (joined_at (table_places (length ts) (take i vars)) (list_at adds)) → number ≡ length (table_places (length ts) (take i vars))
    → old ≡ get_or now w old
    → AreFor ts (table_places (length ts) vars) adds → All (λ row. length row ≡ width_of_table old) (list_at adds number)
rows_wide ts now vars adds i w number old lt we below h c o wide =
    let before = table_places (length ts) (take i vars) in
    let f = joined_at before (list_at adds) in
    let r = added_there ts f w old below in
    let same : old ≡ fold with_row r.0 (f w) = o ∙ ap (λ l. get_or l w old) h ∙ r.2 in
    let width : width_of_table old ≡ width_of_table r.0 = ap width_of_table same ∙ all_width r.0 (f w) in
    let here : slice_get (table_places (length ts) vars) number ≡ Some w = ap (slice_get (table_places (length ts) vars)) c
    ∙ place_here (length ts) vars i w lt we below in
    subst (λ k. All (λ row. length row ≡ k) (list_at adds number)) (sym width) (wide number w r.0 here r.1)

-- and are there
pub rows_there : (ts : List Aggregate) (vars : List ℕ) (i w number many : ℕ) → i < length vars → w ≡ get_or vars i 0 → w < length ts
    → number ≡ length (table_places (length ts) (take i vars)) → length (table_places (length ts) vars) ≤ many → number < many
rows_there ts vars i w number many lt we below c le =
    let b = slice_get_within (table_places (length ts) vars) (length (table_places (length ts) (take i vars))) w
    (place_here (length ts) vars i w lt we below) in
    omega (arith, b, c, le)
