-- The rows of a firing come to the logs of all cells of a net.
use Rattle.std.proofs.Common.{◌≡◌, ◌≢◌, ℕ, ℤ, zero, suc, ◌+◌, ◌<◌, ◌≤◌, Some, List, [], ◌∷◌, ◌++◌, length, take, take-suc, refl, sym, ap, ◌∙◌, subst, arith, append_assoc}
use Rattle.std.specs.Prelude.{nat_eq, slice_get, slice_index_or, if◌then◌else◌}
use Rattle.std.proofs.lemmas.List.{append-nil}
use Rattle.std.proofs.lemmas.Option.{slice_get_within, slice_get-get_or, get_or_from_slice_get, same_Some}
use Rattle.river_base.proofs.PlaceLemmas.{if_eq, if_ne}
use Rattle.river_base.proofs.Lists.{take_length}
use Rattle.class_locks.specs.declared.log.LogEntry.{LogEntry}
use Rattle.class_locks.specs.Logs.{Holding, TakesRows}
use Rattle.fire_tasks.specs.declared.task.TablePort.{TablePort}
use Rattle.fire_tasks.specs.Adds.{logs_of}
use Rattle.fire_tasks.specs.Rows.{CanAddTo, cells_grown, cells_with_rows}
use Rattle.fire_tasks.specs.Turns.{entries_for, logged}
use Rattle.fire_tasks.proofs.AddLemmas.{logged_more}

-- CELLS WHOSE LOGS GROW

-- as many cells as before
pub grown_long : (more : ℕ → List LogEntry) (c : ℕ) (xs : List Holding) → length (cells_grown more c xs) ≡ length xs
grown_long more c [] = refl
grown_long more c (x ∷ xs) = ap suc (grown_long more (suc c) xs)

-- each has its kinds
pub grown_got : (more : ℕ → List LogEntry) (c : ℕ) (xs : List Holding) (i : ℕ) (y : Holding) → slice_get (cells_grown more c xs) i ≡ Some y
    → (x : Holding) × (slice_get xs i ≡ Some x) × (y.kinds ≡ x.kinds)
grown_got more c [] i y g = absurd (cc g)
grown_got more c (x ∷ xs) zero y g = let e : record x { log = x.log ++ more c } ≡ y = cc g in (x, refl, ap (λ (z : Holding). z.kinds) (sym e))
grown_got more c (x ∷ xs) (suc i) y g = grown_got more (suc c) xs i y g

-- and its log is what it was, with the entries of its class
pub grown_log : (more : ℕ → List LogEntry) (c : ℕ) (xs : List Holding) (i : ℕ) → i < length xs
    → logs_of (cells_grown more c xs) i ≡ logs_of xs i ++ more (c + i)
grown_log more c [] i lt = absurd (omega (arith, lt))
grown_log more c (x ∷ xs) zero lt = let z : c ≡ c + 0 = omega arith in ap (λ n. x.log ++ more n) z
grown_log more c (x ∷ xs) (suc i) lt = let z : suc c + i ≡ c + suc i = omega arith in grown_log more (suc c) xs i (omega (arith, lt))
    ∙ ap (λ n. logs_of xs i ++ more n) z

-- CELLS THAT GROW AT ONE CLASS

grown_same : (f g : ℕ → List LogEntry) (c : ℕ) (xs : List Holding) → ((n : ℕ) → c ≤ n → f n ≡ g n) → cells_grown f c xs ≡ cells_grown g c xs
grown_same f g c [] h = refl
grown_same f g c (x ∷ xs) h =
    ap (λ l. record x { log = x.log ++ l } ∷ cells_grown f (suc c) xs) (h c (omega arith))
    ∙ ap (λ ys. record x { log = x.log ++ g c } ∷ ys) (grown_same f g (suc c) xs (λ n le. h n (omega (arith, le))))

grown_put : (f g : ℕ → List LogEntry) (o table c k : ℕ) (rows : List (List ℤ)) (xs : List Holding) → k < length xs
    → g (c + k) ≡ f (c + k) ++ entries_for o table rows
    → ((n : ℕ) → n ≢ c + k → g n ≡ f n) → cells_with_rows o table k rows (cells_grown f c xs) ≡ cells_grown g c xs
grown_put f g o table c k rows [] lt here other = absurd (omega (arith, lt))
grown_put f g o table c zero rows (x ∷ xs) lt here other =
    let z : c + 0 ≡ c = omega arith in
    let e : x.log ++ g c ≡ (x.log ++ f c) ++ entries_for o table rows =
    ap (λ l. x.log ++ l) (ap g (sym z) ∙ here ∙ ap (λ n. f n ++ entries_for o table rows) z) ∙ sym (append_assoc x.log (f c) (entries_for o table rows)) in
    ap (λ l. record x { log = l } ∷ cells_grown f (suc c) xs) (sym e)
    ∙ ap (λ ys. record x { log = x.log ++ g c } ∷ ys) (grown_same f g (suc c) xs (λ n le. sym (other n (λ q. omega (arith, le, q)))))
grown_put f g o table c (suc k) rows (x ∷ xs) lt here other =
    let z : suc c + k ≡ c + suc k = omega arith in
    ap (λ l. record x { log = x.log ++ l } ∷ cells_with_rows o table k rows (cells_grown f (suc c) xs)) (sym (other c (λ q. omega (arith, q))))
    ∙ ap (λ ys. record x { log = x.log ++ g c } ∷ ys)
    (grown_put f g o table (suc c) k rows xs (omega (arith, lt)) (ap g z ∙ here ∙ ap (λ n. f n ++ entries_for o table rows) (sym z))
    (λ n ne. other n (λ q. ne (q ∙ sym z))))

-- one entry, where there are rows
pub some_rows : (o table : ℕ) (rows : List (List ℤ)) → (rows ≡ [] → ⊥) → entries_for o table rows ≡ record { op = o; table = table; rows = rows } ∷ []
some_rows o table [] ne = absurd (ne refl)
some_rows o table (r ∷ rs) ne = refl

-- PORT BY PORT

-- the entries of the first ports came to the cells
abbrev pub AddedTo : ℕ → List ℕ → List TablePort → (ℕ → List (List ℤ)) → ℕ → List Holding → List Holding → Type 0
AddedTo o classes tables rows j cells0 cells = cells ≡ cells_grown (logged o classes (take j tables) rows) 0 cells0

none_more : (c : ℕ) (cells : List Holding) → cells_grown (λ n. []) c cells ≡ cells
none_more c [] = refl
none_more c (x ∷ xs) = ap (λ l. record x { log = l } ∷ cells_grown (λ n. []) (suc c) xs) (append-nil x.log) ∙ ap (λ ys. x ∷ ys) (none_more (suc c) xs)

-- before the first port nothing was added
pub added_first : (o : ℕ) (classes : List ℕ) (tables : List TablePort) (rows : ℕ → List (List ℤ)) (cells : List Holding)
    → AddedTo o classes tables rows 0 cells cells
added_first o classes [] rows cells = sym (none_more 0 cells)
added_first o classes (h ∷ hs) rows cells = sym (none_more 0 cells)

-- the rows of one port more were added
pub added_step : (o : ℕ) (classes : List ℕ) (tables : List TablePort) (rows : ℕ → List (List ℤ)) (j : ℕ) (cells0 cells cells' : List Holding)
    (h : TablePort) → slice_get tables j ≡ Some h
    → slice_index_or classes h.place 0 < length cells0 → AddedTo o classes tables rows j cells0 cells
    → cells' ≡ cells_with_rows o h.table (slice_index_or classes h.place 0) (rows j) cells
    → AddedTo o classes tables rows (j + 1) cells0 cells'
added_step o classes tables rows j cells0 cells cells' h gh lc a e =
    let lt = slice_get_within tables j h gh in
    let next : suc j ≡ j + 1 = omega arith in
    let taken : take (j + 1) tables ≡ take j tables ++ h ∷ [] = ap (λ k. take k tables) (sym next) ∙ take-suc tables j h lt
    ∙ ap (λ x. take j tables ++ x ∷ []) (get_or_from_slice_get tables j h h gh) in
    let long : length (take j tables) ≡ j = take_length tables j lt in
    let more : (c : ℕ) → logged o classes (take (j + 1) tables) rows c
    ≡ logged o classes (take j tables) rows c ++ (if nat_eq (slice_index_or classes h.place 0) c then entries_for o h.table (rows j) else [])
    = (λ c. ap (λ l. logged o classes l rows c) taken ∙ logged_more o classes (take j tables) h rows c
    ∙ ap (λ n. logged o classes (take j tables) rows c ++ (if nat_eq (slice_index_or classes h.place 0) c then entries_for o h.table (rows n) else [])) long) in
    e ∙ ap (cells_with_rows o h.table (slice_index_or classes h.place 0) (rows j)) a
    ∙ grown_put (logged o classes (take j tables) rows) (logged o classes (take (j + 1) tables) rows) o h.table 0 (slice_index_or classes h.place 0)
    (rows j) cells0 lc
    (let z : 0 + slice_index_or classes h.place 0 ≡ slice_index_or classes h.place 0 = omega arith in
    more (0 + slice_index_or classes h.place 0)
    ∙ ap (λ l. logged o classes (take j tables) rows (0 + slice_index_or classes h.place 0) ++ l)
    (if_eq (slice_index_or classes h.place 0) (0 + slice_index_or classes h.place 0) (entries_for o h.table (rows j)) [] (sym z)))
    (λ n ne. more n ∙ ap (λ l. logged o classes (take j tables) rows n ++ l)
    (if_ne (slice_index_or classes h.place 0) n (entries_for o h.table (rows j)) []
    (λ q. let z : 0 + slice_index_or classes h.place 0 ≡ slice_index_or classes h.place 0 = omega arith in ne (sym q ∙ sym z)))
    ∙ append-nil (logged o classes (take j tables) rows n))

-- the cell of a port, as it stands now
pub record CellNow (o table class : ℕ) (rows : List (List ℤ)) (cells : List Holding) : Type 0 where
  pub there : class < length cells
  pub takes : (d : Holding) → TakesRows (slice_index_or cells class d).kinds table rows

-- the cell of a port is there, and takes its rows
pub cell_now : (o : ℕ) (classes : List ℕ) (tables : List TablePort) (rows : ℕ → List (List ℤ)) (j : ℕ) (cells0 cells : List Holding) (h : TablePort)
    → CanAddTo tables classes rows cells0
    → slice_get tables j ≡ Some h → AddedTo o classes tables rows j cells0 cells → CellNow o h.table (slice_index_or classes h.place 0) (rows j) cells
cell_now o classes tables rows j cells0 cells h can gh a =
    let c = slice_index_or classes h.place 0 in
    let x = can.each j h gh in
    let long : length cells ≡ length cells0 = ap length a ∙ grown_long (logged o classes (take j tables) rows) 0 cells0 in
    let lt = slice_get_within cells0 c x.0 x.1 in
    let lc : c < length cells = omega (arith, lt, long) in
    record {
      there = lc;
      takes = λ d.
          let y = grown_got (logged o classes (take j tables) rows) 0 cells0 c (slice_index_or cells c d)
          (ap (λ l. slice_get l c) (sym a) ∙ slice_get-get_or cells c d lc) in
          let same : y.0 ≡ x.0 = same_Some y.0 x.0 (sym y.1 ∙ x.1) in
          subst (λ ks. TakesRows ks h.table (rows j)) (sym (y.2 ∙ ap (λ (z : Holding). z.kinds) same)) x.2;
    }

-- the class of a port is one of the cells'
pub class_below : (classes : List ℕ) (tables : List TablePort) (rows : ℕ → List (List ℤ)) (cells : List Holding) (j : ℕ) (h : TablePort)
    → CanAddTo tables classes rows cells
    → slice_get tables j ≡ Some h → slice_index_or classes h.place 0 < length cells
class_below classes tables rows cells j h can g = let x = can.each j h g in slice_get_within cells (slice_index_or classes h.place 0) x.0 x.1
