-- The rows of a section, record by record, and the sections of a text, table by table.
use Rattle.std.proofs.Common.{◌≡◌, ℕ, zero, suc, ◌+◌, ◌<◌, ◌≤◌, ℤ, false, List, [], ◌∷◌, ◌++◌, length, map, take, drop, refl, sym, ap, ◌∙◌, subst, arith, append_assoc, append-nil, length-append}
use Rattle.std.specs.Prelude.{get_or, slice_set}
use Rattle.std.specs.Borrow.{Bor}
use Rattle.std.proofs.lemmas.List.{drop_all, take_all}
use Rattle.csv.specs.declared.reader.Reader.{Reader}
use Rattle.csv_streams.specs.Records.{csv_records, IsBehind}
use Rattle.csv_streams.specs.Written.{WritesRow, WriteRows}
use Rattle.csv_streams.proofs.Records.{behind-first}
use Rattle.csv_cuts.proofs.Faulty.{both-write}
use Rattle.kern_tables.specs.declared.kept.Aggregate.{Aggregate}
use Rattle.kern_tables.specs.declared.kind.TableKind.{TableKind}
use Rattle.kern_tables.specs.Tables.{table_width}
use Rattle.kern_tables.specs.Kept.{kept_of, with_row, added_all, kind_of_table}
use Rattle.kern_tables.proofs.Tabs.{added_more, added_all_kind, kept_kind}
use Rattle.river_plan.specs.declared.plan.TableDecl.{TableDecl}
use Rattle.piece_merge.specs.declared.fault.NoMerge.{NoMerge}
use Rattle.piece_merge.specs.declared.fault.NoMerge.TheVariants as why
use Rattle.piece_merge.specs.Added.{SectionWrites, SectionsWrite, table_kinds}
use Rattle.piece_merge.specs.Faults.{SaysNoRows, SaysNoRow, SaysNoSections}
use Rattle.piece_merge.specs.Merging.{added_each}
use Rattle.piece_merge.specs.Steps.{AddedRecord, AddedSection, AddedAt, AddedSections}

-- RECORDS

-- Of a section so many records were read, and the rows of these were added.
pub record ReadFront (section : List ℕ) (n : ℕ) (rdr : Reader (Bor (List ℕ))) (old now : Aggregate) : Type 0 where
  pub recs : List (List (List ℕ))
  pub behind : IsBehind section recs rdr
  pub count : length recs ≡ n
  pub rows : List (List ℤ)
  pub write : WriteRows (table_width (kind_of_table old)) false recs rows
  pub is : now ≡ added_all old rows

-- none was read
pub read-none : (section : List ℕ) (rdr : Reader (Bor (List ℕ))) (old : Aggregate) → IsBehind section [] rdr → ReadFront section 0 rdr old old
read-none section rdr old h = record { recs = []; behind = h; count = refl; rows = []; write = tt; is = refl }

-- one more
pub read-more : (section : List ℕ) (n : ℕ) (a b : Reader (Bor (List ℕ))) (old now new : Aggregate) (fields : List (List ℕ))
    → (f : ReadFront section n a old now) → IsBehind section (f.recs ++ fields ∷ []) b → AddedRecord fields now new → ReadFront section (n + 1) b old new
read-more section n a b old now new fields f behind one =
    let kind : kind_of_table now ≡ kind_of_table old = ap kind_of_table f.is ∙ added_all_kind old f.rows in
    record {
      recs = f.recs ++ fields ∷ [];
      behind = behind;
      count = length-append f.recs (fields ∷ []) ∙ ap (λ (k : ℕ). k + 1) f.count;
      rows = f.rows ++ one.row ∷ [];
      write =
          both-write (table_width (kind_of_table old)) false f.recs (fields ∷ []) f.rows (one.row ∷ []) f.write
          (subst (λ (k : TableKind). WritesRow (table_width k) false fields one.row) kind one.writes, tt);
      is = one.is ∙ ap (λ (t : Aggregate). with_row t one.row) f.is ∙ sym (added_more old f.rows one.row);
    }

-- all were read, as there is no other
pub read-all : (section : List ℕ) (n : ℕ) (a : Reader (Bor (List ℕ))) (old now : Aggregate) → (f : ReadFront section n a old now)
    → csv_records section ≡ f.recs → AddedSection section old now
read-all section n a old now f e = record {
  rows = f.rows;
  write = subst (λ (recs : List (List (List ℕ))). WriteRows (table_width (kind_of_table old)) false recs f.rows) (sym e) f.write;
  is = f.is;
}

no-more : {A : Type 0} (xs : List A) → length xs ≡ 0 → xs ≡ []
no-more [] e = refl
no-more (x ∷ xs) e = absurd (omega (arith, e))

-- all were read, as there are no more
pub read-last : (section : List ℕ) (n : ℕ) (a : Reader (Bor (List ℕ))) (old now : Aggregate) → ReadFront section n a old now
    → length (csv_records section) ≤ n → AddedSection section old now
read-last section n a old now f le =
    let all = behind-first section f.recs a f.behind in
    let sum : length (csv_records section) ≡ length f.recs + length all.0 = ap length all.1 ∙ length-append f.recs all.0 in
    let count = f.count in
    let none = no-more all.0 (omega (arith, le, sum, count)) in
    read-all section n a old now f (all.1 ∙ ap (λ (l : List (List (List ℕ))). f.recs ++ l) none ∙ append-nil f.recs)

-- where records write rows, so does each
row-within : (w : ℕ) (xs ys : List (List (List ℕ))) (fields : List (List ℕ)) (rows : List (List ℤ)) → WriteRows w false (xs ++ fields ∷ ys) rows
    → (row : List ℤ) × WritesRow w false fields row
row-within w [] ys fields [] h = absurd h
row-within w [] ys fields (r ∷ rs) h = (r, h.0)
row-within w (x ∷ xs) ys fields [] h = absurd h
row-within w (x ∷ xs) ys fields (r ∷ rs) h = row-within w xs ys fields rs h.1

-- where a record has no row, the section has no rows
pub read-fault : (section : List ℕ) (n : ℕ) (a b : Reader (Bor (List ℕ))) (old now : Aggregate) (fields : List (List ℕ)) (fault : NoMerge)
    → (f : ReadFront section n a old now) → IsBehind section (f.recs ++ fields ∷ []) b → SaysNoRow (kind_of_table now) fields fault
    → SaysNoRows (kind_of_table old) section fault
read-fault section n a b old now fields why.Other f behind none = λ rows h.
    let kind : kind_of_table now ≡ kind_of_table old = ap kind_of_table f.is ∙ added_all_kind old f.rows in
    let all = behind-first section (f.recs ++ fields ∷ []) b behind in
    let parts : csv_records section ≡ f.recs ++ fields ∷ all.0 = all.1 ∙ append_assoc f.recs (fields ∷ []) all.0 in
    let w = table_width (kind_of_table old) in
    let one = row-within w f.recs all.0 fields rows (subst (λ (recs : List (List (List ℕ))). WriteRows w false recs rows) parts h) in
    none one.0 (subst (λ (k : TableKind). WritesRow (table_width k) false fields one.0) (sym kind) one.1)
read-fault section n a b old now fields why.NoMemory f behind none = tt

-- KINDS

-- the table at a place is of the declared kind
pub kinds-at : (ks : List Aggregate) (ts : List TableDecl) (i : ℕ) (d : Aggregate) (e : TableDecl) → map kind_of_table ks ≡ table_kinds ts → i < length ts
    → kind_of_table (get_or ks i d) ≡ (get_or ts i e).kind
kinds-at ks [] i d e h l = absurd (omega (arith, l))
kinds-at [] (t ∷ ts) i d e h l = cc
kinds-at (k ∷ ks) (t ∷ ts) zero d e h l = cc
kinds-at (k ∷ ks) (t ∷ ts) (suc i) d e h l = let more : map kind_of_table ks ≡ table_kinds ts = cc in kinds-at ks ts i d e more (omega (arith, l))

-- there are as many tables as declarations
pub kinds-many : (ks : List Aggregate) (ts : List TableDecl) → map kind_of_table ks ≡ table_kinds ts → length ks ≡ length ts
kinds-many [] [] h = refl
kinds-many [] (t ∷ ts) h = cc
kinds-many (k ∷ ks) [] h = cc
kinds-many (k ∷ ks) (t ∷ ts) h = let more : map kind_of_table ks ≡ table_kinds ts = cc in ap suc (kinds-many ks ts more)

-- where the kind of a table stays, all do
pub kinds-stay : (ks : List Aggregate) (i : ℕ) (d next : Aggregate) → i < length ks → kind_of_table next ≡ kind_of_table (get_or ks i d)
    → map kind_of_table (slice_set ks i next) ≡ map kind_of_table ks
kinds-stay [] i d next l e = absurd (omega (arith, l))
kinds-stay (k ∷ ks) zero d next l e = ap (λ (a : TableKind). a ∷ map kind_of_table ks) e
kinds-stay (k ∷ ks) (suc i) d next l e = ap (λ (as_is : List TableKind). kind_of_table k ∷ as_is) (kinds-stay ks i d next (omega (arith, l)) e)

-- SECTIONS

-- the sections of the first tables were added, and the other tables stay
pub record AddedFront (tables : List TableDecl) (sections : List (List ℕ)) (i : ℕ) (old now : List Aggregate) : Type 0 where
  pub rows : List (List (List ℤ))
  pub count : length rows ≡ i
  pub write : SectionsWrite (take i tables) (take i sections) rows
  pub is : now ≡ added_each (take i old) rows ++ drop i old

none-write : (ts : List TableDecl) (ss : List (List ℕ)) → SectionsWrite (take 0 ts) (take 0 ss) []
none-write [] [] = tt
none-write [] (s ∷ ss) = tt
none-write (t ∷ ts) [] = tt
none-write (t ∷ ts) (s ∷ ss) = tt

none-added : (ks : List Aggregate) → ks ≡ added_each (take 0 ks) [] ++ drop 0 ks
none-added [] = refl
none-added (k ∷ ks) = refl

-- no section was added
pub front-none : (tables : List TableDecl) (sections : List (List ℕ)) (old : List Aggregate) → AddedFront tables sections 0 old old
front-none tables sections old = record { rows = []; count = refl; write = none-write tables sections; is = none-added old }

at-front : (old : List Aggregate) (rows : List (List (List ℤ))) (i : ℕ) (d : Aggregate) → length rows ≡ i → i < length old
    → get_or (added_each (take i old) rows ++ drop i old) i d ≡ get_or old i d
at-front [] rows i d e l = absurd (omega (arith, l))
at-front (k ∷ ks) [] zero d e l = refl
at-front (k ∷ ks) [] (suc i) d e l = absurd (omega (arith, e))
at-front (k ∷ ks) (q ∷ qs) zero d e l = absurd (omega (arith, e))
at-front (k ∷ ks) (q ∷ qs) (suc i) d e l = at-front ks qs i d (omega (arith, e)) (omega (arith, l))

set-front : (old : List Aggregate) (rows : List (List (List ℤ))) (i : ℕ) (r : List (List ℤ)) (d : Aggregate) → length rows ≡ i → i < length old
    → slice_set (added_each (take i old) rows ++ drop i old) i (added_all (get_or old i d) r)
    ≡ added_each (take (suc i) old) (rows ++ r ∷ []) ++ drop (suc i) old
set-front [] rows i r d e l = absurd (omega (arith, l))
set-front (k ∷ []) [] zero r d e l = refl
set-front (k ∷ m ∷ ms) [] zero r d e l = refl
set-front (k ∷ ks) [] (suc i) r d e l = absurd (omega (arith, e))
set-front (k ∷ ks) (q ∷ qs) zero r d e l = absurd (omega (arith, e))
set-front (k ∷ ks) (q ∷ qs) (suc i) r d e l =
    ap (λ (l : List Aggregate). added_all k q ∷ l) (set-front ks qs i r d (omega (arith, e)) (omega (arith, l)))

write-front : (tables : List TableDecl) (sections : List (List ℕ)) (rows : List (List (List ℤ))) (i : ℕ) (d : TableDecl) (e : List ℕ) (r : List (List ℤ))
    → i < length tables → i < length sections → SectionsWrite (take i tables) (take i sections) rows
    → SectionWrites (get_or tables i d).kind (get_or sections i e) r → SectionsWrite (take (suc i) tables) (take (suc i) sections) (rows ++ r ∷ [])
write-front [] ss rows i d e r l m h g = absurd (omega (arith, l))
write-front (t ∷ ts) [] rows i d e r l m h g = absurd (omega (arith, m))
write-front (t ∷ ts) (s ∷ ss) [] zero d e r l m h g = (g, none-write ts ss)
write-front (t ∷ ts) (s ∷ ss) (q ∷ qs) zero d e r l m h g = absurd h
write-front (t ∷ ts) (s ∷ ss) [] (suc i) d e r l m h g = absurd h
write-front (t ∷ ts) (s ∷ ss) (q ∷ qs) (suc i) d e r l m h g =
    (h.0, write-front ts ss qs i d e r (omega (arith, l)) (omega (arith, m)) h.1 g)

-- the section of one table more was added
pub front-more : (tables : List TableDecl) (sections : List (List ℕ)) (i : ℕ) (old now new : List Aggregate) (d : TableDecl) (s : List ℕ)
    → i < length tables → i < length sections → i < length old
    → s ≡ get_or sections i s
    → map kind_of_table now ≡ table_kinds tables
    → AddedFront tables sections i old now → ((a : Aggregate) → AddedAt s i (get_or now i a) now new)
    → AddedFront tables sections (i + 1) old new
front-more tables sections i old now new d s l m n s_is kinds f one =
    let a = one (start old n) in
    let next : suc i ≡ i + 1 = omega arith in
    let at : get_or now i (start old n) ≡ get_or old i (start old n) =
    ap (λ (ks : List Aggregate). get_or ks i (start old n)) f.is ∙ at-front old f.rows i (start old n) f.count n in
    let kind = kinds-at now tables i (start old n) d kinds l in
    subst (λ (k : ℕ). AddedFront tables sections k old new) next (record {
      rows = f.rows ++ a.added.rows ∷ [];
      count = length-append f.rows (a.added.rows ∷ []) ∙ add-one-more f.count;
      write =
          write-front tables sections f.rows i d s a.added.rows l m f.write
          (subst (λ (q : List ℕ). SectionWrites (get_or tables i d).kind q a.added.rows) s_is
          (subst (λ (k : TableKind). SectionWrites k s a.added.rows) kind a.added.write));
      is =
          a.is ∙ ap (slice_set now i) (a.added.is ∙ ap (λ (k : Aggregate). added_all k a.added.rows) at)
          ∙ ap (λ (ks : List Aggregate). slice_set ks i (added_all (get_or old i (start old n)) a.added.rows)) f.is
          ∙ set-front old f.rows i a.added.rows (start old n) f.count n;
    })
  where
    start : (ks : List Aggregate) → i < length ks → Aggregate
    start [] lt = absurd (omega (arith, lt))
    start (k ∷ ks) lt = k

    add-one-more : {a : ℕ} → a ≡ i → a + 1 ≡ suc i
    add-one-more e = omega (arith, e)

-- the sections of all tables were added
pub front-all : (tables : List TableDecl) (sections : List (List ℕ)) (i : ℕ) (old now : List Aggregate) → length tables ≤ i → length sections ≡ length tables
    → length old ≡ length tables → AddedFront tables sections i old now → AddedSections tables sections old now
front-all tables sections i old now l m n f = record {
  rows = f.rows;
  write =
      subst (λ (ss : List (List ℕ)). SectionsWrite tables ss f.rows) (take_all i sections (omega (arith, l, m)))
      (subst (λ (ts : List TableDecl). SectionsWrite ts (take i sections) f.rows) (take_all i tables l) f.write);
  is =
      f.is ∙ (λ j. added_each (take_all i old (omega (arith, l, n)) j) f.rows ++ drop_all i old (omega (arith, l, n)) j)
      ∙ append-nil (added_each old f.rows);
}

-- where sections have rows, so has each
section-at : (tables : List TableDecl) (sections : List (List ℕ)) (rows : List (List (List ℤ))) (i : ℕ) (d : TableDecl) (e : List ℕ) → i < length tables
    → SectionsWrite tables sections rows → (r : List (List ℤ)) × SectionWrites (get_or tables i d).kind (get_or sections i e) r
section-at [] ss rows i d e l h = absurd (omega (arith, l))
section-at (t ∷ ts) [] rows i d e l h = absurd h
section-at (t ∷ ts) (s ∷ ss) [] i d e l h = absurd h
section-at (t ∷ ts) (s ∷ ss) (r ∷ rs) zero d e l h = (r, h.0)
section-at (t ∷ ts) (s ∷ ss) (r ∷ rs) (suc i) d e l h = section-at ts ss rs i d e (omega (arith, l)) h.1

-- where one section has no rows, there are none for all
pub sections-fault : (tables : List TableDecl) (sections : List (List ℕ)) (i : ℕ) (d : TableDecl) (s : List ℕ) (fault : NoMerge) → i < length tables
    → s ≡ get_or sections i s → SaysNoRows (get_or tables i d).kind s fault → SaysNoSections tables sections fault
sections-fault tables sections i d s why.Other l s_is none = λ rows h.
    let one = section-at tables sections rows i d s l h in
    none one.0 (subst (λ (q : List ℕ). SectionWrites (get_or tables i d).kind q one.0) (sym s_is) one.1)
sections-fault tables sections i d s why.NoMemory l s_is none = tt

-- empty tables are of the declared kinds
pub kinds-none : (ts : List TableDecl) → map kind_of_table (map (λ t. kept_of t.kind []) ts) ≡ table_kinds ts
kinds-none [] = refl
kinds-none (t ∷ ts) = λ i. kept_kind t.kind [] i ∷ kinds-none ts i
