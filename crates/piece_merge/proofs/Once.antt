-- Texts have one merge.
use Rattle.std.proofs.Common.{◌≡◌, ℕ, ℤ, Bool, false, List, [], ◌∷◌, map, refl, sym, ap, ◌∙◌, subst, arith}
use Rattle.std.specs.Prelude.{Result, Ok}
use Rattle.csv_streams.specs.Outcome.{tables_text}
use Rattle.csv_streams.specs.Records.{csv_records}
use Rattle.csv_streams.specs.Rows.{row_in}
use Rattle.csv_streams.specs.Written.{WriteRows}
use Rattle.csv_streams.specs.declared.fault.InFault.{InFault}
use Rattle.csv_streams.proofs.WrittenRows.{row_written}
use Rattle.kern_tables.specs.declared.kind.TableKind.{TableKind}
use Rattle.kern_tables.specs.Pieces.{joined}
use Rattle.kern_tables.specs.Tables.{table_width}
use Rattle.river_plan.specs.declared.plan.TableDecl.{TableDecl}
use Rattle.river_plan.specs.Forms.{Name, table_names}
use Rattle.table_texts.specs.Split.{AreSplit}
use Rattle.table_texts.proofs.OneSplit.{one-split}
use Rattle.piece_merge.specs.Added.{EachWrites, TablesHaveRows, first_section, other_sections, tabs}
use Rattle.piece_merge.specs.Laws.{OneMerge}

one-row : (r : Result (List ℤ) InFault) (x y : List ℤ) → r ≡ Ok x → r ≡ Ok y → x ≡ y
one-row r x y e g = cc

-- records write one list of rows at most
pub rows-once : (w : ℕ) (more : Bool) (recs : List (List (List ℕ))) (xs ys : List (List ℤ)) → WriteRows w more recs xs → WriteRows w more recs ys → xs ≡ ys
rows-once w more [] [] [] h g = refl
rows-once w more [] [] (y ∷ ys) h g = absurd g
rows-once w more [] (x ∷ xs) ys h g = absurd h
rows-once w more (r ∷ rs) [] ys h g = absurd h
rows-once w more (r ∷ rs) (x ∷ xs) [] h g = absurd g
rows-once w more (r ∷ rs) (x ∷ xs) (y ∷ ys) h g =
    let same =
    one-row (row_in w more 0 0 r) x y (row_written w more 0 0 r x (omega arith) h.0) (row_written w more 0 0 r y (omega arith) g.0) in
    λ i. same i ∷ rows-once w more rs xs ys h.1 g.1 i

splits-once : (names : List Name) (outs : List (List ℕ)) (xs ys : List (List (List ℕ))) → AreSplit names outs xs → AreSplit names outs ys → xs ≡ ys
splits-once names [] [] [] h g = refl
splits-once names [] [] (y ∷ ys) h g = absurd g
splits-once names [] (x ∷ xs) ys h g = absurd h
splits-once names (o ∷ os) [] ys h g = absurd h
splits-once names (o ∷ os) (x ∷ xs) [] h g = absurd g
splits-once names (o ∷ os) (x ∷ xs) (y ∷ ys) h g =
    let same = one-split names x y h.0.are g.0.are (sym h.0.is ∙ g.0.is) in
    λ i. same i ∷ splits-once names os xs ys h.1 g.1 i

each-once : (kind : TableKind) (ss : List (List ℕ)) (xs ys : List (List (List ℤ))) → EachWrites kind ss xs → EachWrites kind ss ys → xs ≡ ys
each-once kind [] [] [] h g = refl
each-once kind [] [] (y ∷ ys) h g = absurd g
each-once kind [] (x ∷ xs) ys h g = absurd h
each-once kind (s ∷ ss) [] ys h g = absurd h
each-once kind (s ∷ ss) (x ∷ xs) [] h g = absurd g
each-once kind (s ∷ ss) (x ∷ xs) (y ∷ ys) h g =
    λ i. rows-once (table_width kind) false (csv_records s) x y h.0 g.0 i ∷ each-once kind ss xs ys h.1 g.1 i

tables-once : (ts : List TableDecl) (splits : List (List (List ℕ))) (xs ys : List (List (List ℤ))) → TablesHaveRows ts splits xs → TablesHaveRows ts splits ys
    → xs ≡ ys
tables-once [] splits [] [] h g = refl
tables-once [] splits [] (y ∷ ys) h g = absurd g
tables-once [] splits (x ∷ xs) ys h g = absurd h
tables-once (t ∷ ts) splits [] ys h g = absurd h
tables-once (t ∷ ts) splits (x ∷ xs) [] h g = absurd g
tables-once (t ∷ ts) splits (x ∷ xs) (y ∷ ys) h g =
    let same = h.0.is ∙ ap joined (each-once t.kind (map first_section splits) h.0.each g.0.each h.0.write g.0.write) ∙ sym g.0.is in
    λ i. same i ∷ tables-once ts (map other_sections splits) xs ys h.1 g.1 i

-- the law: texts have one merge at most
pub one_merge : OneMerge
one_merge tables outs first second h g =
    let a = h.added in
    let b = g.added in
    let names = table_names tables in
    let splits = splits-once names outs a.splits b.splits a.split b.split in
    let rows = tables-once tables b.splits h.rows g.rows (subst (λ (l : List (List (List ℕ))). TablesHaveRows tables l h.rows) splits a.have) b.have in
    h.is ∙ ap (λ (rs : List (List (List ℤ))). tables_text names (tabs tables rs)) rows ∙ sym g.is
