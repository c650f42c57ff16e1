-- Texts are added one after another.
use Rattle.std.proofs.Common.{◌≡◌, ℕ, ℤ, List, [], ◌∷◌, ◌++◌, map, refl, sym, ap, ◌∙◌, subst, append_assoc, append-nil}
use Rattle.std.proofs.lemmas.List.{map-append}
use Rattle.kern_tables.specs.declared.kept.Aggregate.{Aggregate}
use Rattle.kern_tables.specs.declared.kind.TableKind.{TableKind}
use Rattle.kern_tables.specs.Kept.{kept_of, added_all, rows_of}
use Rattle.kern_tables.specs.Pieces.{joined}
use Rattle.kern_tables.proofs.Tabs.{kept_more, kept_rows}
use Rattle.river_plan.specs.declared.plan.TableDecl.{TableDecl}
use Rattle.river_plan.specs.Forms.{Name, table_names}
use Rattle.csv_streams.specs.Outcome.{tables_text}
use Rattle.table_texts.specs.Split.{IsSplit, AreSplit}
use Rattle.piece_merge.specs.Added.{SectionWrites, SectionsWrite, first_section, other_sections, EachWrites, AreRowsOf, TablesHaveRows, AreAdded, IsMergeOf}
use Rattle.piece_merge.specs.Laws.{no_rows, with_more, NothingIsAdded, OneMoreIsAdded, MergingIsTables}
use Rattle.piece_merge.specs.Merging.{Merging, empty_merging, kept_each, added_each, IsOneMore, HasAdded}

-- NOTHING

-- where there is no text, there are no rows
none-have : (ts : List TableDecl) → TablesHaveRows ts [] (no_rows ts)
none-have [] = tt
none-have (t ∷ ts) = (record { each = []; write = tt; is = refl }, none-have ts)

-- the law on nothing
pub nothing_is_added : NothingIsAdded
nothing_is_added tables = record { splits = []; split = tt; have = none-have tables }

-- ONE MORE

splits-more : (names : List Name) (outs : List (List ℕ)) (splits : List (List (List ℕ))) (out : List ℕ) (sections : List (List ℕ)) → AreSplit names outs splits
    → IsSplit names out sections → AreSplit names (outs ++ out ∷ []) (splits ++ sections ∷ [])
splits-more names [] [] out s h g = (g, tt)
splits-more names [] (x ∷ xs) out s h g = absurd h
splits-more names (o ∷ os) [] out s h g = absurd h
splits-more names (o ∷ os) (x ∷ xs) out s h g = (h.0, splits-more names os xs out s h.1 g)

each-more : (kind : TableKind) (ss : List (List ℕ)) (rs : List (List (List ℤ))) (s : List ℕ) (r : List (List ℤ)) → EachWrites kind ss rs → SectionWrites kind s r
    → EachWrites kind (ss ++ s ∷ []) (rs ++ r ∷ [])
each-more kind [] [] s r h g = (g, tt)
each-more kind [] (q ∷ qs) s r h g = absurd h
each-more kind (x ∷ xs) [] s r h g = absurd h
each-more kind (x ∷ xs) (q ∷ qs) s r h g = (h.0, each-more kind xs qs s r h.1 g)

joined-more : (rs : List (List (List ℤ))) (r : List (List ℤ)) → joined (rs ++ r ∷ []) ≡ joined rs ++ r
joined-more [] r = append-nil r
joined-more (q ∷ qs) r = ap (λ (l : List (List ℤ)). q ++ l) (joined-more qs r) ∙ sym (append_assoc q (joined qs) r)

rows-more : (kind : TableKind) (ss : List (List ℕ)) (rows : List (List ℤ)) (s : List ℕ) (r : List (List ℤ)) → AreRowsOf kind ss rows → SectionWrites kind s r
    → AreRowsOf kind (ss ++ s ∷ []) (rows ++ r)
rows-more kind ss rows s r h g = record {
  each = h.each ++ r ∷ [];
  write = each-more kind ss h.each s r h.write g;
  is = ap (λ (l : List (List ℤ)). l ++ r) h.is ∙ sym (joined-more h.each r);
}

tables-more : (ts : List TableDecl) (splits : List (List (List ℕ))) (rows : List (List (List ℤ))) (ss : List (List ℕ)) (more : List (List (List ℤ)))
    → TablesHaveRows ts splits rows → SectionsWrite ts ss more → TablesHaveRows ts (splits ++ ss ∷ []) (with_more rows more)
tables-more [] splits [] ss more h g = tt
tables-more [] splits (r ∷ rs) ss more h g = absurd h
tables-more (t ∷ ts) splits [] ss more h g = absurd h
tables-more (t ∷ ts) splits (r ∷ rs) [] more h g = absurd g
tables-more (t ∷ ts) splits (r ∷ rs) (s ∷ ss) [] h g = absurd g
tables-more (t ∷ ts) splits (r ∷ rs) (s ∷ ss) (q ∷ qs) h g = (
  subst (λ (l : List (List ℕ)). AreRowsOf t.kind l (r ++ q)) (sym (map-append first_section splits ((s ∷ ss) ∷ [])))
      (rows-more t.kind (map first_section splits) r s q h.0 g.0),
  subst (λ (l : List (List (List ℕ))). TablesHaveRows ts l (with_more rs qs)) (sym (map-append other_sections splits ((s ∷ ss) ∷ [])))
      (tables-more ts (map other_sections splits) rs ss qs h.1 g.1),
)

-- the law on one text more
pub one_more_is_added : OneMoreIsAdded
one_more_is_added tables outs out rows more h g = record {
  splits = h.splits ++ g.sections ∷ [];
  split = splits-more (table_names tables) outs h.splits out g.sections h.split g.split;
  have = tables-more tables h.splits rows g.sections more h.have g.write;
}

-- WHAT IS KEPT

-- further rows of one table
kept-behind : (kind : TableKind) (rows more : List (List ℤ)) → added_all (kept_of kind rows) more ≡ kept_of kind (rows ++ more)
kept-behind kind rows [] = ap (kept_of kind) (sym (append-nil rows))
kept-behind kind rows (x ∷ xs) =
    ap (λ (t : Aggregate). added_all t xs) (sym (kept_more kind rows x))
    ∙ kept-behind kind (rows ++ x ∷ []) xs
    ∙ ap (kept_of kind) (append_assoc rows (x ∷ []) xs)

kept-next : (ts : List TableDecl) (rows more : List (List (List ℤ))) → added_each (kept_each ts rows) more ≡ kept_each ts (with_more rows more)
kept-next [] rows more = refl
kept-next (t ∷ ts) [] more = refl
kept-next (t ∷ ts) (r ∷ rs) [] = refl
kept-next (t ∷ ts) (r ∷ rs) (q ∷ qs) = λ i. kept-behind t.kind r q i ∷ kept-next ts rs qs i

kept-none : (ts : List TableDecl) → map (λ t. kept_of t.kind []) ts ≡ kept_each ts (no_rows ts)
kept-none [] = refl
kept-none (t ∷ ts) = ap (λ (l : List Aggregate). kept_of t.kind [] ∷ l) (kept-none ts)

-- the law on the rows of what is kept
pub merging_is_tables : MergingIsTables
merging_is_tables [] rows = refl
merging_is_tables (t ∷ ts) [] = refl
merging_is_tables (t ∷ ts) (r ∷ rs) = λ i. kept_rows t.kind r i ∷ merging_is_tables ts rs i

-- MERGERS

-- nothing was added to empty tables
pub none-added : (m : Merging) (tables : List TableDecl) → m ≡ empty_merging tables → HasAdded m []
none-added m tables e =
    subst (λ (n : Merging). HasAdded n []) (sym e) (record { rows = no_rows tables; added = nothing_is_added tables; kept = kept-none tables })

-- one text more was added
pub more-added : (old new : Merging) (out : List ℕ) → new.tables ≡ old.tables → IsOneMore old out new → (outs : List (List ℕ)) → HasAdded old outs
    → HasAdded new (outs ++ out ∷ [])
more-added old new out e o outs a = record {
  rows = with_more a.rows o.rows;
  added = subst (λ (ts : List TableDecl). AreAdded ts (outs ++ out ∷ []) (with_more a.rows o.rows)) (sym e)
      (one_more_is_added old.tables outs out a.rows o.rows a.added o.has);
  kept =
      o.kept ∙ ap (λ (ks : List Aggregate). added_each ks o.rows) a.kept ∙ kept-next old.tables a.rows o.rows
      ∙ ap (λ (ts : List TableDecl). kept_each ts (with_more a.rows o.rows)) (sym e);
}

-- what is printed of the tables is the merge of the texts
pub merge-is : (m : Merging) (text : List ℕ) → text ≡ tables_text (table_names m.tables) (map rows_of m.kept) → (outs : List (List ℕ)) → HasAdded m outs
    → IsMergeOf m.tables outs text
merge-is m text e outs a = record {
  rows = a.rows;
  added = a.added;
  is =
      e ∙ ap (λ (ks : List Aggregate). tables_text (table_names m.tables) (map rows_of ks)) a.kept
      ∙ ap (tables_text (table_names m.tables)) (merging_is_tables m.tables a.rows);
}
