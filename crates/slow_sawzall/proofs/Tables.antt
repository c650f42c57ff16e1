-- The tables of a program, one after another, and what is added to each.
use Rattle.std.proofs.Common.{◌≡◌, ℕ, ◌+◌, ◌<◌, ◌≤◌, true, false, List, [], ◌∷◌, ◌++◌, length, take, drop, map, get_or, refl, sym, ap, ◌∙◌, subst}
use Rattle.std.proofs.Common.{append_assoc, append-nil}
use Rattle.std.specs.Prelude.{if◌then◌else◌}
use Rattle.std.proofs.lemmas.List.{take_more, take_all}
use Rattle.saw_model.proofs.Means.{rows_for-append}
use Rattle.river_base.proofs.Lists.{drop_next}
use Rattle.kern_tables.specs.declared.kind.TableKind.{TableKind}
use Rattle.kern_tables.specs.declared.kept.Aggregate.{Aggregate}
use Rattle.kern_tables.specs.Kept.{kept_of, with_row, rows_of, kind_of_table, width_of_table}
use Rattle.kern_tables.specs.Tables.{tab, table_width}
use Rattle.kern_tables.proofs.Tabs.{tables_keep_adds}
use Rattle.river_base.specs.Name.{name_eq}
use Rattle.river_plan.specs.Forms.{Name}
use Rattle.saw_text.specs.Tree.{UnitForm, TableUnit, StatementUnit, Program}
use Rattle.saw_model.specs.Meaning.{Emitted, rows_for}
use Rattle.saw_text.specs.declared.tree.Unit as unit
use Rattle.saw_text.specs.Tree.{unit_form, unit_forms}
use Rattle.saw_front.proofs.JudgedUnits.{parts_at, parts_none}
use Rattle.slow_sawzall.specs.Sawzall.{tables_for, AreAllWide, IsWideFor, AreWideFor}

-- ONE TABLE

row_here : (n : Name) (e : Emitted) (es : List Emitted) → name_eq e.0 n ≡ true → rows_for n (e ∷ es) ≡ e.1 ∷ rows_for n es
row_here n e es h = ap (λ b. if b then e.1 ∷ rows_for n es else rows_for n es) h

row_other : (n : Name) (e : Emitted) (es : List Emitted) → name_eq e.0 n ≡ false → rows_for n (e ∷ es) ≡ rows_for n es
row_other n e es h = ap (λ b. if b then e.1 ∷ rows_for n es else rows_for n es) h

-- a table to which nothing was added has its kind
pub new_kind : (kind : TableKind) (table : Aggregate) → table ≡ kept_of kind [] → kind_of_table table ≡ kind
new_kind kind table e = ap kind_of_table e ∙ (tables_keep_adds kind).kind_is []

-- a table to which nothing was emitted
pub new_none : (kind : TableKind) (table : Aggregate) → table ≡ kept_of kind [] → table ≡ kept_of (kind_of_table table) []
new_none kind table e = e ∙ ap (λ k. kept_of k []) (sym (new_kind kind table e))

-- what was added so far, and that what is left is as wide as the table
pub record AddedSoFar (kind : TableKind) (n : Name) (es : List Emitted) (i : ℕ) (table : Aggregate) : Type 0 where
  pub kept : table ≡ kept_of kind (rows_for n (take i es))
  pub wide : AreAllWide (table_width kind) (rows_for n (drop i es))

pub added_start : (kind : TableKind) (n : Name) (es : List Emitted) (table : Aggregate) → table ≡ kept_of kind []
    → AreAllWide (table_width kind) (rows_for n es) → AddedSoFar kind n es 0 table
added_start kind n es table h w = record { kept = h; wide = w }

module _ (kind : TableKind) (n : Name) (es : List Emitted) (i : ℕ) (e : Emitted) (table : Aggregate) (lt : i < length es) (is : e ≡ get_or es i e)
    (f : AddedSoFar kind n es i table) where
  taken : take (i + 1) es ≡ take i es ++ e ∷ []
  taken = take_more es i e lt ∙ ap (λ x. take i es ++ x ∷ []) (sym is)

  left : AreAllWide (table_width kind) (rows_for n (e ∷ drop (i + 1) es))
  left = subst (λ l. AreAllWide (table_width kind) (rows_for n l)) (drop_next es i e lt is) f.wide

  more : rows_for n (take (i + 1) es) ≡ rows_for n (take i es) ++ rows_for n (e ∷ [])
  more = ap (rows_for n) taken ∙ rows_for-append n (take i es) (e ∷ [])

  module _ (h : name_eq e.0 n ≡ true) where
    both : AreAllWide (table_width kind) (e.1 ∷ rows_for n (drop (i + 1) es))
    both = subst (AreAllWide (table_width kind)) (row_here n e (drop (i + 1) es) h) left

    -- the row is as wide as the table
    pub row_fits : length e.1 ≡ width_of_table table
    row_fits = both.0 ∙ ap table_width (sym (ap kind_of_table f.kept ∙ (tables_keep_adds kind).kind_is (rows_for n (take i es))))

    -- it is added
    pub added_next : (next : Aggregate) → next ≡ with_row table e.1 → AddedSoFar kind n es (i + 1) next
    added_next next a = record {
      kept =
          a ∙ ap (λ t. with_row t e.1) f.kept ∙ sym ((tables_keep_adds kind).more (rows_for n (take i es)) e.1)
          ∙ ap (λ l. kept_of kind (rows_for n (take i es) ++ l)) (sym (row_here n e [] h)) ∙ ap (kept_of kind) (sym more);
      wide = both.1;
    }

  -- a row of another table is passed over
  pub added_skip : name_eq e.0 n ≡ false → AddedSoFar kind n es (i + 1) table
  added_skip h = record {
    kept = f.kept ∙ ap (kept_of kind) (sym (append-nil (rows_for n (take i es))) ∙ ap (λ l. rows_for n (take i es) ++ l) (sym (row_other n e [] h)) ∙ sym more);
    wide = subst (AreAllWide (table_width kind)) (row_other n e (drop (i + 1) es) h) left;
  }

-- behind the last row all were added
pub added_end : (kind : TableKind) (n : Name) (es : List Emitted) (i : ℕ) (table : Aggregate) → length es ≤ i → AddedSoFar kind n es i table
    → rows_of table ≡ tab kind (rows_for n es)
added_end kind n es i table le f = ap rows_of f.kept ∙ (tables_keep_adds kind).rows (rows_for n (take i es))
    ∙ ap (λ l. tab kind (rows_for n l)) (take_all i es le)

-- ALL TABLES

tables-cons : (c : UnitForm) (ps : Program) (es : List Emitted) → tables_for (c ∷ []) es ++ tables_for ps es ≡ tables_for (c ∷ ps) es
tables-cons (TableUnit tb) ps es = refl
tables-cons (StatementUnit c) ps es = refl

-- the tables so far and those that are left are all, and what is emitted to those that are left is as wide as they are
pub record TablesLeft (all rest : Program) (es : List Emitted) (made : List Aggregate) : Type 0 where
  pub done : map rows_of made ++ tables_for rest es ≡ tables_for all es
  pub wide : AreWideFor rest es

module _ (all : Program) (us : List unit.Unit) (i : ℕ) (u : unit.Unit) (es : List Emitted) (made : List Aggregate) (lt : i < length us)
    (e : u ≡ get_or us i u) (f : TablesLeft all (unit_forms (drop i us)) es made) where
  abbrev here : UnitForm
  here = unit_form u

  abbrev rest : Program
  rest = unit_forms (drop (i + 1) us)

  split : TablesLeft all (here ∷ rest) es made
  split = subst (λ (p : Program). TablesLeft all p es made) (parts_at us i u lt e) f

  pub table_wide : IsWideFor here es
  table_wide = split.wide.0

  -- one table more
  pub tables_next : (next : List Aggregate) → map rows_of next ≡ map rows_of made ++ tables_for (here ∷ []) es → TablesLeft all rest es next
  tables_next next is = record {
    done = ap (λ l. l ++ tables_for rest es) is ∙ append_assoc (map rows_of made) (tables_for (here ∷ []) es) (tables_for rest es)
        ∙ ap (λ l. map rows_of made ++ l) (tables-cons here rest es) ∙ split.done;
    wide = split.wide.1;
  }

-- behind the last unit all tables are made
pub tables_end : (all : Program) (us : List unit.Unit) (i : ℕ) (es : List Emitted) (made : List Aggregate) → length us ≤ i
    → TablesLeft all (unit_forms (drop i us)) es made → map rows_of made ≡ tables_for all es
tables_end all us i es made le f = sym (append-nil (map rows_of made)) ∙ ap (λ p. map rows_of made ++ tables_for p es) (sym (parts_none us i le)) ∙ f.done
