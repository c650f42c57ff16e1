-- What a run printed is added.
use Rattle.std.proofs.Common.{◌≡◌, ℕ, suc, List, [], ◌∷◌, length, refl, sym, ap, ◌∙◌, subst}
use Rattle.kern_tables.specs.declared.kept.Aggregate.{Aggregate}
use Rattle.river_plan.specs.declared.plan.TableDecl.{TableDecl}
use Rattle.river_plan.specs.Forms.{table_names}
use Rattle.table_texts.specs.Split.{AreSections, IsSplit}
use Rattle.table_texts.proofs.OneSplit.{one-split}
use Rattle.piece_merge.specs.declared.fault.NoMerge.{NoMerge}
use Rattle.piece_merge.specs.declared.fault.NoMerge.TheVariants as why
use Rattle.table_texts.specs.declared.split.NoSplit.{NoSplit}
use Rattle.table_texts.specs.declared.split.NoSplit.TheVariants as split
use Rattle.table_texts.specs.Split.{SaysNoSplit}
use Rattle.piece_merge.specs.Added.{SectionsWrite}
use Rattle.piece_merge.specs.Faults.{SaysNoSections, SaysNoMerge, of_split}
use Rattle.piece_merge.specs.Merging.{Merging, IsOneMore}
use Rattle.piece_merge.specs.Steps.{AddedSections}

sections-many : (ts : List TableDecl) (ss : List (List ℕ)) → AreSections (table_names ts) ss → length ss ≡ length ts
sections-many [] [] h = refl
sections-many [] (s ∷ ss) h = absurd h
sections-many (t ∷ ts) [] h = absurd h
sections-many (t ∷ ts) (s ∷ ss) h = ap suc (sections-many ts ss h.1)

-- a split has a section for each table
pub as-many-sections : (ts : List TableDecl) (out : List ℕ) (ss : List (List ℕ)) → IsSplit (table_names ts) out ss → length ss ≡ length ts
as-many-sections ts out ss h = sections-many ts ss h.are

-- a text is added where its sections are
pub one-more : (old new : Merging) (out : List ℕ) (ss : List (List ℕ)) → IsSplit (table_names old.tables) out ss
    → AddedSections old.tables ss old.kept new.kept → IsOneMore old out new
one-more old new out ss s a = record { rows = a.rows; has = record { sections = ss; split = s; write = a.write }; kept = a.is }

-- so it is where the same text, tables and sections are read again
pub one-more-of : (old : Merging) (ts names again : List TableDecl) (ks new : List Aggregate) (out bytes : List ℕ) (ss qs : List (List ℕ))
    → record { tables = ts; kept = ks } ≡ old → names ≡ ts → again ≡ ts → bytes ≡ out → qs ≡ ss → IsSplit (table_names names) bytes ss
    → AddedSections again qs ks new → IsOneMore old out (record { tables = ts; kept = new })
one-more-of old ts names again ks new out bytes ss qs view e f b q split a =
    let start : Merging = record { tables = ts; kept = ks } in
    let end : Merging = record { tables = ts; kept = new } in
    let has = subst (λ (l : List ℕ). IsSplit (table_names ts) l ss) b (subst (λ (l : List TableDecl). IsSplit (table_names l) bytes ss) e split) in
    let added = subst (λ (l : List (List ℕ)). AddedSections ts l ks new) q (subst (λ (l : List TableDecl). AddedSections l qs ks new) f a) in
    subst (λ (m : Merging). IsOneMore m out end) view (one-more start end out ss has added)

-- a text has one split, so it has no rows where the sections have none
pub none-merge : (ts : List TableDecl) (out : List ℕ) (ss : List (List ℕ)) (fault : NoMerge) → IsSplit (table_names ts) out ss → SaysNoSections ts ss fault
    → SaysNoMerge ts out fault
none-merge ts out ss why.Other s none = λ rows h.
    let same = one-split (table_names ts) h.sections ss h.split.are s.are (sym h.split.is ∙ s.is) in
    none rows (subst (λ (qs : List (List ℕ)). SectionsWrite ts qs rows) same h.write)
none-merge ts out ss why.NoMemory s none = tt

-- so it has where they are read again
pub none-merge-of : (old : Merging) (ts names again : List TableDecl) (ks : List Aggregate) (out bytes : List ℕ) (ss qs : List (List ℕ)) (fault : NoMerge)
    → record { tables = ts; kept = ks } ≡ old → names ≡ ts → again ≡ ts → bytes ≡ out → qs ≡ ss → IsSplit (table_names names) bytes ss
    → SaysNoSections again qs fault → SaysNoMerge old.tables out fault
none-merge-of old ts names again ks out bytes ss qs fault view e f b q split told =
    let has = subst (λ (l : List ℕ). IsSplit (table_names ts) l ss) b (subst (λ (l : List TableDecl). IsSplit (table_names l) bytes ss) e split) in
    let says = subst (λ (l : List (List ℕ)). SaysNoSections ts l fault) q (subst (λ (l : List TableDecl). SaysNoSections l qs fault) f told) in
    subst (λ (m : Merging). SaysNoMerge m.tables out fault) view (none-merge ts out ss fault has says)

-- a text without a split has no rows
pub none-split : (ts : List TableDecl) (out : List ℕ) (fault : NoSplit) → SaysNoSplit (table_names ts) out fault → SaysNoMerge ts out (of_split fault)
none-split ts out split.Other none = λ rows h. none h.sections h.split
none-split ts out split.NoMemory none = tt
