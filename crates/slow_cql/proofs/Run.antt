-- A program, answered one part after another.
use Rattle.std.proofs.Common.{◌≡◌, ℕ, ◌+◌, ◌<◌, ℤ, List, [], ◌∷◌, ◌++◌, length, get_or, drop, map, refl, sym, ap, ◌∙◌, subst, arith, append_assoc}
use Rattle.std.proofs.lemmas.List.{length-map, append-nil}
use Rattle.river_base.proofs.Lists.{drop_next}
use Rattle.river_base.specs.declared.item.Item as item
use Rattle.river_plan.specs.Forms.{Name}
use Rattle.cql_model.specs.Laws.{AreFiles}
use Rattle.cql_text.specs.Tree.{Query, Register, AQuery, Program}
use Rattle.cql_model.specs.Streams.{spread}
use Rattle.cql_model.specs.Meaning.{KnownStream, named_of, stream_known, other_files, answer, query_known, answers}
use Rattle.cql_model.proofs.Widths.{AllWide, answer_wide, file_wide}
use Rattle.cql_text.specs.declared.tree.Unit as tree
use Rattle.cql_text.specs.Tree.{unit_form, unit_forms}
use Rattle.slow_cql.specs.declared.kept.Kept.{Kept}
use Rattle.slow_cql.specs.Kept.{Entry, StandsKept}
use Rattle.slow_cql.specs.Contents.{AreNarrow, HaveColumns}
use Rattle.slow_cql.proofs.Contents.{are_narrow}
use Rattle.slow_cql.proofs.Standing.{nothing_stands}
use Rattle.slow_cql.proofs.Tuples.{map_at}

-- what is left of the program and of the files, with what is known, gives the outputs that are to come
pub record Rest (ts : List ℤ) (ps : Program) (files : List (List Entry)) (all : List Kept) (outs whole : List (List item.Item)) : Type 0 where
  pub known : List KnownStream
  pub stands : StandsKept ts all known
  pub wide : AllWide known
  pub columns : HaveColumns (named_of known) ps
  pub given : AreFiles ps files
  pub means : outs ++ map (spread ts) (answers ts known ps files) ≡ whole

-- at first all of the program is left
pub whole_rest : (ts : List ℤ) (ps : Program) (files : List (List Entry)) (all : List Kept) → all ≡ [] → HaveColumns [] ps → AreFiles ps files
    → Rest ts ps files all [] (map (spread ts) (answers ts [] ps files))
whole_rest ts ps files all none q f = record {
  known = [];
  stands = subst (λ (l : List Kept). StandsKept ts l []) (sym none)
      (nothing_stands ts);
  wide = tt;
  columns = q;
  given = f;
  means = refl;
}

abbrev pub Declares : List ℤ → List Kept → List Kept → (List KnownStream → KnownStream) → Type 0
Declares ts old new k = (ks : List KnownStream) → StandsKept ts old ks → StandsKept ts new (k ks ∷ ks)

-- without the stream that is registered now
pub rest_register : (ts : List ℤ) (name : Name) (fields : List Name) (ps : Program) (files : List (List Entry)) (old new : List Kept)
    (outs whole : List (List item.Item))
    → Rest ts (Register name fields ∷ ps) files old outs whole → Declares ts old new (λ ks. stream_known name fields files)
    → Rest ts ps (other_files files) new outs whole
rest_register ts name fields ps [] old new outs whole r d = absurd r.given
rest_register ts name fields ps (file ∷ files) old new outs whole r d = record {
  known = stream_known name fields (file ∷ files) ∷ r.known;
  stands = d r.known r.stands;
  wide = ((λ t. file_wide (length fields) file t r.given.0), r.wide);
  columns = r.columns;
  given = r.given.1;
  means = r.means;
}

-- without the query that is answered now
pub rest_query : (ts : List ℤ) (q : Query) (ps : Program) (files : List (List Entry)) (old new : List Kept) (outs more whole : List (List item.Item))
    → Rest ts (AQuery q ∷ ps) files old outs whole → Declares ts old new (λ ks. query_known ts ks q)
    → ((ks : List KnownStream) → StandsKept ts old ks → more ≡ outs ++ spread ts (answer ts ks q) ∷ [])
    → Rest ts ps files new more whole
rest_query ts q ps files old new outs more whole r d o = record {
  known = query_known ts r.known q ∷ r.known;
  stands = d r.known r.stands;
  wide = ((λ t. answer_wide ts r.known q t r.wide), r.wide);
  columns = r.columns.1;
  given = r.given;
  means =
      ap (λ l. l ++ map (spread ts) (answers ts (query_known ts r.known q ∷ r.known) ps files)) (o r.known r.stands)
      ∙ append_assoc outs (spread ts (answer ts r.known q) ∷ []) (map (spread ts) (answers ts (query_known ts r.known q ∷ r.known) ps files))
      ∙ r.means;
}

-- the rows of the next query are narrow
pub rest_narrow : (ts : List ℤ) (q : Query) (ps : Program) (files : List (List Entry)) (all : List Kept) (outs whole : List (List item.Item))
    → Rest ts (AQuery q ∷ ps) files all outs whole → (ks : List KnownStream) × StandsKept ts all ks × AreNarrow ts ks q
rest_narrow ts q ps files all outs whole r = (r.known, r.stands, are_narrow ts r.known q r.wide r.columns.0)

pub rest_none : (ts : List ℤ) (files : List (List Entry)) (all : List Kept) (outs whole : List (List item.Item)) → Rest ts [] files all outs whole
    → outs ≡ whole
rest_none ts files all outs whole r = sym (append-nil outs) ∙ r.means

-- the same over values that are equal
pub rest_same : (ts : List ℤ) (ps : Program) (fs gs : List (List Entry)) (old new : List Kept) (outs more whole : List (List item.Item)) → gs ≡ fs
    → new ≡ old → more ≡ outs
    → Rest ts ps fs old outs whole → Rest ts ps gs new more whole
rest_same ts ps fs gs old new outs more whole a b c r =
    subst (λ l. Rest ts ps l new more whole) (sym a) (subst (λ (l : List Kept). Rest ts ps fs l more whole) (sym b)
    (subst (λ l. Rest ts ps fs old l whole) (sym c) r))

-- the part at a place of the program
pub part_at : (parts : List tree.Unit) (i : ℕ) (x : tree.Unit) → i < length parts → x ≡ get_or parts i x
    → drop i (unit_forms parts) ≡ unit_form x ∷ drop (i + 1) (unit_forms parts)
part_at parts i x lt e =
    let less : i < length (unit_forms parts) = (let l = length-map parts unit_form in omega (arith, l, lt)) in
    drop_next (unit_forms parts) i (unit_form x) less (map_at unit_form parts i x lt e)
