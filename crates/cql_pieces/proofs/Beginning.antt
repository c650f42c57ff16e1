-- A piece that begins with the files is right everywhere.
use Rattle.std.proofs.Common.{◌≡◌, ℤ, Bool, true, false, List, [], ◌∷◌, refl, ap, arith, cond}
use Rattle.std.specs.Prelude.{int_lt, int_le, ◌&&◌, not, Option, Some, None}
use Rattle.std.specs.List.{AllByRecursion}
use Rattle.std.proofs.lemmas.Bool.{and_from, not_from_true}
use Rattle.river_base.specs.Instants.{instants}
use Rattle.river_base.specs.Name.{name_eq}
use Rattle.cql_text.specs.Tree.{Name, Source, Query, Register, AQuery, Program}
use Rattle.cql_text.specs.declared.tree.Kind.{Kind}
use Rattle.cql_text.specs.declared.tree.Kind.TheVariants.{Istream, Dstream, Rstream}
use Rattle.cql_model.specs.Streams.{last_instant}
use Rattle.cql_model.specs.Meaning.{rows_named}
use Rattle.cql_model.proofs.Instants.{filter-none, each-map}
use Rattle.cql_pieces.specs.Piece.{File, Cut, cut_files, whole_files, is_full, missing, last_before, starts_of, both, moved, window_moves, window_settles}
use Rattle.cql_pieces.specs.Piece.{kind_moves, kind_settles, PieceStream, streams_in, bound_named, items_settle, growing, growth_settles, stream_settles}
use Rattle.cql_pieces.specs.Piece.{query_settles, file_piece, query_piece, bounds}
use Rattle.cql_pieces.specs.Beginning.{FromTheBeginning}

-- NO BOUND COMES OF NONE

no_move : (f : ℤ → ℤ) (o : Option ℤ) → o ≡ None → moved f o ≡ None
no_move f None h = refl
no_move f (Some m) h = cc h

no_both : (a b : Option ℤ) → a ≡ None → b ≡ None → both a b ≡ None
no_both None b h g = g
no_both (Some m) b h g = cc h

NoBounds : List PieceStream → Type 0
NoBounds ks = AllByRecursion (λ k. k.bound ≡ None) ks

no_named : (ks : List PieceStream) (n : Name) → NoBounds ks → bound_named ks n ≡ None
unfolding NoBounds
no_named [] n h = refl
no_named (k ∷ ks) n h = go (name_eq k.stream.named.name n) h.0 (no_named ks n h.1) where
  go : (b : Bool) → k.bound ≡ None → bound_named ks n ≡ None → cond b k.bound (bound_named ks n) ≡ None
  go true x y = x
  go false x y = y

no_items : (vs : List ℤ) (start : Option ℤ) (ks : List PieceStream) (items : List Source) → start ≡ None → NoBounds ks → items_settle vs start ks items ≡ None
no_items vs start ks [] e h = e
no_items vs start ks (i ∷ is) e h =
    no_both (window_settles i.window vs (rows_named (streams_in ks) i.stream) (bound_named ks i.stream)) (items_settle vs start ks is)
    (no_move (window_moves i.window vs (rows_named (streams_in ks) i.stream)) (bound_named ks i.stream) (no_named ks i.stream h))
    (no_items vs start ks is e h)

no_growth : (k : Kind) (start stream other : Option ℤ) → start ≡ None → stream ≡ None → other ≡ None → growth_settles k start stream other ≡ None
no_growth Istream start stream other e s o = no_both stream start s e
no_growth Dstream start stream other e s o = e
no_growth Rstream start stream other e s o = o

no_query : (vs : List ℤ) (start : Option ℤ) (ks : List PieceStream) (q : Query) → start ≡ None → NoBounds ks → query_settles vs start ks q ≡ None
no_query vs start ks q e h = go (growing q.items) (no_move (kind_moves q.kind vs) (items_settle vs start ks q.items) (no_items vs start ks q.items e h)) where
  go : (o : Option Name) → kind_settles q.kind vs (items_settle vs start ks q.items) ≡ None
      → stream_settles o q.kind start ks (kind_settles q.kind vs (items_settle vs start ks q.items)) ≡ None
  go None x = x
  go (Some n) x = no_growth q.kind start (bound_named ks n) (kind_settles q.kind vs (items_settle vs start ks q.items)) e (no_named ks n h) x

no_bounds : (vs : List ℤ) (start : Option ℤ) (ks : List PieceStream) (p : Program) (os : List (Option ℤ)) (files : List File) → start ≡ None → NoBounds ks
    → AllByRecursion (λ o. o ≡ None) os → AllByRecursion (λ m. m ≡ None) (bounds vs start ks p os files)
unfolding NoBounds
no_bounds vs start ks [] os files e h o = tt
no_bounds vs start ks (Register name fields ∷ p) [] [] e h o = no_bounds vs start (file_piece None name fields [] ∷ ks) p [] [] e (refl, h) tt
no_bounds vs start ks (Register name fields ∷ p) [] (f ∷ files) e h o = no_bounds vs start (file_piece None name fields (f ∷ files) ∷ ks) p [] files e (refl, h) tt
no_bounds vs start ks (Register name fields ∷ p) (x ∷ os) [] e h o = no_bounds vs start (file_piece x name fields [] ∷ ks) p os [] e (o.0, h) o.1
no_bounds vs start ks (Register name fields ∷ p) (x ∷ os) (f ∷ files) e h o =
    no_bounds vs start (file_piece x name fields (f ∷ files) ∷ ks) p os files e (o.0, h) o.1
no_bounds vs start ks (AQuery q ∷ p) os files e h o =
    (no_query vs start ks q e h, no_bounds vs start (query_piece vs start ks q ∷ ks) p os files e (no_query vs start ks q e h, h) o)

-- NOTHING IS BEFORE

not_lt : (lo u : ℤ) → int_le lo u ≡ true → int_lt u lo ≡ false
not_lt lo u h = grind (arith, h)

none_before_lo : (lo : ℤ) (ts : List ℤ) → AllByRecursion (λ u. int_le lo u ≡ true) ts → last_before lo ts ≡ None
none_before_lo lo ts h =
    ap last_instant (filter-none (λ u. int_lt u lo) ts (each-map (λ u. int_le lo u ≡ true) (λ u. int_lt u lo ≡ false) (λ u k. not_lt lo u k) ts h))

no_starts : (ts : List ℤ) (cs : List Cut) → AllByRecursion (λ c. AllByRecursion (λ u. int_le c.lo u ≡ true) ts) cs
    → AllByRecursion (λ o. o ≡ None) (starts_of cs ts)
no_starts ts [] h = tt
no_starts ts (c ∷ cs) h = (none_before_lo c.lo ts h.0, no_starts ts cs h.1)

both_all : (p q : ℤ → Bool) (ts : List ℤ) → AllByRecursion (λ u. p u ≡ true) ts → AllByRecursion (λ u. q u ≡ true) ts → AllByRecursion (λ u. (p u && q u) ≡ true) ts
both_all p q [] h g = tt
both_all p q (t ∷ ts) h g = (and_from (p t) (q t) h.0 g.0, both_all p q ts h.1 g.1)

nothing_more : (ts : List ℤ) → AllByRecursion (λ u. true ≡ true) ts
nothing_more [] = tt
nothing_more (t ∷ ts) = (refl, nothing_more ts)

all_full : (ts : List ℤ) (cs : List Cut) → AllByRecursion (λ c. AllByRecursion (λ u. int_le c.lo u ≡ true) ts) cs → AllByRecursion (λ u. is_full cs u ≡ true) ts
all_full ts [] h = nothing_more ts
all_full ts (c ∷ cs) h = both_all (λ u. int_le c.lo u) (is_full cs) ts h.0 (all_full ts cs h.1)

no_missing : (ts : List ℤ) (cs : List Cut) → AllByRecursion (λ c. AllByRecursion (λ u. int_le c.lo u ≡ true) ts) cs → missing cs ts ≡ None
no_missing ts cs h =
    ap last_instant (filter-none (λ u. not (is_full cs u)) ts
    (each-map (λ u. is_full cs u ≡ true) (λ u. not (is_full cs u) ≡ false) (λ u k. not_from_true (is_full cs u) k) ts (all_full ts cs h)))

-- the law
pub from_the_beginning : FromTheBeginning
unfolding NoBounds
from_the_beginning p hi cuts h =
    let ts = instants (whole_files cuts) in
    no_bounds (instants (cut_files hi cuts)) (missing cuts ts) [] p (starts_of cuts ts) (cut_files hi cuts) (no_missing ts cuts h) tt (no_starts ts cuts h)
