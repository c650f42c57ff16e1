-- The instants of a piece and of the whole, in parts.
use Rattle.std.proofs.Common.{◌≡◌, ℤ, Bool, true, false, List, [], ◌∷◌, ◌++◌, refl, sym, ap, ◌∙◌, arith, subst, append_assoc}
use Rattle.std.specs.Prelude.{int_lt, int_le, filter, not, Option}
use Rattle.std.specs.List.{AllByRecursion, Contains}
use Rattle.std.proofs.lemmas.Bool.{and_parts, and_from, not-false, not_from_true}
use Rattle.river_base.specs.Instants.{at_instant, instants}
use Rattle.cql_model.proofs.Instants.{Ascends}
use Rattle.cql_pieces.specs.Piece.{File, Cut, cut_file, cut_files, whole_files, is_full, missing, last_before, settled}
use Rattle.cql_pieces.proofs.Lists.{Beyond, cut_at, filter_ascends, filter_passing, SameRows}
use Rattle.cql_pieces.proofs.Cuts.{same_rising, in_filter, of_filter, each_contained, not_above_last, instants_ascend, piece_in_whole, whole_in_piece, upto, each_file}

-- THE PARTS OF THE INSTANTS

-- what comes after an instant behind the end is behind the end
pub upto_down : (hi u v : ℤ) → int_lt u v ≡ true → int_le u hi ≡ false → int_le v hi ≡ false
upto_down hi u v h g = grind (arith, h, g)

le_up : (lo u v : ℤ) → int_lt u v ≡ true → int_le lo u ≡ true → int_le lo v ≡ true
le_up lo u v h g = grind (arith, h, g)

full_up : (cs : List Cut) (u v : ℤ) → int_lt u v ≡ true → is_full cs u ≡ true → is_full cs v ≡ true
full_up [] u v h f = refl
full_up (c ∷ cs) u v h f =
    let g = and_parts (int_le c.lo u) (is_full cs u) f in
    and_from (int_le c.lo v) (is_full cs v) (le_up c.lo u v h g.0) (full_up cs u v h g.1)

full_down : (cs : List Cut) (u v : ℤ) → int_lt u v ≡ true → not (is_full cs u) ≡ false → not (is_full cs v) ≡ false
full_down cs u v h e = not_from_true (is_full cs v) (full_up cs u v h (not-false (is_full cs u) e))

twice : (b : Bool) → not (not b) ≡ true → b ≡ true
twice true e = refl
twice false e = e

twice_back : (b : Bool) → b ≡ true → not (not b) ≡ true
twice_back true e = refl
twice_back false e = e

-- The piece has the instants `vs` of the whole, at which all files are there, behind `xs`, where the whole has `us`; the whole goes on
-- with `ws`. Each file of the piece has the rows of the whole's above its bound.
pub record Stretch (hi : ℤ) (cuts : List Cut) : Type 0 where
  pub xs : List ℤ
  pub us : List ℤ
  pub vs : List ℤ
  pub ws : List ℤ
  pub piece : xs ++ vs ≡ instants (cut_files hi cuts)
  pub whole : us ++ (vs ++ ws) ≡ instants (whole_files cuts)
  pub begins : Beyond (missing cuts (instants (whole_files cuts))) xs
  pub before : Beyond (missing cuts (instants (whole_files cuts))) us
  pub behind : AllByRecursion (λ u. not (int_le u hi) ≡ true) ws
  pub files : AllByRecursion (λ c. SameRows (xs ++ vs) (us ++ vs) (last_before c.lo (instants (whole_files cuts))) (at_instant (cut_file c.lo hi c.file)) (at_instant c.file)) cuts

-- every cut has these parts
pub stretch : (hi : ℤ) (cuts : List Cut) → Stretch hi cuts
stretch hi cuts = record {
  xs = xs;
  us = us;
  vs = vs;
  ws = ws;
  piece = ep;
  whole = et;
  begins = each_contained (λ u. settled start u ≡ false) xs begins;
  before = each_contained (λ u. settled start u ≡ false) us before;
  behind = filter_passing (λ u. not (int_le u hi)) ts;
  files = subst (λ (l : List ℤ). AreSame l (us ++ vs)) (sym ep) (subst (λ (l : List ℤ). AreSame ps l) eq (each_file hi cuts cuts (λ u m. m)));
} where
  ts : List ℤ
  ts = instants (whole_files cuts)

  piece : List File
  piece = cut_files hi cuts

  ps : List ℤ
  ps = instants piece

  start : Option ℤ
  start = missing cuts ts

  pa : Ascends ps
  pa = instants_ascend piece

  ta : Ascends ts
  ta = instants_ascend (whole_files cuts)

  nf : ℤ → Bool
  nf u = not (is_full cuts u)

  nn : ℤ → Bool
  nn u = not (not (is_full cuts u))

  le : ℤ → Bool
  le u = int_le u hi

  qs : List ℤ
  qs = upto hi ts

  ws : List ℤ
  ws = filter (λ u. not (int_le u hi)) ts

  us : List ℤ
  us = filter nf qs

  vs : List ℤ
  vs = filter nn qs

  xs : List ℤ
  xs = filter nf ps

  qa : Ascends qs
  qa = filter_ascends le ts ta

  AreSame : List ℤ → List ℤ → Type 0
  AreSame ys zs = AllByRecursion (λ c. SameRows ys zs (last_before c.lo ts) (at_instant (cut_file c.lo hi c.file)) (at_instant c.file)) cuts

  eq : qs ≡ us ++ vs
  eq = cut_at nf (full_down cuts) qs qa

  et : us ++ (vs ++ ws) ≡ ts
  et = sym (append_assoc us vs ws) ∙ ap (λ l. l ++ ws) (sym eq) ∙ sym (cut_at le (upto_down hi) ts ta)

  same : filter nn ps ≡ vs
  same = same_rising (filter nn ps) vs (filter_ascends nn ps pa) (filter_ascends nn qs qa)
      (λ u h. let m = of_filter nn ps u h in
      let w = piece_in_whole hi cuts u m.0 in
      in_filter nn qs u (in_filter le ts u w.0 w.1) m.1)
      (λ u h. let m = of_filter nn qs u h in
      let w = of_filter le ts u m.0 in
      in_filter nn ps u (whole_in_piece hi cuts u w.0 (twice (is_full cuts u) m.1) w.1) m.1)

  ep : xs ++ vs ≡ ps
  ep = ap (λ l. xs ++ l) (sym same) ∙ sym (cut_at nf (full_down cuts) ps pa)

  begins : (u : ℤ) → Contains xs u → settled start u ≡ false
  begins u h = let m = of_filter nf ps u h in not_above_last nf ts u ta (piece_in_whole hi cuts u m.0).0 m.1

  before : (u : ℤ) → Contains us u → settled start u ≡ false
  before u h = let m = of_filter nf qs u h in not_above_last nf ts u ta (of_filter le ts u m.0).0 m.1
