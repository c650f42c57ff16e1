-- The laws of pieces.
use Rattle.std.proofs.Common.{◌≡◌, ℤ, pos, ◌≤ℤ◌, Bool, true, false, List, [], ◌∷◌, ◌++◌, refl, sym, ap, ◌∙◌, arith, subst, map}
use Rattle.std.specs.Prelude.{int_lt, int_le, filter, ◌&&◌, ◌+ℤ◌, not, Option, Some, None}
use Rattle.std.specs.List.{AllByRecursion}
use Rattle.std.proofs.lemmas.Bool.{and_parts, and_right, and_from}
use Rattle.river_base.specs.Instants.{Timed, instants, item_at, spread}
use Rattle.river_base.specs.declared.item.Item as item
use Rattle.cql_text.specs.Tree.{Program}
use Rattle.cql_model.specs.Meaning.{answers}
use Rattle.cql_model.proofs.Feeding.{spread-append}
use Rattle.cql_model.proofs.Instants.{Ascends, filter-none, filter-all, each-map}
use Rattle.cql_pieces.specs.Piece.{File, Cut, within, cut_file, cut_files, whole_files, is_full, missing, last_before, starts_of, settled, bounds, piece_bounds}
use Rattle.cql_pieces.specs.Whole.{Agree, AllAgree, SettledIsWhole, Part, cuts_at, cuts_of, IsRight, AreRight, Follow, taken, part_gives, one_behind}
use Rattle.cql_pieces.specs.Whole.{nothing_for, parts_give, PiecesGiveTheWhole}
use Rattle.cql_pieces.proofs.Lists.{cut_at, filter_both, filter_step, filter_ascends}
use Rattle.cql_pieces.proofs.Queries.{all_agree}
use Rattle.cql_pieces.proofs.Stretch.{stretch, upto_down}
use Rattle.cql_pieces.proofs.Cuts.{same_rising, in_filter, of_filter, instants_ascend, piece_in_whole, whole_in_piece, upto}

-- the law: above a query's bound, what the piece gives is what the whole gives
pub settled_is_whole : SettledIsWhole
settled_is_whole p hi cuts =
    let s = stretch hi cuts in
    let ts = instants (whole_files cuts) in
    let piece = cut_files hi cuts in
    let start = missing cuts ts in
    subst (λ (l : List ℤ). AllAgree (bounds l start [] p (starts_of cuts ts) piece) (answers l [] p piece) (answers ts [] p (whole_files cuts)) l) s.piece
    (subst (λ (l : List ℤ).
    AllAgree (bounds (s.xs ++ s.vs) start [] p (starts_of cuts ts) piece) (answers (s.xs ++ s.vs) [] p piece) (answers l [] p (whole_files cuts)) (s.xs ++ s.vs)) s.whole
    (all_agree s.xs s.us s.vs s.ws start (subst Ascends (sym s.piece) (instants_ascend piece)) (subst Ascends (sym s.whole) (instants_ascend (whole_files cuts)))
    s.begins s.before (λ c. cut_file c.lo hi c.file) (λ c. last_before c.lo ts) [] [] tt p cuts s.files))

-- PART BY PART

settled_up : (m : Option ℤ) (t u : ℤ) → int_le t u ≡ true → settled m t ≡ true → settled m u ≡ true
settled_up None t u h g = refl
settled_up (Some m) t u h g = up m t u h g where
  up : (m t u : ℤ) → int_le t u ≡ true → int_lt m t ≡ true → int_lt m u ≡ true
  up m t u h g = grind (arith, h, g)

-- in its span the part is right
agree_on : (first upto : ℤ) (m : Option ℤ) (s r : Timed) (vs : List ℤ) → settled m first ≡ true → Agree m s r vs
    → AllByRecursion (λ t. s t ≡ r t) (filter (within first upto) vs)
agree_on first upto m s r [] h g = tt
agree_on first upto m s r (v ∷ vs) h g =
    let more = agree_on first upto m s r vs h g.1 in
    filter_step (within first upto) (AllByRecursion (λ t. s t ≡ r t)) v vs
    (λ e. (g.0 (settled_up m first v (and_parts (int_le first v) (int_le v upto) e).0 h), more)) (λ e. more)

spread_same : (ts : List ℤ) (s r : Timed) → AllByRecursion (λ t. s t ≡ r t) ts → spread ts s ≡ spread ts r
spread_same [] s r h = refl
spread_same (t ∷ ts) s r h = ap (λ rows. item_at t rows ∷ spread ts s) h.0 ∙ ap (λ l. item_at t (r t) ∷ l) (spread_same ts s r h.1)

-- the items of each query in a list of instants
abbrev spreads : List ℤ → List Timed → List (List item.Item)
spreads ts ss = map (λ s. spread ts s) ss

taken_same : (first upto : ℤ) (vs span : List ℤ) → filter (within first upto) vs ≡ span → (ms : List (Option ℤ)) (ss rs : List Timed) → AllAgree ms ss rs vs
    → AllByRecursion (λ m. settled m first ≡ true) ms → map (taken first upto vs) ss ≡ spreads span rs
taken_same first upto vs span e [] [] [] g h = refl
taken_same first upto vs span e [] [] (r ∷ rs) g h = absurd g
taken_same first upto vs span e [] (s ∷ ss) rs g h = absurd g
taken_same first upto vs span e (m ∷ ms) [] rs g h = absurd g
taken_same first upto vs span e (m ∷ ms) (s ∷ ss) [] g h = absurd g
taken_same first upto vs span e (m ∷ ms) (s ∷ ss) (r ∷ rs) g h =
    let one : taken first upto vs s ≡ spread span r =
    spread_same (filter (within first upto) vs) s r (agree_on first upto m s r vs h.0 g.0) ∙ ap (λ l. spread l r) e in
    ap (λ x. x ∷ map (taken first upto vs) ss) one ∙ ap (λ l. spread span r ∷ l) (taken_same first upto vs span e ms ss rs g.1 h.1)

-- the files of the cuts of a part are the files as they were
pub whole_cuts : (first : ℤ) (los : List ℤ) (files : List File) → whole_files (cuts_at first los files) ≡ files
whole_cuts first [] [] = refl
whole_cuts first (lo ∷ los) [] = refl
whole_cuts first [] (f ∷ files) = ap (λ l. f ∷ l) (whole_cuts first [] files)
whole_cuts first (lo ∷ los) (f ∷ files) = ap (λ l. f ∷ l) (whole_cuts first los files)

le_over : (lo first u : ℤ) → lo ≤ℤ first → int_le first u ≡ true → int_le lo u ≡ true
le_over lo first u h g = grind (arith, h, g)

-- from the beginning of the span on all files are there
full_from : (first u : ℤ) (los : List ℤ) (files : List File) → AllByRecursion (λ lo. lo ≤ℤ first) los → int_le first u ≡ true
    → is_full (cuts_at first los files) u ≡ true
full_from first u [] [] h e = refl
full_from first u (lo ∷ los) [] h e = refl
full_from first u [] (f ∷ files) h e = and_from (int_le first u) (is_full (cuts_at first [] files) u) e (full_from first u [] files h e)
full_from first u (lo ∷ los) (f ∷ files) h e =
    and_from (int_le lo u) (is_full (cuts_at first los files) u) (le_over lo first u h.0 e) (full_from first u los files h.1 e)

part_same : (p : Program) (files : List File) (part : Part) → IsRight p files part
    → part_gives p files part ≡ spreads (filter (within part.first part.upto) (instants files)) (answers (instants files) [] p files)
part_same p files part right =
    subst (λ (fs : List File). part_gives p files part ≡ spreads (filter W (instants fs)) (answers (instants fs) [] p fs)) (whole_cuts part.first part.los files)
    (taken_same part.first part.upto ps (filter W ts) e (piece_bounds p part.upto cuts) (answers ps [] p (cut_files part.upto cuts)) (answers ts [] p (whole_files cuts))
    (settled_is_whole p part.upto cuts) right.above) where
      cuts : List Cut
      cuts = cuts_of part files

      ps : List ℤ
      ps = instants (cut_files part.upto cuts)

      ts : List ℤ
      ts = instants (whole_files cuts)

      W : ℤ → Bool
      W u = within part.first part.upto u

      e : filter W ps ≡ filter W ts
      e = same_rising (filter W ps) (filter W ts) (filter_ascends W ps (instants_ascend (cut_files part.upto cuts))) (filter_ascends W ts (instants_ascend (whole_files cuts)))
          (λ u h. let m = of_filter W ps u h in in_filter W ts u (piece_in_whole part.upto cuts u m.0).0 m.1)
          (λ u h. let m = of_filter W ts u h in
          let w = and_parts (int_le part.first u) (int_le u part.upto) m.1 in
          in_filter W ps u (whole_in_piece part.upto cuts u m.0 (full_from part.first u part.los files right.full w.0) w.1) m.1)

-- ONE BEHIND ANOTHER

behind_spreads : (xs ys : List ℤ) (ss : List Timed) → one_behind (spreads xs ss) (spreads ys ss) ≡ spreads (xs ++ ys) ss
behind_spreads xs ys [] = refl
behind_spreads xs ys (s ∷ ss) = ap (λ x. x ∷ one_behind (spreads xs ss) (spreads ys ss)) (sym (spread-append xs ys s))
    ∙ ap (λ l. spread (xs ++ ys) s ∷ l) (behind_spreads xs ys ss)

nothing_spread : (ss : List Timed) → nothing_for ss ≡ spreads [] ss
nothing_spread [] = refl
nothing_spread (s ∷ ss) = ap (λ l. [] ∷ l) (nothing_spread ss)

-- the instants from t on are those up to a later one and those behind it
below_first : (t u : ℤ) → int_lt u t ≡ true → int_le t u ≡ false
below_first t u h = grind (arith, h)

span_end : (t upto u : ℤ) → t ≤ℤ (upto +ℤ pos 1) → int_le (upto +ℤ pos 1) u ≡ (int_le t u && not (int_le u upto))
span_end t upto u h = go (int_le u upto) refl where
  go : (b : Bool) → int_le u upto ≡ b → int_le (upto +ℤ pos 1) u ≡ (int_le t u && not b)
  go true e = (let k : int_le (upto +ℤ pos 1) u ≡ false = grind (arith, e) in k) ∙ sym (and_right (int_le t u) false refl)
  go false e =
      (let k : int_le (upto +ℤ pos 1) u ≡ true = grind (arith, e) in k) ∙ sym (and_from (int_le t u) true (grind (arith, e, h)) refl)

spans : (ts : List ℤ) (t upto : ℤ) → Ascends ts → t ≤ℤ (upto +ℤ pos 1)
    → filter (within t upto) ts ++ filter (λ u. int_le (upto +ℤ pos 1) u) ts ≡ filter (λ u. int_le t u) ts
spans ts t upto asc h =
    let from = filter (λ u. int_le t u) ts in
    let front : filter (λ u. int_le u upto) from ≡ filter (within t upto) ts =
    filter_both (λ u. int_le u upto) (λ u. int_le t u) (within t upto) (λ u. refl) ts in
    let back : filter (λ u. not (int_le u upto)) from ≡ filter (λ u. int_le (upto +ℤ pos 1) u) ts =
    filter_both (λ u. not (int_le u upto)) (λ u. int_le t u) (λ u. int_le (upto +ℤ pos 1) u) (λ u. span_end t upto u h) ts in
    ap (λ l. l ++ filter (λ u. int_le (upto +ℤ pos 1) u) ts) (sym front) ∙ ap (λ l. filter (λ u. int_le u upto) from ++ l) (sym back)
    ∙ sym (cut_at (λ u. int_le u upto) (upto_down upto) from (filter_ascends (λ u. int_le t u) ts asc))

parts_from : (p : Program) (files : List File) (t : ℤ) (parts : List Part) → Follow (instants files) t parts → AreRight p files parts
    → parts_give p files parts ≡ spreads (filter (λ u. int_le t u) (instants files)) (answers (instants files) [] p files)
parts_from p files t [] f r =
    nothing_spread (answers (instants files) [] p files)
    ∙ ap (λ l. spreads l (answers (instants files) [] p files))
    (sym (filter-none (λ u. int_le t u) (instants files)
    (each-map (λ u. int_lt u t ≡ true) (λ u. int_le t u ≡ false) (λ u h. below_first t u h) (instants files) f)))
parts_from p files t (part ∷ parts) f r =
    let ts = instants files in
    let rs = answers ts [] p files in
    let next = part.upto +ℤ pos 1 in
    ap (λ l. one_behind l (parts_give p files parts)) (part_same p files part r.0)
    ∙ ap (λ l. one_behind (spreads (filter (within part.first part.upto) ts) rs) l) (parts_from p files next parts f.1.1 r.1)
    ∙ behind_spreads (filter (within part.first part.upto) ts) (filter (λ u. int_le next u) ts) rs
    ∙ ap (λ x. spreads (filter (within x part.upto) ts ++ filter (λ u. int_le next u) ts) rs) f.0
    ∙ ap (λ l. spreads l rs) (spans ts t part.upto (instants_ascend files) f.1.0)

-- the law: the parts together give the whole
pub pieces_give_the_whole : PiecesGiveTheWhole
pieces_give_the_whole p files t parts all f r =
    parts_from p files t parts f r
    ∙ ap (λ l. spreads l (answers (instants files) [] p files)) (filter-all (λ u. int_le t u) (instants files) all)
