-- What is cut and put together by numbers is what the law on the whole asks for.
use Rattle.std.proofs.Common.{◌≡◌, ℕ, ◌-◌, ◌*◌, ◌≤◌, List, [], ◌∷◌, ◌++◌, length, take, drop, codes, refl, sym, ap, ◌∙◌, subst, arith}
use Rattle.std.specs.Prelude.{Option, Some, None}
use Rattle.std.proofs.lemmas.List.{append-nil}
use Rattle.csv_cuts.specs.Cut.{append_pieces}
use Rattle.csv_streams.specs.Records.{csv_records}
use Rattle.csv_streams.specs.Rows.{headers}
use Rattle.stream_periods.specs.Periods.{Period}
use Rattle.stream_periods.specs.Texts.{behind_line, first_lines, lines_behind, lines_of_pieces}
use Rattle.stream_pieces.specs.Files.{AreStreamed, StreamMeans}
use Rattle.stream_pieces.proofs.ByPlan.{stream_pieces_by_plan}
use Rattle.rate_code.specs.Entries.{known_of}
use Rattle.lap_cuts.specs.Laps.{AreRecordLaps}
use Rattle.lap_cuts.proofs.Cuts.{laps_are_records}
use Rattle.stream_laps.specs.Laps.{OverlapsAreSlices, LapsGiveTheWhole, kept_lines, same_periods}

pub overlaps_are_slices : OverlapsAreSlices
overlaps_are_slices a size o is recs [] h = absurd h
overlaps_are_slices a size o is recs (x ∷ []) h = (h, tt)
overlaps_are_slices a size o is recs (x ∷ y ∷ ys) h =
    let behind : AreRecordLaps o.items o.step (drop ((is.periods - is.early) * a.period.takes) recs) (y ∷ ys) =
    subst (λ n. AreRecordLaps o.items o.step (drop n recs) (y ∷ ys)) is.step h.2 in
    let rest = overlaps_are_slices a size o is (drop ((is.periods - is.early) * a.period.takes) recs) (y ∷ ys) behind in (
      (h.0 ∙ ap (λ n. take n recs) is.items, rest.0),
      (earlier, subst (λ n. n ≤ length recs) is.items h.1, rest.1),
    ) where
      earlier : is.early ≤ is.periods
      earlier = let m = is.more in omega (arith, m)

-- the lines that are kept are those of the pieces, where each has a text
kept : (p : Period) (early k keep let_go gone : ℕ) (text : List ℕ) (pieces outs : List (List ℕ)) → keep ≡ k * p.gives → let_go ≡ early * p.gives
    → AreStreamed text pieces outs → lines_of_pieces p early gone (same_periods k pieces) outs ≡ kept_lines keep let_go gone outs
kept p early k keep let_go gone text [] [] e f ran = refl
kept p early k keep let_go gone text [] (t ∷ ts) e f ran = absurd ran
kept p early k keep let_go gone text (x ∷ xs) [] e f ran = absurd ran
kept p early k keep let_go gone text (x ∷ []) (t ∷ []) e f ran = append-nil (lines_behind gone (behind_line t))
kept p early k keep let_go gone text (x ∷ []) (t ∷ u ∷ us) e f ran = absurd ran.1
kept p early k keep let_go gone text (x ∷ y ∷ ys) (t ∷ []) e f ran = absurd ran.1
kept p early k keep let_go gone text (x ∷ y ∷ ys) (t ∷ u ∷ us) e f ran =
    ap (λ n. lines_behind gone (first_lines n (behind_line t)) ++ lines_of_pieces p early (early * p.gives) (same_periods k (y ∷ ys)) (u ∷ us)) (sym e)
    ∙ ap (λ n. lines_behind gone (first_lines keep (behind_line t)) ++ lines_of_pieces p early n (same_periods k (y ∷ ys)) (u ∷ us)) (sym f)
    ∙ ap (λ l. lines_behind gone (first_lines keep (behind_line t)) ++ l) (kept p early k keep let_go let_go text (y ∷ ys) (u ∷ us) e f ran.1)

some-same : (xs ys : List (List ℕ)) → Some ys ≡ append_pieces (Some []) xs → ys ≡ xs
some-same xs ys e = ap (λ (o : Option (List (List ℕ))). elim o as (λ _. List (List ℕ)) [ None ↦ xs | Some l ↦ l ]) e

some-bytes : (xs ys : List ℕ) → Some xs ≡ Some ys → ys ≡ xs
some-bytes xs ys e = ap (λ (o : Option (List ℕ)). elim o as (λ _. List ℕ) [ None ↦ ys | Some l ↦ l ]) (sym e)

pub laps_give_the_whole : LapsGiveTheWhole
laps_give_the_whole text bytes skip_first size o pieces outs has held ran =
    let spot = has.spot in
    let is = has.overlaps in
    let k = known_of spot in
    let same : pieces ≡ held.took.pieces = some-same held.took.pieces pieces held.took.took in
    let file : held.bytes ≡ bytes = some-bytes bytes held.bytes held.is in
    let laps : AreRecordLaps o.items o.step (csv_records held.body) pieces =
    subst (AreRecordLaps o.items o.step (csv_records held.body)) (sym same) (laps_are_records o.items o.step held.body held.took.pieces held.took.laps) in
    let body : csv_records held.body ≡ drop (headers skip_first) (csv_records bytes) =
    held.behind ∙ ap (λ b. drop (headers skip_first) (csv_records b)) file in
    let cut : AreRecordLaps o.items o.step (drop (headers skip_first) (csv_records bytes)) pieces =
    subst (λ recs. AreRecordLaps o.items o.step recs pieces) body laps in
    let both = overlaps_are_slices k size o is (drop (headers skip_first) (csv_records bytes)) pieces cut in
    subst (λ l. StreamMeans text bytes skip_first (codes "# out\n" ++ l))
    (kept k.period is.early is.periods o.keep o.let_go 0 text pieces outs is.keep is.let_go ran)
    (stream_pieces_by_plan text bytes skip_first has.has.a has.has.known.0 k is.early (same_periods is.periods pieces) pieces outs has.has.compiles
    has.has.known.1 has.has.known.2 is.fades both.0 both.1 ran)
