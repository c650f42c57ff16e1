-- What runs on the pieces of a file print is what the program means for the whole.
use Rattle.std.proofs.Common.{◌≡◌, ℕ, zero, suc, ◌+◌, ◌-◌, ◌*◌, ◌≤◌, ℤ, false, List, [], ◌∷◌, ◌++◌, length, map, take, drop, Result, Ok}
use Rattle.std.proofs.Common.{refl, sym, ap, ◌∙◌, subst, arith, take-append-drop, take-take, take_at, drop_at, length-drop, mul-le-mul_right}
use Rattle.std.proofs.lemmas.List.{take-map, drop-map}
use Rattle.csv_streams.specs.Records.{csv_records}
use Rattle.csv_streams.specs.Written.{WriteRows}
use Rattle.csv_streams.specs.declared.fault.InFault.{InFault}
use Rattle.csv_streams.proofs.FilePieces.{records_in_pieces}
use Rattle.csv_streams.proofs.WrittenRows.{rows_written}
use Rattle.streamit_model.specs.Meaning.{program_outputs}
use Rattle.streamit_front.specs.Meaning.{Accepted, compiled}
use Rattle.streamit_front.specs.declared.fault.StreamitFault.{StreamitFault}
use Rattle.river_langs.specs.Sources.{first_of_rows}
use Rattle.stream_periods.specs.Periods.{Period}
use Rattle.stream_periods.specs.Texts.{printed_values}
use Rattle.stream_periods.specs.Pieces.{pieces_of, AreLong}
use Rattle.stream_pieces.specs.Files.{StreamPrints, Records, AreSlices, SlicesOfBytes, AreStreamed}

-- SLICES

-- what stands between two cuts has the records between them
pub slices_of_bytes : SlicesOfBytes
slices_of_bytes front piece rest ends unmarked ends_too unmarked_too =
    let all = records_in_pieces front (piece ++ rest) ends unmarked in
    let behind = records_in_pieces piece rest ends_too unmarked_too in
    sym (ap (λ l. take (length (csv_records piece)) (drop (length (csv_records front)) l)) all
    ∙ ap (take (length (csv_records piece))) (drop_at (csv_records front) (csv_records (piece ++ rest)) (length (csv_records front)) refl ∙ behind)
    ∙ take_at (csv_records piece) (csv_records rest) (length (csv_records piece)) refl)

-- ROWS

-- rows of one file
abbrev pub Rows : Type 0
Rows = List (List ℤ)

-- records of one field write these rows
abbrev pub Write : Records → Rows → Type 0
Write recs rows = WriteRows 1 false recs rows

ok_same : (r : Result Rows InFault) (xs ys : Rows) → r ≡ Ok xs → r ≡ Ok ys → xs ≡ ys
ok_same r xs ys e g = cc

-- records write one list of rows
one_writing : (recs : Records) (xs ys : Rows) → Write recs xs → Write recs ys → xs ≡ ys
one_writing recs xs ys h g =
    let last = length xs + length ys in
    ok_same _ xs ys (rows_written 1 false last 1 recs xs h (omega arith)) (rows_written 1 false last 1 recs ys g (omega arith))

-- the first records write the first rows
pub taken_write : (n : ℕ) (recs : Records) (rows : Rows) → Write recs rows → Write (take n recs) (take n rows)
taken_write zero recs rows h = tt
taken_write (suc n) [] [] h = tt
taken_write (suc n) [] (r ∷ rs) h = absurd h
taken_write (suc n) (c ∷ cs) [] h = absurd h
taken_write (suc n) (c ∷ cs) (r ∷ rs) h = (h.0, taken_write n cs rs h.1)

-- and the others the other rows
dropped_write : (n : ℕ) (recs : Records) (rows : Rows) → Write recs rows → Write (drop n recs) (drop n rows)
dropped_write zero recs rows h = h
dropped_write (suc n) [] [] h = tt
dropped_write (suc n) [] (r ∷ rs) h = absurd h
dropped_write (suc n) (c ∷ cs) [] h = absurd h
dropped_write (suc n) (c ∷ cs) (r ∷ rs) h = dropped_write n cs rs h.1

-- records behind others write rows behind theirs
pub both_write : (cs ds : Records) (rs ss : Rows) → Write cs rs → Write ds ss → Write (cs ++ ds) (rs ++ ss)
both_write [] ds [] ss h g = g
both_write [] ds (r ∷ rs) ss h g = absurd h
both_write (c ∷ cs) ds [] ss h g = absurd h
both_write (c ∷ cs) ds (r ∷ rs) ss h g = (h.0, both_write cs ds rs ss h.1 g)

-- THE PIECES

module _ (text : List ℕ) (a : Accepted) (compiles : compiled text ≡ Ok a) (p : Period) (early : ℕ) where
  abbrev says : List ℤ → List ℕ
  says xs = printed_values (program_outputs a.program xs)

  -- the rows of the records, and what the runs on the pieces print of them
  pub record Sliced (ks : List ℕ) (recs : Records) (outs : List (List ℕ)) : Type 0 where
    pub rows : Rows
    pub written : Write recs rows
    pub are : outs ≡ map (λ xs. printed_values (program_outputs a.program xs)) (pieces_of p early ks (first_of_rows rows))

  one_program : (b : Accepted) → compiled text ≡ Ok b → b ≡ a
  one_program b e = go (compiled text) e compiles
    where
      go : (r : Result Accepted StreamitFault) → r ≡ Ok b → r ≡ Ok a → b ≡ a
      go r e g = cc

  -- a run on a piece
  piece_says : (x o : List ℕ) (s : StreamPrints text x false o) → o ≡ printed_values (program_outputs a.program (first_of_rows s.means.rows))
  piece_says x o s =
      s.means.is ∙ ap (λ (b : Accepted). printed_values (program_outputs b.program (first_of_rows s.means.rows))) (one_program s.means.a s.means.compiles)

  -- what the runs on the pieces print is what the program means for pieces of the rows
  pub sliced : (ks : List ℕ) (recs : Records) (pieces outs : List (List ℕ)) → AreSlices p early ks recs pieces → AreStreamed text pieces outs → Sliced ks recs outs
  sliced ks recs [] outs h g = absurd h
  sliced [] recs (x ∷ []) [] h g = absurd g
  sliced [] recs (x ∷ []) (o ∷ []) h g = record {
    rows = g.0.means.rows;
    written = subst (λ r. Write r g.0.means.rows) h g.0.means.written;
    are = ap (λ l. l ∷ []) (piece_says x o g.0);
  }
  sliced [] recs (x ∷ []) (o ∷ q ∷ qs) h g = absurd g.1
  sliced [] recs (x ∷ y ∷ ys) outs h g = absurd h
  sliced (k ∷ ks) recs (x ∷ xs) [] h g = absurd g
  sliced (k ∷ ks) recs (x ∷ xs) (o ∷ os) h g =
      let m = (k - early) * p.takes in
      let n = k * p.takes + p.reach in
      let less = mul-le-mul_right p.takes (let e : k - early ≤ k = omega arith in e) in
      let rest = sliced ks (drop m recs) xs os h.1 g.1 in
      let first = g.0.means.rows in
      let here : Write (take n recs) first = subst (λ r. Write r first) h.0 g.0.means.written in
      let front : Write (take m recs) (take m first) =
      subst (λ r. Write r (take m first)) (take-take m n recs (omega (arith, less))) (taken_write m (take n recs) first here) in
      let rows = take m first ++ rest.rows in
      let all : Write recs rows = subst (λ r. Write r rows) (take-append-drop m recs) (both_write (take m recs) (drop m recs) (take m first) rest.rows front rest.written) in
      let near : first ≡ take n rows = one_writing (take n recs) first (take n rows) here (taken_write n recs rows all) in
      let far : rest.rows ≡ drop m rows = one_writing (drop m recs) rest.rows (drop m rows) rest.written (dropped_write m recs rows all) in
      record {
        rows = rows;
        written = all;
        are =
            ap (λ t. t ∷ os) (piece_says x o g.0 ∙ ap says (ap first_of_rows near ∙ sym (take-map _ n rows)))
            ∙ ap (λ ts. says (take n (first_of_rows rows)) ∷ ts)
            (rest.are ∙ ap (λ l. map says (pieces_of p early ks l)) (ap first_of_rows far ∙ sym (drop-map _ m rows)));
      }

-- what is long enough is so by its length alone
pub still_long : {A B : Type 0} (p : Period) (early : ℕ) (ks : List ℕ) (xs : List A) (ys : List B) → length ys ≡ length xs → AreLong p early ks xs → AreLong p early ks ys
still_long p early [] xs ys e h = tt
still_long p early (k ∷ ks) xs ys e h =
    let m = (k - early) * p.takes in
    let a = length-drop m xs in let b = length-drop m ys in let l = h.1 in
    (h.0, omega (arith, l, e), still_long p early ks (drop m xs) (drop m ys) (omega (arith, a, b, e)) h.2)

-- as many rows as records
pub as_many : (cs : Records) (rs : Rows) → Write cs rs → length rs ≡ length cs
as_many [] [] h = refl
as_many [] (r ∷ rs) h = absurd h
as_many (c ∷ cs) [] h = absurd h
as_many (c ∷ cs) (r ∷ rs) h = ap suc (as_many cs rs h.1)

-- as many values as rows
pub values_many : (rs : Rows) → length (first_of_rows rs) ≡ length rs
values_many [] = refl
values_many (r ∷ rs) = ap suc (values_many rs)
