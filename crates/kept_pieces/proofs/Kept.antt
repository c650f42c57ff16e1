-- What is kept of a file that grows.
use Rattle.std.proofs.Common.{◌≡◌, ℕ, ℤ, Bool, true, false, drop, refl, List, [], ◌∷◌, ◌++◌, length, sym, ap, ◌∙◌, subst, arith, length-append}
use Rattle.std.proofs.lemmas.List.{append_assoc}
use Rattle.csv_streams.specs.FilePieces.{IsUnmarked}
use Rattle.csv_streams.specs.Records.{csv_records}
use Rattle.csv_streams.specs.Rows.{headers}
use Rattle.csv_streams.specs.Written.{WriteRows}
use Rattle.csv_streams.proofs.Faulty.{faults_are}
use Rattle.csv_streams.proofs.FilePieces.{records_in_pieces}
use Rattle.csv_cuts.specs.Cut.{AreCut, IsCutBefore}
use Rattle.csv_cuts.specs.Faults.{HaveRows}
use Rattle.csv_cuts.proofs.Faulty.{faults_in_pieces}
use Rattle.saw_text.specs.Grammar.{IsText}
use Rattle.saw_text.specs.Tree.{Program}
use Rattle.saw_text.proofs.Texts.{one_program}
use Rattle.saw_model.specs.Meaning.{width}
use Rattle.river_pieces.specs.Whole.{ArePrinted, Means}
use Rattle.piece_keep.specs.Fronts.{bytes_in}
use Rattle.piece_keep.proofs.Fronts.{fronts_are_cut, ends-both, unmarked-front}
use Rattle.river_pieces.proofs.Whole.{pieces_give_the_whole, grown_gives_the_whole}
use Rattle.kept_pieces.specs.Kept.{FrontIsKept, GrownFaultIsTheWholes, KeptGoesOn, PiecesHaveTheRecords}

-- what is merged of all pieces but the last may be kept
pub front_is_kept : FrontIsKept
front_is_kept text bytes header p read first more last outs merge is j cut printed merged =
    let f = fronts_are_cut bytes header first more last cut in (
      f.is,
      record {
        means = pieces_give_the_whole text (bytes_in (first ∷ more)) header p read (first ∷ more) outs merge is j f.cut printed merged;
        ends = f.ends;
        begins = f.header;
      },
    )

-- and with what was kept, so may what is merged of all but the last piece of the new part
pub kept_goes_on : KeptGoesOn
kept_goes_on text old new header kept p read first more last outs next is j k unmarked cut printed merged =
    let f = fronts_are_cut new false first more last cut in
    let front = bytes_in (first ∷ more) in
    let plain : IsUnmarked front = unmarked-front front last (subst IsUnmarked f.is unmarked) in
    let many : csv_records (old ++ front) ≡ csv_records old ++ csv_records front = records_in_pieces old front k.ends plain in
    let has = k.begins in
    record {
      is = ap (λ (l : List ℕ). old ++ l) f.is ∙ sym (append_assoc old front last);
      kept = record {
        means = grown_gives_the_whole text old front header p read kept (first ∷ more) outs next is j k.means k.ends plain k.begins f.cut printed merged;
        ends = ends-both old front k.ends f.ends plain;
        begins = omega (arith, has, ap length many, length-append (csv_records old) (csv_records front));
      };
    }

-- a file has as many records as its pieces
pub pieces_have_the_records : PiecesHaveTheRecords
pieces_have_the_records bytes header first [] cut =
    let e = ap (λ (l : List ℕ). length (csv_records l)) cut in
    omega (arith, e)
pieces_have_the_records bytes header first (second ∷ more) cut =
    let c : IsCutBefore bytes header first cut.0 = cut.1 in
    let behind = pieces_have_the_records cut.0 false second more cut.2 in
    let all = ap (λ (l : List ℕ). length (csv_records l)) c.is in
    let parts = ap length (records_in_pieces first cut.0 c.ends c.unmarked) in
    omega (arith, all, parts, length-append (csv_records first) (csv_records cut.0), behind)

-- THE FAULT

-- what the program means something for has rows
rows-meant : (text : List ℕ) (p : Program) → IsText text p → (skip : Bool) (bytes out : List ℕ) → Means text bytes skip out
    → (rows : List (List ℤ)) × WriteRows (width p) true (drop (headers skip) (csv_records bytes)) rows
rows-meant text p is skip bytes out m =
    let e = one_program text m.units p m.is_text is in
    (m.rows, subst (λ (q : Program). WriteRows (width q) true (drop (headers skip) (csv_records bytes)) m.rows) e m.written)

have-rows : (text : List ℕ) (p : Program) → IsText text p → (skip : Bool) (pieces outs : List (List ℕ)) → ArePrinted text skip pieces outs
    → HaveRows (width p) skip true pieces
have-rows text p is skip [] outs h = tt
have-rows text p is skip (x ∷ xs) [] h = absurd h
have-rows text p is skip (x ∷ xs) (o ∷ os) h =
    let m = rows-meant text p is skip x o h.0.means in
    (m.0, m.1, have-rows text p is false xs os h.1)

-- the old part counts as a piece more
cut-behind : (old new : List ℕ) (header : Bool) (pieces : List (List ℕ)) → IsCutBefore (old ++ new) header old new → AreCut new false pieces
    → AreCut (old ++ new) header (old ∷ pieces)
cut-behind old new header [] c cut = absurd cut
cut-behind old new header (x ∷ xs) c cut = (new, c, cut)

-- the fault of what a file has grown by is that of the whole
pub grown_fault_is_the_wholes : GrownFaultIsTheWholes
grown_fault_is_the_wholes text old new header kept before piece after outs f k unmarked cut printed h o = record {
  units = h.units;
  read = h.read;
  is_text = h.is_text;
  accepted = h.accepted;
  fault =
      let m = rows-meant text h.units h.is_text header old kept k.means in
      faults_in_pieces (old ++ new) (width h.units) header true (old ∷ before) piece after f
      (cut-behind old new header (before ++ piece ∷ after) (record { is = refl; ends = k.ends; unmarked = unmarked; header = k.begins }) cut)
      (m.0, m.1, have-rows text h.units h.is_text false before outs printed) ((faults_are piece (width h.units) false true f).0 h.fault) o;
}
