-- The fault of the first refused piece is that of the whole.
use Rattle.std.proofs.Common.{ℕ, Bool, true, false, List, [], ◌∷◌, drop, subst}
use Rattle.csv_streams.specs.Records.{csv_records}
use Rattle.csv_streams.specs.Rows.{headers}
use Rattle.csv_streams.specs.Written.{WriteRows}
use Rattle.csv_streams.proofs.Faulty.{faults_are}
use Rattle.csv_cuts.specs.Faults.{IsFaultOfAll, HaveRows, header_behind}
use Rattle.csv_cuts.proofs.Faulty.{faults_within_the_limit, one_fault_of_all, fault_or_rows, faults_in_pieces}
use Rattle.saw_text.specs.Grammar.{IsText}
use Rattle.saw_text.specs.Tree.{Program}
use Rattle.saw_text.proofs.Texts.{one_program}
use Rattle.saw_model.specs.Meaning.{width}
use Rattle.river_pieces.specs.Whole.{ArePrinted}
use Rattle.river_pieces.specs.Refused.{WholeHasFault, OneFault, FaultOrMeaning, FirstFaultIsTheWholes}

-- the whole has it where it has few records
pub whole_has_fault : WholeHasFault
whole_has_fault text bytes skip f h few = record {
  units = h.units;
  read = h.read;
  is_text = h.is_text;
  accepted = h.accepted;
  fault = faults_within_the_limit bytes (width h.units) skip true f h.fault few;
}

-- a file has one fault at most
pub one_fault : OneFault
one_fault text bytes skip f g a b =
    let e = one_program text b.units a.units b.is_text a.is_text in
    one_fault_of_all bytes (width a.units) skip true f g a.fault (subst (λ (p : Program). IsFaultOfAll bytes (width p) skip true g) e b.fault)

-- and where it has one, the program means nothing for it
pub fault_or_meaning : FaultOrMeaning
fault_or_meaning text bytes skip f out a m =
    let e = one_program text m.units a.units m.is_text a.is_text in
    fault_or_rows bytes (width a.units) skip true f m.rows a.fault
    (subst (λ (p : Program). WriteRows (width p) true (drop (headers skip) (csv_records bytes)) m.rows) e m.written)

-- pieces that are printed have rows
have-rows : (text : List ℕ) (p : Program) → IsText text p → (skip : Bool) (pieces outs : List (List ℕ)) → ArePrinted text skip pieces outs
    → HaveRows (width p) skip true pieces
have-rows text p is skip [] outs h = tt
have-rows text p is skip (x ∷ xs) [] h = absurd h
have-rows text p is skip (x ∷ xs) (o ∷ os) h =
    let m = h.0.means in
    let e = one_program text m.units p m.is_text is in (
      m.rows,
      subst (λ (q : Program). WriteRows (width q) true (drop (headers skip) (csv_records x)) m.rows) e m.written,
      have-rows text p is false xs os h.1,
    )

-- The law: the fault of the first refused piece is that of the whole file.
pub first_fault_is_the_wholes : FirstFaultIsTheWholes
first_fault_is_the_wholes text bytes skip before piece after outs f cut printed h o = record {
  units = h.units;
  read = h.read;
  is_text = h.is_text;
  accepted = h.accepted;
  fault =
      faults_in_pieces bytes (width h.units) skip true before piece after f cut (have-rows text h.units h.is_text skip before outs printed)
      ((faults_are piece (width h.units) (header_behind skip before) true f).0 h.fault) o;
}
