-- The files of a program fit its plan.
use Rattle.std.proofs.Common.{ℕ, ℤ, List, [], ◌∷◌, length, map}
use Rattle.std.specs.Prelude.{All}
use Rattle.std.proofs.lemmas.List.Elements.{All-cons, All-nil}
use Rattle.river_base.specs.Instants.{Timed, at_instant, instants, item_at, spread}
use Rattle.river_base.specs.Held.{HasType, HaveWidth}
use Rattle.river_kernels.specs.Fits.{stream}
use Rattle.brooklet_model.specs.Fit.{AreInstants}
use Rattle.brooklet_model.specs.Typed.{AreInputs}
use Rattle.cql_model.specs.Fit.{FilesFit}
use Rattle.cql_model.specs.Laws.{AreFiles}
use Rattle.cql_text.specs.Tree.{Register, AQuery, Program}
use Rattle.cql_model.specs.Plan.{input_decls}
use Rattle.cql_model.proofs.Stamps.{instants_are, spread_instants}
use Rattle.cql_model.proofs.Widths.{file_wide}

spread_typed : (n : ℕ) (ts : List ℤ) (s : Timed) → ((t : ℤ) → HaveWidth n (s t)) → All (HasType (stream n)) (spread ts s)
spread_typed n [] s h = All-nil (HasType (stream n))
spread_typed n (t ∷ ts) s h = All-cons (HasType (stream n)) (item_at t (s t)) (spread ts s) (h t) (spread_typed n ts s h)

inputs_typed : (ts : List ℤ) (ps : Program) (files : List (List (ℤ × List ℤ))) → AreFiles ps files
    → AreInputs (input_decls ps) (map (λ f. spread ts (at_instant f)) files)
inputs_typed ts [] [] a = tt
inputs_typed ts [] (f ∷ fs) a = absurd a
inputs_typed ts (Register name fields ∷ ps) [] a = absurd a
inputs_typed ts (Register name fields ∷ ps) (f ∷ fs) a =
    (spread_typed (length fields) ts (at_instant f) (λ t. file_wide (length fields) f t a.0), inputs_typed ts ps fs a.1)
inputs_typed ts (AQuery q ∷ ps) files a = inputs_typed ts ps files a

inputs_timed : (ts : List ℤ) (ps : Program) (files : List (List (ℤ × List ℤ))) → AreInstants (input_decls ps) ts (map (λ f. spread ts (at_instant f)) files)
inputs_timed ts [] files = tt
inputs_timed ts (Register name fields ∷ ps) [] = tt
inputs_timed ts (Register name fields ∷ ps) (f ∷ fs) = (spread_instants ts (at_instant f), inputs_timed ts ps fs)
inputs_timed ts (AQuery q ∷ ps) files = inputs_timed ts ps files

-- the law: files of the widths of a program's streams fit its plan
pub files_fit : FilesFit
files_fit p files a =
    let i = instants_are files in (
      record {
        typed = inputs_typed (instants files) p files a;
        instants_of = instants files;
        ascending = i.rise;
        streams = inputs_timed (instants files) p files;
      },
      i,
    )
