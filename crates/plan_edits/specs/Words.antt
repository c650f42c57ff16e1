-- The names of the conditions of rewrites.
use Rattle.std.specs.Prelude.{ℕ, List, codes}
use Rattle.plan_edits.specs.declared.unfit.Unfit.{Unfit}
use Rattle.plan_edits.specs.declared.unfit.Unfit.TheVariants.{U1, U2, U3, U4, U5, H1, H2, H3, H4, N1, N2, N3, N4, N5, NoMemory}

abbrev pub unfit_word : Unfit → List ℕ
unfit_word U1 = codes "U1"
unfit_word U2 = codes "U2"
unfit_word U3 = codes "U3"
unfit_word U4 = codes "U4"
unfit_word U5 = codes "U5"
unfit_word H1 = codes "H1"
unfit_word H2 = codes "H2"
unfit_word H3 = codes "H3"
unfit_word H4 = codes "H4"
unfit_word N1 = codes "N1"
unfit_word N2 = codes "N2"
unfit_word N3 = codes "N3"
unfit_word N4 = codes "N4"
unfit_word N5 = codes "N5"
unfit_word NoMemory = codes "NoMemory"
