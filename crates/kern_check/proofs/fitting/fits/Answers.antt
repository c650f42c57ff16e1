use Rattle.std.proofs.Common.{length, subst, Some, None}
use Rattle.std.proofs.lemmas.Bool.{true≢false}
use Rattle.std.proofs.Common.{sym}
use Rattle.river_kernels.specs.Kern.{kern_of}
use Rattle.river_kernels.specs.Types.{types_of, MayAnswer}
use Rattle.kern_check.proofs.FoundLemmas.{none_fits, fits_found, found_fits}
use Rattle.kern_check.proofs.fitting.fits.Goals as goal

pub returns-in-None : goal.returns-in-None
returns-in-None c =
    let o = types_of (kern_of c.args.kernel.now) c.args.reads.now in
    let none : MayAnswer (length c.args.writes.now) o None = subst (MayAnswer (length c.args.writes.now) o) c.in-None.is c.in_ok-types.ensures in
    (λ h. absurd (true≢false (sym h)), λ f. absurd (none_fits (kern_of c.args.kernel.now) c.args.reads.now c.args.writes.now c.args.vars.now none f))

pub returns-in-Some : goal.returns-in-Some
returns-in-Some c =
    let o = types_of (kern_of c.args.kernel.now) c.args.reads.now in
    let some : MayAnswer (length c.args.writes.now) o (Some c.in-Some.found) =
    subst (MayAnswer (length c.args.writes.now) o) c.in-Some.is c.in_ok-types.ensures in (
      λ h. let e =
          c.is_found.ensures.0 h in found_fits (kern_of c.args.kernel.now) c.args.reads.now c.args.writes.now c.args.vars.now
          (length c.args.writes.now) c.in-Some.found some e.0 e.1,
      λ f. c.is_found.ensures.1 (fits_found (kern_of c.args.kernel.now) c.args.reads.now c.args.writes.now c.args.vars.now c.in-Some.found some f),
    )
