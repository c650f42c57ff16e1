use Rattle.std.proofs.Common.{◌≡◌, ◌+◌, sym, ap, ◌∙◌, subst, Some, None}
use Rattle.std.proofs.lemmas.Result.{IfOk-weaker}
use Rattle.std.proofs.lemmas.Option.{slice_get_within}
use Rattle.river_kernels.specs.Kern.{kern_of}
use Rattle.river_kernels.specs.Types.{types_of, joined_types, fused_types, MayAnswer}
use Rattle.kern_check.proofs.FoundLemmas.{fused_none, fused_no_port, fused_joined}
use Rattle.river_kernels.proofs.KernLemmas.{kern_of-fused}
use Rattle.kern_check.proofs.fitting.+types.Goals as goal

pub types-returns-in_default : goal.types-returns-in_default
types-returns-in_default t c =
    let e = ap kern_of c.in-Fused.is ∙ kern_of-fused c.in-Fused.first c.in-Fused.second c.in-Fused.at in
    let a = types_of (kern_of c.in-Fused.first.value) c.args.reads.now in
    let one : MayAnswer (c.args.most + 1) a c.in_ok-one-in-Fused.field-0 =
    subst (λ k. MayAnswer (c.args.most + 1) (types_of (kern_of k) c.args.reads.now) c.in_ok-one-in-Fused.field-0) c.deref-in-Fused.ensures
    c.in_ok-one-in-Fused.ensures in
    let none : MayAnswer (c.args.most + 1) a None = subst (MayAnswer (c.args.most + 1) a) c.in_default.is one in
    subst (λ k. MayAnswer c.args.most (types_of k c.args.reads.now) None) (sym e)
    (fused_none c.args.most c.in-Fused.at a (types_of (kern_of c.in-Fused.second.value)) none)

pub types-returns-in-Some : goal.types-returns-in-Some
types-returns-in-Some t c =
    let e = ap kern_of c.in-Fused.is ∙ kern_of-fused c.in-Fused.first c.in-Fused.second c.in-Fused.at in
    let a = types_of (kern_of c.in-Fused.first.value) c.args.reads.now in
    let one : MayAnswer (c.args.most + 1) a c.in_ok-one-in-Fused.field-0 =
    subst (λ k. MayAnswer (c.args.most + 1) (types_of (kern_of k) c.args.reads.now) c.in_ok-one-in-Fused.field-0) c.deref-in-Fused.ensures
    c.in_ok-one-in-Fused.ensures in
    let some : MayAnswer (c.args.most + 1) a (Some c.in-Some.one) = subst (MayAnswer (c.args.most + 1) a) c.in-Some.is one in
    IfOk-weaker c.types_behind.result _ _
    (λ r h. subst (λ k. MayAnswer c.args.most (types_of k c.args.reads.now) r) (sym e)
    (subst (λ k. MayAnswer c.args.most (fused_types c.in-Fused.at a (types_of (kern_of k))) r) c.deref-in-Fused-2.ensures (h a (c.args.most + 1) some)))
    c.types_behind.ensures

pub types_behind-returns-in_default : goal.types_behind-returns-in_default
types_behind-returns-in_default t c told room some =
    fused_no_port c.args.most room c.args.at told (types_of (kern_of c.args.second.now)) c.args.one.now some (sym c.port_type.ensures ∙ c.in_default.is)

pub types_behind-both-requires : goal.types_behind-both-requires
types_behind-both-requires t c = slice_get_within c.args.one.now.outs c.args.at c.in-Some.middle (sym c.port_type.ensures ∙ c.in-Some.is)

pub types_behind-returns : goal.types_behind-returns
types_behind-returns t c =
    IfOk-weaker c.both.result (λ r. r ≡ joined_types c.args.at c.args.one.now c.in_ok-two.two) _
    (λ r h told room some. fused_joined c.args.most room c.args.at told (types_of (kern_of c.args.second.now)) c.args.one.now c.in-Some.middle
    c.in_ok-two.two r some (sym c.port_type.ensures ∙ c.in-Some.is) c.in_ok-two.ensures h)
    c.both.ensures
