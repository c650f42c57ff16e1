-- Which texts are accepted, and the order of declarations in their plans.
use Rattle.std.proofs.Common.{◌≡◌, ℕ, List, [], ◌∷◌, Ok, ap, ◌∙◌, subst}
use Rattle.text_tokens.specs.Cut.{units_of as cut_units}
use Rattle.text_tokens.specs.Tok.{toks}
use Rattle.streamit_text.specs.Program.{Program}
use Rattle.streamit_model.specs.Judged.{Streamed, judged}
use Rattle.streamit_model.proofs.InTurn as turn
use Rattle.streamit_model.proofs.ProgramMet.{program_met}
use Rattle.streamit_model.proofs.Refused.{accepted_are}
use Rattle.streamit_text.specs.Grammar.{IsText}
use Rattle.streamit_front.specs.Laws.{TextsAreAccepted, PlansInTurn}
use Rattle.streamit_front.specs.Meaning.{Accepted, or_fault, compiled}
use Rattle.streamit_front.proofs.Fronts.{AllHave, judged-have, means_what_it_has, stands-means}
use Rattle.streamit_front.proofs.Readable.{units-fine}

-- a program that is accepted has a stream that is the last
compiled-as : (text : List ℕ) (p : Program) (known : Streamed) → IsText text p → judged p ≡ Ok known → AllHave (judged p)
    → (a : Accepted) × (compiled text ≡ Ok a)
compiled-as text p [] t j h = absurd (subst AllHave j h)
compiled-as text p (newest ∷ others) t j h = (record { program = p; stream = newest.1 }, stands-means text p t ∙ ap (or_fault p) j)

-- the law: which texts are accepted
pub texts_are_accepted : TextsAreAccepted
texts_are_accepted text = (
  (λ h.
      let a = h.0 in
      let has = (means_what_it_has text (Ok a)).0 h.1 in
      (a.program, has.2, (accepted_are a.program).0 ((has.0, a.stream) ∷ has.1, has.3))),
  (λ h. let j = (accepted_are h.0).1 h.2 in compiled-as text h.0 j.0 h.1 j.1 (judged-have h.0 h.1.some)),
)

-- the law: plans declare in the order of first use
pub plans_in_turn : PlansInTurn
plans_in_turn text a e =
    let h = (means_what_it_has text (Ok a)).0 e in
    let low = (units-fine a.program (cut_units (toks h.2.marks)) h.2.formed).1 in
    let m = program_met a.program h.0 a.stream h.1 low h.3 in
    let f = m.fits in
    turn.plans_in_turn a.stream f.formed f.small m.few
