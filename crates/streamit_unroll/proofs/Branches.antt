-- An `if`, read part by part.
use Rattle.std.proofs.Common.{◌≡◌, ℕ, ◌+◌, Ok, sym, ap, ◌∙◌}
use Rattle.work_code.specs.Steps.{Steps}
use Rattle.work_code.specs.Term.{Term}
use Rattle.streamit_text.specs.Tree.{Expression}
use Rattle.streamit_text.specs.Tree as source
use Rattle.streamit_model.specs.Meaning.{pops}
use Rattle.streamit_model.specs.Elaborate.{At, Read, on_ok, counted, term_of, steps_of, optional_of, after_arms, step_of}
use Rattle.streamit_unroll.specs.declared.refused.RefusedUnit.{RefusedUnit}
use Rattle.streamit_unroll.specs.View.{IsWhyUnit}
use Rattle.streamit_unroll.proofs.SoFar.{tells_more}

module _ (e : ℕ) (t : Expression) (a : source.Block) (b : source.Optional) (s : At) where
  abbrev whole : Read
  whole = step_of e (source.If t a b) s

  abbrev third : At → Term → Steps × At → Read
  third m c p = on_ok (optional_of e b (record m { popped = m.popped + pops t; slots = p.1.slots; size = p.1.size })) (after_arms m c p)

  abbrev next : At → Term → Read
  next m c = on_ok (steps_of e a (record m { popped = m.popped + pops t })) (third m c)

  abbrev first : At → Read
  first m = on_ok (term_of e m.scope t m.popped) (next m)

  -- a statement too many is the fault of the whole
  pub if_count_fault : (f : RefusedUnit) → IsWhyUnit f (counted s) → IsWhyUnit f whole
  if_count_fault f h = tells_more f (counted s) whole (λ g q. ap (λ r. on_ok r first) q) h

  module _ (s1 : At) (hc : counted s ≡ Ok s1) where
    cond_on : whole ≡ first s1
    cond_on = ap (λ r. on_ok r first) hc

    -- so is one of the condition
    pub if_cond_fault : (f : RefusedUnit) → IsWhyUnit f (term_of e s1.scope t s1.popped) → IsWhyUnit f whole
    if_cond_fault f h = tells_more f (term_of e s1.scope t s1.popped) whole (λ g q. cond_on ∙ ap (λ r. on_ok r (next s1)) q) h

    module _ (c : Term) (k : ℕ) (ht : term_of e s1.scope t s1.popped ≡ Ok c) (hk : k ≡ s1.popped + pops t) where
      arms_on : whole ≡ on_ok (steps_of e a (record s1 { popped = k })) (third s1 c)
      arms_on = cond_on ∙ ap (λ r. on_ok r (next s1)) ht ∙ ap (λ j. on_ok (steps_of e a (record s1 { popped = j })) (third s1 c)) (sym hk)

      -- one of the first branch
      pub if_first_fault : (f : RefusedUnit) → IsWhyUnit f (steps_of e a (record s1 { popped = k })) → IsWhyUnit f whole
      if_first_fault f h = tells_more f (steps_of e a (record s1 { popped = k })) whole (λ g q. arms_on ∙ ap (λ r. on_ok r (third s1 c)) q) h

      module _ (f1 : Steps) (la m1 : At) (ha : steps_of e a (record s1 { popped = k }) ≡ Ok (f1, la)) (em1 : m1 ≡ record la { scope = s1.scope }) where
        second_on : whole ≡ on_ok (optional_of e b (record m1 { popped = k; pushed = s1.pushed })) (after_arms s1 c (f1, la))
        second_on =
            let at : record s1 { popped = s1.popped + pops t; slots = la.slots; size = la.size } ≡ record m1 { popped = k; pushed = s1.pushed } =
            ap (λ j. record s1 { popped = j; slots = la.slots; size = la.size }) (sym hk)
            ∙ ap (λ (m : At). record m { popped = k; pushed = s1.pushed }) (sym em1) in
            arms_on ∙ ap (λ r. on_ok r (third s1 c)) ha ∙ ap (λ m. on_ok (optional_of e b m) (after_arms s1 c (f1, la))) at

        -- and one of the second
        pub if_second_fault : (f : RefusedUnit) → IsWhyUnit f (optional_of e b (record m1 { popped = k; pushed = s1.pushed })) → IsWhyUnit f whole
        if_second_fault f h =
            tells_more f (optional_of e b (record m1 { popped = k; pushed = s1.pushed })) whole
            (λ g q. second_on ∙ ap (λ r. on_ok r (after_arms s1 c (f1, la))) q) h
