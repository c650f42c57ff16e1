-- Filters, read part by part.
use Rattle.std.proofs.Common.{◌≡◌, ℕ, ℤ, List, length, Option, Result, Ok, Err, refl, sym, ap, ◌∙◌, subst}
use Rattle.kern_rows.specs.Forms.{RunForm, FilterForm}
use Rattle.streamit_text.specs.Program.{FilterTree, WorkTree}
use Rattle.streamit_model.specs.Elaborate.{At, on_ok, optional_of, steps_of}
use Rattle.streamit_model.specs.declared.fault.Fault.{Fault}
use Rattle.streamit_model.specs.ElaborateFilter.{judged_rates, kept_rates, nothing_read, read_fields, starts_of, read_prework, read_work, form_of_runs, elaborated}
use Rattle.work_code.specs.Steps.{Steps, BodyForm}
use Rattle.streamit_model.specs.Meaning.{push_of, pop_of, peek_of}
use Rattle.streamit_unroll.specs.Unrolling.{worked}
use Rattle.streamit_unroll.specs.declared.refused.RefusedUnit.{RefusedUnit}
use Rattle.streamit_unroll.specs.View.{IsWhyUnit, Judges}
use Rattle.streamit_unroll.proofs.SoFar.{good, tells_more, on_ok-assoc}

-- an answer that is a fault
pub judges_err : {X A : Type 0} (view : X → A) (result : Result X RefusedUnit) (f : RefusedUnit) (r : Result A Fault) → result ≡ Err f → IsWhyUnit f r
    → Judges view result r
judges_err view result f r is t = subst (λ q. Judges view q r) (sym is) t

-- a fault of what is the same
pub same_fault : {A : Type 0} (f : RefusedUnit) {r r' : Result A Fault} → r ≡ r' → IsWhyUnit f r → IsWhyUnit f r'
same_fault f e h = subst (IsWhyUnit f) e h

module _ (t : FilterTree) where
  -- a fault of the fields is that of the filter
  pub fields_fault : (f : RefusedUnit) → IsWhyUnit f (read_fields t.fields nothing_read) → IsWhyUnit f (elaborated t)
  fields_fault f h = tells_more f (read_fields t.fields nothing_read) (elaborated t) (λ g q. rw q refl) h

  module _ (s : At) (hs : read_fields t.fields nothing_read ≡ Ok s) where
    -- what the fields are after `init`
    abbrev starts : Result (List ℤ) Fault
    starts = on_ok (optional_of 0 t.init s) (λ i. Ok (starts_of (length t.fields) i))

    abbrev behind_starts : List ℤ → Result FilterForm Fault
    behind_starts zs = on_ok (read_prework t.prework s) (λ p. on_ok (read_work 1 t.work s) (λ w. Ok (form_of_runs zs p w)))

    starts_on : elaborated t ≡ on_ok starts behind_starts
    starts_on =
        let is : elaborated t ≡ on_ok (optional_of 0 t.init s) (λ i. behind_starts (starts_of (length t.fields) i)) = rw hs refl in
        is ∙ sym (on_ok-assoc (optional_of 0 t.init s) (λ i. Ok (starts_of (length t.fields) i)) behind_starts)

    -- so is one of `init`
    pub starts_fault : (f : RefusedUnit) → IsWhyUnit f starts → IsWhyUnit f (elaborated t)
    starts_fault f h = tells_more f starts (elaborated t) (λ g q. starts_on ∙ ap (λ r. on_ok r behind_starts) q) h

    module _ (zs : List ℤ) (hz : starts ≡ Ok zs) where
      first_on : elaborated t ≡ behind_starts zs
      first_on = starts_on ∙ ap (λ r. on_ok r behind_starts) hz

      -- one of `prework`
      pub first_fault : (f : RefusedUnit) → IsWhyUnit f (read_prework t.prework s) → IsWhyUnit f (elaborated t)
      first_fault f h =
          tells_more f (read_prework t.prework s) (elaborated t)
          (λ g q. first_on ∙ ap (λ r. on_ok r (λ p. on_ok (read_work 1 t.work s) (λ w. good (form_of_runs zs p w)))) q) h

      module _ (p : Option RunForm) (hp : read_prework t.prework s ≡ Ok p) where
        work_on : elaborated t ≡ on_ok (read_work 1 t.work s) (λ w. Ok (form_of_runs zs p w))
        work_on = first_on ∙ ap (λ r. on_ok r (λ p. on_ok (read_work 1 t.work s) (λ w. good (form_of_runs zs p w)))) hp

        -- and one of `work`
        pub work_fault : (f : RefusedUnit) → IsWhyUnit f (read_work 1 t.work s) → IsWhyUnit f (elaborated t)
        work_fault f h = tells_more f (read_work 1 t.work s) (elaborated t) (λ g q. work_on ∙ ap (λ r. on_ok r (λ w. good (form_of_runs zs p w))) q) h

        -- where all are read, the filter is made of them
        pub filter_read : (w : RunForm) → read_work 1 t.work s ≡ Ok w → elaborated t ≡ Ok (form_of_runs zs p w)
        filter_read w h = work_on ∙ ap (λ r. on_ok r (λ w. good (form_of_runs zs p w))) h

-- `prework` or `work`, with its rates
module _ (least : ℕ) (w : WorkTree) (s : At) (peek push pop : ℕ) (e1 : peek ≡ peek_of w) (e2 : push ≡ push_of w) (e3 : pop ≡ pop_of w) where
  abbrev run_with : ℕ → ℕ → ℕ → BodyForm → RunForm
  run_with m n k b = record { peek = m; pop = k; push = n; body = b }

  abbrev rest_with : ℕ → ℕ → ℕ → Result RunForm Fault
  rest_with m n k = on_ok (judged_rates least n k m) (λ u. on_ok (worked m n k w.block s) (λ b. good (run_with m n k b)))

  run_plain : read_work least w s ≡ rest_with (peek_of w) (push_of w) (pop_of w)
  run_plain =
      let kept = λ (r : Steps × At). kept_rates (push_of w) (pop_of w) r.1 in
      let body : Steps × At → BodyForm = λ r. record { inputs = peek_of w; slots = r.1.slots; steps = r.0 } in
      let made = λ (b : BodyForm). good (run_with (peek_of w) (push_of w) (pop_of w) b) in
      let block = steps_of (peek_of w) w.block s in
      let inner : on_ok (on_ok block (λ r. on_ok (kept r) (λ v. good (body r)))) made ≡ on_ok block (λ r. on_ok (kept r) (λ v. made (body r))) =
      on_ok-assoc block (λ r. on_ok (kept r) (λ v. good (body r))) made ∙ ap (on_ok block) (λ i r. on_ok-assoc (kept r) (λ v. good (body r)) made i) in
      ap (on_ok (judged_rates least (push_of w) (pop_of w) (peek_of w))) (λ i u. sym inner i)

  run_on : read_work least w s ≡ rest_with peek push pop
  run_on = run_plain ∙ (λ i. rest_with (sym e1 i) (sym e2 i) (sym e3 i))

  -- a fault of the rates is that of the whole
  pub rates_fault : (f : RefusedUnit) → IsWhyUnit f (judged_rates least push pop peek) → IsWhyUnit f (read_work least w s)
  rates_fault f h =
      tells_more f (judged_rates least push pop peek) (read_work least w s)
      (λ g q. run_on ∙ ap (λ r. on_ok r (λ u. on_ok (worked peek push pop w.block s) (λ b. good (run_with peek push pop b)))) q) h

  module _ (hj : judged_rates least push pop peek ≡ Ok tt) where
    body_on : read_work least w s ≡ on_ok (worked peek push pop w.block s) (λ b. good (run_with peek push pop b))
    body_on = run_on ∙ ap (λ r. on_ok r (λ u. on_ok (worked peek push pop w.block s) (λ b. good (run_with peek push pop b)))) hj

    -- so is one of the body
    pub body_fault : (f : RefusedUnit) → IsWhyUnit f (worked peek push pop w.block s) → IsWhyUnit f (read_work least w s)
    body_fault f h = tells_more f (worked peek push pop w.block s) (read_work least w s)
        (λ g q. body_on ∙ ap (λ r. on_ok r (λ b. good (run_with peek push pop b))) q) h

    -- and where both are read, the run is made of them
    pub run_read : (b : BodyForm) → worked peek push pop w.block s ≡ Ok b → read_work least w s ≡ Ok (run_with peek push pop b)
    run_read b h = body_on ∙ ap (λ r. on_ok r (λ b. good (run_with peek push pop b))) h
