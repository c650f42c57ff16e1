-- What was decided and written is what the top call does.
use Rattle.std.proofs.Common.{◌≡◌, ◌⊎◌, ℕ, List, refl, sym, subst, inl, inr, arith, IfSome}
use Rattle.std.specs.Prelude.{Option, None, Some, Result, Ok, Err, IsErrOf}
use Rattle.river_outside.specs.Held.{Held}
use Rattle.river_outside.specs.Taken.{TookPart}
use Rattle.river_outside.specs.Decides.{Decides, FailedAt, AbsentAt}
use Rattle.river_outside.specs.Order.{Order, Verdict, Usage, Refused, Unread, Done, IsVerdict, IsFetchTurn, verdict}
use Rattle.river_outside.specs.declared.stop.Stop.{Stop}
use Rattle.river_outside.specs.declared.stop.Stop.TheVariants as stop
use Rattle.river_cli.specs.Answer.{TookNothing, TookText, Stopped, StoppedUsage, HasStatus}
use Rattle.river_cli.specs.Does.{Does, Wrote, Tells}
use Rattle.river_cli.specs.Text.{usage_text}
use Rattle.river_cli.proofs.Told.{HasStatus-told}

-- want of memory may stand in place of any end
memory_status : (v : Verdict) (status : ℕ) → status ≡ 5 → HasStatus v status
memory_status Usage status s = inr s
memory_status (Refused text) status s = inr s
memory_status (Unread file) status s = inr s
memory_status (Done text) status s = inr s

module _ (points : Option Order) (held : Option Held) where
  memory_known : (held : Option Held) (status : ℕ) → status ≡ 5 → IfSome held (λ h. HasStatus (verdict points h) status)
  memory_known None status s = tt
  memory_known (Some h) status s = memory_status (verdict points h) status s

  -- words that are no sentence have one verdict
  usage_is : points ≡ None → IsVerdict points held Usage
  usage_is e = subst (λ (p : Option Order). IsVerdict p held Usage) (sym e) refl

  -- so a text is no verdict of them
  none_done : (text : List ℕ) → IsVerdict points held (Done text) → points ≡ None → ⊥
  none_done text is e = let v : Done text ≡ Usage = subst (λ (p : Option Order). IsVerdict p held (Done text)) e is in absurd (cc v)

  none_refused : (text : List ℕ) → IsVerdict points held (Refused text) → points ≡ None → ⊥
  none_refused text is e = let v : Refused text ≡ Usage = subst (λ (p : Option Order). IsVerdict p held (Refused text)) e is in absurd (cc v)

  -- nor is there a turn of a file
  none_turn : (file : List ℕ) → IsFetchTurn points held file → points ≡ None → ⊥
  none_turn file turn e = subst (λ (p : Option Order). IsFetchTurn p held file) e turn

  module _ (unread rose : Type 0) (out out' : Option (List ℕ)) (out_rose : Type 0) (err err' : Option (List ℕ)) (err_rose : Type 0) (status : ℕ) where
    abbrev DoesThis : Type 0
    DoesThis = Does points held unread rose out out' out_rose err err' err_rose status

    abbrev Complete : Type 0
    Complete = (rose → ⊥) → (out_rose → ⊥) → (err_rose → ⊥) → IfSome held (λ h. HasStatus (verdict points h) status)

    -- the output took its text
    at_0 : (text : List ℕ) → status ≡ 0 → IsVerdict points held (Done text) → TookText text out out' → TookNothing err err' → DoesThis
    at_0 text s is took none = record {
      done = λ _. (record { text = text; end = is; took = took }, none);
      refused = λ e. absurd (omega (arith, s, e));
      usage = λ e. absurd (omega (arith, s, e));
      fault = λ e. absurd (omega (arith, s, e));
      stopped = λ e. absurd (omega (arith, s, e));
      memory = λ e. absurd (omega (arith, s, e));
      only = omega (arith, s);
      no_sentence = λ e _. absurd (none_done text is e);
      complete = λ _ _ _. HasStatus-told points held (Done text) status is (inl s);
    }

    -- the error output took the refusal
    at_1 : (text : List ℕ) → status ≡ 1 → IsVerdict points held (Refused text) → TookText text err err' → TookNothing out out' → DoesThis
    at_1 text s is took none = record {
      done = λ e. absurd (omega (arith, s, e));
      refused = λ _. (record { text = text; end = is; took = took }, none);
      usage = λ e. absurd (omega (arith, s, e));
      fault = λ e. absurd (omega (arith, s, e));
      stopped = λ e. absurd (omega (arith, s, e));
      memory = λ e. absurd (omega (arith, s, e));
      only = omega (arith, s);
      no_sentence = λ e _. absurd (none_refused text is e);
      complete = λ _ _ _. HasStatus-told points held (Refused text) status is (inl s);
    }

    -- it took the usage
    at_2 : status ≡ 2 → points ≡ None → unread → TookText usage_text err err' → TookNothing out out' → DoesThis
    at_2 s is un took none = record {
      done = λ e. absurd (omega (arith, s, e));
      refused = λ e. absurd (omega (arith, s, e));
      usage = λ _. (record { end = is; took = took }, none, un);
      fault = λ e. absurd (omega (arith, s, e));
      stopped = λ e. absurd (omega (arith, s, e));
      memory = λ e. absurd (omega (arith, s, e));
      only = omega (arith, s);
      no_sentence = λ _ _. inl s;
      complete = λ _ _ _. HasStatus-told points held Usage status (usage_is is) (inl s);
    }

    -- it was told of a file
    at_3 : (text : List ℕ) → status ≡ 3 → (FailedAt points held rose text ⊎ AbsentAt points held rose text)
        → (TookText text err err' ⊎ (err_rose × TookPart text err err')) → TookNothing out out' → (points ≡ None → ⊥) → Complete → DoesThis
    at_3 text s cause took none some complete = record {
      done = λ e. absurd (omega (arith, s, e));
      refused = λ e. absurd (omega (arith, s, e));
      usage = λ e. absurd (omega (arith, s, e));
      fault = λ _. (record { text = text; cause = cause; took = took }, none);
      stopped = λ e. absurd (omega (arith, s, e));
      memory = λ e. absurd (omega (arith, s, e));
      only = omega (arith, s);
      no_sentence = λ e _. absurd (some e);
      complete = complete;
    }

    -- a sink failed
    at_4 : status ≡ 4
        → ((Stopped points held Done out out' out_rose × TookNothing err err') ⊎ (Stopped points held Refused err err' err_rose × TookNothing out out')
        ⊎ (StoppedUsage points err err' err_rose × TookNothing out out'))
        → (points ≡ None → err_rose) → (out_rose ⊎ err_rose) → DoesThis
    at_4 s stopped some failed = record {
      done = λ e. absurd (omega (arith, s, e));
      refused = λ e. absurd (omega (arith, s, e));
      usage = λ e. absurd (omega (arith, s, e));
      fault = λ e. absurd (omega (arith, s, e));
      stopped = λ _. stopped;
      memory = λ e. absurd (omega (arith, s, e));
      only = omega (arith, s);
      no_sentence = λ e calm. absurd (calm (some e));
      complete = λ _ calm_out calm_err. absurd (calmed failed calm_out calm_err);
    }
      where
        calmed : (out_rose ⊎ err_rose) → (out_rose → ⊥) → (err_rose → ⊥) → ⊥
        calmed (inl r) calm_out calm_err = calm_out r
        calmed (inr r) calm_out calm_err = calm_err r

    -- there was no memory
    pub at-5 : status ≡ 5 → TookNothing out out' → TookNothing err err' → DoesThis
    at-5 s none nor = record {
      done = λ e. absurd (omega (arith, s, e));
      refused = λ e. absurd (omega (arith, s, e));
      usage = λ e. absurd (omega (arith, s, e));
      fault = λ e. absurd (omega (arith, s, e));
      stopped = λ e. absurd (omega (arith, s, e));
      memory = λ _. (none, nor);
      only = omega (arith, s);
      no_sentence = λ _ _. inr s;
      complete = λ _ _ _. memory_known held status s;
    }

    told_done : (text : List ℕ) → IsVerdict points held (Done text) → TookNothing err err' → Wrote text 0 out out' out_rose status → DoesThis
    told_done text is none (inl w) = at_0 text w.0 is w.1 none
    told_done text is none (inr w) =
        at_4 w.0 (inl (record { text = text; end = is; took = w.2; counted = w.1 }, none)) (λ e. absurd (none_done text is e)) (inl w.1)

    told_refused : (text : List ℕ) → IsVerdict points held (Refused text) → TookNothing out out' → Wrote text 1 err err' err_rose status → DoesThis
    told_refused text is none (inl w) = at_1 text w.0 is w.1 none
    told_refused text is none (inr w) =
        at_4 w.0 (inr (inl (record { text = text; end = is; took = w.2; counted = w.1 }, none))) (λ _. w.1) (inr w.1)

    told_usage : points ≡ None → unread → TookNothing out out' → Wrote usage_text 2 err err' err_rose status → DoesThis
    told_usage is un none (inl w) = at_2 w.0 is un w.1 none
    told_usage is un none (inr w) = at_4 w.0 (inr (inr (record { end = is; took = w.2; counted = w.1 }, none))) (λ _. w.1) (inr w.1)

    -- what was decided, once it is written
    pub tells-does : (decided : Result (List ℕ) Stop) → Decides points held rose decided → (IsErrOf decided stop.Usage → unread)
        → Tells decided out out' out_rose err err' err_rose status → DoesThis
    tells-does (Ok text) is un told = told_done text is told.1 told.0
    tells-does (Err stop.Usage) is un told = told_usage is (un refl) told.1 told.0
    tells-does (Err (stop.Refused text)) is un told = told_refused text is told.1 told.0
    tells-does (Err (stop.Failed text)) is un told =
        at_3 text told.0.0 (inl is) told.0.1 told.1 (none_turn is.file is.turn) (λ calm _ _. absurd (calm is.counted))
    tells-does (Err (stop.Absent text)) is un told =
        at_3 text told.0.0 (inr is) told.0.1 told.1 (none_turn is.file is.turn)
        (λ _ _ _. HasStatus-told points held (Unread is.file) status is.end (inl told.0.0))
    tells-does (Err stop.NoMemory) is un told = at-5 told.0 told.1 told.2
