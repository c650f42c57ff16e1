-- The steps by which code reads rates.
use Rattle.std.proofs.Common.{◌≡◌, ℕ, zero, suc, ◌<◌, ◌+◌, List, [], ◌∷◌, ◌++◌, length, Bool, true, false, cond, Option, Some, None, refl, sym, ap, ◌∙◌, arith}
use Rattle.std.proofs.Common.{length-append, append_assoc}
use Rattle.text_tokens.specs.Tok.{Tok}
use Rattle.text_forms.specs.Parse as parse
use Rattle.text_forms.specs.Repeat.{Stop, after_turn, turns, repeated}
use Rattle.text_forms.proofs.Many.{many-shortens}
use Rattle.text_forms.proofs.Repeat.{repeated-next, repeated-stop, repeated-fail}
use Rattle.text_blocks.specs.Parts.{optional}
use Rattle.params_text.specs.Program.{filter_of, work_of}
use Rattle.streamit_text.specs.Tree.{block, optional_block}
use Rattle.params_text.specs.declared.program.ParamFilter.{ParamFilter}
use Rattle.params_text.specs.declared.program.ParamWork.{ParamWork}
use Rattle.streamit_text.specs.Grammar.{on_some}
use Rattle.streamit_text.specs.Reading.{at_block}
use Rattle.params_text.specs.Grammar.{Rate, Rates, unwritten, with_rate, rates_in, made_work, made_filter}
use Rattle.params_text.specs.Reading.{rate_at, rate_list_at, rates_at}
use Rattle.params_text.specs.View.{rates_of}
use Rattle.streamit_text.proofs.RateSteps.{behind}
use Rattle.params_text.proofs.UnitReads.{exact-rate, listed-rates}

module _ {A : Type 0} (stop : List Tok → Bool) (p : parse.Parse A) where
  turns-behind : (n : ℕ) (done more : List A) (ts : List Tok)
      → turns (parse.many_turn stop p) n (done ++ more) ts ≡ behind done (turns (parse.many_turn stop p) n more ts)
  unfolding turns
  turns-behind zero done more ts = refl
  turns-behind (suc n) done more ts =
      by (λ v us. ap (λ (l : List A). turns (parse.many_turn stop p) n l us) (append_assoc done more (v ∷ [])) ∙ turns-behind n done (more ++ v ∷ []) us)
      (stop ts) (p ts) where
        by : ((v : A) (us : List Tok)
            → turns (parse.many_turn stop p) n ((done ++ more) ++ v ∷ []) us ≡ behind done (turns (parse.many_turn stop p) n (more ++ v ∷ []) us))
            → (b : Bool) (r : Option (A × List Tok))
            → after_turn (turns (parse.many_turn stop p) n) (done ++ more) ts (cond b Stop (parse.item_turn (done ++ more) r)) ≡ behind done
            (after_turn (turns (parse.many_turn stop p) n) more ts (cond b Stop (parse.item_turn more r)))
        by next true r = refl
        by next false None = refl
        by next false (Some read) = next read.0 read.1

  repeated-behind : (done : List A) (ts : List Tok) → repeated (parse.many_turn stop p) (done ++ []) ts ≡ behind done (repeated (parse.many_turn stop p) [] ts)
  unfolding repeated
  repeated-behind done ts = turns-behind (suc (length ts)) done [] ts

-- one rate, and the rates behind it
listed-next : (n : ℕ) (ts us : List Tok) (v : Rate) → at_block ts ≡ false → rate_at n ts ≡ Some (v, us)
    → rate_list_at n ts ≡ behind (v ∷ []) (rate_list_at n us)
unfolding rate_list_at
listed-next n ts us v e read =
    repeated-next (parse.many_turn at_block (rate_at n)) (many-shortens at_block (exact-rate n) (listed-rates n)) [] ts (v ∷ []) us (rw (e, read) refl)
    ∙ repeated-behind at_block (rate_at n) (v ∷ []) us

-- the rates that are read behind these
abbrev pub rates_from : ℕ → Rates → parse.Parse Rates
rates_from n r ts = parse.known (rates_in r) (rate_list_at n) ts

-- rates are read from where none is written
pub rates-start : (n : ℕ) (ts : List Tok) → rates_from n unwritten ts ≡ rates_at n ts
unfolding rates_at
rates-start n ts = refl

-- at a block the rates are those that were read
pub rates-stop : (n : ℕ) (r : Rates) (ts : List Tok) → at_block ts ≡ true → rates_from n r ts ≡ Some (r, ts)
unfolding rate_list_at
rates-stop n r ts e =
    ap (λ (o : Option (List Rate × List Tok)). parse.then_parsed o (λ a us. parse.answer_at (rates_in r a) us))
    (repeated-stop (parse.many_turn at_block (rate_at n)) [] ts (rw e refl))

pub rates-bad : (n : ℕ) (r : Rates) (ts : List Tok) → at_block ts ≡ false → rate_at n ts ≡ None → rates_from n r ts ≡ None
unfolding rate_list_at
rates-bad n r ts e bad =
    ap (λ (o : Option (List Rate × List Tok)). parse.then_parsed o (λ a us. parse.answer_at (rates_in r a) us))
    (repeated-fail (parse.many_turn at_block (rate_at n)) [] ts (rw (e, bad) refl))

-- one rate more
pub rates-next : (n : ℕ) (r q : Rates) (ts us : List Tok) (v : Rate) → at_block ts ≡ false → rate_at n ts ≡ Some (v, us) → with_rate r v ≡ Some q
    → rates_from n q us ≡ rates_from n r ts
rates-next n r q ts us v e read more =
    sym (ap (λ (o : Option (List Rate × List Tok)). parse.then_parsed o (λ a ws. parse.answer_at (rates_in r a) ws)) (listed-next n ts us v e read)
    ∙ by (rate_list_at n us)) where
      by : (o : Option (List Rate × List Tok))
          → parse.then_parsed (behind (v ∷ []) o) (λ a ws. parse.answer_at (rates_in r a) ws) ≡ parse.then_parsed o (λ a ws. parse.answer_at (rates_in q a) ws)
      by None = refl
      by (Some all) = ap (λ (m : Option Rates). parse.answer_at (on_some m (λ s. rates_in s all.0)) all.1) more

-- a rate that is written twice
pub rates-twice : (n : ℕ) (r : Rates) (ts us : List Tok) (v : Rate) → at_block ts ≡ false → rate_at n ts ≡ Some (v, us) → with_rate r v ≡ None
    → rates_from n r ts ≡ None
rates-twice n r ts us v e read none =
    ap (λ (o : Option (List Rate × List Tok)). parse.then_parsed o (λ a ws. parse.answer_at (rates_in r a) ws)) (listed-next n ts us v e read)
    ∙ by (rate_list_at n us) where
      by : (o : Option (List Rate × List Tok)) → parse.then_parsed (behind (v ∷ []) o) (λ a ws. parse.answer_at (rates_in r a) ws) ≡ None
      by None = refl
      by (Some all) = ap (λ (m : Option Rates). parse.answer_at (on_some m (λ s. rates_in s all.0)) all.1) none

-- a rate takes a token at least
pub rate-shortens : (n : ℕ) (ts us : List Tok) (v : Rate) → rate_at n ts ≡ Some (v, us) → length us < length ts
rate-shortens n ts us v e =
    let f = (exact-rate n).sound ts v us e in
    let size : length ts ≡ length f.front + length us = ap length f.is ∙ length-append f.front us in
    let some : 0 < length f.front = (listed-rates n).some v f.front f.formed in
    omega arith

pub ruleset rates = (rates-start, rates-stop, rates-bad, rates-next, rates-twice, rate-shortens)

-- the filter that the grammar makes
pub filter-made : (t : ParamFilter) → made_filter (t.fields.items, (optional_block t.init, (optional work_of t.prework, work_of t.work))) ≡ filter_of t
filter-made t = refl

-- and the `work` of one
pub work-made : (w : ParamWork) → made_work (rates_of w.rates, block w.block) ≡ work_of w
work-made w = refl

pub ruleset filters = (filter-made, work-made)
