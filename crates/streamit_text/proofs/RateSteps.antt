-- The steps by which code reads rates.
use Rattle.std.proofs.Common.{◌≡◌, ℕ, zero, suc, ◌<◌, ◌+◌, List, [], ◌∷◌, ◌++◌, length, Bool, true, false, cond, Option, Some, None, refl, sym, ap, ◌∙◌, arith}
use Rattle.std.proofs.Common.{length-append, append_assoc}
use Rattle.text_tokens.specs.Tok.{Tok}
use Rattle.text_forms.specs.Parse as parse
use Rattle.text_forms.specs.Repeat.{Stop, after_turn, turns, repeated}
use Rattle.text_forms.proofs.Many.{many-shortens}
use Rattle.text_forms.proofs.Repeat.{repeated-next, repeated-stop, repeated-fail}
use Rattle.text_blocks.specs.Parts.{optional}
use Rattle.streamit_text.specs.Program.{filter_tree, work_tree}
use Rattle.streamit_text.specs.Tree.{block, optional_block}
use Rattle.streamit_text.specs.declared.tree.FilterTree.{FilterTree}
use Rattle.streamit_text.specs.declared.tree.WorkTree.{WorkTree}
use Rattle.streamit_text.specs.Grammar.{Rate, Rates, unwritten, on_some, with_rate, rates_in, made_work, made_filter}
use Rattle.streamit_text.specs.Reading.{at_block, rate_at, rate_list_at, rates_at}
use Rattle.streamit_text.specs.View.{rates_of}
use Rattle.streamit_text.proofs.Units.{exact-rate, listed-rates}

-- what is read behind some items
abbrev pub behind : {A : Type 0} → List A → Option (List A × List Tok) → Option (List A × List Tok)
behind done None = None
behind done (Some read) = Some (done ++ read.0, read.1)

module _ {A : Type 0} (stop : List Tok → Bool) (p : parse.Parse A) where
  turns-behind : (n : ℕ) (done more : List A) (ts : List Tok)
      → turns (parse.many_turn stop p) n (done ++ more) ts ≡ behind done (turns (parse.many_turn stop p) n more ts)
  unfolding turns
  turns-behind zero done more ts = refl
  turns-behind (suc n) done more ts =
      by (λ v us. ap (λ (l : List A). turns (parse.many_turn stop p) n l us) (append_assoc done more (v ∷ [])) ∙ turns-behind n done (more ++ v ∷ []) us)
      (stop ts) (p ts) where
        by : ((v : A) (us : List Tok)
            → turns (parse.many_turn stop p) n ((done ++ more) ++ v ∷ []) us ≡ behind done (turns (parse.many_turn stop p) n (more ++ v ∷ []) us))
            → (b : Bool) (r : Option (A × List Tok))
            → after_turn (turns (parse.many_turn stop p) n) (done ++ more) ts (cond b Stop (parse.item_turn (done ++ more) r)) ≡ behind done
            (after_turn (turns (parse.many_turn stop p) n) more ts (cond b Stop (parse.item_turn more r)))
        by next true r = refl
        by next false None = refl
        by next false (Some read) = next read.0 read.1

  repeated-behind : (done : List A) (ts : List Tok) → repeated (parse.many_turn stop p) (done ++ []) ts ≡ behind done (repeated (parse.many_turn stop p) [] ts)
  unfolding repeated
  repeated-behind done ts = turns-behind (suc (length ts)) done [] ts

-- one rate, and the rates behind it
listed-next : (ts us : List Tok) (v : Rate) → at_block ts ≡ false → rate_at ts ≡ Some (v, us) → rate_list_at ts ≡ behind (v ∷ []) (rate_list_at us)
unfolding rate_list_at
listed-next ts us v e read =
    repeated-next (parse.many_turn at_block rate_at) (many-shortens at_block exact-rate listed-rates) [] ts (v ∷ []) us (rw (e, read) refl)
    ∙ repeated-behind at_block rate_at (v ∷ []) us

-- the rates that are read behind these
abbrev pub rates_from : Rates → parse.Parse Rates
rates_from r ts = parse.known (rates_in r) rate_list_at ts

-- rates are read from where none is written
pub rates-start : (ts : List Tok) → rates_from unwritten ts ≡ rates_at ts
unfolding rates_at
rates-start ts = refl

-- at a block the rates are those that were read
pub rates-stop : (r : Rates) (ts : List Tok) → at_block ts ≡ true → rates_from r ts ≡ Some (r, ts)
unfolding rate_list_at
rates-stop r ts e =
    ap (λ (o : Option (List Rate × List Tok)). parse.then_parsed o (λ a us. parse.answer_at (rates_in r a) us))
    (repeated-stop (parse.many_turn at_block rate_at) [] ts (rw e refl))

pub rates-bad : (r : Rates) (ts : List Tok) → at_block ts ≡ false → rate_at ts ≡ None → rates_from r ts ≡ None
unfolding rate_list_at
rates-bad r ts e bad =
    ap (λ (o : Option (List Rate × List Tok)). parse.then_parsed o (λ a us. parse.answer_at (rates_in r a) us))
    (repeated-fail (parse.many_turn at_block rate_at) [] ts (rw (e, bad) refl))

-- one rate more
pub rates-next : (r q : Rates) (ts us : List Tok) (v : Rate) → at_block ts ≡ false → rate_at ts ≡ Some (v, us) → with_rate r v ≡ Some q
    → rates_from q us ≡ rates_from r ts
rates-next r q ts us v e read more =
    sym (ap (λ (o : Option (List Rate × List Tok)). parse.then_parsed o (λ a ws. parse.answer_at (rates_in r a) ws)) (listed-next ts us v e read)
    ∙ by (rate_list_at us)) where
      by : (o : Option (List Rate × List Tok))
          → parse.then_parsed (behind (v ∷ []) o) (λ a ws. parse.answer_at (rates_in r a) ws) ≡ parse.then_parsed o (λ a ws. parse.answer_at (rates_in q a) ws)
      by None = refl
      by (Some all) = ap (λ (m : Option Rates). parse.answer_at (on_some m (λ s. rates_in s all.0)) all.1) more

-- a rate that is written twice
pub rates-twice : (r : Rates) (ts us : List Tok) (v : Rate) → at_block ts ≡ false → rate_at ts ≡ Some (v, us) → with_rate r v ≡ None → rates_from r ts ≡ None
rates-twice r ts us v e read none =
    ap (λ (o : Option (List Rate × List Tok)). parse.then_parsed o (λ a ws. parse.answer_at (rates_in r a) ws)) (listed-next ts us v e read)
    ∙ by (rate_list_at us) where
      by : (o : Option (List Rate × List Tok)) → parse.then_parsed (behind (v ∷ []) o) (λ a ws. parse.answer_at (rates_in r a) ws) ≡ None
      by None = refl
      by (Some all) = ap (λ (m : Option Rates). parse.answer_at (on_some m (λ s. rates_in s all.0)) all.1) none

-- a rate takes a token at least
pub rate-shortens : (ts us : List Tok) (v : Rate) → rate_at ts ≡ Some (v, us) → length us < length ts
rate-shortens ts us v e =
    let f = exact-rate.sound ts v us e in
    let size : length ts ≡ length f.front + length us = ap length f.is ∙ length-append f.front us in
    let some : 0 < length f.front = listed-rates.some v f.front f.formed in
    omega arith

pub ruleset rates = (rates-start, rates-stop, rates-bad, rates-next, rates-twice, rate-shortens)

-- the filter that the grammar makes
pub filter-made : (t : FilterTree) → made_filter (t.fields.items, (optional_block t.init, (optional work_tree t.prework, work_tree t.work))) ≡ filter_tree t
filter-made t = refl

-- and the `work` of one
pub work-made : (w : WorkTree) → made_work (rates_of w.rates, block w.block) ≡ work_tree w
work-made w = refl

pub ruleset filters = (filter-made, work-made)
