-- The reading of units is exact.
use Rattle.std.proofs.Common.{◌≡◌, ℕ, zero, suc, List, [], ◌∷◌, ◌++◌, Bool, true, false, Option, Some, None, refl, sym, subst, arith, append_assoc}
use Rattle.std.specs.Prelude.{codes}
use Rattle.std.specs.Str.{bytes_eq}
use Rattle.std.proofs.lemmas.Slice.Eq.{bytes_eq-Decides}
use Rattle.text_tokens.specs.Tok.{Tok}
use Rattle.text_tokens.specs.declared.sign.Symbol.TheVariants as s
use Rattle.text_forms.specs.Parse as parse
use Rattle.text_forms.specs.Forms as form
use Rattle.text_forms.proofs.Symbols.{begins_with-is}
use Rattle.text_forms.proofs.Exact.{Exact, Any, exact-less, exact-both, exact-after, exact-before, exact-after_word, exact-tested, exact-seen, exact-maybe}
use Rattle.text_forms.proofs.Exact.{is_word_at-is}
use Rattle.text_forms.proofs.Many.{Listed, exact-many}
use Rattle.text_forms.proofs.Choices.{exact-never, exact-choose, exact-headed, exact-known, exact-enclosed}
use Rattle.text_blocks.proofs.Statements.{NoElse}
use Rattle.text_blocks.specs.Seven.{Ends}
use Rattle.text_blocks.specs.Statements.{IsRest}
use Rattle.text_blocks.specs.Statements as statements
use Rattle.text_blocks.proofs.Statements as blocks
use Rattle.streamit_text.specs.Blocks as streamit
use Rattle.streamit_text.specs.ExactStatements.{exact-empty, exact-streamit}
use Rattle.streamit_text.specs.Expressions.{IsExpression, expr_at}
use Rattle.streamit_text.specs.Grammar.{stay, none_there, Parens, IsField, Braces}
use Rattle.streamit_text.specs.Reading.{fields_at, no_field, at_block, parens_at}
use Rattle.streamit_text.specs.Tree.{Block, Optional, or_unwritten}
use Rattle.streamit_text.proofs.Units.{No, exact-field, listed-fields}
use Rattle.params_text.specs.ExactSteps.{NoOpen, round-begins, exact-constant, exact-stream_name, exact-params, exact-constants, exact-steps_are}
use Rattle.params_text.specs.ExactParameters.{apart-with}
use Rattle.params_text.specs.Parameters.{IsLeafWith, leaf_with}
use Rattle.params_text.specs.Params.{low}
use Rattle.params_text.specs.Steps.{Params, style, holes}
use Rattle.params_text.specs.Grammar.{IsStep, IsPipe, push, pop, peek, IsRate, unwritten, rates_in, AreRates, IsBlock, IsInit, made_work, IsWork, IsPrework, AreWorks, made_filter, InFilter}
use Rattle.params_text.specs.Grammar.{copying, IsSplit, IsJoin, made_both, InBoth, BodyAfter, made_unit, KindAfter, IsUnit, IsUnitAt}
use Rattle.params_text.specs.Chained.{Chained}
use Rattle.params_text.specs.Reading.{step_at, pipe_at, rate_after, rate_at, rate_list_at, rates_at, statements_at, block_at, still_at, init_at, work_at, prework_at, works_at}
use Rattle.params_text.specs.Reading.{in_filter_at, filter_at, split_after, split_at, join_at, at_join, steps_at, in_both_at, both_at, body_after, with_params_at, kind_after, unit_at, unit_from}
use Rattle.params_text.specs.Program.{ParamWork, Step, Turns, Body, AFilter, APipeline}
use Rattle.params_text.proofs.Chains.{exact-chained}

-- STEPS

-- a step is read exactly
pub exact-step : (n : ℕ) → Exact (IsStep n) (step_at n) NoElse
unfolding step_at
exact-step n = blocks.exact-stmt exact-steps_are 16 n

exact-pipe : (n : ℕ) → Exact (IsPipe n) (pipe_at n) Any
unfolding pipe_at
exact-pipe n = blocks.exact-block exact-steps_are 16 n

-- RATES

-- a rate is read exactly
pub exact-rate : (n : ℕ) → Exact (IsRate n) (rate_at n) (Ends 6)
unfolding rate_at rate_after
exact-rate n =
    exact-headed (λ w. exact-choose (bytes_eq w (codes "push")) (exact-seen push (exact-constant n))
    (exact-choose (bytes_eq w (codes "pop")) (exact-seen pop (exact-constant n))
    (exact-choose (bytes_eq w (codes "peek")) (exact-seen peek (exact-constant n)) exact-never)))

-- rates have a token each, and each begins with a word
pub listed-rates : (n : ℕ) → Listed at_block (IsRate n) (Ends 6)
listed-rates n = record {
  some = λ v ts h. rw h.is (omega arith);
  begins = λ v ts rest h. rw h.is refl;
  follows = λ v ts rest h. rw h.is (λ j k. refl);
}

brace-ends : (rest : List Tok) → at_block rest ≡ true → Ends 6 rest
brace-ends rest e = subst (Ends 6) (sym (begins_with-is s.OpenBrace rest e)) (λ j h. refl)

exact-rates : (n : ℕ) → Exact (AreRates n) (rates_at n) (λ rest. at_block rest ≡ true)
unfolding rates_at rate_list_at
exact-rates n = exact-known (rates_in unwritten) (exact-less (exact-many at_block (exact-rate n) (listed-rates n)) (λ rest d. (brace-ends rest d, d)))

-- FILTERS

exact-statements : (ps : List (List ℕ)) (n : ℕ)
    → Exact (statements.IsBlock (streamit.style (expr_at (leaf_with ps))) (streamit.holes (IsExpression (IsLeafWith ps))) 16 n) (statements_at ps n) Any
unfolding statements_at
exact-statements ps n = blocks.exact-block (exact-streamit (apart-with ps)) 16 n

exact-block : (ps : List (List ℕ)) (n : ℕ) → Exact (IsBlock ps n) (block_at ps n) Any
unfolding block_at
exact-block ps n = exact-tested (low ps) (exact-statements ps n)

exact-still : (ps : List (List ℕ)) (n : ℕ) → Exact (form.Tested stay (IsBlock ps n)) (still_at ps n) Any
unfolding still_at
exact-still ps n = exact-tested stay (exact-block ps n)

exact-init : (ps : List (List ℕ)) (n : ℕ) → Exact (IsInit ps n) (init_at ps n) (No (codes "init"))
unfolding init_at
exact-init ps n =
    exact-less (exact-seen or_unwritten
    (exact-maybe (parse.is_word_at (codes "init")) (exact-after_word (codes "init") (exact-still ps n)) (λ v ts rest h. rw h.is refl)))
    (λ rest d. (tt, d))

-- a block begins with a brace
block-begins : (ps : List (List ℕ)) (n : ℕ) (v : Block) (ts rest : List Tok) → IsBlock ps n v ts → at_block (ts ++ rest) ≡ true
block-begins ps zero v ts rest h = absurd h.formed
block-begins ps (suc n) v ts rest h = rw h.formed.is refl

exact-work : (ps : List (List ℕ)) (n : ℕ) → Exact (IsWork ps n) (work_at ps n) Any
unfolding work_at
exact-work ps n = exact-seen made_work (exact-both (exact-rates n) (exact-block ps n) (λ y ts rest g d. block-begins ps n y ts rest g))

exact-prework : (ps : List (List ℕ)) (n : ℕ) → Exact (IsPrework ps n) (prework_at ps n) (No (codes "prework"))
unfolding prework_at
exact-prework ps n =
    exact-less (exact-maybe (parse.is_word_at (codes "prework")) (exact-after_word (codes "prework") (exact-work ps n)) (λ v ts rest h. rw h.is refl))
    (λ rest d. (tt, d))

exact-works : (ps : List (List ℕ)) (n : ℕ) → Exact (AreWorks ps n) (works_at ps n) Any
unfolding works_at
exact-works ps n = exact-both (exact-prework ps n) (exact-after_word (codes "work") (exact-work ps n)) (λ y ts rest g d. rw g.is refl)

-- what stands behind `init` begins with `prework` or `work`
works-follow : (ps : List (List ℕ)) (n : ℕ) (v : Option ParamWork × ParamWork) (ts rest : List Tok) → AreWorks ps n v ts
    → (no_field (ts ++ rest) ≡ true) × No (codes "init") (ts ++ rest)
works-follow ps n v ts rest h = by v.0 h.first where
  by : (o : Option ParamWork) → IsPrework ps n o h.front → (no_field (ts ++ rest) ≡ true) × No (codes "init") (ts ++ rest)
  by None g = (rw (h.is, g, h.second.is) refl, rw (h.is, g, h.second.is) refl)
  by (Some w) g = (rw (h.is, append_assoc h.front h.back rest, g.is) refl, rw (h.is, append_assoc h.front h.back rest, g.is) refl)

-- behind the fields comes no field
init-follows : (ps : List (List ℕ)) (n : ℕ) (v : Optional × (Option ParamWork × ParamWork)) (ts rest : List Tok) → form.Both (IsInit ps n) (AreWorks ps n) v ts
    → no_field (ts ++ rest) ≡ true
init-follows ps n v ts rest h = by h.first.value h.first.formed where
  by : (o : Option Block) → form.Maybe (form.AfterWord (codes "init") (form.Tested stay (IsBlock ps n))) o h.front → no_field (ts ++ rest) ≡ true
  by None g = rw (h.is, g) (works-follow ps n v.1 h.back rest h.second).0
  by (Some b) g = rw (h.is, append_assoc h.front h.back rest, g.is) refl

exact-fields : Exact (form.Many IsField) fields_at (λ rest. no_field rest ≡ true)
unfolding fields_at
exact-fields = exact-less (exact-many no_field exact-field listed-fields) (λ rest d. (tt, d))

exact-in_filter : (ps : List (List ℕ)) (n : ℕ) → Exact (InFilter ps n) (in_filter_at ps n) Any
unfolding in_filter_at
exact-in_filter ps n =
    exact-seen made_filter (exact-both exact-fields (exact-both (exact-init ps n) (exact-works ps n) (λ y ts rest g d. (works-follow ps n y ts rest g).1))
    (λ y ts rest g d. init-follows ps n y ts rest g))

exact-filter : (ps : List (List ℕ)) (n : ℕ) → Exact (Braces (InFilter ps) n) (filter_at ps n) Any
unfolding filter_at
exact-filter ps n = exact-enclosed s.OpenBrace s.CloseBrace (exact-in_filter ps) (λ rest. tt) n

-- SPLIT-JOINS

exact-parens : (n : ℕ) → Exact (Parens n) (parens_at n) NoOpen
unfolding parens_at
exact-parens n =
    exact-less (exact-seen none_there
    (exact-maybe (parse.begins_with s.Open) (exact-empty n) (λ v ts rest h. round-begins (λ m. form.Nothing tt) n v ts rest h))) (λ rest d. (tt, d))

exact-split : (n : ℕ) → Exact (IsSplit n) (split_at n) Any
unfolding split_at split_after
exact-split n =
    exact-after_word (codes "split")
    (exact-before (s.Semicolon ∷ []) (exact-headed (λ w. exact-choose (bytes_eq w (codes "duplicate")) (exact-seen copying (exact-parens n))
    (exact-choose (bytes_eq w (codes "roundrobin")) (exact-seen Turns (exact-constants n)) exact-never))) (λ rest. refl))

exact-join : (n : ℕ) → Exact (IsJoin n) (join_at n) Any
unfolding join_at
exact-join n = exact-after_word (codes "join") (exact-after_word (codes "roundrobin") (exact-before (s.Semicolon ∷ []) (exact-constants n) (λ rest. refl)))

-- no step begins with `join` or `else`
no-join : (n : ℕ) (v : Step) (ts : List Tok) → IsRest style holes 16 n (codes "join") v ts → ⊥
unfolding IsRest
no-join n v ts h = h

no-else : (n : ℕ) (v : Step) (ts : List Tok) → IsRest style holes 16 n (codes "else") v ts → ⊥
unfolding IsRest
no-else n v ts h = h

other-word : (n : ℕ) (w word : List ℕ) (v : Step) (ts : List Tok) → IsRest style holes 16 n w v ts → (IsRest style holes 16 n word v ts → ⊥)
    → bytes_eq w word ≡ false
other-word n w word v ts h never = by (bytes_eq w word) refl where
  by : (b : Bool) → bytes_eq w word ≡ b → b ≡ false
  by false e = refl
  by true e = absurd (never (subst (λ (x : List ℕ). IsRest style holes 16 n x v ts) ((bytes_eq-Decides w word).0 e) h))

-- steps are a list, as none begins with `join` or `else`
pub listed-steps : (n : ℕ) → Listed at_join (IsStep n) NoElse
listed-steps n = record {
  some = λ v ts h. rw h.is (omega arith);
  begins = λ v ts rest h. rw h.is (other-word n h.word (codes "join") v h.back h.formed (no-join n v h.back));
  follows = λ v ts rest h. rw h.is (other-word n h.word (codes "else") v h.back h.formed (no-else n v h.back));
}

join-no_else : (rest : List Tok) → at_join rest ≡ true → NoElse rest
join-no_else rest e = subst NoElse (sym (is_word_at-is (codes "join") rest e)) refl

exact-steps : (n : ℕ) → Exact (form.Many (IsStep n)) (steps_at n) (λ rest. at_join rest ≡ true)
unfolding steps_at
exact-steps n = exact-less (exact-many at_join (exact-step n) (listed-steps n)) (λ rest d. (join-no_else rest d, d))

exact-in_both : (n : ℕ) → Exact (InBoth n) (in_both_at n) Any
unfolding in_both_at
exact-in_both n =
    exact-seen made_both (exact-both (exact-split n) (exact-both (exact-steps n) (exact-join n) (λ y ts rest g d. rw g.is refl)) (λ y ts rest g d. tt))

exact-both_at : (n : ℕ) → Exact (Braces InBoth n) (both_at n) Any
unfolding both_at
exact-both_at n = exact-enclosed s.OpenBrace s.CloseBrace exact-in_both (λ rest. tt) n

-- UNITS

exact-body : (n : ℕ) (w : List ℕ) (ps : List (List ℕ)) → Exact (BodyAfter n w ps) (body_after n w ps) Any
unfolding body_after
exact-body n w ps =
    exact-choose (bytes_eq w (codes "filter")) (exact-seen AFilter (exact-filter ps n))
    (exact-choose (bytes_eq w (codes "pipeline")) (exact-seen APipeline (exact-pipe n))
    (exact-choose (bytes_eq w (codes "splitjoin")) (exact-both_at n) exact-never))

braces-begin : {A : Type 0} (F : ℕ → A → List Tok → Type 0) (n : ℕ) (v : A) (ts rest : List Tok) → Braces F n v ts → NoOpen (ts ++ rest)
braces-begin F zero v ts rest h = absurd h
braces-begin F (suc n) v ts rest h = rw h.is refl

-- a body begins with a brace
body-begins : (n : ℕ) (w : List ℕ) (ps : List (List ℕ)) (v : Body) (ts rest : List Tok) → BodyAfter n w ps v ts → NoOpen (ts ++ rest)
body-begins n w ps v ts rest h = filters (bytes_eq w (codes "filter")) h where
  joins : (b : Bool) → form.Choose b (Braces InBoth n) form.Never v ts → NoOpen (ts ++ rest)
  joins true g = braces-begin InBoth n v ts rest g
  joins false g = absurd g

  lines : (b : Bool) → form.Choose b (form.Seen APipeline (IsPipe n)) (form.Choose (bytes_eq w (codes "splitjoin")) (Braces InBoth n) form.Never) v ts
      → NoOpen (ts ++ rest)
  lines true g = braces-begin _ n g.value ts rest g.formed
  lines false g = joins (bytes_eq w (codes "splitjoin")) g

  filters : (b : Bool)
      → form.Choose b (form.Seen AFilter (Braces (InFilter ps) n))
      (form.Choose (bytes_eq w (codes "pipeline")) (form.Seen APipeline (IsPipe n))
      (form.Choose (bytes_eq w (codes "splitjoin")) (Braces InBoth n) form.Never)) v ts
      → NoOpen (ts ++ rest)
  filters true g = braces-begin (InFilter ps) n g.value ts rest g.formed
  filters false g = lines (bytes_eq w (codes "pipeline")) g

exact-with_params : (n : ℕ) (w : List ℕ) → Exact (Chained (Params n) (BodyAfter n w)) (with_params_at n w) Any
unfolding with_params_at
exact-with_params n w = exact-chained (exact-params n) (exact-body n w) (λ ps y ts rest g d. body-begins n w ps y ts rest g)

exact-kind : (n : ℕ) (w : List ℕ) → Exact (KindAfter n w) (kind_after n w) Any
unfolding kind_after
exact-kind n w = exact-seen made_unit (exact-both exact-stream_name (exact-with_params n w) (λ y ts rest g d. tt))

-- a unit
pub exact-unit : Exact IsUnit unit_at Any
unfolding unit_at
exact-unit = exact-after_word (codes "int") (exact-after (s.Arrow ∷ []) (exact-after_word (codes "int") (exact-headed (exact-kind 128))))

-- a unit, whatever comes before it
pub exact-unit_from : (u : Unit {0}) → Exact (IsUnitAt u) (unit_from u) Any
exact-unit_from u = exact-unit
