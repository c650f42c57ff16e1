-- The reading of units is exact.
use Rattle.std.proofs.Common.{◌≡◌, ℕ, zero, suc, List, [], ◌∷◌, ◌++◌, Bool, true, false, Option, Some, None, refl, arith, append_assoc}
use Rattle.std.specs.Prelude.{codes}
use Rattle.std.specs.Str.{bytes_eq}
use Rattle.text_tokens.specs.Tok.{Tok}
use Rattle.text_tokens.specs.declared.sign.Symbol.TheVariants as s
use Rattle.text_forms.specs.Parse as parse
use Rattle.text_forms.specs.Forms as form
use Rattle.text_forms.proofs.Exact.{Exact, Any, exact-less, exact-both, exact-after, exact-before, exact-after_word, exact-tested, exact-seen, exact-maybe}
use Rattle.text_forms.proofs.Exact.{exact-number}
use Rattle.text_forms.proofs.Many.{Listed, exact-many}
use Rattle.text_forms.proofs.Choices.{exact-never, exact-choose, exact-headed, exact-known, exact-enclosed, exact-listing}
use Rattle.text_blocks.specs.Parts.{Round}
use Rattle.text_blocks.proofs.Parts.{exact-round}
use Rattle.text_blocks.proofs.Statements as blocks
use Rattle.streamit_text.specs.ExactLeaves.{apart}
use Rattle.streamit_text.specs.ExactStatements.{exact-own, exact-empty, exact-streamit}
use Rattle.streamit_text.specs.Program.{WorkTree, Turns, Body, AFilter, APipeline}
use Rattle.streamit_text.specs.Tree.{Block, Optional, or_unwritten}
use Rattle.streamit_text.specs.Grammar.{Weight, stay, IsBlock, IsInit, IsField, push, pop, peek, IsRate, rates_in, unwritten, AreRates}
use Rattle.streamit_text.specs.Grammar.{made_work, IsWork, IsPrework, AreWorks, made_filter, InFilter, Braces, none_there, Parens, the_name, Called, IsAdd}
use Rattle.streamit_text.specs.Grammar.{made_adds, AreAdds, Weights, copying}
use Rattle.streamit_text.specs.Grammar.{IsSplit, IsJoin, made_both, InBoth, BodyAfter, made_unit, KindAfter, IsUnit, IsUnitAt}
use Rattle.streamit_text.specs.Reading.{block_at, still_at, init_at, no_field, field_at, fields_at, rate_after, rate_at, at_block, rate_list_at, rates_at}
use Rattle.streamit_text.specs.Reading.{work_at, prework_at, works_at, in_filter_at, filter_at, parens_at, called_at, add_at, no_add, more_adds_at}
use Rattle.streamit_text.specs.Reading.{adds_at, weight_at, listed_at, weights_at}
use Rattle.streamit_text.specs.Reading.{split_after, split_at, join_at, in_both_at, pipe_at, both_at, body_after, kind_after, unit_at, unit_from}

-- a block
exact-block : (n : ℕ) → Exact (IsBlock n) (block_at n) Any
unfolding block_at
exact-block n = blocks.exact-block (exact-streamit apart) 16 n

exact-still : (n : ℕ) → Exact (form.Tested stay (IsBlock n)) (still_at n) Any
unfolding still_at
exact-still n = exact-tested stay (exact-block n)

-- no such word comes
abbrev pub No : List ℕ → List Tok → Type 0
No word rest = parse.is_word_at word rest ≡ false

exact-init : (n : ℕ) → Exact (IsInit n) (init_at n) (No (codes "init"))
unfolding init_at
exact-init n =
    exact-less (exact-seen or_unwritten (exact-maybe (parse.is_word_at (codes "init")) (exact-after_word (codes "init") (exact-still n)) comes))
    (λ rest d. (tt, d)) where
      comes : (v : Block) (ts rest : List Tok) → form.AfterWord (codes "init") (form.Tested stay (IsBlock n)) v ts
          → parse.is_word_at (codes "init") (ts ++ rest) ≡ true
      comes v ts rest h = rw h.is refl

-- a field
pub exact-field : Exact IsField field_at Any
unfolding field_at
exact-field = exact-after_word (codes "int") (exact-before (s.Semicolon ∷ []) exact-own (λ rest. tt))

-- fields have a token each, and each begins with its word
pub listed-fields : Listed no_field IsField Any
listed-fields = record {
  some = λ v ts h. rw h.is (omega arith);
  begins = λ v ts rest h. rw h.is refl;
  follows = λ v ts rest h. tt;
}

exact-fields : Exact (form.Many IsField) fields_at (λ rest. no_field rest ≡ true)
unfolding fields_at
exact-fields = exact-less (exact-many no_field exact-field listed-fields) (λ rest d. (tt, d))

exact-count : Exact form.Count parse.count_at Any
exact-count = exact-tested parse.is_count exact-number

-- a rate
pub exact-rate : Exact IsRate rate_at Any
unfolding rate_at rate_after
exact-rate =
    exact-headed (λ w. exact-choose (bytes_eq w (codes "push")) (exact-seen push exact-count)
    (exact-choose (bytes_eq w (codes "pop")) (exact-seen pop exact-count)
    (exact-choose (bytes_eq w (codes "peek")) (exact-seen peek exact-count) exact-never)))

-- rates have a token each, and none begins with a brace
pub listed-rates : Listed at_block IsRate Any
listed-rates = record {
  some = λ v ts h. rw h.is (omega arith);
  begins = λ v ts rest h. rw h.is refl;
  follows = λ v ts rest h. tt;
}

exact-rates : Exact AreRates rates_at (λ rest. at_block rest ≡ true)
unfolding rates_at rate_list_at
exact-rates = exact-known (rates_in unwritten) (exact-less (exact-many at_block exact-rate listed-rates) (λ rest d. (tt, d)))

-- a block begins with a brace
block-begins : (n : ℕ) (v : Block) (ts rest : List Tok) → IsBlock n v ts → at_block (ts ++ rest) ≡ true
block-begins zero v ts rest h = absurd h
block-begins (suc n) v ts rest h = rw h.is refl

-- rates and a block
exact-work : (n : ℕ) → Exact (IsWork n) (work_at n) Any
unfolding work_at
exact-work n = exact-seen made_work (exact-both exact-rates (exact-block n) (λ y ts rest g d. block-begins n y ts rest g))

exact-prework : (n : ℕ) → Exact (IsPrework n) (prework_at n) (No (codes "prework"))
unfolding prework_at
exact-prework n = exact-less (exact-maybe (parse.is_word_at (codes "prework")) (exact-after_word (codes "prework") (exact-work n)) comes)
    (λ rest d. (tt, d)) where
      comes : (v : WorkTree) (ts rest : List Tok) → form.AfterWord (codes "prework") (IsWork n) v ts → parse.is_word_at (codes "prework") (ts ++ rest) ≡ true
      comes v ts rest h = rw h.is refl

exact-works : (n : ℕ) → Exact (AreWorks n) (works_at n) Any
unfolding works_at
exact-works n = exact-both (exact-prework n) (exact-after_word (codes "work") (exact-work n)) (λ y ts rest g d. rw g.is refl)

-- what stands behind `init` begins with `prework` or `work`
works-follow : (n : ℕ) (v : Option WorkTree × WorkTree) (ts rest : List Tok) → AreWorks n v ts → (no_field (ts ++ rest) ≡ true) × No (codes "init") (ts ++ rest)
works-follow n v ts rest h = by v.0 h.first where
  by : (o : Option WorkTree) → IsPrework n o h.front → (no_field (ts ++ rest) ≡ true) × No (codes "init") (ts ++ rest)
  by None g = (rw (h.is, g, h.second.is) refl, rw (h.is, g, h.second.is) refl)
  by (Some w) g = (rw (h.is, append_assoc h.front h.back rest, g.is) refl, rw (h.is, append_assoc h.front h.back rest, g.is) refl)

-- behind the fields comes no field
init-follows : (n : ℕ) (v : Optional × (Option WorkTree × WorkTree)) (ts rest : List Tok) → form.Both (IsInit n) (AreWorks n) v ts
    → no_field (ts ++ rest) ≡ true
init-follows n v ts rest h = by h.first.value h.first.formed where
  by : (o : Option Block) → form.Maybe (form.AfterWord (codes "init") (form.Tested stay (IsBlock n))) o h.front → no_field (ts ++ rest) ≡ true
  by None g = rw (h.is, g) (works-follow n v.1 h.back rest h.second).0
  by (Some b) g = rw (h.is, append_assoc h.front h.back rest, g.is) refl

exact-in_filter : (n : ℕ) → Exact (InFilter n) (in_filter_at n) Any
unfolding in_filter_at
exact-in_filter n =
    exact-seen made_filter (exact-both exact-fields (exact-both (exact-init n) (exact-works n) (λ y ts rest g d. (works-follow n y ts rest g).1))
    (λ y ts rest g d. init-follows n y ts rest g))

exact-filter : (n : ℕ) → Exact (Braces InFilter n) (filter_at n) Any
unfolding filter_at
exact-filter n = exact-enclosed s.OpenBrace s.CloseBrace exact-in_filter (λ rest. tt) n

-- no bracket comes
abbrev pub NoOpen : List Tok → Type 0
NoOpen rest = parse.begins_with s.Open rest ≡ false

round-begins : {A : Type 0} (F : ℕ → A → List Tok → Type 0) (n : ℕ) (v : A) (ts rest : List Tok) → Round F n v ts → parse.begins_with s.Open (ts ++ rest) ≡ true
round-begins F zero v ts rest h = absurd h
round-begins F (suc n) v ts rest h = rw h.is refl

exact-parens : (n : ℕ) → Exact (Parens n) (parens_at n) NoOpen
unfolding parens_at
exact-parens n =
    exact-less (exact-seen none_there
    (exact-maybe (parse.begins_with s.Open) (exact-empty n) (λ v ts rest h. round-begins (λ m. form.Nothing tt) n v ts rest h))) (λ rest d. (tt, d))

exact-called : (n : ℕ) → Exact (Called n) (called_at n) NoOpen
unfolding called_at
exact-called n = exact-seen the_name (exact-both exact-own (exact-parens n) (λ y ts rest g d. tt))

-- the name of a stream that is added
pub exact-add : (n : ℕ) → Exact (IsAdd n) (add_at n) Any
unfolding add_at
exact-add n = exact-after_word (codes "add") (exact-before (s.Semicolon ∷ []) (exact-called n) (λ rest. refl))

-- what is added has a token, and begins with its word
pub listed-adds : (n : ℕ) → Listed no_add (IsAdd n) Any
listed-adds n = record {
  some = λ v ts h. rw h.is (omega arith);
  begins = λ v ts rest h. rw h.is refl;
  follows = λ v ts rest h. tt;
}

exact-adds : (n : ℕ) → Exact (AreAdds n) (adds_at n) (λ rest. no_add rest ≡ true)
unfolding adds_at more_adds_at
exact-adds n =
    exact-seen made_adds (exact-both (exact-add n) (exact-less (exact-many no_add (exact-add n) (listed-adds n)) (λ rest d. (tt, d))) (λ y ts rest g d. tt))

-- a weight
pub exact-weight : Exact Weight weight_at Any
unfolding weight_at
exact-weight = exact-tested parse.is_value exact-number

weight-begins : (v : ℕ) (ts rest : List Tok) → Weight v ts → parse.begins_with s.Close (ts ++ rest) ≡ false
weight-begins v ts rest h = rw h.formed refl

exact-listed : (n : ℕ) → Exact (Round (λ m. form.Listing Weight) n) (listed_at n) Any
unfolding listed_at
exact-listed n = exact-round (λ m. exact-listing s.Close exact-weight (λ rest. tt) weight-begins) (λ rest. (refl, (tt, refl))) n

exact-weights : (n : ℕ) → Exact (Weights n) (weights_at n) NoOpen
unfolding weights_at
exact-weights n =
    exact-less (exact-maybe (parse.begins_with s.Open) (exact-listed n) (λ v ts rest h. round-begins (λ m. form.Listing Weight) n v ts rest h))
    (λ rest d. (tt, d))

exact-split : (n : ℕ) → Exact (IsSplit n) (split_at n) Any
unfolding split_at split_after
exact-split n =
    exact-after_word (codes "split")
    (exact-before (s.Semicolon ∷ []) (exact-headed (λ w. exact-choose (bytes_eq w (codes "duplicate")) (exact-seen copying (exact-parens n))
    (exact-choose (bytes_eq w (codes "roundrobin")) (exact-seen Turns (exact-weights n)) exact-never))) (λ rest. refl))

exact-join : (n : ℕ) → Exact (IsJoin n) (join_at n) Any
unfolding join_at
exact-join n = exact-after_word (codes "join") (exact-after_word (codes "roundrobin") (exact-before (s.Semicolon ∷ []) (exact-weights n) (λ rest. refl)))

exact-in_both : (n : ℕ) → Exact (InBoth n) (in_both_at n) Any
unfolding in_both_at
exact-in_both n =
    exact-seen made_both (exact-both (exact-split n) (exact-both (exact-adds n) (exact-join n) (λ y ts rest g d. rw g.is refl)) (λ y ts rest g d. tt))

exact-pipe : (n : ℕ) → Exact (Braces AreAdds n) (pipe_at n) Any
unfolding pipe_at
exact-pipe n = exact-enclosed s.OpenBrace s.CloseBrace exact-adds (λ rest. refl) n

exact-both_at : (n : ℕ) → Exact (Braces InBoth n) (both_at n) Any
unfolding both_at
exact-both_at n = exact-enclosed s.OpenBrace s.CloseBrace exact-in_both (λ rest. tt) n

exact-body : (n : ℕ) (w : List ℕ) → Exact (BodyAfter n w) (body_after n w) Any
unfolding body_after
exact-body n w =
    exact-choose (bytes_eq w (codes "filter")) (exact-seen AFilter (exact-filter n))
    (exact-choose (bytes_eq w (codes "pipeline")) (exact-seen APipeline (exact-pipe n))
    (exact-choose (bytes_eq w (codes "splitjoin")) (exact-both_at n) exact-never))

braces-begin : {A : Type 0} (F : ℕ → A → List Tok → Type 0) (n : ℕ) (v : A) (ts rest : List Tok) → Braces F n v ts
    → parse.begins_with s.Open (ts ++ rest) ≡ false
braces-begin F zero v ts rest h = absurd h
braces-begin F (suc n) v ts rest h = rw h.is refl

-- a body begins with a brace
body-begins : (n : ℕ) (w : List ℕ) (v : Body) (ts rest : List Tok) → BodyAfter n w v ts → NoOpen (ts ++ rest)
body-begins n w v ts rest h = filters (bytes_eq w (codes "filter")) h where
  joins : (b : Bool) → form.Choose b (Braces InBoth n) form.Never v ts → NoOpen (ts ++ rest)
  joins true g = braces-begin InBoth n v ts rest g
  joins false g = absurd g

  lines : (b : Bool) → form.Choose b (form.Seen APipeline (Braces AreAdds n)) (form.Choose (bytes_eq w (codes "splitjoin")) (Braces InBoth n) form.Never) v ts
      → NoOpen (ts ++ rest)
  lines true g = braces-begin AreAdds n g.value ts rest g.formed
  lines false g = joins (bytes_eq w (codes "splitjoin")) g

  filters : (b : Bool)
      → form.Choose b (form.Seen AFilter (Braces InFilter n))
      (form.Choose (bytes_eq w (codes "pipeline")) (form.Seen APipeline (Braces AreAdds n))
      (form.Choose (bytes_eq w (codes "splitjoin")) (Braces InBoth n) form.Never)) v ts
      → NoOpen (ts ++ rest)
  filters true g = braces-begin InFilter n g.value ts rest g.formed
  filters false g = lines (bytes_eq w (codes "pipeline")) g

exact-kind : (n : ℕ) (w : List ℕ) → Exact (KindAfter n w) (kind_after n w) Any
unfolding kind_after
exact-kind n w = exact-seen made_unit (exact-both (exact-called n) (exact-body n w) (λ y ts rest g d. body-begins n w y ts rest g))

-- a unit
pub exact-unit : Exact IsUnit unit_at Any
unfolding unit_at
exact-unit = exact-after_word (codes "int") (exact-after (s.Arrow ∷ []) (exact-after_word (codes "int") (exact-headed (exact-kind 128))))

-- a unit, whatever comes before it
pub exact-unit_from : (u : Unit {0}) → Exact (IsUnitAt u) (unit_from u) Any
exact-unit_from u = exact-unit
