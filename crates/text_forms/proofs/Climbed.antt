-- What the expressions of a ladder are, by the steps that code took.
use Rattle.std.proofs.Common.{◌≡◌, ℕ, ◌<◌, ◌-◌, List, [], ◌∷◌, length, true, false, cond, Option, Some, None, Result, Ok, Err, sym, ap, ◌∙◌}
use Rattle.text_tokens.specs.Tok.{Tok}
use Rattle.text_tokens.specs.declared.sign.Symbol.TheVariants as s
use Rattle.text_forms.proofs.Climbs.{ladder-base, once-at, prefix-none, prefix-at, base-none, base-at, within-none, within-at, grown-taken, chained-stop}
use Rattle.text_forms.specs.declared.fault.ParseFault.{ParseFault}
use Rattle.text_forms.specs.declared.fault.ParseFault.TheVariants.{Syntax as NoSyntax, NoMemory}
use Rattle.text_forms.specs.Gives.{Gives, Keeps, Makes}
use Rattle.text_forms.specs.Levels.{Syntax}
use Rattle.text_forms.specs.Parse as parse
use Rattle.text_forms.specs.ReadLevels.{first, operator_at, sign_of_level, joined_read, grown, chained, once_on, once_level, prefix_on, prefix_level, closed, base_on, base, ladder, within}
use Rattle.text_forms.specs.Tail.{tail}

-- what was made of what came is given
pub made-gives : {X A : Type 0} (view : X → A) (a : A) (r : Result X ParseFault) {rest : List Tok} {read : Option (A × List Tok)} → Makes view r (Some a)
    → read ≡ Some (a, rest) → Gives view r rest read
made-gives view a (Ok x) made is = cc
made-gives view a (Err NoSyntax) made is = absurd cc
made-gives view a (Err NoMemory) made is = tt

module _ {T O P : Type 0} (S : Syntax T O P) where
  -- the step at the foot
  pub ladder-zero : (leaf : parse.Parse T) (i : ℕ → parse.Parse T) (rank room : ℕ) (ts : List Tok) → rank ≡ 0
      → ladder S leaf i rank room ts ≡ base S leaf i room ts
  ladder-zero leaf i rank room ts is = ap (λ (r : ℕ). ladder S leaf i r room ts) is ∙ ladder-base S leaf i room ts

  -- an operator came, and its right operand
  pub once-some : (k : ℕ) (b : ℕ → parse.Parse T) (room : ℕ) (ts : List Tok) (t : T) (us : List Tok) (o : O) (vs : List Tok) → b room ts ≡ Some (t, us)
      → operator_at S k us ≡ Some o → vs ≡ tail us → once_level S k b room ts ≡ grown S (b (room - 1)) room o t vs
  once-some k b room ts t us o vs read found is =
      once-at S k b room ts
      ∙ ap (λ (r : Option (T × List Tok)). parse.then_parsed r (λ x ws. once_on S (b (room - 1)) room x ws (operator_at S k ws))) read
      ∙ ap (λ (q : Option O). once_on S (b (room - 1)) room t us q) found
      ∙ ap (λ (ws : List Tok). grown S (b (room - 1)) room o t ws) (sym is)

  -- no operator came
  pub once-none : (k : ℕ) (b : ℕ → parse.Parse T) (room : ℕ) (ts : List Tok) (t : T) (us vs : List Tok) → b room ts ≡ Some (t, us)
      → operator_at S k us ≡ None → vs ≡ us → once_level S k b room ts ≡ Some (t, vs)
  once-none k b room ts t us vs read found is =
      once-at S k b room ts
      ∙ ap (λ (r : Option (T × List Tok)). parse.then_parsed r (λ x ws. once_on S (b (room - 1)) room x ws (operator_at S k ws))) read
      ∙ ap (λ (q : Option O). once_on S (b (room - 1)) room t us q) found
      ∙ ap (λ (ws : List Tok). Some (t, ws)) (sym is)

  -- no further operator came
  pub chain-end : (k : ℕ) (right : parse.Parse T) (room : ℕ) (left : T) (us vs : List Tok) (all : Option (T × List Tok)) → chained S k right room left us ≡ all
      → operator_at S k us ≡ None → vs ≡ us → all ≡ Some (left, vs)
  chain-end k right room left us vs all same found is =
      sym same ∙ chained-stop S k right room left us found ∙ ap (λ (ws : List Tok). Some (left, ws)) (sym is)

  -- there was no room for a sign
  pub prefix-zero : (k : ℕ) (b : ℕ → parse.Parse T) (room : ℕ) (ts : List Tok) → room ≡ 0 → prefix_level S k b room ts ≡ None
  prefix-zero k b room ts is = ap (λ (r : ℕ). prefix_level S k b r ts) is ∙ prefix-none S k b ts

  -- no sign came
  pub prefix-below : (k : ℕ) (b : ℕ → parse.Parse T) (room : ℕ) (ts vs : List Tok) → 0 < room → sign_of_level S k ts ≡ None → vs ≡ ts
      → prefix_level S k b room ts ≡ b room vs
  prefix-below k b room ts vs h found is =
      prefix-at S k b room ts h
      ∙ ap (λ (q : Option P). prefix_on S (prefix_level S k b (room - 1)) (b room) ts q) found
      ∙ ap (λ (ws : List Tok). b room ws) (sym is)

  -- a sign came, and what it marks
  pub prefix-marked : (k : ℕ) (b : ℕ → parse.Parse T) (room : ℕ) (ts vs us : List Tok) (p : P) (t w : T) → 0 < room → sign_of_level S k ts ≡ Some p
      → vs ≡ tail ts
      → prefix_level S k b (room - 1) vs ≡ Some (t, us) → w ≡ S.mark p t → prefix_level S k b room ts ≡ Some (w, us)
  prefix-marked k b room ts vs us p t w h found is read mark =
      prefix-at S k b room ts h
      ∙ ap (λ (q : Option P). prefix_on S (prefix_level S k b (room - 1)) (b room) ts q) found
      ∙ ap (λ (ws : List Tok). parse.seen (S.mark p) (prefix_level S k b (room - 1)) ws) (sym is)
      ∙ ap (λ (r : Option (T × List Tok)). parse.then_parsed r (λ a xs. Some (S.mark p a, xs))) read
      ∙ ap (λ (x : T). Some (x, us)) (sym mark)

  -- there was no room for anything
  pub base-zero : (leaf : parse.Parse T) (i : ℕ → parse.Parse T) (room : ℕ) (ts : List Tok) → room ≡ 0 → base S leaf i room ts ≡ None
  base-zero leaf i room ts is = ap (λ (r : ℕ). base S leaf i r ts) is ∙ base-none S leaf i ts

  -- a bracket came
  pub base-open : (leaf : parse.Parse T) (i : ℕ → parse.Parse T) (room : ℕ) (ts us : List Tok) → 0 < room → parse.begins_with s.Open ts ≡ true → us ≡ tail ts
      → base S leaf i room ts ≡ closed i room us
  base-open leaf i room ts us h opens is =
      base-at S leaf i room ts h
      ∙ ap (λ b. cond b (closed i room (tail ts)) (base_on S leaf i (room - 1) ts (first S.call ts))) opens
      ∙ ap (λ (ws : List Tok). closed i room ws) (sym is)

  base-other : (leaf : parse.Parse T) (i : ℕ → parse.Parse T) (room : ℕ) (ts : List Tok) → 0 < room → parse.begins_with s.Open ts ≡ false
      → base S leaf i room ts ≡ base_on S leaf i (room - 1) ts (first S.call ts)
  base-other leaf i room ts h opens =
      base-at S leaf i room ts h ∙ ap (λ b. cond b (closed i room (tail ts)) (base_on S leaf i (room - 1) ts (first S.call ts))) opens

  -- a call came
  pub base-call : (leaf : parse.Parse T) (i : ℕ → parse.Parse T) (room : ℕ) (ts vs us : List Tok) (p : P) → 0 < room → parse.begins_with s.Open ts ≡ false
      → vs ≡ ts → first S.call vs ≡ Some p → us ≡ tail vs
      → base S leaf i room ts ≡ parse.seen (S.mark p) (parse.after (s.Open ∷ []) (closed i (room - 1))) us
  base-call leaf i room ts vs us p h opens same found is =
      ap (λ (ws : List Tok). base S leaf i room ws) (sym same)
      ∙ base-other leaf i room vs h (ap (λ (ws : List Tok). parse.begins_with s.Open ws) same ∙ opens)
      ∙ ap (λ (q : Option P). base_on S leaf i (room - 1) vs q) found
      ∙ ap (λ (ws : List Tok). parse.seen (S.mark p) (parse.after (s.Open ∷ []) (closed i (room - 1))) ws) (sym is)

  -- a leaf came
  pub base-leaf : (leaf : parse.Parse T) (i : ℕ → parse.Parse T) (room : ℕ) (ts vs us : List Tok) → 0 < room → parse.begins_with s.Open ts ≡ false → vs ≡ ts
      → first S.call vs ≡ None → us ≡ vs → base S leaf i room ts ≡ leaf us
  base-leaf leaf i room ts vs us h opens same found is =
      ap (λ (ws : List Tok). base S leaf i room ws) (sym same)
      ∙ base-other leaf i room vs h (ap (λ (ws : List Tok). parse.begins_with s.Open ws) same ∙ opens)
      ∙ ap (λ (q : Option P). base_on S leaf i (room - 1) vs q) found
      ∙ ap leaf (sym is)

  -- the right operand came, and was joined
  pub grown-joined : (right : parse.Parse T) (room : ℕ) (o : O) (left : T) (ts : List Tok) (r w : T) (us : List Tok) → S.depth left < room
      → right ts ≡ Some (r, us)
      → w ≡ S.join o left r → grown S right room o left ts ≡ Some (w, us)
  grown-joined right room o left ts r w us small read join =
      grown-taken S right room o left ts small
      ∙ ap (λ (q : Option (T × List Tok)). joined_read S o left q) read
      ∙ ap (λ (x : T). Some (x, us)) (sym join)

  -- no further bracket may be open
  pub closed-zero : (leaf : ℕ → parse.Parse T) (n room : ℕ) (ts : List Tok) → n ≡ 0 → closed (within S leaf n) room ts ≡ None
  closed-zero leaf n room ts is =
      ap (λ (m : ℕ). closed (within S leaf m) room ts) is
      ∙ ap (λ (r : Option (T × List Tok)). parse.then_parsed r (λ a ws. parse.then_rest (parse.symbols_at (s.Close ∷ []) ws) (λ vs. Some (a, vs))))
      (within-none S leaf room ts)

  -- an expression came; the bracket that closes it has to come next
  closed-read : (leaf : ℕ → parse.Parse T) (n h room : ℕ) (ts us : List Tok) (t : T) → 0 < n → h ≡ length S.levels
      → ladder S (leaf (n - 1)) (within S leaf (n - 1)) h room ts ≡ Some (t, us)
      → closed (within S leaf n) room ts ≡ parse.then_rest (parse.symbols_at (s.Close ∷ []) us) (λ xs. Some (t, xs))
  closed-read leaf n h room ts us t some is read =
      ap (λ (r : Option (T × List Tok)). parse.then_parsed r (λ a ws. parse.then_rest (parse.symbols_at (s.Close ∷ []) ws) (λ xs. Some (a, xs))))
      (within-at S leaf n room ts some ∙ ap (λ (k : ℕ). ladder S (leaf (n - 1)) (within S leaf (n - 1)) k room ts) (sym is) ∙ read)

  -- an expression came, and is kept where the bracket that closes it comes
  pub closed-gives : {X : Type 0} (view : X → T) (x : X) (r : Result X ParseFault) (leaf : ℕ → parse.Parse T) (n h room : ℕ) (ts us vs : List Tok) → 0 < n
      → h ≡ length S.levels
      → ladder S (leaf (n - 1)) (within S leaf (n - 1)) h room ts ≡ Some (view x, us) → Keeps x r vs (parse.symbols_at (s.Close ∷ []) us)
      → Gives view r vs (closed (within S leaf n) room ts)
  closed-gives view x (Ok y) leaf n h room ts us vs some is read kept =
      closed-read leaf n h room ts us (view x) some is read
      ∙ ap (λ (o : Option (List Tok)). parse.then_rest o (λ xs. Some (view x, xs))) kept.1
      ∙ ap (λ z. Some (view z, vs)) (sym kept.0)
  closed-gives view x (Err NoSyntax) leaf n h room ts us vs some is read kept =
      closed-read leaf n h room ts us (view x) some is read ∙ ap (λ (o : Option (List Tok)). parse.then_rest o (λ xs. Some (view x, xs))) kept
  closed-gives view x (Err NoMemory) leaf n h room ts us vs some is read kept = tt

  -- a bracket came behind the call, and what is in it
  pub called-all : (i : ℕ → parse.Parse T) (room : ℕ) (ts us vs : List Tok) (p : P) (t w : T) → parse.symbols_at (s.Open ∷ []) ts ≡ Some us
      → closed i room us ≡ Some (t, vs)
      → w ≡ S.mark p t → parse.seen (S.mark p) (parse.after (s.Open ∷ []) (closed i room)) ts ≡ Some (w, vs)
  called-all i room ts us vs p t w opens read mark =
      ap (λ (r : Option (List Tok)). parse.then_parsed (parse.then_rest r (closed i room)) (λ a xs. Some (S.mark p a, xs))) opens
      ∙ ap (λ (r : Option (T × List Tok)). parse.then_parsed r (λ a xs. Some (S.mark p a, xs))) read
      ∙ ap (λ (x : T). Some (x, vs)) (sym mark)
