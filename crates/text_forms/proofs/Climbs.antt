-- The steps by which code reads the expressions of a ladder.
use Rattle.std.proofs.Common.{◌≡◌, ℕ, zero, suc, ◌<◌, ◌≤◌, ◌-◌, List, length, Bool, true, false, cond, Option, Some, None, refl, sym, ap, ◌∙◌, arith}
use Rattle.std.specs.Prelude.{nat_lt, max}
use Rattle.river_base.proofs.Tests.{less-one}
use Rattle.text_tokens.specs.Tok.{Tok}
use Rattle.text_tokens.specs.declared.sign.Symbol.TheVariants as s
use Rattle.text_forms.proofs.Pairs.{pair_inj}
use Rattle.text_forms.specs.Deep.{IsDeeper}
use Rattle.text_forms.specs.Levels.{Level, Chain, Once, Prefix, Syntax, level_of, form_of}
use Rattle.text_forms.specs.Parse as parse
use Rattle.text_forms.specs.ReadLevels.{first, operator_at, sign_of_level, joined_read, grown, turn_read, chain_on, chain_turn, chained, chain_level, once_on, once_level}
use Rattle.text_forms.specs.ReadLevels.{prefix_on, prefix_level, closed, base_on, base, on_level, ladder, within}
use Rattle.text_forms.specs.Repeat.{ReadTurn, Stop, Fail, Next, after_turn, turns}
use Rattle.text_forms.specs.Tail.{tail}
use Rattle.text_forms.specs.declared.form.Form.TheVariants as form

module _ {T O P : Type 0} (S : Syntax T O P) where
  -- LEVELS

  -- at the foot of a ladder stands what is tightest
  pub ladder-base : (leaf : parse.Parse T) (i : ℕ → parse.Parse T) (room : ℕ) (ts : List Tok) → ladder S leaf i 0 room ts ≡ base S leaf i room ts
  unfolding ladder
  ladder-base leaf i room ts = refl

  by-form : (l : Level O P) (k : ℕ) (b : ℕ → parse.Parse T) (room : ℕ) (ts : List Tok)
      → (form_of l ≡ form.Chain → on_level S l k b room ts ≡ chain_level S k b room ts)
      × ((form_of l ≡ form.Once → on_level S l k b room ts ≡ once_level S k b room ts) ×
      (form_of l ≡ form.Prefix → on_level S l k b room ts ≡ prefix_level S k b room ts))
  by-form (Chain op) k b room ts = ((λ e. refl), ((λ e. cc), (λ e. cc)))
  by-form (Once op) k b room ts = ((λ e. cc), ((λ e. refl), (λ e. cc)))
  by-form (Prefix p) k b room ts = ((λ e. cc), ((λ e. cc), (λ e. refl)))

  -- a level of chains
  pub ladder-chain : (leaf : parse.Parse T) (i : ℕ → parse.Parse T) (rank k room : ℕ) (ts : List Tok) → rank ≡ suc k
      → form_of (level_of S.levels k) ≡ form.Chain
      → ladder S leaf i rank room ts ≡ chain_level S k (ladder S leaf i k) room ts
  unfolding ladder
  ladder-chain leaf i rank k room ts is e = rw is ((by-form (level_of S.levels k) k (ladder S leaf i k) room ts).0 e)

  -- a level with at most one operator
  pub ladder-once : (leaf : parse.Parse T) (i : ℕ → parse.Parse T) (rank k room : ℕ) (ts : List Tok) → rank ≡ suc k → form_of (level_of S.levels k) ≡ form.Once
      → ladder S leaf i rank room ts ≡ once_level S k (ladder S leaf i k) room ts
  unfolding ladder
  ladder-once leaf i rank k room ts is e = rw is ((by-form (level_of S.levels k) k (ladder S leaf i k) room ts).1.0 e)

  -- a level of signs
  pub ladder-prefix : (leaf : parse.Parse T) (i : ℕ → parse.Parse T) (rank k room : ℕ) (ts : List Tok) → rank ≡ suc k
      → form_of (level_of S.levels k) ≡ form.Prefix → ladder S leaf i rank room ts ≡ prefix_level S k (ladder S leaf i k) room ts
  unfolding ladder
  ladder-prefix leaf i rank k room ts is e = rw is ((by-form (level_of S.levels k) k (ladder S leaf i k) room ts).1.1 e)

  -- STEPS

  -- a chain is its first operand, and what is behind it
  pub chain-at : (k : ℕ) (b : ℕ → parse.Parse T) (room : ℕ) (ts : List Tok)
      → chain_level S k b room ts ≡ parse.then_parsed (b room ts) (λ t us. chained S k (b (room - 1)) room t us)
  unfolding chain_level
  chain-at k b room ts = refl

  -- a level with one operator is its operand, and what is behind it
  pub once-at : (k : ℕ) (b : ℕ → parse.Parse T) (room : ℕ) (ts : List Tok)
      → once_level S k b room ts ≡ parse.then_parsed (b room ts) (λ t us. once_on S (b (room - 1)) room t us (operator_at S k us))
  unfolding once_level
  once-at k b room ts = refl

  -- without room no sign is read
  pub prefix-none : (k : ℕ) (b : ℕ → parse.Parse T) (ts : List Tok) → prefix_level S k b 0 ts ≡ None
  unfolding prefix_level
  prefix-none k b ts = refl

  -- with room a sign is read, or the level below
  pub prefix-at : (k : ℕ) (b : ℕ → parse.Parse T) (room : ℕ) (ts : List Tok) → 0 < room
      → prefix_level S k b room ts ≡ prefix_on S (prefix_level S k b (room - 1)) (b room) ts (sign_of_level S k ts)
  unfolding prefix_level
  prefix-at k b zero ts h = absurd (omega arith)
  prefix-at k b (suc room) ts h = ap (λ (r : ℕ). prefix_on S (prefix_level S k b r) (b (suc room)) ts (sign_of_level S k ts)) (sym (less-one room))

  -- without room nothing is read
  pub base-none : (leaf : parse.Parse T) (i : ℕ → parse.Parse T) (ts : List Tok) → base S leaf i 0 ts ≡ None
  unfolding base
  base-none leaf i ts = refl

  -- with room it is an expression in brackets, a call or a leaf
  pub base-at : (leaf : parse.Parse T) (i : ℕ → parse.Parse T) (room : ℕ) (ts : List Tok) → 0 < room
      → base S leaf i room ts ≡ cond (parse.begins_with s.Open ts) (closed i room (tail ts)) (base_on S leaf i (room - 1) ts (first S.call ts))
  unfolding base
  base-at leaf i zero ts h = absurd (omega arith)
  base-at leaf i (suc room) ts h =
      ap (λ (r : ℕ). cond (parse.begins_with s.Open ts) (closed i (suc room) (tail ts)) (base_on S leaf i r ts (first S.call ts))) (sym (less-one room))

  -- where no bracket may be open any more none is read
  pub within-none : (leaf : ℕ → parse.Parse T) (room : ℕ) (ts : List Tok) → within S leaf 0 room ts ≡ None
  unfolding within
  within-none leaf room ts = refl

  -- where one more may be open, the expression in it is read by the whole ladder
  pub within-at : (leaf : ℕ → parse.Parse T) (n room : ℕ) (ts : List Tok) → 0 < n
      → within S leaf n room ts ≡ ladder S (leaf (n - 1)) (within S leaf (n - 1)) (length S.levels) room ts
  unfolding within
  within-at leaf zero room ts h = absurd (omega arith)
  within-at leaf (suc n) room ts h = ap (λ (r : ℕ). ladder S (leaf r) (within S leaf r) (length S.levels) room ts) (sym (less-one n))

  -- GROWTHS

  -- a left operand that is too deep is not grown
  pub grown-deep : (right : parse.Parse T) (room : ℕ) (o : O) (left : T) (ts : List Tok) → room ≤ S.depth left → grown S right room o left ts ≡ None
  grown-deep right room o left ts deep = by (nat_lt (S.depth left) room) refl where
    by : (b : Bool) → nat_lt (S.depth left) room ≡ b → cond b (joined_read S o left (right ts)) None ≡ None
    by true is = absurd (grind (arith, is, deep))
    by false is = refl

  -- where there is room the right operand is read, and joined to the left one
  pub grown-taken : (right : parse.Parse T) (room : ℕ) (o : O) (left : T) (ts : List Tok) → S.depth left < room
      → grown S right room o left ts ≡ joined_read S o left (right ts)
  grown-taken right room o left ts small = by (nat_lt (S.depth left) room) refl where
    by : (b : Bool) → nat_lt (S.depth left) room ≡ b → cond b (joined_read S o left (right ts)) None ≡ joined_read S o left (right ts)
    by true is = refl
    by false is = absurd (grind (arith, is, small))

  -- CHAINS

  -- where no operator comes a chain ends
  pub chained-stop : (k : ℕ) (right : parse.Parse T) (room : ℕ) (left : T) (ts : List Tok) → operator_at S k ts ≡ None
      → chained S k right room left ts ≡ Some (left, ts)
  unfolding chained turns chain_turn
  chained-stop k right room left ts e = ap (λ o. after_turn (turns (chain_turn S k right room) room) left ts (chain_on S right room left ts o)) e

  -- where the right operand is not read the chain fails
  pub chained-failed : (k : ℕ) (right : parse.Parse T) (room : ℕ) (left : T) (ts : List Tok) (o : O) → operator_at S k ts ≡ Some o
      → grown S right room o left (tail ts) ≡ None → chained S k right room left ts ≡ None
  unfolding chained turns chain_turn
  chained-failed k right room left ts o e none =
      ap (λ r. after_turn (turns (chain_turn S k right room) room) left ts (chain_on S right room left ts r)) e
      ∙ ap (λ r. after_turn (turns (chain_turn S k right room) room) left ts (turn_read r)) none

-- what falls with each turn is a bound on how many there are
module _ {A : Type 0} (step : A → List Tok → ReadTurn A) (m : A → ℕ)
    (falls : (x : A) (ts : List Tok) (y : A) (us : List Tok) → step x ts ≡ Next y us → m y < m x) where
  pub enough : (n k : ℕ) (x : A) (ts : List Tok) → m x < n → m x < k → turns step n x ts ≡ turns step k x ts
  unfolding turns
  enough zero k x ts a b = absurd (omega (arith, a))
  enough (suc n) zero x ts a b = absurd (omega (arith, b))
  enough (suc n) (suc k) x ts a b = by (λ y us c d. enough n k y us c d) (step x ts) refl where
    by : ((y : A) (us : List Tok) → m y < n → m y < k → turns step n y us ≡ turns step k y us) → (turn : ReadTurn A) → step x ts ≡ turn
        → after_turn (turns step n) x ts turn ≡ after_turn (turns step k) x ts turn
    by more Stop is = refl
    by more Fail is = refl
    by more (Next y us) is =
        let less : m y < m x = falls x ts y us is in
        more y us (omega (arith, less, a)) (omega (arith, less, b))

module _ {T O P : Type 0} (S : Syntax T O P) (deep : IsDeeper S) where
  -- what was grown
  pub grown-is : (right : parse.Parse T) (room : ℕ) (o : O) (left : T) (ts : List Tok) (t : T) (us : List Tok) → grown S right room o left ts ≡ Some (t, us)
      → (r : T) × (S.depth left < room) × (right ts ≡ Some (r, us)) × (t ≡ S.join o left r)
  grown-is right room o left ts t us e = by (nat_lt (S.depth left) room) refl (right ts) refl e where
    by : (b : Bool) → nat_lt (S.depth left) room ≡ b → (read : Option (T × List Tok)) → right ts ≡ read → cond b (joined_read S o left read) None ≡ Some (t, us)
        → (r : T) × (S.depth left < room) × (right ts ≡ Some (r, us)) × (t ≡ S.join o left r)
    by false is read same f = cc
    by true is None same f = cc
    by true is (Some q) same f =
        let pair = pair_inj f in
        (q.0, grind (arith, is), same ∙ ap (λ (vs : List Tok). Some (q.0, vs)) pair.1, sym pair.0)

  -- a turn of a chain passes over an operator, and grows the tree by it
  pub turn-is : (right : parse.Parse T) (room : ℕ) (k : ℕ) (left : T) (ts : List Tok) (t : T) (us : List Tok) → chain_turn S k right room left ts ≡ Next t us
      → (o : O) × (operator_at S k ts ≡ Some o) × (grown S right room o left (tail ts) ≡ Some (t, us))
  unfolding chain_turn
  turn-is right room k left ts t us e = by (operator_at S k ts) refl e where
    next : (o : O) (r : Option (T × List Tok)) → grown S right room o left (tail ts) ≡ r → turn_read r ≡ Next t us
        → grown S right room o left (tail ts) ≡ Some (t, us)
    next o None is f = cc
    next o (Some q) is f = is ∙ ap (λ (x : T). Some (x, q.1)) (first_same q f) ∙ ap (λ (vs : List Tok). Some (t, vs)) (second_same q f) where
      first_same : (p : T × List Tok) → Next p.0 p.1 ≡ Next t us → p.0 ≡ t
      first_same p h = cc

      second_same : (p : T × List Tok) → Next p.0 p.1 ≡ Next t us → p.1 ≡ us
      second_same p h = cc

    by : (r : Option O) → operator_at S k ts ≡ r → chain_on S right room left ts r ≡ Next t us
        → (o : O) × (operator_at S k ts ≡ Some o) × (grown S right room o left (tail ts) ≡ Some (t, us))
    by None is f = cc
    by (Some o) is f = (o, is, next o (grown S right room o left (tail ts)) refl f)

  -- each turn makes the tree deeper
  pub turn-deeper : (right : parse.Parse T) (room : ℕ) (k : ℕ) (left : T) (ts : List Tok) (t : T) (us : List Tok)
      → chain_turn S k right room left ts ≡ Next t us → room - S.depth t < room - S.depth left
  turn-deeper right room k left ts t us e =
      let n = turn-is right room k left ts t us e in
      let g = grown-is right room n.0 left (tail ts) t us n.2 in
      let size : S.depth t ≡ suc (max (S.depth left) (S.depth g.0)) = ap S.depth g.3 ∙ deep.join n.0 left g.0 in
      let small = g.1 in
      omega (arith, size, small)

  -- a chain goes on from the tree that a turn has grown
  pub chained-grown : (k : ℕ) (right : parse.Parse T) (room : ℕ) (left t : T) (ts us : List Tok) (o : O) → operator_at S k ts ≡ Some o
      → grown S right room o left (tail ts) ≡ Some (t, us) → chained S k right room t us ≡ chained S k right room left ts
  unfolding chained turns chain_turn
  chained-grown k right room left t ts us o e more =
      let g = grown-is right room o left (tail ts) t us more in
      let size : S.depth t ≡ suc (max (S.depth left) (S.depth g.0)) = ap S.depth g.3 ∙ deep.join o left g.0 in
      let small = g.1 in
      let step = chain_turn S k right room in
      sym (ap (λ r. after_turn (turns step room) left ts (chain_on S right room left ts r)) e
      ∙ ap (λ r. after_turn (turns step room) left ts (turn_read r)) more
      ∙ enough step (λ x. room - S.depth x) (λ x vs y ws f. turn-deeper right room k x vs y ws f) room (suc room) t us (omega (arith, size, small))
      (omega (arith, size, small)))

pub ruleset levels = (ladder-base, ladder-chain, ladder-once, ladder-prefix)

pub ruleset steps = (chain-at, once-at, prefix-none, prefix-at, base-none, base-at, within-none, within-at)

pub ruleset growths = (grown-deep, grown-taken)

pub ruleset chains = (chained-stop, chained-failed)
