-- The reading of the expressions of a ladder is exact, whatever its levels and its leaves are.
use Rattle.std.proofs.Common.{◌≡◌, ℕ, zero, suc, ◌<◌, ◌≤◌, ◌-◌, List, [], ◌∷◌, ◌++◌, length, Bool, true, false, Option, Some, None, refl, sym, ap, ◌∙◌}
use Rattle.std.proofs.Common.{subst, arith, append_assoc}
use Rattle.std.proofs.Math.Nat.{suc_inj}
use Rattle.river_base.proofs.Options.{none_some}
use Rattle.text_tokens.specs.Tok.{Tok, symbol}
use Rattle.text_tokens.specs.declared.sign.Symbol.TheVariants as s
use Rattle.text_forms.specs.Deep.{IsDeeper}
use Rattle.text_forms.specs.Forms as form
use Rattle.text_forms.specs.Levels.{Level, Chain, Once, Prefix, Syntax, level_of, form_of, operator, sign, Spells, IsTermWithin, IsWhole}
use Rattle.text_forms.specs.Levels as rule
use Rattle.text_forms.specs.Parse as parse
use Rattle.text_forms.specs.ReadLevels.{first, operator_at, sign_of_level, joined_read, grown, chain_turn, chained, chain_level, once_on, once_level, prefix_on, prefix_level}
use Rattle.text_forms.specs.ReadLevels.{closed, base_on, base, on_level, ladder, within, whole_at}
use Rattle.text_forms.specs.Repeat.{Next}
use Rattle.text_forms.specs.Tail.{tail}
use Rattle.text_forms.specs.declared.form.Form.{Form}
use Rattle.text_forms.specs.declared.form.Form.TheVariants as shape
use Rattle.text_forms.proofs.Climbs.{grown-taken, grown-is, turn-is, chained-stop, chained-grown}
use Rattle.text_forms.proofs.Exact.{Exact, Front, Any, exact-as, exact-less, exact-after, exact-before, exact-seen, then_read-some}
use Rattle.text_forms.proofs.Pairs.{pair_inj, choose}
use Rattle.text_forms.proofs.Repeat.{turns-keep}
use Rattle.text_forms.proofs.Symbols.{begins_with-is}

-- What a language has to keep, so that each token says by itself what it is: leaves, brackets, calls, signs and operators begin apart,
-- and `E` says what may follow a leaf.
pub record IsClear {T O P : Type 0} (S : Syntax T O P) (Leaf : ℕ → T → List Tok → Type 0) (leaf : ℕ → parse.Parse T) (E : List Tok → Type 0) : Type 0 where
  pub deep : IsDeeper S
  pub exact : (n : ℕ) → Exact (Leaf n) (leaf n) E
  pub shallow : (n : ℕ) (t : T) (ts : List Tok) → Leaf n t ts → S.depth t ≡ 1
  pub no_open : (n : ℕ) (t : T) (ts rest : List Tok) → Leaf n t ts → parse.begins_with s.Open (ts ++ rest) ≡ false
  pub no_call : (n : ℕ) (t : T) (ts rest : List Tok) → Leaf n t ts → first S.call (ts ++ rest) ≡ None
  pub no_sign : (n k : ℕ) (t : T) (ts rest : List Tok) → Leaf n t ts → sign_of_level S k (ts ++ rest) ≡ None
  pub open_call : S.call (symbol s.Open) ≡ None
  pub open_sign : (k : ℕ) → sign (level_of S.levels k) (symbol s.Open) ≡ None
  pub call_sign : (k : ℕ) (x : Tok) (p : P) → S.call x ≡ Some p → sign (level_of S.levels k) x ≡ None
  pub signs_apart : (j k : ℕ) (x : Tok) (p : P) → j < k → sign (level_of S.levels j) x ≡ Some p → sign (level_of S.levels k) x ≡ None
  pub operators_apart : (j k : ℕ) (x : Tok) (o : O) → j < k → operator (level_of S.levels k) x ≡ Some o → operator (level_of S.levels j) x ≡ None
  pub operator_follows : (k : ℕ) (x : Tok) (o : O) (rest : List Tok) → operator (level_of S.levels k) x ≡ Some o → E (x ∷ rest)
  pub close_operator : (k : ℕ) → operator (level_of S.levels k) (symbol s.Close) ≡ None
  pub close_follows : (rest : List Tok) → E (symbol s.Close ∷ rest)

-- the first token, by what it is
pub record Comes {A : Type 0} (f : Tok → Option A) (ts : List Tok) (a : A) : Type 0 where
  pub token : Tok
  pub is : ts ≡ token ∷ tail ts
  pub good : f token ≡ Some a

comes : {A : Type 0} (f : Tok → Option A) (ts : List Tok) (a : A) → first f ts ≡ Some a → Comes f ts a
comes f [] a e = cc
comes f (x ∷ ts) a e = record { token = x; is = refl; good = e }

-- a token that is no opening bracket
not-open : (x : Tok) (ts : List Tok) → (x ≡ symbol s.Open → ⊥) → parse.begins_with s.Open (x ∷ ts) ≡ false
not-open x ts other = by (parse.begins_with s.Open (x ∷ ts)) refl where
  head_same : x ∷ ts ≡ symbol s.Open ∷ ts → x ≡ symbol s.Open
  head_same e = cc

  by : (b : Bool) → parse.begins_with s.Open (x ∷ ts) ≡ b → b ≡ false
  by false e = refl
  by true e = absurd (other (head_same (begins_with-is s.Open (x ∷ ts) e)))

chain_no_sign : {O P : Type 0} (l : Level O P) (x : Tok) → form_of l ≡ shape.Chain → sign l x ≡ None
chain_no_sign (Chain op) x e = refl
chain_no_sign (Once op) x e = refl
chain_no_sign (Prefix p) x e = cc

once_no_sign : {O P : Type 0} (l : Level O P) (x : Tok) → form_of l ≡ shape.Once → sign l x ≡ None
once_no_sign (Chain op) x e = refl
once_no_sign (Once op) x e = refl
once_no_sign (Prefix p) x e = cc

not_once : (f : Form) → f ≡ shape.Chain → f ≡ shape.Once → ⊥
not_once f a b = cc

not_chain : (f : Form) → f ≡ shape.Prefix → f ≡ shape.Chain → ⊥
not_chain f a b = cc

not_single : (f : Form) → f ≡ shape.Prefix → f ≡ shape.Once → ⊥
not_single f a b = cc

module _ {T O P : Type 0} (S : Syntax T O P) (Leaf : ℕ → T → List Tok → Type 0) (leaf : ℕ → parse.Parse T) (E : List Tok → Type 0)
    (clear : IsClear S Leaf leaf E) where
  -- no operator of the first k levels comes, and nothing that may not follow a leaf
  abbrev pub Ends : ℕ → List Tok → Type 0
  Ends k rest = ((j : ℕ) → j < k → operator_at S j rest ≡ None) × E rest

  abbrev Spelled : (n k : ℕ) → T → List Tok → Type 0
  Spelled n k t ts = Spells S Leaf n k t ts

  abbrev Term : (n k room : ℕ) → T → List Tok → Type 0
  Term n k room t ts = IsTermWithin S Leaf n k room t ts

  -- the tokens of an expression behind one bracket more
  abbrev pub IsWithin : (n room : ℕ) → T → List Tok → Type 0
  IsWithin zero room t ts = ⊥
  IsWithin (suc n) room t ts = IsTermWithin S Leaf n (length S.levels) room t ts

  ends_less : (j k : ℕ) (rest : List Tok) → j ≤ k → Ends k rest → Ends j rest
  ends_less j k rest le e = ((λ i li. e.0 i (omega (arith, le, li))), e.1)

  operator-ends : (k : ℕ) (x : Tok) (o : O) (rest : List Tok) → operator (level_of S.levels k) x ≡ Some o → Ends k (x ∷ rest)
  operator-ends k x o rest is = ((λ j lt. clear.operators_apart j k x o lt is), clear.operator_follows k x o rest is)

  close-ends : (rest : List Tok) → Ends (length S.levels) (symbol s.Close ∷ rest)
  close-ends rest = ((λ j lt. clear.close_operator j), clear.close_follows rest)

  -- DEPTHS

  join-fits : (o : O) (a b : T) (room : ℕ) → S.depth a < room → S.depth b ≤ room - 1 → S.depth (S.join o a b) ≤ room
  join-fits o a b room l r = let size = clear.deep.join o a b in omega (arith, size, l, r)

  join-left : (o : O) (a b : T) (room : ℕ) → S.depth (S.join o a b) ≤ room → S.depth a < room
  join-left o a b room d = let size = clear.deep.join o a b in omega (arith, size, d)

  join-right : (o : O) (a b : T) (room : ℕ) → S.depth (S.join o a b) ≤ room → S.depth b ≤ room - 1
  join-right o a b room d = let size = clear.deep.join o a b in omega (arith, size, d)

  mark-fits : (p : P) (t : T) (room : ℕ) → S.depth t ≤ room → S.depth (S.mark p t) ≤ suc room
  mark-fits p t room d = let size = clear.deep.mark p t in omega (arith, size, d)

  mark-inner : (p : P) (t : T) (room : ℕ) → S.depth (S.mark p t) ≤ suc room → S.depth t ≤ room
  mark-inner p t room d = let size = clear.deep.mark p t in omega (arith, size, d)

  some-depth : (n k : ℕ) (t : T) (ts : List Tok) → Spelled n k t ts → 0 < S.depth t
  some-depth n k t ts (rule.leaf m u us h) = let size = clear.shallow m u us h in omega (arith, size)
  some-depth n k t ts (rule.bracket m u us h) = some-depth m (length S.levels) u us h
  some-depth n k t ts (rule.call m x p u us c h) = let size = clear.deep.mark p u in omega (arith, size)
  some-depth n k t ts (rule.tighter m j u us h) = some-depth m j u us h
  some-depth n k t ts (rule.chain m j x o a b us vs f c g h) = let size = clear.deep.join o a b in omega (arith, size)
  some-depth n k t ts (rule.once m j x o a b us vs f c g h) = let size = clear.deep.join o a b in omega (arith, size)
  some-depth n k t ts (rule.prefix m j x p u us c h) = let size = clear.deep.mark p u in omega (arith, size)

  no-room : (n k : ℕ) (t : T) (ts : List Tok) → Spelled n k t ts → S.depth t ≤ 0 → ⊥
  no-room n k t ts h d = let some = some-depth n k t ts h in omega (arith, some, d)

  -- BRACKETS, CALLS AND LEAVES

  bracket-term : (n room : ℕ) (t : T) (ts : List Tok) → form.Before (IsWithin n room) (s.Close ∷ []) t ts → Term n 0 room t (symbol s.Open ∷ ts)
  bracket-term zero room t ts h = absurd h.formed
  bracket-term (suc n) room t ts h =
      (subst (λ (us : List Tok). Spelled (suc n) 0 t (symbol s.Open ∷ us)) (sym h.is) (rule.bracket n t h.front h.formed.0), h.formed.1)

  call-term : (n room : ℕ) (x : Tok) (p : P) (t : T) (ts : List Tok) → S.call x ≡ Some p
      → form.After (s.Open ∷ []) (form.Before (IsWithin n room) (s.Close ∷ [])) t ts → Term n 0 (suc room) (S.mark p t) (x ∷ ts)
  call-term zero room x p t ts c h = absurd h.formed.formed
  call-term (suc n) room x p t ts c h =
      let tokens : ts ≡ symbol s.Open ∷ (h.formed.front ++ symbol s.Close ∷ []) = h.is ∙ ap (λ (us : List Tok). symbol s.Open ∷ us) h.formed.is in (
        subst (λ (us : List Tok). Spelled (suc n) 0 (S.mark p t) (x ∷ us)) (sym tokens) (rule.call n x p t h.formed.front c h.formed.formed.0),
        mark-fits p t room h.formed.formed.1,
      )

  module _ (n : ℕ) (i : ℕ → parse.Parse T) (inner : (room : ℕ) → Exact (IsWithin n room) (i room) (Ends (length S.levels))) where
    exact-closed : (room : ℕ) → Exact (form.Before (IsWithin n room) (s.Close ∷ [])) (closed i room) Any
    exact-closed room = exact-before (s.Close ∷ []) (inner room) close-ends

    called : (room : ℕ) (ts : List Tok) (t : T) (rest : List Tok) (p : P) → first S.call ts ≡ Some p
        → parse.seen (S.mark p) (parse.after (s.Open ∷ []) (closed i room)) (tail ts) ≡ Some (t, rest) → Front (Term n 0 (suc room)) t ts rest
    called room ts t rest p is e =
        let c = comes S.call ts p is in
        let f = (exact-seen (S.mark p) (exact-after (s.Open ∷ []) (exact-closed room))).sound (tail ts) t rest e in
        record {
          front = c.token ∷ f.front;
          is = c.is ∙ ap (λ (us : List Tok). c.token ∷ us) f.is;
          formed =
              subst (λ (u : T). Term n 0 (suc room) u (c.token ∷ f.front)) (sym f.formed.is)
              (call-term n room c.token p f.formed.value f.front c.good f.formed.formed);
        }

    leaf-or-call : (room : ℕ) (ts : List Tok) (t : T) (rest : List Tok) (o : Option P) → first S.call ts ≡ o → base_on S (leaf n) i room ts o ≡ Some (t, rest)
        → Front (Term n 0 (suc room)) t ts rest
    leaf-or-call room ts t rest None is e =
        let f = (clear.exact n).sound ts t rest e in
        let size = clear.shallow n t f.front f.formed in
        record { front = f.front; is = f.is; formed = (rule.leaf n t f.front f.formed, omega (arith, size)) }
    leaf-or-call room ts t rest (Some p) is e = called room ts t rest p is e

    base-sound : (room : ℕ) (ts : List Tok) (t : T) (rest : List Tok) → base S (leaf n) i room ts ≡ Some (t, rest) → Front (Term n 0 room) t ts rest
    unfolding base
    base-sound zero ts t rest e = cc
    base-sound (suc room) ts t rest e =
        choose (parse.begins_with s.Open ts) (closed i (suc room) (tail ts)) (base_on S (leaf n) i room ts (first S.call ts)) (t, rest) e
        (λ b r.
        let f = (exact-closed (suc room)).sound (tail ts) t rest r in
        record {
          front = symbol s.Open ∷ f.front;
          is = begins_with-is s.Open ts b ∙ ap (λ (us : List Tok). symbol s.Open ∷ us) f.is;
          formed = bracket-term n (suc room) t f.front f.formed;
        })
        (λ _ r. leaf-or-call room ts t rest (first S.call ts) refl r)

  closed-complete : (n room : ℕ) (i : ℕ → parse.Parse T) → ((room : ℕ) → Exact (IsWithin n room) (i room) (Ends (length S.levels))) → (t : T) (ts : List Tok)
      → IsWithin n room t ts → (rest : List Tok) → closed i room ((ts ++ symbol s.Close ∷ []) ++ rest) ≡ Some (t, rest)
  closed-complete n room i inner t ts h rest =
      (exact-closed n i inner room).complete t (ts ++ symbol s.Close ∷ []) rest (record { front = ts; is = refl; formed = h }) tt

  base-complete : (n k room : ℕ) (t : T) (ts : List Tok) (i : ℕ → parse.Parse T) → ((room : ℕ) → Exact (IsWithin n room) (i room) (Ends (length S.levels)))
      → Spelled n k t ts → k ≡ 0 → S.depth t ≤ room → (rest : List Tok) → E rest → base S (leaf n) i room (ts ++ rest) ≡ Some (t, rest)
  unfolding base
  base-complete n k zero t ts i inner h at d rest e = absurd (no-room n k t ts h d)
  base-complete n k (suc room) t ts i inner (rule.leaf m u us h) at d rest e =
      rw (clear.no_open m u us rest h, clear.no_call m u us rest h) ((clear.exact m).complete u us rest h e)
  base-complete n k (suc room) t ts i inner (rule.bracket m u us g) at d rest e = closed-complete (suc m) (suc room) i inner u us (g, d) rest
  base-complete n k (suc room) t ts i inner (rule.call m x p u us c g) at d rest e =
      let read : closed i room ((us ++ symbol s.Close ∷ []) ++ rest) ≡ Some (u, rest) =
      closed-complete (suc m) room i inner u us (g, mark-inner p u room d) rest in
      let apart : parse.begins_with s.Open (x ∷ symbol s.Open ∷ ((us ++ symbol s.Close ∷ []) ++ rest)) ≡ false =
      not-open x (symbol s.Open ∷ ((us ++ symbol s.Close ∷ []) ++ rest)) (λ same. none_some _ _ clear.open_call (subst (λ (y : Tok). S.call y ≡ Some p) same c)) in
      rw (apart, c, read) refl
  base-complete n k (suc room) t ts i inner (rule.tighter m j u us g) at d rest e = absurd (omega (arith, at))
  base-complete n k (suc room) t ts i inner (rule.chain m j x o a b us vs f c g h) at d rest e = absurd (omega (arith, at))
  base-complete n k (suc room) t ts i inner (rule.once m j x o a b us vs f c g h) at d rest e = absurd (omega (arith, at))
  base-complete n k (suc room) t ts i inner (rule.prefix m j x p u us c h) at d rest e = absurd (omega (arith, at))

  exact-base : (n room : ℕ) (i : ℕ → parse.Parse T) → ((room : ℕ) → Exact (IsWithin n room) (i room) (Ends (length S.levels)))
      → Exact (Term n 0 room) (base S (leaf n) i room) E
  exact-base n room i inner = record {
    sound = λ ts v rest e. base-sound n i inner room ts v rest e;
    complete = λ v ts rest h e. base-complete n 0 room v ts i inner h.0 refl h.1 rest e;
  }

  -- what is read with an operator on a level above, for what the tokens so far stand for
  grows : (n k : ℕ) (below : ℕ → parse.Parse T) → ((room : ℕ) → Exact (Term n k room) (below room) (Ends k))
      → (room : ℕ) (ts : List Tok) (o : O) (left : T) (t : T) (us rest : List Tok) → operator_at S k us ≡ Some o
      → grown S (below (room - 1)) room o left (tail us) ≡ Some (t, rest)
      → (front : List Tok) → ts ≡ front ++ us
      → ((x : Tok) (r : T) (more : List Tok) → operator (level_of S.levels k) x ≡ Some o → Spelled n k r more
      → Spelled n (suc k) (S.join o left r) (front ++ x ∷ more))
      → Front (Term n (suc k) room) t ts rest
  grows n k below x room ts o left t us rest op more front is make =
      let g = grown-is S clear.deep (below (room - 1)) room o left (tail us) t rest more in
      let f = (x (room - 1)).sound (tail us) g.0 rest g.2 in
      let c = comes (operator (level_of S.levels k)) us o op in
      let tokens : us ≡ (c.token ∷ f.front) ++ rest = c.is ∙ ap (λ (ws : List Tok). c.token ∷ ws) f.is in
      record {
        front = front ++ c.token ∷ f.front;
        is = is ∙ ap (λ (ws : List Tok). front ++ ws) tokens ∙ sym (append_assoc front (c.token ∷ f.front) rest);
        formed =
            subst (λ (u : T). Term n (suc k) room u (front ++ c.token ∷ f.front)) (sym g.3)
            (make c.token g.0 f.front c.good f.formed.0, join-fits o left g.0 room g.1 f.formed.1);
      }

  -- what was read so far and what is read behind an operator
  grown-there : (k : ℕ) (right : parse.Parse T) (room : ℕ) (o : O) (a b : T) (vs rest : List Tok) → S.depth a < room → right (vs ++ rest) ≡ Some (b, rest)
      → grown S right room o a (vs ++ rest) ≡ Some (S.join o a b, rest)
  grown-there k right room o a b vs rest small read = grown-taken S right room o a (vs ++ rest) small ∙ ap (joined_read S o a) read

  -- CHAINS

  keeps : (n k : ℕ) (many : form_of (level_of S.levels k) ≡ shape.Chain) (below : ℕ → parse.Parse T)
      → ((room : ℕ) → Exact (Term n k room) (below room) (Ends k))
      → (room : ℕ) (ts : List Tok) (left : T) (us : List Tok) (y : T) (vs : List Tok)
      → Front (Term n (suc k) room) left ts us → chain_turn S k (below (room - 1)) room left us ≡ Next y vs → Front (Term n (suc k) room) y ts vs
  keeps n k many below x room ts left us y vs so e =
      let t = turn-is S clear.deep (below (room - 1)) room k left us y vs e in
      grows n k below x room ts t.0 left y us vs t.1 t.2 so.front so.is (λ z r more good g. rule.chain n k z t.0 left r so.front more many good so.formed.0 g)

  chain-complete : (k n m room : ℕ) (t : T) (ts : List Tok) (below : ℕ → parse.Parse T) (many : form_of (level_of S.levels k) ≡ shape.Chain)
      → ((room : ℕ) → Exact (Term n k room) (below room) (Ends k)) → Spelled n m t ts → m ≡ suc k → S.depth t ≤ room → (rest : List Tok) → Ends k rest
      → chain_level S k below room (ts ++ rest) ≡ chained S k (below (room - 1)) room t rest
  unfolding chain_level
  chain-complete k n m room t ts below many x (rule.leaf p u us h) at d rest e = absurd (omega (arith, at))
  chain-complete k n m room t ts below many x (rule.bracket p u us h) at d rest e = absurd (omega (arith, at))
  chain-complete k n m room t ts below many x (rule.call p y q u us c h) at d rest e = absurd (omega (arith, at))
  chain-complete k n m room t ts below many x (rule.tighter p j u us g) at d rest e =
      let here : Spelled p k u us = subst (λ (r : ℕ). Spelled p r u us) (suc_inj at) g in
      rw ((x room).complete u us rest (here, d) e) refl
  chain-complete k n m room t ts below many x (rule.chain p j y o a b us vs f c g h) at d rest e =
      let same = suc_inj at in
      let right : Spelled p k b vs = subst (λ (q : ℕ). Spelled p q b vs) same h in
      let good : operator (level_of S.levels k) y ≡ Some o = subst (λ (q : ℕ). operator (level_of S.levels q) y ≡ Some o) same c in
      let read : below (room - 1) (vs ++ rest) ≡ Some (b, rest) = (x (room - 1)).complete b vs rest (right, join-right o a b room d) e in
      let small = join-left o a b room d in
      ap (λ (ws : List Tok). chain_level S k below room ws) (append_assoc us (y ∷ vs) rest)
      ∙ chain-complete k p (suc j) room a us below many x g at (omega (arith, small)) (y ∷ (vs ++ rest)) (operator-ends k y o (vs ++ rest) good)
      ∙ sym (chained-grown S clear.deep k (below (room - 1)) room a (S.join o a b) (y ∷ (vs ++ rest)) rest o good
      (grown-there k (below (room - 1)) room o a b vs rest small read))
  chain-complete k n m room t ts below many x (rule.once p j y o a b us vs f c g h) at d rest e =
      absurd (not_once (form_of (level_of S.levels k)) many (subst (λ (q : ℕ). form_of (level_of S.levels q) ≡ shape.Once) (suc_inj at) f))
  chain-complete k n m room t ts below many x (rule.prefix p j y q u us c h) at d rest e =
      absurd (none_some _ _ (chain_no_sign (level_of S.levels k) y many) (subst (λ (r : ℕ). sign (level_of S.levels r) y ≡ Some q) (suc_inj at) c))

  exact-chain : (n k : ℕ) (below : ℕ → parse.Parse T) → form_of (level_of S.levels k) ≡ shape.Chain → ((room : ℕ) → Exact (Term n k room) (below room) (Ends k))
      → (room : ℕ) → Exact (Term n (suc k) room) (chain_level S k below room) (Ends (suc k))
  unfolding chain_level chained
  exact-chain n k below many x room = record { sound = sound; complete = complete } where
    sound : (ts : List Tok) (v : T) (rest : List Tok) → chain_level S k below room ts ≡ Some (v, rest) → Front (Term n (suc k) room) v ts rest
    sound ts v rest e =
        let (q, is_q, loop) = then_read-some (below room ts) _ (v, rest) e in
        let f = (x room).sound ts q.0 q.1 is_q in
        let begun : Front (Term n (suc k) room) q.0 ts q.1 =
        record { front = f.front; is = f.is; formed = (rule.tighter n k q.0 f.front f.formed.0, f.formed.1) } in
        (turns-keep (chain_turn S k (below (room - 1)) room) (λ u us. Front (Term n (suc k) room) u ts us) (keeps n k many below x room ts)
        (suc room) q.0 q.1 v rest begun loop).0

    complete : (v : T) (ts rest : List Tok) → Term n (suc k) room v ts → Ends (suc k) rest → chain_level S k below room (ts ++ rest) ≡ Some (v, rest)
    complete v ts rest h e =
        chain-complete k n (suc k) room v ts below many x h.0 refl h.1 rest (ends_less k (suc k) rest (omega arith) e)
        ∙ chained-stop S k (below (room - 1)) room v rest (e.0 k (omega arith))

  -- ONE OPERATOR AT MOST

  once-sound : (n k : ℕ) (below : ℕ → parse.Parse T) (single : form_of (level_of S.levels k) ≡ shape.Once)
      → ((room : ℕ) → Exact (Term n k room) (below room) (Ends k)) → (room : ℕ) (ts : List Tok) (left : T) (us : List Tok) (v : T) (rest : List Tok)
      → Front (Term n k room) left ts us → (r : Option O) → operator_at S k us ≡ r
      → once_on S (below (room - 1)) room left us r ≡ Some (v, rest) → Front (Term n (suc k) room) v ts rest
  once-sound n k below single x room ts left us v rest f None is e =
      let same = pair_inj e in
      record {
        front = f.front;
        is = f.is
            ∙ ap (λ (ws : List Tok). f.front ++ ws) same.1;
        formed =
            subst (λ (u : T). Term n (suc k) room u f.front) same.0 (rule.tighter n k left f.front f.formed.0, f.formed.1);
      }
  once-sound n k below single x room ts left us v rest f (Some o) is e =
      grows n k below x room ts o left v us rest is e f.front f.is (λ z r more good g. rule.once n k z o left r f.front more single good f.formed.0 g)

  once-complete : (k n m room : ℕ) (t : T) (ts : List Tok) (below : ℕ → parse.Parse T) (single : form_of (level_of S.levels k) ≡ shape.Once)
      → ((room : ℕ) → Exact (Term n k room) (below room) (Ends k)) → Spelled n m t ts → m ≡ suc k → S.depth t ≤ room → (rest : List Tok) → Ends (suc k) rest
      → once_level S k below room (ts ++ rest) ≡ Some (t, rest)
  unfolding once_level
  once-complete k n m room t ts below single x (rule.leaf p u us h) at d rest e = absurd (omega (arith, at))
  once-complete k n m room t ts below single x (rule.bracket p u us h) at d rest e = absurd (omega (arith, at))
  once-complete k n m room t ts below single x (rule.call p y q u us c h) at d rest e = absurd (omega (arith, at))
  once-complete k n m room t ts below single x (rule.tighter p j u us g) at d rest e =
      let here : Spelled p k u us = subst (λ (r : ℕ). Spelled p r u us) (suc_inj at) g in
      rw ((x room).complete u us rest (here, d) (ends_less k (suc k) rest (omega arith) e), e.0 k (omega arith)) refl
  once-complete k n m room t ts below single x (rule.chain p j y o a b us vs f c g h) at d rest e =
      absurd (not_once (form_of (level_of S.levels k)) (subst (λ (q : ℕ). form_of (level_of S.levels q) ≡ shape.Chain) (suc_inj at) f) single)
  once-complete k n m room t ts below single x (rule.once p j y o a b us vs f c g h) at d rest e =
      let same = suc_inj at in
      let here : Spelled p k a us = subst (λ (q : ℕ). Spelled p q a us) same g in
      let right : Spelled p k b vs = subst (λ (q : ℕ). Spelled p q b vs) same h in
      let good : operator (level_of S.levels k) y ≡ Some o = subst (λ (q : ℕ). operator (level_of S.levels q) y ≡ Some o) same c in
      let small = join-left o a b room d in
      let left : below room (us ++ (y ∷ (vs ++ rest))) ≡ Some (a, y ∷ (vs ++ rest)) =
      (x room).complete a us (y ∷ (vs ++ rest)) (here, omega (arith, small)) (operator-ends k y o (vs ++ rest) good) in
      let read : below (room - 1) (vs ++ rest) ≡ Some (b, rest) =
      (x (room - 1)).complete b vs rest (right, join-right o a b room d) (ends_less k (suc k) rest (omega arith) e) in
      ap (λ (ws : List Tok). once_level S k below room ws) (append_assoc us (y ∷ vs) rest)
      ∙ rw (left, good) (grown-there k (below (room - 1)) room o a b vs rest small read)
  once-complete k n m room t ts below single x (rule.prefix p j y q u us c h) at d rest e =
      absurd (none_some _ _ (once_no_sign (level_of S.levels k) y single) (subst (λ (r : ℕ). sign (level_of S.levels r) y ≡ Some q) (suc_inj at) c))

  exact-once : (n k : ℕ) (below : ℕ → parse.Parse T) → form_of (level_of S.levels k) ≡ shape.Once → ((room : ℕ) → Exact (Term n k room) (below room) (Ends k))
      → (room : ℕ) → Exact (Term n (suc k) room) (once_level S k below room) (Ends (suc k))
  unfolding once_level
  exact-once n k below single x room = record {
    sound = λ ts v rest e.
        let r = then_read-some (below room ts) _ (v, rest) e in
        once-sound n k below single x room ts r.0.0 r.0.1 v rest ((x room).sound ts r.0.0 r.0.1 r.1) (operator_at S k r.0.1) refl r.2;
    complete = λ v ts rest h e. once-complete k n (suc k) room v ts below single x h.0 refl h.1 rest e;
  }

  -- SIGNS

  -- what is on a level below begins with no sign of this level
  begins_other : (k n m : ℕ) (t : T) (ts : List Tok) → Spelled n m t ts → m ≤ k → (rest : List Tok) → sign_of_level S k (ts ++ rest) ≡ None
  begins_other k n m t ts (rule.leaf p u us h) le rest = clear.no_sign p k u us rest h
  begins_other k n m t ts (rule.bracket p u us h) le rest = clear.open_sign k
  begins_other k n m t ts (rule.call p y q u us c h) le rest = clear.call_sign k y q c
  begins_other k n m t ts (rule.tighter p j u us g) le rest = begins_other k p j u us g (omega (arith, le)) rest
  begins_other k n m t ts (rule.chain p j y o a b us vs f c g h) le rest =
      ap (sign_of_level S k) (append_assoc us (y ∷ vs) rest) ∙ begins_other k p (suc j) a us g le (y ∷ (vs ++ rest))
  begins_other k n m t ts (rule.once p j y o a b us vs f c g h) le rest =
      ap (sign_of_level S k) (append_assoc us (y ∷ vs) rest) ∙ begins_other k p j a us g (omega (arith, le)) (y ∷ (vs ++ rest))
  begins_other k n m t ts (rule.prefix p j y q u us c h) le rest = clear.signs_apart j k y q (omega (arith, le)) c

  prefix-sound : (n k : ℕ) (below : ℕ → parse.Parse T) → ((room : ℕ) → Exact (Term n k room) (below room) (Ends k))
      → (room : ℕ) (ts : List Tok) (v : T) (rest : List Tok) → prefix_level S k below room ts ≡ Some (v, rest) → Front (Term n (suc k) room) v ts rest
  unfolding prefix_level
  prefix-sound n k below x zero ts v rest e = cc
  prefix-sound n k below x (suc room) ts v rest e = by (sign_of_level S k ts) refl (λ us u vs g. prefix-sound n k below x room us u vs g) e where
    by : (r : Option P) → sign_of_level S k ts ≡ r
        → ((us : List Tok) (u : T) (vs : List Tok) → prefix_level S k below room us ≡ Some (u, vs) → Front (Term n (suc k) room) u us vs)
        → prefix_on S (prefix_level S k below room) (below (suc room)) ts r ≡ Some (v, rest) → Front (Term n (suc k) (suc room)) v ts rest
    by None is more f =
        let y = (x (suc room)).sound ts v rest f in
        record { front = y.front; is = y.is; formed = (rule.tighter n k v y.front y.formed.0, y.formed.1) }
    by (Some p) is more f =
        let (q, is_q, end) = then_read-some (prefix_level S k below room (tail ts)) _ (v, rest) f in
        let same = pair_inj end in
        let y = more (tail ts) q.0 q.1 is_q in
        let c = comes (sign (level_of S.levels k)) ts p is in
        record {
          front = c.token ∷ y.front;
          is = c.is ∙ ap (λ (us : List Tok). c.token ∷ us) (y.is ∙ ap (λ (us : List Tok). y.front ++ us) same.1);
          formed =
              subst (λ (u : T). Term n (suc k) (suc room) u (c.token ∷ y.front)) same.0
              (rule.prefix n k c.token p q.0 y.front c.good y.formed.0, mark-fits p q.0 room y.formed.1);
        }

  prefix-complete : (k n m room : ℕ) (t : T) (ts : List Tok) (below : ℕ → parse.Parse T) (signs : form_of (level_of S.levels k) ≡ shape.Prefix)
      → ((room : ℕ) → Exact (Term n k room) (below room) (Ends k)) → Spelled n m t ts → m ≡ suc k → S.depth t ≤ room → (rest : List Tok) → Ends (suc k) rest
      → prefix_level S k below room (ts ++ rest) ≡ Some (t, rest)
  unfolding prefix_level
  prefix-complete k n m zero t ts below signs x h at d rest e = absurd (no-room n m t ts h d)
  prefix-complete k n m (suc room) t ts below signs x (rule.leaf p u us h) at d rest e = absurd (omega (arith, at))
  prefix-complete k n m (suc room) t ts below signs x (rule.bracket p u us h) at d rest e = absurd (omega (arith, at))
  prefix-complete k n m (suc room) t ts below signs x (rule.call p y q u us c h) at d rest e = absurd (omega (arith, at))
  prefix-complete k n m (suc room) t ts below signs x (rule.tighter p j u us g) at d rest e =
      let here : Spelled p k u us = subst (λ (r : ℕ). Spelled p r u us) (suc_inj at) g in
      rw (begins_other k p k u us here (omega arith) rest) ((x (suc room)).complete u us rest (here, d) (ends_less k (suc k) rest (omega arith) e))
  prefix-complete k n m (suc room) t ts below signs x (rule.chain p j y o a b us vs f c g h) at d rest e =
      absurd (not_chain (form_of (level_of S.levels k)) signs (subst (λ (q : ℕ). form_of (level_of S.levels q) ≡ shape.Chain) (suc_inj at) f))
  prefix-complete k n m (suc room) t ts below signs x (rule.once p j y o a b us vs f c g h) at d rest e =
      absurd (not_single (form_of (level_of S.levels k)) signs (subst (λ (q : ℕ). form_of (level_of S.levels q) ≡ shape.Once) (suc_inj at) f))
  prefix-complete k n m (suc room) t ts below signs x (rule.prefix p j y q u us c h) at d rest e =
      let good : sign (level_of S.levels k) y ≡ Some q = subst (λ (r : ℕ). sign (level_of S.levels r) y ≡ Some q) (suc_inj at) c in
      let read : prefix_level S k below room (us ++ rest) ≡ Some (u, rest) =
      prefix-complete k p (suc j) room u us below signs x h at (mark-inner q u room d) rest e in
      rw (good, read) refl

  exact-prefix : (n k : ℕ) (below : ℕ → parse.Parse T) → form_of (level_of S.levels k) ≡ shape.Prefix
      → ((room : ℕ) → Exact (Term n k room) (below room) (Ends k))
      → (room : ℕ) → Exact (Term n (suc k) room) (prefix_level S k below room) (Ends (suc k))
  exact-prefix n k below signs x room = record {
    sound = λ ts v rest e. prefix-sound n k below x room ts v rest e;
    complete = λ v ts rest h e. prefix-complete k n (suc k) room v ts below signs x h.0 refl h.1 rest e;
  }

  -- ALL LEVELS

  exact-level : (n k : ℕ) (below : ℕ → parse.Parse T) → ((room : ℕ) → Exact (Term n k room) (below room) (Ends k)) → (room : ℕ) (l : Level O P)
      → level_of S.levels k ≡ l → Exact (Term n (suc k) room) (on_level S l k below room) (Ends (suc k))
  exact-level n k below x room (Chain op) is = exact-chain n k below (ap form_of is) x room
  exact-level n k below x room (Once op) is = exact-once n k below (ap form_of is) x room
  exact-level n k below x room (Prefix p) is = exact-prefix n k below (ap form_of is) x room

  -- an expression on a level, where what stands in brackets is read exactly
  pub exact-ladder : (n : ℕ) (i : ℕ → parse.Parse T) → ((room : ℕ) → Exact (IsWithin n room) (i room) (Ends (length S.levels))) → (rank room : ℕ)
      → Exact (IsTermWithin S Leaf n rank room) (ladder S (leaf n) i rank room) (Ends rank)
  unfolding ladder
  exact-ladder n i inner zero room = exact-as (exact-less (exact-base n room i inner) (λ rest (d : Ends 0 rest). d.1)) (λ v ts h. h) (λ v ts h. h) (λ ts. refl)
  exact-ladder n i inner (suc k) room =
      exact-as (exact-level n k (ladder S (leaf n) i k) (λ r. exact-ladder n i inner k r) room (level_of S.levels k) refl) (λ v ts h. h) (λ v ts h. h)
      (λ ts. refl)

  -- an expression behind one bracket more
  pub exact-within : (n room : ℕ) → Exact (IsWithin n room) (within S leaf n room) (Ends (length S.levels))
  unfolding within
  exact-within zero room = record { sound = λ ts v rest e. cc; complete = λ v ts rest h e. absurd h }
  exact-within (suc n) room = exact-as (exact-ladder n (within S leaf n) (exact-within n) (length S.levels) room) (λ v ts h. h) (λ v ts h. h) (λ ts. refl)

  -- an expression of the language
  pub exact-whole : (n : ℕ) → Exact (IsWhole S Leaf n) (whole_at S leaf n) (Ends (length S.levels))
  exact-whole n = exact-ladder n (within S leaf n) (exact-within n) (length S.levels) 64
