-- Lists of items, up to what stops them.
use Rattle.std.proofs.Common.{◌≡◌, ℕ, zero, suc, ◌<◌, ◌+◌, List, [], ◌∷◌, ◌++◌, length, Bool, true, false, cond, Option, Some, None, refl, sym, ap, ◌∙◌, subst}
use Rattle.std.proofs.Common.{arith, append_assoc, append-nil, length-append}
use Rattle.std.specs.Prelude.{not, map}
use Rattle.std.proofs.lemmas.List.{map-append}
use Rattle.text_tokens.specs.Tok.{Tok, symbol}
use Rattle.text_tokens.specs.declared.sign.Symbol.TheVariants.{Comma}
use Rattle.text_forms.specs.Repeat.{ReadTurn, Stop, Fail, Next, after_turn, turns, repeated}
use Rattle.text_forms.specs.Tail.{tail}
use Rattle.text_forms.specs.Parse as parse
use Rattle.text_forms.specs.Forms as form
use Rattle.text_forms.proofs.Symbols.{begins_with-is}
use Rattle.text_forms.proofs.Repeat.{Shortens, repeated-next, repeated-stop, repeated-fail, repeated-keeps}
use Rattle.text_forms.proofs.Exact.{Exact, Front, exact-both, exact-after, exact-seen, exact-as}

-- items of a list: each has a token and begins with nothing that stops, and what comes behind one is allowed there
pub record Listed {A : Type 0} (stop : List Tok → Bool) (F : A → List Tok → Type 0) (E : List Tok → Type 0) : Type 0 where
  pub some : (v : A) (s : List Tok) → F v s → 0 < length s
  pub begins : (v : A) (s rest : List Tok) → F v s → stop (s ++ rest) ≡ false
  pub follows : (v : A) (s rest : List Tok) → F v s → E (s ++ rest)

-- one more item at the end
pub Each-more : {A : Type 0} (F : A → List Tok → Type 0) (vs : List A) (front : List Tok) (v : A) (s : List Tok) → form.Many F vs front → F v s
    → form.Many F (vs ++ v ∷ []) (front ++ s)
Each-more F [] front v s h f = (s, [], ap (λ (l : List Tok). l ++ s) h ∙ sym (append-nil s), f, refl)
Each-more F (w ∷ ws) front v s h f =
    (h.0, h.1 ++ s, ap (λ (l : List Tok). l ++ s) h.2 ∙ append_assoc h.0 h.1 s, h.3, Each-more F ws h.1 v s h.4 f)

module _ {A : Type 0} {F : A → List Tok → Type 0} {p : parse.Parse A} {E : List Tok → Type 0} (stop : List Tok → Bool) (x : Exact F p E)
    (listed : Listed stop F E) where
  -- how a turn went on
  turned : (done : List A) (b : Bool) (r : Option (A × List Tok)) (y : List A) (us : List Tok) → cond b Stop (parse.item_turn done r) ≡ Next y us
      → (b ≡ false) × (q : A × List Tok) × (r ≡ Some q) × (y ≡ done ++ q.0 ∷ []) × (us ≡ q.1)
  turned done true r y us e = cc
  turned done false None y us e = cc
  turned done false (Some q) y us e = (refl, q, refl, sym (next_value e), sym (next_rest e)) where
    next_value : Next (done ++ q.0 ∷ []) q.1 ≡ Next y us → done ++ q.0 ∷ [] ≡ y
    next_value same = cc

    next_rest : Next (done ++ q.0 ∷ []) q.1 ≡ Next y us → q.1 ≡ us
    next_rest same = cc

  -- each turn takes a token at least
  pub many-shortens : Shortens (parse.many_turn stop p)
  many-shortens done ts y us e =
      let t = turned done (stop ts) (p ts) y us e in
      let f = x.sound ts t.1.0 t.1.1 t.2 in
      let size : length ts ≡ length f.front + length t.1.1 = ap length f.is ∙ length-append f.front t.1.1 in
      let some : 0 < length f.front = listed.some t.1.0 f.front f.formed in
      let end : length us ≡ length t.1.1 = ap length t.4 in
      omega arith

  -- what was read so far
  SoFar : List Tok → List A → List Tok → Type 0
  SoFar ts done us = (front : List Tok) × (ts ≡ front ++ us) × form.Many F done front

  keeps : (ts : List Tok) (done : List A) (us : List Tok) (y : List A) (vs : List Tok) → SoFar ts done us → parse.many_turn stop p done us ≡ Next y vs
      → SoFar ts y vs
  unfolding SoFar
  keeps ts done us y vs so e =
      let t = turned done (stop us) (p us) y vs e in
      let f = x.sound us t.1.0 t.1.1 t.2 in
      let all : ts ≡ (so.0 ++ f.front) ++ vs = so.1 ∙ ap (λ (l : List Tok). so.0 ++ l) (f.is ∙ ap (λ (l : List Tok). f.front ++ l) (sym t.4))
      ∙ sym (append_assoc so.0 f.front vs) in
      (so.0 ++ f.front, all, subst (λ (w : List A). form.Many F w (so.0 ++ f.front)) (sym t.3) (Each-more F done so.0 t.1.0 f.front so.2 f.formed))

  stopped : (b : Bool) (t : ReadTurn (List A)) → cond b Stop t ≡ Stop → (t ≡ Stop → ⊥) → b ≡ true
  stopped true t e goes = refl
  stopped false t e goes = absurd (goes e)

  goes_on : (done : List A) (r : Option (A × List Tok)) → parse.item_turn done r ≡ Stop → ⊥
  goes_on done None e = cc
  goes_on done (Some q) e = cc

  many-sound : (ts : List Tok) (v : List A) (rest : List Tok) → parse.many stop p ts ≡ Some (v, rest) → Front (form.Many F) v ts rest × (stop rest ≡ true)
  unfolding SoFar
  many-sound ts v rest e =
      let end = repeated-keeps (parse.many_turn stop p) (SoFar ts) (keeps ts) [] ts v rest ([], refl, refl) e in
      (record { front = end.0.0; is = end.0.1; formed = end.0.2 }, stopped (stop rest) (parse.item_turn v (p rest)) end.1 (goes_on v (p rest)))

  many-complete : (done vs : List A) (s rest : List Tok) → form.Many F vs s → E rest → stop rest ≡ true
      → repeated (parse.many_turn stop p) done (s ++ rest) ≡ Some (done ++ vs, rest)
  many-complete done [] s rest h allowed stops =
      rw h (repeated-stop (parse.many_turn stop p) done rest (ap (λ (b : Bool). cond b Stop (parse.item_turn done (p rest))) stops)
      ∙ ap (λ (l : List A). Some (l, rest)) (sym (append-nil done)))
  many-complete done (v ∷ vs) s rest h allowed stops =
      let split : s ++ rest ≡ h.0 ++ (h.1 ++ rest) = ap (λ (l : List Tok). l ++ rest) h.2 ∙ append_assoc h.0 h.1 rest in
      let turn : parse.many_turn stop p done (h.0 ++ (h.1 ++ rest)) ≡ Next (done ++ v ∷ []) (h.1 ++ rest) =
      rw (listed.begins v h.0 (h.1 ++ rest) h.3, x.complete v h.0 (h.1 ++ rest) h.3 (behind vs h.1 h.4)) refl in
      ap (λ (l : List Tok). repeated (parse.many_turn stop p) done l) split
      ∙ repeated-next (parse.many_turn stop p) many-shortens done (h.0 ++ (h.1 ++ rest)) (done ++ v ∷ []) (h.1 ++ rest) turn
      ∙ many-complete (done ++ v ∷ []) vs h.1 rest h.4 allowed stops ∙ ap (λ (l : List A). Some (l, rest)) (append_assoc done (v ∷ []) vs)
    where
      behind : (ws : List A) (back : List Tok) → form.Many F ws back → E (back ++ rest)
      behind [] back g = subst (λ (l : List Tok). E (l ++ rest)) (sym g) allowed
      behind (w ∷ ws) back g =
          subst (λ (l : List Tok). E l) (sym (ap (λ (l : List Tok). l ++ rest) g.2 ∙ append_assoc g.0 g.1 rest)) (listed.follows w g.0 (g.1 ++ rest) g.3)

  -- items until what stops them
  pub exact-many : Exact (form.Many F) (parse.many stop p) (λ rest. E rest × (stop rest ≡ true))
  exact-many = record {
    sound = λ ts v rest e. (many-sound ts v rest e).0;
    complete = λ v s rest h d. many-complete [] v s rest h d.0 d.1;
  }

-- a turn and a reading with one item more at the front
abbrev on_turn : {A : Type 0} → A → ReadTurn (List A) → ReadTurn (List A)
on_turn first Stop = Stop
on_turn first Fail = Fail
on_turn first (Next done us) = Next (first ∷ done) us

abbrev on_read : {A : Type 0} → A → Option (List A × List Tok) → Option (List A × List Tok)
on_read first None = None
on_read first (Some read) = Some (first ∷ read.0, read.1)

-- items with commas between them
module _ {A : Type 0} {F : A → List Tok → Type 0} {p : parse.Parse A} {E : List Tok → Type 0} (x : Exact F p E)
    (comma : (rest : List Tok) → E (symbol Comma ∷ rest)) where
  abbrev commas_parts : parse.Parse (List A)
  commas_parts = parse.seen (λ v. v.0 ∷ v.1) (parse.both p (parse.many parse.no_comma (parse.after (Comma ∷ []) p)))

  begins_comma : (v : A) (s rest : List Tok) → form.After (Comma ∷ []) F v s → (t : List Tok) × (s ++ rest ≡ symbol Comma ∷ t)
  begins_comma v s rest h = (h.back ++ rest, ap (λ (l : List Tok). l ++ rest) h.is)

  listed_commas : Listed parse.no_comma (form.After (Comma ∷ []) F) E
  listed_commas = record {
    some = λ v s h. rw h.is (omega arith);
    begins = λ v s rest h. rw (begins_comma v s rest h).1 refl;
    follows = λ v s rest h. subst E (sym (begins_comma v s rest h).1) (comma (begins_comma v s rest h).0);
  }

  behind_first : (vs : List A) (s rest : List Tok) → form.Many (form.After (Comma ∷ []) F) vs s → E rest × (parse.no_comma rest ≡ true) → E (s ++ rest)
  behind_first [] s rest h d = subst (λ (l : List Tok). E (l ++ rest)) (sym h) d.0
  behind_first (w ∷ ws) s rest h d =
      subst (λ (l : List Tok). E l) (sym (ap (λ (l : List Tok). l ++ rest) h.2 ∙ append_assoc h.0 h.1 rest)) (listed_commas.follows w h.0 (h.1 ++ rest) h.3)

  exact-parts : Exact (form.Commas F) commas_parts (λ rest. E rest × (parse.no_comma rest ≡ true))
  exact-parts =
      exact-seen (λ (v : A × List A). v.0 ∷ v.1) (exact-both x (exact-many parse.no_comma (exact-after (Comma ∷ []) x) listed_commas) behind_first)

  -- the loop that begins with the first item
  same_turn : (first : A) (done : List A) (ts : List Tok)
      → parse.comma_turn p (first ∷ done) ts ≡ on_turn first (parse.many_turn parse.no_comma (parse.after (Comma ∷ []) p) done ts)
  unfolding parse.comma_turn
  same_turn first done ts = by (parse.begins_with Comma ts) refl where
    by : (b : Bool) → parse.begins_with Comma ts ≡ b
        → cond b (parse.item_turn (first ∷ done) (p (tail ts))) Stop ≡ on_turn first (cond (not b) Stop (parse.item_turn done (parse.after (Comma ∷ []) p ts)))
    by false e = refl
    by true e = rw e (item (p (tail ts))) where
      item : (r : Option (A × List Tok)) → parse.item_turn (first ∷ done) r ≡ on_turn first (parse.item_turn done r)
      item None = refl
      item (Some q) = refl

  same_turns : (n : ℕ) (first : A) (done : List A) (ts : List Tok)
      → turns (parse.comma_turn p) n (first ∷ done) ts ≡ on_read first (turns (parse.many_turn parse.no_comma (parse.after (Comma ∷ []) p)) n done ts)
  unfolding turns
  same_turns zero first done ts = refl
  same_turns (suc n) first done ts =
      ap (after_turn (turns (parse.comma_turn p) n) (first ∷ done) ts) (same_turn first done ts)
      ∙ by (parse.many_turn parse.no_comma (parse.after (Comma ∷ []) p) done ts) (λ more us. same_turns n first more us)
    where
      by : (t : ReadTurn (List A))
          → ((more : List A) (us : List Tok)
          → turns (parse.comma_turn p) n (first ∷ more) us ≡ on_read first (turns (parse.many_turn parse.no_comma (parse.after (Comma ∷ []) p)) n more us))
          → after_turn (turns (parse.comma_turn p) n) (first ∷ done) ts (on_turn first t) ≡ on_read first
          (after_turn (turns (parse.many_turn parse.no_comma (parse.after (Comma ∷ []) p)) n) done ts t)
      by Stop f = refl
      by Fail f = refl
      by (Next more us) f = f more us

  same_commas : (ts : List Tok) → parse.commas p ts ≡ commas_parts ts
  unfolding repeated
  same_commas ts = by (p ts) where
    loop : (a : A) (us : List Tok)
        → repeated (parse.comma_turn p) (a ∷ []) us ≡ on_read a (repeated (parse.many_turn parse.no_comma (parse.after (Comma ∷ []) p)) [] us)
    loop a us = same_turns (suc (length us)) a [] us

    by : (r : Option (A × List Tok))
        → parse.then_parsed r (λ a us. repeated (parse.comma_turn p) (a ∷ []) us) ≡ parse.then_parsed {A = A × List A} {B = List A}
        (parse.then_parsed {A = A} {B = A × List A} r
        (λ a us. parse.then_parsed {A = List A} {B = A × List A} (parse.many parse.no_comma (parse.after (Comma ∷ []) p) us) (λ b vs. Some ((a, b), vs))))
        (λ v vs. Some (v.0 ∷ v.1, vs))
    by None = refl
    by (Some q) = loop q.0 q.1 ∙ out (parse.many parse.no_comma (parse.after (Comma ∷ []) p) q.1) where
      out : (r : Option (List A × List Tok))
          → on_read q.0 r ≡ parse.then_parsed {A = A × List A} {B = List A} (parse.then_parsed {A = List A} {B = A × List A} r (λ b vs. Some ((q.0, b), vs)))
          (λ v vs. Some (v.0 ∷ v.1, vs))
      out None = refl
      out (Some w) = refl

  -- parts between commas are read exactly
  pub exact-commas : Exact (form.Commas F) (parse.commas p) (λ rest. E rest × (parse.no_comma rest ≡ true))
  exact-commas = exact-as exact-parts (λ v s h. h) (λ v s h. h) same_commas

  -- how a turn went on
  comma-turned : (done : List A) (ts : List Tok) (y : List A) (us : List Tok) → parse.comma_turn p done ts ≡ Next y us
      → (parse.begins_with Comma ts ≡ true) × (q : A × List Tok) × (p (tail ts) ≡ Some q) × (us ≡ q.1)
  unfolding parse.comma_turn
  comma-turned done ts y us e = by (parse.begins_with Comma ts) (p (tail ts)) refl refl e where
    by : (b : Bool) (r : Option (A × List Tok)) → parse.begins_with Comma ts ≡ b → p (tail ts) ≡ r → cond b (parse.item_turn done r) Stop ≡ Next y us
        → (parse.begins_with Comma ts ≡ true) × (q : A × List Tok) × (p (tail ts) ≡ Some q) × (us ≡ q.1)
    by false r b_is r_is f = cc
    by true None b_is r_is f = cc
    by true (Some q) b_is r_is f = (b_is, q, r_is, rest f) where
      rest : Next (done ++ q.0 ∷ []) q.1 ≡ Next y us → us ≡ q.1
      rest g = cc

  pub comma-shortens : Shortens (parse.comma_turn p)
  comma-shortens done ts y us e =
      let t = comma-turned done ts y us e in
      let f = x.sound (tail ts) t.1.0 t.1.1 t.2 in
      let whole : length ts ≡ suc (length (tail ts)) = ap length (begins_with-is Comma ts t.0) in
      let part : length (tail ts) ≡ length f.front + length t.1.1 = ap length f.is ∙ length-append f.front t.1.1 in
      let end : length us ≡ length t.1.1 = ap length t.3 in
      omega arith

  -- the steps by which code reads the items
  pub comma-next : (done : List A) (ts us : List Tok) (v : A) → parse.begins_with Comma ts ≡ true → p (tail ts) ≡ Some (v, us)
      → repeated (parse.comma_turn p) (done ++ v ∷ []) us ≡ repeated (parse.comma_turn p) done ts
  unfolding parse.comma_turn
  comma-next done ts us v comes read = sym (repeated-next (parse.comma_turn p) comma-shortens done ts (done ++ v ∷ []) us (rw (comes, read) refl))

  -- the same, as a loop over a list of other values goes on: `b` says whether a comma was taken
  pub comma-more : {X : Type 0} (f : X → A) (old new : List X) (i : X) (ts mid us : List Tok) (b : Bool) → new ≡ old ++ i ∷ [] → b ≡ true
      → b ≡ parse.begins_with Comma ts → mid ≡ cond b (tail ts) ts → p mid ≡ Some (f i, us)
      → repeated (parse.comma_turn p) (map f new) us ≡ repeated (parse.comma_turn p) (map f old) ts
  comma-more f old new i ts mid us b pushed holds comes taken read =
      let rest : mid ≡ tail ts = taken ∙ ap (λ (c : Bool). cond c (tail ts) ts) holds in
      ap (λ (l : List A). repeated (parse.comma_turn p) l us) (ap (map f) pushed ∙ map-append f old (i ∷ []))
      ∙ comma-next (map f old) ts us (f i) (sym comes ∙ holds) (sym (ap p rest) ∙ read)

-- a list ends where no comma comes
pub comma-stop : {A : Type 0} (p : parse.Parse A) (done : List A) (ts : List Tok) → parse.begins_with Comma ts ≡ false
    → repeated (parse.comma_turn p) done ts ≡ Some (done, ts)
unfolding parse.comma_turn
comma-stop p done ts none = repeated-stop (parse.comma_turn p) done ts (rw none refl)

-- there is no list where no item stands behind a comma
pub comma-bad : {A : Type 0} (p : parse.Parse A) (done : List A) (ts : List Tok) → parse.begins_with Comma ts ≡ true → p (tail ts) ≡ None
    → repeated (parse.comma_turn p) done ts ≡ None
unfolding parse.comma_turn
comma-bad p done ts comes read = repeated-fail (parse.comma_turn p) done ts (rw (comes, read) refl)

pub ruleset comma_ends = (comma-stop, comma-bad)
