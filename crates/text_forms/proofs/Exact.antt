-- A reading function is exact for a form: it gives what the tokens stand for, and reads all that stands for something.
use Rattle.std.proofs.Common.{◌≡◌, ℕ, List, [], ◌∷◌, ◌++◌, Bool, true, false, cond, Option, Some, None, refl, sym, ap, ◌∙◌, subst, inl, inr, append_assoc}
use Rattle.std.specs.Prelude.{ℤ, pos}
use Rattle.std.proofs.lemmas.Slice.Eq.{bytes_eq-Decides}
use Rattle.std.proofs.lemmas.Option.{same_Some}
use Rattle.text_tokens.specs.Tok.{Tok, name, var, number, symbol}
use Rattle.text_tokens.specs.declared.sign.Symbol.{Symbol}
use Rattle.text_forms.specs.Tail.{tail}
use Rattle.text_forms.specs.Parse as parse
use Rattle.text_forms.specs.Forms as form
pub use Rattle.text_forms.specs.Exact.{Front, Exact, Any}
use Rattle.text_forms.proofs.Symbols.{begins_with-is, begins_with-symbol}
use Rattle.text_forms.proofs.Pairs.{pair_inj}

-- fewer things may follow
pub exact-less : {A : Type 0} {F : A → List Tok → Type 0} {p : parse.Parse A} {E D : List Tok → Type 0} → Exact F p E → ((rest : List Tok) → D rest → E rest)
    → Exact F p D
exact-less e fewer = record { sound = e.sound; complete = λ v s rest f d. e.complete v s rest f (fewer rest d) }

-- the same reading function, or the same form, in other words
pub exact-as : {A : Type 0} {F G : A → List Tok → Type 0} {p q : parse.Parse A} {E : List Tok → Type 0} → Exact F p E → ((v : A) (s : List Tok) → F v s → G v s)
    → ((v : A) (s : List Tok) → G v s → F v s) → ((ts : List Tok) → q ts ≡ p ts) → Exact G q E
exact-as {A} {F} {G} {p} {q} {E} x to from same = record {
  sound = λ ts v rest e. let f = x.sound ts v rest (sym (same ts) ∙ e) in record { front = f.front; is = f.is; formed = to v f.front f.formed };
  complete = λ v s rest g d. same (s ++ rest) ∙ x.complete v s rest (from v s g) d;
}

-- a name
pub exact-name : Exact form.NameToken parse.name_at Any
exact-name = record { sound = sound; complete = complete } where
  sound : (ts : List Tok) (v : List ℕ) (rest : List Tok) → parse.name_at ts ≡ Some (v, rest) → Front form.NameToken v ts rest
  sound [] v rest e = cc
  sound (name text ∷ ts) v rest e =
      let same = pair_inj e in
      record { front = name v ∷ []; is = ap (λ (l : List Tok). name text ∷ l) same.1 ∙ ap (λ (n : List ℕ). name n ∷ rest) same.0; formed = refl }
  sound (var text ∷ ts) v rest e = cc
  sound (number value ∷ ts) v rest e = cc
  sound (symbol t ∷ ts) v rest e = cc

  complete : (v : List ℕ) (s rest : List Tok) → form.NameToken v s → Any rest → parse.name_at (s ++ rest) ≡ Some (v, rest)
  complete v s rest f any = rw f refl

-- a variable
pub exact-var : Exact form.Var parse.var_at Any
exact-var = record { sound = sound; complete = complete } where
  sound : (ts : List Tok) (v : List ℕ) (rest : List Tok) → parse.var_at ts ≡ Some (v, rest) → Front form.Var v ts rest
  sound [] v rest e = cc
  sound (name text ∷ ts) v rest e = cc
  sound (var text ∷ ts) v rest e =
      let same = pair_inj e in
      record { front = var v ∷ []; is = ap (λ (l : List Tok). var text ∷ l) same.1 ∙ ap (λ (n : List ℕ). var n ∷ rest) same.0; formed = refl }
  sound (number value ∷ ts) v rest e = cc
  sound (symbol t ∷ ts) v rest e = cc

  complete : (v : List ℕ) (s rest : List Tok) → form.Var v s → Any rest → parse.var_at (s ++ rest) ≡ Some (v, rest)
  complete v s rest f any = rw f refl

-- a number
pub exact-number : Exact form.Number parse.number_at Any
exact-number = record { sound = sound; complete = complete } where
  sound : (ts : List Tok) (v : ℕ) (rest : List Tok) → parse.number_at ts ≡ Some (v, rest) → Front form.Number v ts rest
  sound [] v rest e = cc
  sound (name text ∷ ts) v rest e = cc
  sound (var text ∷ ts) v rest e = cc
  sound (number value ∷ ts) v rest e =
      let same = pair_inj e in
      record { front = number v ∷ []; is = ap (λ (l : List Tok). number value ∷ l) same.1 ∙ ap (λ (n : ℕ). number n ∷ rest) same.0; formed = refl }
  sound (symbol t ∷ ts) v rest e = cc

  complete : (v : ℕ) (s rest : List Tok) → form.Number v s → Any rest → parse.number_at (s ++ rest) ≡ Some (v, rest)
  complete v s rest f any = rw f refl

-- no tokens
pub exact-nothing : {A : Type 0} (x : A) → Exact (form.Nothing x) (parse.nothing_at x) Any
exact-nothing {A} x = record { sound = sound; complete = complete } where
  sound : (ts : List Tok) (v : A) (rest : List Tok) → parse.nothing_at x ts ≡ Some (v, rest) → Front (form.Nothing x) v ts rest
  sound ts v rest e = let same = pair_inj e in record { front = []; is = same.1; formed = (sym same.0, refl) }

  complete : (v : A) (s rest : List Tok) → form.Nothing x v s → Any rest → parse.nothing_at x (s ++ rest) ≡ Some (v, rest)
  complete v s rest f any = rw (f.0, f.1) refl

-- how a reading that went on began
pub then_read-some : {A B : Type 0} (r : Option (A × List Tok)) (more : A → List Tok → Option (B × List Tok)) (v : B × List Tok)
    → parse.then_parsed r more ≡ Some v → (q : A × List Tok) × (r ≡ Some q) × (more q.0 q.1 ≡ Some v)
then_read-some None more v e = cc
then_read-some (Some q) more v e = (q, refl, e)

then_rest-some : {B : Type 0} (r : Option (List Tok)) (more : List Tok → Option (B × List Tok)) (v : B × List Tok) → parse.then_rest r more ≡ Some v
    → (q : List Tok) × (r ≡ Some q) × (more q ≡ Some v)
then_rest-some None more v e = cc
then_rest-some (Some q) more v e = (q, refl, e)

-- a reader under a test that answers has passed the test
pub if-some : {B : Type 0} (b : Bool) (r : Option B) (v : B) → cond b r None ≡ Some v → (b ≡ true) × (r ≡ Some v)
if-some true r v e = (refl, e)
if-some false r v e = cc

-- what begins with a word
pub is_word_at-is : (word : List ℕ) (ts : List Tok) → parse.is_word_at word ts ≡ true → ts ≡ name word ∷ tail ts
is_word_at-is word [] e = cc
is_word_at-is word (name text ∷ ts) e = ap (λ (n : List ℕ). name n ∷ ts) ((bytes_eq-Decides text word).0 e)
is_word_at-is word (var text ∷ ts) e = cc
is_word_at-is word (number value ∷ ts) e = cc
is_word_at-is word (symbol t ∷ ts) e = cc

-- runs of symbols
pub run_at-sound : (run : List Symbol) (ts us : List Tok) → parse.symbols_at run ts ≡ Some us → ts ≡ form.symbols run ++ us
run_at-sound [] ts us e = same_Some _ _ e
run_at-sound (x ∷ run) ts us e =
    let both = if-some (parse.begins_with x ts) (parse.symbols_at run (tail ts)) us e in
    begins_with-is x ts both.0 ∙ ap (λ (l : List Tok). symbol x ∷ l) (run_at-sound run (tail ts) us both.1)

pub run_at-complete : (run : List Symbol) (rest : List Tok) → parse.symbols_at run (form.symbols run ++ rest) ≡ Some rest
run_at-complete [] rest = refl
run_at-complete (x ∷ run) rest =
    ap (λ (b : Bool). cond b (parse.symbols_at run (form.symbols run ++ rest)) None) (begins_with-symbol x (form.symbols run ++ rest))
    ∙ run_at-complete run rest

module _ {A B : Type 0} {F : A → List Tok → Type 0} {G : B → List Tok → Type 0} {p : parse.Parse A} {q : parse.Parse B} {E D : List Tok → Type 0} where
  -- one and then the other
  pub exact-both : Exact F p E → Exact G q D → ((y : B) (s rest : List Tok) → G y s → D rest → E (s ++ rest)) → Exact (form.Both F G) (parse.both p q) D
  exact-both f g follows = record { sound = sound; complete = complete } where
    sound : (ts : List Tok) (v : A × B) (rest : List Tok) → parse.both p q ts ≡ Some (v, rest) → Front (form.Both F G) v ts rest
    sound ts v rest e =
        let (a, is_a, more) = then_read-some (p ts) _ (v, rest) e in
        let (b, is_b, end) = then_read-some (q a.1) _ (v, rest) more in
        let same = pair_inj end in
        let x = f.sound ts a.0 a.1 is_a in
        let y = g.sound a.1 b.0 b.1 is_b in
        record {
          front = x.front ++ y.front;
          is = x.is ∙ ap (λ (l : List Tok). x.front ++ l) (y.is ∙ ap (λ (l : List Tok). y.front ++ l) same.1) ∙ sym (append_assoc x.front y.front rest);
          formed = record {
            front = x.front;
            back = y.front;
            is = refl;
            first = subst (λ (w : A × B). F w.0 x.front) same.0 x.formed;
            second = subst (λ (w : A × B). G w.1 y.front) same.0 y.formed;
          };
        }

    complete : (v : A × B) (s rest : List Tok) → form.Both F G v s → D rest → parse.both p q (s ++ rest) ≡ Some (v, rest)
    complete v s rest h d =
        let split : s ++ rest ≡ h.front ++ (h.back ++ rest) = ap (λ (l : List Tok). l ++ rest) h.is ∙ append_assoc h.front h.back rest in
        rw (split, f.complete v.0 h.front (h.back ++ rest) h.first (follows v.1 h.back rest h.second d), g.complete v.1 h.back rest h.second d) refl

module _ {A : Type 0} {F : A → List Tok → Type 0} {p : parse.Parse A} {E : List Tok → Type 0} where
  -- behind some symbols
  pub exact-after : (run : List Symbol) → Exact F p E → Exact (form.After run F) (parse.after run p) E
  exact-after run f = record { sound = sound; complete = complete } where
    sound : (ts : List Tok) (v : A) (rest : List Tok) → parse.after run p ts ≡ Some (v, rest) → Front (form.After run F) v ts rest
    sound ts v rest e =
        let (us, is_us, more) = then_rest-some (parse.symbols_at run ts) p (v, rest) e in
        let x = f.sound us v rest more in
        record {
          front = form.symbols run ++ x.front;
          is = run_at-sound run ts us is_us ∙ ap (λ (l : List Tok). form.symbols run ++ l) x.is ∙ sym (append_assoc (form.symbols run) x.front rest);
          formed = record { back = x.front; is = refl; formed = x.formed };
        }

    complete : (v : A) (s rest : List Tok) → form.After run F v s → E rest → parse.after run p (s ++ rest) ≡ Some (v, rest)
    complete v s rest h d =
        let split : s ++ rest ≡ form.symbols run ++ (h.back ++ rest) = ap (λ (l : List Tok). l ++ rest) h.is ∙ append_assoc (form.symbols run) h.back rest in
        rw (split, run_at-complete run (h.back ++ rest)) (f.complete v h.back rest h.formed d)

  -- before some symbols
  pub exact-before : (run : List Symbol) → Exact F p E → ((rest : List Tok) → E (form.symbols run ++ rest)) → Exact (form.Before F run) (parse.before p run) Any
  exact-before run f follows = record { sound = sound; complete = complete } where
    sound : (ts : List Tok) (v : A) (rest : List Tok) → parse.before p run ts ≡ Some (v, rest) → Front (form.Before F run) v ts rest
    sound ts v rest e =
        let (a, is_a, more) = then_read-some (p ts) _ (v, rest) e in
        let (us, is_us, end) = then_rest-some (parse.symbols_at run a.1) _ (v, rest) more in
        let same = pair_inj end in
        let x = f.sound ts a.0 a.1 is_a in
        record {
          front = x.front ++ form.symbols run;
          is =
              x.is ∙ ap (λ (l : List Tok). x.front ++ l) (run_at-sound run a.1 us is_us ∙ ap (λ (l : List Tok). form.symbols run ++ l) same.1)
              ∙ sym (append_assoc x.front (form.symbols run) rest);
          formed = record { front = x.front; is = refl; formed = subst (λ (w : A). F w x.front) same.0 x.formed };
        }

    complete : (v : A) (s rest : List Tok) → form.Before F run v s → Any rest → parse.before p run (s ++ rest) ≡ Some (v, rest)
    complete v s rest h any =
        let split : s ++ rest ≡ h.front ++ (form.symbols run ++ rest) = ap (λ (l : List Tok). l ++ rest) h.is ∙ append_assoc h.front (form.symbols run) rest in
        rw (split, f.complete v h.front (form.symbols run ++ rest) h.formed (follows rest), run_at-complete run rest) refl

  -- behind a word
  pub exact-after_word : (word : List ℕ) → Exact F p E → Exact (form.AfterWord word F) (parse.after_word word p) E
  exact-after_word word f = record { sound = sound; complete = complete } where
    sound : (ts : List Tok) (v : A) (rest : List Tok) → parse.after_word word p ts ≡ Some (v, rest) → Front (form.AfterWord word F) v ts rest
    sound ts v rest e =
        let (us, is_us, more) = then_rest-some (parse.word_at word ts) p (v, rest) e in
        let both = if-some (parse.is_word_at word ts) (Some (tail ts)) us is_us in
        let x = f.sound us v rest more in
        record {
          front = name word ∷ x.front;
          is = is_word_at-is word ts both.0 ∙ ap (λ (l : List Tok). name word ∷ l) (same_Some _ _ both.1 ∙ x.is);
          formed = record { back = x.front; is = refl; formed = x.formed };
        }

    complete : (v : A) (s rest : List Tok) → form.AfterWord word F v s → E rest → parse.after_word word p (s ++ rest) ≡ Some (v, rest)
    complete v s rest h d =
        rw (h.is, (bytes_eq-Decides word word).1 refl) (f.complete v h.back rest h.formed d)

  -- with a condition on the value
  pub exact-tested : (test : A → Bool) → Exact F p E → Exact (form.Tested test F) (parse.tested test p) E
  exact-tested test f = record { sound = sound; complete = complete } where
    sound : (ts : List Tok) (v : A) (rest : List Tok) → parse.tested test p ts ≡ Some (v, rest) → Front (form.Tested test F) v ts rest
    sound ts v rest e =
        let (a, is_a, more) = then_read-some (p ts) _ (v, rest) e in
        let both = if-some (test a.0) (Some (a.0, a.1)) (v, rest) more in
        let same = pair_inj both.1 in
        let x = f.sound ts a.0 a.1 is_a in
        record {
          front = x.front;
          is = x.is ∙ ap (λ (l : List Tok). x.front ++ l) same.1;
          formed = subst (λ (w : A). form.Tested test F w x.front) same.0 (record { passes = both.0; formed = x.formed });
        }

    complete : (v : A) (s rest : List Tok) → form.Tested test F v s → E rest → parse.tested test p (s ++ rest) ≡ Some (v, rest)
    complete v s rest h d = rw (f.complete v s rest h.formed d, h.passes) refl

  -- an optional part
  pub exact-maybe : (test : List Tok → Bool) → Exact F p E → ((v : A) (s rest : List Tok) → F v s → test (s ++ rest) ≡ true)
      → Exact (form.Maybe F) (parse.maybe test p) (λ rest. E rest × (test rest ≡ false))
  exact-maybe test f begins = record { sound = sound; complete = complete } where
    some : (ts : List Tok) (v : Option A) (rest : List Tok) → parse.then_parsed (p ts) (λ a us. Some (Some a, us)) ≡ Some (v, rest)
        → Front (form.Maybe F) v ts rest
    some ts v rest e =
        let (a, is_a, end) = then_read-some (p ts) _ (v, rest) e in
        let same = pair_inj end in
        let x = f.sound ts a.0 a.1 is_a in
        record {
          front = x.front;
          is = x.is ∙ ap (λ (l : List Tok). x.front ++ l) same.1;
          formed = subst (λ (w : Option A). form.Maybe F w x.front) same.0 x.formed;
        }

    none : (ts : List Tok) (v : Option A) (rest : List Tok) → parse.nothing_at None ts ≡ Some (v, rest) → Front (form.Maybe F) v ts rest
    none ts v rest e =
        let same = pair_inj e in
        record { front = []; is = same.1; formed = subst (λ (w : Option A). form.Maybe F w []) same.0 refl }

    by : (b : Bool) (ts : List Tok) (v : Option A) (rest : List Tok)
        → cond b (parse.then_parsed (p ts) (λ a us. Some (Some a, us))) (parse.nothing_at None ts) ≡ Some (v, rest) → Front (form.Maybe F) v ts rest
    by true ts v rest e = some ts v rest e
    by false ts v rest e = none ts v rest e

    sound : (ts : List Tok) (v : Option A) (rest : List Tok) → parse.maybe test p ts ≡ Some (v, rest) → Front (form.Maybe F) v ts rest
    sound ts v rest e = by (test ts) ts v rest e

    complete : (v : Option A) (s rest : List Tok) → form.Maybe F v s → E rest × (test rest ≡ false) → parse.maybe test p (s ++ rest) ≡ Some (v, rest)
    complete None s rest h d = rw (h, d.1) refl
    complete (Some v) s rest h d = rw (begins v s rest h, f.complete v s rest h d.0) refl

module _ {A B : Type 0} {F : A → List Tok → Type 0} {p : parse.Parse A} {E : List Tok → Type 0} where
  -- seen as another value
  pub exact-seen : (f : A → B) → Exact F p E → Exact (form.Seen f F) (parse.seen f p) E
  exact-seen f x = record { sound = sound; complete = complete } where
    sound : (ts : List Tok) (v : B) (rest : List Tok) → parse.seen f p ts ≡ Some (v, rest) → Front (form.Seen f F) v ts rest
    sound ts v rest e =
        let (a, is_a, end) = then_read-some (p ts) _ (v, rest) e in
        let same = pair_inj end in
        let y = x.sound ts a.0 a.1 is_a in
        record { front = y.front; is = y.is ∙ ap (λ (l : List Tok). y.front ++ l) same.1; formed = record { value = a.0; is = sym same.0; formed = y.formed } }

    complete : (v : B) (s rest : List Tok) → form.Seen f F v s → E rest → parse.seen f p (s ++ rest) ≡ Some (v, rest)
    complete v s rest h d = rw (x.complete h.value s rest h.formed d) (ap (λ (w : B). Some (w, rest)) (sym h.is))

module _ {A : Type 0} {F G : A → List Tok → Type 0} {p q : parse.Parse A} {E D : List Tok → Type 0} where
  -- one or the other, where the test of what comes tells them apart
  pub exact-merged : (test : List Tok → Bool) → Exact F p E → Exact G q D → ((v : A) (s rest : List Tok) → F v s → E rest → test (s ++ rest) ≡ true)
      → ((v : A) (s rest : List Tok) → G v s → D rest → test (s ++ rest) ≡ false)
      → Exact (form.Merged F G) (parse.merged test p q) (λ rest. E rest × D rest)
  exact-merged test f g left right = record { sound = sound; complete = complete } where
    by : (b : Bool) (ts : List Tok) (v : A) (rest : List Tok) → cond b (p ts) (q ts) ≡ Some (v, rest) → Front (form.Merged F G) v ts rest
    by true ts v rest e = let x = f.sound ts v rest e in record { front = x.front; is = x.is; formed = inl x.formed }
    by false ts v rest e = let x = g.sound ts v rest e in record { front = x.front; is = x.is; formed = inr x.formed }

    sound : (ts : List Tok) (v : A) (rest : List Tok) → parse.merged test p q ts ≡ Some (v, rest) → Front (form.Merged F G) v ts rest
    sound ts v rest e = by (test ts) ts v rest e

    complete : (v : A) (s rest : List Tok) → form.Merged F G v s → E rest × D rest → parse.merged test p q (s ++ rest) ≡ Some (v, rest)
    complete v s rest (inl h) d = rw (left v s rest h d.0) (f.complete v s rest h d.0)
    complete v s rest (inr h) d = rw (right v s rest h d.1) (g.complete v s rest h d.1)

-- a number as a value
pub exact-value : Exact form.Value parse.value_at Any
exact-value = record { sound = sound; complete = complete } where
  x : Exact (form.Seen (λ n. pos n) (form.Tested parse.is_value form.Number)) parse.value_at Any
  x = exact-seen (λ n. pos n) (exact-tested parse.is_value exact-number)

  sound : (ts : List Tok) (v : ℤ) (rest : List Tok) → parse.value_at ts ≡ Some (v, rest) → Front form.Value v ts rest
  sound ts v rest e =
      let f = x.sound ts v rest e in
      record {
        front = f.front;
        is = f.is;
        formed =
            record { number = f.formed.value; fits = f.formed.formed.passes; is = f.formed.is; formed = f.formed.formed.formed };
      }

  complete : (v : ℤ) (s rest : List Tok) → form.Value v s → Any rest → parse.value_at (s ++ rest) ≡ Some (v, rest)
  complete v s rest h any = x.complete v s rest (record { value = h.number; is = h.is; formed = record { passes = h.fits; formed = h.formed } }) any
