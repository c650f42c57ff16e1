-- What holds of all statements that the grammar has, by induction on how deep branches and loops nest.
use Rattle.std.proofs.Common.{◌≡◌, ℕ, zero, suc, List, [], ◌∷◌, Bool, true, false, Option, Some, None, refl, sym, subst}
use Rattle.std.specs.List.{AllByRecursion}
use Rattle.text_tokens.specs.Tok.{Tok}
use Rattle.text_tokens.specs.declared.sign.Symbol.{Symbol}
use Rattle.text_forms.specs.Forms as form
use Rattle.text_blocks.specs.Statements.{Style, Holes, ByOpening, IsBlockOf, IsBranch, IsLoop, IsRest, IsStatement, IsBlock}
use Rattle.text_blocks.specs.declared.opening.Opening.{Opening}
use Rattle.text_blocks.specs.declared.opening.Opening.TheVariants.{Branch, Loop, Plain}

-- one or the other
pub chosen : {A : Type 0} (P : Type 0) (F G : A → List Tok → Type 0) (b : Bool) (v : A) (ts : List Tok) → form.Choose b F G v ts → (b ≡ true → F v ts → P)
    → (G v ts → P) → P
chosen P F G true v ts h f g = f refl h
chosen P F G false v ts h f g = g h

-- what stands within brackets
pub enclosed : {A : Type 0} (P : A → Type 0) (l r : Symbol) (F : ℕ → A → List Tok → Type 0) (n : ℕ) (v : A) (ts : List Tok) → form.Enclosed l r F n v ts
    → ((m : ℕ) (us : List Tok) → F m v us → P v) → P v
enclosed P l r F zero v ts h f = absurd h
enclosed P l r F (suc n) v ts h f = f n h.formed.front h.formed.formed

-- of a part that is there
abbrev pub IfThere : {B : Type 0} → (B → Type 0) → Option B → Type 0
IfThere Q None = Unit {0}
IfThere Q (Some b) = Q b

by-opening : {S : Type 0} (T : Type 0) (B L P : S → List Tok → Type 0) (o : Opening) (v : S) (ts : List Tok) → ByOpening o B L P v ts
    → (B v ts → T) → (L v ts → T) → (P v ts → T) → T
by-opening T B L P Branch v ts h b l p = b h
by-opening T B L P Loop v ts h b l p = l h
by-opening T B L P Plain v ts h b l p = p h

-- P is said of statements and Q of blocks, where so many more may nest
module _ {E H S B : Type 0} (Y : Style E H S B) (G : Holes E H S) (P : ℕ → S → Type 0) (Q : ℕ → B → Type 0)
    (branch : (k n : ℕ) (c : E) (ts : List Tok) (a : B) (o : Option B) → G.Condition n c ts → Q k a → IfThere (Q k) o → P (suc k) (Y.branch c a o))
    (loop : (k n : ℕ) (w : List ℕ) (h : H) (ts : List Tok) (b : B) → G.Head n w h ts → Q k b → P (suc k) (Y.loop h b))
    (plain : (k n : ℕ) (w : List ℕ) (v : S) (ts : List Tok) → G.Plain n w v ts → P k v)
    (block : (k : ℕ) (vs : List S) → AllByRecursion (P k) vs → Q k (Y.block vs)) where
  each : (k : ℕ) (stmt : S → List Tok → Type 0) → ((v : S) (ts : List Tok) → stmt v ts → P k v) → (vs : List S) (ts : List Tok) → form.Many stmt vs ts
      → AllByRecursion (P k) vs
  each k stmt one [] ts h = tt
  each k stmt one (v ∷ vs) ts h = (one v h.0 h.3, each k stmt one vs h.1 h.4)

  of-block : (k : ℕ) (stmt : ℕ → S → List Tok → Type 0) → ((m : ℕ) (v : S) (ts : List Tok) → stmt m v ts → P k v) → (n : ℕ) (b : B) (ts : List Tok)
      → IsBlockOf Y stmt n b ts → Q k b
  of-block k stmt one n b ts h =
      enclosed (Q k) _ _ _ n b ts h (λ m us f. subst (Q k) (sym f.is) (block k f.value (each k (stmt m) (one m) f.value us f.formed)))

  of-else : (k : ℕ) (F : B → List Tok → Type 0) → ((b : B) (ts : List Tok) → F b ts → Q k b) → (word : List ℕ) (o : Option B) (ts : List Tok)
      → form.Maybe (form.AfterWord word F) o ts → IfThere (Q k) o
  of-else k F one word None ts h = tt
  of-else k F one word (Some b) ts h = one b h.back h.formed

  of-branch : (k : ℕ) (F : ℕ → B → List Tok → Type 0) → ((n : ℕ) (b : B) (ts : List Tok) → F n b ts → Q k b) → (n : ℕ) (v : S) (ts : List Tok)
      → IsBranch Y G F n v ts → P (suc k) v
  of-branch k F one n v ts h =
      let x = h.value in
      let arms = h.formed.second in
      subst (P (suc k)) (sym h.is)
      (branch k n x.0 h.formed.front x.1.0 x.1.1 h.formed.first (one n x.1.0 arms.front arms.first) (of-else k (F n) (one n) _ x.1.1 arms.back arms.second))

  of-loop : (k : ℕ) (F : ℕ → B → List Tok → Type 0) → ((n : ℕ) (b : B) (ts : List Tok) → F n b ts → Q k b) → (n : ℕ) (w : List ℕ) (v : S) (ts : List Tok)
      → IsLoop Y G F n w v ts → P (suc k) v
  of-loop k F one n w v ts h =
      let x = h.value in
      subst (P (suc k)) (sym h.is) (loop k n w x.0 h.formed.front x.1 h.formed.first (one n x.1 h.formed.back h.formed.second))

  -- what stands behind the first word of a statement
  pub every-rest : (k n : ℕ) (w : List ℕ) (v : S) (ts : List Tok) → IsRest Y G k n w v ts → P k v
  unfolding IsRest
  every-rest zero n w v ts h =
      by-opening (P zero v) _ _ _ (Y.opening w) v ts h (λ f. absurd f) (λ f. absurd f) (λ f. plain zero n w v ts f)
  every-rest (suc k) n w v ts h =
      let one = of-block k (λ m. form.Headed (IsRest Y G k m)) (λ m u us f. every-rest k m f.word u f.back f.formed) in
      by-opening (P (suc k) v) _ _ _ (Y.opening w) v ts h (λ f. of-branch k _ one n v ts f) (λ f. of-loop k _ one n w v ts f) (λ f. plain (suc k) n w v ts f)

  -- a block
  pub every-block : (k n : ℕ) (b : B) (ts : List Tok) → IsBlock Y G k n b ts → Q k b
  every-block k n b ts h = of-block k (IsStatement Y G k) (λ m u us f. every-rest k m f.word u f.back f.formed) n b ts h
