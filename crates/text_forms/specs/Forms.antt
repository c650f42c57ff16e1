-- Grammars: a form says which tokens stand for a value.
use Rattle.std.specs.Prelude.{◌≡◌, ◌⊎◌, ℕ, List, [], ◌∷◌, ◌++◌, map, Option, None, Some, Bool, true, false, zero, suc}
use Rattle.std.specs.Prelude.{ℤ, pos}
use Rattle.text_forms.specs.Parse.{is_count, is_value}
use Rattle.text_tokens.specs.Tok.{Tok, name, var, number, symbol}
use Rattle.text_tokens.specs.declared.sign.Symbol.{Symbol}
use Rattle.text_tokens.specs.declared.sign.Symbol.TheVariants.{Comma}

-- these tokens stand for this value
abbrev pub Form : Type 0 → Type 1
Form A = A → List Tok → Type 0

-- the tokens of some symbols
abbrev pub symbols : List Symbol → List Tok
symbols run = map (λ s. symbol s) run

abbrev pub NameToken : List ℕ → List Tok → Type 0
NameToken text ts = ts ≡ name text ∷ []

abbrev pub Var : List ℕ → List Tok → Type 0
Var text ts = ts ≡ var text ∷ []

abbrev pub Number : ℕ → List Tok → Type 0
Number value ts = ts ≡ number value ∷ []

-- a number as a value: at most 2^63 - 1, as every number of a text is
pub record Value (value : ℤ) (ts : List Tok) : Type 0 where
  pub number : ℕ
  pub fits : is_value number ≡ true
  pub is : value ≡ pos number
  pub formed : Number number ts

-- no tokens stand for this value
abbrev pub Nothing : {A : Type 0} → A → A → List Tok → Type 0
Nothing v w ts = (w ≡ v) × (ts ≡ [])

-- the first part stands for the first value and the second for the second
pub record Both {A B : Type 0} (F : A → List Tok → Type 0) (G : B → List Tok → Type 0) (v : A × B) (ts : List Tok) : Type 0 where
  pub front : List Tok
  pub back : List Tok
  pub is : ts ≡ front ++ back
  pub first : F v.0 front
  pub second : G v.1 back

-- behind some symbols
pub record After {A : Type 0} (run : List Symbol) (F : A → List Tok → Type 0) (v : A) (ts : List Tok) : Type 0 where
  pub back : List Tok
  pub is : ts ≡ symbols run ++ back
  pub formed : F v back

-- before some symbols
pub record Before {A : Type 0} (F : A → List Tok → Type 0) (run : List Symbol) (v : A) (ts : List Tok) : Type 0 where
  pub front : List Tok
  pub is : ts ≡ front ++ symbols run
  pub formed : F v front

-- behind a word
pub record AfterWord {A : Type 0} (word : List ℕ) (F : A → List Tok → Type 0) (v : A) (ts : List Tok) : Type 0 where
  pub back : List Tok
  pub is : ts ≡ name word ∷ back
  pub formed : F v back

-- with a condition on the value
pub record Tested {A : Type 0} (test : A → Bool) (F : A → List Tok → Type 0) (v : A) (ts : List Tok) : Type 0 where
  pub passes : test v ≡ true
  pub formed : F v ts

-- a number that counts something: at most 4294967295
abbrev pub Count : ℕ → List Tok → Type 0
Count = Tested is_count Number

-- seen as another value
pub record Seen {A B : Type 0} (f : A → B) (F : A → List Tok → Type 0) (w : B) (ts : List Tok) : Type 0 where
  pub value : A
  pub is : w ≡ f value
  pub formed : F value ts

-- one or the other
abbrev pub Merged : {A : Type 0} → (A → List Tok → Type 0) → (A → List Tok → Type 0) → A → List Tok → Type 0
Merged F G v ts = F v ts ⊎ G v ts

-- an optional part
abbrev pub Maybe : {A : Type 0} → (A → List Tok → Type 0) → Option A → List Tok → Type 0
Maybe F None ts = ts ≡ []
Maybe F (Some v) ts = F v ts

-- one after another
abbrev pub Many : {A : Type 0} → (A → List Tok → Type 0) → List A → List Tok → Type 0
Many F [] ts = ts ≡ []
Many F (v ∷ vs) ts = (front : List Tok) × (back : List Tok) × (ts ≡ front ++ back) × F v front × Many F vs back

-- with commas between them, at least one
abbrev pub Commas : {A : Type 0} → (A → List Tok → Type 0) → List A → List Tok → Type 0
Commas F = Seen (λ v. v.0 ∷ v.1) (Both F (Many (After (Comma ∷ []) F)))

-- nothing stands for a value
abbrev pub Never : {A : Type 0} → A → List Tok → Type 0
Never v ts = ⊥

-- one or the other, by a test
abbrev pub Choose : {A : Type 0} → Bool → (A → List Tok → Type 0) → (A → List Tok → Type 0) → A → List Tok → Type 0
Choose true F G = F
Choose false F G = G

-- a word, and then what this word says
pub record Headed {A : Type 0} (F : List ℕ → A → List Tok → Type 0) (v : A) (ts : List Tok) : Type 0 where
  pub word : List ℕ
  pub back : List Tok
  pub is : ts ≡ name word ∷ back
  pub formed : F word v back

-- seen through a function that not every value has an answer of
pub record Known {A B : Type 0} (f : A → Option B) (F : A → List Tok → Type 0) (w : B) (ts : List Tok) : Type 0 where
  pub value : A
  pub is : f value ≡ Some w
  pub formed : F value ts

-- between brackets, where so many more may be open
abbrev pub Enclosed : {A : Type 0} → Symbol → Symbol → (ℕ → A → List Tok → Type 0) → ℕ → A → List Tok → Type 0
Enclosed left right F zero v ts = ⊥
Enclosed left right F (suc n) v ts = After (left ∷ []) (Before (F n) (right ∷ [])) v ts

-- with commas between them, or none
abbrev pub Listing : {A : Type 0} → (A → List Tok → Type 0) → List A → List Tok → Type 0
Listing F = Merged (Nothing []) (Commas F)
