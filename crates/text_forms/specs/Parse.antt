-- Reading functions: what is at the front of some tokens, and the tokens behind it.
use Rattle.std.specs.Prelude.{ℕ, zero, suc, ◌-◌, nat_le, length, List, [], ◌∷◌, ◌++◌, Option, None, Some, Bool, false, ◌==◌, not, if◌then◌else◌}
use Rattle.std.specs.Prelude.{ℤ, pos}
use Rattle.std.specs.Str.{bytes_eq}
use Rattle.text_forms.specs.Tail.{tail}
use Rattle.river_base.specs.Name.{is_name}
use Rattle.text_tokens.specs.Tok.{Tok, name, var, number, symbol}
use Rattle.text_tokens.specs.Symbols.{code_of}
use Rattle.text_tokens.specs.declared.sign.Symbol.{Symbol}
use Rattle.text_tokens.specs.declared.sign.Symbol.TheVariants.{Comma}
use Rattle.text_forms.specs.Repeat.{ReadTurn, Stop, Fail, Next, repeated}

-- a value and the tokens behind it; None where the front is no such value
abbrev pub Parse : Type 0 → Type 0
Parse A = List Tok → Option (A × List Tok)

-- whether the first token is this symbol
abbrev pub begins_with : Symbol → List Tok → Bool
begins_with s [] = false
begins_with s (name text ∷ ts) = false
begins_with s (var text ∷ ts) = false
begins_with s (number value ∷ ts) = false
begins_with s (symbol t ∷ ts) = code_of t == code_of s

-- whether the first token is this word
abbrev pub is_word_at : List ℕ → List Tok → Bool
is_word_at word [] = false
is_word_at word (name text ∷ ts) = bytes_eq text word
is_word_at word (var text ∷ ts) = false
is_word_at word (number value ∷ ts) = false
is_word_at word (symbol t ∷ ts) = false

-- the tokens behind these symbols
abbrev pub symbols_at : List Symbol → List Tok → Option (List Tok)
symbols_at [] ts = Some ts
symbols_at (s ∷ ss) ts = if begins_with s ts then symbols_at ss (tail ts) else None

-- a reading goes on
abbrev pub then_parsed : {A B : Type 0} → Option (A × List Tok) → (A → List Tok → Option (B × List Tok)) → Option (B × List Tok)
then_parsed None more = None
then_parsed (Some read) more = more read.0 read.1

abbrev pub then_rest : {B : Type 0} → Option (List Tok) → (List Tok → Option (B × List Tok)) → Option (B × List Tok)
then_rest None more = None
then_rest (Some rest) more = more rest

-- with a condition on the value
abbrev pub tested : {A : Type 0} → (A → Bool) → Parse A → Parse A
tested test p ts = then_parsed (p ts) (λ a us. if test a then Some (a, us) else None)

-- a name, a variable, a number
abbrev pub name_at : Parse (List ℕ)
name_at [] = None
name_at (name text ∷ ts) = Some (text, ts)
name_at (var text ∷ ts) = None
name_at (number value ∷ ts) = None
name_at (symbol t ∷ ts) = None

abbrev pub var_at : Parse (List ℕ)
var_at [] = None
var_at (name text ∷ ts) = None
var_at (var text ∷ ts) = Some (text, ts)
var_at (number value ∷ ts) = None
var_at (symbol t ∷ ts) = None

abbrev pub number_at : Parse ℕ
number_at [] = None
number_at (name text ∷ ts) = None
number_at (var text ∷ ts) = None
number_at (number value ∷ ts) = Some (value, ts)
number_at (symbol t ∷ ts) = None

-- a name of at most 64 bytes, and a variable with such a name
unfoldable pub short_name_at : Parse (List ℕ)
short_name_at ts = tested is_name name_at ts

unfoldable pub short_var_at : Parse (List ℕ)
short_var_at ts = tested is_name var_at ts

-- a number that counts something: at most 2^32 - 1
abbrev pub is_count : ℕ → Bool
is_count n = nat_le n 4294967295

abbrev pub count_at : Parse ℕ
count_at ts = tested is_count number_at ts

-- a number as a value: at most 2^63 - 1, as every number of a text is
abbrev pub is_value : ℕ → Bool
is_value n = nat_le n 9223372036854775807

abbrev pub value_at : Parse ℤ
value_at ts = then_parsed (tested is_value number_at ts) (λ n us. Some (pos n, us))

-- a name of at most so many bytes
abbrev pub is_short : ℕ → List ℕ → Bool
is_short most text = nat_le (length text) most

-- no value is there
abbrev pub nowhere : {A : Type 0} → Parse A
nowhere ts = None

-- nothing, which always is there
abbrev pub nothing_at : {A : Type 0} → A → Parse A
nothing_at v ts = Some (v, ts)

-- one and then the other
abbrev pub both : {A B : Type 0} → Parse A → Parse B → Parse (A × B)
both p q ts = then_parsed (p ts) (λ a us. then_parsed (q us) (λ b vs. Some ((a, b), vs)))

-- behind some symbols; before some
abbrev pub after : {A : Type 0} → List Symbol → Parse A → Parse A
after run p ts = then_rest (symbols_at run ts) p

abbrev pub before : {A : Type 0} → Parse A → List Symbol → Parse A
before p run ts = then_parsed (p ts) (λ a us. then_rest (symbols_at run us) (λ vs. Some (a, vs)))

-- the tokens behind this word
abbrev pub word_at : List ℕ → List Tok → Option (List Tok)
word_at word ts = if is_word_at word ts then Some (tail ts) else None

-- behind a word
abbrev pub after_word : {A : Type 0} → List ℕ → Parse A → Parse A
after_word word p ts = then_rest (word_at word ts) p

-- seen as another value
abbrev pub seen : {A B : Type 0} → (A → B) → Parse A → Parse B
seen f p ts = then_parsed (p ts) (λ a us. Some (f a, us))

-- one or the other, by a test of what comes
abbrev pub merged : {A : Type 0} → (List Tok → Bool) → Parse A → Parse A → Parse A
merged test p q ts = if test ts then p ts else q ts

-- an optional part, by a test of what comes
abbrev pub maybe : {A : Type 0} → (List Tok → Bool) → Parse A → Parse (Option A)
maybe test p ts = if test ts then then_parsed (p ts) (λ a us. Some (Some a, us)) else Some (None, ts)

-- one more item of a list that goes on until a test holds
abbrev pub item_turn : {A : Type 0} → List A → Option (A × List Tok) → ReadTurn (List A)
item_turn done None = Fail
item_turn done (Some read) = Next (done ++ read.0 ∷ []) read.1

abbrev pub many_turn : {A : Type 0} → (List Tok → Bool) → Parse A → List A → List Tok → ReadTurn (List A)
many_turn stop p done ts = if stop ts then Stop else item_turn done (p ts)

-- items until a test holds
abbrev pub many : {A : Type 0} → (List Tok → Bool) → Parse A → Parse (List A)
many stop p ts = repeated (many_turn stop p) [] ts

-- no comma comes
abbrev pub no_comma : List Tok → Bool
no_comma ts = not (begins_with Comma ts)

-- one more item behind a comma
unfoldable pub comma_turn : {A : Type 0} → Parse A → List A → List Tok → ReadTurn (List A)
comma_turn p done ts = if begins_with Comma ts then item_turn done (p (tail ts)) else Stop

-- items with commas between them, at least one
abbrev pub commas : {A : Type 0} → Parse A → Parse (List A)
commas p ts = then_parsed (p ts) (λ a us. repeated (comma_turn p) (a ∷ []) us)

-- what a word at the front says
abbrev pub headed : {A : Type 0} → (List ℕ → Parse A) → Parse A
headed p ts = then_parsed (name_at ts) p

-- seen through a function that not every value has an answer of
abbrev pub answer_at : {B : Type 0} → Option B → List Tok → Option (B × List Tok)
answer_at None ts = None
answer_at (Some b) ts = Some (b, ts)

abbrev pub known : {A B : Type 0} → (A → Option B) → Parse A → Parse B
known f p ts = then_parsed (p ts) (λ a us. answer_at (f a) us)

-- the tokens behind a bracket, where so many more may be open
unfoldable pub open_at : Symbol → ℕ → List Tok → Option (List Tok)
open_at s zero ts = None
open_at s (suc n) ts = symbols_at (s ∷ []) ts

-- between brackets
abbrev pub enclosed : {A : Type 0} → Symbol → Symbol → (ℕ → Parse A) → ℕ → Parse A
enclosed left right p n ts = then_rest (open_at left n ts) (before (p (n - 1)) (right ∷ []))

-- with commas between them, or none where this symbol comes
abbrev pub listing : {A : Type 0} → Symbol → Parse A → Parse (List A)
listing close p ts = if begins_with close ts then Some ([], ts) else commas p ts
