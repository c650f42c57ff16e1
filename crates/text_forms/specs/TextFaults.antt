-- Why a text is not read, and what is told of it.
use Rattle.std.specs.Prelude.{◌≡◌, ℕ, List, ◌++◌, codes, Result, Err}
use Rattle.std.specs.Fmt.{decimal}
use Rattle.text_tokens.specs.Lexis.{tokens_in}
use Rattle.text_tokens.specs.declared.fault.LexFault.{LexFault}
use Rattle.text_tokens.specs.declared.fault.LexFault.TheVariants as lex
use Rattle.text_forms.specs.declared.text_fault.TextFault.{TextFault}
use Rattle.text_forms.specs.declared.text_fault.TextFault.TheVariants.{BadByte, BigNumber, Syntax, NoMemory}

-- the name of the fault, and its place
abbrev pub text_words : TextFault → List ℕ
text_words (BadByte at) = codes "BadByte " ++ decimal at
text_words (BigNumber at) = codes "BigNumber " ++ decimal at
text_words (Syntax unit) = codes "Syntax " ++ decimal unit
text_words NoMemory = codes "NoMemory"

-- a fault of the lexer
abbrev pub of_lexer : LexFault → TextFault
of_lexer (lex.BadByte at) = BadByte at
of_lexer (lex.BigNumber at) = BigNumber at
of_lexer lex.NoMemory = NoMemory

-- the text has this fault, where `IsBad` says which unit is the first that is not in the grammar
abbrev pub HasTextFault : (ℕ → Type 0) → List ℕ → TextFault → Type 0
HasTextFault IsBad text (BadByte at) = tokens_in text ≡ Err (lex.BadByte at)
HasTextFault IsBad text (BigNumber at) = tokens_in text ≡ Err (lex.BigNumber at)
HasTextFault IsBad text (Syntax unit) = IsBad unit
HasTextFault IsBad text NoMemory = ⊥

-- the text has this fault, and stands for nothing; want of memory says nothing
abbrev pub RefusesText : {A : Type 0} → (ℕ → Type 0) → (A → Type 0) → List ℕ → TextFault → Type 0
RefusesText IsBad Stands text NoMemory = Unit {0}
RefusesText {A} IsBad Stands text fault = HasTextFault IsBad text fault × ((a : A) → Stands a → ⊥)
