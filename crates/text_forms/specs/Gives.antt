-- How code that reads stands to a reading function.
use Rattle.std.specs.Prelude.{◌≡◌, List, Option, None, Some, Result, Ok, Err}
use Rattle.text_tokens.specs.Tok.{Tok}
use Rattle.text_forms.specs.declared.fault.ParseFault.{ParseFault}
use Rattle.text_forms.specs.declared.fault.ParseFault.TheVariants.{Syntax, NoMemory}

-- the method gives a value, of which this is the view, and leaves the tokens behind it
abbrev pub Gives : {X A : Type 0} → (X → A) → Result X ParseFault → List Tok → Option (A × List Tok) → Type 0
Gives view (Ok x) rest read = read ≡ Some (view x, rest)
Gives view (Err Syntax) rest read = read ≡ None
Gives view (Err NoMemory) rest read = Unit {0}

-- the method passes over tokens
abbrev pub PassesOver : {X : Type 0} → Result X ParseFault → List Tok → Option (List Tok) → Type 0
PassesOver (Ok x) rest read = read ≡ Some rest
PassesOver (Err Syntax) rest read = read ≡ None
PassesOver (Err NoMemory) rest read = Unit {0}

-- the function gives a value, of which this is the view, exactly where there is one
abbrev pub Makes : {X A : Type 0} → (X → A) → Result X ParseFault → Option A → Type 0
Makes view (Ok x) made = made ≡ Some (view x)
Makes view (Err Syntax) made = made ≡ None
Makes view (Err NoMemory) made = Unit {0}

-- the value is given back where the symbol comes, and the reader passes over it
abbrev pub Keeps : {X : Type 0} → X → Result X ParseFault → List Tok → Option (List Tok) → Type 0
Keeps x (Ok y) rest read = (y ≡ x) × (read ≡ Some rest)
Keeps x (Err Syntax) rest read = read ≡ None
Keeps x (Err NoMemory) rest read = Unit {0}
