-- The grammar of kernels in River text. `n` is how many more brackets may be open.
use Rattle.std.specs.Prelude.{ℕ, zero, suc, ℤ, pos, negsuc, neg_ℤ, List, [], ◌∷◌, Option, codes}
use Rattle.std.specs.Str.{bytes_eq}
use Rattle.text_tokens.specs.Tok.{Tok}
use Rattle.work_code.specs.Steps.{Steps}
use Rattle.text_tokens.specs.declared.sign.Symbol.TheVariants as s
use Rattle.kern_bags.specs.declared.kernel.Window.TheVariants.{Now, Range, Unbounded, Latest}
use Rattle.kern_bags.specs.declared.kernel.Streamer.TheVariants.{Istream, Dstream, Rstream}
use Rattle.kern_rows.specs.Forms.{RunForm}
use Rattle.river_kernels.specs.Kern.{Kern}
use Rattle.river_kernels.specs.Kern as kern
use Rattle.text_forms.specs.Forms.{Count, Value, Nothing, Never, Both, After, Before, AfterWord, Seen, Merged, Maybe, Commas, Listing, Choose, Headed}
use Rattle.text_blocks.specs.Parts.{Round, optional}
use Rattle.river_text.specs.Bodies.{IsBody}
use Rattle.river_text.specs.Expressions.{IsTerm}

-- N that is a width
abbrev pub Width : ℤ → List Tok → Type 0
Width = Seen (λ n. pos n) Count

-- the least value
abbrev pub least : ℤ
least = negsuc 9223372036854775807

-- signed = ["-"] N | "min"
abbrev pub Signed : ℤ → List Tok → Type 0
Signed = Merged (After (s.Minus ∷ []) (Seen neg_ℤ Value)) (Merged (AfterWord (codes "min") (Nothing least)) Value)

-- starts = "(" [signed {"," signed}] ")"
abbrev pub IsStarts : ℕ → List ℤ → List Tok → Type 0
IsStarts = Round (λ m. Listing Signed)

-- "(" N "," N ")" "(" [N {"," N}] ")" starts body
abbrev pub made_code : (ℕ × ℕ) × (List ℤ × (List ℤ × Steps)) → Kern
made_code v = kern.code (record { body = record { inputs = v.0.0; slots = v.0.1; steps = v.1.1.1 }; outs = v.1.0; starts = v.1.1.0 })

abbrev pub IsCode : ℕ → Kern → List Tok → Type 0
IsCode n =
    Seen made_code (Both (Round (λ m. Both Count (After (s.Comma ∷ []) Count)) n)
    (Both (Round (λ m. Listing Width) n) (Both (IsStarts n) (IsBody 16 n))))

-- "(" N "," N "," N ")" body: the rates of a first run of its own, and its body
abbrev pub FirstParts : Type 0
FirstParts = (ℕ × (ℕ × ℕ)) × Steps

abbrev pub AreFirstParts : ℕ → FirstParts → List Tok → Type 0
AreFirstParts n = Both (Round (λ m. Both Count (After (s.Comma ∷ []) (Both Count (After (s.Comma ∷ []) Count)))) n) (IsBody 16 n)

-- that run of a filter with so many slots
abbrev pub made_first : ℕ → FirstParts → RunForm
made_first slots v = record { peek = v.0.0; pop = v.0.1.0; push = v.0.1.1; body = record { inputs = v.0.0; slots = slots; steps = v.1 } }

-- "(" N "," N "," N "," N ")" starts body ["first" "(" N "," N "," N ")" body]
abbrev pub made_filter : (ℕ × (ℕ × (ℕ × ℕ))) × (List ℤ × (Steps × Option FirstParts)) → Kern
made_filter v =
    kern.filter (record {
      peek = v.0.0;
      pop = v.0.1.0;
      push = v.0.1.1.0;
      body = record { inputs = v.0.0; slots = v.0.1.1.1; steps = v.1.1.0 };
      starts = v.1.0;
      first = optional (made_first v.0.1.1.1) v.1.1.1;
    })

abbrev pub IsFilter : ℕ → Kern → List Tok → Type 0
IsFilter n =
    Seen made_filter (Both (Round (λ m. Both Count (After (s.Comma ∷ []) (Both Count (After (s.Comma ∷ []) (Both Count (After (s.Comma ∷ []) Count)))))) n)
    (Both (IsStarts n) (Both (IsBody 16 n) (Maybe (AfterWord (codes "first") (AreFirstParts n))))))

-- "(" N ")" "{" kernel "}" "{" kernel "}"
abbrev pub made_fused : ℕ × (Kern × Kern) → Kern
made_fused v = kern.fused v.1.0 v.1.1 v.0

abbrev pub IsFusedKernel : (Kern → List Tok → Type 0) → ℕ → Kern → List Tok → Type 0
IsFusedKernel braced n = Seen made_fused (Both (Round (λ m. Count) n) (Both braced braced))

-- what stands behind the word of a kernel on bags of rows
abbrev pub BagAfter : ℕ → List ℕ → Kern → List Tok → Type 0
BagAfter n w =
    Choose (bytes_eq w (codes "now")) (Nothing (kern.window Now))
    (Choose (bytes_eq w (codes "range")) (Seen (λ t. kern.window (Range t)) (Round (λ m. Value) n))
    (Choose (bytes_eq w (codes "unbounded")) (Nothing (kern.window Unbounded))
    (Choose (bytes_eq w (codes "latest")) (Seen (λ k. kern.window (Latest k)) (Round (λ m. Count) n))
    (Choose (bytes_eq w (codes "select")) (Seen kern.select (Round IsTerm n))
    (Choose (bytes_eq w (codes "project")) (Seen kern.project (Round (λ m. Commas (IsTerm m)) n))
    (Choose (bytes_eq w (codes "cross")) (Nothing kern.cross)
    (Choose (bytes_eq w (codes "istream")) (Nothing (kern.streamer Istream))
    (Choose (bytes_eq w (codes "dstream")) (Nothing (kern.streamer Dstream))
    (Choose (bytes_eq w (codes "rstream")) (Nothing (kern.streamer Rstream))
    (Choose (bytes_eq w (codes "tally")) (Nothing kern.tally)
    Never))))))))))

-- what stands behind the word of a kernel; `braced` is "{" kernel "}"
abbrev pub KernelAfter : (Kern → List Tok → Type 0) → ℕ → List ℕ → Kern → List Tok → Type 0
KernelAfter braced n w =
    Choose (bytes_eq w (codes "code")) (IsCode n)
    (Choose (bytes_eq w (codes "filter")) (IsFilter n)
    (Choose (bytes_eq w (codes "duplicate")) (Seen kern.duplicate (Round (λ m. Count) n))
    (Choose (bytes_eq w (codes "deal")) (Seen kern.deal (Round (λ m. Commas Value) n))
    (Choose (bytes_eq w (codes "collect")) (Seen kern.collect (Round (λ m. Commas Value) n))
    (Choose (bytes_eq w (codes "packed")) (Seen kern.packed braced)
    (Choose (bytes_eq w (codes "unpack")) (Seen kern.unpack (Round (λ m. Count) n))
    (Choose (bytes_eq w (codes "fused")) (IsFusedKernel braced n)
    (BagAfter n w))))))))

-- "{" kernel "}"
unfoldable pub IsBraced : ℕ → Kern → List Tok → Type 0
IsBraced zero = Never
IsBraced (suc n) = After (s.OpenBrace ∷ []) (Before (Headed (KernelAfter (IsBraced n) n)) (s.CloseBrace ∷ []))

-- kernel
abbrev pub IsKernel : ℕ → Kern → List Tok → Type 0
IsKernel n = Headed (KernelAfter (IsBraced n) n)
