-- How kernels are read: the grammar in the words of reading functions.
use Rattle.std.specs.Prelude.{ℕ, zero, suc, ℤ, pos, neg_ℤ, List, [], ◌∷◌, Option, None, Some, codes, if◌then◌else◌}
use Rattle.std.specs.Str.{bytes_eq}
use Rattle.text_tokens.specs.declared.sign.Symbol.TheVariants as s
use Rattle.kern_bags.specs.declared.kernel.Window.TheVariants.{Now, Range, Unbounded, Latest}
use Rattle.kern_bags.specs.declared.kernel.Streamer.TheVariants.{Istream, Dstream, Rstream}
use Rattle.river_kernels.specs.Kern.{Kern}
use Rattle.river_kernels.specs.Kern as kern
use Rattle.text_forms.specs.Parse.{Parse, begins_with, is_word_at, count_at, value_at, nothing_at, both, after, before, after_word, seen, merged}
use Rattle.text_forms.specs.Parse.{commas, listing, headed, enclosed, maybe}
use Rattle.text_blocks.specs.Parts.{round_at}
use Rattle.river_text.specs.Bodies.{terms_at, body_at}
use Rattle.river_text.specs.Expressions.{term_at}
use Rattle.river_text.specs.declared.number.Kind.{Kind}
use Rattle.river_text.specs.declared.number.Kind.TheVariants.{Width as OfWidth, Signed as OfSigned, Value as OfValue}
use Rattle.river_text.specs.Kernels.{FirstParts, least, made_code, made_filter, made_fused}

abbrev pub width_at : Parse ℤ
width_at = seen (λ n. pos n) count_at

unfoldable pub signed_at : Parse ℤ
signed_at ts =
    merged (begins_with s.Minus) (after (s.Minus ∷ []) (seen neg_ℤ value_at))
    (merged (is_word_at (codes "min")) (after_word (codes "min") (nothing_at least)) value_at) ts

-- the kinds of numbers in lists
abbrev pub kind_number_at : Kind → Parse ℤ
kind_number_at OfWidth = width_at
kind_number_at OfSigned = signed_at
kind_number_at OfValue = value_at

abbrev pub round : {A : Type 0} → (ℕ → Parse A) → ℕ → Parse A
round p = enclosed s.Open s.Close p

unfoldable pub starts_at : ℕ → Parse (List ℤ)
starts_at n ts = round (λ m. listing s.Close signed_at) n ts

unfoldable pub widths_at : ℕ → Parse (List ℤ)
widths_at n ts = round (λ m. listing s.Close width_at) n ts

unfoldable pub weights_at : ℕ → Parse (List ℤ)
weights_at n ts = round (λ m. commas value_at) n ts

unfoldable pub number_at : ℕ → Parse ℕ
number_at n ts = round (λ m. count_at) n ts

-- two numbers with a comma between them
unfoldable pub two_at : Parse (ℕ × ℕ)
two_at ts = both count_at (after (s.Comma ∷ []) count_at) ts

unfoldable pub pair_at : ℕ → Parse (ℕ × ℕ)
pair_at n ts = round (λ m. two_at) n ts

-- two pairs as four numbers
abbrev pub four : (ℕ × ℕ) × (ℕ × ℕ) → ℕ × (ℕ × (ℕ × ℕ))
four v = (v.0.0, (v.0.1, v.1))

unfoldable pub rates_at : ℕ → Parse (ℕ × (ℕ × (ℕ × ℕ)))
rates_at n ts = round (λ m. seen four (both two_at (after (s.Comma ∷ []) two_at))) n ts

unfoldable pub code_at : ℕ → Parse Kern
code_at n ts = seen made_code (both (pair_at n) (both (widths_at n) (both (starts_at n) (body_at n)))) ts

-- three numbers with commas between them
unfoldable pub three_at : Parse (ℕ × (ℕ × ℕ))
three_at ts = both count_at (after (s.Comma ∷ []) two_at) ts

unfoldable pub triple_at : ℕ → Parse (ℕ × (ℕ × ℕ))
triple_at n ts = round (λ m. three_at) n ts

-- `first`, its rates and its body, or nothing
unfoldable pub first_at : ℕ → Parse (Option FirstParts)
first_at n ts = maybe (is_word_at (codes "first")) (after_word (codes "first") (both (triple_at n) (body_at n))) ts

unfoldable pub filter_at : ℕ → Parse Kern
filter_at n ts = seen made_filter (both (rates_at n) (both (starts_at n) (both (body_at n) (first_at n)))) ts

unfoldable pub fused_at : Parse Kern → ℕ → Parse Kern
fused_at braced n ts = seen made_fused (both (number_at n) (both braced braced)) ts

unfoldable pub range_at : ℕ → Parse ℤ
range_at n ts = round (λ m. value_at) n ts

-- what stands behind the word of a streamer or of a tally
unfoldable pub stream_after : List ℕ → Parse Kern
stream_after w ts =
    if bytes_eq w (codes "istream") then Some (kern.streamer Istream, ts)
    else if bytes_eq w (codes "dstream") then Some (kern.streamer Dstream, ts)
    else if bytes_eq w (codes "rstream") then Some (kern.streamer Rstream, ts)
    else if bytes_eq w (codes "tally") then Some (kern.tally, ts)
    else None

-- that, or behind the word of a kernel on relations
unfoldable pub relation_after : ℕ → List ℕ → Parse Kern
relation_after n w ts =
    if bytes_eq w (codes "select") then seen kern.select (round_at term_at n) ts
    else if bytes_eq w (codes "project") then seen kern.project (terms_at n) ts
    else if bytes_eq w (codes "cross") then Some (kern.cross, ts)
    else stream_after w ts

-- that, or behind the word of a window
unfoldable pub bag_after : ℕ → List ℕ → Parse Kern
bag_after n w ts =
    if bytes_eq w (codes "now") then Some (kern.window Now, ts)
    else if bytes_eq w (codes "range") then seen (λ t. kern.window (Range t)) (range_at n) ts
    else if bytes_eq w (codes "unbounded") then Some (kern.window Unbounded, ts)
    else if bytes_eq w (codes "latest") then seen (λ k. kern.window (Latest k)) (number_at n) ts
    else relation_after n w ts

-- that, or behind the word of a kernel of packs or of two kernels
unfoldable pub packed_after : Parse Kern → ℕ → List ℕ → Parse Kern
packed_after braced n w ts =
    if bytes_eq w (codes "packed") then seen kern.packed braced ts
    else if bytes_eq w (codes "unpack") then seen kern.unpack (number_at n) ts
    else if bytes_eq w (codes "fused") then fused_at braced n ts
    else bag_after n w ts

-- that, or behind the word of a kernel that copies, deals or collects
unfoldable pub ports_after : Parse Kern → ℕ → List ℕ → Parse Kern
ports_after braced n w ts =
    if bytes_eq w (codes "duplicate") then seen kern.duplicate (number_at n) ts
    else if bytes_eq w (codes "deal") then seen kern.deal (weights_at n) ts
    else if bytes_eq w (codes "collect") then seen kern.collect (weights_at n) ts
    else packed_after braced n w ts

unfoldable pub kernel_after : Parse Kern → ℕ → List ℕ → Parse Kern
kernel_after braced n w ts =
    if bytes_eq w (codes "code") then code_at n ts
    else if bytes_eq w (codes "filter") then filter_at n ts
    else ports_after braced n w ts

unfoldable pub braced_at : ℕ → Parse Kern
braced_at zero ts = None
braced_at (suc n) ts = after (s.OpenBrace ∷ []) (before (headed (kernel_after (braced_at n) n)) (s.CloseBrace ∷ [])) ts

unfoldable pub kernel_at : ℕ → Parse Kern
kernel_at n ts = headed (kernel_after (braced_at n) n) ts
