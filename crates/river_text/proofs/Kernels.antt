-- The reading of kernels is exact.
use Rattle.std.proofs.Common.{◌≡◌, ℕ, zero, suc, ℤ, pos, neg_ℤ, List, [], ◌∷◌, ◌++◌, true, false, refl, inl, inr}
use Rattle.std.specs.Prelude.{codes}
use Rattle.std.specs.Str.{bytes_eq}
use Rattle.text_tokens.specs.Tok.{Tok, symbol}
use Rattle.text_tokens.specs.declared.sign.Symbol.TheVariants as s
use Rattle.kern_bags.specs.declared.kernel.Window.TheVariants.{Now, Range, Unbounded, Latest}
use Rattle.kern_bags.specs.declared.kernel.Streamer.TheVariants.{Istream, Dstream, Rstream}
use Rattle.river_kernels.specs.Kern.{Kern}
use Rattle.river_kernels.specs.Kern as kern
use Rattle.text_forms.specs.Parse as parse
use Rattle.text_forms.specs.Parse.{Parse}
use Rattle.text_forms.specs.Forms as form
use Rattle.text_forms.proofs.Exact.{Exact, Any, exact-less, exact-as, exact-both, exact-after, exact-before, exact-after_word, exact-tested, exact-seen, exact-maybe}
use Rattle.text_forms.proofs.Exact.{exact-merged, exact-number, exact-value, exact-nothing}
use Rattle.text_forms.proofs.Many.{exact-commas}
use Rattle.text_forms.proofs.Choices.{exact-never, exact-choose, exact-headed, exact-enclosed, exact-listing}
use Rattle.text_blocks.specs.Parts.{Round, round_at}
use Rattle.text_blocks.proofs.Parts as parts
use Rattle.text_blocks.proofs.Statements as blocks
use Rattle.river_text.specs.Bodies.{IsBody, body_at}
use Rattle.river_text.specs.ExactBodies.{exact-terms, exact-river}
use Rattle.river_text.specs.ExactExpressions.{exact-term}
use Rattle.river_text.specs.Expressions.{IsTerm, term_at}
use Rattle.river_text.specs.Kernels.{least, made_code, made_filter, made_fused, Width, Signed, IsStarts, IsCode, IsFilter, IsFusedKernel, BagAfter, KernelAfter, IsBraced}
use Rattle.river_text.specs.Kernels.{FirstParts, AreFirstParts, IsKernel}
use Rattle.river_text.specs.ReadKernels.{width_at, signed_at, round, starts_at, widths_at, weights_at, number_at, two_at, pair_at, rates_at, code_at, filter_at}
use Rattle.river_text.specs.ReadKernels.{three_at, triple_at, first_at, fused_at, range_at, stream_after, relation_after, bag_after, packed_after, ports_after, kernel_after, braced_at, kernel_at}
use Rattle.river_text.proofs.Regroup.{rates-same}

exact-count : Exact form.Count parse.count_at Any
exact-count = exact-tested parse.is_count exact-number

-- a width
pub exact-width : Exact Width width_at Any
exact-width = exact-seen (λ n. pos n) exact-count

-- between round brackets
pub exact-round : {A : Type 0} {F : ℕ → A → List Tok → Type 0} {p : ℕ → Parse A} {E : List Tok → Type 0} → ((n : ℕ) → Exact (F n) (p n) E)
    → ((rest : List Tok) → E (symbol s.Close ∷ rest)) → (n : ℕ) → Exact (Round F n) (round p n) Any
exact-round x follows n = exact-enclosed s.Open s.Close x follows n

-- a value in its range
pub exact-signed : Exact Signed signed_at Any
unfolding signed_at
exact-signed =
    exact-less (exact-merged (parse.begins_with s.Minus) (exact-after (s.Minus ∷ []) (exact-seen neg_ℤ exact-value))
    (exact-merged (parse.is_word_at (codes "min")) (exact-after_word (codes "min") (exact-nothing least)) exact-value min_comes
    (λ v ts rest h d. rw h.formed refl))
    (λ v ts rest h d. rw h.is refl) other) (λ rest d. (tt, (tt, tt)))
  where
    min_comes : (v : ℤ) (ts rest : List Tok) → form.AfterWord (codes "min") (form.Nothing least) v ts → Any rest
        → parse.is_word_at (codes "min") (ts ++ rest) ≡ true
    min_comes v ts rest h d = rw h.is refl

    other : (v : ℤ) (ts rest : List Tok) → form.Merged (form.AfterWord (codes "min") (form.Nothing least)) form.Value v ts → Any rest × Any rest
        → parse.begins_with s.Minus (ts ++ rest) ≡ false
    other v ts rest (inl h) d = rw h.is refl
    other v ts rest (inr h) d = rw h.formed refl

signed-begins : (v : ℤ) (ts rest : List Tok) → Signed v ts → parse.begins_with s.Close (ts ++ rest) ≡ false
signed-begins v ts rest (inl h) = rw h.is refl
signed-begins v ts rest (inr (inl h)) = rw h.is refl
signed-begins v ts rest (inr (inr h)) = rw h.formed refl

width-begins : (v : ℤ) (ts rest : List Tok) → Width v ts → parse.begins_with s.Close (ts ++ rest) ≡ false
width-begins v ts rest h = rw h.formed.formed refl

exact-starts : (n : ℕ) → Exact (IsStarts n) (starts_at n) Any
unfolding starts_at
exact-starts n = exact-round (λ m. exact-listing s.Close exact-signed (λ rest. tt) signed-begins) (λ rest. (refl, (tt, refl))) n

exact-widths : (n : ℕ) → Exact (Round (λ m. form.Listing Width) n) (widths_at n) Any
unfolding widths_at
exact-widths n = exact-round (λ m. exact-listing s.Close exact-width (λ rest. tt) width-begins) (λ rest. (refl, (tt, refl))) n

exact-weights : (n : ℕ) → Exact (Round (λ m. form.Commas form.Value) n) (weights_at n) Any
unfolding weights_at
exact-weights n = exact-round (λ m. exact-commas exact-value (λ rest. tt)) (λ rest. (tt, refl)) n

-- a number that counts something, in brackets
pub exact-counted : (n : ℕ) → Exact (Round (λ m. form.Count) n) (number_at n) Any
unfolding number_at
exact-counted n = exact-round (λ m. exact-count) (λ rest. tt) n

exact-condition : (n : ℕ) → Exact (Round IsTerm n) (round_at term_at n) Any
exact-condition n = parts.exact-round exact-term (λ rest j h. refl) n

-- a body in braces
pub exact-body : (n : ℕ) → Exact (IsBody 16 n) (body_at n) Any
unfolding body_at
exact-body n = blocks.exact-block exact-river 16 n

-- two numbers in brackets
pub exact-pair : (n : ℕ) → Exact (Round (λ m. form.Both form.Count (form.After (s.Comma ∷ []) form.Count)) n) (pair_at n) Any
unfolding pair_at two_at
exact-pair n = exact-round (λ m. exact-both exact-count (exact-after (s.Comma ∷ []) exact-count) (λ y ts rest g d. tt)) (λ rest. tt) n

exact-rates : (n : ℕ)
    → Exact (Round (λ m. form.Both form.Count
    (form.After (s.Comma ∷ []) (form.Both form.Count (form.After (s.Comma ∷ []) (form.Both form.Count (form.After (s.Comma ∷ []) form.Count))))))
    n) (rates_at n) Any
unfolding rates_at
exact-rates n =
    exact-round (λ m. exact-as (exact-both exact-count (exact-after (s.Comma ∷ []) (exact-both exact-count (exact-after (s.Comma ∷ [])
    (exact-both exact-count (exact-after (s.Comma ∷ []) exact-count) (λ y ts rest g d. tt))) (λ y ts rest g d. tt))) (λ y ts rest g d. tt))
    (λ v ts h. h) (λ v ts h. h) rates-same) (λ rest. tt) n

exact-code : (n : ℕ) → Exact (IsCode n) (code_at n) Any
unfolding code_at
exact-code n =
    exact-seen made_code (exact-both (exact-pair n) (exact-both (exact-widths n) (exact-both (exact-starts n) (exact-body n)
    (λ y ts rest g d. tt)) (λ y ts rest g d. tt)) (λ y ts rest g d. tt))

exact-triple : (n : ℕ)
    → Exact (Round (λ m. form.Both form.Count (form.After (s.Comma ∷ []) (form.Both form.Count (form.After (s.Comma ∷ []) form.Count)))) n) (triple_at n) Any
unfolding triple_at three_at two_at
exact-triple n =
    exact-round (λ m. exact-both exact-count (exact-after (s.Comma ∷ []) (exact-both exact-count (exact-after (s.Comma ∷ []) exact-count)
    (λ y ts rest g d. tt))) (λ y ts rest g d. tt)) (λ rest. tt) n

-- a first run does not come next
abbrev NoFirst : List Tok → Type 0
NoFirst rest = parse.is_word_at (codes "first") rest ≡ false

exact-first : (n : ℕ) → Exact (form.Maybe (form.AfterWord (codes "first") (AreFirstParts n))) (first_at n) NoFirst
unfolding first_at
exact-first n =
    exact-less (exact-maybe (parse.is_word_at (codes "first"))
    (exact-after_word (codes "first") (exact-both (exact-triple n) (exact-body n) (λ y ts rest g d. tt))) comes)
    (λ rest d. (tt, d))
  where
    comes : (v : FirstParts) (ts rest : List Tok) → form.AfterWord (codes "first") (AreFirstParts n) v ts → parse.is_word_at (codes "first") (ts ++ rest) ≡ true
    comes v ts rest h = rw h.is refl

exact-filter : (n : ℕ) → Exact (IsFilter n) (filter_at n) NoFirst
unfolding filter_at
exact-filter n =
    exact-seen made_filter (exact-both (exact-rates n) (exact-both (exact-starts n) (exact-both (exact-body n) (exact-first n) (λ y ts rest g d. tt))
    (λ y ts rest g d. tt)) (λ y ts rest g d. tt))

-- what may stand before anything may stand before what is no first run
any : {A : Type 0} {F : A → List Tok → Type 0} {p : Parse A} → Exact F p Any → Exact F p NoFirst
any x = exact-less x (λ rest d. tt)

exact-fused : {braced : Kern → List Tok → Type 0} {p : Parse Kern} → Exact braced p Any → (n : ℕ) → Exact (IsFusedKernel braced n) (fused_at p n) Any
unfolding fused_at
exact-fused x n = exact-seen made_fused (exact-both (exact-counted n) (exact-both x x (λ y ts rest g d. tt)) (λ y ts rest g d. tt))

exact-bag : (n : ℕ) (w : List ℕ) → Exact (BagAfter n w) (bag_after n w) Any
unfolding bag_after relation_after stream_after range_at
exact-bag n w =
    exact-choose (bytes_eq w (codes "now")) (exact-nothing (kern.window Now))
    (exact-choose (bytes_eq w (codes "range")) (exact-seen (λ t. kern.window (Range t)) (exact-round (λ m. exact-value) (λ rest. tt) n))
    (exact-choose (bytes_eq w (codes "unbounded")) (exact-nothing (kern.window Unbounded))
    (exact-choose (bytes_eq w (codes "latest")) (exact-seen (λ k. kern.window (Latest k)) (exact-counted n))
    (exact-choose (bytes_eq w (codes "select")) (exact-seen kern.select (exact-condition n))
    (exact-choose (bytes_eq w (codes "project")) (exact-seen kern.project (exact-terms n))
    (exact-choose (bytes_eq w (codes "cross")) (exact-nothing kern.cross)
    (exact-choose (bytes_eq w (codes "istream")) (exact-nothing (kern.streamer Istream))
    (exact-choose (bytes_eq w (codes "dstream")) (exact-nothing (kern.streamer Dstream))
    (exact-choose (bytes_eq w (codes "rstream")) (exact-nothing (kern.streamer Rstream))
    (exact-choose (bytes_eq w (codes "tally")) (exact-nothing kern.tally)
    exact-never))))))))))

exact-after_kernel : {braced : Kern → List Tok → Type 0} {p : Parse Kern} → Exact braced p Any → (n : ℕ) (w : List ℕ)
    → Exact (KernelAfter braced n w) (kernel_after p n w) NoFirst
unfolding kernel_after ports_after packed_after
exact-after_kernel x n w =
    exact-choose (bytes_eq w (codes "code")) (any (exact-code n))
    (exact-choose (bytes_eq w (codes "filter")) (exact-filter n)
    (any (exact-choose (bytes_eq w (codes "duplicate")) (exact-seen kern.duplicate (exact-counted n))
    (exact-choose (bytes_eq w (codes "deal")) (exact-seen kern.deal (exact-weights n))
    (exact-choose (bytes_eq w (codes "collect")) (exact-seen kern.collect (exact-weights n))
    (exact-choose (bytes_eq w (codes "packed")) (exact-seen kern.packed x)
    (exact-choose (bytes_eq w (codes "unpack")) (exact-seen kern.unpack (exact-counted n))
    (exact-choose (bytes_eq w (codes "fused")) (exact-fused x n)
    (exact-bag n w)))))))))

-- a kernel in braces
pub exact-braced : (n : ℕ) → Exact (IsBraced n) (braced_at n) Any
unfolding IsBraced braced_at
exact-braced zero = exact-never
exact-braced (suc n) = exact-after (s.OpenBrace ∷ []) (exact-before (s.CloseBrace ∷ []) (exact-headed (exact-after_kernel (exact-braced n) n)) (λ rest. refl))

pub exact-kernel : (n : ℕ) → Exact (IsKernel n) (kernel_at n) NoFirst
unfolding kernel_at
exact-kernel n = exact-headed (exact-after_kernel (exact-braced n) n)
