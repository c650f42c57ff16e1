-- Kernels, printed and read.
use Rattle.std.proofs.Common.{◌≡◌, ℕ, zero, suc, ◌+◌, ◌≤◌, true, List, [], ◌∷◌, ◌++◌, refl, sym, ap, ◌∙◌, subst, arith, append_assoc, append-nil}
use Rattle.std.specs.Prelude.{codes, map, ℤ, Option, None, Some}
use Rattle.std.specs.Fmt.{decimal, signed_decimal}
use Rattle.text_tokens.specs.Lexis.{is_letter, is_word, is_digit}
use Rattle.work_code.specs.Printed.{text_of, body_text}
use Rattle.work_code.specs.Steps.{Steps}
use Rattle.text_tokens.specs.Tok.{Tok, name, number, symbol}
use Rattle.text_tokens.specs.declared.sign.Symbol.TheVariants as s
use Rattle.text_tokens.proofs.Spelled.{is_name_text}
use Rattle.kern_rows.specs.Forms.{CodeForm, FilterForm, RunForm}
use Rattle.kern_bags.specs.declared.kernel.Window.{Window}
use Rattle.kern_bags.specs.declared.kernel.Window.TheVariants.{Now, Range, Unbounded, Latest}
use Rattle.kern_bags.specs.declared.kernel.Streamer.{Streamer}
use Rattle.kern_bags.specs.declared.kernel.Streamer.TheVariants.{Istream, Dstream, Rstream}
use Rattle.river_kernels.specs.Kern.{Kern}
use Rattle.river_kernels.specs.Kern as kern
use Rattle.river_kernels.specs.Limits.{nesting}
use Rattle.text_forms.specs.Forms as form
use Rattle.text_blocks.specs.Parts.{Round, optional}
use Rattle.river_print.specs.Printed.{list_text, values_text, starts_text, start_text, run_text, first_text, firsts_text, window_text, streamer_text, kernel_text}
use Rattle.river_text.specs.Bodies as bodies
use Rattle.river_text.specs.Expressions as exprs
use Rattle.river_text.specs.Kernels as g
use Rattle.river_text.specs.Kernels.{IsBraced}
use Rattle.river_print.specs.Writable as w
use Rattle.river_print.proofs.Listings.{pieces, items-commas, items-listing, count_tok, count-formed, count-item, value_tok, value-item, width-item, start_tok}
use Rattle.river_print.proofs.Listings.{start-item}
use Rattle.river_print.proofs.Pieces.{Piece, AllPieces, EndsWord, piece-nothing, ends-nothing, piece-then, word-first, blank-first, braced, ends-blank}
use Rattle.river_print.proofs.Pieces.{ends-open, items_toks, list-first}
use Rattle.river_print.proofs.PrintedExpr.{printed}
use Rattle.river_print.proofs.Terms.{term-item, body_toks, body-piece, body-formed, round-formed, behind_round}

-- items in round brackets at the end
pub list-last : (bs : List (List ℕ)) (ts : List (List Tok)) → AllPieces bs ts → Piece (list_text bs) (symbol s.Open ∷ (items_toks ts ++ symbol s.Close ∷ []))
list-last bs ts h =
    subst (λ (l : List ℕ). Piece l (symbol s.Open ∷ (items_toks ts ++ symbol s.Close ∷ []))) (append-nil (list_text bs))
    (list-first bs ts [] [] h piece-nothing)

-- the tokens of a list, before others
abbrev pub listed : List (List Tok) → List Tok → List Tok
listed ts us = symbol s.Open ∷ (items_toks ts ++ symbol s.Close ∷ us)

abbrev counts : List ℕ → List (List Tok)
counts ns = map count_tok ns

counts-pieces : (ns : List ℕ) → w.Every w.IsCount ns → AllPieces (map decimal ns) (map count_tok ns)
counts-pieces ns h = pieces form.Count decimal count_tok w.IsCount count-item ns h

abbrev run_toks : List ℤ → Steps → List Tok
run_toks starts steps = listed (map start_tok starts) (body_toks steps)

run-piece : (starts : List ℤ) (steps : Steps) → w.Every w.IsWritableStart starts → w.AreWritableSteps steps
    → Piece (run_text starts steps) (run_toks starts steps)
run-piece starts steps h b =
    blank-first (starts_text starts ++ (codes " " ++ body_text steps)) (run_toks starts steps)
    (list-first (map start_text starts) (map start_tok starts) (codes " " ++ body_text steps) (body_toks steps)
    (pieces g.Signed start_text start_tok w.IsWritableStart start-item starts h)
    (blank-first (body_text steps) (body_toks steps) (body-piece steps b)))

-- a first run of its own, or none
abbrev first_toks : RunForm → List Tok
first_toks r = name (codes "first") ∷ listed (counts (r.peek ∷ r.pop ∷ r.push ∷ [])) (body_toks r.body.steps)

abbrev firsts_toks : Option RunForm → List Tok
firsts_toks None = []
firsts_toks (Some r) = first_toks r

-- what stands behind the word `filter`
abbrev filter_toks : FilterForm → List Tok
filter_toks f = listed (counts (f.peek ∷ f.pop ∷ f.push ∷ f.body.slots ∷ [])) (run_toks f.starts f.body.steps ++ firsts_toks f.first)

window_toks : Window → List Tok
window_toks Now = name (codes "now") ∷ []
window_toks (Range t) = name (codes "range") ∷ listed (value_tok t ∷ []) []
window_toks Unbounded = name (codes "unbounded") ∷ []
window_toks (Latest n) = name (codes "latest") ∷ listed (count_tok n ∷ []) []

streamer_toks : Streamer → List Tok
streamer_toks Istream = name (codes "istream") ∷ []
streamer_toks Dstream = name (codes "dstream") ∷ []
streamer_toks Rstream = name (codes "rstream") ∷ []

-- the tokens of a kernel
pub kernel_toks : Kern → List Tok
kernel_toks (kern.code c) =
    name (codes "code") ∷ listed (counts (c.body.inputs ∷ c.body.slots ∷ [])) (listed (map value_tok c.outs) (run_toks c.starts c.body.steps))
kernel_toks (kern.filter f) = name (codes "filter") ∷ filter_toks f
kernel_toks (kern.duplicate n) = name (codes "duplicate") ∷ listed (count_tok n ∷ []) []
kernel_toks (kern.deal ws) = name (codes "deal") ∷ listed (map value_tok ws) []
kernel_toks (kern.collect ws) = name (codes "collect") ∷ listed (map value_tok ws) []
kernel_toks (kern.packed k) = name (codes "packed") ∷ symbol s.OpenBrace ∷ (kernel_toks k ++ symbol s.CloseBrace ∷ [])
kernel_toks (kern.unpack n) = name (codes "unpack") ∷ listed (count_tok n ∷ []) []
kernel_toks (kern.window x) = window_toks x
kernel_toks (kern.select e) = name (codes "select") ∷ listed (printed e ∷ []) []
kernel_toks (kern.project es) = name (codes "project") ∷ listed (map printed es) []
kernel_toks kern.cross = name (codes "cross") ∷ []
kernel_toks (kern.streamer x) = streamer_toks x
kernel_toks kern.tally = name (codes "tally") ∷ []
kernel_toks (kern.fused a b at) =
    name (codes "fused") ∷ listed (count_tok at ∷ [])
    ((symbol s.OpenBrace ∷ (kernel_toks a ++ symbol s.CloseBrace ∷ [])) ++ symbol s.OpenBrace ∷ (kernel_toks b ++ symbol s.CloseBrace ∷ []))

-- ---- the text has these tokens

-- a word and a list
pub worded : (word : List ℕ) (bs : List (List ℕ)) (ts : List (List Tok)) → is_name_text word ≡ true → AllPieces bs ts
    → Piece (word ++ list_text bs) (name word ∷ listed ts [])
worded word bs ts is h = word-first word (list_text bs) (listed ts []) is (list-last bs ts h) (ends_list bs)
  where
    ends_list : (bs : List (List ℕ)) → EndsWord (list_text bs)
    ends_list [] = ends-open (codes ")")
    ends_list (b ∷ bs) = ends-open _

lone : (word : List ℕ) → is_name_text word ≡ true → Piece word (name word ∷ [])
lone word is = subst (λ (l : List ℕ). Piece l (name word ∷ [])) (append-nil word) (word-first word [] [] is piece-nothing ends-nothing)

module _ where
  is_code : is_name_text (codes "code") ≡ true
  unfolding is_letter is_word is_digit
  is_code = refl

  is_filter : is_name_text (codes "filter") ≡ true
  unfolding is_letter is_word is_digit
  is_filter = refl

  is_first : is_name_text (codes "first") ≡ true
  unfolding is_letter is_word is_digit
  is_first = refl

  is_duplicate : is_name_text (codes "duplicate") ≡ true
  unfolding is_letter is_word is_digit
  is_duplicate = refl

  is_deal : is_name_text (codes "deal") ≡ true
  unfolding is_letter is_word is_digit
  is_deal = refl

  is_collect : is_name_text (codes "collect") ≡ true
  unfolding is_letter is_word is_digit
  is_collect = refl

  is_packed : is_name_text (codes "packed") ≡ true
  unfolding is_letter is_word is_digit
  is_packed = refl

  is_unpack : is_name_text (codes "unpack") ≡ true
  unfolding is_letter is_word is_digit
  is_unpack = refl

  is_now : is_name_text (codes "now") ≡ true
  unfolding is_letter is_word is_digit
  is_now = refl

  is_range : is_name_text (codes "range") ≡ true
  unfolding is_letter is_word is_digit
  is_range = refl

  is_unbounded : is_name_text (codes "unbounded") ≡ true
  unfolding is_letter is_word is_digit
  is_unbounded = refl

  is_latest : is_name_text (codes "latest") ≡ true
  unfolding is_letter is_word is_digit
  is_latest = refl

  is_select : is_name_text (codes "select") ≡ true
  unfolding is_letter is_word is_digit
  is_select = refl

  is_project : is_name_text (codes "project") ≡ true
  unfolding is_letter is_word is_digit
  is_project = refl

  is_cross : is_name_text (codes "cross") ≡ true
  unfolding is_letter is_word is_digit
  is_cross = refl

  is_istream : is_name_text (codes "istream") ≡ true
  unfolding is_letter is_word is_digit
  is_istream = refl

  is_dstream : is_name_text (codes "dstream") ≡ true
  unfolding is_letter is_word is_digit
  is_dstream = refl

  is_rstream : is_name_text (codes "rstream") ≡ true
  unfolding is_letter is_word is_digit
  is_rstream = refl

  is_tally : is_name_text (codes "tally") ≡ true
  unfolding is_letter is_word is_digit
  is_tally = refl

  is_fused : is_name_text (codes "fused") ≡ true
  unfolding is_letter is_word is_digit
  is_fused = refl

one_count : (n : ℕ) → w.IsCount n → AllPieces (decimal n ∷ []) (count_tok n ∷ [])
one_count n h = counts-pieces (n ∷ []) (h, tt)

window-piece : (x : Window) → w.IsWritableWindow x → Piece (window_text x) (window_toks x)
unfolding window_toks
window-piece Now h = lone (codes "now") is_now
window-piece (Range t) h = worded (codes "range") (signed_decimal t ∷ []) (value_tok t ∷ []) is_range ((value-item t h).piece, tt)
window-piece Unbounded h = lone (codes "unbounded") is_unbounded
window-piece (Latest n) h = worded (codes "latest") (decimal n ∷ []) (count_tok n ∷ []) is_latest (one_count n h)

streamer-piece : (x : Streamer) → Piece (streamer_text x) (streamer_toks x)
unfolding streamer_toks
streamer-piece Istream = lone (codes "istream") is_istream
streamer-piece Dstream = lone (codes "dstream") is_dstream
streamer-piece Rstream = lone (codes "rstream") is_rstream

code-piece : (c : CodeForm) → w.IsWritableCode c → Piece (kernel_text (kern.code c)) (kernel_toks (kern.code c))
unfolding kernel_toks
code-piece c h =
    let outs = map value_tok c.outs in
    let run : Piece (run_text c.starts c.body.steps) (run_toks c.starts c.body.steps) = run-piece c.starts c.body.steps h.3 h.4.0 in
    let widths : Piece (values_text c.outs ++ run_text c.starts c.body.steps) (listed outs (run_toks c.starts c.body.steps)) =
    list-first (map signed_decimal c.outs) outs (run_text c.starts c.body.steps) (run_toks c.starts c.body.steps)
    (pieces g.Width signed_decimal value_tok w.IsWidth width-item c.outs h.2) run in
    let sizes : Piece (list_text (decimal c.body.inputs ∷ decimal c.body.slots ∷ []) ++ (codes " " ++ (values_text c.outs ++ run_text c.starts c.body.steps)))
    (listed (counts (c.body.inputs ∷ c.body.slots ∷ [])) (listed outs (run_toks c.starts c.body.steps))) =
    list-first (decimal c.body.inputs ∷ decimal c.body.slots ∷ []) (counts (c.body.inputs ∷ c.body.slots ∷ []))
    (codes " " ++ (values_text c.outs ++ run_text c.starts c.body.steps)) (listed outs (run_toks c.starts c.body.steps))
    (counts-pieces (c.body.inputs ∷ c.body.slots ∷ []) (h.0, (h.1, tt)))
    (blank-first (values_text c.outs ++ run_text c.starts c.body.steps) (listed outs (run_toks c.starts c.body.steps)) widths) in
    word-first (codes "code")
    (list_text (decimal c.body.inputs ∷ decimal c.body.slots ∷ []) ++ (codes " " ++ (values_text c.outs ++ run_text c.starts c.body.steps)))
    (listed (counts (c.body.inputs ∷ c.body.slots ∷ [])) (listed outs (run_toks c.starts c.body.steps))) is_code sizes
    (ends-open _)

first-piece : (slots : ℕ) (r : RunForm) → w.IsWritableRun slots r → Piece (first_text r) (first_toks r)
first-piece slots r h =
    let ns : List ℕ = r.peek ∷ r.pop ∷ r.push ∷ [] in
    let rates : Piece (list_text (map decimal ns) ++ (codes " " ++ body_text r.body.steps)) (listed (counts ns) (body_toks r.body.steps)) =
    list-first (map decimal ns) (counts ns) (codes " " ++ body_text r.body.steps) (body_toks r.body.steps) (counts-pieces ns (h.0, (h.1, (h.2, tt))))
    (blank-first (body_text r.body.steps) (body_toks r.body.steps) (body-piece r.body.steps h.3.0)) in
    blank-first (codes "first" ++ (list_text (map decimal ns) ++ (codes " " ++ body_text r.body.steps))) (first_toks r)
    (word-first (codes "first") (list_text (map decimal ns) ++ (codes " " ++ body_text r.body.steps))
    (listed (counts ns) (body_toks r.body.steps)) is_first rates
    (ends-open _))

firsts-piece : (slots : ℕ) (o : Option RunForm) → w.IsWritableFirst slots o → Piece (firsts_text o) (firsts_toks o)
firsts-piece slots None h = piece-nothing
firsts-piece slots (Some r) h = first-piece slots r h

firsts-ends : (o : Option RunForm) → EndsWord (firsts_text o)
firsts-ends None = ends-nothing
firsts-ends (Some r) = ends-blank _

filter-piece : (f : FilterForm) → w.IsWritableFilter f → Piece (kernel_text (kern.filter f)) (kernel_toks (kern.filter f))
unfolding kernel_toks
filter-piece f h =
    let ns : List ℕ = f.peek ∷ f.pop ∷ f.push ∷ f.body.slots ∷ [] in
    let text : List ℕ = run_text f.starts f.body.steps ++ firsts_text f.first in
    let toks : List Tok = run_toks f.starts f.body.steps ++ firsts_toks f.first in
    let runs : Piece text toks =
    piece-then (run_text f.starts f.body.steps) (run_toks f.starts f.body.steps) (firsts_text f.first) (firsts_toks f.first)
    (run-piece f.starts f.body.steps h.4 h.5.0)
    (firsts-piece f.body.slots f.first h.7) (firsts-ends f.first) in
    word-first (codes "filter") (list_text (map decimal ns) ++ text) (listed (counts ns) toks) is_filter
    (list-first (map decimal ns) (counts ns) text toks (counts-pieces ns (h.0, (h.1, (h.2, (h.3, tt))))) runs)
    (ends-open _)

packed-piece : (k : Kern) → Piece (kernel_text k) (kernel_toks k) → Piece (kernel_text (kern.packed k)) (kernel_toks (kern.packed k))
unfolding kernel_toks
packed-piece k p =
    word-first (codes "packed") (codes " " ++ (codes "{ " ++ (kernel_text k ++ codes " }")))
    (symbol s.OpenBrace ∷ (kernel_toks k ++ symbol s.CloseBrace ∷ [])) is_packed
    (blank-first (codes "{ " ++ (kernel_text k ++ codes " }")) (symbol s.OpenBrace ∷ (kernel_toks k ++ symbol s.CloseBrace ∷ []))
    (braced (kernel_text k) (kernel_toks k) p))
    (ends-blank (codes "{ " ++ (kernel_text k ++ codes " }")))

fused-piece : (a b : Kern) (at : ℕ) → w.IsCount at → Piece (kernel_text a) (kernel_toks a) → Piece (kernel_text b) (kernel_toks b)
    → Piece (kernel_text (kern.fused a b at)) (kernel_toks (kern.fused a b at))
unfolding kernel_toks
fused-piece a b at count p q =
    let first : List ℕ = codes "{ " ++ (kernel_text a ++ codes " }") in
    let second : List ℕ = codes "{ " ++ (kernel_text b ++ codes " }") in
    let first_toks : List Tok = symbol s.OpenBrace ∷ (kernel_toks a ++ symbol s.CloseBrace ∷ []) in
    let second_toks : List Tok = symbol s.OpenBrace ∷ (kernel_toks b ++ symbol s.CloseBrace ∷ []) in
    let both : Piece (first ++ (codes " " ++ second)) (first_toks ++ second_toks) =
    piece-then first first_toks (codes " " ++ second) second_toks (braced (kernel_text a) (kernel_toks a) p)
    (blank-first second second_toks (braced (kernel_text b) (kernel_toks b) q)) (ends-blank second) in
    let regroup : codes " " ++ (first ++ (codes " " ++ second)) ≡ codes " { " ++ (kernel_text a ++ (codes " } { " ++ (kernel_text b ++ codes " }"))) =
    ap (λ (l : List ℕ). codes " { " ++ l) (append_assoc (kernel_text a) (codes " }") (codes " " ++ second)) in
    let behind : Piece (codes " { " ++ (kernel_text a ++ (codes " } { " ++ (kernel_text b ++ codes " }")))) (first_toks ++ second_toks) =
    subst (λ (l : List ℕ). Piece l (first_toks ++ second_toks)) regroup (blank-first (first ++ (codes " " ++ second)) (first_toks ++ second_toks) both) in
    word-first (codes "fused") (list_text (decimal at ∷ []) ++ (codes " { " ++ (kernel_text a ++ (codes " } { " ++ (kernel_text b ++ codes " }")))))
    (listed (count_tok at ∷ []) (first_toks ++ second_toks)) is_fused
    (list-first (decimal at ∷ []) (count_tok at ∷ []) (codes " { " ++ (kernel_text a ++ (codes " } { " ++ (kernel_text b ++ codes " }"))))
    (first_toks ++ second_toks) (one_count at count) behind)
    (ends-open _)

-- the text of a kernel spells its tokens
pub kernel-piece : (k : Kern) → w.IsWritableKernel k → Piece (kernel_text k) (kernel_toks k)
unfolding kernel_toks
kernel-piece (kern.code c) h = code-piece c h
kernel-piece (kern.filter f) h = filter-piece f h
kernel-piece (kern.duplicate n) h = worded (codes "duplicate") (decimal n ∷ []) (count_tok n ∷ []) is_duplicate (one_count n h)
kernel-piece (kern.deal ws) h =
    worded (codes "deal") (map signed_decimal ws) (map value_tok ws) is_deal (pieces form.Value signed_decimal value_tok w.IsNatural value-item ws h.1)
kernel-piece (kern.collect ws) h =
    worded (codes "collect") (map signed_decimal ws) (map value_tok ws) is_collect (pieces form.Value signed_decimal value_tok w.IsNatural value-item ws h.1)
kernel-piece (kern.packed k) h = packed-piece k (kernel-piece k h)
kernel-piece (kern.unpack n) h = worded (codes "unpack") (decimal n ∷ []) (count_tok n ∷ []) is_unpack (one_count n h)
kernel-piece (kern.window x) h = window-piece x h
kernel-piece (kern.select e) h = worded (codes "select") (text_of e ∷ []) (printed e ∷ []) is_select ((term-item 64 (omega arith) e h).piece, tt)
kernel-piece (kern.project es) h =
    worded (codes "project") (map text_of es) (map printed es) is_project
    (pieces (exprs.IsTerm 64) text_of printed w.IsWritableTerm (term-item 64 (omega arith)) es h.1)
kernel-piece kern.cross h = lone (codes "cross") is_cross
kernel-piece (kern.streamer x) h = streamer-piece x
kernel-piece kern.tally h = lone (codes "tally") is_tally
kernel-piece (kern.fused a b at) h = fused-piece a b at h.0 (kernel-piece a h.1) (kernel-piece b h.2)

-- ---- these tokens stand for the kernel

pair-formed : (a b : ℕ) → w.IsCount a → w.IsCount b
    → form.Both form.Count (form.After (s.Comma ∷ []) form.Count) (a, b) (number a ∷ symbol s.Comma ∷ number b ∷ [])
pair-formed a b x y =
    record {
      front = number a ∷ [];
      back = symbol s.Comma ∷ number b ∷ [];
      is = refl;
      first = count-formed a x;
      second =
          record { back = number b ∷ []; is = refl; formed = count-formed b y };
    }

four-formed : (a b c d : ℕ) → w.IsCount a → w.IsCount b → w.IsCount c → w.IsCount d
    → form.Both form.Count
    (form.After (s.Comma ∷ []) (form.Both form.Count (form.After (s.Comma ∷ []) (form.Both form.Count (form.After (s.Comma ∷ []) form.Count)))))
    (a, (b, (c, d))) (number a ∷ symbol s.Comma ∷ number b ∷ symbol s.Comma ∷ number c ∷ symbol s.Comma ∷ number d ∷ [])
four-formed a b c d x y z u = record {
  front = number a ∷ [];
  back = symbol s.Comma ∷ number b ∷ symbol s.Comma ∷ number c ∷ symbol s.Comma ∷ number d ∷ [];
  is = refl;
  first = count-formed a x;
  second = record {
    back = number b ∷ symbol s.Comma ∷ number c ∷ symbol s.Comma ∷ number d ∷ [];
    is = refl;
    formed = record {
      front = number b ∷ [];
      back = symbol s.Comma ∷ number c ∷ symbol s.Comma ∷ number d ∷ [];
      is = refl;
      first = count-formed b y;
      second = record { back = number c ∷ symbol s.Comma ∷ number d ∷ []; is = refl; formed = pair-formed c d z u };
    };
  };
}

-- a list and what comes behind
list-then : {A B : Type 0} (F : ℕ → A → List Tok → Type 0) (G : B → List Tok → Type 0) (m : ℕ) (v : A) (x : B) (ts us : List Tok) → F m v ts → G x us
    → form.Both (Round F (suc m)) G (v, x) (symbol s.Open ∷ (ts ++ symbol s.Close ∷ us))
list-then F G m v x ts us f y =
    record { front = symbol s.Open ∷ (ts ++ symbol s.Close ∷ []); back = us; is = behind_round ts us; first = round-formed F m v ts f; second = y }

abbrev runs : ℕ → List ℤ × Steps → List Tok → Type 0
runs n = form.Both (g.IsStarts n) (bodies.IsBody 16 n)

run-formed : (m : ℕ) (starts : List ℤ) (steps : Steps) → w.Every w.IsWritableStart starts → w.IsWritableBody steps → 81 ≤ m
    → runs (suc m) (starts, steps) (run_toks starts steps)
run-formed m starts steps h b room =
    list-then (λ k. form.Listing g.Signed) (bodies.IsBody 16 (suc m)) m starts steps (items_toks (map start_tok starts)) (body_toks steps)
    (items-listing g.Signed start_text start_tok w.IsWritableStart start-item starts h) (body-formed 16 (suc m) steps b.0 b.1 (omega arith))

code-formed : (m : ℕ) (c : CodeForm) → w.IsWritableCode c → 81 ≤ m
    → g.IsCode (suc m) (kern.code c) (listed (counts (c.body.inputs ∷ c.body.slots ∷ [])) (listed (map value_tok c.outs) (run_toks c.starts c.body.steps)))
code-formed m c h room = record {
  value = ((c.body.inputs, c.body.slots), (c.outs, (c.starts, c.body.steps)));
  is = refl;
  formed =
      list-then (λ k. form.Both form.Count (form.After (s.Comma ∷ []) form.Count)) (form.Both (Round (λ k. form.Listing g.Width) (suc m)) (runs (suc m))) m
      (c.body.inputs, c.body.slots) (c.outs, (c.starts, c.body.steps))
      (number c.body.inputs ∷ symbol s.Comma ∷ number c.body.slots ∷ []) (listed (map value_tok c.outs) (run_toks c.starts c.body.steps))
      (pair-formed c.body.inputs c.body.slots h.0 h.1)
      (list-then (λ k. form.Listing g.Width) (runs (suc m)) m c.outs (c.starts, c.body.steps) (items_toks (map value_tok c.outs))
      (run_toks c.starts c.body.steps)
      (items-listing g.Width signed_decimal value_tok w.IsWidth width-item c.outs h.2) (run-formed m c.starts c.body.steps h.3 h.4 room));
}

three-formed : (a b c : ℕ) → w.IsCount a → w.IsCount b → w.IsCount c
    → form.Both form.Count (form.After (s.Comma ∷ []) (form.Both form.Count (form.After (s.Comma ∷ []) form.Count))) (a, (b, c))
    (number a ∷ symbol s.Comma ∷ number b ∷ symbol s.Comma ∷ number c ∷ [])
three-formed a b c x y z = record {
  front = number a ∷ [];
  back = symbol s.Comma ∷ number b ∷ symbol s.Comma ∷ number c ∷ [];
  is = refl;
  first = count-formed a x;
  second = record { back = number b ∷ symbol s.Comma ∷ number c ∷ []; is = refl; formed = pair-formed b c y z };
}

-- the parts of a first run
abbrev parts_of : RunForm → g.FirstParts
parts_of r = ((r.peek, (r.pop, r.push)), r.body.steps)

first-formed : (m slots : ℕ) (r : RunForm) → w.IsWritableRun slots r → 81 ≤ m
    → form.AfterWord (codes "first") (g.AreFirstParts (suc m)) (parts_of r) (first_toks r)
first-formed m slots r h room = record {
  back = listed (counts (r.peek ∷ r.pop ∷ r.push ∷ [])) (body_toks r.body.steps);
  is = refl;
  formed =
      list-then (λ k. form.Both form.Count (form.After (s.Comma ∷ []) (form.Both form.Count (form.After (s.Comma ∷ []) form.Count))))
      (bodies.IsBody 16 (suc m)) m (r.peek, (r.pop, r.push)) r.body.steps
      (number r.peek ∷ symbol s.Comma ∷ number r.pop ∷ symbol s.Comma ∷ number r.push ∷ []) (body_toks r.body.steps)
      (three-formed r.peek r.pop r.push h.0 h.1 h.2)
      (body-formed 16 (suc m) r.body.steps h.3.0 h.3.1 (omega arith));
}

firsts-formed : (m slots : ℕ) (o : Option RunForm) → w.IsWritableFirst slots o → 81 ≤ m
    → form.Maybe (form.AfterWord (codes "first") (g.AreFirstParts (suc m))) (optional parts_of o) (firsts_toks o)
firsts-formed m slots None h room = refl
firsts-formed m slots (Some r) h room = first-formed m slots r h room

-- a run and its parts are one
run-is : (slots : ℕ) (r : RunForm) → w.IsWritableRun slots r → r ≡ g.made_first slots (parts_of r)
run-is slots r h =
    ap (λ (k : ℕ). record { peek = r.peek; pop = r.pop; push = r.push; body = record { inputs = k; slots = r.body.slots; steps = r.body.steps } }) h.4
    ∙ ap (λ (k : ℕ). record { peek = r.peek; pop = r.pop; push = r.push; body = record { inputs = r.peek; slots = k; steps = r.body.steps } }) h.5

runs-are : (slots : ℕ) (o : Option RunForm) → w.IsWritableFirst slots o → o ≡ optional (g.made_first slots) (optional parts_of o)
runs-are slots None h = refl
runs-are slots (Some r) h = ap (λ (x : RunForm). Some x) (run-is slots r h)

-- starts, a body, and what stands behind it
abbrev filter_runs : ℕ → List ℤ × (Steps × Option g.FirstParts) → List Tok → Type 0
filter_runs n = form.Both (g.IsStarts n) (form.Both (bodies.IsBody 16 n) (form.Maybe (form.AfterWord (codes "first") (g.AreFirstParts n))))

runs-formed : (m slots : ℕ) (starts : List ℤ) (steps : Steps) (o : Option RunForm)
    → w.Every w.IsWritableStart starts → w.IsWritableBody steps → w.IsWritableFirst slots o → 81 ≤ m
    → filter_runs (suc m) (starts, (steps, optional parts_of o)) (run_toks starts steps ++ firsts_toks o)
runs-formed m slots starts steps o h b f room =
    let ts = symbol s.Open ∷ (items_toks (map start_tok starts) ++ symbol s.Close ∷ []) in
    record {
      front = ts;
      back = body_toks steps ++ firsts_toks o;
      is = ap (λ (l : List Tok). l ++ firsts_toks o) (behind_round (items_toks (map start_tok starts)) (body_toks steps))
          ∙ append_assoc ts (body_toks steps) (firsts_toks o);
      first = round-formed (λ k. form.Listing g.Signed) m starts (items_toks (map start_tok starts))
          (items-listing g.Signed start_text start_tok w.IsWritableStart start-item starts h);
      second = record {
        front = body_toks steps;
        back = firsts_toks o;
        is = refl;
        first = body-formed 16 (suc m) steps b.0 b.1 (omega arith);
        second = firsts-formed m slots o f room;
      };
    }

filter-formed : (m : ℕ) (f : FilterForm) → w.IsWritableFilter f → 81 ≤ m → g.IsFilter (suc m) (kern.filter f) (filter_toks f)
filter-formed m f h room = record {
  value = ((f.peek, (f.pop, (f.push, f.body.slots))), (f.starts, (f.body.steps, optional parts_of f.first)));
  is =
      ap (λ (k : ℕ). kern.filter
      (record {
        peek = f.peek;
        pop = f.pop;
        push = f.push;
        body = record { inputs = k; slots = f.body.slots; steps = f.body.steps };
        starts =
            f.starts;
        first = f.first;
      })) h.6
      ∙ ap (λ (o : Option RunForm). kern.filter
      (record {
        peek = f.peek;
        pop = f.pop;
        push = f.push;
        body = record { inputs = f.peek; slots = f.body.slots; steps = f.body.steps };
        starts =
            f.starts;
        first = o;
      })) (runs-are f.body.slots f.first h.7);
  formed =
      list-then (λ k. form.Both form.Count
      (form.After (s.Comma ∷ []) (form.Both form.Count (form.After (s.Comma ∷ []) (form.Both form.Count (form.After (s.Comma ∷ []) form.Count))))))
      (filter_runs (suc m)) m (f.peek, (f.pop, (f.push, f.body.slots))) (f.starts, (f.body.steps, optional parts_of f.first))
      (number f.peek ∷ symbol s.Comma ∷ number f.pop ∷ symbol s.Comma ∷ number f.push ∷ symbol s.Comma ∷ number f.body.slots ∷ [])
      (run_toks f.starts f.body.steps ++ firsts_toks f.first) (four-formed f.peek f.pop f.push f.body.slots h.0 h.1 h.2 h.3)
      (runs-formed m f.body.slots f.starts f.body.steps f.first h.4 h.5 h.7 room);
}

window-formed : (m : ℕ) (x : Window) → w.IsWritableWindow x → g.IsKernel (suc m) (kern.window x) (window_toks x)
unfolding window_toks
window-formed m Now h = record { word = codes "now"; back = []; is = refl; formed = (refl, refl) }
window-formed m (Range t) h =
    record {
      word = codes "range";
      back = listed (value_tok t ∷ []) [];
      is = refl;
      formed =
          record { value = t; is = refl; formed = round-formed (λ k. form.Value) m t (value_tok t) ((value-item t h).formed) };
    }
window-formed m Unbounded h = record { word = codes "unbounded"; back = []; is = refl; formed = (refl, refl) }
window-formed m (Latest n) h =
    record {
      word = codes "latest";
      back = listed (count_tok n ∷ []) [];
      is = refl;
      formed =
          record { value = n; is = refl; formed = round-formed (λ k. form.Count) m n (count_tok n) (count-formed n h) };
    }

streamer-formed : (m : ℕ) (x : Streamer) → g.IsKernel (suc m) (kern.streamer x) (streamer_toks x)
unfolding streamer_toks
streamer-formed m Istream = record { word = codes "istream"; back = []; is = refl; formed = (refl, refl) }
streamer-formed m Dstream = record { word = codes "dstream"; back = []; is = refl; formed = (refl, refl) }
streamer-formed m Rstream = record { word = codes "rstream"; back = []; is = refl; formed = (refl, refl) }

-- a kernel in braces
in_braces : (m : ℕ) (k : Kern) → g.IsKernel m k (kernel_toks k) → IsBraced (suc m) k (symbol s.OpenBrace ∷ (kernel_toks k ++ symbol s.CloseBrace ∷ []))
unfolding IsBraced
in_braces m k f = record { back = kernel_toks k ++ symbol s.CloseBrace ∷ []; is = refl; formed = record { front = kernel_toks k; is = refl; formed = f } }

pub kernel-formed : (n : ℕ) (k : Kern) → w.IsWritableKernel k → nesting k + 81 ≤ n → g.IsKernel n k (kernel_toks k)
unfolding kernel_toks
kernel-formed zero k h room = absurd (omega arith)
kernel-formed (suc m) (kern.code c) h room =
    record {
      word = codes "code";
      back =
          listed (counts (c.body.inputs ∷ c.body.slots ∷ [])) (listed (map value_tok c.outs) (run_toks c.starts c.body.steps));
      is = refl;
      formed =
          code-formed m c h (omega arith);
    }
kernel-formed (suc m) (kern.filter f) h room =
    record { word = codes "filter"; back = filter_toks f; is = refl; formed = filter-formed m f h (omega arith) }
kernel-formed (suc m) (kern.duplicate n) h room =
    record {
      word = codes "duplicate";
      back = listed (count_tok n ∷ []) [];
      is = refl;
      formed =
          record { value = n; is = refl; formed = round-formed (λ k. form.Count) m n (count_tok n) (count-formed n h) };
    }
kernel-formed (suc m) (kern.deal ws) h room =
    record {
      word = codes "deal";
      back = listed (map value_tok ws) [];
      is = refl;
      formed =
          record {
            value = ws;
            is = refl;
            formed =
                round-formed (λ k. form.Commas form.Value) m ws (items_toks (map value_tok ws))
                (items-commas form.Value signed_decimal value_tok w.IsNatural value-item ws h.0 h.1);
          };
    }
kernel-formed (suc m) (kern.collect ws) h room =
    record {
      word = codes "collect";
      back = listed (map value_tok ws) [];
      is = refl;
      formed =
          record {
            value = ws;
            is = refl;
            formed =
                round-formed (λ k. form.Commas form.Value) m ws (items_toks (map value_tok ws))
                (items-commas form.Value signed_decimal value_tok w.IsNatural value-item ws h.0 h.1);
          };
    }
kernel-formed (suc m) (kern.packed k) h room =
    record {
      word = codes "packed";
      back = symbol s.OpenBrace ∷ (kernel_toks k ++ symbol s.CloseBrace ∷ []);
      is = refl;
      formed =
          record { value = k; is = refl; formed = in_braces m k (kernel-formed m k h (omega arith)) };
    }
kernel-formed (suc m) (kern.unpack n) h room =
    record {
      word = codes "unpack";
      back = listed (count_tok n ∷ []) [];
      is = refl;
      formed =
          record { value = n; is = refl; formed = round-formed (λ k. form.Count) m n (count_tok n) (count-formed n h) };
    }
kernel-formed (suc m) (kern.window x) h room = window-formed m x h
kernel-formed (suc m) (kern.select e) h room =
    record {
      word = codes "select";
      back = listed (printed e ∷ []) [];
      is = refl;
      formed =
          record {
            value = e;
            is = refl;
            formed =
                subst (λ (l : List Tok). Round exprs.IsTerm (suc m) e (symbol s.Open ∷ (l ++ symbol s.Close ∷ []))) (sym (append-nil (printed e)))
                (round-formed exprs.IsTerm m e (printed e) ((term-item m (omega arith) e h).formed));
          };
    }
kernel-formed (suc m) (kern.project es) h room =
    record {
      word = codes "project";
      back = listed (map printed es) [];
      is = refl;
      formed =
          record {
            value = es;
            is = refl;
            formed =
                round-formed (λ k. form.Commas (exprs.IsTerm k)) m es (items_toks (map printed es))
                (items-commas (exprs.IsTerm m) text_of printed w.IsWritableTerm (term-item m (omega arith)) es h.0 h.1);
          };
    }
kernel-formed (suc m) kern.cross h room = record { word = codes "cross"; back = []; is = refl; formed = (refl, refl) }
kernel-formed (suc m) (kern.streamer x) h room = streamer-formed m x
kernel-formed (suc m) kern.tally h room = record { word = codes "tally"; back = []; is = refl; formed = (refl, refl) }
kernel-formed (suc m) (kern.fused a b at) h room = record {
  word = codes "fused";
  back =
      listed (count_tok at ∷ [])
      ((symbol s.OpenBrace ∷ (kernel_toks a ++ symbol s.CloseBrace ∷ [])) ++ symbol s.OpenBrace ∷ (kernel_toks b ++ symbol s.CloseBrace ∷ []));
  is = refl;
  formed = record {
    value = (at, (a, b));
    is = refl;
    formed =
        list-then (λ k. form.Count) (form.Both (IsBraced (suc m)) (IsBraced (suc m))) m at (a, b) (number at ∷ [])
        ((symbol s.OpenBrace ∷ (kernel_toks a ++ symbol s.CloseBrace ∷ [])) ++ symbol s.OpenBrace ∷ (kernel_toks b ++ symbol s.CloseBrace ∷ []))
        (count-formed at h.0)
        (record {
          front = symbol s.OpenBrace ∷ (kernel_toks a ++ symbol s.CloseBrace ∷ []);
          back =
              symbol s.OpenBrace ∷ (kernel_toks b ++ symbol s.CloseBrace ∷ []);
          is = refl;
          first = in_braces m a (kernel-formed m a h.1 (omega arith));
          second =
              in_braces m b (kernel-formed m b h.2 (omega arith));
        });
  };
}

-- a kernel in braces, where all brackets of a unit are left
pub braced-formed : (k : Kern) → w.IsWritableKernel k → nesting k ≤ 32 → IsBraced 128 k (symbol s.OpenBrace ∷ (kernel_toks k ++ symbol s.CloseBrace ∷ []))
braced-formed k h deep = in_braces 127 k (kernel-formed 127 k h (omega arith))
