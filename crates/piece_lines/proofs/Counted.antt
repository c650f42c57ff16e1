-- Lines of a text, counted byte by byte.
use Rattle.std.proofs.Common.{◌≡◌, ◌⊎◌, inl, inr, ℕ, zero, suc, ◌+◌, ◌-◌, ◌<◌, ◌≤◌, Bool, true, false, List, [], ◌∷◌, ◌++◌, length, take, drop}
use Rattle.std.proofs.Common.{get_or, refl, sym, ap, ◌∙◌, arith, append_assoc, length-append, take_at}
use Rattle.std.specs.Prelude.{nat_eq, if◌then◌else◌}
use Rattle.std.proofs.lemmas.List.{drop_all, drop_more, append-nil}
use Rattle.stream_periods.specs.Texts.{behind_line, first_lines, lines_behind}

-- how many lines are left behind a byte
abbrev pub left_behind : ℕ → ℕ → ℕ
left_behind c left = if nat_eq c 10 then left - 1 else left

lines-next : (n c : ℕ) (cs : List ℕ) → lines_behind (suc n) (c ∷ cs) ≡ lines_behind (left_behind c (suc n)) cs
lines-next n c cs = by (nat_eq c 10) where
  by : (b : Bool) → (if b then lines_behind n cs else lines_behind (suc n) cs) ≡ lines_behind (if b then suc n - 1 else suc n) cs
  by true = ap (λ k. lines_behind k cs) (let e : n ≡ suc n - 1 = omega arith in e)
  by false = refl

first-next : (n c : ℕ) (cs : List ℕ) → first_lines (suc n) (c ∷ cs) ≡ c ∷ first_lines (left_behind c (suc n)) cs
first-next n c cs = ap (λ l. c ∷ l) (by (nat_eq c 10)) where
  by : (b : Bool) → (if b then first_lines n cs else first_lines (suc n) cs) ≡ first_lines (if b then suc n - 1 else suc n) cs
  by true = ap (λ k. first_lines k cs) (let e : n ≡ suc n - 1 = omega arith in e)
  by false = refl

behind-zero : (cs : List ℕ) → lines_behind 0 cs ≡ cs
behind-zero [] = refl
behind-zero (c ∷ cs) = refl

first-zero : (cs : List ℕ) → first_lines 0 cs ≡ []
first-zero [] = refl
first-zero (c ∷ cs) = refl

behind-none : (n : ℕ) → lines_behind n [] ≡ []
behind-none zero = refl
behind-none (suc n) = refl

first-none : (n : ℕ) → first_lines n [] ≡ []
first-none zero = refl
first-none (suc n) = refl

-- So far it was counted: the lines from `from` on are what was passed, and those that are left from this place on.
pub record Counted (text : List ℕ) (from lines place left : ℕ) : Type 0 where
  pub passed : List ℕ
  pub after : from ≤ place
  pub within : place ≤ length text
  pub is : drop from text ≡ passed ++ drop place text
  pub many : length passed ≡ place - from
  pub behind : lines_behind lines (drop from text) ≡ lines_behind left (drop place text)
  pub before : first_lines lines (drop from text) ≡ passed ++ first_lines left (drop place text)

pub counted-first : (text : List ℕ) (from lines : ℕ) → from ≤ length text → Counted text from lines from lines
counted-first text from lines l = record {
  passed = [];
  after = omega arith;
  within = l;
  is = refl;
  many = omega arith;
  behind = refl;
  before = refl;
}

pub counted-next : (text : List ℕ) (from lines place left d now : ℕ) → 0 < left → place < length text → now ≡ left_behind (get_or text place d) left
    → Counted text from lines place left → Counted text from lines (place + 1) now
counted-next text from lines place zero d now some l same h = absurd (omega (arith, some))
counted-next text from lines place (suc n) d now some l same h = record {
  passed = h.passed ++ c ∷ [];
  after = (let a = h.after in omega (arith, a));
  within = omega (arith, l);
  is = h.is ∙ ap (λ l. h.passed ++ l) next ∙ sym (append_assoc h.passed (c ∷ []) rest);
  many = (let a = h.after in let m = h.many in let n = length-append h.passed (c ∷ []) in omega (arith, a, m, n));
  behind = h.behind ∙ ap (lines_behind (suc n)) next ∙ lines-next n c rest ∙ ap (λ k. lines_behind k rest) (sym same);
  before = h.before ∙ ap (λ l. h.passed ++ first_lines (suc n) l) next ∙ ap (λ l. h.passed ++ l) (first-next n c rest)
      ∙ sym (append_assoc h.passed (c ∷ []) (first_lines (left_behind c (suc n)) rest))
      ∙ ap (λ k. (h.passed ++ c ∷ []) ++ first_lines k rest) (sym same);
} where
  c : ℕ
  c = get_or text place d

  rest : List ℕ
  rest = drop (place + 1) text

  next : drop place text ≡ c ∷ rest
  next = drop_more text place d l

-- where no line is left, or no byte
pub counted-behind : (text : List ℕ) (from lines place left : ℕ) → (left ≡ 0) ⊎ (length text ≤ place) → Counted text from lines place left
    → drop place text ≡ lines_behind lines (drop from text)
counted-behind text from lines place left (inl e) h = sym (h.behind ∙ ap (λ k. lines_behind k (drop place text)) e ∙ behind-zero (drop place text))
counted-behind text from lines place left (inr l) h =
    let none = drop_all place text l in
    none ∙ sym (h.behind ∙ ap (lines_behind left) none ∙ behind-none left)

pub counted-before : (text : List ℕ) (from lines place left : ℕ) → (left ≡ 0) ⊎ (length text ≤ place) → Counted text from lines place left
    → take (place - from) (drop from text) ≡ first_lines lines (drop from text)
counted-before text from lines place left end h =
    ap (take (place - from)) h.is ∙ take_at h.passed (drop place text) (place - from) h.many ∙ sym (h.before ∙ ap (λ l. h.passed ++ l) (none end) ∙ append-nil h.passed)
  where
    none : (left ≡ 0) ⊎ (length text ≤ place) → first_lines left (drop place text) ≡ []
    none (inl e) = ap (λ k. first_lines k (drop place text)) e ∙ first-zero (drop place text)
    none (inr l) = ap (first_lines left) (drop_all place text l) ∙ first-none left

one-by : (b : Bool) (cs : List ℕ) → lines_behind 1 cs ≡ behind_line cs → (if b then lines_behind 0 cs else lines_behind 1 cs) ≡ (if b then cs else behind_line cs)
one-by true cs h = behind-zero cs
one-by false cs h = h

-- one line
pub line-is : (cs : List ℕ) → lines_behind 1 cs ≡ behind_line cs
line-is [] = refl
line-is (c ∷ cs) = one-by (nat_eq c 10) cs (line-is cs)

pub ruleset lines = (line-is)
