-- Texts are split piece by piece.
use Rattle.std.proofs.Common.{◌≡◌, ℕ, zero, suc, ◌+◌, ◌-◌, ◌<◌, ◌≤◌, ◌==◌, true, false, List, [], ◌∷◌, ◌++◌, length, take, drop, refl, sym, ap, ◌∙◌, subst, arith, append_assoc}
use Rattle.std.specs.Prelude.{codes, get_or, Option, None, Some, IfNone}
use Rattle.std.proofs.lemmas.List.{append-nil, length-append, length-drop, drop-drop, drop_more, take-append-drop, append_cancel_left}
use Rattle.std.proofs.Math.ListN.{drop_of_length-le}
use Rattle.std.proofs.Math.Seq.{take-append_seam}
use Rattle.river_plan.specs.declared.plan.TableDecl.{TableDecl}
use Rattle.river_plan.specs.Forms.{table_names}
use Rattle.csv_streams.specs.Outcome.{under_name}
use Rattle.table_texts.specs.Split.{HasNoName, IsSplit, StartsName, SaysNoSplit, SaysNoLine, IsNext}
use Rattle.table_texts.specs.declared.split.NoSplit.{NoSplit}
use Rattle.table_texts.specs.declared.split.NoSplit.TheVariants as why
use Rattle.table_texts.proofs.OneSplit.{one-back, one-line}

-- WORDS

-- a word that stands at a place
pub word-stands : (word out : List ℕ) (place : ℕ) → take (place + length word - place) (drop place out) ≡ word
    → drop place out ≡ word ++ drop (place + length word) out
word-stands word out place e =
    let m : place + length word - place ≡ length word = omega arith in
    sym (take-append-drop (length word) (drop place out))
    ∙ (λ i. (sym (ap (λ (k : ℕ). take k (drop place out)) m) ∙ e) i ++ drop-drop (length word) place out i)

-- no word stands where fewer bytes are left
pub word-short : (word out rest : List ℕ) (place : ℕ) → length out - place < length word → drop place out ≡ word ++ rest → ⊥
word-short word out rest place short e =
    let all : length (drop place out) ≡ length (word ++ rest) = ap length e in
    let left = length-drop place out in
    let parts = length-append word rest in
    absurd (omega (arith, short, all, left, parts))

-- and none where other bytes are
pub word-other : (word out rest : List ℕ) (place : ℕ) → (take (place + length word - place) (drop place out) ≡ word → ⊥) → drop place out ≡ word ++ rest → ⊥
word-other word out rest place other e =
    let m : place + length word - place ≡ length word = omega arith in
    other ((λ i. take (m i) (e i)) ∙ take-append_seam word rest)

pub ruleset words = (word-stands, word-short, word-other, length-drop)

-- a text that does not stand behind a word does not stand behind the word and it
pub no-behind : (word before behind text : List ℕ) → before ≡ word ++ behind → (behind ≡ text → ⊥) → before ≡ word ++ text → ⊥
no-behind word before behind text is none e = none (append_cancel_left word behind text (sym is ∙ e))

-- so no line of a name stands where its end does not stand behind it
pub line-none : (name before at behind : List ℕ) (found : Option ℕ) → before ≡ codes "# " ++ at → at ≡ name ++ behind
    → IfNone found ((rest : List ℕ) → behind ≡ codes "\n" ++ rest → ⊥) → IfNone found ((text : List ℕ) → before ≡ under_name name text → ⊥)
line-none name before at behind None mark is none = λ text.
    no-behind (codes "# ") before at (name ++ (codes "\n" ++ text)) mark (no-behind name at behind (codes "\n" ++ text) is (none text))
line-none name before at behind (Some end) mark is none = tt

pub ruleset lines = (no-behind)

-- ENDS

-- a front of bytes, with one more
one-free : (bs : List ℕ) (n d : ℕ) → n < length bs → get_or bs n d == 35 ≡ false → HasNoName (take n bs) → HasNoName (take (n + 1) bs)
one-free [] n d l e h = absurd (omega (arith, l))
one-free (b ∷ bs) zero d l e h = (e, none bs) where
  none : (bs : List ℕ) → HasNoName (take 0 bs)
  none [] = tt
  none (b ∷ bs) = tt
one-free (b ∷ bs) (suc n) d l e h =
    let k : suc (n + 1) ≡ suc n + 1 = omega arith in
    subst (λ (m : ℕ). HasNoName (take m (b ∷ bs))) k (h.0, one-free bs n d (omega (arith, l)) e h.1)

pub free-first : (out : List ℕ) (from : ℕ) → HasNoName (take (from - from) (drop from out))
free-first out from = let e : 0 ≡ from - from = omega arith in subst (λ (m : ℕ). HasNoName (take m (drop from out))) e (none (drop from out)) where
  none : (bs : List ℕ) → HasNoName (take 0 bs)
  none [] = tt
  none (b ∷ bs) = tt

pub free-next : (out : List ℕ) (from place d : ℕ) → from ≤ place → place < length out → get_or out place d == 35 ≡ false
    → HasNoName (take (place - from) (drop from out)) → HasNoName (take (place + 1 - from) (drop from out))
free-next out from place d l w e h =
    let k : (place - from) + 1 ≡ place + 1 - from = omega (arith, l) in
    let n = length-drop from out in
    subst (λ (m : ℕ). HasNoName (take m (drop from out))) k
    (one-free (drop from out) (place - from) d (omega (arith, n, l, w)) (ap (λ (c : ℕ). c == 35) (at from place d out l) ∙ e) h)
  where
    at : (m p d : ℕ) (bs : List ℕ) → m ≤ p → get_or (drop m bs) (p - m) d ≡ get_or bs p d
    at zero p d bs l = (let e : p - 0 ≡ p = omega arith in ap (λ (k : ℕ). get_or bs k d) e)
    at (suc m) zero d bs l = absurd (omega (arith, l))
    at (suc m) (suc p) d [] l = refl
    at (suc m) (suc p) d (b ∷ bs) l =
        let e : suc p - suc m ≡ p - m = omega arith in
        ap (λ (k : ℕ). get_or (drop m bs) k d) e ∙ at m p d bs (omega (arith, l))

-- where a # stands
pub starts-here : (out : List ℕ) (place d : ℕ) → place < length out → get_or out place d == 35 ≡ true → StartsName (drop place out)
starts-here out place d l e = subst StartsName (sym (drop_more out place d l)) e

-- and the end
pub starts-end : (out : List ℕ) (place : ℕ) → length out ≤ place → StartsName (drop place out)
starts-end out place l = subst StartsName (sym (drop_of_length-le out l)) tt

pub ruleset ends = (free-first, free-next, starts-here, starts-end)

-- SECTION BY SECTION

-- one section is split off
pub next-section : (name out : List ℕ) (place begin end : ℕ) (old new : List (List ℕ)) → begin ≤ end → end ≤ length out
    → drop place out ≡ under_name name (drop begin out) → HasNoName (take (end - begin) (drop begin out)) → StartsName (drop end out)
    → new ≡ old ++ take (end - begin) (drop begin out) ∷ []
    → IsNext name (drop place out) (drop end out) old new
next-section name out place begin end old new l w line free ends grown = record {
  text = text;
  is = line ∙ ap (λ (t : List ℕ). codes "# " ++ (name ++ (codes "\n" ++ t))) parts
      ∙ sym (ap (λ (t : List ℕ). codes "# " ++ t) (append_assoc name (codes "\n" ++ text) (drop end out)));
  free = free;
  ends = ends;
  grown = grown;
} where
  text : List ℕ
  text = take (end - begin) (drop begin out)

  parts : drop begin out ≡ text ++ drop end out
  parts =
      sym (take-append-drop (end - begin) (drop begin out))
      ∙ ap (λ (t : List ℕ). text ++ t) (drop-drop (end - begin) begin out ∙ ap (λ (k : ℕ). drop k out) (let e : begin + (end - begin) ≡ end = omega (arith, l) in e))

pub ruleset sections = (next-section)

-- so far: what splits the rest completes it, and where the whole has a split, so has the rest
pub record SplitFront (tables : List TableDecl) (out : List ℕ) (i place : ℕ) (sections : List (List ℕ)) : Type 0 where
  pub within : place ≤ length out
  pub rest : (others : List (List ℕ)) → IsSplit (table_names (drop i tables)) (drop place out) others → IsSplit (table_names tables) out (sections ++ others)
  pub back : (all : List (List ℕ)) → IsSplit (table_names tables) out all → (others : List (List ℕ)) × IsSplit (table_names (drop i tables)) (drop place out) others

pub split-first : (tables : List TableDecl) (out : List ℕ) → SplitFront tables out 0 0 []
split-first tables out = record { within = omega arith; rest = λ others h. h; back = λ all h. (all, h) }

pub split-next : (tables : List TableDecl) (out : List ℕ) (i place end : ℕ) (d : TableDecl) (old new : List (List ℕ)) → i < length tables
    → SplitFront tables out i place old → end ≤ length out
    → IsNext (get_or tables i d).name (drop place out) (drop end out) old new
    → SplitFront tables out (i + 1) end new
split-next tables out i place end d old new l front w next = record {
  within = w;
  rest = λ others h.
      subst (IsSplit (table_names tables) out) (sym (ap (λ (s : List (List ℕ)). s ++ others) next.grown ∙ append_assoc old (next.text ∷ []) others))
      (front.rest (next.text ∷ others) (subst (λ (ts : List TableDecl). IsSplit (table_names ts) (drop place out) (next.text ∷ others)) (sym (drop_more tables i d l))
      (record { is = next.is ∙ ap (λ (t : List ℕ). under_name (get_or tables i d).name next.text ++ t) h.is; are = (next.free, h.are) })));
  back = λ all h.
      let k = front.back all h in
      one-back (get_or tables i d).name (table_names (drop (i + 1) tables)) (drop place out) next.text (drop end out) k.0 next.is next.free next.ends
      (subst (λ (ts : List TableDecl). IsSplit (table_names ts) (drop place out) k.0) (drop_more tables i d l) k.1);
}

-- the whole has no split where the line of the next name does not stand there
pub split-none : (tables : List TableDecl) (out : List ℕ) (i place : ℕ) (d : TableDecl) (sections : List (List ℕ)) (fault : NoSplit) → i < length tables
    → SplitFront tables out i place sections → SaysNoLine (get_or tables i d).name (drop place out) fault
    → SaysNoSplit (table_names tables) out fault
split-none tables out i place d sections why.Other l front none = λ all h.
    let k = front.back all h in
    let line = one-line (get_or tables i d).name (table_names (drop (i + 1) tables)) (drop place out) k.0
    (subst (λ (ts : List TableDecl). IsSplit (table_names ts) (drop place out) k.0) (drop_more tables i d l) k.1) in
    none line.0 line.1
split-none tables out i place d sections why.NoMemory l front none = tt

-- or where bytes are left behind the last
pub split-over : (tables : List TableDecl) (out : List ℕ) (i place : ℕ) (sections : List (List ℕ)) → length tables ≤ i → (place ≡ length out → ⊥)
    → SplitFront tables out i place sections → SaysNoSplit (table_names tables) out why.Other
split-over tables out i place sections l left front = λ all h.
    let k = front.back all h in
    let none = subst (λ (ts : List TableDecl). IsSplit (table_names ts) (drop place out) k.0) (drop_of_length-le tables l) k.1 in
    let short : length (drop place out) ≡ 0 = ap length none.is in
    let many = length-drop place out in
    let within = front.within in
    left (omega (arith, short, many, within))

-- behind the last table nothing is left: the sections are the split
pub split-last : (tables : List TableDecl) (out : List ℕ) (i place : ℕ) (sections : List (List ℕ)) → length tables ≤ i → place ≡ length out
    → SplitFront tables out i place sections → IsSplit (table_names tables) out sections
split-last tables out i place sections l e front = subst (IsSplit (table_names tables) out) (append-nil sections) (front.rest [] none) where
  none : IsSplit (table_names (drop i tables)) (drop place out) []
  none =
      subst (λ (ts : List TableDecl). IsSplit (table_names ts) (drop place out) []) (sym (drop_of_length-le tables l))
      (record { is = drop_of_length-le out (omega (arith, e)); are = tt })

pub ruleset fronts = (split-first, split-next, split-last, split-none, split-over)
