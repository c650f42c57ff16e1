-- What is kept stands for what is known, one more after another.
use Rattle.std.proofs.Common.{◌≡◌, ℕ, ◌+◌, ◌<◌, ℤ, Bool, true, false, Option, Some, None, List, [], ◌∷◌, ◌++◌, length, get_or, take, refl, sym, ap, ◌∙◌}
use Rattle.std.proofs.Common.{subst}
use Rattle.std.specs.Prelude.{if◌then◌else◌}
use Rattle.std.specs.List.{AllByRecursion}
use Rattle.std.proofs.lemmas.List.{take_more, map-append}
use Rattle.cql_build.proofs.Judging.{sources-append}
use Rattle.river_base.proofs.Lists.{fold-push}
use Rattle.river_base.specs.Name.{name_eq}
use Rattle.river_plan.specs.Forms.{Name}
use Rattle.cql_text.specs.Tree as tree
use Rattle.cql_model.specs.Scopes.{alias_or, fields_of, item_named}
use Rattle.cql_model.specs.Streams.{Rises, windowed}
use Rattle.cql_model.specs.Meaning.{KnownStream, named_of, rows_named}
use Rattle.cql_text.specs.declared.tree.Source.{Source}
use Rattle.cql_text.specs.Tree.{window_of, source_of, sources_of}
use Rattle.slow_cql.specs.declared.kept.Kept.{Kept}
use Rattle.slow_cql.specs.declared.kept.Input.{Input}
use Rattle.slow_cql.specs.Kept.{timed, is_in_order, latest, fields_or, entries_or, StandsKept, reached, named_input, input_content, IsItemInput, AreInputsOf}
use Rattle.slow_cql.proofs.Timed.{timed-none, reached-timed, timed_in_order}

-- ---- THE LATEST

abbrev later : Name → Option Kept → Kept → Option Kept
later n o k = if name_eq k.name n then Some k else o

pub latest-push : (n : Name) (all : List Kept) (k : Kept) → latest n (all ++ k ∷ []) ≡ (if name_eq k.name n then Some k else latest n all)
latest-push n all k = fold-push (later n) None all k

-- ---- WHAT STANDS

-- nothing is kept of nothing
pub nothing_stands : (ts : List ℤ) → StandsKept ts [] []
nothing_stands ts = record { fields = λ n. refl; rows = λ n. sym (timed-none ts) }

-- one more is kept of one more that is known
pub stands_more : (ts : List ℤ) (all : List Kept) (ks : List KnownStream) (x : Kept) (k : KnownStream) → StandsKept ts all ks → x.name ≡ k.named.name
    → x.fields ≡ k.named.fields → x.entries ≡ timed ts k.rows
    → StandsKept ts (all ++ x ∷ []) (k ∷ ks)
stands_more ts all ks x k s en ef er = record {
  fields = λ n. ap fields_or (latest-push n all x) ∙ fields_at n (name_eq x.name n)
      ∙ ap (λ m. if name_eq m n then k.named.fields else fields_of (named_of ks) n) en;
  rows = λ n. ap entries_or (latest-push n all x) ∙ rows_at n (name_eq x.name n)
      ∙ ap (λ m. timed ts (λ t. if name_eq m n then k.rows t else rows_named ks n t)) en;
} where
  fields_at : (n : Name) (b : Bool) → fields_or (if b then Some x else latest n all) ≡ (if b then k.named.fields else fields_of (named_of ks) n)
  fields_at n true = ef
  fields_at n false = s.fields n

  rows_at : (n : Name) (b : Bool) → entries_or (if b then Some x else latest n all) ≡ timed ts (λ t. if b then k.rows t else rows_named ks n t)
  rows_at n true = er
  rows_at n false = s.rows n

-- the same over values that are equal
pub stands_same : (ts us : List ℤ) (all more : List Kept) (ks : List KnownStream) → us ≡ ts → more ≡ all → StandsKept ts all ks → StandsKept us more ks
stands_same ts us all more ks a b s = subst (λ l. StandsKept l more ks) (sym a) (subst (λ (l : List Kept). StandsKept ts l ks) (sym b) s)

-- the inputs of equal items
pub inputs_same : (ts : List ℤ) (ks : List KnownStream) (xs ys : List Source) (is js : List Input) → xs ≡ ys → js ≡ is → AreInputsOf ts ks (sources_of xs) is
    → AreInputsOf ts ks (sources_of ys) js
inputs_same ts ks xs ys is js a b h = subst (λ (l : List Input). AreInputsOf ts ks (sources_of ys) l) (sym b)
    (subst (λ (l : List Source). AreInputsOf ts ks (sources_of l) is) a h)

-- ---- INPUTS

-- what is kept under an item's name is its input
pub input_is : (ts : List ℤ) (all : List Kept) (ks : List KnownStream) (x : Source) (i : Input) → Rises ts → StandsKept ts all ks
    → i.name ≡ alias_or x.alias x.stream
    → i.fields.now ≡ fields_or (latest x.stream all) → i.window ≡ x.window → i.entries.now ≡ entries_or (latest x.stream all)
    → IsItemInput ts ks (source_of x) i
input_is ts all ks x i up s en ef ew ee =
    let rows : i.entries.now ≡ timed ts (rows_named ks x.stream) = ee ∙ s.rows x.stream in
    let fields : i.fields.now ≡ fields_of (named_of ks) x.stream = ef ∙ s.fields x.stream in
    record {
      named = (λ j. record { name = en j; fields = fields j });
      content = λ t. (λ j. reached (window_of (ew j)) t (rows j)) ∙ reached-timed (window_of x.window) ts (rows_named ks x.stream) t;
      in_order = subst is_in_order (sym rows) (timed_in_order ts (rows_named ks x.stream) up);
    }

pub no_inputs : (ts : List ℤ) (ks : List KnownStream) → AreInputsOf ts ks [] []
no_inputs ts ks = record { named = refl; contents = λ t. refl; in_order = tt }

each_push : {A : Type 0} (P : A → Type 0) (xs : List A) (x : A) → AllByRecursion P xs → P x → AllByRecursion P (xs ++ x ∷ [])
each_push P [] x h p = (p, tt)
each_push P (y ∷ ys) x h p = (h.0, each_push P ys x h.1 p)

inputs_push : (ts : List ℤ) (ks : List KnownStream) (items : List tree.Source) (item : tree.Source) (is : List Input) (i : Input) → AreInputsOf ts ks items is
    → IsItemInput ts ks item i
    → AreInputsOf ts ks (items ++ item ∷ []) (is ++ i ∷ [])
inputs_push ts ks items item is i a h = record {
  named = map-append named_input is (i ∷ []) ∙ (λ j. a.named j ++ h.named j ∷ []) ∙ sym (map-append (item_named (named_of ks)) items (item ∷ []));
  contents = λ t. map-append (input_content t) is (i ∷ []) ∙ (λ j. a.contents t j ++ h.content t j ∷ [])
      ∙ sym (map-append (λ (x : tree.Source). windowed x.window ts (rows_named ks x.stream) t) items (item ∷ []));
  in_order = each_push (λ (x : Input). is_in_order x.entries.now) is i a.in_order h.in_order;
}

pub inputs_more : (ts : List ℤ) (ks : List KnownStream) (xs : List Source) (n : ℕ) (x : Source) (is js : List Input) (i : Input) → n < length xs
    → x ≡ get_or xs n x
    → AreInputsOf ts ks (sources_of (take n xs)) is → IsItemInput ts ks (source_of x) i → js ≡ is ++ i ∷ []
    → AreInputsOf ts ks (sources_of (take (n + 1) xs)) js
inputs_more ts ks xs n x is js i lt e a h pushed =
    let all : sources_of (take (n + 1) xs) ≡ sources_of (take n xs) ++ source_of x ∷ [] =
    ap sources_of (take_more xs n x lt ∙ ap (λ y. take n xs ++ y ∷ []) (sym e)) ∙ sources-append (take n xs) x in
    subst (AreInputsOf ts ks (sources_of (take (n + 1) xs))) (sym pushed)
    (subst (λ (l : List tree.Source). AreInputsOf ts ks l (is ++ i ∷ [])) (sym all) (inputs_push ts ks (sources_of (take n xs)) (source_of x) is i a h))
