-- Units, printed and read.
use Rattle.std.proofs.Common.{◌≡◌, ℕ, true, false, List, [], ◌∷◌, ◌++◌, length, refl, sym, ap, ◌∙◌, subst, inl, inr, append_assoc, append-nil}
use Rattle.std.proofs.lemmas.Bool.{and_parts}
use Rattle.std.specs.Prelude.{codes, map, ◌&&◌, nat_le}
use Rattle.std.specs.List.{list_all}
use Rattle.std.specs.Fmt.{decimal}
use Rattle.std.specs.Cmp.Lexicographic.{pointwise}
use Rattle.std.proofs.lemmas.Slice.Eq.{bytes_eq-Decides}
use Rattle.text_tokens.specs.Cut.{cut, to_first, ends_unit, braces_after, is_else}
use Rattle.text_tokens.specs.Lexis.{first_is, is_letter, is_word, is_digit}
use Rattle.text_tokens.specs.Tok.{Tok, name, var, number, symbol}
use Rattle.text_tokens.specs.declared.sign.Symbol.{Symbol}
use Rattle.text_tokens.specs.declared.sign.Symbol.TheVariants as s
use Rattle.text_tokens.proofs.Spelled.{Spells, Anything, NoWord, MayFollow, is_name_text, spells-then, spells-blank, spells-symbol, spells-name, spells-var}
use Rattle.text_tokens.proofs.Spelled.{blank_follows}
use Rattle.text_tokens.specs.Symbols.{symbol_bytes, long_symbol}
use Rattle.std.specs.Str.{bytes_eq}
use Rattle.river_base.specs.Name.{is_name, name_eq}
use Rattle.river_base.specs.declared.kind.FlatType.{FlatType}
use Rattle.river_base.specs.declared.kind.FlatType.TheVariants.{Rows, Stream, Relation}
use Rattle.river_base.specs.declared.kind.QueueType.{QueueType}
use Rattle.river_base.specs.declared.kind.QueueType.TheVariants.{Flat, Pack}
use Rattle.kern_tables.specs.declared.kind.TableKind.{TableKind}
use Rattle.kern_tables.specs.declared.kind.TableKind.TheVariants.{Sum, Collection, Maximum}
use Rattle.river_plan.specs.Forms.{Name, OpForm}
use Rattle.river_plan.specs.declared.plan.Decl.{Decl}
use Rattle.river_plan.specs.declared.plan.TableDecl.{TableDecl}
use Rattle.river_kernels.specs.Fits.{width_of}
use Rattle.text_forms.specs.Forms as form
use Rattle.text_blocks.specs.Parts.{Round}
use Rattle.river_print.specs.Printed.{list_text, flat_text, type_text, table_text, var_text, decl_line, table_line, var_line, ports_text, op_line, kernel_text}
use Rattle.river_text.specs.Plans as p
use Rattle.river_print.specs.Writable as w
use Rattle.river_print.proofs.Listings.{Item, pieces, items-listing, count_tok, count-formed, count-item}
use Rattle.text_tokens.proofs.Insides.{all_first, all_first-append, Inside, inside-name, inside-var}
use Rattle.river_print.proofs.Pieces.{line_is, Piece, AllPieces, braced, more_toks, items_toks}
use Rattle.river_print.proofs.Kernels.{listed, list-last, worded, kernel_toks, kernel-piece, braced-formed}
use Rattle.river_print.proofs.Terms.{round-formed, behind_round}
use Rattle.river_print.proofs.PrintedExpr.{blank-then}

-- ---- names

-- a name is the text of a word
pub name-text : (v : List ℕ) → is_name v ≡ true → is_name_text v ≡ true
name-text [] h = cc
name-text (b ∷ bs) h =
    let x = and_parts (is_letter b) (list_all is_word bs && nat_le (length bs) 63) h in
    let y = and_parts (list_all is_word bs) (nat_le (length bs) 63) x.1 in
    rw (x.0, y.0) refl

-- ---- a unit of a text

-- these bytes are the tokens of one unit, whatever comes behind but `else`
pub record UnitPiece (bytes : List ℕ) (ts : List Tok) : Type 0 where
  pub spells : Spells bytes ts Anything
  pub begins : (rest : List Tok) → is_else (ts ++ rest) ≡ false
  pub whole : (rest : List Tok) → is_else rest ≡ false → cut 0 (ts ++ rest) ≡ ts ∷ cut 0 rest

-- ---- lines

-- these bytes are these tokens, whatever comes behind
abbrev pub Line : List ℕ → List Tok → Type 0
Line bytes ts = Spells bytes ts Anything

-- no word goes on at these bytes, whatever comes behind
pub record EndsNow (bytes : List ℕ) : Type 0 where
  pub now : (rest : List ℕ) → NoWord (bytes ++ rest)

-- no word goes on at a blank
pub now-blank : (u : List ℕ) → EndsNow (codes " " ++ u)
unfolding first_is is_word is_letter is_digit
now-blank u = record { now = λ rest. refl }

-- nor at a colon
pub now-colon : (u : List ℕ) → EndsNow (codes ":" ++ u)
unfolding first_is is_word is_letter is_digit
now-colon u = record { now = λ rest. refl }

-- nor at a semicolon
pub now-semicolon : (u : List ℕ) → EndsNow (codes ";" ++ u)
unfolding first_is is_word is_letter is_digit
now-semicolon u = record { now = λ rest. refl }

now-line : (u : List ℕ) → EndsNow (codes "\n" ++ u)
unfolding first_is is_word is_letter is_digit
now-line u = record { now = λ rest. refl }

-- a piece before a line where no word goes on
pub line-then : (a : List ℕ) (ts : List Tok) (u : List ℕ) (us : List Tok) → Piece a ts → Line u us → EndsNow u → Line (a ++ u) (ts ++ us)
line-then a ts u us x y e = spells-then a ts u us x.spells y (λ rest any. e.now rest)

-- a blank before a line
pub line-blank : (u : List ℕ) (us : List Tok) → Line u us → Line (codes " " ++ u) us
line-blank u us y = blank-then u us y

line-symbol : (x : Symbol) (u : List ℕ) (us : List Tok) → Line u us → ((rest : List ℕ) → MayFollow x (u ++ rest)) → Line (symbol_bytes x ++ u) (symbol x ∷ us)
line-symbol x u us y follows = spells-then (symbol_bytes x) (symbol x ∷ []) u us (spells-symbol x) y (λ rest any. follows rest)

line-end : Line (codes "\n") []
line-end = spells-blank 10 line_is

-- a semicolon and the end of the line
pub semicolon-end : Line (codes ";\n") (symbol s.Semicolon ∷ [])
semicolon-end = line-symbol s.Semicolon (codes "\n") [] line-end (λ rest. tt)

-- a name alone
pub name-piece : (v : List ℕ) → is_name_text v ≡ true → Piece v (name v ∷ [])
name-piece v is = record { spells = spells-name v is; inside = inside-name v }

var-piece : (v : List ℕ) → is_name_text v ≡ true → Piece (var_text v) (var v ∷ [])
var-piece v is = record { spells = spells-var v is; inside = inside-var v }

-- `: ` before a line
pub colon-line : (u : List ℕ) (us : List Tok) → Line u us → Line (codes ": " ++ u) (symbol s.Colon ∷ us)
colon-line u us y = line-symbol s.Colon (codes " " ++ u) us (line-blank u us y) (λ rest. tt)

-- ---- types

-- a list of one count is printed as its token
pub one_count : (n : ℕ) → w.IsCount n → AllPieces (decimal n ∷ []) (count_tok n ∷ [])
one_count n h = pieces form.Count decimal count_tok w.IsCount count-item (n ∷ []) (h, tt)

-- the tokens of a type without `pack`
unfoldable pub flat_toks : FlatType → List Tok
flat_toks (Rows n) = name (codes "rows") ∷ listed (count_tok n ∷ []) []
flat_toks (Stream n) = name (codes "stream") ∷ listed (count_tok n ∷ []) []
flat_toks (Relation n) = name (codes "relation") ∷ listed (count_tok n ∷ []) []

-- the tokens of a type
unfoldable pub type_toks : QueueType → List Tok
type_toks (Flat t) = flat_toks t
type_toks (Pack t) = name (codes "pack") ∷ listed (flat_toks t ∷ []) []

is_rows : is_name_text (codes "rows") ≡ true
unfolding is_letter is_word is_digit
is_rows = refl

is_stream : is_name_text (codes "stream") ≡ true
unfolding is_letter is_word is_digit
is_stream = refl

is_relation : is_name_text (codes "relation") ≡ true
unfolding is_letter is_word is_digit
is_relation = refl

is_pack : is_name_text (codes "pack") ≡ true
unfolding is_letter is_word is_digit
is_pack = refl

flat-piece : (t : FlatType) → w.IsCount (width_of t) → Piece (flat_text t) (flat_toks t)
unfolding flat_toks
flat-piece (Rows n) h = worded (codes "rows") (decimal n ∷ []) (count_tok n ∷ []) is_rows (one_count n h)
flat-piece (Stream n) h = worded (codes "stream") (decimal n ∷ []) (count_tok n ∷ []) is_stream (one_count n h)
flat-piece (Relation n) h = worded (codes "relation") (decimal n ∷ []) (count_tok n ∷ []) is_relation (one_count n h)

-- the text of a type that can be written has these tokens
pub type-piece : (t : QueueType) → w.IsWritableType t → Piece (type_text t) (type_toks t)
unfolding type_toks
type-piece (Flat t) h = flat-piece t h
type-piece (Pack t) h = worded (codes "pack") (flat_text t ∷ []) (flat_toks t ∷ []) is_pack (flat-piece t h, tt)

-- a count in round brackets is in the grammar
pub count-round : (n : ℕ) → w.IsCount n → Round (λ m. form.Count) 128 n (listed (count_tok n ∷ []) [])
count-round n h = round-formed (λ k. form.Count) 127 n (count_tok n) (count-formed n h)

inner_count : (n : ℕ) → w.IsCount n → Round (λ m. form.Count) 127 n (listed (count_tok n ∷ []) [])
inner_count n h = round-formed (λ k. form.Count) 126 n (count_tok n) (count-formed n h)

flat-formed : (t : FlatType) → w.IsCount (width_of t) → p.IsFlatType 127 t (flat_toks t)
unfolding flat_toks
flat-formed (Rows n) h =
    record { word = codes "rows"; back = listed (count_tok n ∷ []) []; is = refl; formed = record { value = n; is = refl; formed = inner_count n h } }
flat-formed (Stream n) h =
    record { word = codes "stream"; back = listed (count_tok n ∷ []) []; is = refl; formed = record { value = n; is = refl; formed = inner_count n h } }
flat-formed (Relation n) h =
    record { word = codes "relation"; back = listed (count_tok n ∷ []) []; is = refl; formed = record { value = n; is = refl; formed = inner_count n h } }

-- a type that can be written is in the grammar, by its tokens
pub type-formed : (t : QueueType) → w.IsWritableType t → p.IsType t (type_toks t)
unfolding type_toks flat_toks
type-formed (Flat (Rows n)) h =
    record {
      word = codes "rows";
      back = listed (count_tok n ∷ []) [];
      is = refl;
      formed =
          record { value = Rows n; is = refl; formed = record { value = n; is = refl; formed = count-round n h } };
    }
type-formed (Flat (Stream n)) h =
    record {
      word = codes "stream";
      back = listed (count_tok n ∷ []) [];
      is = refl;
      formed =
          record { value = Stream n; is = refl; formed = record { value = n; is = refl; formed = count-round n h } };
    }
type-formed (Flat (Relation n)) h =
    record {
      word = codes "relation";
      back = listed (count_tok n ∷ []) [];
      is = refl;
      formed =
          record { value = Relation n; is = refl; formed = record { value = n; is = refl; formed = count-round n h } };
    }
type-formed (Pack t) h = record {
  word = codes "pack";
  back = listed (flat_toks t ∷ []) [];
  is = refl;
  formed =
      record {
        value = t;
        is = refl;
        formed =
            subst (λ (l : List Tok). Round p.IsFlatType 128 t (symbol s.Open ∷ (l ++ symbol s.Close ∷ []))) (sym (append-nil (flat_toks t)))
            (round-formed p.IsFlatType 127 t (flat_toks t) (flat-formed t h));
      };
}

-- ---- declarations

-- the tokens of a declaration: a word, a name and a type
unfoldable pub decl_toks : List ℕ → Decl → List Tok
decl_toks word d = name word ∷ name d.name ∷ symbol s.Colon ∷ (type_toks d.kind ++ symbol s.Semicolon ∷ [])

decl-spells : (word : List ℕ) (d : Decl) → is_name_text word ≡ true → w.IsWritableDecl d → Line (decl_line word d) (decl_toks word d)
unfolding decl_toks
decl-spells word d is h =
    let typed = type_text d.kind ++ codes ";\n" in
    let typed_toks = type_toks d.kind ++ symbol s.Semicolon ∷ [] in
    line-then word (name word ∷ []) (codes " " ++ (d.name ++ (codes ": " ++ typed))) (name d.name ∷ symbol s.Colon ∷ typed_toks) (name-piece word is)
    (line-blank (d.name ++ (codes ": " ++ typed)) (name d.name ∷ symbol s.Colon ∷ typed_toks)
    (line-then d.name (name d.name ∷ []) (codes ": " ++ typed) (symbol s.Colon ∷ typed_toks) (name-piece d.name (name-text d.name h.0))
    (colon-line typed typed_toks
    (line-then (type_text d.kind) (type_toks d.kind) (codes ";\n") (symbol s.Semicolon ∷ []) (type-piece d.kind h.1) semicolon-end
    (now-semicolon (codes "\n"))))
    (now-colon (codes " " ++ typed))))
    (now-blank (d.name ++ (codes ": " ++ typed)))

decl-whole : (word : List ℕ) (n : List ℕ) (t : QueueType) (rest : List Tok)
    → cut 0 (name word ∷ name n ∷ symbol s.Colon ∷ ((type_toks t ++ symbol s.Semicolon ∷ []) ++ rest)) ≡
    (name word ∷ name n ∷ symbol s.Colon ∷ (type_toks t ++ symbol s.Semicolon ∷ [])) ∷ cut 0 rest
unfolding cut ends_unit braces_after type_toks flat_toks
decl-whole word n (Flat (Rows k)) rest = refl
decl-whole word n (Flat (Stream k)) rest = refl
decl-whole word n (Flat (Relation k)) rest = refl
decl-whole word n (Pack (Rows k)) rest = refl
decl-whole word n (Pack (Stream k)) rest = refl
decl-whole word n (Pack (Relation k)) rest = refl

-- a name is in the grammar
pub named-formed : (v : List ℕ) → is_name v ≡ true → p.IsName v (name v ∷ [])
named-formed v h = record { passes = h; formed = refl }

variable-formed : (v : List ℕ) → is_name v ≡ true → p.IsVar v (var v ∷ [])
variable-formed v h = record { passes = h; formed = refl }

-- the declaration of a queue is in the grammar
pub decl-formed : (d : Decl) → w.IsWritableDecl d → p.IsDecl d (name d.name ∷ symbol s.Colon ∷ (type_toks d.kind ++ symbol s.Semicolon ∷ []))
decl-formed d h = record {
  value = (d.name, d.kind);
  is = refl;
  formed = record {
    front = name d.name ∷ [];
    back = symbol s.Colon ∷ (type_toks d.kind ++ symbol s.Semicolon ∷ []);
    is = refl;
    first = named-formed d.name h.0;
    second =
        record {
          back = type_toks d.kind ++ symbol s.Semicolon ∷ [];
          is = refl;
          formed =
              record { front = type_toks d.kind; is = refl; formed = type-formed d.kind h.1 };
        };
  };
}

-- its line spells a unit
pub decl-unit : (word : List ℕ) (d : Decl) → is_name_text word ≡ true → bytes_eq word (codes "else") ≡ false → w.IsWritableDecl d
    → UnitPiece (decl_line word d) (decl_toks word d)
unfolding decl_toks
decl-unit word d is other h = record { spells = decl-spells word d is h; begins = λ rest. other; whole = λ rest none. decl-whole word d.name d.kind rest }

-- ---- tables and variables

unfoldable pub kind_toks : TableKind → List Tok
kind_toks (Sum k) = name (codes "sum") ∷ listed (count_tok k ∷ []) []
kind_toks (Collection k) = name (codes "collection") ∷ listed (count_tok k ∷ []) []
kind_toks (Maximum best k) = name (codes "maximum") ∷ listed (count_tok best ∷ count_tok k ∷ []) []

is_sum : is_name_text (codes "sum") ≡ true
unfolding is_letter is_word is_digit
is_sum = refl

is_collection : is_name_text (codes "collection") ≡ true
unfolding is_letter is_word is_digit
is_collection = refl

is_maximum : is_name_text (codes "maximum") ≡ true
unfolding is_letter is_word is_digit
is_maximum = refl

is_table : is_name_text (codes "table") ≡ true
unfolding is_letter is_word is_digit
is_table = refl

is_var : is_name_text (codes "var") ≡ true
unfolding is_letter is_word is_digit
is_var = refl

is_op : is_name_text (codes "op") ≡ true
unfolding is_letter is_word is_digit
is_op = refl

kind-piece : (t : TableKind) → w.IsWritableKind t → Piece (table_text t) (kind_toks t)
unfolding kind_toks
kind-piece (Sum k) h = worded (codes "sum") (decimal k ∷ []) (count_tok k ∷ []) is_sum (one_count k h)
kind-piece (Collection k) h = worded (codes "collection") (decimal k ∷ []) (count_tok k ∷ []) is_collection (one_count k h)
kind-piece (Maximum best k) h =
    worded (codes "maximum") (decimal best ∷ decimal k ∷ []) (count_tok best ∷ count_tok k ∷ []) is_maximum
    (pieces form.Count decimal count_tok w.IsCount count-item (best ∷ k ∷ []) (h.0, (h.1, tt)))

kind-formed : (t : TableKind) → w.IsWritableKind t → form.Headed p.KindAfter t (kind_toks t)
unfolding kind_toks
kind-formed (Sum k) h =
    record { word = codes "sum"; back = listed (count_tok k ∷ []) []; is = refl; formed = record { value = k; is = refl; formed = count-round k h } }
kind-formed (Collection k) h =
    record { word = codes "collection"; back = listed (count_tok k ∷ []) []; is = refl; formed = record { value = k; is = refl; formed = count-round k h } }
kind-formed (Maximum best k) h = record {
  word = codes "maximum";
  back = listed (count_tok best ∷ count_tok k ∷ []) [];
  is = refl;
  formed = record {
    value = (best, k);
    is = refl;
    formed = round-formed (λ k. form.Both form.Count (form.After (s.Comma ∷ []) form.Count)) 127 (best, k) (number best ∷ symbol s.Comma ∷ number k ∷ [])
        (record {
          front = number best ∷ [];
          back = symbol s.Comma ∷ number k ∷ [];
          is = refl;
          first = count-formed best h.0;
          second =
              record { back = number k ∷ []; is = refl; formed = count-formed k h.1 };
        });
  };
}

-- the tokens of a table
unfoldable pub table_toks : TableDecl → List Tok
table_toks t = name (codes "table") ∷ var t.name ∷ symbol s.Colon ∷ (kind_toks t.kind ++ symbol s.Semicolon ∷ [])

table-whole : (n : List ℕ) (t : TableKind) (rest : List Tok)
    → cut 0 (name (codes "table") ∷ var n ∷ symbol s.Colon ∷ ((kind_toks t ++ symbol s.Semicolon ∷ []) ++ rest)) ≡
    (name (codes "table") ∷ var n ∷ symbol s.Colon ∷ (kind_toks t ++ symbol s.Semicolon ∷ [])) ∷ cut 0 rest
unfolding cut ends_unit braces_after kind_toks
table-whole n (Sum k) rest = refl
table-whole n (Collection k) rest = refl
table-whole n (Maximum best k) rest = refl

table-spells : (t : TableDecl) → w.IsWritableTable t → Line (table_line t) (table_toks t)
unfolding table_toks
table-spells t h =
    let kind = table_text t.kind ++ codes ";\n" in
    let toks = kind_toks t.kind ++ symbol s.Semicolon ∷ [] in
    line-then (codes "table") (name (codes "table") ∷ []) (codes " " ++ (var_text t.name ++ (codes ": " ++ kind))) (var t.name ∷ symbol s.Colon ∷ toks)
    (name-piece (codes "table") is_table)
    (line-blank (var_text t.name ++ (codes ": " ++ kind)) (var t.name ∷ symbol s.Colon ∷ toks)
    (line-then (var_text t.name) (var t.name ∷ []) (codes ": " ++ kind) (symbol s.Colon ∷ toks) (var-piece t.name (name-text t.name h.0))
    (colon-line kind toks
    (line-then (table_text t.kind) (kind_toks t.kind) (codes ";\n") (symbol s.Semicolon ∷ []) (kind-piece t.kind h.1) semicolon-end
    (now-semicolon (codes "\n"))))
    (now-colon (codes " " ++ kind))))
    (now-blank (var_text t.name ++ (codes ": " ++ kind)))

-- the line of a table spells a unit
pub table-unit : (t : TableDecl) → w.IsWritableTable t → UnitPiece (table_line t) (table_toks t)
unfolding table_toks
table-unit t h = record { spells = table-spells t h; begins = λ rest. refl; whole = λ rest none. table-whole t.name t.kind rest }

-- the declaration of a table is in the grammar
pub table-formed : (t : TableDecl) → w.IsWritableTable t → p.IsTable t (var t.name ∷ symbol s.Colon ∷ (kind_toks t.kind ++ symbol s.Semicolon ∷ []))
table-formed t h = record {
  value = (t.name, t.kind);
  is = refl;
  formed = record {
    front = var t.name ∷ [];
    back = symbol s.Colon ∷ (kind_toks t.kind ++ symbol s.Semicolon ∷ []);
    is = refl;
    first = variable-formed t.name h.0;
    second =
        record {
          back = kind_toks t.kind ++ symbol s.Semicolon ∷ [];
          is = refl;
          formed =
              record { front = kind_toks t.kind; is = refl; formed = kind-formed t.kind h.1 };
        };
  };
}

-- the tokens of a variable
unfoldable pub var_toks : List ℕ → List Tok
var_toks v = name (codes "var") ∷ var v ∷ symbol s.Semicolon ∷ []

var-whole : (v : List ℕ) (rest : List Tok)
    → cut 0 (name (codes "var") ∷ var v ∷ symbol s.Semicolon ∷ rest) ≡ (name (codes "var") ∷ var v ∷ symbol s.Semicolon ∷ []) ∷ cut 0 rest
unfolding cut ends_unit braces_after
var-whole v rest = refl

-- the line of a private variable spells a unit
pub var-unit : (v : List ℕ) → w.IsNamed v → UnitPiece (var_line v) (var_toks v)
unfolding var_toks
var-unit v h = record {
  spells =
      line-then (codes "var") (name (codes "var") ∷ []) (codes " " ++ (var_text v ++ codes ";\n")) (var v ∷ symbol s.Semicolon ∷ [])
      (name-piece (codes "var") is_var)
      (line-blank (var_text v ++ codes ";\n") (var v ∷ symbol s.Semicolon ∷ [])
      (line-then (var_text v) (var v ∷ []) (codes ";\n") (symbol s.Semicolon ∷ []) (var-piece v (name-text v h)) semicolon-end (now-semicolon (codes "\n"))))
      (now-blank (var_text v ++ codes ";\n"));
  begins = λ rest. refl;
  whole = λ rest none. var-whole v rest;
}

-- its declaration is in the grammar
pub var-formed : (v : List ℕ) → w.IsNamed v → form.Before p.IsVar (s.Semicolon ∷ []) v (var v ∷ symbol s.Semicolon ∷ [])
var-formed v h = record { front = var v ∷ []; is = refl; formed = variable-formed v h }

-- ---- operators

abbrev port_text : p.Port → List ℕ
port_text (p.queue v) = v
port_text (p.variable v) = var_text v

abbrev port_tok : p.Port → List Tok
port_tok (p.queue v) = name v ∷ []
port_tok (p.variable v) = var v ∷ []

abbrev IsPortNamed : p.Port → Type 0
IsPortNamed (p.queue v) = w.IsNamed v
IsPortNamed (p.variable v) = w.IsNamed v

port-item : (x : p.Port) → IsPortNamed x → Item p.IsPort port_text port_tok x
port-item (p.queue v) h = record { piece = name-piece v (name-text v h); formed = inr (record { value = v; is = refl; formed = named-formed v h }) }
port-item (p.variable v) h = record { piece = var-piece v (name-text v h); formed = inl (record { value = v; is = refl; formed = variable-formed v h }) }

abbrev ports : List Name → List Name → List p.Port
ports qs vs = map p.queue qs ++ map p.variable vs

vars-named : (vs : List Name) → w.Every w.IsNamed vs → w.Every IsPortNamed (map p.variable vs)
vars-named [] h = tt
vars-named (v ∷ vs) h = (h.0, vars-named vs h.1)

ports-named : (qs vs : List Name) → w.Every w.IsNamed qs → w.Every w.IsNamed vs → w.Every IsPortNamed (ports qs vs)
ports-named [] vs h k = vars-named vs k
ports-named (q ∷ qs) vs h k = (h.0, ports-named qs vs h.1 k)

vars-text : (vs : List Name) → map port_text (map p.variable vs) ≡ map var_text vs
vars-text [] = refl
vars-text (v ∷ vs) = ap (λ (l : List (List ℕ)). var_text v ∷ l) (vars-text vs)

texts-same : (qs vs : List Name) → map port_text (ports qs vs) ≡ qs ++ map var_text vs
texts-same [] vs = vars-text vs
texts-same (q ∷ qs) vs = ap (λ (l : List (List ℕ)). q ∷ l) (texts-same qs vs)

abbrev port_toks : List Name → List Name → List (List Tok)
port_toks qs vs = map port_tok (ports qs vs)

ports-piece : (qs vs : List Name) → w.Every w.IsNamed qs → w.Every w.IsNamed vs → Piece (ports_text qs vs) (listed (port_toks qs vs) [])
ports-piece qs vs h k =
    subst (λ (l : List (List ℕ)). Piece (list_text l) (listed (port_toks qs vs) [])) (texts-same qs vs)
    (list-last (map port_text (ports qs vs)) (port_toks qs vs) (pieces p.IsPort port_text port_tok IsPortNamed port-item (ports qs vs) (ports-named qs vs h k)))

ports-line : (qs vs : List Name) (u : List ℕ) (us : List Tok) → w.Every w.IsNamed qs → w.Every w.IsNamed vs → Line u us → EndsNow u
    → Line (ports_text qs vs ++ u) (listed (port_toks qs vs) us)
ports-line qs vs u us h k y e =
    subst (λ (l : List Tok). Line (ports_text qs vs ++ u) l) (sym (behind_round (items_toks (port_toks qs vs)) us))
    (line-then (ports_text qs vs) (listed (port_toks qs vs) []) u us (ports-piece qs vs h k) y e)

abbrev kernel_braced : OpForm → List Tok
kernel_braced op = symbol s.OpenBrace ∷ (kernel_toks op.kernel ++ symbol s.CloseBrace ∷ [])

-- the tokens of an operator: what it writes, what it reads, and its kernel in braces
unfoldable pub op_toks : OpForm → List Tok
op_toks op =
    name (codes "op") ∷ name op.label ∷ symbol s.Colon ∷ listed (port_toks op.writes op.vars)
    (symbol s.Less ∷ symbol s.Minus ∷ listed (port_toks op.reads op.vars) (kernel_braced op))

less_minus : (rest : List ℕ) → MayFollow s.Less (codes "-" ++ rest)
unfolding long_symbol
less_minus rest = (refl, refl, refl)

op-spells : (op : OpForm) → w.IsWritableOp op → Line (op_line op) (op_toks op)
unfolding op_toks
op-spells op h =
    let k = kernel_text op.kernel in
    let toks = kernel_braced op in
    let p1 = ports_text op.writes op.vars in
    let p2 = ports_text op.reads op.vars in
    let kernel : Line (codes "{ " ++ (k ++ codes " }\n")) toks =
    subst (λ (l : List Tok). Line (codes "{ " ++ (k ++ codes " }\n")) l) (append-nil toks)
    (subst (λ (l : List ℕ). Line (codes "{ " ++ l) (toks ++ [])) (append_assoc k (codes " }") (codes "\n"))
    (line-then (codes "{ " ++ (k ++ codes " }")) toks (codes "\n") [] (braced k (kernel_toks op.kernel) (kernel-piece op.kernel h.1)) line-end
    (now-line []))) in
    let tail : List ℕ = codes " { " ++ (k ++ codes " }\n") in
    let second : Line (p2 ++ tail) (listed (port_toks op.reads op.vars) toks) =
    ports-line op.reads op.vars tail toks h.3 h.5 (line-blank (codes "{ " ++ (k ++ codes " }\n")) toks kernel)
    (now-blank (codes "{ " ++ (k ++ codes " }\n"))) in
    let second_toks : List Tok = listed (port_toks op.reads op.vars) toks in
    let arrow : Line (codes " <- " ++ (p2 ++ tail)) (symbol s.Less ∷ symbol s.Minus ∷ second_toks) =
    line-blank (codes "<- " ++ (p2 ++ tail)) (symbol s.Less ∷ symbol s.Minus ∷ second_toks)
    (line-symbol s.Less (codes "- " ++ (p2 ++ tail)) (symbol s.Minus ∷ second_toks)
    (line-symbol s.Minus (codes " " ++ (p2 ++ tail)) second_toks (line-blank (p2 ++ tail) second_toks second)
    (λ rest. blank_follows s.Minus ((p2 ++ tail) ++ rest))) (λ rest. less_minus (codes " " ++ ((p2 ++ tail) ++ rest)))) in
    let first : Line (p1 ++ (codes " <- " ++ (p2 ++ tail))) (listed (port_toks op.writes op.vars) (symbol s.Less ∷ symbol s.Minus ∷ second_toks)) =
    ports-line op.writes op.vars (codes " <- " ++ (p2 ++ tail)) (symbol s.Less ∷ symbol s.Minus ∷ second_toks) h.4 h.5 arrow
    (now-blank (codes "<- " ++ (p2 ++ tail))) in
    let first_toks : List Tok = listed (port_toks op.writes op.vars) (symbol s.Less ∷ symbol s.Minus ∷ second_toks) in
    let labelled : Line (op.label ++ (codes ": " ++ (p1 ++ (codes " <- " ++ (p2 ++ tail))))) (name op.label ∷ symbol s.Colon ∷ first_toks) =
    line-then op.label (name op.label ∷ []) (codes ": " ++ (p1 ++ (codes " <- " ++ (p2 ++ tail)))) (symbol s.Colon ∷ first_toks)
    (name-piece op.label (name-text op.label h.0)) (colon-line (p1 ++ (codes " <- " ++ (p2 ++ tail))) first_toks first)
    (now-colon (codes " " ++ (p1 ++ (codes " <- " ++ (p2 ++ tail))))) in
    let whole : Line (codes "op " ++ (op.label ++ (codes ": " ++ (p1 ++ (codes " <- " ++ (p2 ++ tail))))))
    (name (codes "op") ∷ name op.label ∷ symbol s.Colon ∷ first_toks) =
    line-then (codes "op") (name (codes "op") ∷ []) (codes " " ++ (op.label ++ (codes ": " ++ (p1 ++ (codes " <- " ++ (p2 ++ tail))))))
    (name op.label ∷ symbol s.Colon ∷ first_toks) (name-piece (codes "op") is_op)
    (line-blank (op.label ++ (codes ": " ++ (p1 ++ (codes " <- " ++ (p2 ++ tail))))) (name op.label ∷ symbol s.Colon ∷ first_toks) labelled)
    (now-blank (op.label ++ (codes ": " ++ (p1 ++ (codes " <- " ++ (p2 ++ tail)))))) in
    let regroup : op_line op ≡ codes "op " ++ (op.label ++ (codes ": " ++ (p1 ++ (codes " <- " ++ (p2 ++ tail))))) =
    ap (λ (l : List ℕ). codes "op " ++ l)
    (append_assoc op.label (codes ": " ++ (p1 ++ (codes " <- " ++ p2))) tail
    ∙ ap (λ (l : List ℕ). op.label ++ (codes ": " ++ l)) (append_assoc p1 (codes " <- " ++ p2) tail)) in
    subst (λ (l : List ℕ). Line l (name (codes "op") ∷ name op.label ∷ symbol s.Colon ∷ first_toks)) (sym regroup) whole

-- outside braces these tokens end no unit
record Loose (ts : List Tok) : Type 0 where
  goes : (rest : List Tok) → cut 0 (ts ++ rest) ≡ all_first ts (cut 0 rest)

flat-then : (ts us : List Tok) → Loose ts → Loose us → Loose (ts ++ us)
flat-then ts us x y =
    record {
      goes = λ rest. ap (cut 0) (append_assoc ts us rest) ∙ x.goes (us ++ rest) ∙ ap (all_first ts) (y.goes rest)
          ∙ sym (all_first-append ts us (cut 0 rest));
    }

flat-nothing : Loose []
flat-nothing = record { goes = λ rest. refl }

flat-name : (v : List ℕ) → Loose (name v ∷ [])
unfolding cut ends_unit braces_after
flat-name v = record { goes = λ rest. refl }

flat-var : (v : List ℕ) → Loose (var v ∷ [])
unfolding cut ends_unit braces_after
flat-var v = record { goes = λ rest. refl }

flat-comma : Loose (symbol s.Comma ∷ [])
unfolding cut ends_unit braces_after
flat-comma = record { goes = λ rest. refl }

flat-colon : Loose (symbol s.Colon ∷ [])
unfolding cut ends_unit braces_after
flat-colon = record { goes = λ rest. refl }

flat-open : Loose (symbol s.Open ∷ [])
unfolding cut ends_unit braces_after
flat-open = record { goes = λ rest. refl }

flat-close : Loose (symbol s.Close ∷ [])
unfolding cut ends_unit braces_after
flat-close = record { goes = λ rest. refl }

flat-arrow : Loose (symbol s.Less ∷ symbol s.Minus ∷ [])
unfolding cut ends_unit braces_after
flat-arrow = record { goes = λ rest. refl }

flat-port : (x : p.Port) → Loose (port_tok x)
flat-port (p.queue v) = flat-name v
flat-port (p.variable v) = flat-var v

flat-more : (xs : List p.Port) → Loose (more_toks (map port_tok xs))
flat-more [] = flat-nothing
flat-more (x ∷ xs) =
    flat-then (symbol s.Comma ∷ []) (port_tok x ++ more_toks (map port_tok xs)) flat-comma
    (flat-then (port_tok x) (more_toks (map port_tok xs)) (flat-port x) (flat-more xs))

flat-items : (xs : List p.Port) → Loose (items_toks (map port_tok xs))
flat-items [] = flat-nothing
flat-items (x ∷ xs) = flat-then (port_tok x) (more_toks (map port_tok xs)) (flat-port x) (flat-more xs)

flat-listed : (xs : List p.Port) (us : List Tok) → Loose us → Loose (listed (map port_tok xs) us)
flat-listed xs us f =
    flat-then (symbol s.Open ∷ []) (items_toks (map port_tok xs) ++ symbol s.Close ∷ us) flat-open
    (flat-then (items_toks (map port_tok xs)) (symbol s.Close ∷ us) (flat-items xs) (flat-then (symbol s.Close ∷ []) us flat-close f))

all_first-one : (ts u : List Tok) (us : List (List Tok)) → all_first ts (u ∷ us) ≡ (ts ++ u) ∷ us
all_first-one [] u us = refl
all_first-one (t ∷ ts) u us = ap (to_first t) (all_first-one ts u us)

closes : (rest : List Tok) → is_else rest ≡ false → cut 1 (symbol s.CloseBrace ∷ rest) ≡ (symbol s.CloseBrace ∷ []) ∷ cut 0 rest
unfolding cut ends_unit
closes rest none = rw none refl

opens : (ts : List Tok) → cut 0 (symbol s.OpenBrace ∷ ts) ≡ to_first (symbol s.OpenBrace) (cut 1 ts)
unfolding cut ends_unit braces_after
opens ts = refl

braces-whole : (k rest : List Tok) → Inside k → is_else rest ≡ false
    → cut 0 ((symbol s.OpenBrace ∷ (k ++ symbol s.CloseBrace ∷ [])) ++ rest) ≡ (symbol s.OpenBrace ∷ (k ++ symbol s.CloseBrace ∷ [])) ∷ cut 0 rest
braces-whole k rest x none =
    opens ((k ++ symbol s.CloseBrace ∷ []) ++ rest)
    ∙ ap (to_first (symbol s.OpenBrace))
    (ap (cut 1) (append_assoc k (symbol s.CloseBrace ∷ []) rest) ∙ x.goes 0 (symbol s.CloseBrace ∷ rest) ∙ ap (all_first k) (closes rest none)
    ∙ all_first-one k (symbol s.CloseBrace ∷ []) (cut 0 rest))

abbrev op_front : OpForm → List Tok
op_front op =
    name (codes "op") ∷ name op.label ∷ symbol s.Colon ∷ listed (port_toks op.writes op.vars)
    (symbol s.Less ∷ symbol s.Minus ∷ listed (port_toks op.reads op.vars) [])

op-split : (op : OpForm) → op_toks op ≡ op_front op ++ kernel_braced op
unfolding op_toks
op-split op =
    let i1 = items_toks (port_toks op.writes op.vars) in
    let i2 = items_toks (port_toks op.reads op.vars) in
    ap (λ (l : List Tok). name (codes "op") ∷ name op.label ∷ symbol s.Colon ∷ symbol s.Open ∷ l)
    (ap (λ (l : List Tok). i1 ++ symbol s.Close ∷ symbol s.Less ∷ symbol s.Minus ∷ symbol s.Open ∷ l)
    (sym (append_assoc i2 (symbol s.Close ∷ []) (kernel_braced op)))
    ∙ sym (append_assoc i1 (symbol s.Close ∷ symbol s.Less ∷ symbol s.Minus ∷ symbol s.Open ∷ (i2 ++ symbol s.Close ∷ [])) (kernel_braced op)))

flat-front : (op : OpForm) → Loose (op_front op)
flat-front op =
    flat-then (name (codes "op") ∷ [])
    (name op.label ∷ symbol s.Colon ∷ listed (port_toks op.writes op.vars) (symbol s.Less ∷ symbol s.Minus ∷ listed (port_toks op.reads op.vars) []))
    (flat-name (codes "op"))
    (flat-then (name op.label ∷ [])
    (symbol s.Colon ∷ listed (port_toks op.writes op.vars) (symbol s.Less ∷ symbol s.Minus ∷ listed (port_toks op.reads op.vars) [])) (flat-name op.label)
    (flat-then (symbol s.Colon ∷ []) (listed (port_toks op.writes op.vars) (symbol s.Less ∷ symbol s.Minus ∷ listed (port_toks op.reads op.vars) [])) flat-colon
    (flat-listed (ports op.writes op.vars) (symbol s.Less ∷ symbol s.Minus ∷ listed (port_toks op.reads op.vars) [])
    (flat-then (symbol s.Less ∷ symbol s.Minus ∷ []) (listed (port_toks op.reads op.vars) []) flat-arrow
    (flat-listed (ports op.reads op.vars) [] flat-nothing)))))

op-whole : (op : OpForm) → w.IsWritableOp op → (rest : List Tok) → is_else rest ≡ false → cut 0 (op_toks op ++ rest) ≡ op_toks op ∷ cut 0 rest
op-whole op h rest none =
    let f = flat-front op in
    ap (λ (l : List Tok). cut 0 (l ++ rest)) (op-split op) ∙ ap (cut 0) (append_assoc (op_front op) (kernel_braced op) rest) ∙ f.goes (kernel_braced op ++ rest)
    ∙ ap (all_first (op_front op)) (braces-whole (kernel_toks op.kernel) rest (kernel-piece op.kernel h.1).inside none)
    ∙ all_first-one (op_front op) (kernel_braced op) (cut 0 rest) ∙ ap (λ (l : List Tok). l ∷ cut 0 rest) (sym (op-split op))

op-begins : (op : OpForm) (rest : List Tok) → is_else (op_toks op ++ rest) ≡ false
unfolding op_toks
op-begins op rest = refl

-- the line of an operator spells a unit
pub op-unit : (op : OpForm) → w.IsWritableOp op → UnitPiece (op_line op) (op_toks op)
op-unit op h = record { spells = op-spells op h; begins = op-begins op; whole = op-whole op h }

same-names : (vs : List Name) → pointwise name_eq vs vs ≡ true
same-names [] = refl
same-names (v ∷ vs) = rw ((bytes_eq-Decides v v).1 refl, same-names vs) refl

abbrev op_back : OpForm → List Tok
op_back op =
    name op.label ∷ symbol s.Colon ∷ listed (port_toks op.writes op.vars)
    (symbol s.Less ∷ symbol s.Minus ∷ listed (port_toks op.reads op.vars) (kernel_braced op))

ports-formed : (qs vs : List Name) → w.Every w.IsNamed qs → w.Every w.IsNamed vs → Round (λ m. p.IsPorts) 128 (qs, vs) (listed (port_toks qs vs) [])
ports-formed qs vs h k =
    round-formed (λ k. p.IsPorts) 127 (qs, vs) (items_toks (port_toks qs vs))
    (items-listing p.IsPort port_text port_tok IsPortNamed port-item (ports qs vs) (ports-named qs vs h k))

-- an operator is in the grammar
pub op-formed : (op : OpForm) → w.IsWritableOp op → p.IsOp op (op_back op)
op-formed op h =
    let i1 = items_toks (port_toks op.writes op.vars) in
    let i2 = items_toks (port_toks op.reads op.vars) in
    record {
      value = (op.label, ((op.writes, op.vars), ((op.reads, op.vars), op.kernel)));
      is = refl;
      formed = record {
        passes = same-names op.vars;
        formed = record {
          front = name op.label ∷ [];
          back =
              symbol s.Colon ∷ listed (port_toks op.writes op.vars) (symbol s.Less ∷ symbol s.Minus ∷ listed (port_toks op.reads op.vars) (kernel_braced op));
          is = refl;
          first = named-formed op.label h.0;
          second = record {
            back = listed (port_toks op.writes op.vars) (symbol s.Less ∷ symbol s.Minus ∷ listed (port_toks op.reads op.vars) (kernel_braced op));
            is = refl;
            formed = record {
              front = listed (port_toks op.writes op.vars) [];
              back = symbol s.Less ∷ symbol s.Minus ∷ listed (port_toks op.reads op.vars) (kernel_braced op);
              is = behind_round i1 (symbol s.Less ∷ symbol s.Minus ∷ listed (port_toks op.reads op.vars) (kernel_braced op));
              first = ports-formed op.writes op.vars h.4 h.5;
              second = record {
                back = listed (port_toks op.reads op.vars) (kernel_braced op);
                is = refl;
                formed = record {
                  front = listed (port_toks op.reads op.vars) [];
                  back = kernel_braced op;
                  is = behind_round i2 (kernel_braced op);
                  first = ports-formed op.reads op.vars h.3 h.5;
                  second = braced-formed op.kernel h.1 h.2;
                };
              };
            };
          };
        };
      };
    }
