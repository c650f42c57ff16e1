-- The header, and queues with capacities, printed and read.
use Rattle.std.proofs.Common.{◌≡◌, ℕ, ◌<◌, true, List, [], ◌∷◌, ◌++◌, Option, Some, None, Result, Ok, Err, refl, sym, ap, ◌∙◌, subst, arith, append_assoc}
use Rattle.std.specs.Prelude.{codes}
use Rattle.std.specs.Fmt.{decimal}
use Rattle.std.proofs.lemmas.Fmt.{decimal-digits_of}
use Rattle.text_tokens.specs.Cut.{cut, ends_unit, braces_after}
use Rattle.text_tokens.specs.Lexis.{is_letter, is_word, is_digit, is_blank, first_is, begins_with, piece_at, number_piece, decimal_from, symbol_piece, marks, tokens_in, with_mark}
use Rattle.text_tokens.specs.Symbols.{long_symbol, short_symbol}
use Rattle.text_tokens.specs.Tok.{Tok, Mark, name, number, symbol}
use Rattle.text_tokens.specs.declared.fault.LexFault.{LexFault}
use Rattle.text_tokens.specs.declared.sign.Symbol.TheVariants as s
use Rattle.text_tokens.proofs.Spelled.{is_name_text}
use Rattle.river_base.specs.declared.kind.FlatType.TheVariants.{Rows, Stream, Relation}
use Rattle.river_base.specs.declared.kind.QueueType.{QueueType}
use Rattle.river_base.specs.declared.kind.QueueType.TheVariants.{Flat, Pack}
use Rattle.river_plan.specs.Caps.{IsCap, IsOwnCap}
use Rattle.river_plan.specs.declared.plan.Decl.{Decl}
use Rattle.river_print.specs.Printed.{list_text, type_text, cap_text, capped_line, header_line}
use Rattle.river_text.specs.Plans as p
use Rattle.river_print.specs.Writable as w
use Rattle.river_print.proofs.Kernels.{listed, worded}
use Rattle.river_print.proofs.Listings.{count_tok, count-item}
use Rattle.river_print.proofs.Pieces.{Piece}
use Rattle.river_print.proofs.Units.{UnitPiece, Line, now-blank, now-colon, now-semicolon, line-then, line-blank, colon-line, semicolon-end, name-piece, name-text, one_count}
use Rattle.river_print.proofs.Units.{flat_toks, type_toks, type-piece, type-formed, named-formed, count-round}

-- a capacity counts something
counts : (n : ℕ) → IsCap n → w.IsCount n
counts n h = let most = h.1 in omega (arith, most)

-- ---- the header

-- the tokens of `river 2;`
unfoldable pub header_toks : List Tok
header_toks = name (codes "river") ∷ number 2 ∷ symbol s.Semicolon ∷ []

is_river : is_name_text (codes "river") ≡ true
unfolding is_letter is_word is_digit
is_river = refl

-- how it is written
two_is : decimal 2 ≡ codes "2"
two_is = decimal-digits_of 2 (omega arith) (omega arith)

two : Piece (codes "2") (number 2 ∷ [])
two = let small : 2 < 4294967296 = omega arith in subst (λ (l : List ℕ). Piece l (number 2 ∷ [])) two_is (count-item 2 small).piece

header-spells : Line header_line header_toks
unfolding header_toks
header-spells =
    line-then (codes "river") (name (codes "river") ∷ []) (codes " 2;\n") (number 2 ∷ symbol s.Semicolon ∷ []) (name-piece (codes "river") is_river)
    (line-blank (codes "2;\n") (number 2 ∷ symbol s.Semicolon ∷ [])
    (line-then (codes "2") (number 2 ∷ []) (codes ";\n") (symbol s.Semicolon ∷ []) two semicolon-end (now-semicolon (codes "\n"))))
    (now-blank (codes "2;\n"))

header-whole : (rest : List Tok) → cut 0 (header_toks ++ rest) ≡ header_toks ∷ cut 0 rest
unfolding header_toks cut ends_unit braces_after
header-whole rest = refl

-- its line spells a unit
pub header-unit : UnitPiece header_line header_toks
unfolding header_toks
header-unit = record { spells = header-spells; begins = λ rest. refl; whole = λ rest none. header-whole rest }

-- which is in the grammar
pub header-formed : p.IsUnit p.header header_toks
unfolding header_toks
header-formed = record {
  word = codes "river";
  back = _;
  is = refl;
  formed = record { value = 2; is = refl; formed = record { front = number 2 ∷ []; is = refl; formed = record { passes = refl; formed = refl } } };
}

-- the tokens of the header, and those of what stands behind it
abbrev headed : Result (List Mark) LexFault → Result (List Mark) LexFault
headed r =
    with_mark (record { tok = name (codes "river"); start = 0; end = 5 })
    (with_mark (record { tok = number 2; start = 6; end = 7 }) (with_mark (record { tok = symbol s.Semicolon; start = 7; end = 8 }) r))

header-marks : (rest : List ℕ) → tokens_in (header_line ++ rest) ≡ headed (marks 0 8 (codes "\n" ++ rest))
unfolding marks piece_at first_is is_blank is_letter is_word is_digit begins_with number_piece decimal_from symbol_piece long_symbol short_symbol
header-marks rest = refl

-- the number of a header is one byte long
pub header-short : (rest : List ℕ) (ms : List Mark) → tokens_in (header_line ++ rest) ≡ Ok ms → p.is_second_short ms ≡ true
header-short rest ms lexed = by (marks 0 8 (codes "\n" ++ rest)) (sym (header-marks rest) ∙ lexed) where
  by : (r : Result (List Mark) LexFault) → headed r ≡ Ok ms → p.is_second_short ms ≡ true
  by (Ok ns) e = sym (ap p.is_second_short (same e)) where
    same : headed (Ok ns) ≡ Ok ms
        → (record { tok = name (codes "river"); start = 0; end = 5 } ∷ record { tok = number 2; start = 6; end = 7 } ∷ record {
          tok = symbol s.Semicolon;
          start =
              7;
          end = 8;
        } ∷ ns) ≡ ms
    same f = cc
  by (Err fault) e = cc

-- ---- queues

unfoldable pub cap_toks : Option ℕ → List Tok
cap_toks None = []
cap_toks (Some n) = name (codes "cap") ∷ listed (count_tok n ∷ []) []

-- the tokens of a queue, with its capacity where it has one
unfoldable pub queue_toks : Decl → Option ℕ → List Tok
queue_toks d most = name (codes "queue") ∷ name d.name ∷ symbol s.Colon ∷ (type_toks d.kind ++ (cap_toks most ++ symbol s.Semicolon ∷ []))

is_queue : is_name_text (codes "queue") ≡ true
unfolding is_letter is_word is_digit
is_queue = refl

is_capped : is_name_text (codes "cap") ≡ true
unfolding is_letter is_word is_digit
is_capped = refl

-- a type, and the capacity behind it
typed : (t : QueueType) (most : Option ℕ) → w.IsWritableType t → IsOwnCap most
    → Line (type_text t ++ (cap_text most ++ codes ";\n")) (type_toks t ++ (cap_toks most ++ symbol s.Semicolon ∷ []))
unfolding cap_toks
typed t None h k = line-then (type_text t) (type_toks t) (codes ";\n") (symbol s.Semicolon ∷ []) (type-piece t h) semicolon-end (now-semicolon (codes "\n"))
typed t (Some n) h k =
    let cap_line = (codes "cap" ++ list_text (decimal n ∷ [])) ++ codes ";\n" in
    let toks = (name (codes "cap") ∷ listed (count_tok n ∷ []) []) ++ symbol s.Semicolon ∷ [] in
    line-then (type_text t) (type_toks t) (codes " " ++ cap_line) toks (type-piece t h)
    (line-blank cap_line toks
    (line-then (codes "cap" ++ list_text (decimal n ∷ [])) (name (codes "cap") ∷ listed (count_tok n ∷ []) []) (codes ";\n") (symbol s.Semicolon ∷ [])
    (worded (codes "cap") (decimal n ∷ []) (count_tok n ∷ []) is_capped (one_count n (counts n k))) semicolon-end (now-semicolon (codes "\n"))))
    (now-blank cap_line)

queue-spells : (d : Decl) (most : Option ℕ) → w.IsWritableDecl d → IsOwnCap most → Line (capped_line d most) (queue_toks d most)
unfolding queue_toks
queue-spells d most h k =
    let line = type_text d.kind ++ (cap_text most ++ codes ";\n") in
    let toks = type_toks d.kind ++ (cap_toks most ++ symbol s.Semicolon ∷ []) in
    line-then (codes "queue") (name (codes "queue") ∷ []) (codes " " ++ (d.name ++ (codes ": " ++ line))) (name d.name ∷ symbol s.Colon ∷ toks)
    (name-piece (codes "queue") is_queue)
    (line-blank (d.name ++ (codes ": " ++ line)) (name d.name ∷ symbol s.Colon ∷ toks)
    (line-then d.name (name d.name ∷ []) (codes ": " ++ line) (symbol s.Colon ∷ toks) (name-piece d.name (name-text d.name h.0))
    (colon-line line toks (typed d.kind most h.1 k)) (now-colon (codes " " ++ line))))
    (now-blank (d.name ++ (codes ": " ++ line)))

queue-whole : (n : List ℕ) (t : QueueType) (most : Option ℕ) (rest : List Tok)
    → cut 0 (name (codes "queue") ∷ name n ∷ symbol s.Colon ∷ ((type_toks t ++ (cap_toks most ++ symbol s.Semicolon ∷ [])) ++ rest)) ≡
    (name (codes "queue") ∷ name n ∷ symbol s.Colon ∷ (type_toks t ++ (cap_toks most ++ symbol s.Semicolon ∷ []))) ∷ cut 0 rest
unfolding cut ends_unit braces_after type_toks flat_toks cap_toks
queue-whole n (Flat (Rows k)) None rest = refl
queue-whole n (Flat (Stream k)) None rest = refl
queue-whole n (Flat (Relation k)) None rest = refl
queue-whole n (Pack (Rows k)) None rest = refl
queue-whole n (Pack (Stream k)) None rest = refl
queue-whole n (Pack (Relation k)) None rest = refl
queue-whole n (Flat (Rows k)) (Some m) rest = refl
queue-whole n (Flat (Stream k)) (Some m) rest = refl
queue-whole n (Flat (Relation k)) (Some m) rest = refl
queue-whole n (Pack (Rows k)) (Some m) rest = refl
queue-whole n (Pack (Stream k)) (Some m) rest = refl
queue-whole n (Pack (Relation k)) (Some m) rest = refl

-- its line spells a unit
pub queue-unit : (d : Decl) (most : Option ℕ) → w.IsWritableDecl d → IsOwnCap most → UnitPiece (capped_line d most) (queue_toks d most)
unfolding queue_toks
queue-unit d most h k = record { spells = queue-spells d most h k; begins = λ rest. refl; whole = λ rest none. queue-whole d.name d.kind most rest }

capped-formed : (most : Option ℕ) → IsOwnCap most → p.IsCapped most (cap_toks most)
unfolding cap_toks
capped-formed None k = refl
capped-formed (Some n) k = record { back = listed (count_tok n ∷ []) []; is = refl; formed = count-round n (counts n k) }

-- which is in the grammar
pub queue-formed : (d : Decl) (most : Option ℕ) → w.IsWritableDecl d → IsOwnCap most → p.IsUnit (p.inner (record { decl = d; most = most })) (queue_toks d most)
unfolding queue_toks
queue-formed d most h k = record {
  word = codes "queue";
  back = _;
  is = refl;
  formed = record {
    value = record { decl = d; most = most };
    is = refl;
    formed = record {
      value = (d.name, (d.kind, most));
      is = refl;
      formed = record {
        front = name d.name ∷ [];
        back = symbol s.Colon ∷ (type_toks d.kind ++ (cap_toks most ++ symbol s.Semicolon ∷ []));
        is = refl;
        first = named-formed d.name h.0;
        second = record {
          back = type_toks d.kind ++ (cap_toks most ++ symbol s.Semicolon ∷ []);
          is = refl;
          formed = record {
            front = type_toks d.kind ++ cap_toks most;
            is = sym (append_assoc (type_toks d.kind) (cap_toks most) (symbol s.Semicolon ∷ []));
            formed = record { front = type_toks d.kind; back = cap_toks most; is = refl; first = type-formed d.kind h.1; second = capped-formed most k };
          };
        };
      };
    };
  };
}
