-- Expressions and bodies, printed and read.
use Rattle.std.proofs.Common.{◌≡◌, ℕ, zero, suc, ◌+◌, ◌<◌, ◌≤◌, true, List, [], ◌∷◌, ◌++◌, length, refl, sym, ap, subst, arith, append_assoc}
use Rattle.std.specs.Prelude.{codes, map, Option, Some, None}
use Rattle.std.specs.Fmt.{decimal}
use Rattle.text_tokens.specs.Lexis.{is_letter, is_word, is_digit}
use Rattle.work_code.specs.Printed.{text_of, items_text, step_text, body_text, more_text, else_text}
use Rattle.work_code.specs.Steps.{Step, Steps, Set, Push, If, Done, Then, in_turn}
use Rattle.work_code.specs.Term.{Term, Const, Input, Slot, Neg, Not, Bin}
use Rattle.text_tokens.specs.Tok.{Tok, name, number, symbol}
use Rattle.work_code.specs.declared.expr.BinOp.{BinOp}
use Rattle.work_code.specs.declared.expr.BinOp.TheVariants as op
use Rattle.text_tokens.specs.declared.sign.Symbol.TheVariants as s
use Rattle.text_tokens.proofs.Spelled.{is_name_text, blank_follows}
use Rattle.text_forms.specs.Forms as form
use Rattle.text_blocks.specs.Parts.{Round}
use Rattle.text_blocks.specs.Seven.{sign_of}
use Rattle.text_blocks.specs.Statements.{IsBranch, IsRest}
use Rattle.river_text.specs.Bodies as bodies
use Rattle.river_text.specs.Bodies.{IsStmt}
use Rattle.river_text.specs.Expressions as exprs
use Rattle.river_print.specs.Writable as w
use Rattle.river_print.proofs.Listings.{Item, pieces, items-commas, count-formed}
use Rattle.river_print.proofs.PrintedExpr.{printed, printed-is, spells-term}
use Rattle.text_tokens.proofs.Insides.{Inside, inside-then, inside-name, inside-number, inside-symbol, IsPlain, plain-Open, plain-Close, plain-OpenBracket}
use Rattle.text_tokens.proofs.Insides.{plain-CloseBracket, plain-Minus, plain-Assign}
use Rattle.river_print.proofs.Pieces.{Piece, EndsWord, piece-nothing, ends-nothing, piece-then, symbol-first}
use Rattle.river_print.proofs.Pieces.{word-first, number-first, blank-first, open-first, close-first, semicolon-first, square-first, square_close-first, braced}
use Rattle.river_print.proofs.Pieces.{braced-nothing, ends-blank, ends-close, ends-square, ends-square_close, ends-semicolon, items_toks, pieces-items}

plain-sign : (o : BinOp) → IsPlain (sign_of o)
plain-sign op.Add = record { no_open = refl; no_close = refl }
plain-sign op.Sub = record { no_open = refl; no_close = refl }
plain-sign op.Mul = record { no_open = refl; no_close = refl }
plain-sign op.Quot = record { no_open = refl; no_close = refl }
plain-sign op.Rem = record { no_open = refl; no_close = refl }
plain-sign op.Eq = record { no_open = refl; no_close = refl }
plain-sign op.Ne = record { no_open = refl; no_close = refl }
plain-sign op.Lt = record { no_open = refl; no_close = refl }
plain-sign op.Le = record { no_open = refl; no_close = refl }
plain-sign op.Gt = record { no_open = refl; no_close = refl }
plain-sign op.Ge = record { no_open = refl; no_close = refl }
plain-sign op.And = record { no_open = refl; no_close = refl }
plain-sign op.Or = record { no_open = refl; no_close = refl }

plain-Not : IsPlain s.Not
plain-Not = record { no_open = refl; no_close = refl }

in_round : (ts : List Tok) → Inside ts → Inside (symbol s.Open ∷ (ts ++ symbol s.Close ∷ []))
in_round ts x =
    inside-then (symbol s.Open ∷ []) (ts ++ symbol s.Close ∷ []) (inside-symbol s.Open plain-Open)
    (inside-then ts (symbol s.Close ∷ []) x (inside-symbol s.Close plain-Close))

in_square : (word : List ℕ) (n : ℕ) → Inside (name word ∷ symbol s.OpenBracket ∷ number n ∷ symbol s.CloseBracket ∷ [])
in_square word n =
    inside-then (name word ∷ []) (symbol s.OpenBracket ∷ number n ∷ symbol s.CloseBracket ∷ []) (inside-name word)
    (inside-then (symbol s.OpenBracket ∷ []) (number n ∷ symbol s.CloseBracket ∷ []) (inside-symbol s.OpenBracket plain-OpenBracket)
    (inside-then (number n ∷ []) (symbol s.CloseBracket ∷ []) (inside-number n) (inside-symbol s.CloseBracket plain-CloseBracket)))

inside-printed : (t : Term) → Inside (printed t)
inside-printed (Const z) = inside-number _
inside-printed (Input place) = in_square (codes "input") place
inside-printed (Slot slot) = in_square (codes "slot") slot
inside-printed (Neg t) =
    in_round (symbol s.Minus ∷ printed t) (inside-then (symbol s.Minus ∷ []) (printed t) (inside-symbol s.Minus plain-Minus) (inside-printed t))
inside-printed (Not t) = in_round (symbol s.Not ∷ printed t) (inside-then (symbol s.Not ∷ []) (printed t) (inside-symbol s.Not plain-Not) (inside-printed t))
inside-printed (Bin o a b) =
    in_round (printed a ++ symbol (sign_of o) ∷ printed b) (inside-then (printed a) (symbol (sign_of o) ∷ printed b) (inside-printed a)
    (inside-then (symbol (sign_of o) ∷ []) (printed b) (inside-symbol (sign_of o) (plain-sign o)) (inside-printed b)))

pub term-piece : (t : Term) → w.IsWritableTerm t → Piece (text_of t) (printed t)
term-piece t h = record { spells = spells-term t h.0; inside = inside-printed t }

pub term-formed : (n : ℕ) (t : Term) → 64 ≤ n → w.IsWritableTerm t → exprs.IsTerm n t (printed t)
term-formed n t room h = printed-is t n h.0 h.1 (omega (arith, h.1))

-- an expression
pub term-item : (n : ℕ) → 64 ≤ n → (t : Term) → w.IsWritableTerm t → Item (exprs.IsTerm n) text_of printed t
term-item n room t h = record { piece = term-piece t h; formed = term-formed n t room h }

-- ---- bodies

abbrev mutual
  pub step_toks : Step → List Tok
  step_toks (Set k t) = name (codes "slot") ∷ symbol s.OpenBracket ∷ number k ∷ symbol s.CloseBracket ∷ symbol s.Assign ∷ (printed t ++ symbol s.Semicolon ∷ [])
  step_toks (Push p ts) = name (codes "push") ∷ number p ∷ symbol s.Open ∷ (items_toks (map printed ts) ++ symbol s.Close ∷ symbol s.Semicolon ∷ [])
  step_toks (If c a b) = name (codes "if") ∷ symbol s.Open ∷ (printed c ++ symbol s.Close ∷ (body_toks a ++ else_toks b))

  -- the tokens of a body: its steps in braces
  pub body_toks : Steps → List Tok
  body_toks Done = symbol s.OpenBrace ∷ symbol s.CloseBrace ∷ []
  body_toks (Then x xs) = symbol s.OpenBrace ∷ ((step_toks x ++ rest_toks xs) ++ symbol s.CloseBrace ∷ [])

  pub rest_toks : Steps → List Tok
  rest_toks Done = []
  rest_toks (Then x xs) = step_toks x ++ rest_toks xs

  pub else_toks : Steps → List Tok
  else_toks Done = []
  else_toks (Then x xs) = name (codes "else") ∷ symbol s.OpenBrace ∷ ((step_toks x ++ rest_toks xs) ++ symbol s.CloseBrace ∷ [])

slot_is : is_name_text (codes "slot") ≡ true
unfolding is_letter is_word is_digit
slot_is = refl

push_is : is_name_text (codes "push") ≡ true
unfolding is_letter is_word is_digit
push_is = refl

if_is : is_name_text (codes "if") ≡ true
unfolding is_letter is_word is_digit
if_is = refl

else_is : is_name_text (codes "else") ≡ true
unfolding is_letter is_word is_digit
else_is = refl

ends-rest : (xs : Steps) → EndsWord (more_text xs)
ends-rest Done = ends-nothing
ends-rest (Then x xs) = ends-blank (step_text x ++ more_text xs)

ends-else : (xs : Steps) → EndsWord (else_text xs)
ends-else Done = ends-nothing
ends-else (Then x xs) = ends-blank (codes "else { " ++ (step_text x ++ (more_text xs ++ codes " }")))

set-piece : (k : ℕ) (t : Term) → w.IsCount k → w.IsWritableTerm t → Piece (step_text (Set k t)) (step_toks (Set k t))
set-piece k t count term =
    let last : Piece (text_of t ++ codes ";") (printed t ++ symbol s.Semicolon ∷ []) =
    piece-then (text_of t) (printed t) (codes ";") (symbol s.Semicolon ∷ []) (term-piece t term) (semicolon-first [] [] piece-nothing) (ends-semicolon []) in
    let value : Piece (codes "= " ++ (text_of t ++ codes ";")) (symbol s.Assign ∷ (printed t ++ symbol s.Semicolon ∷ [])) =
    symbol-first s.Assign (codes " " ++ (text_of t ++ codes ";")) (printed t ++ symbol s.Semicolon ∷ []) plain-Assign
    (blank-first (text_of t ++ codes ";") (printed t ++ symbol s.Semicolon ∷ []) last)
    (λ rest no. blank_follows s.Assign ((text_of t ++ codes ";") ++ rest)) in
    let closed : Piece (codes "] = " ++ (text_of t ++ codes ";")) (symbol s.CloseBracket ∷ symbol s.Assign ∷ (printed t ++ symbol s.Semicolon ∷ [])) =
    square_close-first (codes " = " ++ (text_of t ++ codes ";")) (symbol s.Assign ∷ (printed t ++ symbol s.Semicolon ∷ []))
    (blank-first (codes "= " ++ (text_of t ++ codes ";")) (symbol s.Assign ∷ (printed t ++ symbol s.Semicolon ∷ [])) value) in
    let counted : Piece (decimal k ++ (codes "] = " ++ (text_of t ++ codes ";")))
    (number k ∷ symbol s.CloseBracket ∷ symbol s.Assign ∷ (printed t ++ symbol s.Semicolon ∷ [])) =
    number-first k (codes "] = " ++ (text_of t ++ codes ";")) (symbol s.CloseBracket ∷ symbol s.Assign ∷ (printed t ++ symbol s.Semicolon ∷ []))
    (omega arith) closed (ends-square_close (codes " = " ++ (text_of t ++ codes ";"))) in
    word-first (codes "slot") (codes "[" ++ (decimal k ++ (codes "] = " ++ (text_of t ++ codes ";"))))
    (symbol s.OpenBracket ∷ number k ∷ symbol s.CloseBracket ∷ symbol s.Assign ∷ (printed t ++ symbol s.Semicolon ∷ [])) slot_is
    (square-first (decimal k ++ (codes "] = " ++ (text_of t ++ codes ";")))
    (number k ∷ symbol s.CloseBracket ∷ symbol s.Assign ∷ (printed t ++ symbol s.Semicolon ∷ [])) counted)
    (ends-square (decimal k ++ (codes "] = " ++ (text_of t ++ codes ";"))))

push-piece : (p : ℕ) (ts : List Term) → w.IsCount p → w.Every w.IsWritableTerm ts → Piece (step_text (Push p ts)) (step_toks (Push p ts))
push-piece p ts count terms =
    let items = items_toks (map printed ts) in
    let text = items_text (map text_of ts) in
    let last : Piece (codes ");") (symbol s.Close ∷ symbol s.Semicolon ∷ []) =
    close-first (codes ";") (symbol s.Semicolon ∷ []) (semicolon-first [] [] piece-nothing) in
    let values : Piece (text ++ codes ");") (items ++ symbol s.Close ∷ symbol s.Semicolon ∷ []) =
    piece-then text items (codes ");") (symbol s.Close ∷ symbol s.Semicolon ∷ [])
    (pieces-items (map text_of ts) (map printed ts) (pieces (exprs.IsTerm 64) text_of printed w.IsWritableTerm (term-item 64 (omega arith)) ts terms)) last
    (ends-close (codes ";")) in
    let opened : Piece (codes " (" ++ (text ++ codes ");")) (symbol s.Open ∷ (items ++ symbol s.Close ∷ symbol s.Semicolon ∷ [])) =
    blank-first (codes "(" ++ (text ++ codes ");")) (symbol s.Open ∷ (items ++ symbol s.Close ∷ symbol s.Semicolon ∷ []))
    (open-first (text ++ codes ");") (items ++ symbol s.Close ∷ symbol s.Semicolon ∷ []) values) in
    let counted : Piece (decimal p ++ (codes " (" ++ (text ++ codes ");"))) (number p ∷ symbol s.Open ∷ (items ++ symbol s.Close ∷ symbol s.Semicolon ∷ [])) =
    number-first p (codes " (" ++ (text ++ codes ");")) (symbol s.Open ∷ (items ++ symbol s.Close ∷ symbol s.Semicolon ∷ [])) (omega arith) opened
    (ends-blank (codes "(" ++ (text ++ codes ");"))) in
    word-first (codes "push") (codes " " ++ (decimal p ++ (codes " (" ++ (text ++ codes ");"))))
    (number p ∷ symbol s.Open ∷ (items ++ symbol s.Close ∷ symbol s.Semicolon ∷ [])) push_is
    (blank-first (decimal p ++ (codes " (" ++ (text ++ codes ");"))) (number p ∷ symbol s.Open ∷ (items ++ symbol s.Close ∷ symbol s.Semicolon ∷ [])) counted)
    (ends-blank (decimal p ++ (codes " (" ++ (text ++ codes ");"))))

if-piece : (c : Term) (a b : Steps) → w.IsWritableTerm c → Piece (body_text a) (body_toks a) → Piece (else_text b) (else_toks b)
    → Piece (step_text (If c a b)) (step_toks (If c a b))
if-piece c a b term when otherwise =
    let arms : Piece (body_text a ++ else_text b) (body_toks a ++ else_toks b) =
    piece-then (body_text a) (body_toks a) (else_text b) (else_toks b) when otherwise (ends-else b) in
    let closed : Piece (codes ") " ++ (body_text a ++ else_text b)) (symbol s.Close ∷ (body_toks a ++ else_toks b)) =
    close-first (codes " " ++ (body_text a ++ else_text b)) (body_toks a ++ else_toks b)
    (blank-first (body_text a ++ else_text b) (body_toks a ++ else_toks b) arms) in
    let cond_piece : Piece (text_of c ++ (codes ") " ++ (body_text a ++ else_text b))) (printed c ++ symbol s.Close ∷ (body_toks a ++ else_toks b)) =
    piece-then (text_of c) (printed c) (codes ") " ++ (body_text a ++ else_text b)) (symbol s.Close ∷ (body_toks a ++ else_toks b)) (term-piece c term) closed
    (ends-close (codes " " ++ (body_text a ++ else_text b))) in
    word-first (codes "if") (codes " (" ++ (text_of c ++ (codes ") " ++ (body_text a ++ else_text b))))
    (symbol s.Open ∷ (printed c ++ symbol s.Close ∷ (body_toks a ++ else_toks b))) if_is
    (blank-first (codes "(" ++ (text_of c ++ (codes ") " ++ (body_text a ++ else_text b))))
    (symbol s.Open ∷ (printed c ++ symbol s.Close ∷ (body_toks a ++ else_toks b)))
    (open-first (text_of c ++ (codes ") " ++ (body_text a ++ else_text b))) (printed c ++ symbol s.Close ∷ (body_toks a ++ else_toks b)) cond_piece))
    (ends-blank (codes "(" ++ (text_of c ++ (codes ") " ++ (body_text a ++ else_text b)))))

-- statements in braces
in_braces : (x : Step) (xs : Steps) → Piece (step_text x) (step_toks x) → Piece (more_text xs) (rest_toks xs)
    → Piece (body_text (Then x xs)) (body_toks (Then x xs))
in_braces x xs p q =
    subst (λ (l : List ℕ). Piece l (body_toks (Then x xs))) (ap (λ (l : List ℕ). codes "{ " ++ l) (append_assoc (step_text x) (more_text xs) (codes " }")))
    (braced (step_text x ++ more_text xs) (step_toks x ++ rest_toks xs)
    (piece-then (step_text x) (step_toks x) (more_text xs) (rest_toks xs) p q (ends-rest xs)))

mutual
  step-piece : (x : Step) → w.IsWritableStep x → Piece (step_text x) (step_toks x)
  step-piece (Set k t) h = set-piece k t h.0 h.1
  step-piece (Push p ts) h = push-piece p ts h.0 h.2
  step-piece (If c a b) h = if-piece c a b h.0 (body-piece a h.1) (else-piece b h.2)

  -- the text of a body that can be written has these tokens
  pub body-piece : (xs : Steps) → w.AreWritableSteps xs → Piece (body_text xs) (body_toks xs)
  body-piece Done h = braced-nothing
  body-piece (Then x xs) h = in_braces x xs (step-piece x h.0) (rest-piece xs h.1)

  rest-piece : (xs : Steps) → w.AreWritableSteps xs → Piece (more_text xs) (rest_toks xs)
  rest-piece Done h = piece-nothing
  rest-piece (Then x xs) h =
      blank-first (step_text x ++ more_text xs) (step_toks x ++ rest_toks xs)
      (piece-then (step_text x) (step_toks x) (more_text xs) (rest_toks xs) (step-piece x h.0) (rest-piece xs h.1) (ends-rest xs))

  else-piece : (xs : Steps) → w.AreWritableSteps xs → Piece (else_text xs) (else_toks xs)
  else-piece Done h = piece-nothing
  else-piece (Then x xs) h =
      blank-first (codes "else " ++ body_text (Then x xs)) (else_toks (Then x xs))
      (word-first (codes "else") (codes " " ++ body_text (Then x xs)) (body_toks (Then x xs)) else_is
      (blank-first (body_text (Then x xs)) (body_toks (Then x xs)) (in_braces x xs (step-piece x h.0) (rest-piece xs h.1)))
      (ends-blank (body_text (Then x xs))))

-- the statements as a list
abbrev list_of : Steps → List Step
list_of Done = []
list_of (Then x xs) = x ∷ list_of xs

in_turn-list : (xs : Steps) → in_turn (list_of xs) ≡ xs
in_turn-list Done = refl
in_turn-list (Then x xs) = ap (Then x) (in_turn-list xs)

-- what is in round brackets, and what comes behind
pub round-formed : {A : Type 0} (F : ℕ → A → List Tok → Type 0) (m : ℕ) (v : A) (ts : List Tok) → F m v ts
    → Round F (suc m) v (symbol s.Open ∷ (ts ++ symbol s.Close ∷ []))
round-formed F m v ts f = record { back = ts ++ symbol s.Close ∷ []; is = refl; formed = record { front = ts; is = refl; formed = f } }

-- tokens behind a bracketed part
pub behind_round : (ts us : List Tok) → symbol s.Open ∷ (ts ++ symbol s.Close ∷ us) ≡ (symbol s.Open ∷ (ts ++ symbol s.Close ∷ [])) ++ us
behind_round ts us = ap (λ (l : List Tok). symbol s.Open ∷ l) (sym (append_assoc ts (symbol s.Close ∷ []) us))

set-formed : (m k : ℕ) (t : Term) → w.IsCount k → w.IsWritableTerm t → 64 ≤ m
    → bodies.IsSet (suc m) (Set k t) (symbol s.OpenBracket ∷ number k ∷ symbol s.CloseBracket ∷ symbol s.Assign ∷ (printed t ++ symbol s.Semicolon ∷ []))
set-formed m k t count term room = record {
  value = (k, t);
  is = refl;
  formed = record {
    front = symbol s.OpenBracket ∷ number k ∷ symbol s.CloseBracket ∷ [];
    back = symbol s.Assign ∷ (printed t ++ symbol s.Semicolon ∷ []);
    is = refl;
    first =
        record { back = number k ∷ symbol s.CloseBracket ∷ []; is = refl; formed = record { front = number k ∷ []; is = refl; formed = count-formed k count } };
    second =
        record {
          back = printed t ++ symbol s.Semicolon ∷ [];
          is = refl;
          formed =
              record { front = printed t; is = refl; formed = term-formed (suc m) t (omega arith) term };
        };
  };
}

push-formed : (m p : ℕ) (ts : List Term) → w.IsCount p → 0 < length ts → w.Every w.IsWritableTerm ts → 64 ≤ m
    → bodies.IsPush (suc m) (Push p ts) (number p ∷ symbol s.Open ∷ (items_toks (map printed ts) ++ symbol s.Close ∷ symbol s.Semicolon ∷ []))
push-formed m p ts count some terms room =
    let items = items_toks (map printed ts) in
    record {
      value = (p, ts);
      is = refl;
      formed = record {
        front = number p ∷ [];
        back = symbol s.Open ∷ (items ++ symbol s.Close ∷ symbol s.Semicolon ∷ []);
        is = refl;
        first = count-formed p count;
        second = record {
          front = symbol s.Open ∷ (items ++ symbol s.Close ∷ []);
          is = behind_round items (symbol s.Semicolon ∷ []);
          formed =
              round-formed (λ k. form.Commas (exprs.IsTerm k)) m ts items (items-commas (exprs.IsTerm m) text_of printed w.IsWritableTerm (term-item m room)
              ts some terms);
        };
      };
    }

-- the statements behind `else`, if there are some
abbrev arm_of : Steps → Option Steps
arm_of Done = None
arm_of (Then x xs) = Some (Then x xs)

arm-done : (xs : Steps) → bodies.or_done (arm_of xs) ≡ xs
arm-done Done = refl
arm-done (Then x xs) = refl

if-formed : (body : ℕ → Steps → List Tok → Type 0) (m : ℕ) (c : Term) (a b : Steps) → w.IsWritableTerm c → 64 ≤ m → body (suc m) a (body_toks a)
    → form.Maybe (form.AfterWord (codes "else") (body (suc m))) (arm_of b) (else_toks b)
    → IsBranch bodies.style bodies.holes body (suc m) (If c a b) (symbol s.Open ∷ (printed c ++ symbol s.Close ∷ (body_toks a ++ else_toks b)))
if-formed body m c a b term room when otherwise = record {
  value = (c, (a, arm_of b));
  is = ap (If c a) (sym (arm-done b));
  formed = record {
    front = symbol s.Open ∷ (printed c ++ symbol s.Close ∷ []);
    back = body_toks a ++ else_toks b;
    is = behind_round (printed c) (body_toks a ++ else_toks b);
    first = round-formed exprs.IsTerm m c (printed c) (term-formed m c room term);
    second = record { front = body_toks a; back = else_toks b; is = refl; first = when; second = otherwise };
  };
}

-- statements in braces, put together
then-formed : (nest m : ℕ) (x : Step) (xs : Steps) → IsStmt nest m x (step_toks x) → form.Many (IsStmt nest m) (list_of xs) (rest_toks xs)
    → bodies.IsBody nest (suc m) (Then x xs) (body_toks (Then x xs))
then-formed nest m x xs first rest = record {
  back = (step_toks x ++ rest_toks xs) ++ symbol s.CloseBrace ∷ [];
  is = refl;
  formed = record {
    front = step_toks x ++ rest_toks xs;
    is = refl;
    formed = record { value = x ∷ list_of xs; is = ap (Then x) (sym (in_turn-list xs)); formed = (step_toks x, rest_toks xs, refl, first, rest) };
  };
}

mutual
  unfolding IsRest

  stmt-formed : (nest m : ℕ) (x : Step) → w.IsWritableStep x → w.depth_once x ≤ nest → nest + 65 ≤ m → IsStmt nest m x (step_toks x)
  stmt-formed zero zero x h d room = absurd (omega arith)
  stmt-formed (suc nest) zero x h d room = absurd (omega arith)
  stmt-formed zero (suc m) (Set k t) h d room =
      record {
        word = codes "slot";
        back =
            symbol s.OpenBracket ∷ number k ∷ symbol s.CloseBracket ∷ symbol s.Assign ∷ (printed t ++ symbol s.Semicolon ∷ []);
        is = refl;
        formed =
            set-formed m k t h.0 h.1 (omega arith);
      }
  stmt-formed (suc nest) (suc m) (Set k t) h d room =
      record {
        word = codes "slot";
        back =
            symbol s.OpenBracket ∷ number k ∷ symbol s.CloseBracket ∷ symbol s.Assign ∷ (printed t ++ symbol s.Semicolon ∷ []);
        is = refl;
        formed =
            set-formed m k t h.0 h.1 (omega arith);
      }
  stmt-formed zero (suc m) (Push p ts) h d room =
      record {
        word = codes "push";
        back = number p ∷ symbol s.Open ∷ (items_toks (map printed ts) ++ symbol s.Close ∷ symbol s.Semicolon ∷ []);
        is =
            refl;
        formed = push-formed m p ts h.0 h.1 h.2 (omega arith);
      }
  stmt-formed (suc nest) (suc m) (Push p ts) h d room =
      record {
        word = codes "push";
        back = number p ∷ symbol s.Open ∷ (items_toks (map printed ts) ++ symbol s.Close ∷ symbol s.Semicolon ∷ []);
        is =
            refl;
        formed = push-formed m p ts h.0 h.1 h.2 (omega arith);
      }
  stmt-formed zero (suc m) (If c a b) h d room = absurd (omega arith)
  stmt-formed (suc nest) (suc m) (If c a b) h d room = record {
    word = codes "if";
    back = symbol s.Open ∷ (printed c ++ symbol s.Close ∷ (body_toks a ++ else_toks b));
    is = refl;
    formed =
        if-formed (bodies.IsBody nest) m c a b h.0 (omega arith) (body-formed nest (suc m) a h.1 (omega arith) (omega arith))
        (else-formed nest (suc m) b h.2 (omega arith) (omega arith));
  }

  -- a body that can be written is in the grammar, by its tokens, where there is room for its nesting
  pub body-formed : (nest n : ℕ) (xs : Steps) → w.AreWritableSteps xs → w.depths xs ≤ nest → nest + 66 ≤ n → bodies.IsBody nest n xs (body_toks xs)
  body-formed nest zero xs h d room = absurd (omega arith)
  body-formed nest (suc m) Done h d room =
      record { back = symbol s.CloseBrace ∷ []; is = refl; formed = record { front = []; is = refl; formed = record { value = []; is = refl; formed = refl } } }
  body-formed nest (suc m) (Then x xs) h d room =
      then-formed nest m x xs (stmt-formed nest m x h.0 (omega arith) (omega arith)) (rest-formed nest m xs h.1 (omega arith) (omega arith))

  rest-formed : (nest m : ℕ) (xs : Steps) → w.AreWritableSteps xs → w.depths xs ≤ nest → nest + 65 ≤ m → form.Many (IsStmt nest m) (list_of xs) (rest_toks xs)
  rest-formed nest m Done h d room = refl
  rest-formed nest m (Then x xs) h d room =
      (step_toks x, rest_toks xs, refl, stmt-formed nest m x h.0 (omega arith) (omega arith), rest-formed nest m xs h.1 (omega arith) (omega arith))

  else-formed : (nest n : ℕ) (xs : Steps) → w.AreWritableSteps xs → w.depths xs ≤ nest → nest + 66 ≤ n
      → form.Maybe (form.AfterWord (codes "else") (bodies.IsBody nest n)) (arm_of xs) (else_toks xs)
  else-formed nest zero xs h d room = absurd (omega arith)
  else-formed nest (suc m) Done h d room = refl
  else-formed nest (suc m) (Then x xs) h d room = record {
    back = body_toks (Then x xs);
    is = refl;
    formed =
        then-formed nest m x xs (stmt-formed nest m x h.0 (omega arith) (omega arith)) (rest-formed nest m xs h.1 (omega arith) (omega arith));
  }
