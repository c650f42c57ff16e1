-- Blocks that are written out are read as themselves.
use Rattle.std.proofs.Common.{◌≡◌, ℕ, zero, suc, ◌+◌, ◌≤◌, ◌==◌, Option, Some, None, Bool, true, false, not, ◌||◌, List, [], ◌∷◌, ◌++◌, drop, refl, ap, arith, inl, inr}
use Rattle.std.specs.Prelude.{codes, ◌&&◌}
use Rattle.std.specs.Str.{bytes_eq}
use Rattle.std.specs.List.{list_any, list_all}
use Rattle.std.proofs.lemmas.Bool.{and_parts, not-true}
use Rattle.text_tokens.specs.declared.sign.Symbol.TheVariants as s
use Rattle.text_tokens.specs.Tok.{Tok, name, symbol}
use Rattle.text_tokens.specs.Lexis as lexis
use Rattle.text_tokens.proofs.Spelled.{is_name_text}
use Rattle.text_forms.specs.Parse.{is_short}
use Rattle.text_forms.specs.Forms.{After, Before, AfterWord, Maybe, Many, Choose, Never}
use Rattle.text_blocks.specs.Parts.{Round}
use Rattle.text_blocks.specs.Statements.{ByOpening, IsRest}
use Rattle.text_blocks.specs.Statements as statements
use Rattle.text_blocks.specs.declared.opening.Opening.{Opening}
use Rattle.text_blocks.specs.declared.opening.Opening.TheVariants as opens
use Rattle.streamit_text.specs.Blocks.{Own, Empty, Upto, Head, HeadAfter, IsHead, IsDeclare, IsAssign, IsPush, IsDiscard, IsPlain, opening, style, holes}
use Rattle.streamit_text.specs.Expressions.{IsExpression, expr_at}
use Rattle.streamit_text.specs.Grammar.{IsBlock}
use Rattle.streamit_text.specs.Leaves.{IsLeaf, leaf_at}
use Rattle.streamit_text.specs.Tree.{Expression, Statement, Declare, Assign, Push, Discard, If, For, Block, End, Then, Optional, Unwritten, Written, in_turn, or_unwritten}
use Rattle.streamit_text.specs.Words.{is_plain, is_own, keywords}
use Rattle.text_tokens.proofs.Insides as inside
use Rattle.text_tokens.proofs.Insides.{plain-Open, plain-Close, plain-Semicolon, plain-Assign, plain-Less, plain-LessEqual, plain-Increment}
use Rattle.params_text.specs.Toks.{expr_toks, first_toks, below, head_toks, statement_toks, statements_toks, block_toks, else_toks}
use Rattle.params_text.specs.Told.{IsOwnName, IsToldExpr, IsToldAll, IsToldOptional, FirstBy, OnceBy}
use Rattle.text_tokens.proofs.Good.{IsPiece, piece-nothing, piece-then, piece-symbol, piece-name, piece-braces, piece-last}
use Rattle.params_text.proofs.Expressions.{own_plain, own_text, pop_is, round, told-piece, told-formed}

abbrev pub IsToldFirst : Option Expression → Type 0
IsToldFirst t = FirstBy IsToldExpr t

abbrev pub IsToldOnce : ℕ → Statement → Type 0
IsToldOnce nest c = OnceBy IsToldExpr nest c

-- A NAME IS NO KEYWORD

or_parts : (a b : Bool) → a || b ≡ false → (a ≡ false) × (b ≡ false)
or_parts true b h = absurd (cc h)
or_parts false b h = (refl, h)

pub record IsNoWord (n : List ℕ) : Type 0 where
  pub no_int : bytes_eq n (codes "int") ≡ false
  pub no_push : bytes_eq n (codes "push") ≡ false
  pub no_pop : bytes_eq n (codes "pop") ≡ false
  pub no_if : bytes_eq n (codes "if") ≡ false
  pub no_for : bytes_eq n (codes "for") ≡ false

abbrev Others : List ℕ → List (List ℕ) → Type 0
Others n ws = list_any (λ word. bytes_eq n word) ws ≡ false

any_parts : (n w : List ℕ) (ws : List (List ℕ)) → Others n (w ∷ ws) → (bytes_eq n w ≡ false) × Others n ws
any_parts n w ws h = or_parts (bytes_eq n w) (list_any (λ word. bytes_eq n word) ws) h

no_keyword : (n : List ℕ) → is_plain n ≡ true → Others n (keywords)
unfolding is_plain
no_keyword n h =
    let none = list_any (λ word. bytes_eq n word) (keywords) in
    let p = and_parts (is_short 40 n) (list_all (λ c. not (c == 64)) n && not none) h in
    let q = and_parts (list_all (λ c. not (c == 64)) n) (not none) p.1 in
    not-true none q.1

pub own_no_word : (n : List ℕ) → IsOwnName n → IsNoWord n
own_no_word n h =
    let a1 = any_parts n (codes "int") (drop 1 keywords) (no_keyword n (own_plain n h)) in
    let a2 = any_parts n (codes "filter") (drop 2 keywords) a1.1 in
    let a3 = any_parts n (codes "pipeline") (drop 3 keywords) a2.1 in
    let a4 = any_parts n (codes "splitjoin") (drop 4 keywords) a3.1 in
    let a5 = any_parts n (codes "init") (drop 5 keywords) a4.1 in
    let a6 = any_parts n (codes "work") (drop 6 keywords) a5.1 in
    let a7 = any_parts n (codes "prework") (drop 7 keywords) a6.1 in
    let a8 = any_parts n (codes "push") (drop 8 keywords) a7.1 in
    let a9 = any_parts n (codes "pop") (drop 9 keywords) a8.1 in
    let a10 = any_parts n (codes "peek") (drop 10 keywords) a9.1 in
    let a11 = any_parts n (codes "add") (drop 11 keywords) a10.1 in
    let a12 = any_parts n (codes "split") (drop 12 keywords) a11.1 in
    let a13 = any_parts n (codes "join") (drop 13 keywords) a12.1 in
    let a14 = any_parts n (codes "duplicate") (drop 14 keywords) a13.1 in
    let a15 = any_parts n (codes "roundrobin") (drop 15 keywords) a14.1 in
    let a16 = any_parts n (codes "if") (drop 16 keywords) a15.1 in
    let a17 = any_parts n (codes "else") (drop 17 keywords) a16.1 in
    let a18 = any_parts n (codes "for") (drop 18 keywords) a17.1 in
    record { no_int = a1.0; no_push = a8.0; no_pop = a9.0; no_if = a16.0; no_for = a18.0 }

-- KEYWORDS ARE WORDS

-- `int` is a word
pub int_is : is_name_text (codes "int") ≡ true
unfolding lexis.is_letter lexis.is_word lexis.is_digit
int_is = refl

-- `push` is a word
pub push_is : is_name_text (codes "push") ≡ true
unfolding lexis.is_letter lexis.is_word lexis.is_digit
push_is = refl

if_is : is_name_text (codes "if") ≡ true
unfolding lexis.is_letter lexis.is_word lexis.is_digit
if_is = refl

for_is : is_name_text (codes "for") ≡ true
unfolding lexis.is_letter lexis.is_word lexis.is_digit
for_is = refl

else_is : is_name_text (codes "else") ≡ true
unfolding lexis.is_letter lexis.is_word lexis.is_digit
else_is = refl

-- THE TOKENS ARE PIECES

plain-below : (b : Bool) → inside.IsPlain (below b)
plain-below false = plain-Less
plain-below true = plain-LessEqual

-- an expression and a semicolon
ended-piece : (t : Expression) → IsToldExpr t → IsPiece (expr_toks t ++ symbol s.Semicolon ∷ [])
ended-piece t h = piece-last s.Semicolon plain-Semicolon (expr_toks t) (told-piece t h.0)

first-piece : (t : Option Expression) → IsToldFirst t → IsPiece (first_toks t)
first-piece None h = piece-nothing
first-piece (Some t) h = piece-symbol s.Assign plain-Assign (expr_toks t) (told-piece t h.0)

head-piece : (n : List ℕ) (low : Expression) (upto : Bool) (high : Expression) → IsOwnName n → IsToldExpr low → IsToldExpr high
    → IsPiece (head_toks n low upto high)
head-piece n low upto high h a b =
    piece-symbol s.Assign plain-Assign _ (piece-then (expr_toks low ++ symbol s.Semicolon ∷ []) _ (ended-piece low a)
    (piece-name n (own_text n h) _
    (piece-symbol (below upto) (plain-below upto) _ (piece-then (expr_toks high ++ symbol s.Semicolon ∷ []) _ (ended-piece high b)
    (piece-name n (own_text n h) _ (piece-symbol s.Increment plain-Increment [] piece-nothing))))))

mutual
  statement-piece : (nest : ℕ) (c : Statement) → IsToldOnce nest c → IsPiece (statement_toks c)
  statement-piece nest (Declare n t) h =
      piece-name (codes "int") int_is _ (piece-name n (own_text n h.0) _ (piece-last s.Semicolon plain-Semicolon (first_toks t) (first-piece t h.1)))
  statement-piece nest (Assign n t) h = piece-name n (own_text n h.0) _ (piece-symbol s.Assign plain-Assign _ (ended-piece t h.1))
  statement-piece nest (Push t) h = piece-name (codes "push") push_is _ (piece-last s.Semicolon plain-Semicolon _ (round (expr_toks t) (told-piece t h.0)))
  statement-piece nest Discard h =
      piece-name (codes "pop") pop_is _
      (piece-symbol s.Open plain-Open _ (piece-symbol s.Close plain-Close _ (piece-symbol s.Semicolon plain-Semicolon [] piece-nothing)))
  statement-piece zero (If t a b) h = absurd h
  statement-piece (suc nest) (If t a b) h =
      piece-name (codes "if") if_is _ (piece-then (symbol s.Open ∷ (expr_toks t ++ symbol s.Close ∷ [])) _ (round (expr_toks t) (told-piece t h.0.0))
      (piece-then (block_toks a) (else_toks b) (piece-braces (statements_toks a) (statements-piece nest a h.1)) (else-piece nest b h.2)))
  statement-piece zero (For n low upto high b) h = absurd h
  statement-piece (suc nest) (For n low upto high b) h =
      piece-name (codes "for") for_is _ (piece-then (symbol s.Open ∷ ((name (codes "int") ∷ name n ∷ head_toks n low upto high) ++ symbol s.Close ∷ [])) _
      (round (name (codes "int") ∷ name n ∷ head_toks n low upto high)
      (piece-name (codes "int") int_is _ (piece-name n (own_text n h.0) _ (head-piece n low upto high h.0 h.1 h.2))))
      (piece-braces (statements_toks b) (statements-piece nest b h.3)))

  statements-piece : (nest : ℕ) (b : Block) → IsToldAll nest b → IsPiece (statements_toks b)
  statements-piece nest End h = piece-nothing
  statements-piece nest (Then c b) h = piece-then (statement_toks c) (statements_toks b) (statement-piece nest c h.0) (statements-piece nest b h.1)

  else-piece : (nest : ℕ) (b : Optional) → IsToldOptional nest b → IsPiece (else_toks b)
  else-piece nest Unwritten h = piece-nothing
  else-piece nest (Written b) h = piece-name (codes "else") else_is (block_toks b) (piece-braces (statements_toks b) (statements-piece nest b h))

-- the tokens of a block that a text can stand for are a piece
pub block-piece : (nest : ℕ) (b : Block) → IsToldAll nest b → IsPiece (block_toks b)
block-piece nest b h = piece-braces (statements_toks b) (statements-piece nest b h)

-- THEY ARE IN THE GRAMMAR

abbrev pub option_of : Optional → Option Block
option_of Unwritten = None
option_of (Written b) = Some b

option_of-is : (b : Optional) → b ≡ or_unwritten (option_of b)
option_of-is Unwritten = refl
option_of-is (Written b) = refl

abbrev pub list_of : Block → List Statement
list_of End = []
list_of (Then c b) = c ∷ list_of b

list_of-is : (b : Block) → b ≡ in_turn (list_of b)
list_of-is End = refl
list_of-is (Then c b) = ap (Then c) (list_of-is b)

-- an expression of the language
abbrev Expr : ℕ → Expression → List Tok → Type 0
Expr = IsExpression IsLeaf

-- a name of a program is read as one
pub plain-formed : (n : List ℕ) → IsOwnName n → Own n (name n ∷ [])
plain-formed n h = record { passes = h; formed = refl }

round-formed : (n : ℕ) (t : Expression) → 65 ≤ n → IsToldExpr t → Round Expr n t (symbol s.Open ∷ (expr_toks t ++ symbol s.Close ∷ []))
round-formed zero t room h = absurd (omega (arith, room))
round-formed (suc n) t room h =
    record {
      back = expr_toks t ++ symbol s.Close ∷ [];
      is = refl;
      formed =
          record { front = expr_toks t; is = refl; formed = told-formed n t (omega (arith, room)) h };
    }

first-formed : (n : ℕ) (t : Option Expression) → 64 ≤ n → IsToldFirst t → Maybe (After (s.Assign ∷ []) (Expr n)) t (first_toks t)
first-formed n None room h = refl
first-formed n (Some t) room h = record { back = expr_toks t; is = refl; formed = told-formed n t room h }

declare-formed : (n : ℕ) (w : List ℕ) (t : Option Expression) → 64 ≤ n → IsOwnName w → IsToldFirst t
    → IsDeclare Expr n (Declare w t) (name w ∷ (first_toks t ++ symbol s.Semicolon ∷ []))
declare-formed n w t room h k = record {
  value = (w, t);
  is = refl;
  formed = record {
    front = name w ∷ [];
    back = first_toks t ++ symbol s.Semicolon ∷ [];
    is = refl;
    first = plain-formed w h;
    second = record { front = first_toks t; is = refl; formed = first-formed n t room k };
  };
}

before-formed : (n : ℕ) (t : Expression) → 64 ≤ n → IsToldExpr t → Before (Expr n) (s.Semicolon ∷ []) t (expr_toks t ++ symbol s.Semicolon ∷ [])
before-formed n t room h = record { front = expr_toks t; is = refl; formed = told-formed n t room h }

assign-formed : (n : ℕ) (w : List ℕ) (t : Expression) → 64 ≤ n → IsToldExpr t
    → IsAssign Expr w n (Assign w t) (symbol s.Assign ∷ (expr_toks t ++ symbol s.Semicolon ∷ []))
assign-formed n w t room h =
    record { value = t; is = refl; formed = record { back = expr_toks t ++ symbol s.Semicolon ∷ []; is = refl; formed = before-formed n t room h } }

push-formed : (n : ℕ) (t : Expression) → 65 ≤ n → IsToldExpr t
    → IsPush Expr n (Push t) ((symbol s.Open ∷ (expr_toks t ++ symbol s.Close ∷ [])) ++ symbol s.Semicolon ∷ [])
push-formed n t room h = record {
  value = t;
  is = refl;
  formed = record { front = symbol s.Open ∷ (expr_toks t ++ symbol s.Close ∷ []); is = refl; formed = round-formed n t room h };
}

empty-formed : (n : ℕ) → 1 ≤ n → Empty n tt (symbol s.Open ∷ symbol s.Close ∷ [])
empty-formed zero room = absurd (omega (arith, room))
empty-formed (suc n) room = record { back = symbol s.Close ∷ []; is = refl; formed = record { front = []; is = refl; formed = (refl, refl) } }

pop-formed : (n : ℕ) → 1 ≤ n → IsDiscard Expr n Discard (symbol s.Open ∷ symbol s.Close ∷ symbol s.Semicolon ∷ [])
pop-formed n room = record { value = tt; is = refl; formed = record { front = symbol s.Open ∷ symbol s.Close ∷ []; is = refl; formed = empty-formed n room } }

upto-formed : (b : Bool) → Upto b (symbol (below b) ∷ [])
upto-formed false = inl (record { back = []; is = refl; formed = (refl, refl) })
upto-formed true = inr (record { back = []; is = refl; formed = (refl, refl) })

abbrev the_head : List ℕ → Expression → Bool → Expression → Head
the_head w low upto high = record { name = w; low = low; upto = upto; high = high }

after-formed : (n : ℕ) (w : List ℕ) (low : Expression) (upto : Bool) (high : Expression) → 64 ≤ n → IsToldExpr low → IsToldExpr high
    → HeadAfter Expr n w (the_head w low upto high) (head_toks w low upto high)
after-formed n w low upto high room a b =
    let last : List Tok = name w ∷ symbol s.Increment ∷ [] in
    let middle : List Tok = (expr_toks high ++ symbol s.Semicolon ∷ []) ++ last in
    record {
      value = (low, (upto, (high, tt)));
      is = refl;
      formed = record {
        back = (expr_toks low ++ symbol s.Semicolon ∷ []) ++ name w ∷ symbol (below upto) ∷ middle;
        is = refl;
        formed = record {
          front = expr_toks low ++ symbol s.Semicolon ∷ [];
          back = name w ∷ symbol (below upto) ∷ middle;
          is = refl;
          first = before-formed n low room a;
          second = record {
            back = symbol (below upto) ∷ middle;
            is = refl;
            formed = record {
              front = symbol (below upto) ∷ [];
              back = middle;
              is = refl;
              first = upto-formed upto;
              second = record {
                front = expr_toks high ++ symbol s.Semicolon ∷ [];
                back = last;
                is = refl;
                first = before-formed n high room b;
                second = record { back = symbol s.Increment ∷ []; is = refl; formed = record { back = []; is = refl; formed = (refl, refl) } };
              };
            };
          };
        };
      };
    }

choose_true : {A : Type 0} (b : Bool) (F G : A → List Tok → Type 0) (v : A) (ts : List Tok) → b ≡ true → F v ts → Choose b F G v ts
choose_true b F G v ts e h = rw e h

choose_false : {A : Type 0} (b : Bool) (F G : A → List Tok → Type 0) (v : A) (ts : List Tok) → b ≡ false → G v ts → Choose b F G v ts
choose_false b F G v ts e h = rw e h

head-formed : (n : ℕ) (w : List ℕ) (low : Expression) (upto : Bool) (high : Expression) → 65 ≤ n → IsOwnName w → IsToldExpr low → IsToldExpr high
    → Round (IsHead Expr) n (the_head w low upto high) (symbol s.Open ∷ ((name (codes "int") ∷ name w ∷ head_toks w low upto high) ++ symbol s.Close ∷ []))
head-formed zero w low upto high room h a b = absurd (omega (arith, room))
head-formed (suc n) w low upto high room h a b = record {
  back = (name (codes "int") ∷ name w ∷ head_toks w low upto high) ++ symbol s.Close ∷ [];
  is = refl;
  formed = record {
    front = name (codes "int") ∷ name w ∷ head_toks w low upto high;
    is = refl;
    formed = record {
      back = name w ∷ head_toks w low upto high;
      is = refl;
      formed = record {
        word = w;
        back = head_toks w low upto high;
        is = refl;
        formed = choose_true (is_own w) (HeadAfter Expr n w) Never (the_head w low upto high) (head_toks w low upto high) h
            (after-formed n w low upto high (omega (arith, room)) a b);
      };
    };
  };
}

-- STATEMENTS

abbrev IsStatement : (nest n : ℕ) → Statement → List Tok → Type 0
IsStatement nest n = statements.IsStatement (style (expr_at leaf_at)) (holes Expr) nest n

abbrev IsBlockIn : (nest n : ℕ) → Block → List Tok → Type 0
IsBlockIn nest n = statements.IsBlock (style (expr_at leaf_at)) (holes Expr) nest n

by_plain : (o : Opening) (b l p : Statement → List Tok → Type 0) (v : Statement) (ts : List Tok) → o ≡ opens.Plain → p v ts → ByOpening o b l p v ts
by_plain o b l p v ts e h = rw e h

-- a statement without blocks
simple : (nest n : ℕ) (w : List ℕ) (c : Statement) (back : List Tok) → opening w ≡ opens.Plain → IsPlain Expr n w c back
    → IsStatement nest n c (name w ∷ back)
unfolding IsRest
simple zero n w c back e h = record { word = w; back = back; is = refl; formed = by_plain (opening w) _ _ _ c back e h }
simple (suc nest) n w c back e h = record { word = w; back = back; is = refl; formed = by_plain (opening w) _ _ _ c back e h }

own-opens : (w : List ℕ) → IsNoWord w → opening w ≡ opens.Plain
own-opens w other = let a = other.no_if in let b = other.no_for in rw (a, b) refl

assign-plain : (n : ℕ) (w : List ℕ) (t : Expression) → 64 ≤ n → IsOwnName w → IsToldExpr t
    → IsPlain Expr n w (Assign w t) (symbol s.Assign ∷ (expr_toks t ++ symbol s.Semicolon ∷ []))
assign-plain n w t room h k =
    let other = own_no_word w h in
    choose_false _ _ _ (Assign w t) _ other.no_int (choose_false _ _ _ (Assign w t) _ other.no_push (choose_false _ _ _ (Assign w t) _ other.no_pop
    (choose_true (is_own w) (IsAssign Expr w n) Never (Assign w t) _ h (assign-formed n w t room k))))

block-of : (nest n : ℕ) (b : Block) → nest + 66 ≤ n → ((m : ℕ) → nest + 65 ≤ m → Many (IsStatement nest m) (list_of b) (statements_toks b))
    → IsBlockIn nest n b (block_toks b)
block-of nest zero b room h = absurd (omega (arith, room))
block-of nest (suc n) b room h = record {
  back = statements_toks b ++ symbol s.CloseBrace ∷ [];
  is = refl;
  formed = record {
    front = statements_toks b;
    is = refl;
    formed = record { value = list_of b; is = list_of-is b; formed = h n (omega (arith, room)) };
  };
}

mutual
  unfolding IsRest

  statement-formed : (nest n : ℕ) (c : Statement) → nest + 65 ≤ n → IsToldOnce nest c → IsStatement nest n c (statement_toks c)
  statement-formed nest n (Declare w t) room h = simple nest n (codes "int") (Declare w t) _ refl (declare-formed n w t (omega (arith, room)) h.0 h.1)
  statement-formed nest n (Assign w t) room h =
      simple nest n w (Assign w t) _ (own-opens w (own_no_word w h.0)) (assign-plain n w t (omega (arith, room)) h.0 h.1)
  statement-formed nest n (Push t) room h = simple nest n (codes "push") (Push t) _ refl (push-formed n t (omega (arith, room)) h)
  statement-formed nest n Discard room h = simple nest n (codes "pop") Discard _ refl (pop-formed n (omega (arith, room)))
  statement-formed zero n (If t a b) room h = absurd h
  statement-formed (suc nest) n (If t a b) room h = record {
    word = codes "if";
    back = (symbol s.Open ∷ (expr_toks t ++ symbol s.Close ∷ [])) ++ (block_toks a ++ else_toks b);
    is = refl;
    formed = record {
      value = (t, (a, option_of b));
      is = ap (If t a) (option_of-is b);
      formed = record {
        front = symbol s.Open ∷ (expr_toks t ++ symbol s.Close ∷ []);
        back = block_toks a ++ else_toks b;
        is = refl;
        first = round-formed n t (omega (arith, room)) h.0;
        second = record {
          front = block_toks a;
          back = else_toks b;
          is = refl;
          first = block-of nest n a (omega (arith, room)) (λ m le. each-formed nest m a le h.1);
          second = else-formed nest n b (omega (arith, room)) h.2;
        };
      };
    };
  }
  statement-formed zero n (For w low upto high b) room h = absurd h
  statement-formed (suc nest) n (For w low upto high b) room h = record {
    word = codes "for";
    back = (symbol s.Open ∷ ((name (codes "int") ∷ name w ∷ head_toks w low upto high) ++ symbol s.Close ∷ [])) ++ block_toks b;
    is = refl;
    formed = record {
      value = (the_head w low upto high, b);
      is = refl;
      formed = record {
        front = symbol s.Open ∷ ((name (codes "int") ∷ name w ∷ head_toks w low upto high) ++ symbol s.Close ∷ []);
        back = block_toks b;
        is = refl;
        first = head-formed n w low upto high (omega (arith, room)) h.0 h.1 h.2;
        second = block-of nest n b (omega (arith, room)) (λ m le. each-formed nest m b le h.3);
      };
    };
  }

  each-formed : (nest n : ℕ) (b : Block) → nest + 65 ≤ n → IsToldAll nest b → Many (IsStatement nest n) (list_of b) (statements_toks b)
  each-formed nest n End room h = refl
  each-formed nest n (Then c b) room h = (statement_toks c, statements_toks b, refl, statement-formed nest n c room h.0, each-formed nest n b room h.1)

  else-formed : (nest n : ℕ) (b : Optional) → nest + 66 ≤ n → IsToldOptional nest b
      → Maybe (AfterWord (codes "else") (IsBlockIn nest n)) (option_of b) (else_toks b)
  else-formed nest n Unwritten room h = refl
  else-formed nest n (Written b) room h = record { back = block_toks b; is = refl; formed = block-of nest n b room (λ m le. each-formed nest m b le h) }

-- a block that a text can stand for is in the grammar, by its tokens
pub block-formed : (n : ℕ) (b : Block) → 82 ≤ n → IsToldAll 16 b → IsBlock n b (block_toks b)
block-formed n b room h = block-of 16 n b (omega (arith, room)) (λ m le. each-formed 16 m b le h)
