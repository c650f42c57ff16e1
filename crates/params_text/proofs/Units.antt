-- Units that are written out are read as themselves.
use Rattle.std.proofs.Common.{◌≡◌, ℕ, zero, suc, ◌≤◌, Option, Some, None, true, List, [], ◌∷◌, ◌++◌, refl, ap, ◌∙◌, arith, inl, inr, append_assoc}
use Rattle.std.specs.Prelude.{codes}
use Rattle.text_forms.proofs.Symbols.{value_is}
use Rattle.text_tokens.specs.declared.sign.Symbol.TheVariants as s
use Rattle.text_tokens.specs.Tok.{Tok, name, number, symbol}
use Rattle.text_tokens.specs.Lexis as lexis
use Rattle.text_tokens.proofs.Spelled.{is_name_text}
use Rattle.text_forms.specs.Parse.{is_count}
use Rattle.text_forms.specs.Forms.{After, Many, Listing, Headed}
use Rattle.streamit_text.specs.Tree.{Optional, Unwritten, Written}
use Rattle.streamit_text.specs.Program.{WorkTree, FilterTree, Dealing, Copies, Turns, Adds, Body, AFilter, APipeline, ASplitJoin, UnitForm}
use Rattle.streamit_text.specs.Grammar.{Weight, IsWork, IsPrework, IsInit, IsField, Rate, push, pop, peek, IsRate, Rates, unwritten, rates_in, AreRates, InFilter, Braces, Called, IsAdd, AreAdds, Weights, SplitAfter, IsSplit, IsJoin, InBoth, BodyAfter, IsUnit, stay_optional}
use Rattle.text_tokens.proofs.Insides.{plain-Semicolon, plain-Comma}
use Rattle.params_text.specs.Toks.{block_toks, field_toks, fields_toks, init_toks, rate_toks, rates_toks, work_toks, prework_toks, filter_toks, add_toks, other_toks, adds_toks, more_numbers, numbers_toks, weights_toks, dealing_toks, split_toks, join_toks, kind_word, inner_toks, unit_toks}
use Rattle.params_text.specs.Told.{IsOwnName, AreOwnNames, IsToldRate, IsToldOptional, IsToldWork, IsToldPrework, IsToldFilter, AreToldAdds, AreToldNumbers, AreToldWeights, IsToldDealing, IsToldBody, IsToldUnit}
use Rattle.text_tokens.proofs.Good.{IsPiece, piece-nothing, piece-then, piece-symbol, piece-name, piece-number, piece-last}
use Rattle.params_text.proofs.Expressions.{own_text, pop_is, peek_is, round}
use Rattle.params_text.proofs.Statements.{int_is, push_is, block-piece, block-formed, plain-formed}

init_is : is_name_text (codes "init") ≡ true
unfolding lexis.is_letter lexis.is_word lexis.is_digit
init_is = refl

work_is : is_name_text (codes "work") ≡ true
unfolding lexis.is_letter lexis.is_word lexis.is_digit
work_is = refl

prework_is : is_name_text (codes "prework") ≡ true
unfolding lexis.is_letter lexis.is_word lexis.is_digit
prework_is = refl

add_is : is_name_text (codes "add") ≡ true
unfolding lexis.is_letter lexis.is_word lexis.is_digit
add_is = refl

split_is : is_name_text (codes "split") ≡ true
unfolding lexis.is_letter lexis.is_word lexis.is_digit
split_is = refl

join_is : is_name_text (codes "join") ≡ true
unfolding lexis.is_letter lexis.is_word lexis.is_digit
join_is = refl

duplicate_is : is_name_text (codes "duplicate") ≡ true
unfolding lexis.is_letter lexis.is_word lexis.is_digit
duplicate_is = refl

roundrobin_is : is_name_text (codes "roundrobin") ≡ true
unfolding lexis.is_letter lexis.is_word lexis.is_digit
roundrobin_is = refl

-- THE TOKENS ARE PIECES

fields-piece : (fs : List (List ℕ)) → AreOwnNames fs → IsPiece (fields_toks fs)
fields-piece [] h = piece-nothing
fields-piece (f ∷ fs) h =
    piece-then (field_toks f) (fields_toks fs)
    (piece-name (codes "int") int_is _ (piece-name f (own_text f h.0) _ (piece-symbol s.Semicolon plain-Semicolon [] piece-nothing))) (fields-piece fs h.1)

rate-piece : (w : List ℕ) (o : Option ℕ) → is_name_text w ≡ true → IsToldRate o → IsPiece (rate_toks w o)
rate-piece w None is h = piece-nothing
rate-piece w (Some n) is h = piece-name w is _ (piece-number n (omega (arith, h)) [] piece-nothing)

work-piece : (w : WorkTree) → IsToldWork w → IsPiece (work_toks w)
work-piece w h =
    piece-then (rates_toks w) (block_toks w.block)
    (piece-then (rate_toks (codes "push") w.push) _ (rate-piece (codes "push") w.push push_is h.push)
    (piece-then (rate_toks (codes "pop") w.pop) (rate_toks (codes "peek") w.peek) (rate-piece (codes "pop") w.pop pop_is h.pop)
    (rate-piece (codes "peek") w.peek peek_is h.peek)))
    (block-piece 16 w.block h.block)

prework-piece : (o : Option WorkTree) → IsToldPrework o → IsPiece (prework_toks o)
prework-piece None h = piece-nothing
prework-piece (Some w) h = piece-name (codes "prework") prework_is (work_toks w) (work-piece w h)

filter-piece : (t : FilterTree) → IsToldFilter t → IsPiece (filter_toks t)
filter-piece t h =
    piece-then (fields_toks t.fields) _ (fields-piece t.fields h.fields)
    (piece-then (init_toks t.init) _ (init t.init h.init)
    (piece-then (prework_toks t.prework) _ (prework-piece t.prework h.prework)
    (piece-name (codes "work") work_is (work_toks t.work) (work-piece t.work h.work))))
  where
    init : (b : Optional) → IsToldOptional 16 b → IsPiece (init_toks b)
    init Unwritten h = piece-nothing
    init (Written b) h = piece-name (codes "init") init_is (block_toks b) (block-piece 16 b h)

add-piece : (n : List ℕ) → IsOwnName n → IsPiece (add_toks n)
add-piece n h = piece-name (codes "add") add_is _ (piece-name n (own_text n h) _ (piece-symbol s.Semicolon plain-Semicolon [] piece-nothing))

others-piece : (ns : List (List ℕ)) → AreOwnNames ns → IsPiece (other_toks ns)
others-piece [] h = piece-nothing
others-piece (n ∷ ns) h = piece-then (add_toks n) (other_toks ns) (add-piece n h.0) (others-piece ns h.1)

adds-piece : (a : Adds) → AreToldAdds a → IsPiece (adds_toks a)
adds-piece a h = piece-then (add_toks a.first) (other_toks a.others) (add-piece a.first h.0) (others-piece a.others h.1)

more-piece : (ns : List ℕ) → AreToldNumbers ns → IsPiece (more_numbers ns)
more-piece [] h = piece-nothing
more-piece (n ∷ ns) h =
    piece-then (symbol s.Comma ∷ number n ∷ []) (more_numbers ns) (piece-symbol s.Comma plain-Comma _ (piece-number n h.0 [] piece-nothing)) (more-piece ns h.1)

numbers-piece : (ns : List ℕ) → AreToldNumbers ns → IsPiece (numbers_toks ns)
numbers-piece [] h = piece-nothing
numbers-piece (n ∷ ns) h = piece-then (number n ∷ []) (more_numbers ns) (piece-number n h.0 [] piece-nothing) (more-piece ns h.1)

weights-piece : (ws : Option (List ℕ)) → AreToldWeights ws → IsPiece (weights_toks ws)
weights-piece None h = piece-nothing
weights-piece (Some ws) h = round (numbers_toks ws) (numbers-piece ws h)

dealing-piece : (d : Dealing) → IsToldDealing d → IsPiece (dealing_toks d)
dealing-piece Copies h = piece-name (codes "duplicate") duplicate_is [] piece-nothing
dealing-piece (Turns ws) h = piece-name (codes "roundrobin") roundrobin_is (weights_toks ws) (weights-piece ws h)

-- the tokens in the braces of a body that a text can stand for are a piece
pub inner-piece : (b : Body) → IsToldBody b → IsPiece (inner_toks b)
inner-piece (AFilter t) h = filter-piece t h
inner-piece (APipeline a) h = adds-piece a h
inner-piece (ASplitJoin d a ws) h =
    piece-then (split_toks d) _ (piece-name (codes "split") split_is _ (piece-last s.Semicolon plain-Semicolon (dealing_toks d) (dealing-piece d h.0)))
    (piece-then (adds_toks a) (join_toks ws) (adds-piece a h.1)
    (piece-name (codes "join") join_is _
    (piece-name (codes "roundrobin") roundrobin_is _ (piece-last s.Semicolon plain-Semicolon (weights_toks ws) (weights-piece ws h.2)))))

-- THEY ARE IN THE GRAMMAR

each-append : {A : Type 0} (F : A → List Tok → Type 0) (xs ys : List A) (ts us : List Tok) → Many F xs ts → Many F ys us → Many F (xs ++ ys) (ts ++ us)
each-append F [] ys ts us h g = rw h g
each-append F (x ∷ xs) ys ts us h g = (h.0, h.1 ++ us, ap (λ l. l ++ us) h.2 ∙ append_assoc h.0 h.1 us, h.3, each-append F xs ys h.1 us h.4 g)

fields-formed : (fs : List (List ℕ)) → AreOwnNames fs → Many IsField fs (fields_toks fs)
fields-formed [] h = refl
fields-formed (f ∷ fs) h = (
  field_toks f,
  fields_toks fs,
  refl,
  record { back = name f ∷ symbol s.Semicolon ∷ []; is = refl; formed = record { front = name f ∷ []; is = refl; formed = plain-formed f h.0 } },
  fields-formed fs h.1,
)

init-formed : (n : ℕ) (b : Optional) → 82 ≤ n → IsToldOptional 16 b → stay_optional b ≡ true → IsInit n b (init_toks b)
init-formed n Unwritten room h k = record { value = None; is = refl; formed = refl }
init-formed n (Written b) room h k =
    record {
      value = Some b;
      is = refl;
      formed =
          record { back = block_toks b; is = refl; formed = record { passes = k; formed = block-formed n b (omega (arith, room)) h } };
    }

count-true : (n : ℕ) → n ≤ 4294967295 → is_count n ≡ true
count-true n h = grind arith

abbrev rate_list : (ℕ → Rate) → Option ℕ → List Rate
rate_list make None = []
rate_list make (Some n) = make n ∷ []

push-formed : (o : Option ℕ) → IsToldRate o → Many IsRate (rate_list push o) (rate_toks (codes "push") o)
push-formed None h = refl
push-formed (Some n) h = (
  name (codes "push") ∷ number n ∷ [],
  [],
  refl,
  record {
    word = codes "push";
    back = number n ∷ [];
    is = refl;
    formed =
        record { value = n; is = refl; formed = record { passes = count-true n h; formed = refl } };
  },
  refl,
)

pop-formed : (o : Option ℕ) → IsToldRate o → Many IsRate (rate_list pop o) (rate_toks (codes "pop") o)
pop-formed None h = refl
pop-formed (Some n) h = (
  name (codes "pop") ∷ number n ∷ [],
  [],
  refl,
  record {
    word = codes "pop";
    back = number n ∷ [];
    is = refl;
    formed =
        record { value = n; is = refl; formed = record { passes = count-true n h; formed = refl } };
  },
  refl,
)

peek-formed : (o : Option ℕ) → IsToldRate o → Many IsRate (rate_list peek o) (rate_toks (codes "peek") o)
peek-formed None h = refl
peek-formed (Some n) h = (
  name (codes "peek") ∷ number n ∷ [],
  [],
  refl,
  record {
    word = codes "peek";
    back = number n ∷ [];
    is = refl;
    formed =
        record { value = n; is = refl; formed = record { passes = count-true n h; formed = refl } };
  },
  refl,
)

all-rates : (a b c : Option ℕ) → rates_in unwritten (rate_list push a ++ (rate_list pop b ++ rate_list peek c)) ≡ Some (record { push = a; pop = b; peek = c })
all-rates None None None = refl
all-rates None None (Some k) = refl
all-rates None (Some m) None = refl
all-rates None (Some m) (Some k) = refl
all-rates (Some n) None None = refl
all-rates (Some n) None (Some k) = refl
all-rates (Some n) (Some m) None = refl
all-rates (Some n) (Some m) (Some k) = refl

abbrev the_rates : WorkTree → Rates
the_rates t = record { push = t.push; pop = t.pop; peek = t.peek }

rates-formed : (t : WorkTree) → IsToldWork t → AreRates (the_rates t) (rates_toks t)
rates-formed t h = record {
  value = rate_list push t.push ++ (rate_list pop t.pop ++ rate_list peek t.peek);
  is = all-rates t.push t.pop t.peek;
  formed =
      each-append IsRate (rate_list push t.push) _ (rate_toks (codes "push") t.push) _ (push-formed t.push h.push)
      (each-append IsRate (rate_list pop t.pop) (rate_list peek t.peek) (rate_toks (codes "pop") t.pop) (rate_toks (codes "peek") t.peek)
      (pop-formed t.pop h.pop) (peek-formed t.peek h.peek));
}

work-formed : (n : ℕ) (w : WorkTree) → 82 ≤ n → IsToldWork w → IsWork n w (work_toks w)
work-formed n w room h = record {
  value = (the_rates w, w.block);
  is = refl;
  formed = record { front = rates_toks w; back = block_toks w.block; is = refl; first = rates-formed w h; second = block-formed n w.block room h.block };
}

prework-formed : (n : ℕ) (o : Option WorkTree) → 82 ≤ n → IsToldPrework o → IsPrework n o (prework_toks o)
prework-formed n None room h = refl
prework-formed n (Some w) room h = record { back = work_toks w; is = refl; formed = work-formed n w room h }

filter-formed : (n : ℕ) (t : FilterTree) → 82 ≤ n → IsToldFilter t → InFilter n t (filter_toks t)
filter-formed n t room h = record {
  value = (t.fields, (t.init, (t.prework, t.work)));
  is = refl;
  formed = record {
    front = fields_toks t.fields;
    back = init_toks t.init ++ (prework_toks t.prework ++ name (codes "work") ∷ work_toks t.work);
    is = refl;
    first = fields-formed t.fields h.fields;
    second = record {
      front = init_toks t.init;
      back = prework_toks t.prework ++ name (codes "work") ∷ work_toks t.work;
      is = refl;
      first = init-formed n t.init room h.init h.stays;
      second = record {
        front = prework_toks t.prework;
        back = name (codes "work") ∷ work_toks t.work;
        is = refl;
        first = prework-formed n t.prework room h.prework;
        second = record { back = work_toks t.work; is = refl; formed = work-formed n t.work room h.work };
      };
    };
  };
}

called-formed : (n : ℕ) (w : List ℕ) → IsOwnName w → Called n w (name w ∷ [])
called-formed n w h = record {
  value = (w, tt);
  is = refl;
  formed = record { front = name w ∷ []; back = []; is = refl; first = plain-formed w h; second = record { value = None; is = refl; formed = refl } };
}

add-formed : (n : ℕ) (w : List ℕ) → IsOwnName w → IsAdd n w (add_toks w)
add-formed n w h =
    record { back = name w ∷ symbol s.Semicolon ∷ []; is = refl; formed = record { front = name w ∷ []; is = refl; formed = called-formed n w h } }

others-formed : (n : ℕ) (ws : List (List ℕ)) → AreOwnNames ws → Many (IsAdd n) ws (other_toks ws)
others-formed n [] h = refl
others-formed n (w ∷ ws) h = (add_toks w, other_toks ws, refl, add-formed n w h.0, others-formed n ws h.1)

adds-formed : (n : ℕ) (a : Adds) → AreToldAdds a → AreAdds n a (adds_toks a)
adds-formed n a h = record {
  value = (a.first, a.others);
  is = refl;
  formed = record { front = add_toks a.first; back = other_toks a.others; is = refl; first = add-formed n a.first h.0; second = others-formed n a.others h.1 };
}

weight-formed : (n : ℕ) → n ≤ 9223372036854775807 → Weight n (number n ∷ [])
weight-formed n h = record { passes = value_is n h; formed = refl }

more-formed : (ns : List ℕ) → AreToldNumbers ns → Many (After (s.Comma ∷ []) Weight) ns (more_numbers ns)
more-formed [] h = refl
more-formed (n ∷ ns) h =
    (symbol s.Comma ∷ number n ∷ [], more_numbers ns, refl, record { back = number n ∷ []; is = refl; formed = weight-formed n h.0 }, more-formed ns h.1)

numbers-formed : (ns : List ℕ) → AreToldNumbers ns → Listing Weight ns (numbers_toks ns)
numbers-formed [] h = inl (refl, refl)
numbers-formed (n ∷ ns) h = inr (record {
  value = (n, ns);
  is = refl;
  formed = record { front = number n ∷ []; back = more_numbers ns; is = refl; first = weight-formed n h.0; second = more-formed ns h.1 };
})

weights-formed : (n : ℕ) (ws : Option (List ℕ)) → 1 ≤ n → AreToldWeights ws → Weights n ws (weights_toks ws)
weights-formed n None room h = refl
weights-formed zero (Some ws) room h = absurd (omega (arith, room))
weights-formed (suc n) (Some ws) room h =
    record { back = numbers_toks ws ++ symbol s.Close ∷ []; is = refl; formed = record { front = numbers_toks ws; is = refl; formed = numbers-formed ws h } }

dealing-formed : (n : ℕ) (d : Dealing) → 1 ≤ n → IsToldDealing d → Headed (SplitAfter n) d (dealing_toks d)
dealing-formed n Copies room h = record {
  word = codes "duplicate";
  back = [];
  is = refl;
  formed = record { value = tt; is = refl; formed = record { value = None; is = refl; formed = refl } };
}
dealing-formed n (Turns ws) room h = record {
  word = codes "roundrobin";
  back = weights_toks ws;
  is = refl;
  formed = record { value = ws; is = refl; formed = weights-formed n ws room h };
}

split-formed : (n : ℕ) (d : Dealing) → 1 ≤ n → IsToldDealing d → IsSplit n d (split_toks d)
split-formed n d room h = record {
  back = dealing_toks d ++ symbol s.Semicolon ∷ [];
  is = refl;
  formed = record { front = dealing_toks d; is = refl; formed = dealing-formed n d room h };
}

join-formed : (n : ℕ) (ws : Option (List ℕ)) → 1 ≤ n → AreToldWeights ws → IsJoin n ws (join_toks ws)
join-formed n ws room h = record {
  back = name (codes "roundrobin") ∷ (weights_toks ws ++ symbol s.Semicolon ∷ []);
  is = refl;
  formed = record {
    back = weights_toks ws ++ symbol s.Semicolon ∷ [];
    is = refl;
    formed = record { front = weights_toks ws; is = refl; formed = weights-formed n ws room h };
  };
}

both-formed : (n : ℕ) (d : Dealing) (a : Adds) (ws : Option (List ℕ)) → 1 ≤ n → IsToldDealing d → AreToldAdds a → AreToldWeights ws
    → InBoth n (ASplitJoin d a ws) (inner_toks (ASplitJoin d a ws))
both-formed n d a ws room h k j = record {
  value = (d, (a, ws));
  is = refl;
  formed = record {
    front = split_toks d;
    back = adds_toks a ++ join_toks ws;
    is = refl;
    first = split-formed n d room h;
    second = record { front = adds_toks a; back = join_toks ws; is = refl; first = adds-formed n a k; second = join-formed n ws room j };
  };
}

abbrev braced : List Tok → List Tok
braced ts = symbol s.OpenBrace ∷ (ts ++ symbol s.CloseBrace ∷ [])

braced-formed : {A : Type 0} (F : ℕ → A → List Tok → Type 0) (n : ℕ) (v : A) (ts : List Tok) → F n v ts → Braces F (suc n) v (braced ts)
braced-formed F n v ts h = record { back = ts ++ symbol s.CloseBrace ∷ []; is = refl; formed = record { front = ts; is = refl; formed = h } }

body-formed : (b : Body) → IsToldBody b → BodyAfter 128 (kind_word b) b (braced (inner_toks b))
body-formed (AFilter t) h = record { value = t; is = refl; formed = braced-formed InFilter 127 t (filter_toks t) (filter-formed 127 t (omega arith) h) }
body-formed (APipeline a) h = record { value = a; is = refl; formed = braced-formed AreAdds 127 a (adds_toks a) (adds-formed 127 a h) }
body-formed (ASplitJoin d a ws) h = braced-formed InBoth 127 (ASplitJoin d a ws) _ (both-formed 127 d a ws (omega arith) h.0 h.1 h.2)

-- a unit that a text can stand for is in the grammar, by its tokens
pub unit-formed : (u : UnitForm) → IsToldUnit u → IsUnit u (unit_toks u)
unit-formed u h =
    let body : List Tok = braced (inner_toks u.body) in
    record {
      back = symbol s.Arrow ∷ name (codes "int") ∷ name (kind_word u.body) ∷ name u.name ∷ body;
      is = refl;
      formed = record {
        back = name (codes "int") ∷ name (kind_word u.body) ∷ name u.name ∷ body;
        is = refl;
        formed = record {
          back = name (kind_word u.body) ∷ name u.name ∷ body;
          is = refl;
          formed = record {
            word = kind_word u.body;
            back = name u.name ∷ body;
            is = refl;
            formed = record {
              value = (u.name, u.body);
              is = refl;
              formed = record { front = name u.name ∷ []; back = body; is = refl; first = called-formed 128 u.name h.0; second = body-formed u.body h.1 };
            };
          };
        };
      };
    }
