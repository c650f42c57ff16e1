-- The text of a program stands for it and for no other.
use Rattle.std.proofs.Common.{◌≡◌, ℕ, true, false, List, [], ◌∷◌, ◌++◌, map, refl, sym, ap, ◌∙◌, subst, append_assoc}
use Rattle.std.specs.Prelude.{codes}
use Rattle.text_tokens.specs.Cut.{cut, to_first, ends_unit, braces_after, is_else, units_of}
use Rattle.text_tokens.specs.Lexis as lexis
use Rattle.text_tokens.specs.Tok.{Tok, name, symbol}
use Rattle.text_tokens.specs.declared.sign.Symbol.TheVariants as s
use Rattle.text_tokens.proofs.Spelled.{is_name_text, spells-whole}
use Rattle.text_tokens.proofs.Insides.{Inside, all_first}
use Rattle.streamit_text.specs.Program.{Body, AFilter, APipeline, ASplitJoin, UnitForm, Program}
use Rattle.streamit_text.specs.Grammar.{IsText, IsSome, AreUnits}
use Rattle.streamit_text.proofs.Texts.{one_program}
use Rattle.params_text.specs.Toks.{kind_word, inner_toks, unit_toks, units_toks, plain_text}
use Rattle.params_text.specs.Told.{IsToldProgram, IsToldUnit}
use Rattle.params_text.specs.Laws.{TextStands}
use Rattle.text_tokens.proofs.Good.{AreGood, good-append, spaced-spells}
use Rattle.params_text.proofs.Expressions.{own_text}
use Rattle.params_text.proofs.Statements.{int_is}
use Rattle.params_text.proofs.Units.{inner-piece, unit-formed}

-- A UNIT ENDS AT ITS LAST BRACE

all_first-one : (ts u : List Tok) (us : List (List Tok)) → all_first ts (u ∷ us) ≡ (ts ++ u) ∷ us
all_first-one [] u us = refl
all_first-one (t ∷ ts) u us = ap (to_first t) (all_first-one ts u us)

closes : (rest : List Tok) → is_else rest ≡ false → cut 1 (symbol s.CloseBrace ∷ rest) ≡ (symbol s.CloseBrace ∷ []) ∷ cut 0 rest
unfolding cut ends_unit
closes rest none = rw none refl

opens : (ts : List Tok) → cut 0 (symbol s.OpenBrace ∷ ts) ≡ to_first (symbol s.OpenBrace) (cut 1 ts)
unfolding cut ends_unit braces_after
opens ts = refl

braces-whole : (k rest : List Tok) → Inside k → is_else rest ≡ false
    → cut 0 (symbol s.OpenBrace ∷ ((k ++ symbol s.CloseBrace ∷ []) ++ rest)) ≡ (symbol s.OpenBrace ∷ (k ++ symbol s.CloseBrace ∷ [])) ∷ cut 0 rest
braces-whole k rest x none =
    opens ((k ++ symbol s.CloseBrace ∷ []) ++ rest)
    ∙ ap (to_first (symbol s.OpenBrace))
    (ap (cut 1) (append_assoc k (symbol s.CloseBrace ∷ []) rest) ∙ x.goes 0 (symbol s.CloseBrace ∷ rest) ∙ ap (all_first k) (closes rest none)
    ∙ all_first-one k (symbol s.CloseBrace ∷ []) (cut 0 rest))

head-cut : (kind n : List ℕ) (ts : List Tok) → cut 0 (name (codes "int") ∷ symbol s.Arrow ∷ name (codes "int") ∷ name kind ∷ name n ∷ ts)
    ≡ to_first (name (codes "int")) (to_first (symbol s.Arrow) (to_first (name (codes "int")) (to_first (name kind) (to_first (name n) (cut 0 ts)))))
unfolding cut ends_unit braces_after
head-cut kind n ts = refl

unit-whole : (u : UnitForm) (rest : List Tok) → IsToldUnit u → is_else rest ≡ false → cut 0 (unit_toks u ++ rest) ≡ unit_toks u ∷ cut 0 rest
unit-whole u rest h none =
    head-cut (kind_word u.body) u.name (symbol s.OpenBrace ∷ ((inner_toks u.body ++ symbol s.CloseBrace ∷ []) ++ rest))
    ∙ ap (λ l. to_first (name (codes "int"))
    (to_first (symbol s.Arrow) (to_first (name (codes "int")) (to_first (name (kind_word u.body)) (to_first (name u.name) l)))))
    (braces-whole (inner_toks u.body) rest (inner-piece u.body h.1).inside none)

no_else : (p : Program) → is_else (units_toks p) ≡ false
no_else [] = refl
no_else (u ∷ us) = refl

cut-nothing : cut 0 [] ≡ []
unfolding cut
cut-nothing = refl

units-whole : (p : Program) → IsToldProgram p → units_of (units_toks p) ≡ map unit_toks p
units-whole [] h = cut-nothing
units-whole (u ∷ us) h = unit-whole u (units_toks us) h.0 (no_else us) ∙ ap (λ l. unit_toks u ∷ l) (units-whole us h.1)

-- THE WHOLE

kind-word : (b : Body) → is_name_text (kind_word b) ≡ true
unfolding lexis.is_letter lexis.is_word lexis.is_digit
kind-word (AFilter t) = refl
kind-word (APipeline a) = refl
kind-word (ASplitJoin d a ws) = refl

units-good : (p : Program) → IsToldProgram p → AreGood (units_toks p)
units-good [] h = tt
units-good (u ∷ us) h =
    let inner = good-append (inner_toks u.body) (symbol s.CloseBrace ∷ []) (inner-piece u.body h.0.1).good (tt, tt) in
    good-append (unit_toks u) (units_toks us) (int_is, (tt, (int_is, (kind-word u.body, (own_text u.name h.0.0, (tt, inner)))))) (units-good us h.1)

units-formed : (p : Program) → IsToldProgram p → AreUnits p (map unit_toks p)
units-formed [] h = tt
units-formed (u ∷ us) h = (unit-formed u h.0, units-formed us h.1)

stands : (p : Program) → IsSome p → IsToldProgram p → IsText (plain_text p) p
stands p some h =
    let (ms, lexed, same) = spells-whole (plain_text p) (units_toks p) (spaced-spells (units_toks p) (units-good p h)) tt in
    record {
      marks = ms;
      lexed = lexed;
      formed = subst (AreUnits p) (sym (ap units_of same ∙ units-whole p h)) (units-formed p h);
      some = some;
    }

-- the text of a plain program that a text can stand for stands for it, and for no other
pub text_stands : TextStands
text_stands p some h = (stands p some h, λ q t. one_program (plain_text p) q p t (stands p some h))
