-- Texts of statements one after another, and of their parts.
use Rattle.std.proofs.Common.{◌≡◌, ℕ, ◌+◌, ◌<◌, ◌≤◌, List, [], ◌∷◌, ◌++◌, length, drop, map, get_or, sym, ap, ◌∙◌, append_assoc}
use Rattle.std.proofs.lemmas.List.{append-nil}
use Rattle.river_base.proofs.Lists.{map_next, map_none}
use Rattle.text_tokens.specs.Tok.{Tok, symbol}
use Rattle.text_tokens.specs.declared.sign.Symbol.TheVariants as s
use Rattle.streamit_text.specs.Tree.{Statement, statement, in_turn}
use Rattle.streamit_text.specs.declared.tree.Statement as written
use Rattle.text_tokens.specs.Spaced.{spaced}
use Rattle.params_text.specs.Toks.{statement_toks, statements_toks, block_toks}
use Rattle.text_tokens.proofs.Spacing.{spaced-append}
use Rattle.params_model.specs.Environment.{Environment}
use Rattle.params_model.specs.Plain.{put_statement, put_block}

-- the text of statements under values
abbrev pub listed : Environment → List Statement → List ℕ
listed env ss = spaced (statements_toks (put_block env (in_turn ss)))

-- that of a statement, and of those behind it
pub listed-next : (env : Environment) (items : List written.Statement) (i : ℕ) (c : written.Statement) → i < length items → c ≡ get_or items i c
    → listed env (map statement (drop i items)) ≡ spaced (statement_toks (put_statement env (statement c))) ++ listed env (map statement (drop (i + 1) items))
listed-next env items i c lt is =
    ap (listed env) (map_next statement items i c lt is)
    ∙ spaced-append (statement_toks (put_statement env (statement c))) (statements_toks (put_block env (in_turn (map statement (drop (i + 1) items)))))

-- behind the last statement nothing is left to print
pub listed-end : (env : Environment) (items : List written.Statement) (i : ℕ) → length items ≤ i → listed env (map statement (drop i items)) ≡ []
listed-end env items i h = ap (listed env) (map_none statement items i h)

-- what is left to append, after one more part
pub part-more : (now new first rest more all : List ℕ) → now ++ rest ≡ all → new ≡ now ++ first → rest ≡ first ++ more → new ++ more ≡ all
part-more now new first rest more all start is split = ap (λ l. l ++ more) is ∙ append_assoc now first more ∙ ap (λ l. now ++ l) (sym split) ∙ start

-- a block, whose braces stand around its statements
pub block-closed : (env : Environment) (items : List Statement) (old opened now new rest : List ℕ) → opened ≡ old ++ spaced (symbol s.OpenBrace ∷ [])
    → now ++ rest ≡ opened ++ listed env items → rest ≡ [] → new ≡ now ++ spaced (symbol s.CloseBrace ∷ [])
    → new ≡ old ++ spaced (block_toks (put_block env (in_turn items)))
block-closed env items old opened now new rest first all none last =
    let begun = spaced (symbol s.OpenBrace ∷ []) in
    let ended = spaced (symbol s.CloseBrace ∷ []) in
    let within = listed env items in
    last ∙ ap (λ l. l ++ ended) (sym (append-nil now) ∙ ap (λ l. now ++ l) (sym none) ∙ all ∙ ap (λ l. l ++ within) first)
    ∙ append_assoc (old ++ begun) within ended ∙ append_assoc old begun (within ++ ended)
    ∙ ap (λ l. old ++ (begun ++ l)) (sym (spaced-append (statements_toks (put_block env (in_turn items))) (symbol s.CloseBrace ∷ [])))

-- three texts that are appended one after another
pub three-parts : (a b c : List Tok) (old x y z : List ℕ) → x ≡ old ++ spaced a → y ≡ x ++ spaced b → z ≡ y ++ spaced c → z ≡ old ++ spaced (a ++ (b ++ c))
three-parts a b c old x y z first second third =
    third ∙ ap (λ l. l ++ spaced c) (second ∙ ap (λ l. l ++ spaced b) first) ∙ append_assoc (old ++ spaced a) (spaced b) (spaced c)
    ∙ append_assoc old (spaced a) (spaced b ++ spaced c)
    ∙ ap (λ l. old ++ l) (ap (λ l. spaced a ++ l) (sym (spaced-append b c)) ∙ sym (spaced-append a (b ++ c)))

-- two texts
pub two-parts : (a b : List Tok) (old x y : List ℕ) → x ≡ old ++ spaced a → y ≡ x ++ spaced b → y ≡ old ++ spaced (a ++ b)
two-parts a b old x y first second =
    second ∙ ap (λ l. l ++ spaced b) first ∙ append_assoc old (spaced a) (spaced b) ∙ ap (λ l. old ++ l) (sym (spaced-append a b))
