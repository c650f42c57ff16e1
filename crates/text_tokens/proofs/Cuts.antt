-- What the cut into units keeps.
use Rattle.std.proofs.Common.{◌≡◌, ℕ, suc, ◌+◌, ◌-◌, ◌<◌, ◌≤◌, Bool, true, false, List, [], ◌∷◌, ◌++◌, length, drop, get_or, take, refl, sym, ap, ◌∙◌}
use Rattle.std.proofs.Common.{arith, append_assoc, length-drop}
use Rattle.std.specs.Prelude.{if◌then◌else◌, map}
use Rattle.std.proofs.lemmas.List.{drop_more, drop_all, drop-drop, length-map, drop-map, take-map}
use Rattle.text_tokens.specs.declared.sign.Symbol.TheVariants.{OpenBrace, CloseBrace}
use Rattle.text_tokens.specs.declared.token.Lexeme.{Lexeme}
use Rattle.text_tokens.specs.Cut.{cut, units_of, unit_len, ends_unit, braces_after, to_first, is_symbol}
use Rattle.text_tokens.specs.Tok.{Tok, token_of, tokens_of, mark_of, toks}

unit_more : (b : ℕ) (ts : List Tok) → 0 < length ts → 0 < unit_len b ts
unfolding unit_len
unit_more b [] h = absurd (omega arith)
unit_more b (t ∷ ts) h = if_more (ends_unit b t ts) (unit_len (braces_after b t) ts)
  where
    if_more : (c : Bool) (n : ℕ) → 0 < (if c then 1 else suc n)
    if_more true n = omega arith
    if_more false n = omega arith

unit_within : (b : ℕ) (ts : List Tok) → unit_len b ts ≤ length ts
unfolding unit_len
unit_within b [] = omega arith
unit_within b (t ∷ ts) = if_within (ends_unit b t ts) (unit_len (braces_after b t) ts) (length ts) (unit_within (braces_after b t) ts)
  where
    if_within : (c : Bool) (n m : ℕ) → n ≤ m → (if c then 1 else suc n) ≤ suc m
    if_within true n m h = omega arith
    if_within false n m h = omega arith

cut-is : (b : ℕ) (ts : List Tok) → 0 < length ts → cut b ts ≡ take (unit_len b ts) ts ∷ cut 0 (drop (unit_len b ts) ts)
unfolding cut unit_len
cut-is b [] h = absurd (omega arith)
cut-is b (t ∷ ts) h = by_end (ends_unit b t ts) ts (braces_after b t) (λ more. cut-is (braces_after b t) ts more)
  where
    by_end : (c : Bool) (ts : List Tok) (k : ℕ) → (0 < length ts → cut k ts ≡ take (unit_len k ts) ts ∷ cut 0 (drop (unit_len k ts) ts))
        → (if c then (t ∷ []) ∷ cut 0 ts else to_first t (cut k ts)) ≡ take (if c then 1 else suc (unit_len k ts)) (t ∷ ts) ∷ cut 0
        (drop (if c then 1 else suc (unit_len k ts)) (t ∷ ts))
    by_end true ts k more = refl
    by_end false [] k more = refl
    by_end false (u ∷ us) k more = ap (to_first t) (more (omega arith))

next : (b : ℕ) (t : Tok) (ts : List Tok) → ends_unit b t ts ≡ false → unit_len b (t ∷ ts) ≡ suc (unit_len (braces_after b t) ts)
unfolding unit_len
next b t ts h = rw h refl

last : (b : ℕ) (t : Tok) (ts : List Tok) → ends_unit b t ts ≡ true → unit_len b (t ∷ ts) ≡ 1
unfolding unit_len
last b t ts h = rw h refl

at : (n : ℕ) (ls : List Lexeme) (d : Lexeme) → n < length ls → tokens_of (drop n ls) ≡ token_of (get_or ls n d).token ∷ tokens_of (drop (n + 1) ls)
at n ls d h = ap tokens_of (drop_more ls n d h)

-- a token that goes on the unit
pub length-next : (b n : ℕ) (ls rest : List Lexeme) (d : Lexeme) → n < length ls → rest ≡ drop (n + 1) ls
    → ends_unit b (token_of (get_or ls n d).token) (tokens_of rest) ≡ false
    → n + 1 + unit_len (braces_after b (token_of (get_or ls n d).token)) (tokens_of (drop (n + 1) ls)) ≡ n + unit_len b (tokens_of (drop n ls))
length-next b n ls rest d h is_rest goes =
    let t = token_of (get_or ls n d).token in
    let here : unit_len b (tokens_of (drop n ls)) ≡ suc (unit_len (braces_after b t) (tokens_of (drop (n + 1) ls))) = ap (unit_len b) (at n ls d h)
    ∙ next b t (tokens_of (drop (n + 1) ls)) (sym (ap (λ r. ends_unit b t (tokens_of r)) is_rest) ∙ goes) in
    omega arith

-- a token that ends the unit
pub length-last : (b n : ℕ) (ls rest : List Lexeme) (d : Lexeme) → n < length ls → rest ≡ drop (n + 1) ls
    → ends_unit b (token_of (get_or ls n d).token) (tokens_of rest) ≡ true → unit_len b (tokens_of (drop n ls)) ≡ 1
length-last b n ls rest d h is_rest ends =
    let t = token_of (get_or ls n d).token in
    ap (unit_len b) (at n ls d h) ∙ last b t (tokens_of (drop (n + 1) ls)) (sym (ap (λ r. ends_unit b t (tokens_of r)) is_rest) ∙ ends)

pub length-end : (b n : ℕ) (ls : List Lexeme) → length ls ≤ n → unit_len b (tokens_of (drop n ls)) ≡ 0
unfolding unit_len
length-end b n ls h = ap (λ l. unit_len b (tokens_of l)) (drop_all n ls h)

-- after a token one more brace is open at most
pub braces-few : (b : ℕ) (t : Tok) → braces_after b t ≤ b + 1
unfolding braces_after
braces-few b t = few (is_symbol OpenBrace t) (is_symbol CloseBrace t)
  where
    few : (c d : Bool) → (if c then b + 1 else (if d then b - 1 else b)) ≤ b + 1
    few true d = omega arith
    few false true = omega arith
    few false false = omega arith

pub ruleset lengths = (length-end, braces-few)

-- a unit more
pub cut-next : (at : ℕ) (ls : List Lexeme) → at < length ls
    → take (unit_len 0 (tokens_of (drop at ls))) (tokens_of (drop at ls)) ∷ units_of
    (tokens_of (drop (at + unit_len 0 (tokens_of (drop at ls))) ls)) ≡ units_of (tokens_of (drop at ls))
cut-next at ls h =
    let ts = tokens_of (drop at ls) in
    let some : 0 < length ts = omega (arith, length-map (drop at ls) (λ (l : Lexeme). token_of l.token), length-drop at ls) in
    sym (cut-is 0 ts some ∙ ap (λ rest. take (unit_len 0 ts) ts ∷ cut 0 rest)
    (drop-map (λ (l : Lexeme). token_of l.token) (unit_len 0 ts) (drop at ls)
    ∙ ap tokens_of (drop-drop (unit_len 0 ts) at ls ∙ ap (λ k. drop k ls) (omega arith))))

-- behind the last token there is no unit
pub cut-end : (at : ℕ) (ls : List Lexeme) → length ls ≤ at → units_of (tokens_of (drop at ls)) ≡ []
unfolding cut
cut-end at ls h = ap (λ l. units_of (tokens_of l)) (drop_all at ls h)

pub unit-some : (ls : List Lexeme) → 0 < length ls → 0 < unit_len 0 (tokens_of ls)
unit-some ls h = unit_more 0 (tokens_of ls) (omega (arith, length-map ls (λ (l : Lexeme). token_of l.token)))

pub unit-fits : (ls : List Lexeme) → unit_len 0 (tokens_of ls) ≤ length ls
unit-fits ls =
    let within : unit_len 0 (tokens_of ls) ≤ length (tokens_of ls) = unit_within 0 (tokens_of ls) in
    omega (arith, length-map ls (λ (l : Lexeme). token_of l.token))

-- the units so far and one more
pub units-next : (front : List (List Tok)) (at n : ℕ) (ls rest unit : List Lexeme) → at < length ls → rest ≡ drop at ls → n ≡ unit_len 0 (tokens_of rest)
    → unit ≡ take n rest → (front ++ tokens_of unit ∷ []) ++ units_of (tokens_of (drop (at + n) ls)) ≡ front ++ units_of (tokens_of (drop at ls))
units-next front at n ls rest unit h is_rest is_n is_unit =
    let ts = tokens_of (drop at ls) in
    let len : n ≡ unit_len 0 ts = is_n ∙ ap (λ r. unit_len 0 (tokens_of r)) is_rest in
    let unit_is : tokens_of unit ≡ take (unit_len 0 ts) ts =
    ap tokens_of (is_unit ∙ ap (take n) is_rest) ∙ sym (take-map (λ (l : Lexeme). token_of l.token) n (drop at ls)) ∙ ap (λ k. take k ts) len in
    append_assoc front (tokens_of unit ∷ []) (units_of (tokens_of (drop (at + n) ls)))
    ∙ ap (λ k. front ++ tokens_of unit ∷ units_of (tokens_of (drop (at + k) ls))) len
    ∙ ap (λ u. front ++ u ∷ units_of (tokens_of (drop (at + unit_len 0 ts) ls))) unit_is
    ∙ ap (λ us. front ++ us) (cut-next at ls h)

pub ruleset cuts = (cut-next, cut-end, unit-some, unit-fits)

-- the tokens of lexemes, with or without their places
pub toks-marks : (ls : List Lexeme) → toks (map mark_of ls) ≡ tokens_of ls
toks-marks [] = refl
toks-marks (l ∷ ls) = ap (λ ts. token_of l.token ∷ ts) (toks-marks ls)
