-- The steps by which code reads names of streams.
use Rattle.std.proofs.Common.{◌≡◌, ℕ, ◌<◌, ◌≤◌, ◌+◌, List, [], ◌∷◌, ◌++◌, length, Bool, true, false, Some, None, refl, sym, ap, ◌∙◌, arith, length-append}
use Rattle.std.specs.Prelude.{nat_le, ◌&&◌}
use Rattle.text_tokens.specs.Tok.{Tok}
use Rattle.text_forms.specs.Parse as parse
use Rattle.text_forms.specs.Repeat.{repeated}
use Rattle.text_forms.proofs.Many.{many-shortens}
use Rattle.text_forms.proofs.Repeat.{repeated-next, repeated-stop, repeated-fail}
use Rattle.river_base.specs.Name.{is_name}
use Rattle.streamit_text.specs.Words.{is_plain, is_own}
use Rattle.streamit_text.specs.Reading.{no_add, add_at}
use Rattle.streamit_text.proofs.Units.{exact-add, listed-adds}

-- a name that users may give is short
pub plain-short : (text : List ℕ) → is_plain text ≡ true → length text ≤ 40
unfolding is_plain
plain-short text h = by (nat_le (length text) 40) _ refl h where
  by : (b c : Bool) → nat_le (length text) 40 ≡ b → (b && c) ≡ true → length text ≤ 40
  by true c e g = grind arith
  by false c e g = cc

-- and so is one that they may call something
pub own-short : (text : List ℕ) → is_own text ≡ true → length text ≤ 40
own-short text h = by (is_plain text) refl h where
  by : (b : Bool) → is_plain text ≡ b → b && is_name text ≡ true → length text ≤ 40
  by true e g = plain-short text e
  by false e g = absurd (cc g)

pub ruleset names = (own-short)

pub adds-stop : (n : ℕ) (done : List (List ℕ)) (ts : List Tok) → no_add ts ≡ true → repeated (parse.many_turn no_add (add_at n)) done ts ≡ Some (done, ts)
adds-stop n done ts e = repeated-stop (parse.many_turn no_add (add_at n)) done ts (rw e refl)

pub adds-bad : (n : ℕ) (done : List (List ℕ)) (ts : List Tok) → no_add ts ≡ false → add_at n ts ≡ None
    → repeated (parse.many_turn no_add (add_at n)) done ts ≡ None
adds-bad n done ts e bad = repeated-fail (parse.many_turn no_add (add_at n)) done ts (rw (e, bad) refl)

-- one name more
pub adds-next : (n : ℕ) (done : List (List ℕ)) (ts us : List Tok) (v : List ℕ) → no_add ts ≡ false → add_at n ts ≡ Some (v, us)
    → repeated (parse.many_turn no_add (add_at n)) (done ++ v ∷ []) us ≡ repeated (parse.many_turn no_add (add_at n)) done ts
adds-next n done ts us v e read =
    sym (repeated-next (parse.many_turn no_add (add_at n)) (many-shortens no_add (exact-add n) (listed-adds n)) done ts (done ++ v ∷ []) us (rw (e, read) refl))

-- an `add` takes a token at least
pub add-shortens : (n : ℕ) (ts us : List Tok) (v : List ℕ) → add_at n ts ≡ Some (v, us) → length us < length ts
add-shortens n ts us v e =
    let f = (exact-add n).sound ts v us e in
    let size : length ts ≡ length f.front + length us = ap length f.is ∙ length-append f.front us in
    let some : 0 < length f.front = (listed-adds n).some v f.front f.formed in
    omega arith

pub ruleset more = (adds-stop, adds-bad, adds-next, add-shortens)
