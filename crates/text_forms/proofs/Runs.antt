-- Runs of symbols, one after another.
use Rattle.std.proofs.Common.{◌≡◌, ℕ, ◌<◌, ◌+◌, List, length, drop, get_or, true, false, cond, None, refl, ap}
use Rattle.std.proofs.lemmas.List.{drop_more}
use Rattle.text_tokens.specs.Tok.{Tok}
use Rattle.text_tokens.specs.declared.sign.Symbol.{Symbol}
use Rattle.text_forms.specs.Tail.{tail}
use Rattle.text_forms.specs.Parse.{begins_with, symbols_at}

run_cons : (run : List Symbol) (i : ℕ) (s : Symbol) (ts : List Tok) → i < length run
    → symbols_at (drop i run) ts ≡ cond (begins_with (get_or run i s) ts) (symbols_at (drop (i + 1) run) (tail ts)) None
run_cons run i s ts lt = ap (λ (l : List Symbol). symbols_at l ts) (drop_more run i s lt)

-- one symbol of a run is passed over
pub run_at-taken : (run : List Symbol) (i : ℕ) (s : Symbol) (ts : List Tok) → i < length run → begins_with (get_or run i s) ts ≡ true
    → symbols_at (drop (i + 1) run) (tail ts) ≡ symbols_at (drop i run) ts
run_at-taken run i s ts lt is = rw (run_cons run i s ts lt, is) refl

-- a run is not there where one of its symbols is another
pub run_at-other : (run : List Symbol) (i : ℕ) (s : Symbol) (ts : List Tok) → i < length run → begins_with (get_or run i s) ts ≡ false
    → symbols_at (drop i run) ts ≡ None
run_at-other run i s ts lt not = rw (run_cons run i s ts lt, not) refl
