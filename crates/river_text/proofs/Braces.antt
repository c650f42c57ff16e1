-- The steps by which code reads kernels in braces.
use Rattle.std.proofs.Common.{◌≡◌, ℕ, zero, suc, ◌-◌, List, [], ◌∷◌, None, refl, sym, ap}
use Rattle.river_base.proofs.Tests.{less-one}
use Rattle.text_tokens.specs.Tok.{Tok}
use Rattle.text_tokens.specs.declared.sign.Symbol.TheVariants as s
use Rattle.text_forms.specs.Parse as parse
use Rattle.river_text.specs.ReadKernels.{braced_at, kernel_at, kernel_after}

pub braced-at : (n : ℕ) (ts : List Tok)
    → braced_at n ts ≡ parse.then_rest (parse.open_at s.OpenBrace n ts) (parse.before (kernel_at (n - 1)) (s.CloseBrace ∷ []))
unfolding braced_at kernel_at parse.open_at
braced-at zero ts = refl
braced-at (suc n) ts =
    ap (λ (k : ℕ). parse.then_rest (parse.symbols_at (s.OpenBrace ∷ []) ts) (parse.before (parse.headed (kernel_after (braced_at k) k)) (s.CloseBrace ∷ [])))
    (sym (less-one n))

pub braced-none : (ts : List Tok) → braced_at 0 ts ≡ None
unfolding braced_at
braced-none ts = refl

pub ruleset braces = (braced-at, braced-none)
