-- Lemmas on names.
use Rattle.std.proofs.Common.{◌≤◌, ℕ, List, [], ◌∷◌, length, IsTrue, sym, arith, rules}
use Rattle.std.proofs.lemmas.Bool.{true≢false}
use Rattle.river_base.specs.Name.{is_name}

-- a name has at most 64 bytes
pub name_at_most : (bytes : List ℕ) → IsTrue (is_name bytes) → length bytes ≤ 64
name_at_most [] h = omega arith
name_at_most (b ∷ bs) h = grind (arith, rules)

-- and at least one
pub name_some : (bytes : List ℕ) → IsTrue (is_name bytes) → 1 ≤ length bytes
name_some [] h = absurd (true≢false (sym h))
name_some (b ∷ bs) h = omega arith
