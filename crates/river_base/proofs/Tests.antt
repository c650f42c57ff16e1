-- What the tests of numbers tell, and when they hold.
use Rattle.std.proofs.Common.{◌≡◌, ℕ, suc, ◌+◌, ◌-◌, ◌<◌, ◌≤◌, ℤ, pos, negsuc, ◌<ℤ◌, ◌≤ℤ◌, true, false, nat_eq, arith}
use Rattle.std.specs.Prelude.{nat_le, nat_lt, int_le, int_lt}
use Rattle.std.specs.Ordering.{int_eq, int_cmp}
use Rattle.std.specs.declared.cmp.Ordering.TheVariants.{Less}

-- NATURAL NUMBERS

-- the test for at most
pub le_by : (a b : ℕ) → nat_le a b ≡ true → a ≤ b
le_by a b h = grind (arith, h)

-- what is at most passes it
pub le_true : (a b : ℕ) → a ≤ b → nat_le a b ≡ true
le_true a b h = grind (arith, h)

-- what is above fails the test `at most`
pub le_false : (a b : ℕ) → b < a → nat_le a b ≡ false
le_false a b h = grind (arith, h)

-- the test for less
pub lt_by : (a b : ℕ) → nat_lt a b ≡ true → a < b
lt_by a b h = grind (arith, h)

-- what is below passes it
pub lt_true : (a b : ℕ) → a < b → nat_lt a b ≡ true
lt_true a b h = grind (arith, h)

-- what is at least fails the test `below`
pub lt_false : (a b : ℕ) → b ≤ a → nat_lt a b ≡ false
lt_false a b h = grind (arith, h)

-- the test for equality
pub eq_by : (a b : ℕ) → nat_eq a b ≡ true → a ≡ b
eq_by a b h = grind (arith, h)

-- one less than one more
pub less-one : (n : ℕ) → suc n - 1 ≡ n
less-one n = omega arith

-- what is left before a number
pub one_less : (n i : ℕ) → i < n → n - i ≡ suc (n - (i + 1))
one_less n i lt = omega (arith, lt)

-- INTEGERS

-- natural numbers among them
pub pos_is : (a b : ℕ) → pos a ≡ pos b → a ≡ b
pos_is a b e = cc

-- no number below 0 is one that counts
pub negative : (i n : ℕ) → negsuc i ≡ pos n → ⊥
negative i n h = cc h

-- the test for less
pub int_lt_by : (t u : ℤ) → int_lt t u ≡ true → t <ℤ u
int_lt_by t u h = grind (arith, h)

-- what is not below is at least
pub int_lt_not : (t u : ℤ) → int_lt t u ≡ false → u ≤ℤ t
int_lt_not t u h = grind (arith, h)

-- what is below passes the test
pub int_lt_true : (t u : ℤ) → t <ℤ u → int_lt t u ≡ true
int_lt_true t u h = grind (arith, h)

-- what is at most is not above
pub int_lt_false : (t u : ℤ) → u ≤ℤ t → int_lt t u ≡ false
int_lt_false t u h = grind (arith, h)

-- what is below is not above
pub int_lt_back : (t u : ℤ) → int_lt u t ≡ true → int_lt t u ≡ false
int_lt_back t u h = grind (arith, h)

-- the test for at most
pub int_le_true : (t u : ℤ) → t ≤ℤ u → int_le t u ≡ true
int_le_true t u h = grind (arith, h)

-- the test for equality
pub int_eq_by : (t u : ℤ) → int_eq t u ≡ true → t ≡ u
int_eq_by t u h = grind (arith, h)

-- the comparison
pub cmp_less : (t u : ℤ) → int_cmp t u ≡ Less → t <ℤ u
cmp_less t u h = grind (arith, h)
