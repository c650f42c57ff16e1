-- The value of a field is the one that it writes.
use Rattle.std.proofs.Common.{◌≡◌, ℕ, ◌^◌, ◌<◌, ◌≤◌, List, [], ◌∷◌, ◌++◌, length, Bool, true, false, cond, refl, sym, ◌∙◌, ap, subst, inl, inr, arith, nat_lt}
use Rattle.std.proofs.Common.{nat_le}
use Rattle.std.specs.Prelude.{ℤ, pos, neg_ℤ, Option, None, Some, option_and_then, ◌&&◌, ◌==◌, not}
use Rattle.std.specs.List.{list_all}
use Rattle.std.proofs.lemmas.Bool.Decides.{nat_tests}
use Rattle.std.proofs.lemmas.Bool.{and_parts}
use Rattle.std.proofs.lemmas.Option.{same_Some}
use Rattle.river_base.specs.Name.{is_digit}
use Rattle.csv_streams.specs.Number.{is_space, after_spaces, digits_of, after_digits, is_nothing, value_after, whole_number, positive, negative, signed_number, number_in}
use Rattle.csv_streams.specs.Writing.{AllSpaces, AllDigits, IsSigned, Writes}

-- tests of a byte
space-is : (c : ℕ) → is_space c ≡ true → c ≡ 32
space-is c e = grind (arith, nat_tests)

digit-is : (c : ℕ) → is_digit c ≡ true → (48 ≤ c) × (c ≤ 57)
unfolding is_digit
digit-is c e = (grind (arith, nat_tests), grind (arith, nat_tests))

digit-from : (c : ℕ) → 48 ≤ c → c ≤ 57 → is_digit c ≡ true
unfolding is_digit
digit-from c low high = grind (arith, nat_tests)

-- the spaces at the front
record Front (text : List ℕ) : Type 0 where
  before : List ℕ
  blank : AllSpaces before
  parts : text ≡ before ++ after_spaces text

front-cons : (c : ℕ) (cs : List ℕ) (b : Bool) → is_space c ≡ b → Front cs
    → (before : List ℕ) × AllSpaces before × (c ∷ cs ≡ before ++ cond b (after_spaces cs) (c ∷ cs))
front-cons c cs true is f = (c ∷ f.before, (space-is c is, f.blank), ap (λ (l : List ℕ). c ∷ l) f.parts)
front-cons c cs false is f = ([], tt, refl)

front-of : (text : List ℕ) → Front text
front-of [] = record { before = []; blank = tt; parts = refl }
front-of (c ∷ cs) = let f = front-cons c cs (is_space c) refl (front-of cs) in record { before = f.0; blank = f.1; parts = f.2 }

-- the digits at the front
digits-cons : (c : ℕ) (cs : List ℕ) (b : Bool) → cs ≡ digits_of cs ++ after_digits cs
    → c ∷ cs ≡ cond b (c ∷ digits_of cs) [] ++ cond b (after_digits cs) (c ∷ cs)
digits-cons c cs true later = ap (λ (l : List ℕ). c ∷ l) later
digits-cons c cs false later = refl

digits-parts : (text : List ℕ) → text ≡ digits_of text ++ after_digits text
digits-parts [] = refl
digits-parts (c ∷ cs) = digits-cons c cs (is_digit c) (digits-parts cs)

decimal-cons : (c : ℕ) (cs : List ℕ) (b : Bool) → is_digit c ≡ b → AllDigits (digits_of cs) → AllDigits (cond b (c ∷ digits_of cs) [])
decimal-cons c cs true is later = ((digit-is c is).0, (digit-is c is).1, later)
decimal-cons c cs false is later = tt

digits-decimal : (text : List ℕ) → AllDigits (digits_of text)
digits-decimal [] = tt
digits-decimal (c ∷ cs) = decimal-cons c cs (is_digit c) refl (digits-decimal cs)

blank-is : (text : List ℕ) → list_all is_space text ≡ true → AllSpaces text
blank-is [] e = tt
blank-is (c ∷ cs) e = let p = and_parts (is_space c) (list_all is_space cs) e in (space-is c p.0, blank-is cs p.1)

some-is : (xs : List ℕ) → not (is_nothing xs) ≡ true → 0 < length xs
some-is [] e = cc
some-is (x ∷ xs) e = omega arith

-- digits and then spaces
record IsWhole (text : List ℕ) (n : ℕ) : Type 0 where
  digits : List ℕ
  after : List ℕ
  parts : text ≡ digits ++ after
  some : 0 < length digits
  decimal : AllDigits digits
  blank : AllSpaces after
  value : value_after 0 digits ≡ n

whole-by : (text : List ℕ) (n : ℕ) (b : Bool) → (not (is_nothing (digits_of text)) && list_all is_space (after_digits text)) ≡ b
    → cond b (Some (value_after 0 (digits_of text))) None ≡ Some n → IsWhole text n
whole-by text n true is e =
    let p = and_parts (not (is_nothing (digits_of text))) (list_all is_space (after_digits text)) is in
    record {
      digits = digits_of text;
      after = after_digits text;
      parts = digits-parts text;
      some = some-is (digits_of text) p.0;
      decimal = digits-decimal text;
      blank = blank-is (after_digits text) p.1;
      value = same_Some (value_after 0 (digits_of text)) n e;
    }
whole-by text n false is e = cc

whole-is : (text : List ℕ) (n : ℕ) → whole_number text ≡ Some n → IsWhole text n
whole-is text n e = whole-by text n (not (is_nothing (digits_of text)) && list_all is_space (after_digits text)) refl e

-- a sign
negative-by : (n : ℕ) (z : ℤ) (b : Bool) → nat_le n (2 ^ 63) ≡ b → cond b (Some (neg_ℤ (pos n))) None ≡ Some z → (n ≤ 2 ^ 63) × (z ≡ neg_ℤ (pos n))
negative-by n z true is e = (grind (arith, nat_tests), cc)
negative-by n z false is e = cc

positive-by : (n : ℕ) (z : ℤ) (b : Bool) → nat_lt n (2 ^ 63) ≡ b → cond b (Some (pos n)) None ≡ Some z → (n < 2 ^ 63) × (z ≡ pos n)
positive-by n z true is e = (grind (arith, nat_tests), cc)
positive-by n z false is e = cc

then_is : (f : ℕ → Option ℤ) (o : Option ℕ) (z : ℤ) → option_and_then f o ≡ Some z → (n : ℕ) × (o ≡ Some n) × (f n ≡ Some z)
then_is f None z e = cc
then_is f (Some n) z e = (n, refl, e)

-- a sign and what follows
record IsNumber (text : List ℕ) (z : ℤ) : Type 0 where
  sign : List ℕ
  rest : List ℕ
  n : ℕ
  parts : text ≡ sign ++ rest
  number : IsWhole rest n
  value : IsSigned sign n z

minus_is : (cs : List ℕ) (z : ℤ) → option_and_then negative (whole_number cs) ≡ Some z → IsNumber (45 ∷ cs) z
minus_is cs z e =
    let (n, is, got) = then_is negative (whole_number cs) z e in
    record {
      sign = 45 ∷ [];
      rest = cs;
      n = n;
      parts = refl;
      number = whole-is cs n is;
      value =
          inl (let p = negative-by n z (nat_le n (2 ^ 63)) refl got in (refl, p.0, p.1));
    }

plus_is : (cs : List ℕ) (z : ℤ) → option_and_then positive (whole_number cs) ≡ Some z → IsNumber (43 ∷ cs) z
plus_is cs z e =
    let (n, is, got) = then_is positive (whole_number cs) z e in
    record {
      sign = 43 ∷ [];
      rest = cs;
      n = n;
      parts = refl;
      number = whole-is cs n is;
      value =
          inr (let p = positive-by n z (nat_lt n (2 ^ 63)) refl got in (inr refl, p.0, p.1));
    }

bare_is : (text : List ℕ) (z : ℤ) → option_and_then positive (whole_number text) ≡ Some z → IsNumber text z
bare_is text z e =
    let (n, is, got) = then_is positive (whole_number text) z e in
    record {
      sign = [];
      rest = text;
      n = n;
      parts = refl;
      number = whole-is text n is;
      value =
          inr (let p = positive-by n z (nat_lt n (2 ^ 63)) refl got in (inl refl, p.0, p.1));
    }

same-byte : (c d : ℕ) → (c == d) ≡ true → d ≡ c
same-byte c d e = grind (arith, nat_tests)

plus_by : (c : ℕ) (cs : List ℕ) (z : ℤ) (b : Bool) → (c == 43) ≡ b
    → cond b (option_and_then positive (whole_number cs)) (option_and_then positive (whole_number (c ∷ cs))) ≡ Some z → IsNumber (c ∷ cs) z
plus_by c cs z true is e = subst (λ (k : ℕ). IsNumber (k ∷ cs) z) (same-byte c 43 is) (plus_is cs z e)
plus_by c cs z false is e = bare_is (c ∷ cs) z e

minus_by : (c : ℕ) (cs : List ℕ) (z : ℤ) (b : Bool) → (c == 45) ≡ b
    → cond b (option_and_then negative (whole_number cs))
    (cond (c == 43) (option_and_then positive (whole_number cs)) (option_and_then positive (whole_number (c ∷ cs)))) ≡ Some z
    → IsNumber (c ∷ cs) z
minus_by c cs z true is e = subst (λ (k : ℕ). IsNumber (k ∷ cs) z) (same-byte c 45 is) (minus_is cs z e)
minus_by c cs z false is e = plus_by c cs z (c == 43) refl e

signed-is : (text : List ℕ) (z : ℤ) → signed_number text ≡ Some z → IsNumber text z
signed-is [] z e = cc
signed-is (c ∷ cs) z e = minus_by c cs z (c == 45) refl e

-- a field that is read as a value writes it
pub read-is_written : (field : List ℕ) (z : ℤ) → number_in field ≡ Some z → Writes field z
read-is_written field z e =
    let front = front-of field in
    let s = signed-is (after_spaces field) z e in
    record {
      before = front.before;
      sign = s.sign;
      digits = s.number.digits;
      after = s.number.after;
      parts = front.parts ∙ ap (λ (l : List ℕ). front.before ++ l) (s.parts ∙ ap (λ (l : List ℕ). s.sign ++ l) s.number.parts);
      blank = front.blank;
      some = s.number.some;
      decimal = s.number.decimal;
      blank_after = s.number.blank;
      value = subst (λ (n : ℕ). IsSigned s.sign n z) (sym s.number.value) s.value;
    }

-- what is written is read
skip-spaces : (before rest : List ℕ) → AllSpaces before → after_spaces (before ++ rest) ≡ after_spaces rest
skip-spaces [] rest all = refl
skip-spaces (c ∷ cs) rest all = rw all.0 (skip-spaces cs rest all.1)

digits-append : (digits after : List ℕ) → AllDigits digits → AllSpaces after → digits_of (digits ++ after) ≡ digits
unfolding is_digit
digits-append [] [] all blank = refl
digits-append [] (c ∷ cs) all blank = rw blank.0 refl
digits-append (d ∷ ds) after all blank = rw (digit-from d all.0 all.1) (ap (λ (l : List ℕ). d ∷ l) (digits-append ds after all.2 blank))

after-append : (digits after : List ℕ) → AllDigits digits → AllSpaces after → after_digits (digits ++ after) ≡ after
unfolding is_digit
after-append [] [] all blank = refl
after-append [] (c ∷ cs) all blank = rw blank.0 refl
after-append (d ∷ ds) after all blank = rw (digit-from d all.0 all.1) (after-append ds after all.2 blank)

blank-from : (text : List ℕ) → AllSpaces text → list_all is_space text ≡ true
blank-from [] all = refl
blank-from (c ∷ cs) all = rw all.0 (blank-from cs all.1)

some-from : (xs : List ℕ) → 0 < length xs → not (is_nothing xs) ≡ true
some-from [] lt = absurd (omega arith)
some-from (x ∷ xs) lt = refl

whole-from : (digits after : List ℕ) → 0 < length digits → AllDigits digits → AllSpaces after → whole_number (digits ++ after) ≡ Some (value_after 0 digits)
whole-from digits after some all blank =
    rw (digits-append digits after all blank, after-append digits after all blank, some-from digits some, blank-from after blank) refl

negative-from : (n : ℕ) → n ≤ 2 ^ 63 → negative n ≡ Some (neg_ℤ (pos n))
negative-from n le = let t : nat_le n (2 ^ 63) ≡ true = grind (arith, nat_tests) in rw t refl

positive-from : (n : ℕ) → n < 2 ^ 63 → positive n ≡ Some (pos n)
positive-from n lt = let t : nat_lt n (2 ^ 63) ≡ true = grind (arith, nat_tests) in rw t refl

other-byte : (d k : ℕ) → k < d → (d == k) ≡ false
other-byte d k lt = grind (arith, nat_tests)

-- no sign: the first byte is a digit
bare-from : (digits after : List ℕ) → 0 < length digits → AllDigits digits
    → signed_number (digits ++ after) ≡ option_and_then positive (whole_number (digits ++ after))
bare-from [] after some all = absurd (omega arith)
bare-from (d ∷ ds) after some all =
    let minus : (d == 45) ≡ false = other-byte d 45 (omega (arith, all.0)) in
    let plus : (d == 43) ≡ false = other-byte d 43 (omega (arith, all.0)) in
    rw (minus, plus) refl

bare-stays : (digits after : List ℕ) → 0 < length digits → AllDigits digits → after_spaces (digits ++ after) ≡ digits ++ after
bare-stays [] after some all = absurd (omega arith)
bare-stays (d ∷ ds) after some all = let t : is_space d ≡ false = other-byte d 32 (omega (arith, all.0)) in rw t refl

signed-from : (sign digits after : List ℕ) (z : ℤ) → 0 < length digits → AllDigits digits → AllSpaces after → IsSigned sign (value_after 0 digits) z
    → signed_number (after_spaces (sign ++ (digits ++ after))) ≡ Some z
signed-from sign digits after z some all blank (inl minus) =
    rw (minus.0, minus.2) (ap (option_and_then negative) (whole-from digits after some all blank) ∙ negative-from (value_after 0 digits) minus.1)
signed-from sign digits after z some all blank (inr (inl none, lt, is)) =
    rw (none, is) (ap signed_number (bare-stays digits after some all) ∙ bare-from digits after some all
    ∙ ap (option_and_then positive) (whole-from digits after some all blank) ∙ positive-from (value_after 0 digits) lt)
signed-from sign digits after z some all blank (inr (inr plus, lt, is)) =
    rw (plus, is) (ap (option_and_then positive) (whole-from digits after some all blank) ∙ positive-from (value_after 0 digits) lt)

-- a field that writes a value is read as it
pub written-is_read : (field : List ℕ) (z : ℤ) → Writes field z → number_in field ≡ Some z
written-is_read field z w =
    ap number_in w.parts ∙ ap signed_number (skip-spaces w.before (w.sign ++ (w.digits ++ w.after)) w.blank)
    ∙ signed-from w.sign w.digits w.after z w.some w.decimal w.blank_after w.value
