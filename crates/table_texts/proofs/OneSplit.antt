-- A split is the only one.
use Rattle.std.proofs.Common.{◌≡◌, ℕ, ◌==◌, true, false, List, [], ◌∷◌, ◌++◌, refl, sym, ap, ◌∙◌, subst, append_assoc}
use Rattle.std.proofs.lemmas.Bool.{true≢false}
use Rattle.river_plan.specs.Forms.{Name}
use Rattle.csv_streams.specs.Outcome.{under_name}
use Rattle.table_texts.specs.Split.{under_names, HasNoName, AreSections, StartsName, IsSplit}

-- texts under names begin with the line of a name
pub under-starts : (names : List Name) (ss : List (List ℕ)) → StartsName (under_names names ss)
under-starts [] ss = tt
under-starts (n ∷ ns) [] = tt
under-starts (n ∷ ns) (s ∷ ss) = refl

heads : (c d : ℕ) (l m : List ℕ) → c ∷ l ≡ d ∷ m → c ≡ d
heads c d l m e = cc

tails : (c d : ℕ) (l m : List ℕ) → c ∷ l ≡ d ∷ m → l ≡ m
tails c d l m e = cc

pub record Same (s q a b : List ℕ) : Type 0 where
  pub first : s ≡ q
  pub rest : a ≡ b

clash : (c : ℕ) (cs a b : List ℕ) → StartsName a → c == 35 ≡ false → a ≡ c ∷ (cs ++ b) → ⊥
clash c cs a b h g e = let x : c == 35 ≡ true = subst StartsName e h in true≢false (sym x ∙ g)

-- a text without # that stands before such a line is the only one
pub part-same : (s q a b : List ℕ) → HasNoName s → HasNoName q → StartsName a → StartsName b → s ++ a ≡ q ++ b → Same s q a b
part-same [] [] a b h g x y e = record { first = refl; rest = e }
part-same [] (c ∷ cs) a b h g x y e = absurd (clash c cs a b x g.0 e)
part-same (c ∷ cs) [] a b h g x y e = absurd (clash c cs b a y h.0 (sym e))
part-same (c ∷ cs) (d ∷ ds) a b h g x y e =
    let more = part-same cs ds a b h.1 g.1 x y (tails c d (cs ++ a) (ds ++ b) e) in
    record { first = λ i. heads c d (cs ++ a) (ds ++ b) e i ∷ more.first i; rest = more.rest }

cancel : (n xs ys : List ℕ) → n ++ xs ≡ n ++ ys → xs ≡ ys
cancel [] xs ys e = e
cancel (c ∷ cs) xs ys e = cancel cs xs ys (tails c c (cs ++ xs) (cs ++ ys) e)

-- behind the same name stands the same
pub under-cancel : (n s q a b : List ℕ) → under_name n s ++ a ≡ under_name n q ++ b → s ++ a ≡ q ++ b
under-cancel n s q a b e =
    let one = tails 35 35 (32 ∷ ((n ++ 10 ∷ s) ++ a)) (32 ∷ ((n ++ 10 ∷ q) ++ b)) e in
    let two = tails 32 32 ((n ++ 10 ∷ s) ++ a) ((n ++ 10 ∷ q) ++ b) one in
    tails 10 10 (s ++ a) (q ++ b)
    (cancel n (10 ∷ (s ++ a)) (10 ∷ (q ++ b)) (sym (append_assoc n (10 ∷ s) a) ∙ two ∙ append_assoc n (10 ∷ q) b))

-- a text has one split at most
pub one-split : (names : List Name) (ss qs : List (List ℕ)) → AreSections names ss → AreSections names qs → under_names names ss ≡ under_names names qs → ss ≡ qs
one-split [] [] [] h g e = refl
one-split [] [] (q ∷ qs) h g e = absurd g
one-split [] (s ∷ ss) qs h g e = absurd h
one-split (n ∷ ns) [] qs h g e = absurd h
one-split (n ∷ ns) (s ∷ ss) [] h g e = absurd g
one-split (n ∷ ns) (s ∷ ss) (q ∷ qs) h g e =
    let both = part-same s q (under_names ns ss) (under_names ns qs) h.0 g.0 (under-starts ns ss) (under-starts ns qs)
    (under-cancel n s q (under_names ns ss) (under_names ns qs) e) in
    let more = one-split ns ss qs h.1 g.1 both.rest in
    λ i. both.first i ∷ more i

-- Behind the first text of a split stands the split of the others.
pub one-back : (n : Name) (ns : List Name) (bytes text behind : List ℕ) (all : List (List ℕ)) → bytes ≡ under_name n text ++ behind → HasNoName text
    → StartsName behind → IsSplit (n ∷ ns) bytes all → (others : List (List ℕ)) × IsSplit ns behind others
one-back n ns bytes text behind [] is free ends h = absurd h.are
one-back n ns bytes text behind (s ∷ ss) is free ends h =
    let both = part-same text s behind (under_names ns ss) free h.are.0 ends (under-starts ns ss)
    (under-cancel n text s behind (under_names ns ss) (sym is ∙ h.is)) in
    (ss, record { is = both.rest; are = h.are.1 })

-- A split begins with the line of the first name.
pub one-line : (n : Name) (ns : List Name) (bytes : List ℕ) (all : List (List ℕ)) → IsSplit (n ∷ ns) bytes all
    → (behind : List ℕ) × (bytes ≡ under_name n behind)
one-line n ns bytes [] h = absurd h.are
one-line n ns bytes (s ∷ ss) h = (s ++ under_names ns ss, h.is ∙ under-more n s (under_names ns ss))
  where
    under-more : (name : Name) (a b : List ℕ) → under_name name a ++ b ≡ under_name name (a ++ b)
    under-more name a b = ap (λ (l : List ℕ). 35 ∷ 32 ∷ l) (append_assoc name (10 ∷ a) b)
