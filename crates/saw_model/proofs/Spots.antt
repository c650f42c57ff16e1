-- Texts of spots: what is known behind them, and how much they have.
use Rattle.std.proofs.Common.{◌≡◌, ℕ, zero, suc, ◌+◌, ◌⊎◌, inl, inr, Bool, true, false, List, [], ◌∷◌, ◌++◌, length, Option, Some, None, refl, sym, ap, ◌∙◌}
use Rattle.std.proofs.Common.{subst, arith, ⊎_elim, append_assoc, append-nil}
use Rattle.std.proofs.lemmas.Bool.{both_ways}
use Rattle.std.proofs.lemmas.Option.{none-some}
use Rattle.river_plan.specs.Forms.{Name}
use Rattle.river_plan.specs.Names.{one_if}
use Rattle.saw_text.specs.Tree.{Expression}
use Rattle.saw_text.specs.Tree as tree
use Rattle.saw_text.specs.Tree.{Statement, Declare, Assign, Emit, If, Block, End, Then, Optional, Unwritten, Written}
use Rattle.saw_model.specs.Places.{Spot, Begins, Enters, Leaves, Names, Reads, Declares, Local, Sets, Emits, Index, Indexed, Weighted, Unweighted}
use Rattle.saw_model.specs.Places.{term_spots, value_spots, index_spots, weight_spots, statement_spots, block_spots, optional_spots, What, known_from_here, BlockEdge, In, Out}
use Rattle.saw_model.specs.Places.{Along, block_edge, past_edge}
use Rattle.saw_model.specs.Places.{stays, IsKnownAs, is_statement, is_local, is_table, how_many}

-- HOW MANY

-- how many spots of two lists pass a test
pub many_append : (t : Spot → Bool) (xs ys : List Spot) → how_many t (xs ++ ys) ≡ how_many t xs + how_many t ys
many_append t [] ys = omega arith
many_append t (x ∷ xs) ys = let e = many_append t xs ys in omega (arith, e)

-- BLOCKS

past_same : (t : BlockEdge) (k : ℕ) (f g : ℕ → Bool) → ((j : ℕ) → f j ≡ g j) → past_edge t k f ≡ past_edge t k g
past_same In k f g h = h (suc k)
past_same Out zero f g h = refl
past_same Out (suc k) f g h = h k
past_same Along k f g h = h k

-- what stays within any blocks says nothing of the text before it
pub stays_before : (xs ys : List Spot) → ((k : ℕ) → stays k ys ≡ true) → (k : ℕ) → stays k (xs ++ ys) ≡ stays k xs
stays_before [] ys h k = h k
stays_before (x ∷ xs) ys h k = past_same (block_edge x) k (λ j. stays j (xs ++ ys)) (λ j. stays j xs) (λ j. stays_before xs ys h j)

-- a text that leaves as many blocks as it enters, and none before
abbrev pub IsSteady : List Spot → Type 0
IsSteady xs = (k : ℕ) (ys : List Spot) → stays k (xs ++ ys) ≡ stays k ys

-- steady spots keep what is open
pub steady_stays : (xs : List Spot) → IsSteady xs → (k : ℕ) → stays k xs ≡ true
steady_stays xs h k = ap (stays k) (sym (append-nil xs)) ∙ h k []

pub steady_both : (xs ys : List Spot) → IsSteady xs → IsSteady ys → IsSteady (xs ++ ys)
steady_both xs ys a b k zs = ap (stays k) (append_assoc xs ys zs) ∙ a k (ys ++ zs) ∙ b k zs

-- WHAT IS KNOWN

-- behind two texts a name is known from one of them
pub known_parts : (xs ys : List Spot) (n : Name) (w : What) → ((k : ℕ) → stays k ys ≡ true) → IsKnownAs (xs ++ ys) n w → IsKnownAs xs n w ⊎ IsKnownAs ys n w
known_parts [] ys n w h d = inr d
known_parts (x ∷ xs) ys n w h d = ⊎_elim
    (λ e. inl (inl (e.0, sym (stays_before xs ys h 0) ∙ e.1)))
    (λ e. ⊎_elim (λ a. inl (inr a)) (λ a. inr a) (known_parts xs ys n w h e))
    d

-- what is known by the first spots is known by both
pub known_first : (xs ys : List Spot) (n : Name) (w : What) → ((k : ℕ) → stays k ys ≡ true) → IsKnownAs xs n w → IsKnownAs (xs ++ ys) n w
known_first [] ys n w h d = absurd d
known_first (x ∷ xs) ys n w h d = ⊎_elim
    (λ e. inl (e.0, stays_before xs ys h 0 ∙ e.1))
    (λ e. inr (known_first xs ys n w h e))
    d

-- and by the second
pub known_second : (xs ys : List Spot) (n : Name) (w : What) → IsKnownAs ys n w → IsKnownAs (xs ++ ys) n w
known_second [] ys n w d = d
known_second (x ∷ xs) ys n w d = inr (known_second xs ys n w d)

-- a spot that gives no name
pub known_behind : (m : Spot) (ms : List Spot) (n : Name) (w : What) → known_from_here m ≡ None → IsKnownAs (m ∷ ms) n w → IsKnownAs ms n w
known_behind m ms n w e d = ⊎_elim (λ a. absurd (none-some (n, w) (sym e ∙ a.0))) (λ a. a) d

-- a text behind which no name of it is known
abbrev pub IsQuiet : List Spot → Type 0
IsQuiet xs = (ys : List Spot) (n : Name) (w : What) → IsKnownAs (xs ++ ys) n w → IsKnownAs ys n w

-- a text of which no name is known once its block is left
abbrev pub IsShut : List Spot → Type 0
IsShut xs = (ys : List Spot) (n : Name) (w : What) → stays 0 ys ≡ false → IsKnownAs (xs ++ ys) n w → IsKnownAs ys n w

pub quiet_both : (xs ys : List Spot) → IsQuiet xs → IsQuiet ys → IsQuiet (xs ++ ys)
quiet_both xs ys a b zs n w d = b zs n w (a (ys ++ zs) n w (subst (λ ms. IsKnownAs ms n w) (append_assoc xs ys zs) d))

-- quiet spots make nothing known
pub quiet_alone : (xs : List Spot) → IsQuiet xs → (n : Name) (w : What) → IsKnownAs xs n w → ⊥
quiet_alone xs h n w d = h [] n w (subst (λ ms. IsKnownAs ms n w) (sym (append-nil xs)) d)

-- PLAIN TEXTS

-- it enters and leaves no block, declares nothing and begins no statement
pub record IsPlain (ms : List Spot) : Type 0 where
  pub steady : IsSteady ms
  pub quiet : IsQuiet ms
  pub statements : how_many is_statement ms ≡ 0
  pub locals : how_many is_local ms ≡ 0
  pub tables : how_many is_table ms ≡ 0

-- no spot is plain
pub plain_none : IsPlain []
plain_none = record { steady = λ k ys. refl; quiet = λ ys n w d. d; statements = refl; locals = refl; tables = refl }

pub plain_both : (xs ys : List Spot) → IsPlain xs → IsPlain ys → IsPlain (xs ++ ys)
plain_both xs ys a b = record {
  steady = steady_both xs ys a.steady b.steady;
  quiet = quiet_both xs ys a.quiet b.quiet;
  statements = let e = many_append is_statement xs ys in let x = a.statements in let y = b.statements in omega (arith, e, x, y);
  locals = let e = many_append is_local xs ys in let x = a.locals in let y = b.locals in omega (arith, e, x, y);
  tables = let e = many_append is_table xs ys in let x = a.tables in let y = b.tables in omega (arith, e, x, y);
}

-- a spot that only has a place
pub record IsAlong (m : Spot) : Type 0 where
  pub turn : block_edge m ≡ Along
  pub gives : known_from_here m ≡ None
  pub statement : is_statement m ≡ false
  pub local : is_local m ≡ false
  pub table : is_table m ≡ false

pub plain_next : (m : Spot) (ms : List Spot) → IsAlong m → IsPlain ms → IsPlain (m ∷ ms)
plain_next m ms a p = record {
  steady = λ k ys. ap (λ t. past_edge t k (λ j. stays j (ms ++ ys))) a.turn ∙ p.steady k ys;
  quiet = λ ys n w d. p.quiet ys n w (known_behind m (ms ++ ys) n w a.gives d);
  statements = let x = ap one_if a.statement in let y = p.statements in omega (arith, x, y);
  locals = let x = ap one_if a.local in let y = p.locals in omega (arith, x, y);
  tables = let x = ap one_if a.table in let y = p.tables in omega (arith, x, y);
}

-- naming goes along
pub along_names : (n : Name) → IsAlong (Names n)
along_names n = record { turn = refl; gives = refl; statement = refl; local = refl; table = refl }

-- reading a field goes along
pub along_reads : (n : ℕ) → IsAlong (Reads n)
along_reads n = record { turn = refl; gives = refl; statement = refl; local = refl; table = refl }

-- declaring goes along
pub along_declares : (n : Name) → IsAlong (Declares n)
along_declares n = record { turn = refl; gives = refl; statement = refl; local = refl; table = refl }

-- setting goes along
pub along_sets : (n : Name) → IsAlong (Sets n)
along_sets n = record { turn = refl; gives = refl; statement = refl; local = refl; table = refl }

-- emitting goes along
pub along_emits : (n : Name) → IsAlong (Emits n)
along_emits n = record { turn = refl; gives = refl; statement = refl; local = refl; table = refl }

-- an index goes along
pub along_index : (n : ℕ) → IsAlong (Index n)
along_index n = record { turn = refl; gives = refl; statement = refl; local = refl; table = refl }

-- a number of indexes goes along
pub along_indexed : (n : Name) (i : ℕ) → IsAlong (Indexed n i)
along_indexed n i = record { turn = refl; gives = refl; statement = refl; local = refl; table = refl }

-- a weight goes along
pub along_weighted : (n : Name) → IsAlong (Weighted n)
along_weighted n = record { turn = refl; gives = refl; statement = refl; local = refl; table = refl }

-- no weight goes along
pub along_unweighted : (n : Name) → IsAlong (Unweighted n)
along_unweighted n = record { turn = refl; gives = refl; statement = refl; local = refl; table = refl }

-- one such spot is plain
pub plain_one : (m : Spot) → IsAlong m → IsPlain (m ∷ [])
plain_one m a = plain_next m [] a plain_none

pub term_plain : (t : Expression) → IsPlain (term_spots t)
term_plain (tree.Number v) = plain_none
term_plain (tree.Name n) = plain_one (Names n) (along_names n)
term_plain (tree.Input p) = plain_one (Reads p) (along_reads p)
term_plain (tree.Neg t) = term_plain t
term_plain (tree.Not t) = term_plain t
term_plain (tree.Bin o l r) = plain_both (term_spots l) (term_spots r) (term_plain l) (term_plain r)

pub value_plain : (t : Option Expression) → IsPlain (value_spots t)
value_plain None = plain_none
value_plain (Some t) = term_plain t

pub index_plain : (n : ℕ) (ts : List Expression) → IsPlain (index_spots n ts)
index_plain n [] = plain_none
index_plain n (t ∷ ts) =
    plain_next (Index (n + 1)) (term_spots t ++ index_spots (n + 1) ts) (along_index (n + 1))
    (plain_both (term_spots t) (index_spots (n + 1) ts) (term_plain t) (index_plain (n + 1) ts))

pub weight_plain : (n : Name) (t : Option Expression) → IsPlain (weight_spots n t)
weight_plain n None = plain_one (Unweighted n) (along_unweighted n)
weight_plain n (Some t) = plain_next (Weighted n) (term_spots t) (along_weighted n) (term_plain t)

-- BLOCKS OF STATEMENTS

-- it leaves what it enters, nothing of it is known once its block is left, and it has no table
pub record IsBody (ms : List Spot) : Type 0 where
  pub steady : IsSteady ms
  pub shut : IsShut ms
  pub tables : how_many is_table ms ≡ 0

-- a plain text is one
pub plain_body : (ms : List Spot) → IsPlain ms → IsBody ms
plain_body ms p = record { steady = p.steady; shut = λ ys n w h d. p.quiet ys n w d; tables = p.tables }

body_both : (xs ys : List Spot) → IsBody xs → IsBody ys → IsBody (xs ++ ys)
body_both xs ys a b = record {
  steady = steady_both xs ys a.steady b.steady;
  shut = λ zs n w h d. b.shut zs n w h (a.shut (ys ++ zs) n w (b.steady 0 zs ∙ h) (subst (λ ms. IsKnownAs ms n w) (append_assoc xs ys zs) d));
  tables = let e = many_append is_table xs ys in let x = a.tables in let y = b.tables in omega (arith, e, x, y);
}

-- a statement that begins
begun : (ms : List Spot) → IsBody ms → IsBody (Begins ∷ ms)
begun ms b = record {
  steady = λ k ys. b.steady k ys;
  shut = λ ys n w h d. b.shut ys n w h (known_behind Begins (ms ++ ys) n w refl d);
  tables = let x = b.tables in omega (arith, x);
}

local_body : (n : Name) → IsBody (Local n ∷ [])
local_body n = record {
  steady = λ k ys. refl;
  shut = λ ys x w h d. ⊎_elim (λ e. absurd (both_ways (stays 0 ys) h e.1)) (λ e. e) d;
  tables = refl;
}

-- a block that is entered and left
pub block_whole : (xs rest : List Spot) → IsBody xs → IsBody rest → IsBody (Enters ∷ (xs ++ Leaves ∷ rest))
block_whole xs rest a r = record {
  steady = λ k ys. ap (stays (suc k)) (append_assoc xs (Leaves ∷ rest) ys) ∙ a.steady (suc k) (Leaves ∷ (rest ++ ys)) ∙ r.steady k ys;
  shut = λ ys n w h d.
      let e = known_behind Enters ((xs ++ Leaves ∷ rest) ++ ys) n w refl d in
      let f = a.shut (Leaves ∷ (rest ++ ys)) n w refl (subst (λ ms. IsKnownAs ms n w) (append_assoc xs (Leaves ∷ rest) ys) e) in
      r.shut ys n w h (known_behind Leaves (rest ++ ys) n w refl f);
  tables = let e = many_append is_table xs (Leaves ∷ rest) in let x = a.tables in let y = r.tables in omega (arith, e, x, y);
}

mutual
  pub statement_body : (c : Statement) → IsBody (statement_spots c)
  statement_body (Declare n t) =
      begun (Declares n ∷ (value_spots t ++ Local n ∷ []))
      (body_both (Declares n ∷ []) (value_spots t ++ Local n ∷ []) (plain_body (Declares n ∷ []) (plain_one (Declares n) (along_declares n)))
      (body_both (value_spots t) (Local n ∷ []) (plain_body (value_spots t) (value_plain t)) (local_body n)))
  statement_body (Assign n t) =
      begun (Sets n ∷ term_spots t) (plain_body (Sets n ∷ term_spots t) (plain_next (Sets n) (term_spots t) (along_sets n) (term_plain t)))
  statement_body (Emit n is v w) =
      let last = term_spots v ++ weight_spots n w in
      let more = plain_next (Indexed n (length is)) last (along_indexed n (length is))
      (plain_both (term_spots v) (weight_spots n w) (term_plain v) (weight_plain n w)) in
      let all = index_spots 0 is ++ Indexed n (length is) ∷ last in
      begun (Emits n ∷ all)
      (plain_body (Emits n ∷ all)
      (plain_next (Emits n) all (along_emits n) (plain_both (index_spots 0 is) (Indexed n (length is) ∷ last) (index_plain 0 is) more)))
  statement_body (If t a b) =
      let second = Enters ∷ (optional_spots b ++ Leaves ∷ []) in
      let first = Enters ∷ (block_spots a ++ Leaves ∷ second) in
      begun (term_spots t ++ first)
      (body_both (term_spots t) first (plain_body (term_spots t) (term_plain t))
      (block_whole (block_spots a) second (block_body a) (block_whole (optional_spots b) [] (optional_body b) (plain_body [] plain_none))))

  -- the spots of a block close what they open
  pub block_body : (b : Block) → IsBody (block_spots b)
  block_body End = plain_body [] plain_none
  block_body (Then c b) = body_both (statement_spots c) (block_spots b) (statement_body c) (block_body b)

  -- so do the spots of an `else`, or of none
  pub optional_body : (o : Optional) → IsBody (optional_spots o)
  optional_body Unwritten = plain_body [] plain_none
  optional_body (Written b) = block_body b
