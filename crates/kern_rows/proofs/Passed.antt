-- Items pass a joiner, one after another.
use Rattle.std.proofs.Common.{◌≡◌, ℕ, zero, suc, ◌+◌, ◌<◌, ◌≤◌, Option, Some, None, List, [], ◌∷◌, ◌++◌, length, take, get_or, nat_lt, refl, sym, ap, ◌∙◌}
use Rattle.std.proofs.Common.{subst, arith, append_assoc, ⊎_elim}
use Rattle.std.specs.Prelude.{if◌then◌else◌, slice_index_or}
use Rattle.std.specs.List.{AllByRecursion}
use Rattle.std.proofs.Math.Nat.{le_refl}
use Rattle.std.proofs.lemmas.Bool.{cases_lt}
use Rattle.std.proofs.lemmas.List.{append-nil}
use Rattle.std.proofs.Math.Seq.{take-append-add}
use Rattle.river_base.specs.declared.item.Item as item
use Rattle.river_base.specs.Drain.{drain, pass_on}
use Rattle.river_base.specs.Grew.{GrewByPrefix}
use Rattle.river_base.proofs.PlaceLemmas.{if_lt, if_ge, length-append_at}
use Rattle.kern_rows.specs.Needs.{HaveShares, IsJoiner}
use Rattle.kern_rows.specs.Passing.{PassesFront, IsStuck, passed_by}
use Rattle.kern_rows.specs.Turns.{Turns, IsTurn, next_port, next_had, front_in, front_at, rest_in, rest_at, front_of, passed, waiting, put, settled, ones}

-- what passed so far, and what passes after it, is what passes from the start
pub record SoFar (give : item.Item → List item.Item) (ws : List ℕ) (start now : Turns) (out out' : List item.Item) : Type 0 where
  pub given : List item.Item
  pub grew : out' ≡ out ++ given
  pub all : given ++ (settled give ws now).0 ≡ (settled give ws start).0
  pub last : (settled give ws now).1 ≡ (settled give ws start).1
  pub joined : IsJoiner ws now

-- WHAT IS IN FRONT

-- the front at a port that has items
pub front_is : (give : item.Item → List item.Item) (ls : List (List item.Item)) (p : ℕ) (x : item.Item) (xs : List item.Item) → p < length ls
    → get_or ls p [] ≡ x ∷ xs → front_at give ls p ≡ Some (give x)
front_is give [] p x xs lt h = absurd (omega (arith, lt))
front_is give (l ∷ ls) zero x xs lt h = ap (front_in give) h
front_is give (l ∷ ls) (suc p) x xs lt h = front_is give ls p x xs (omega arith) h

-- there is none where no item is
pub front_none : (give : item.Item → List item.Item) (ls : List (List item.Item)) (p : ℕ) → get_or ls p [] ≡ [] → front_at give ls p ≡ None
front_none give [] p h = refl
front_none give (l ∷ ls) zero h = ap (front_in give) h
front_none give (l ∷ ls) (suc p) h = front_none give ls p h

pub less_in : (give : item.Item → List item.Item) (l : List item.Item) (o : List item.Item) → front_in give l ≡ Some o → length (rest_in l) < length l
less_in give [] o h = absurd (cc h)
less_in give (x ∷ xs) o h = omega arith

-- where an item is passed on, fewer wait
pub less_at : (give : item.Item → List item.Item) (ls : List (List item.Item)) (p : ℕ) (o : List item.Item) → front_at give ls p ≡ Some o
    → waiting (rest_at ls p) < waiting ls
less_at give [] p o h = absurd (cc h)
less_at give (l ∷ ls) zero o h = let e = less_in give l o h in omega arith
less_at give (l ∷ ls) (suc p) o h = let e = less_at give ls p o h in omega arith

stuck_in : (give : item.Item → List item.Item) (l : List item.Item) → length l ≡ 0 → front_in give l ≡ None
stuck_in give [] h = refl
stuck_in give (x ∷ xs) h = absurd (omega (arith, h))

-- where nothing waits, nothing is passed on
pub stuck_at : (give : item.Item → List item.Item) (ls : List (List item.Item)) (p : ℕ) → waiting ls ≡ 0 → front_at give ls p ≡ None
stuck_at give [] p h = refl
stuck_at give (l ∷ ls) zero h = stuck_in give l (omega (arith, h))
stuck_at give (l ∷ ls) (suc p) h = stuck_at give ls p (omega arith)

-- there are as many lists after an item has passed
pub length-rest_at : (ls : List (List item.Item)) (p : ℕ) → length (rest_at ls p) ≡ length ls
length-rest_at [] p = refl
length-rest_at (l ∷ ls) zero = refl
length-rest_at (l ∷ ls) (suc p) = ap suc (length-rest_at ls p)

-- THE NEXT TURN

share_at : (ws : List ℕ) (p : ℕ) → AllByRecursion (λ w. 0 < w) ws → p < length ws → 0 < slice_index_or ws p 0
share_at [] p h lt = absurd (omega (arith, lt))
share_at (w ∷ ws) zero h lt = h.0
share_at (w ∷ ws) (suc p) h lt = share_at ws p h.1 (omega arith)

-- a turn stays one where its numbers are written in another way
pub turn_by : (ws : List ℕ) (p q p' q' : ℕ) → p ≡ p' → q ≡ q' → IsTurn ws p' q' → IsTurn ws p q
turn_by ws p q p' q' e f h = rw (e, f) h

pub next_turn : (ws : List ℕ) (port had : ℕ) → HaveShares ws → IsTurn ws port had → IsTurn ws (next_port ws port had) (next_had ws port had)
next_turn ws port had all h =
    let other : ℕ = if nat_lt (port + 1) (length ws) then port + 1 else 0 in
    ⊎_elim
    (λ lt. turn_by ws _ _ port (had + 1) (if_lt (had + 1) (slice_index_or ws port 0) port other lt) (if_lt (had + 1) (slice_index_or ws port 0) (had + 1) 0 lt)
    (h.0, lt))
    (λ ge. turn_by ws _ _ other 0 (if_ge (had + 1) (slice_index_or ws port 0) port other ge) (if_ge (had + 1) (slice_index_or ws port 0) (had + 1) 0 ge) (⊎_elim
    (λ lt. turn_by ws other 0 (port + 1) 0 (if_lt (port + 1) (length ws) (port + 1) 0 lt) refl (lt, share_at ws (port + 1) all.1 lt))
    (λ le. turn_by ws other 0 0 0 (if_ge (port + 1) (length ws) (port + 1) 0 le) refl (all.0, share_at ws 0 all.1 all.0))
    (cases_lt (port + 1) (length ws))))
    (cases_lt (had + 1) (slice_index_or ws port 0))

passed_is : (ws : List ℕ) (s : Turns) → length s.lists ≡ length ws → passed_by (slice_index_or ws s.port 0) s ≡ passed ws s
passed_is ws s e =
    ap (λ n. record (passed ws s) {
      port =
          if nat_lt (s.had + 1) (slice_index_or ws s.port 0) then s.port else (if nat_lt (s.port + 1) n then s.port + 1 else 0);
    }) e

-- a joiner that an item comes to keeps its shape
pub joined_put : (ws : List ℕ) (p : ℕ) (x : item.Item) (s : Turns) → IsJoiner ws s → IsJoiner ws (put p x s)
joined_put ws p x s j = record { turn = j.turn; lists = length-append_at s.lists p (x ∷ []) ∙ j.lists }

-- PASSING WHAT CAN PASS

module _ (give : item.Item → List item.Item) (ws : List ℕ) where
  drain_none : (n : ℕ) (s : Turns) → front_of give s ≡ None → drain (front_of give) (passed ws) n s ≡ ([], s)
  drain_none zero s e = refl
  drain_none (suc n) s e = ap (pass_on (passed ws) s (drain (front_of give) (passed ws) n)) e

  drain_some : (n : ℕ) (s : Turns) (o : List item.Item) → front_of give s ≡ Some o
      → drain (front_of give) (passed ws) (suc n) s ≡
      (o ++ (drain (front_of give) (passed ws) n (passed ws s)).0, (drain (front_of give) (passed ws) n (passed ws s)).1)
  drain_some n s o e = ap (pass_on (passed ws) s (drain (front_of give) (passed ws) n)) e

  front_cases : {B : Type 0} (s : Turns) → (front_of give s ≡ None → B) → ((o : List item.Item) → front_of give s ≡ Some o → B) → B
  front_cases {B} s on_none on_some = go (front_of give s) refl
    where
      go : (o : Option (List item.Item)) → front_of give s ≡ o → B
      go None e = on_none e
      go (Some o) e = on_some o e

  -- more turns than items change nothing
  enough : (n m : ℕ) (s : Turns) → waiting s.lists ≤ n → waiting s.lists ≤ m → drain (front_of give) (passed ws) n s ≡ drain (front_of give) (passed ws) m s
  enough zero m s hn hm = sym (drain_none m s (stuck_at give s.lists s.port (omega arith)))
  enough (suc n) zero s hn hm = drain_none (suc n) s (stuck_at give s.lists s.port (omega arith))
  enough (suc n) (suc m) s hn hm =
      front_cases s
      (λ e. drain_none (suc n) s e ∙ sym (drain_none (suc m) s e))
      (λ o e.
      let l = less_at give s.lists s.port o e in
      drain_some n s o e ∙ ap (λ d. (o ++ d.0, d.1)) (enough n m (passed ws s) (omega (arith, l)) (omega (arith, l))) ∙ sym (drain_some m s o e))

  settled_some : (s : Turns) (o : List item.Item) → front_of give s ≡ Some o
      → settled give ws s ≡ (o ++ (settled give ws (passed ws s)).0, (settled give ws (passed ws s)).1)
  settled_some s o h =
      let l = less_at give s.lists s.port o h in
      enough (waiting s.lists) (suc (waiting s.lists)) s (le_refl (waiting s.lists)) (omega arith)
      ∙ drain_some (waiting s.lists) s o h
      ∙ ap (λ d. (o ++ d.0, d.1))
      (enough (waiting s.lists) (waiting (rest_at s.lists s.port)) (passed ws s) (omega (arith, l)) (le_refl (waiting (rest_at s.lists s.port))))

  -- at the start nothing has passed
  pub so_far_start : (s : Turns) (out : List item.Item) → IsJoiner ws s → SoFar give ws s s out out
  so_far_start s out j = record { given = []; grew = sym (append-nil out); all = refl; last = refl; joined = j }

  -- an item passes next: it and what passes after it is what is left
  pub so_far_next : (start now next : Turns) (out out' : List item.Item) (x : item.Item) (f : SoFar give ws start now out out')
      → PassesFront (slice_index_or ws now.port 0) now next x → f.given ++ (give x ++ (settled give ws (passed ws now)).0) ≡ (settled give ws start).0
  so_far_next start now next out out' x f p = ap (λ d. f.given ++ d.0) (sym (settled_some now (give x) (p.front give))) ∙ f.all

  -- one item more has passed
  pub so_far_step : (start now next : Turns) (out out' out'' : List item.Item) (x : item.Item) → HaveShares ws → SoFar give ws start now out out'
      → PassesFront (slice_index_or ws now.port 0) now next x → out'' ≡ out' ++ give x → SoFar give ws start next out out''
  so_far_step start now next out out' out'' x shares f p g =
      let n : next ≡ passed ws now = p.after ∙ passed_is ws now f.joined.lists in
      let e = settled_some now (give x) (p.front give) in
      subst (λ s. SoFar give ws start s out out'') (sym n) (record {
        given = f.given ++ give x;
        grew = g ∙ ap (λ o. o ++ give x) f.grew ∙ append_assoc out f.given (give x);
        all = append_assoc f.given (give x) (settled give ws (passed ws now)).0 ∙ so_far_next start now next out out' x f p;
        last = ap (λ d. d.1) (sym e) ∙ f.last;
        joined = record { turn = next_turn ws now.port now.had shares f.joined.turn; lists = length-rest_at now.lists now.port ∙ f.joined.lists };
      })

  -- and one item less waits
  pub so_far_less : (start now next : Turns) (out out' : List item.Item) (x : item.Item) → SoFar give ws start now out out'
      → PassesFront (slice_index_or ws now.port 0) now next x → waiting next.lists < waiting now.lists
  so_far_less start now next out out' x f p =
      let e = ap (λ s. waiting s.lists) p.after in
      let l = less_at give now.lists now.port (give x) (p.front give) in
      omega (arith, e, l)

  -- where the lists are stuck, what has passed is what settles
  pub so_far_end : (start now last : Turns) (out out' : List item.Item) → SoFar give ws start now out out' → IsStuck now last
      → (out' ≡ out ++ (settled give ws start).0) × (last ≡ (settled give ws start).1)
  so_far_end start now last out out' f h =
      let e : settled give ws now ≡ ([], now) = drain_none (waiting now.lists) now (h.front give) in
      let g : f.given ≡ (settled give ws start).0 = sym (append-nil f.given) ∙ ap (λ d. f.given ++ d.0) (sym e) ∙ f.all in
      (f.grew ∙ ap (λ t. out ++ t) g, h.same ∙ ap (λ d. d.1) (sym e) ∙ f.last)

prefix_is : (a b : List item.Item) (n : ℕ) → take (length (take n a)) (a ++ b) ≡ take n a
prefix_is a b zero = refl
prefix_is [] b (suc n) = refl
prefix_is (x ∷ xs) b (suc n) = ap (λ t. x ∷ t) (prefix_is xs b n)

-- a part of b was appended behind a: a part of all was
pub grew_on : (out a b more all out' out'' : List item.Item) → out' ≡ out ++ a → all ≡ a ++ (b ++ more) → GrewByPrefix out' b out'' → GrewByPrefix out all out''
grew_on out a b more all out' out'' e f g =
    let m = length (take g.n b) in
    record {
      n = length a + m;
      is =
          g.is
          ∙ ap (λ o. o ++ take g.n b) e
          ∙ append_assoc out a (take g.n b)
          ∙ ap (λ t. out ++ t) (sym (take-append-add a (b ++ more) m ∙ ap (λ t. a ++ t) (prefix_is b more g.n)))
          ∙ ap (λ t. out ++ take (length a + m) t) (sym f);
    }

-- nothing was appended
pub grew_by_none : {X : Type 0} (old new all : List X) → new ≡ old → GrewByPrefix old all new
grew_by_none old new all e = record { n = 0; is = e ∙ sym (append-nil old) }

-- each of n ports has one item in its turn
pub one_at : (n p : ℕ) → p < length (ones n) → slice_index_or (ones n) p 0 ≡ 1
one_at zero p h = absurd (omega (arith, h))
one_at (suc n) zero h = refl
one_at (suc n) (suc p) h = one_at n p (omega arith)

are_ones : (n : ℕ) → AllByRecursion (λ w. 0 < w) (ones n)
are_ones zero = tt
are_ones (suc n) = (omega arith, are_ones n)

-- weights of 1 are above 0
pub ones_shares : (n : ℕ) → 0 < n → HaveShares (ones n)
ones_shares zero h = absurd (omega (arith, h))
ones_shares (suc n) h = (omega arith, are_ones (suc n))
