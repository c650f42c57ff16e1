-- Verdicts over files that are told.
use Rattle.std.proofs.Common.{◌≡◌, ℕ, List, length, Bool, true, false, refl, sym, nat_lt, cond, inl, inr}
use Rattle.std.specs.Prelude.{Option, None, Some, MatchOption}
use Rattle.std.specs.Bool.{MatchBool}
use Rattle.river_outside.specs.Held.{Held}
use Rattle.river_outside.specs.Order.{Order, Ends, Fetch, Verdict, Refused, Unread, EndsIn, ReachesFetch, end_of, IsVerdict, IsFetchTurn, verdict}

-- a fetch and what comes after it
fetched : (h : Held) (name : List ℕ) (limit : ℕ) (large : List ℕ) (next : List ℕ → Order) (v : Verdict) (given : Option (List ℕ)) → h name ≡ given
    → MatchOption given (v ≡ Unread name) (λ bytes. MatchBool (nat_lt limit (length bytes)) (v ≡ Refused large) (EndsIn (next bytes) (Some h) v))
    → ((bytes : List ℕ) → EndsIn (next bytes) (Some h) v → end_of (next bytes) h ≡ v) → end_of (Fetch name limit large next) h ≡ v
fetched h name limit large next v None is then later = rw (is, end_of) (sym then)
fetched h name limit large next v (Some bytes) is then later = rw (is, end_of) (within (nat_lt limit (length bytes)) then)
  where
    within : (b : Bool) → MatchBool b (v ≡ Refused large) (EndsIn (next bytes) (Some h) v) → cond b (Refused large) (end_of (next bytes) h) ≡ v
    within true then = sym then
    within false then = later bytes then

end-told : (order : Order) (h : Held) (v : Verdict) → EndsIn order (Some h) v → end_of order h ≡ v
end-told (Ends w) h v e = sym e
end-told (Fetch name limit large next) h v e = fetched h name limit large next v e.0 e.1 e.2 (λ bytes later. end-told (next bytes) h v later)

-- there is one verdict
pub verdict-told : (points : Option Order) (h : Held) (v : Verdict) → IsVerdict points (Some h) v → verdict points h ≡ v
verdict-told None h v e = sym e
verdict-told (Some order) h v e = end-told order h v e

-- the end that is computed is one
ended : (h : Held) (name : List ℕ) (limit : ℕ) (large : List ℕ) (next : List ℕ → Order) (given : Option (List ℕ)) → h name ≡ given
    → ((bytes : List ℕ) → EndsIn (next bytes) (Some h) (end_of (next bytes) h))
    → EndsIn (Fetch name limit large next) (Some h) (end_of (Fetch name limit large next) h)
ended h name limit large next None is later = (None, is, rw (is, end_of) refl)
ended h name limit large next (Some bytes) is later = (Some bytes, is, rw (is, end_of) (within (nat_lt limit (length bytes))))
  where
    within : (b : Bool)
        → MatchBool b (cond b (Refused large) (end_of (next bytes) h) ≡ Refused large)
        (EndsIn (next bytes) (Some h) (cond b (Refused large) (end_of (next bytes) h)))
    within true = refl
    within false = later bytes

end-is : (order : Order) (h : Held) → EndsIn order (Some h) (end_of order h)
end-is (Ends v) h = refl
end-is (Fetch name limit large next) h = ended h name limit large next (h name) refl (λ bytes. end-is (next bytes) h)

-- the verdict is one
pub verdict-is : (points : Option Order) (h : Held) → IsVerdict points (Some h) (verdict points h)
verdict-is None h = refl
verdict-is (Some order) h = end-is order h

-- what is said over files that are told may be said where they are not
given_untold : (h : Held) (limit : ℕ) (large name : List ℕ) (next : List ℕ → Order) (v : Verdict) (given : Option (List ℕ))
    → ((bytes : List ℕ) → EndsIn (next bytes) (Some h) v → EndsIn (next bytes) None v)
    → MatchOption given (v ≡ Unread name) (λ bytes. MatchBool (nat_lt limit (length bytes)) (v ≡ Refused large) (EndsIn (next bytes) (Some h) v))
    → MatchOption given (v ≡ Unread name) (λ bytes. MatchBool (nat_lt limit (length bytes)) (v ≡ Refused large) (EndsIn (next bytes) None v))
given_untold h limit large name next v None later then = then
given_untold h limit large name next v (Some bytes) later then = within (nat_lt limit (length bytes)) then
  where
    within : (b : Bool) → MatchBool b (v ≡ Refused large) (EndsIn (next bytes) (Some h) v) → MatchBool b (v ≡ Refused large) (EndsIn (next bytes) None v)
    within true then = then
    within false then = later bytes then

end-untold : (order : Order) (h : Held) (v : Verdict) → EndsIn order (Some h) v → EndsIn order None v
end-untold (Ends w) h v e = e
end-untold (Fetch name limit large next) h v e = (e.0, tt, given_untold h limit large name next v e.0 (λ bytes then. end-untold (next bytes) h v then) e.2)

-- a verdict may be said where files are not told
pub verdict-untold : (points : Option Order) (h : Held) (v : Verdict) → IsVerdict points (Some h) v → IsVerdict points None v
verdict-untold None h v e = e
verdict-untold (Some order) h v e = end-untold order h v e

-- files that are the same at each turn have the same end
same_fetch : (h k : Held) (name : List ℕ) (limit : ℕ) (large : List ℕ) (next : List ℕ → Order) (given : Option (List ℕ)) → h name ≡ given → k name ≡ given
    → ((bytes : List ℕ) → h name ≡ Some bytes → nat_lt limit (length bytes) ≡ false → end_of (next bytes) h ≡ end_of (next bytes) k)
    → end_of (Fetch name limit large next) h ≡ end_of (Fetch name limit large next) k
same_fetch h k name limit large next None is also later = rw (is, also, end_of) refl
same_fetch h k name limit large next (Some bytes) is also later = rw (is, also, end_of) (within (nat_lt limit (length bytes)) (later bytes is))
  where
    within : (b : Bool) → (b ≡ false → end_of (next bytes) h ≡ end_of (next bytes) k)
        → cond b (Refused large) (end_of (next bytes) h) ≡ cond b (Refused large) (end_of (next bytes) k)
    within true later = refl
    within false later = later refl

end-same : (order : Order) (h k : Held) → ((file : List ℕ) → ReachesFetch order (Some h) file → h file ≡ k file) → end_of order h ≡ end_of order k
end-same (Ends v) h k same = refl
end-same (Fetch name limit large next) h k same =
    same_fetch h k name limit large next (h name) refl (sym (same name (inl refl)))
    (λ bytes is le. end-same (next bytes) h k (λ file turn. same file (inr (bytes, is, le, turn))))

-- only files whose turn comes matter
pub verdict-same : (points : Option Order) (h k : Held) → ((file : List ℕ) → IsFetchTurn points (Some h) file → h file ≡ k file)
    → verdict points h ≡ verdict points k
verdict-same None h k same = refl
verdict-same (Some order) h k same = end-same order h k same
