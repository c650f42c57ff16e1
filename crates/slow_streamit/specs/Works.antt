-- The streams of a program that are declared before one.
use Rattle.std.specs.Prelude.{◌≡◌, ◌<◌, ℕ, ℤ, List, [], length, take, Option, Some, None, slice_get}
use Rattle.river_plan.specs.Forms.{Name}
use Rattle.streamit_model.specs.Meaning.{Works, look, all_work, body_works, branched, share_of, branch_count}
use Rattle.streamit_text.specs.declared.program.Unit as code_unit
use Rattle.streamit_text.specs.Program.{Adds, Dealing, body_of, unit_forms}

-- what they do, by their names, the newest first
abbrev pub works_of : List code_unit.Unit → List (Name × Works)
works_of us = all_work [] (unit_forms us)

-- what the branches between a splitter and a joiner give
abbrev pub branch_works : List code_unit.Unit → Dealing → Adds → List ℤ → List (List ℤ)
branch_works us d a xs = branched (works_of us) a.first a.others (λ p. share_of d (branch_count a) p xs)

-- where the newest stream of a name stands, and what it does; or there is none
abbrev pub IsNewestPlace : List code_unit.Unit → Name → Option ℕ → Type 0
IsNewestPlace us n None = look (works_of us) n ≡ None
IsNewestPlace us n (Some i) =
    (i < length us)
    × ((d : code_unit.Unit) → slice_get us i ≡ Some d → look (works_of us) n ≡ Some (body_works (works_of (take i us)) (body_of d.body)))
