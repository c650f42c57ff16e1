-- The streams of units, the newest first, and what the grammar sees to in each of them.
use Rattle.std.proofs.Common.{◌≡◌, ℕ, zero, suc, ℤ, ◌+◌, ◌*◌, ◌<◌, ◌≤◌, List, [], ◌∷◌, ◌++◌, length, map, take, get_or, true, false, refl, sym, ap, ◌∙◌, subst, arith}
use Rattle.std.specs.Prelude.{reverse, if◌then◌else◌}
use Rattle.std.proofs.lemmas.List.{take_more, map-append, reverse-append, length-map, length-take-le, get_or_default}
use Rattle.river_base.specs.Name.{name_eq}
use Rattle.river_plan.specs.Forms.{Name}
use Rattle.params_text.specs.Program.{UnitForm, ParamProgram, body_of, unit_form, unit_forms}
use Rattle.params_text.specs.declared.program.Unit as code_unit
use Rattle.params_text.specs.declared.program.ParamBody.{ParamBody}
use Rattle.params_text.specs.declared.program.ParamBody.TheVariants as body
use Rattle.params_text.specs.declared.program.Steps.{size-Steps}
use Rattle.params_model.specs.Environment.{bound}
use Rattle.params_model.specs.Judged.{head_or, tail_of, numbered_from, source_units}
use Rattle.params_model.specs.Making.{Made, make, instance}
use Rattle.params_front.specs.Standing.{sources, source_at, adding}
use Rattle.params_model.specs.Constants.{IsFitUnit, AreFitUnits}

-- NUMBERS AND BYTES

first-size : (sizes : List ℕ) → head_or sizes ≡ get_or sizes 0 0
first-size [] = refl
first-size (n ∷ ns) = refl

later-size : (sizes : List ℕ) (i : ℕ) → get_or (tail_of sizes) i 0 ≡ get_or sizes (suc i) 0
later-size [] i = refl
later-size (n ∷ ns) i = refl

numbered-more : (k : ℕ) (p : ParamProgram) (d : UnitForm) (sizes : List ℕ)
    → numbered_from k (p ++ d ∷ []) sizes ≡ numbered_from k p sizes ++ record { unit = k + length p; bytes = get_or sizes (length p) 0; stream = d } ∷ []
numbered-more k [] d sizes =
    ap (λ n. record { unit = k; bytes = n; stream = d } ∷ []) (first-size sizes)
    ∙ ap (λ n. record { unit = n; bytes = get_or sizes 0 0; stream = d } ∷ []) (let e : k ≡ k + 0 = omega arith in e)
numbered-more k (u ∷ p) d sizes =
    ap (λ l. record { unit = k; bytes = head_or sizes; stream = u } ∷ l)
    (numbered-more (suc k) p d (tail_of sizes)
    ∙ ap (λ n. numbered_from (suc k) p (tail_of sizes) ++ record { unit = suc k + length p; bytes = n; stream = d } ∷ []) (later-size sizes (length p))
    ∙ ap (λ n. numbered_from (suc k) p (tail_of sizes) ++ record { unit = n; bytes = get_or sizes (suc (length p)) 0; stream = d } ∷ [])
    (let e : suc k + length p ≡ k + suc (length p) = omega arith in e))

-- the streams of one unit more
pub sources-more : (us : List code_unit.Unit) (i : ℕ) (u : code_unit.Unit) (sizes : List ℕ) → i < length us → u ≡ get_or us i u
    → sources (take (i + 1) us) sizes ≡ source_at i sizes (unit_form u) ∷ sources (take i us) sizes
sources-more us i u sizes lt e =
    let p = map unit_form (take i us) in
    let d = unit_form u in
    let len : length p ≡ i = length-map (take i us) unit_form ∙ length-take-le i us (omega (arith, lt)) in
    ap (λ l. sources l sizes) (take_more us i u lt ∙ ap (λ x. take i us ++ x ∷ []) (sym e))
    ∙ ap (λ q. source_units q sizes) (map-append unit_form (take i us) (u ∷ []))
    ∙ ap reverse (numbered-more 1 p d sizes)
    ∙ reverse-append (numbered_from 1 p sizes) (record { unit = 1 + length p; bytes = get_or sizes (length p) 0; stream = d } ∷ [])
    ∙ ap (λ n. record { unit = n; bytes = get_or sizes (length p) 0; stream = d } ∷ sources (take i us) sizes)
    (let e : 1 + length p ≡ suc (length p) = omega arith in e)
    ∙ ap (λ n. source_at n sizes d ∷ sources (take i us) sizes) len

-- an instance of a stream of these is one of the last unit, or of a unit above it
pub adding-more : (us : List code_unit.Unit) (i : ℕ) (u : code_unit.Unit) (sizes : List ℕ) (depth : ℕ) (n : Name) (zs : List ℤ) (m : Made) → i < length us
    → u ≡ get_or us i u
    → adding (take (i + 1) us) sizes depth n zs m
    ≡ (if name_eq u.name n then make (adding (take i us) sizes (suc depth)) (source_at i sizes (unit_form u)) depth (bound u.params.items zs) m else adding
    (take i us) sizes depth n zs m)
adding-more us i u sizes depth n zs m lt e = ap (λ l. instance l depth n zs m) (sources-more us i u sizes lt e)

-- where the last unit has the name
pub found-at : (us : List code_unit.Unit) (i : ℕ) (u v : code_unit.Unit) (sizes : List ℕ) (depth : ℕ) (n : Name) (zs : List ℤ) (m : Made) → i < length us
    → v ≡ get_or us i v
    → name_eq v.name n ≡ true → u ≡ get_or us i u
    → adding (take (i + 1) us) sizes depth n zs m
    ≡ make (adding (take i us) sizes (suc depth)) (source_at i sizes (unit_form u)) depth (bound u.params.items zs) m
found-at us i u v sizes depth n zs m lt vis same_name uis =
    let same : v ≡ u = vis ∙ get_or_default us i v u lt ∙ sym uis in
    let named : name_eq u.name n ≡ true = sym (ap (λ (w : code_unit.Unit). name_eq w.name n) same) ∙ same_name in
    adding-more us i u sizes depth n zs m lt uis
    ∙ ap (λ b. if b then make (adding (take i us) sizes (suc depth)) (source_at i sizes (unit_form u)) depth (bound u.params.items zs) m else adding
    (take i us) sizes depth n zs m) named

-- where it has another
pub passed-at : (us : List code_unit.Unit) (i : ℕ) (v : code_unit.Unit) (sizes : List ℕ) (depth : ℕ) (n : Name) (zs : List ℤ) (m : Made) → i < length us
    → v ≡ get_or us i v
    → name_eq v.name n ≡ false → adding (take (i + 1) us) sizes depth n zs m ≡ adding (take i us) sizes depth n zs m
passed-at us i v sizes depth n zs m lt vis other =
    adding-more us i v sizes depth n zs m lt vis
    ∙ ap (λ b. if b then make (adding (take i us) sizes (suc depth)) (source_at i sizes (unit_form v)) depth (bound v.params.items zs) m else adding
    (take i us) sizes depth n zs m) other

-- VALUES

-- where the constants of every unit are values, so are those of the first units
pub values-above : (us : List code_unit.Unit) (i : ℕ) → AreFitUnits (unit_forms us) → AreFitUnits (unit_forms (take i us))
values-above us zero h = tt
values-above [] (suc i) h = tt
values-above (u ∷ us) (suc i) h = (h.0, values-above us i h.1)

values-there : (us : List code_unit.Unit) (i : ℕ) (d : code_unit.Unit) → i < length us → AreFitUnits (unit_forms us) → IsFitUnit (body_of (get_or us i d).body)
values-there [] i d lt h = absurd (omega (arith, lt))
values-there (u ∷ us) zero d lt h = h.0
values-there (u ∷ us) (suc i) d lt h = values-there us i d (omega (arith, lt)) h.1

-- where the constants of every unit are values, so are those of each one
pub values-at : (us : List code_unit.Unit) (i : ℕ) (u : code_unit.Unit) → i < length us → u ≡ get_or us i u → AreFitUnits (unit_forms us) → IsFitUnit (body_of u.body)
values-at us i u lt e h = subst (λ v. IsFitUnit (body_of v.body)) (sym e) (values-there us i u lt h)

-- HOW FAR THE MAKING CAN GO

-- the size of a body's steps; a filter has none
abbrev pub body_size : ParamBody → ℕ
body_size (body.Filter t) = 0
body_size (body.Pipeline ss) = size-Steps ss
body_size (body.SplitJoin b) = size-Steps b.steps

abbrev pub room_of : code_unit.Unit → ℕ
room_of u = body_size u.body * 8 + 16

-- the room for what the units make
abbrev pub room : List code_unit.Unit → ℕ
room [] = 0
room (u ∷ us) = room_of u + room us

room-there : (us : List code_unit.Unit) (i : ℕ) (d : code_unit.Unit) → i < length us → room (take i us) + room_of (get_or us i d) ≤ room us
room-there [] i d lt = absurd (omega (arith, lt))
room-there (u ∷ us) zero d lt = omega arith
room-there (u ∷ us) (suc i) d lt = let r = room-there us i d (omega (arith, lt)) in omega (arith, r)

-- the units before one, and that one, need no more room than all
pub room-at : (us : List code_unit.Unit) (i : ℕ) (u : code_unit.Unit) → i < length us → u ≡ get_or us i u → room (take i us) + (body_size u.body * 8 + 16) ≤ room us
room-at us i u lt e = subst (λ v. room (take i us) + room_of v ≤ room us) (sym e) (room-there us i u lt)
