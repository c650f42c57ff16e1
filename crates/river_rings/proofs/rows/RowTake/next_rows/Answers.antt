use Rattle.std.proofs.Common.{rules, ◌≡◌, ◌-◌, ◌%◌, ◌<◌, ◌≤◌, ℕ, ℤ, List, ◌++◌, length, take, drop, ap, sym, ◌∙◌, subst, arith, length-append}
use Rattle.std.proofs.lemmas.List.{take_at}
use Rattle.rtrb.specs.Ring.{known_items, received}
use Rattle.river_rings.specs.Ends.{Taking}
use Rattle.river_rings.specs.Rows.{AreWhole, rows_in}
use Rattle.river_rings.proofs.RowLemmas.{front_some, front_whole, rows-more, values_some, whole_both}
use Rattle.river_rings.proofs.rows.RowTake.next_rows.Goals as goal

pub invariant_of-self : goal.invariant_of-self
invariant_of-self c =
    let w = c.self.inside.width in
    let row = c.next_values.new.row in
    let n = c.min-most.result in
    let l : length row ≡ n - n % w = search rules in
    whole_both w (received c.self.inside.end) row (received c.next_values.new.end) c.self.invariant
    (front_whole w n row c.self.invariant.some c.self.invariant.at_most l)
    (c.next_values.ensures.received ∙ ap (λ vs. vs ++ row) c.slots-there.ensures.looked.1)

pub returns-clause-some : goal.returns-clause-some
returns-clause-some c =
    let w = c.self.inside.width in
    let vs = known_items c.self.inside.end in
    let there = values_some w vs c.self.invariant.some (subst (λ (t : Taking). 0 < length t.known) (sym c.self.view_is) c.requires.known) in
    let room : w ≤ length c.args.rows.now = subst (λ (t : Taking). t.id.width ≤ length c.args.rows.now) (sym c.self.view_is) c.requires.room in
    let more = c.slots-there.ensures.looked.2 in
    let long = length-append vs more.0 in
    let all = ap length more.1 in
    let value = c.slots-there.ensures.value in
    let least = c.min-most.ensures in
    front_some w c.min-most.result c.self.invariant.some (omega (arith, there, room, long, all, value, least))

pub returns-clause-whole : goal.returns-clause-whole
returns-clause-whole c =
    let w = c.self.inside.width in
    let row = c.next_values.new.row in
    let n = c.min-most.result in
    let l : length row ≡ n - n % w = search rules in
    let same : w ≡ c.args.self.now.id.width = ap (λ (t : Taking). t.id.width) c.self.view_is in
    subst (λ (vs : List ℤ). AreWhole c.args.self.now.id.width vs) (sym (take_at row (drop (n - n % w) c.args.rows.now) (n - n % w) l))
    (subst (λ k. AreWhole k row) same (front_whole w n row c.self.invariant.some c.self.invariant.at_most l))

pub returns-clause-received : goal.returns-clause-received
returns-clause-received c =
    let w = c.self.inside.width in
    let row = c.next_values.new.row in
    let n = c.min-most.result in
    let l : length row ≡ n - n % w = search rules in
    let same : w ≡ c.args.self.now.id.width = ap (λ (t : Taking). t.id.width) c.self.view_is in
    rows-more w (received c.self.inside.end) row (received c.next_values.new.end) c.self.invariant
    (c.next_values.ensures.received ∙ ap (λ vs. vs ++ row) c.slots-there.ensures.looked.1)
    ∙ ap (λ (t : Taking). t.received ++ rows_in w row) c.self.view_is
    ∙ ap (λ k. c.args.self.now.received ++ rows_in k row) same
    ∙ ap (λ vs. c.args.self.now.received ++ rows_in c.args.self.now.id.width vs) (sym (take_at row (drop (n - n % w) c.args.rows.now) (n - n % w) l))
