use Rattle.std.proofs.Common.{rules, arith, ◌≡◌, ◌-◌, suc, length, sym, ap, ◌∙◌, pos, get_or, w64}
use mir.Val.{SFits}
use Rattle.std.proofs.lemmas.Bool.Decides.{nat_tests}
use Rattle.std.proofs.lemmas.Int.{to_z-of_z}
use Rattle.csv_streams.specs.Timed.{stamp_after}
use Rattle.csv_streams.proofs.TimedIn.{stamp_last}
use Rattle.csv_streams.proofs.timed.last_stamp.Goals as goal

pub returns : goal.returns
returns c =
    let rows = c.as_slice-rows.result.now in
    let last = length rows - 1 in
    let d = c.index-rows-rows.result in
    let fits : SFits w64 (get_or rows last d).0 = search rules in
    let some : length rows ≡ suc last = grind (arith, nat_tests, c.is_empty.ensures, c.if-is_empty.false) in
    to_z-of_z w64 (get_or rows last d).0 fits ∙ sym (stamp_last (pos 0) rows last d some) ∙ ap (stamp_after (pos 0)) c.as_slice-rows.ensures
