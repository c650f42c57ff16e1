use Rattle.std.proofs.Common.{refl}
use Rattle.piece_work.proofs.reading.read_file.Goals as goal

pub returns-in-Err-Absent-clause-unread : goal.returns-in-Err-Absent-clause-unread
returns-in-Err-Absent-clause-unread g c = (rw c.in-Err-Absent.field-0-is at c.in-Err-Absent.ensures.absent) refl

pub returns-in-Err-Failed-clause-unread : goal.returns-in-Err-Failed-clause-unread
returns-in-Err-Failed-clause-unread g c = (rw c.in-Err-Failed.field-0-is at c.in-Err-Failed.ensures.failed) refl

pub returns-in-Err-Large-clause-unread : goal.returns-in-Err-Large-clause-unread
returns-in-Err-Large-clause-unread g c = (rw c.in-Err-Large.field-0-is at c.in-Err-Large.ensures.large) refl
