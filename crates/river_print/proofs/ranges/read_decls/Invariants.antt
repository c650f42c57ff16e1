use Rattle.std.proofs.Common.{drop}
use Rattle.river_print.specs.Writable.{Every, IsWritableDecl}
use Rattle.river_print.proofs.ranges.read_decls.Given as goal

abbrev pub invariant-loop-decl : goal.invariant-loop-decl
invariant-loop-decl l = Every IsWritableDecl (drop l.decl-index l.decls) → Every IsWritableDecl (l.decls)
