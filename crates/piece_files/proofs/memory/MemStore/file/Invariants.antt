use Rattle.std.proofs.Common.{◌≡◌, drop}
use Rattle.river_outside.specs.Files.{lookup}
use Rattle.piece_files.proofs.memory.MemStore.file.Given as goal

abbrev pub invariant-loop-file : goal.invariant-loop-file
invariant-loop-file l = lookup (drop l.file-index l.file-items) l.name ≡ lookup l.self.files.items l.name
