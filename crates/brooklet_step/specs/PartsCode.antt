-- A code by which proofs tell apart what machines keep.
use Rattle.std.specs.Coded.{Coded}
use Rattle.brooklet_step.specs.declared.parts.MachineState.{MachineState}
use Rattle.brooklet_step.specs.contracts.parts.MachineState as parts

abbrev pub parts_code : Coded MachineState
parts_code = parts.the_row.coded
