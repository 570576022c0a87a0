use Rattle.std.proofs.Common.{◌≡◌, drop}
use Rattle.bt_io.specs.Memory.{file_named, files_in}
use Rattle.bt_io.proofs.mem_shelf.place_of.Given as goal

abbrev pub invariant-loop-i : goal.invariant-loop-i
invariant-loop-i l = file_named (files_in l.files) l.name ≡ file_named (files_in (drop l.i l.files)) l.name
