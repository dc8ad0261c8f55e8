-- The numbers of opened files, as contracts see them.
use Rattle.std.specs.Prelude.{Result, Ok, Err, List, ◌++◌, Vec}
use Rattle.std.specs.declared.alloc.Global.{Global}
use Rattle.morsel_outside.specs.declared.io.FileNo.{FileNo}
use Rattle.morsel_engine.specs.declared.outside.SideFiles.{SideFiles}

-- a vector of numbers seen as its list
abbrev pub numbers_seen : {E : Type 0} → Result (Vec FileNo Global) E → Result (List FileNo) E
numbers_seen (Ok files) = Ok files.items
numbers_seen (Err e) = Err e

-- those of the left side and then those of the right one
abbrev pub numbers_of_sides : {E : Type 0} → Result SideFiles E → Result (List FileNo) E
numbers_of_sides (Ok files) = Ok (files.left.items ++ files.right.items)
numbers_of_sides (Err e) = Err e
