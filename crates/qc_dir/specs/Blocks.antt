-- Up to eight tables, each with its block.
use Rattle.std.specs.Prelude.{◌-◌, List, ◌++◌, map, length, Option, Some, None, replicate}
use Rattle.qc_dir.specs.declared.tables.TableBlock.{TableBlock}

-- the places of a list of at most eight members: the members first, and then none for each free place
abbrev pub places_of : List TableBlock → List (Option TableBlock)
places_of members = map (λ m. Some m) members ++ replicate (8 - length members) None
