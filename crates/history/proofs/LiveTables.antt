-- The tables of a live list: what a history leaves in the two tables and the owner words. Assumes nothing.
use mathlib.Core.List.{List}
use Rattle.prefix.specs.declared.Prefix.{Prefix}
use Rattle.prefix.specs.Geometry.{block_start}
use Rattle.prefix.specs.Price.{is_open}
use Rattle.prefix.specs.declared.Route.{Route}
use Rattle.prefix.specs.Routes.{best}
use Rattle.cells.specs.Cells.{cell_of}
use Rattle.cells.specs.Memory.{Tables}
use Rattle.history.proofs.Holding.{Holds}

-- open blocks are those in which a live prefix longer than 24 lies, and the cell of an address is that of its longest match
abbrev pub TablesOf : Prefix → List Route → Tables → Type 0
TablesOf t rs T = Holds t (λ k. is_open rs (block_start t k)) (λ a. cell_of (best rs a)) T
