-- `segments::needs_segment` meets its contract: up to 24 no prefix needs a segment, and of a longer one the cell decides. Assumes nothing.
use mathlib.Core.Path.{sym, ap, ◌∙◌}
use mathlib.Core.Bool.{Bool, not, ◌&&◌}
use native.Mathlib.Omega.{arith}
use Rattle.ground.proofs.Tests.{ltb?, passes, stops}
use Rattle.prefix.specs.Geometry.{width}
use Rattle.cells.specs.Cells.{is_pointer}
use Rattle.cells.proofs.segments.needs_segment.Goals as goal

pub returns-then-length-le-WIDTH : goal.returns-then-length-le-WIDTH
returns-then-length-le-WIDTH c =
    let s = c.args in
    sym (ap (λ (b : Bool). b && not (is_pointer s.cell)) (stops (ltb? width s.length) (λ h. omega arith)))

pub returns : goal.returns
returns c =
    let s = c.args in
    ap not c.is_pointer.ensures ∙ sym (ap (λ (b : Bool). b && not (is_pointer s.cell)) (passes (ltb? width s.length) (omega arith)))
