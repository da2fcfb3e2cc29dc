-- `blocks::stretch` meets its contract: up to the block of the rule at the cursor, or to the end, no rule's address lies. Assumes nothing.
use native.Mathlib.Omega.{arith}
use Rattle.rules.proofs.Cursor.{stretch_to}
use Rattle.rules.proofs.AllLive.{ordered_listed}
use Rattle.rules.proofs.live.Live.stretch.Goals as goal

pub returns-then-at-self : goal.returns-then-at-self
returns-then-at-self c =
    stretch_to c.args.left (ordered_listed c.args.self.ordered) c.requires (omega arith) (λ l. absurd (omega arith))

pub overflow_sub-ahead : goal.overflow_sub-ahead
overflow_sub-ahead c = omega (arith, c.requires.above c.args.at (omega arith) (omega arith))

pub returns : goal.returns
returns c =
    stretch_to c.min.result (ordered_listed c.args.self.ordered) c.requires (omega arith) (λ l. omega (arith, c.requires.above c.args.at (omega arith) l))
