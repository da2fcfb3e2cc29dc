-- `go_on` meets its contract: up to its end the run that is kept still holds. By arithmetic, so that a wrong test is refused with numbers.
-- Assumes nothing.
use native.Mathlib.Omega.{arith}
use borrow.Author.Rules.{rules}
use Rattle.unpaint.proofs.Withdrawal.go_on.Goals as goal

pub returns-else-run-address : goal.returns-else-run-address
returns-else-run-address c = record { past = omega arith; kept = search rules }
