-- `shared` meets its contract: the leading zeros of the exclusive or are the bits that the two share, and the limit may allow fewer.
-- Assumes nothing.
use native.Mathlib.Omega.{arith}
use Rattle.runs.proofs.SharedBits.{agree_to, apart_from}
use Rattle.runs.proofs.shared.Goals as goal

pub returns : goal.returns
returns c =
    let a = c.args in
    record {
      below = omega arith;
      agree = agree_to a.address a.other c.ranges.address.fits c.ranges.other.fits _ (omega arith);
      largest = λ k low high. apart_from a.address a.other c.ranges.address.fits c.ranges.other.fits k (omega arith) (omega arith);
    }
