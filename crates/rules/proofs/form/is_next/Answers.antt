-- `form::is_next` meets its contract: below `low` the answer is no, and from there it is that of `is_rule`. Assumes nothing.
use native.Mathlib.Omega.{arith}
use borrow.Author.Tests.{le-leb, lt-leb}
use Rattle.rules.specs.Words.{prefix_of, key_of}
use Rattle.rules.proofs.form.is_next.Goals as goal

pub returns-then-key-low : goal.returns-then-key-low
returns-then-key-low c = let s = c.args in rw (lt-leb s.low (key_of (prefix_of s.word)) (omega arith))

pub returns : goal.returns
returns c = let s = c.args in rw (le-leb s.low (key_of (prefix_of s.word)) (omega arith)) c.is_rule.ensures
