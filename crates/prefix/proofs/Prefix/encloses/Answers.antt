-- `Prefix::encloses` meets its contract: a shorter prefix is not inside, and a longer one is where its address is. Assumes nothing.
use Rattle.std.proofs.Common.{arith, sym, ◌∙◌, le-leb}
use Rattle.ground.proofs.Tests.{stops}
use Rattle.prefix.specs.Prefixes.{encloses}
use Rattle.prefix.proofs.Prefixes.{encloses?}
use Rattle.prefix.proofs.Prefix.encloses.Goals as goal

pub returns-then-inner-self : goal.returns-then-inner-self
returns-then-inner-self c = sym (stops (encloses? c.args.self c.args.inner) (λ e. omega (arith, e.longer)))

pub returns : goal.returns
unfolding encloses
returns c = c.contains.ensures ∙ simp (le-leb c.args.self.length c.args.inner.length (omega arith))
