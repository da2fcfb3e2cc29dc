-- The goals that the check leaves.
use mathlib.Core.Path.{sym, ap, subst}
use mathlib.Core.Bool.{◌||◌}
use Prim.Native.Nat.{ℕ, ◌+◌}
use native.Mathlib.Omega.{arith}
use lib.Dec.{ltb}
use lib.ListN.{length}
use Rattle.prefix.specs.Geometry.{width}
use Rattle.rules.specs.inner.Blocks.{PassedIs}
use Rattle.rules.proofs.Cursor.{Passing, passing_start, passing_more, passing_met}
use Rattle.rules.proofs.AllLive.{ordered_listed}
use Rattle.rules.proofs.live.Live.pass.Goals as goal

pub loop-i-init : goal.loop-i-init
loop-i-init c = passing_start _ _ _ _ c.requires.cursor_at

pub returns-then-start-address : goal.returns-then-start-address
returns-then-start-address c =
    passing_met _ _ _ _ _ _ (ordered_listed c.args.self.ordered) c.requires.aligned.0 c.requires.cursor_at c.loop-i.invariant (λ l. omega arith)

pub loop-i-preserved : goal.loop-i-preserved
loop-i-preserved c =
    let s = c.args in
    let here = c.loop-i in
    subst (Passing s.self.words.now (length s.self.words.now) s.start s.at (here.i + 1)) (ap (λ (l : ℕ). here.opened || ltb width l) (sym c.length.ensures))
    (passing_more s.self.words.now (length s.self.words.now) s.start s.at here.i here.opened here.invariant (omega arith) (omega arith))

pub returns : goal.returns
returns c =
    let s = c.args in
    subst (λ (k : ℕ). PassedIs s.self.words.now (length s.self.words.now) s.start k c.loop-i.opened) (omega arith)
    (passing_met _ _ _ _ _ _ (ordered_listed s.self.ordered) c.requires.aligned.0 c.requires.cursor_at c.loop-i.invariant (λ l. absurd (omega arith)))
