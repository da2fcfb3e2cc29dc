-- The goals that the check leaves.
use Prim.Native.Nat.{ℕ, ◌+◌, ◌-◌}
use native.Mathlib.Nat.{le_refl}
use native.Mathlib.Omega.{arith}
use borrow.Author.Rules.{rules}
use Rattle.rules.specs.Rules.{routes}
use Rattle.runs.proofs.Covered.{kept_later}
use Rattle.unpaint.specs.inner.Unpaint.{stays, replaced}
use Rattle.unpaint.proofs.Unpainting.{passed_run, run_taken, start, part, part_none}
use Rattle.unpaint.proofs.Withdrawal.unpaint_run.Goals as goal

pub loop-i-init : goal.loop-i-init
loop-i-init c = (start c.requires.within.ordered, kept_later (omega arith) c.requires.kept)

pub loop-i-preserved : goal.loop-i-preserved
loop-i-preserved c =
    let inv = c.loop-i.invariant in
    let i = c.in-Some.ensures in
    let taken = c.change_run-changed.ensures in
    let passed = i.passed (stays c.args.self.length) (λ x y h. search rules) in
    let address : ℕ → ℕ = λ k. c.args.start + (k - c.args.part.start) in (
      part
          (part_none inv.0 (passed_run c.args.self.length passed (routes c.args.self.live.words.now) address) (omega (arith, i.found)) (omega (arith, i.found)))
          (run_taken c.args.self.length address c.go_on.ensures.kept (λ k low high. (omega (arith, inv.0.low, i.found), omega (arith, inv.0.low, i.found)))
          (taken.changed (replaced c.args.self.length c.go_on.new.run.cell) (λ x y h. search rules)) (omega arith))
          taken.few (omega arith) (omega (arith, i.found)),
      kept_later (omega (arith, inv.0.low, i.found)) c.go_on.ensures.kept,
    )

pub returns : goal.returns
returns c =
    let inv = c.loop-i.invariant in
    let passed = c.in_default.ensures.passed (stays c.args.self.length) (λ x y h. search rules) in
    let address : ℕ → ℕ = λ k. c.args.start + (k - c.args.part.start) in
    record {
      changed = (part_none inv.0 (passed_run c.args.self.length passed (routes c.args.self.live.words.now) address) inv.0.high (le_refl _)).done;
      kept = kept_later (omega (arith, inv.0.high)) inv.1;
    }
