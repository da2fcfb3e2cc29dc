-- `list::take_out` meets its contract: the word of a live prefix is at the place, and no other has its key. Assumes nothing.
use mathlib.Core.Path.{◌≡◌, refl, ◌∙◌}
use native.Mathlib.Omega.{arith}
use Rattle.rules.specs.inner.Places.{removed_at}
use Rattle.rules.proofs.Indices.{listed_within}
use Rattle.rules.proofs.Changes.{place_live, taken_out}
use Rattle.rules.proofs.list.take_out.Goals as goal

pub remove_at-requires : goal.remove_at-requires
remove_at-requires c =
    let s = c.requires in
    (omega (arith, (place_live s.listed s.well_formed s.place_is refl).0), omega (arith, listed_within s.listed))

pub returns : goal.returns
returns c =
    let s = c.requires in
    let args = c.args in
    let taken : _ ≡ removed_at args.rules.now args.used args.at = c.remove_at.ensures in
    taken ∙ taken_out s.listed s.well_formed s.place_is refl
