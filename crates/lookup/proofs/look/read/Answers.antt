-- `look::read` meets its contract: the cell that is read stands at the block of the address. Assumes nothing.
use Rattle.lookup.proofs.Reading.{reads}
use Rattle.lookup.proofs.look.read.Goals as goal

pub returns : goal.returns
returns g c =
    let s = c.args in
    let read = reads g.W.Word.spelt s.first.now s.long.now s.territory s.address c.index-first-block_of.result c.requires in
    let said = c.says.ensures in
    let cell = c.word-cell.ensures in
    let index = c.index-first-block_of.is in
    let block = c.block_of.ensures in cc
