-- `take_next` meets its contract: the bytes that were handed over are those of the buffer that are taken. Assumes nothing.
use Rattle.std.proofs.Common.{◌≡◌, ◌≤◌, length, take, arith, length-take-le}
use Rattle.stream.proofs.Streams.{stream_few}
use Rattle.collector.proofs.Running.{took_within}
use Rattle.collector.proofs.run.take_next.Given.{Over}
use Rattle.collector.proofs.run.take_next.Goals.{After-take_records-taken}
use Rattle.collector.proofs.run.take_next.Goals as goal

-- the bytes that are taken are as many as they are to be, and there is room for their lines
taken : (g : Over) (c : After-take_records-taken g) → length (take c.to_take.result c.fill-filled.new.buffer) ≡ c.to_take.result
taken g c = length-take-le _ _ (omega (arith, took_within c.fill-filled.ensures c.to_take.ensures))

-- and there is room for their lines
room : (g : Over) (c : After-take_records-taken g) → c.take_records-taken.result.count ≤ length c.take_records-taken.new.lines
room g c =
    let bytes = take c.to_take.result c.fill-filled.new.buffer in
    omega (arith, took_within c.fill-filled.ensures c.to_take.ensures, c.take_records-taken.ensures.count, stream_few bytes c.args.expected, taken g c)

pub slice_bounds-lines-end : goal.slice_bounds-lines-end
slice_bounds-lines-end g c = room g (goal.at.slice_bounds-lines-end g c).After-take_records-taken

pub slice_bounds-print_lines-end : goal.slice_bounds-print_lines-end
slice_bounds-print_lines-end g c = omega (arith, length-take-le _ _ (room g (goal.at.slice_bounds-print_lines-end g c).After-take_records-taken))
