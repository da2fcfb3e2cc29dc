-- `Live::between` meets its contract, by the library's search in a part of the list. Assumes nothing.
use lib.Dec.{ltb}
use Rattle.std.proofs.Common.{rules}
use Rattle.std.proofs.lemmas.List.Sorted.{IsPartitionPoint-from_clause}
use Rattle.rules.specs.Words.{prefix_of, key_of}
use Rattle.rules.proofs.AllLive.{ordered_listed}
use Rattle.rules.proofs.Searches.{parted, position_within}
use Rattle.rules.proofs.live.Live.between.Goals as goal

pub returns : goal.returns
returns c =
    let s = ordered_listed c.args.self.ordered in
    position_within s c.requires
    (IsPartitionPoint-from_clause (λ w. ltb (key_of (prefix_of w)) c.args.key) _ _ c.partition_point.ensures.partitioned (parted s c.requires) (λ a r f' k. search rules)) c.partition_point.ensures.bound
