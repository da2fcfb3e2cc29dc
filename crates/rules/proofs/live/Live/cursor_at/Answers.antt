-- `Live::cursor_at` meets its contract: before the shortest prefix of the address stand the rules of lower addresses. Assumes nothing.
use Rattle.rules.proofs.AllLive.{ordered_listed}
use Rattle.rules.proofs.Cursor.{cursor_from}
use Rattle.rules.proofs.live.Live.cursor_at.Goals as goal

pub returns : goal.returns
returns c = cursor_from c.args.address (ordered_listed c.args.self.ordered) c.key_of.ensures c.position.ensures
