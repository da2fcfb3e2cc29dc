-- An entry of a ledger: a hop with the words of octets and of cents that stand there for it. Assumes nothing.
use Rattle.std.specs.Prelude.{◌≡◌, List, ℕ, get_or}
use Rattle.costs.specs.declared.order.Entry.{Entry}

abbrev pub EntryOf : List ℕ → List ℕ → Entry → Type 0
EntryOf octets cents entry = (entry.octets ≡ get_or octets entry.hop 0) × (entry.cents ≡ get_or cents entry.hop 0)
