-- The lent memory after an accepted call, as one function of what it was. Assumes nothing.
use Rattle.std.specs.Prelude.{List, length, replicate}
use Rattle.prefix.specs.declared.Prefix.{Prefix}
use Rattle.prefix.specs.declared.Route.{Route}
use Rattle.prefix.specs.Routes.{Change, puts, takes, applied}
use Rattle.cells.specs.Cells.{pack}
use Rattle.cells.specs.Memory.{Tables, Lent}
use Rattle.rules.specs.Rules.{routes, words_of}
use Rattle.tables.specs.Cellwise.{paint_cell, unpaint_cell, repainted}
use Rattle.tables.specs.Changes.{opened_for, closed_for}

-- clear sets all lent memory to 0
unfoldable pub cleared : Lent → Lent
cleared m = record {
  tables = record {
    first = replicate (length m.tables.first) 0;
    long = replicate (length m.tables.long) 0;
    owners = replicate (length m.tables.owners) 0;
  };
  rules = replicate (length m.rules) 0;
}

-- announce and re-home: the cells of the prefix are painted, in a segment that is opened if one is needed
abbrev pub painted : Prefix → Route → Tables → Tables
painted t r tables =
    let p = r.prefix in repainted t p (λ a. paint_cell p.length (pack r.hop p.length)) (opened_for t p tables)

-- withdraw: the cells of the prefix are repainted, and its segment closes if none is needed any more; rs are the routes that are left
abbrev pub unpainted : Prefix → Prefix → List Route → Tables → Tables
unpainted t p rs tables = closed_for t p rs (repainted t p (unpaint_cell p.length rs) tables)

-- the tables after a change, with which rs are live
unfoldable pub retabled : Prefix → Change → List Route → Tables → Tables
retabled t (puts r) rs tables = painted t r tables
retabled t (takes p) rs tables = unpainted t p rs tables

-- the tables and the rule words after a change
unfoldable pub effect : Prefix → Change → Lent → Lent
effect t c m =
    let rs = applied c (routes m.rules) in
    record { tables = retabled t c rs m.tables; rules = words_of (length m.rules) rs }
