-- The tables that a step of the generator reads.
use Rattle.plain_listing.specs.Generate.{Table, Inner}
use Rattle.plain_listing.specs.Tables.{at, under}
use Rattle.plain_listing.specs.declared.plain_place.PlainPlace.{PlainPlace}

-- the table of its context
abbrev pub here : PlainPlace → Table
here s = at s.rows.now s.number

-- the tables under one lambda more
abbrev pub deeper : PlainPlace → Inner
deeper s = under s.contexts.now s.rows.now s.depth s.context.now
