-- How the definitions see the reader's own structures.
use Rattle.class_pool.specs.declared.pool.Header.{Header}
use Rattle.class_pool.specs.declared.pool.PoolIndex.{PoolIndex}
use Rattle.class_pool.specs.Spelling.{FileHeader}
use Rattle.class_pool.specs.Index.{Kept}

-- The numbers of a header.
abbrev pub header_seen : Header → FileHeader
header_seen h = record { minor = h.minor; major = h.major; count = h.count }

-- What an index keeps.
abbrev pub index_seen : PoolIndex → Kept
index_seen i = record { minor = i.minor; major = i.major; starts = i.starts.items; end = i.end }
