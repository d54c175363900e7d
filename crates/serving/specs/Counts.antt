-- The status that a run of `count` answers.
use Rattle.statuses.specs.declared.status.Status.{Status}
use Rattle.counting.specs.declared.counting.Counting.{Counting}
use Rattle.counting.specs.declared.counting.Counting.TheVariants.{Whole, NotStarted, ShelfFault, WriteFault, OutOfMemory}

-- 8 with the line and the number of what is wrong with the start text or its files; 4 and 5 where the shelf or the sink failed, and 6
-- for want of memory.
unfoldable pub counting_status : Counting → Status
counting_status Whole = record { code = 0; end = 0; place = 0; cause = 0 }
counting_status (NotStarted line cause) = record { code = 8; end = 0; place = line; cause = cause }
counting_status ShelfFault = record { code = 4; end = 0; place = 0; cause = 0 }
counting_status WriteFault = record { code = 5; end = 0; place = 0; cause = 0 }
counting_status OutOfMemory = record { code = 6; end = 0; place = 0; cause = 0 }
