-- The status that a run of `sample` answers.
use Rattle.statuses.specs.declared.status.Status.{Status}
use Rattle.samples.specs.declared.sampling.Sampling.{Sampling}
use Rattle.samples.specs.declared.sampling.Sampling.TheVariants.{Whole, WriteFault, OutOfMemory}

-- 5 where the sink failed, and 6 for want of memory.
unfoldable pub sampling_status : Sampling → Status
sampling_status Whole = record { code = 0; end = 0; place = 0; cause = 0 }
sampling_status WriteFault = record { code = 5; end = 0; place = 0; cause = 0 }
sampling_status OutOfMemory = record { code = 6; end = 0; place = 0; cause = 0 }
