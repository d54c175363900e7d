use Rattle.class_shape.proofs.ShapeLaws.{exactly}
use Rattle.class_shape.proofs.laws.fits_or_faults.Goals as goal

pub returns : goal.returns
returns c = record { exactly = exactly }
