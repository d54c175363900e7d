use Rattle.subtyping.proofs.SuperLaws.{above-back, above-on, merged-above, set-supers, kept-rows}
use Rattle.subtyping.proofs.merges.merges_of_supers.Goals as goal

pub returns : goal.returns
returns c = record { above = above-back; still = above-on; set = set-supers; merged = merged-above; rows = kept-rows }
