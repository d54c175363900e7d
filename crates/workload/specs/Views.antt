-- How the definitions see the writer's own structures.
use Rattle.workload.specs.declared.needs.Need.{Need}
use Rattle.workload.specs.declared.needs.Need.TheVariants.{Class, Text}
use Rattle.workload.specs.Needs.{Needed, class, text}

abbrev pub need_seen : Need → Needed
need_seen (Class name) = class name.now
need_seen (Text t) = text t.now
