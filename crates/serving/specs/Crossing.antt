-- What the clients' shared listings lie behind, and who hands listings and those who take them, as types of the proofs.
use denote.RattleType.{RattleType}
use Rattle.core.specs.contracts.sync.Mutex as mutex
use Rattle.shared_shelf.specs.contracts.slots.Slots as slots
use Rattle.listing.specs.contracts.listing.Listing as listing
use Rattle.reconstruction.specs.contracts.rebuild.Rebuild as rebuild
use Rattle.prefetch.specs.contracts.sender.Sender as sender
use Rattle.prefetch.specs.contracts.worker.Worker as worker
use Rattle.reconstruction.specs.contracts.rebuild.RebuildLevels.TheImpl.{ghosts}
use Rattle.std_alloc.specs.contracts.vec.Vec as vec
use Rattle.std_heap.specs.contracts.Global as heap
use Rattle.std_heap.specs.contracts.GlobalAllocator.TheImpl.{ghosts as allocator}

abbrev pub slots_row : RattleType
slots_row = (mutex.the_field (slots.the_row (listing.the_row rebuild.the_row ghosts))).row

abbrev pub sender_row : RattleType
sender_row = sender.the_row (listing.the_row rebuild.the_row ghosts)

abbrev pub workers_row : RattleType
workers_row = vec.the_row (worker.the_row (listing.the_row rebuild.the_row ghosts)) heap.the_row allocator
