-- What a read leaves of a world.
use Rattle.std.proofs.Common.{◌≡◌, ◌∙◌, sym, ap, subst, [], inl, inr, append-nil}
use Rattle.sessions.specs.Worlds.{WorldState, IsRead, MayRead}

pub may_read : (old new : WorldState) → IsRead old new → MayRead old new
may_read old new r = record { later = r.later; entry = inr r.entry; whole = r.whole; holds = r.holds; faults = r.faults }

pub stays : (old new : WorldState) → new ≡ old → MayRead old new
stays old new e = record { later = ([], append-nil old.known ∙ ap (λ w. w.known) (sym e)); entry = inl (ap (λ w. w.reads) e); whole = ap (λ w. w.whole) e; holds = ap (λ w. w.holds) e; faults = ap (λ w. w.faults) e }

pub read_then : (old mid new : WorldState) → IsRead old mid → new ≡ mid → IsRead old new
read_then old mid new r e = subst (λ w. IsRead old w) (sym e) r

pub may_then : (old mid new : WorldState) → MayRead old mid → new ≡ mid → MayRead old new
may_then old mid new r e = subst (λ w. MayRead old w) (sym e) r

pub read_and : (old mid new : WorldState) → IsRead old mid → new ≡ mid → MayRead old new
read_and old mid new r e = may_read old new (read_then old mid new r e)

pub ruleset reads = (may_read, stays, read_and, may_then)
