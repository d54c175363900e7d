-- A whole input: its frames, and how they end.
use Rattle.std.specs.Prelude.{◌≡◌, ◌≢◌, ℕ, ◌+◌, ◌-◌, ◌<◌, List, [], ◌∷◌, ◌++◌, map, length, take, Option, Some, None}
use Rattle.std.specs.declared.vec.Vec.{Vec}
use Rattle.json_rpc.specs.Streams.{partial, whole, wrong, next_of, Progress, budget}
use Rattle.json_rpc.specs.declared.fault.FrameFault.{FrameFault}
use Rattle.json_rpc.specs.declared.fault.FrameFault.TheVariants.{Header, NoLength, TooLong, Cut, ReadFault, Budget, OutOfMemory}

-- How the bytes from this place on end, where no whole frame stands at their front: between two frames, by the first
-- violation, within a frame, or within a frame or between two at the end of the budget.
abbrev pub EndsBy : ℕ → List ℕ → Option FrameFault → Type 0
EndsBy at bytes None = (bytes ≡ []) × (at < budget)
EndsBy at bytes (Some (Header k)) = next_of at bytes ≡ wrong (Header k)
EndsBy at bytes (Some (NoLength k)) = next_of at bytes ≡ wrong (NoLength k)
EndsBy at bytes (Some (TooLong k)) = next_of at bytes ≡ wrong (TooLong k)
EndsBy at bytes (Some (Cut k)) = (next_of at bytes ≡ partial) × (bytes ≢ []) × (k ≡ at + length bytes) × (k < budget)
EndsBy at bytes (Some Budget) = (next_of at bytes ≡ partial) × (at + length bytes ≡ budget)
EndsBy at bytes (Some ReadFault) = ⊥
EndsBy at bytes (Some OutOfMemory) = ⊥

-- The bytes from this place on are the frames of these bodies, and then this end.
abbrev pub AreFrames : ℕ → List ℕ → List (List ℕ) → Option FrameFault → Type 0
AreFrames at bytes [] end = EndsBy at bytes end
AreFrames at bytes (body ∷ bodies) end = (rest : List ℕ) × (next_of at bytes ≡ whole body rest) × AreFrames (at + length bytes - length rest) rest bodies end

-- The input is the frames of these bodies, and then this end; bytes past the budget aren't looked at.
abbrev pub AreFramesOf : List ℕ → List (List ℕ) → Option FrameFault → Type 0
AreFramesOf input bodies end = AreFrames 0 (take budget input) bodies end

-- The bytes from this place on begin with the frames of these bodies.
abbrev pub AreFirst : ℕ → List ℕ → List (List ℕ) → Type 0
AreFirst at bytes [] = Unit {0}
AreFirst at bytes (body ∷ bodies) = (rest : List ℕ) × (next_of at bytes ≡ whole body rest) × AreFirst (at + length bytes - length rest) rest bodies

-- The input, up to the budget, begins with the frames of these bodies.
abbrev pub BeginFramesOf : List ℕ → List (List ℕ) → Type 0
BeginFramesOf input bodies = AreFirst 0 (take budget input) bodies

-- The bytes of each body.
abbrev pub bodies_of : {Z : Type 0} → List (Vec ℕ Z) → List (List ℕ)
bodies_of vs = map (λ v. v.items) vs

-- What an end says of the input: after a read fault or want of memory only how it begins.
abbrev pub SaysOf : List ℕ → List (List ℕ) → Option FrameFault → Type 0
SaysOf input bodies None = AreFramesOf input bodies None
SaysOf input bodies (Some (Header k)) = AreFramesOf input bodies (Some (Header k))
SaysOf input bodies (Some (NoLength k)) = AreFramesOf input bodies (Some (NoLength k))
SaysOf input bodies (Some (TooLong k)) = AreFramesOf input bodies (Some (TooLong k))
SaysOf input bodies (Some (Cut k)) = AreFramesOf input bodies (Some (Cut k))
SaysOf input bodies (Some Budget) = AreFramesOf input bodies (Some Budget)
SaysOf input bodies (Some ReadFault) = BeginFramesOf input bodies
SaysOf input bodies (Some OutOfMemory) = BeginFramesOf input bodies

-- The same where the source tells its input.
abbrev pub Reads : Option (List ℕ) → List (List ℕ) → Option FrameFault → Type 0
Reads None bodies end = Unit {0}
Reads (Some input) bodies end = SaysOf input bodies end

-- Whatever frames stand from where the reader is complete the bodies given so far, and so do the first of them.
abbrev pub Follows : Progress → Option (List ℕ) → Option (List ℕ) → List (List ℕ) → Type 0
Follows p None now bodies = Unit {0}
Follows p (Some input) None bodies = ⊥
Follows p (Some input) (Some left) bodies =
    ((more : List (List ℕ)) (end : Option FrameFault) → AreFrames p.place (take (budget - p.place) (p.held ++ left)) more end → AreFramesOf input (bodies ++ more) end)
    × ((more : List (List ℕ)) → AreFirst p.place (take (budget - p.place) (p.held ++ left)) more → BeginFramesOf input (bodies ++ more))
