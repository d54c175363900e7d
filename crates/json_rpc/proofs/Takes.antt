-- How far a reader of frames has come in its source.
use Rattle.std.proofs.Common.{◌≡◌, ℕ, ◌+◌, ◌≤◌, ap, sym, ◌∙◌, List, [], ◌++◌, length, Option, None, arith, length-append, append-nil}
use Rattle.std.proofs.KnownBytes.{Consumes-nil, Consumes-trans}
use Rattle.std.specs.Io.KnownBytes.{Consumes}
use Rattle.outside.specs.Taken.{Took}
use Rattle.json_rpc.specs.Streams.{Progress, Gives, Ends, Fails, FailsAt, budget}
use Rattle.json_rpc.specs.declared.fault.FrameFault.{FrameFault}
use Rattle.json_rpc.specs.declared.fault.FrameFault.TheVariants.{Header, NoLength, TooLong, Cut, ReadFault, Budget, OutOfMemory}

-- The frames that were given and the bytes that are held are what was taken.
pub record IsFar (p : Progress) (start now : Option (List ℕ)) : Type 0 where
  pub bytes : List ℕ
  pub from : Consumes start now bytes
  pub far : p.place + length p.held ≡ length bytes

pub far-start : (start : Option (List ℕ)) → IsFar (record { place = 0; held = []; fault = None }) start start
far-start start = record {
  bytes = [];
  from = Consumes-nil start;
  far = omega arith;
}

far_to : (p q : Progress) (start before now : Option (List ℕ)) (taken : List ℕ) → IsFar p start before → Consumes before now taken → q.place + length q.held ≡ p.place + length (p.held ++ taken) → IsFar q start now
far_to p q start before now taken f h e = record {
  bytes = f.bytes ++ taken;
  from = Consumes-trans start before now f.bytes taken f.from h;
  far = omega (arith, e, f.far, length-append p.held taken, length-append f.bytes taken);
}

pub far-more : (p q : Progress) (start before now : Option (List ℕ)) (body : List ℕ) → IsFar p start before → Gives p q before now body → IsFar q start now
far-more p q start before now body f g = far_to p q start before now g.taken f g.from g.place

as_far : (p q : Progress) (bytes : List ℕ) (now : Option (List ℕ)) (k : FrameFault) → FailsAt p q bytes now k → q.place + length q.held ≡ p.place + length bytes
as_far p q bytes now (Header k) e = ap (λ x. x.place + length x.held) e.1
as_far p q bytes now (NoLength k) e = ap (λ x. x.place + length x.held) e.1
as_far p q bytes now (TooLong k) e = ap (λ x. x.place + length x.held) e.1
as_far p q bytes now (Cut k) e = ap (λ x. x.place + length x.held) e.5
as_far p q bytes now ReadFault e = ap (λ x. x.place + length x.held) e
as_far p q bytes now Budget e = ap (λ x. x.place + length x.held) e.2
as_far p q bytes now OutOfMemory e = ap (λ x. x.place + length x.held) e

-- The reader takes no more than its budget.
pub took-far : (p : Progress) (start now : Option (List ℕ)) → IsFar p start now → p.place + length p.held ≤ budget → Took budget start now
took-far p start now f b = record {
  bytes = f.bytes;
  within = omega (arith, f.far, b);
  consumed = f.from;
}

pub took-end : (p q : Progress) (start before now : Option (List ℕ)) → IsFar p start before → q.place + length q.held ≤ budget → Ends p q before now → Took budget start now
took-end p q start before now f b e = took-far q start now (far_to p q start before now [] f e.from (ap (λ x. x.place + length x.held) e.same ∙ ap (λ t. p.place + length t) (sym (append-nil p.held)))) b

pub took-fail : (p q : Progress) (start before now : Option (List ℕ)) (k : FrameFault) → IsFar p start before → q.place + length q.held ≤ budget → Fails p q before now k → Took budget start now
took-fail p q start before now k f b e = took-far q start now (far_to p q start before now e.taken f e.from (as_far p q (p.held ++ e.taken) now k e.at)) b

pub ruleset takes = (far-start, far-more, took-far, took-end, took-fail)
