-- A body that is no message.
use Rattle.std.proofs.Common.{◌≡◌, ◌∙◌, ℕ, sym, ap, subst, refl, List, Option, Some, None}
use Rattle.json_rpc.specs.declared.message.Id.{Id}
use Rattle.json_rpc.specs.declared.message.RpcFault.{RpcFault}
use Rattle.json_rpc.specs.Messages as rpc
use Rattle.json_rpc.specs.Messages.{Heard, request, notice, response, invalid, IsFaultOf}
use Rattle.answers.specs.Sessions.{Seen}
use Rattle.answers.specs.Failures.{parse_error, invalid_request}
use Rattle.answers.specs.Replies.{failure, reply_text}
use Rattle.answers.specs.Messages.{says, replied, no_memory, lost, meaning_in}
use Rattle.sessions.specs.declared.failure.Failure as code
use Rattle.sessions.specs.declared.failure.Failure.TheVariants.{ParseError, InvalidRequest}
use Rattle.sessions.specs.Failing.{failure_of}
use Rattle.sessions.specs.Worlds.{WorldState}
use Rattle.sessions.specs.Meets.{Answered}
use Rattle.sessions.proofs.Answering.{said, said_in_vain, ended}

-- What it means is the failure that its code names.
named : (s : Seen) (h : Option Heard) (f : RpcFault) (x : code.Failure) → IsFaultOf h f → (f.code ≡ rpc.parse_error → x ≡ ParseError) → (f.code ≡ rpc.invalid_request → x ≡ InvalidRequest)
    → meaning_in s h ≡ says f.id (failure (failure_of x))
named s None f x is no_json no_message = ap (λ i. says i (failure parse_error)) (sym is.1) ∙ ap (λ y. says f.id (failure (failure_of y))) (sym (no_json is.0))
named s (Some (request id method params)) f x is no_json no_message = absurd is
named s (Some (notice method params)) f x is no_json no_message = absurd is
named s (Some response) f x is no_json no_message = absurd is
named s (Some (invalid id)) f x is no_json no_message = ap (λ i. says i (failure invalid_request)) (sym is.1) ∙ ap (λ y. says f.id (failure (failure_of y))) (sym (no_message is.0))

pub fault_told : (s : Seen) (h : Option Heard) (f : RpcFault) (x : code.Failure) (bytes : List ℕ) (w : WorldState) → IsFaultOf h f → (f.code ≡ rpc.parse_error → x ≡ ParseError) → (f.code ≡ rpc.invalid_request → x ≡ InvalidRequest)
    → bytes ≡ reply_text f.id (failure (failure_of x)) → Answered s (meaning_in s h) s (replied bytes) w w
fault_told s h f x bytes w is no_json no_message told =
    subst (λ m. Answered s m s (replied bytes) w w) (sym (named s h f x is no_json no_message)) (said s s f.id (failure (failure_of x)) bytes w w told refl refl)

pub fault_in_vain : (s : Seen) (h : Option Heard) (f : RpcFault) (x : code.Failure) (id : Id) (w : WorldState) → IsFaultOf h f → (f.code ≡ rpc.parse_error → x ≡ ParseError) → (f.code ≡ rpc.invalid_request → x ≡ InvalidRequest)
    → f.id ≡ Some id → Answered s (meaning_in s h) s (no_memory id) w w
fault_in_vain s h f x id w is no_json no_message shown =
    subst (λ m. Answered s m s (no_memory id) w w) (sym (named s h f x is no_json no_message ∙ ap (λ i. says i (failure (failure_of x))) shown)) (said_in_vain s s id (failure (failure_of x)) w w refl refl)

pub fault_lost : (s : Seen) (h : Option Heard) (w : WorldState) → Answered s (meaning_in s h) s lost w w
fault_lost s h w = ended s s (meaning_in s h) w w refl refl

pub ruleset faulted = (fault_told, fault_in_vain, fault_lost)
