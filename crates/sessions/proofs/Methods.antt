-- What a request means, by the tests of its method.
use Rattle.std.proofs.Common.{◌≡◌, ℕ, refl, List, true, false}
use Rattle.std.specs.Prelude.{codes, bytes_eq}
use Rattle.serde_json.specs.Data.{Data}
use Rattle.json_rpc.specs.declared.message.Id.{Id}
use Rattle.lsp_forms.specs.Forms.{initialize_of, completion_of}
use Rattle.lsp_forms.specs.Commands.{command_of}
use Rattle.answers.specs.Sessions.{Seen}
use Rattle.answers.specs.Failures.{invalid_request, unknown_method, not_initialized}
use Rattle.answers.specs.Messages.{fails, stops, fresh_request, running_request, initialize_by, completion_by, command_by}

pub fresh_other : (id : Id) (method : List ℕ) (d : Data) → bytes_eq method (codes "initialize") ≡ false → fails id not_initialized ≡ fresh_request id method d
unfolding fresh_request
fresh_other id method d e = rw e refl

pub fresh_initialize : (id : Id) (method : List ℕ) (d : Data) → bytes_eq method (codes "initialize") ≡ true → initialize_by id (initialize_of d) ≡ fresh_request id method d
unfolding fresh_request
fresh_initialize id method d e = rw e refl

pub running_completion : (s : Seen) (id : Id) (method : List ℕ) (d : Data) → bytes_eq method (codes "textDocument/completion") ≡ true → completion_by s id (completion_of d) ≡ running_request s id method d
unfolding running_request
running_completion s id method d e = rw e refl

pub running_command : (s : Seen) (id : Id) (method : List ℕ) (d : Data) → bytes_eq method (codes "textDocument/completion") ≡ false → bytes_eq method (codes "workspace/executeCommand") ≡ true
    → command_by id (command_of d) ≡ running_request s id method d
unfolding running_request
running_command s id method d a b = rw (a, b) refl

pub running_shutdown : (s : Seen) (id : Id) (method : List ℕ) (d : Data) → bytes_eq method (codes "textDocument/completion") ≡ false → bytes_eq method (codes "workspace/executeCommand") ≡ false
    → bytes_eq method (codes "shutdown") ≡ true → stops id ≡ running_request s id method d
unfolding running_request
running_shutdown s id method d a b c = rw (a, b, c) refl

pub running_initialize : (s : Seen) (id : Id) (method : List ℕ) (d : Data) → bytes_eq method (codes "textDocument/completion") ≡ false → bytes_eq method (codes "workspace/executeCommand") ≡ false
    → bytes_eq method (codes "shutdown") ≡ false → bytes_eq method (codes "initialize") ≡ true → fails id invalid_request ≡ running_request s id method d
unfolding running_request
running_initialize s id method d a b c e = rw (a, b, c, e) refl

pub running_other : (s : Seen) (id : Id) (method : List ℕ) (d : Data) → bytes_eq method (codes "textDocument/completion") ≡ false → bytes_eq method (codes "workspace/executeCommand") ≡ false
    → bytes_eq method (codes "shutdown") ≡ false → bytes_eq method (codes "initialize") ≡ false → fails id unknown_method ≡ running_request s id method d
unfolding running_request
running_other s id method d a b c e = rw (a, b, c, e) refl
