-- The classes of a version with one publication, published, give that version.
use Rattle.std.specs.Option.{option_or}
use Rattle.std.proofs.Common.{◌≡◌, Bool, true, false, List, [], ◌∷◌, map, Option, Some, None, refl, sym, ap, subst, ◌∙◌, append-nil, bytes_eq}
use Rattle.std.specs.Prelude.{if◌then◌else◌}
use Rattle.known_classes.specs.declared.summary.ClassSummary.{ClassSummary}
use Rattle.known_classes.specs.Known.{class_named}
use Rattle.decl_index.specs.History.{Name, put, decided, told, class_in, weights_set, Rises}
use Rattle.decl_index.proofs.Names.{same-true, apart_back}
use Rattle.decl_index.proofs.Sorted.{Above}
use Rattle.version_board.specs.declared.snapshot.Snapshot.{Snapshot}
use Rattle.version_board.specs.Withdrawals.{withdrawals_after}
use Rattle.version_board.specs.Versions.{IsVersion}
use Rattle.start_text.specs.Starts.{publication}

-- of a name that is before those of all classes put in nothing is said
unsaid : (n : Name) (cs : List ClassSummary) → Above n cs → decided n (map put cs) ≡ None
unfolding decided
unsaid n [] h = refl
unsaid n (c ∷ cs) h = rw (unsaid n cs h.1, apart_back n c.name h.0) refl

or-none : (o : Option (Option ClassSummary)) → told (option_or o None) ≡ told o
or-none None = refl
or-none (Some c) = refl

one-said : (b : Bool) (n : Name) (c : ClassSummary) (cs : List ClassSummary) → bytes_eq n c.name ≡ b → Above c.name cs → class_named cs n ≡ told (decided n (map put cs))
    → (if b then Some c else class_named cs n) ≡ told (option_or (decided n (map put cs)) (if b then Some (Some c) else None))
one-said true n c cs e above h =
    let is : c.name ≡ n = same-true c.name n e in
    rw (unsaid n cs (subst (λ m. Above m cs) is above)) refl
one-said false n c cs e above h = h ∙ sym (or-none (decided n (map put cs)))

said-of : (n : Name) (cs : List ClassSummary) → Rises cs → class_named cs n ≡ told (decided n (map put cs))
unfolding decided class_named Rises
said-of n [] h = refl
said-of n (c ∷ cs) h = one-said (bytes_eq n c.name) n c cs refl h.0 (said-of n cs h.1)

published : (n : Name) (cs : List ClassSummary) → Rises cs → class_named cs n ≡ class_in (publication cs ∷ []) n
published n cs h = said-of n cs h ∙ ap (λ es. told (decided n es)) (sym (append-nil (map put cs)))

-- the version after one publication is that after the publication of its classes
pub same_version : (classes : List ClassSummary) (s : Snapshot) → IsVersion (publication classes ∷ []) s → IsVersion (publication s.index.classes ∷ []) s
unfolding withdrawals_after weights_set
same_version classes s v = record {
  number = v.number;
  withdrawals = v.withdrawals;
  state = record {
    classes = record { rises = v.state.classes.rises; named = λ n. published n s.index.classes v.state.classes.rises };
    counts = record { rises = v.state.counts.rises; keyed = v.state.counts.keyed };
    weights = v.state.weights;
    number = v.state.number;
  };
}
