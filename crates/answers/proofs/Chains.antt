-- What a client met is a chain, since what it has seen only grows.
use Rattle.std.proofs.Common.{◌≡◌, List, [], ◌∷◌, ◌++◌, refl, sym, ap, ◌∙◌, subst, Option, None, Some, append_assoc, append-nil}
use Rattle.decl_index.specs.declared.change.Change.{Change}
use Rattle.answers.specs.Histories.{IsPrefix}
use Rattle.answers.specs.Cursors.{Lists}
use Rattle.answers.specs.Asks.{Answer, opened, turned, withdrawn, explained, accepted, refused, quiet, ended}
use Rattle.answers.specs.Turns.{Turn, answer, next, change_of, Sees, AllSee, told_by, Includes, IncludesSome, AllInclude, IsChain}

pub prefix_self : (xs : List Change) → IsPrefix xs xs
prefix_self xs = ([], append-nil xs)

pub prefix_then : (xs ys zs : List Change) → IsPrefix xs ys → IsPrefix ys zs → IsPrefix xs zs
prefix_then xs ys zs (a, p) (b, q) = (a ++ b, sym (append_assoc xs a b) ∙ ap (λ t. t ++ b) p ∙ q)

pub prefix_is : (xs ys : List Change) → xs ≡ ys → IsPrefix xs ys
prefix_is xs ys is = ([], append-nil xs ∙ is)

pub prefix_left : (xs ys zs : List Change) → IsPrefix (xs ++ ys) zs → IsPrefix xs zs
prefix_left xs ys zs p = prefix_then xs (xs ++ ys) zs (ys, refl) p

pub sees_later : (a : Answer) (known at c after : List Change) → Sees known a at c after → IsPrefix known after
sees_later (opened cursor p) known at c after s = s.1
sees_later (turned cursor p) known at c after s = s.1
sees_later (withdrawn k v n) known at c after s = s.1
sees_later (refused f) known at c after s = s.1
sees_later (accepted v) known at c after s = s.1
sees_later (explained cursor x) known at c after s = s
sees_later quiet known at c after s = s
sees_later ended known at c after s = s

read_includes : (earlier known at after : List Change) → IsPrefix earlier known → (at ≡ after) × IsPrefix known after → IsPrefix earlier at
read_includes earlier known at after below s = subst (IsPrefix earlier) (sym s.0) (prefix_then earlier known after below s.1)

includes : (a : Answer) (earlier known at c after : List Change) → IsPrefix earlier known → Sees known a at c after → Includes a earlier at
includes (opened cursor p) earlier known at c after below s = read_includes earlier known at after below s
includes (turned cursor p) earlier known at c after below s = read_includes earlier known at after below s
includes (withdrawn k v n) earlier known at c after below s = read_includes earlier known at after below s
includes (refused f) earlier known at c after below s = read_includes earlier known at after below s
includes (accepted v) earlier known at c after below s = tt
includes (explained cursor x) earlier known at c after below s = tt
includes quiet earlier known at c after below s = tt
includes ended earlier known at c after below s = tt

abbrev Below : Option (List Change) → List Change → Type 0
Below None known = Unit {0}
Below (Some earlier) known = IsPrefix earlier known

include_some : (o : Option (List Change)) (a : Answer) (known at c after : List Change) → Below o known → Sees known a at c after → IncludesSome a o at × Below o after
include_some None a known at c after below s = (tt, tt)
include_some (Some earlier) a known at c after below s = (includes a earlier known at c after below s, prefix_then earlier known after below (sees_later a known at c after s))

all_include : (o : Option (List Change)) (known : List Change) (l : Lists) (ts : List Turn) (end : List Change) → Below o known → AllSee known l ts end → AllInclude o l ts
unfolding AllSee AllInclude
all_include o known l [] end below all = tt
all_include o known l (t ∷ ts) end below all =
    let now = include_some o (answer l t) known t.met.at (change_of t.ask) all.0 below all.1 in
    (now.0, all_include o all.0 (next l t) ts end now.1 all.2)

told_below : (a : Answer) (known at c after : List Change) → Sees known a at c after → Below (told_by a at c) after
told_below (opened cursor p) known at c after s = prefix_is at after s.0
told_below (turned cursor p) known at c after s = prefix_is at after s.0
told_below (withdrawn k v n) known at c after s = prefix_is at after s.0
told_below (refused f) known at c after s = prefix_is at after s.0
told_below (accepted v) known at c after s = s.0
told_below (explained cursor x) known at c after s = tt
told_below quiet known at c after s = tt
told_below ended known at c after s = tt

pub chains : (known : List Change) (l : Lists) (ts : List Turn) (end : List Change) → AllSee known l ts end → IsChain l ts
unfolding AllSee IsChain
chains known l [] end all = tt
chains known l (t ∷ ts) end all =
    let told = told_below (answer l t) known t.met.at (change_of t.ask) all.0 all.1 in
    (all_include (told_by (answer l t) t.met.at (change_of t.ask)) all.0 (next l t) ts end told all.2, chains all.0 (next l t) ts end all.2)
