-- Places and edits.
use Rattle.std.proofs.Common.{◌≡◌, ℕ, ◌+◌, ◌-◌, ◌<◌, ◌≤◌, List, [], ◌∷◌, ◌++◌, length, drop, take, arith, refl, Option, Some, None, IsUtf8, subst, nat_le, nat_lt, true, false}
use Rattle.std.proofs.lemmas.List.{length-append, length-drop, length-take-le, drop_all, append-nil}
pub use Rattle.std.proofs.lemmas.Str.{IsCharBoundary-from_drop, IsCharBoundary-start, IsCharBoundary-end}
use Rattle.std.specs.Str.{chars, IsCharBoundary}
use Rattle.documents.specs.Places.{from_line, from_unit, IsRest, offset_of}
use Rattle.documents.specs.Edits.{Edit, within, edited, refused, edit_between, edit_of, then_change, document_after}
use Rattle.documents.specs.declared.change.TextChange.{TextChange}
use Rattle.documents.specs.declared.change.EditFault.TheVariants.{Range, TooLong}
use Rattle.documents.proofs.Rests.{byte_len-chars, rest_drop}

pub offset-some : (text start rest : List ℕ) (l u : ℕ) → IsUtf8 text → IsUtf8 rest → from_line l (chars text) ≡ Some (chars start) → chars rest ≡ from_unit u (chars start) → offset_of (chars text) l u ≡ Some (length text - length rest)
offset-some text start rest l u t r e f = rw (e, ← f, byte_len-chars text t, byte_len-chars rest r) refl

pub offset-none : (text : List ℕ) (l u : ℕ) → from_line l (chars text) ≡ None → offset_of (chars text) l u ≡ None
offset-none text l u e = rw e refl

pub boundary : (text rest : List ℕ) → IsRest text rest → IsUtf8 rest → IsCharBoundary text (length text - length rest)
boundary text rest r u = IsCharBoundary-from_drop text (length text - length rest) (omega arith) (subst IsUtf8 r.is u)

pub length-replaced : (bytes new : List ℕ) (a b : ℕ) → a ≤ b → b ≤ length bytes → length ((take a bytes ++ new) ++ drop b bytes) ≡ length bytes - (b - a) + length new
length-replaced bytes new a b l m = omega (arith, l, m, length-append (take a bytes ++ new) (drop b bytes), length-append (take a bytes) new, length-take-le a bytes (omega (arith, l, m)), length-drop b bytes)

pub all-replaced : (bytes new : List ℕ) → (take 0 bytes ++ new) ++ drop (length bytes) bytes ≡ new
all-replaced bytes new = rw (drop_all (length bytes) bytes (omega arith)) (append-nil new)

pub within-long : (new : List ℕ) (n : ℕ) → length new ≡ n → 16777216 < n → within new ≡ refused (TooLong n)
unfolding within
within-long new n e l = let b : nat_le (length new) 16777216 ≡ false = grind (arith, e, l) in rw (b, e) refl

pub between-none : (bytes new : List ℕ) (b : Option ℕ) → edit_between bytes new None b ≡ refused Range
unfolding edit_between
between-none bytes new b = refl

pub between-none2 : (bytes new : List ℕ) (a : ℕ) → edit_between bytes new (Some a) None ≡ refused Range
unfolding edit_between
between-none2 bytes new a = refl

pub between-back : (bytes new : List ℕ) (a b : ℕ) → b < a → edit_between bytes new (Some a) (Some b) ≡ refused Range
unfolding edit_between
between-back bytes new a b l = let e : nat_lt b a ≡ true = grind (arith, l) in rw e refl

pub between-some : (bytes new : List ℕ) (a b : ℕ) → a ≤ b → edit_between bytes new (Some a) (Some b) ≡ within ((take a bytes ++ new) ++ drop b bytes)
unfolding edit_between
between-some bytes new a b l = let e : nat_lt b a ≡ false = grind (arith, l) in rw e refl

-- Changes in two parts.
pub document_after-append : (before : Edit) (xs ys : List TextChange) → document_after before (xs ++ ys) ≡ document_after (document_after before xs) ys
unfolding document_after
document_after-append before [] ys = refl
document_after-append before (x ∷ xs) ys = document_after-append (then_change before x) xs ys

pub document_after-one : (bytes : List ℕ) (change : TextChange) → document_after (edited bytes) (change ∷ []) ≡ edit_of bytes change.text change.range
unfolding document_after
document_after-one bytes change = refl

pub edit-range : (bytes new : List ℕ) (r : (ℕ × ℕ) × (ℕ × ℕ)) → edit_of bytes new (Some r) ≡ edit_between bytes new (offset_of (chars bytes) r.0.0 r.0.1) (offset_of (chars bytes) r.1.0 r.1.1)
unfolding edit_of
edit-range bytes new r = refl

pub edit-all : (bytes new : List ℕ) → edit_of bytes new None ≡ within new
unfolding edit_of
edit-all bytes new = refl

pub ruleset edits = (document_after-one, edit-range, edit-all, offset-some, offset-none, boundary, rest_drop, length-replaced, all-replaced, within-long, between-none, between-none2, between-back, between-some, IsCharBoundary-start, IsCharBoundary-end)
