-- Bytes that are UTF-8, and bytes that aren't.
use Rattle.std.proofs.Common.{◌≡◌, List, ℕ, Some, None, Bool, true, false, refl, IsUtf8, if◌then◌else◌}
use Rattle.std.proofs.lemmas.Str.{IsUtf8-from_is_utf8, is_utf8-from_IsUtf8}
use Rattle.std.specs.Str.{is_utf8}
use Rattle.lsp_forms.specs.Paths.{as_text}

by_utf8 : (b : Bool) (bytes : List ℕ) → (b ≡ true → false ≡ true) → None ≡ (if b then Some bytes else None)
by_utf8 true bytes f = let h : false ≡ true = f refl in cc
by_utf8 false bytes f = refl

pub as_text-none : (bytes : List ℕ) → (IsUtf8 bytes → false ≡ true) → None ≡ as_text bytes
unfolding as_text
as_text-none bytes f = by_utf8 (is_utf8 bytes) bytes (λ b. f (IsUtf8-from_is_utf8 bytes b))

pub as_text-some : (bytes : List ℕ) → IsUtf8 bytes → Some bytes ≡ as_text bytes
unfolding as_text
as_text-some bytes u = rw (is_utf8-from_IsUtf8 bytes u) refl
