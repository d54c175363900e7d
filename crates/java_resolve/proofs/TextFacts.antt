-- Texts of types, and words.
use Rattle.std.proofs.Common.{◌≡◌, ◌∙◌, ap, sym, refl, ℕ, zero, suc, ◌&&◌, not, Bool, true, false, List, [], ◌∷◌, slice_get, get_or, Option, Some, None, codes, chars, IsUtf8, IsAscii, Result, Ok, Err, IfOk, IfSome, IfNone}
use Rattle.std.proofs.lemmas.Str.{chars-IsAscii, IsUtf8-from_ascii}
use Rattle.java_resolve.proofs.WordTests.{all_below}
use Rattle.java_shapes.specs.Words.{spells_identifier, is_binder}
use Rattle.java_shapes.specs.Readable.{is_free}
use Rattle.terms.specs.Text.{type_text}
use Rattle.terms.specs.declared.parts.Parts.{Parts}

get_none : (xs : List (List ℕ)) (n : ℕ) → slice_get xs n ≡ None → get_or xs n [] ≡ []
get_none [] n e = refl
get_none (x ∷ xs) zero e = absurd (cc)
get_none (x ∷ xs) (suc n) e = get_none xs n e

pub no_type : (g : Parts) (n : ℕ) → slice_get g.types n ≡ None → [] ≡ type_text g n
no_type g n e = sym (get_none g.types n e)

pub not_free : (b w : List ℕ) (r : Bool) → r ≡ false → r ≡ spells_identifier w → false ≡ is_free b w
not_free b w r e h = sym (ap (λ x. x && not (is_binder b w)) (sym h ∙ e))

pub free_by : (b w : List ℕ) (r s : Bool) → r ≡ true → r ≡ spells_identifier w → s ≡ is_binder b w → not s ≡ is_free b w
free_by b w r s e h q = ap not q ∙ sym (ap (λ x. x && not (is_binder b w)) (sym h ∙ e))

this_ascii : IsAscii (codes "this")
this_ascii = all_below (codes "this") refl

pub this_chars : chars (codes "this") ≡ codes "this"
this_chars = chars-IsAscii (codes "this") this_ascii

pub this_utf8 : IsUtf8 (codes "this")
this_utf8 = IsUtf8-from_ascii (codes "this") this_ascii

-- what follows from what holds of an answer
pub if_map : {A E : Type 0} (P Q : A → Type 0) (r : Result A E) → ((a : A) → P a → Q a) → IfOk r P → IfOk r Q
if_map P Q (Ok a) f h = f a h
if_map P Q (Err e) f h = h

pub if_both : {A E : Type 0} (P Q R : A → Type 0) (r : Result A E) → ((a : A) → P a → Q a → R a) → IfOk r P → IfOk r Q → IfOk r R
if_both P Q R (Ok a) f h k = f a h k
if_both P Q R (Err e) f h k = h

pub some_both : {A : Type 0} (P Q : A → Type 0) (o : Option A) → ((a : A) → P a → Q a) → IfSome o P → IfSome o Q
some_both P Q (Some a) f h = f a h
some_both P Q None f h = h

pub none_both : {A P Q : Type 0} (o : Option A) → (P → Q) → IfNone o P → IfNone o Q
none_both (Some a) f h = h
none_both None f h = f h
