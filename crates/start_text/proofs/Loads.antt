-- What a load says of the text or the file held under its name.
use Rattle.std.proofs.Common.{◌≡◌, ◌∙◌, ap, sym, subst, refl, rules, inl, inr, ℕ, ◌≤◌, ◌⊎◌, Bool, true, false, List, length, Option, Some, None, Result, Err}
use Rattle.std.specs.Prelude.{◌≢◌, IsErrOf, nat_le, if◌then◌else◌, IfSome}
use Rattle.std.specs.Str.{is_utf8, IsUtf8}
use Rattle.std.proofs.lemmas.Str.{IsUtf8-from_is_utf8, is_utf8-from_IsUtf8}
use Rattle.outside.specs.Held.{held_under, longest_load, answer_for, Gives}
use Rattle.outside.specs.declared.shelf.HeldFile.{HeldFile}
use Rattle.outside.specs.declared.shelf.Loaded.{Loaded}
use Rattle.outside.specs.declared.shelf.Loaded.TheVariants.{Bytes, Missing, TooLong}
use Rattle.class_shape.specs.Violations.{first_violation}
use Rattle.class_pool.specs.declared.fault.ClassFault.{ClassFault}
use Rattle.class_pool.specs.declared.fault.ClassCause.{ClassCause}
use Rattle.class_pool.specs.declared.fault.ClassCause.TheVariants as class
use Rattle.decl_index.specs.declared.change.ChangeFault.{ChangeFault}
use Rattle.decl_index.specs.declared.change.ChangeFault.TheVariants as change
use Rattle.start_text.specs.Faults.{IsOutside, of_class, of_change}
use Rattle.start_text.specs.Starts.{text_fault, file_fault}
use Rattle.start_text.specs.declared.fault.StartFault.{StartFault}
use Rattle.start_text.specs.declared.fault.StartFault.TheVariants.{NoText, LongText, NotUtf8, NoFile, LongFile, NotClass, Failed}

le_true : (m n : ℕ) → m ≤ n → nat_le m n ≡ true
le_true m n l = search rules

not_utf8 : (b : Bool) → (b ≡ true → false ≡ true) → (if b then None else Some NotUtf8) ≡ Some NotUtf8
not_utf8 true f = let h : false ≡ true = f refl in cc
not_utf8 false f = refl

pub text-good : (bytes : List ℕ) → length bytes ≤ longest_load → IsUtf8 bytes → text_fault (Some bytes) ≡ None
text-good bytes l u = rw (le_true (length bytes) longest_load l, is_utf8-from_IsUtf8 bytes u) refl

pub text-bad : (bytes : List ℕ) → length bytes ≤ longest_load → (IsUtf8 bytes → false ≡ true) → text_fault (Some bytes) ≡ Some NotUtf8
text-bad bytes l f = rw (le_true (length bytes) longest_load l) (not_utf8 (is_utf8 bytes) (λ b. f (IsUtf8-from_is_utf8 bytes b)))

pub file-good : (line : ℕ) (bytes : List ℕ) → length bytes ≤ longest_load → first_violation bytes ≡ None → file_fault line (Some bytes) ≡ None
file-good line bytes l e = rw (le_true (length bytes) longest_load l, e) refl

pub file-bad : (line : ℕ) (bytes : List ℕ) (why : ClassFault) → length bytes ≤ longest_load → first_violation bytes ≡ Some why → file_fault line (Some bytes) ≡ Some (NotClass line why)
file-bad line bytes why l e = rw (le_true (length bytes) longest_load l, e) refl

not_missing : (b : Bool) (n : ℕ) → Missing ≡ (if b then Bytes else TooLong n) → ⊥
not_missing true n e = cc
not_missing false n e = cc

-- What a load answers decides what was held.
pub held-missing : (held : Option (List ℕ)) → Missing ≡ answer_for held → held ≡ None
unfolding answer_for
held-missing None e = refl
held-missing (Some bytes) e = absurd (not_missing (nat_le (length bytes) longest_load) (length bytes) e)

too_long : {A : Type 0} (b : Bool) (n m : ℕ) (x y : A) → TooLong n ≡ (if b then Bytes else TooLong m) → (if b then x else y) ≡ y
too_long true n m x y e = cc
too_long false n m x y e = refl

pub text-long : (held : Option (List ℕ)) (n : ℕ) → TooLong n ≡ answer_for held → text_fault held ≡ Some LongText
unfolding answer_for
text-long None n e = cc
text-long (Some bytes) n e = too_long (nat_le (length bytes) longest_load) n (length bytes) _ _ e

pub file-long : (line : ℕ) (held : Option (List ℕ)) (n : ℕ) → TooLong n ≡ answer_for held → file_fault line held ≡ Some (LongFile line)
unfolding answer_for
file-long line None n e = cc
file-long line (Some bytes) n e = too_long (nat_le (length bytes) longest_load) n (length bytes) _ _ e

-- What a shelf that tells its files says of a load.
pub told : (held : Option (List HeldFile)) (files : List HeldFile) (name : List ℕ) (loaded : Loaded) (out : List ℕ) → held ≡ Some files → IfSome held (λ fs. Gives (held_under fs name) loaded out) → Gives (held_under files name) loaded out
told held files name loaded out e h = subst (λ o. IfSome o (λ (fs : List HeldFile). Gives (held_under fs name) loaded out)) e h

pub text-missing : (held : Option (List HeldFile)) (files : List HeldFile) (name : List ℕ) (loaded : Loaded) (out : List ℕ) → loaded ≡ Missing → held ≡ Some files → IfSome held (λ fs. Gives (held_under fs name) loaded out) → text_fault (held_under files name) ≡ Some NoText
text-missing held files name loaded out is e h =
    let g = told held files name loaded out e h in
    ap (λ (o : Option (List ℕ)). text_fault o) (held-missing (held_under files name) (sym is ∙ g.0))

pub text-too_long : (held : Option (List HeldFile)) (files : List HeldFile) (name : List ℕ) (loaded : Loaded) (out : List ℕ) (n : ℕ) → loaded ≡ TooLong n → held ≡ Some files → IfSome held (λ fs. Gives (held_under fs name) loaded out) → text_fault (held_under files name) ≡ Some LongText
text-too_long held files name loaded out n is e h =
    let g = told held files name loaded out e h in
    text-long (held_under files name) n (sym is ∙ g.0)

pub file-missing : (line : ℕ) (held : Option (List HeldFile)) (files : List HeldFile) (name : List ℕ) (loaded : Loaded) (out : List ℕ) → loaded ≡ Missing → held ≡ Some files → IfSome held (λ fs. Gives (held_under fs name) loaded out) → file_fault line (held_under files name) ≡ Some (NoFile line)
file-missing line held files name loaded out is e h =
    let g = told held files name loaded out e h in
    ap (λ (o : Option (List ℕ)). file_fault line o) (held-missing (held_under files name) (sym is ∙ g.0))

pub file-too_long : (line : ℕ) (held : Option (List HeldFile)) (files : List HeldFile) (name : List ℕ) (loaded : Loaded) (out : List ℕ) (n : ℕ) → loaded ≡ TooLong n → held ≡ Some files → IfSome held (λ fs. Gives (held_under fs name) loaded out) → file_fault line (held_under files name) ≡ Some (LongFile line)
file-too_long line held files name loaded out n is e h =
    let g = told held files name loaded out e h in
    file-long line (held_under files name) n (sym is ∙ g.0)

-- A fault of a class file's bytes is what is wrong with the file, unless memory was wanting.
pub class-wrong : (line : ℕ) (bytes : List ℕ) (why : ClassFault) (cause : ClassCause) → length bytes ≤ longest_load → (cause ≢ class.OutOfMemory → first_violation bytes ≡ Some why) → IsOutside (of_class line why cause) ⊎ (file_fault line (Some bytes) ≡ Some (of_class line why cause))
class-wrong line bytes why class.OutOfMemory l f = inl tt
class-wrong line bytes why class.Truncated l f = inr (file-bad line bytes why l (f (λ e. cc)))
class-wrong line bytes why class.Magic l f = inr (file-bad line bytes why l (f (λ e. cc)))
class-wrong line bytes why class.Version l f = inr (file-bad line bytes why l (f (λ e. cc)))
class-wrong line bytes why class.Tag l f = inr (file-bad line bytes why l (f (λ e. cc)))
class-wrong line bytes why class.Place l f = inr (file-bad line bytes why l (f (λ e. cc)))
class-wrong line bytes why class.Extra l f = inr (file-bad line bytes why l (f (λ e. cc)))
class-wrong line bytes why class.Descriptor l f = inr (file-bad line bytes why l (f (λ e. cc)))
class-wrong line bytes why class.Name l f = inr (file-bad line bytes why l (f (λ e. cc)))
class-wrong line bytes why class.Attribute l f = inr (file-bad line bytes why l (f (λ e. cc)))

-- It is no failure of the shelf.
pub class-inside : {T : Type 0} (line : ℕ) (why : ClassFault) (cause : ClassCause) (r : Result T StartFault) → r ≡ Err (of_class line why cause) → IsErrOf r Failed → ⊥
class-inside line why class.OutOfMemory r is e = cc
class-inside line why class.Truncated r is e = cc
class-inside line why class.Magic r is e = cc
class-inside line why class.Version r is e = cc
class-inside line why class.Tag r is e = cc
class-inside line why class.Place r is e = cc
class-inside line why class.Extra r is e = cc
class-inside line why class.Descriptor r is e = cc
class-inside line why class.Name r is e = cc
class-inside line why class.Attribute r is e = cc

-- A change's refusal is no failure of the shelf.
pub change-inside : {T : Type 0} (fault : ChangeFault) (r : Result T StartFault) → r ≡ Err (of_change fault) → IsErrOf r Failed → ⊥
change-inside change.OutOfMemory r is e = cc
change-inside (change.Cyclic name) r is e = cc
change-inside (change.Full parts) r is e = cc
change-inside (change.TooHigh through) r is e = cc
change-inside change.JournalFull r is e = cc
change-inside (change.NestCycle name) r is e = cc
