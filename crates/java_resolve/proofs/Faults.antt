-- What faults of texts say.
use Rattle.std.proofs.Common.{◌≡◌, sym, subst, ℕ, List, Result, Ok, Err, IfOk, IfErr, OnOk}
use Rattle.terms.specs.declared.parts.Parts.{Parts}
use Rattle.java_shapes.specs.Shape.{Shape as Tree, shown}
use Rattle.java_shapes.specs.Grammar.{IsShape}
use Rattle.java_resolve.specs.declared.fault.ReadFault.{ReadFault}
use Rattle.java_resolve.specs.declared.fault.ReadFault.TheVariants as read
use Rattle.java_resolve.specs.declared.fault.TextFault.{TextFault}
use Rattle.java_resolve.specs.declared.fault.TextFault.TheVariants as fault
use Rattle.java_resolve.specs.Places.{SyntaxAt}
use Rattle.java_resolve.specs.Faults.{FaultAt, UnknownAt, text_fault}

pub fault_of : (g : Parts) (binder text : List ℕ) (f : ReadFault) → SyntaxAt binder text f → FaultAt g binder text (text_fault f)
fault_of g binder text read.OutOfMemory h = tt
fault_of g binder text (read.Syntax at) h = h

pub fault_as : (g : Parts) (binder text : List ℕ) (f : ReadFault) (t : TextFault) → t ≡ text_fault f → SyntaxAt binder text f → FaultAt g binder text t
fault_as g binder text f t e h = subst (λ x. FaultAt g binder text x) (sym e) (fault_of g binder text f h)

fault_at : (g : Parts) (binder text : List ℕ) (s : Tree) (f : TextFault) → IsShape binder s → shown s ≡ text → UnknownAt g s f → FaultAt g binder text f
fault_at g binder text s fault.OutOfMemory w e h = tt
fault_at g binder text s (fault.Syntax at) w e h = absurd h
fault_at g binder text s fault.WrongType w e h = absurd h
fault_at g binder text s fault.TwoWays w e h = absurd h
fault_at g binder text s (fault.Unknown at) w e h = record { shape = s; well_formed = w; is = e; place = h }

pub faults_of : {A : Type 0} (g : Parts) (binder text : List ℕ) (s : Tree) (r : Result A TextFault) → IsShape binder s → shown s ≡ text → IfErr r (UnknownAt g s) → IfErr r (FaultAt g binder text)
faults_of g binder text s (Ok a) w e h = h
faults_of g binder text s (Err f) w e h = fault_at g binder text s f w e h

-- what holds of a shape holds of an answer that is it
pub if_same : {A E : Type 0} (P : A → Type 0) (r : Result A E) (x : A) → IfOk r (λ s. s ≡ x) → P x → IfOk r P
if_same P (Ok s) x e h = subst P (sym e) h
if_same P (Err f) x e h = e

pub if_known : {A E : Type 0} (P : A → Type 0) (r : Result A E) (x : A) → IfOk r (λ s. s ≡ x) → OnOk r (P x) → IfOk r P
if_known P (Ok s) x e h = subst P (sym e) h
if_known P (Err f) x e h = e
