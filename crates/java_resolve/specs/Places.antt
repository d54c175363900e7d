-- The places that faults name.
use Rattle.std.specs.Prelude.{◌≡◌, ℕ, ◌≤◌, List, ◌++◌, length, Some, None, chars, encode_utf8_all}
use Rattle.java_shapes.specs.Shape.{Shape, shown}
use Rattle.java_shapes.specs.Grammar.{IsShape, IsBegun}
use Rattle.java_shapes.specs.Reader.{Part, top, start, run}
use Rattle.java_resolve.specs.declared.fault.ReadFault.{ReadFault}
use Rattle.java_resolve.specs.declared.fault.ReadFault.TheVariants.{OutOfMemory, Syntax}

-- a text is of no expression, and this is the length in bytes of its longest prefix with which one begins
pub record IsSyntaxPlace (binder text : List ℕ) (at : ℕ) : Type 0 where
  pub no_text : (s : Shape) → IsShape binder s → shown s ≡ text → ⊥
  pub prefix : List ℕ
  pub rest : List ℕ
  pub is : text ≡ prefix ++ rest
  pub begins : IsBegun binder prefix
  pub longest : (longer more : List ℕ) → text ≡ longer ++ more → IsBegun binder longer → length longer ≤ length prefix
  pub bytes : at ≡ length (encode_utf8_all prefix)

abbrev pub SyntaxAt : List ℕ → List ℕ → ReadFault → Type 0
SyntaxAt binder text OutOfMemory = Unit {0}
SyntaxAt binder text (Syntax at) = IsSyntaxPlace binder text at

-- the reader has read the characters of a text before this rest, and is here
pub record IsReadTo (binder text rest : List ℕ) (place : Part) : Type 0 where
  pub read : List ℕ
  pub is : chars text ≡ read ++ chars rest
  pub bytes : text ≡ encode_utf8_all read ++ rest
  pub runs : run binder (start top None) read ≡ Some place
