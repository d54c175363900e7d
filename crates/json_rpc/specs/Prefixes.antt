-- How far the prefix of the bytes that are held has been read.
use Rattle.std.specs.Prelude.{◌≡◌, ℕ, ◌≤◌, List, ◌++◌, length, drop}
use Rattle.json_rpc.specs.Heads.{start, scan_from}
use Rattle.json_rpc.specs.declared.header.Scan.{Scan}
use Rattle.json_rpc.specs.declared.header.Prefix.{Prefix}
use Rattle.json_rpc.specs.declared.header.Prefix.TheVariants.{Part, Body}
use Rattle.json_rpc.specs.declared.header.Reading.TheVariants.{Whole}

-- Whatever follows these bytes, a reading goes on from the one scan as from the other.
pub record Leads (bytes : List ℕ) (old new : Scan) : Type 0 where
  pub goes : (more : List ℕ) → scan_from old.read old.line old.head (drop old.read bytes ++ more) ≡ scan_from new.read new.line new.head (drop new.read bytes ++ more)

-- A header part that is read so far, in the bytes held.
pub record IsPartOf (held : List ℕ) (scan : Scan) : Type 0 where
  pub within : scan.read ≤ length held
  pub line : scan.line ≤ scan.read
  pub goes : (more : List ℕ) → scan_from 0 0 start (held ++ more) ≡ scan_from scan.read scan.line scan.head (drop scan.read held ++ more)

-- What is known of the prefix of the bytes held: a header part that is read so far, or a whole one of this many bytes.
abbrev pub IsPrefixOf : List ℕ → Prefix → Type 0
IsPrefixOf held (Part scan) = IsPartOf held scan
IsPrefixOf held (Body from head) = (from ≤ length held) × (scan_from 0 0 start held ≡ Whole from head)
