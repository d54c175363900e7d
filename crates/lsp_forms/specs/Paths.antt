-- The file that a URI names (URL Standard).
use Rattle.std.specs.Prelude.{ℕ, List, codes, bytes_eq, Option, Some, None, Ok, Err, Bool, ◌&&◌, not, if◌then◌else◌}
use Rattle.std.specs.Str.{is_utf8}
use Rattle.percent_encoding.specs.Percent.{percent_decode}
use Rattle.url.specs.Parser.{Parsed, parse_url}
use Rattle.url.specs.Parts.{Parts, has_host}

-- A URL of the scheme `file` with an empty host.
abbrev pub is_file : Parts → Bool
is_file url = bytes_eq url.scheme (codes "file") && not (has_host url)

-- Bytes, where they are UTF-8.
unfoldable pub as_text : List ℕ → Option (List ℕ)
as_text bytes = if is_utf8 bytes then Some bytes else None

-- The decoded path of such a URL, where it is UTF-8.
unfoldable pub path_in : Parts → Option (List ℕ)
path_in url = if is_file url then as_text (percent_decode url.path) else None

-- The same of a text, where it is a URL.
unfoldable pub path_from : Parsed Parts → Option (List ℕ)
path_from (Ok url) = path_in url
path_from (Err e) = None

abbrev pub path_of : List ℕ → Option (List ℕ)
path_of text = path_from (parse_url None text)
