-- The parameters of each method (LSP 3.17), as a function of their JSON value: the form, or the fault.
use Rattle.std.specs.Prelude.{ℕ, List, codes, Option, Some, None, Result, Ok, Err}
use Rattle.serde_json.specs.Data.{Data, Num, null, boolean, number, string, array, object, Items, no_items, item}
use Rattle.serde_json.specs.Find.{get}
use Rattle.terms.specs.Faults.{greatest_depth}
use Rattle.lsp_forms.specs.Params.{member_of, text_of, number_of, whole, each, fault}
use Rattle.lsp_forms.specs.declared.forms.ParamFault.{ParamFault}
use Rattle.lsp_forms.specs.declared.forms.Initialize.{Initialize}
use Rattle.lsp_forms.specs.declared.forms.DidOpen.{DidOpen}
use Rattle.lsp_forms.specs.declared.forms.DidChange.{DidChange}
use Rattle.lsp_forms.specs.declared.forms.DidClose.{DidClose}
use Rattle.lsp_forms.specs.declared.forms.ChangeForm.{ChangeForm}
use Rattle.lsp_forms.specs.declared.forms.Completion.{Completion}

-- `textDocument.uri`
abbrev pub uri_in : Data → Option (List ℕ)
uri_in d = text_of (member_of (codes "uri") (get (codes "textDocument") d))

-- `textDocument/didClose`
unfoldable pub did_close_from : Option (List ℕ) → Result DidClose ParamFault
did_close_from None = Err (fault 1)
did_close_from (Some uri) = Ok (record { uri = uri })

abbrev pub did_close_of : Data → Result DidClose ParamFault
did_close_of d = did_close_from (uri_in d)

-- `textDocument/didOpen`
unfoldable pub did_open_from : Option (List ℕ) → Option (List ℕ) → Result DidOpen ParamFault
did_open_from None text = Err (fault 1)
did_open_from (Some uri) None = Err (fault 1)
did_open_from (Some uri) (Some text) = Ok (record { uri = uri; text = text })

abbrev pub did_open_of : Data → Result DidOpen ParamFault
did_open_of d = did_open_from (uri_in d) (text_of (member_of (codes "text") (get (codes "textDocument") d)))

-- `textDocument/completion`: what is missing comes before what is out of its range.
unfoldable pub completion_at : List ℕ → Option ℕ → Option ℕ → Result Completion ParamFault
completion_at uri None character = Err (fault 2)
completion_at uri (Some line) None = Err (fault 2)
completion_at uri (Some line) (Some character) = Ok (record { uri = uri; line = line; character = character })

unfoldable pub completion_from : Option (List ℕ) → Option Num → Option Num → Result Completion ParamFault
completion_from None line character = Err (fault 1)
completion_from (Some uri) None character = Err (fault 1)
completion_from (Some uri) (Some line) None = Err (fault 1)
completion_from (Some uri) (Some line) (Some character) = completion_at uri (whole line 0 2147483647) (whole character 0 2147483647)

abbrev pub completion_of : Data → Result Completion ParamFault
completion_of d = completion_from (uri_in d) (number_of (member_of (codes "line") (get (codes "position") d))) (number_of (member_of (codes "character") (get (codes "position") d)))

-- A line or character of a range.
unfoldable pub place_number : Option Num → Option ℕ
place_number None = None
place_number (Some n) = whole n 0 2147483647

unfoldable pub place_from : Option ℕ → Option ℕ → Option (ℕ × ℕ)
place_from None character = None
place_from (Some line) None = None
place_from (Some line) (Some character) = Some (line, character)

-- A position of a range.
abbrev pub range_position : Option Data → Option (ℕ × ℕ)
range_position d = place_from (place_number (number_of (member_of (codes "line") d))) (place_number (number_of (member_of (codes "character") d)))

unfoldable pub range_from : Option (ℕ × ℕ) → Option (ℕ × ℕ) → Option (Option ((ℕ × ℕ) × (ℕ × ℕ)))
range_from None end = None
range_from (Some start) None = None
range_from (Some start) (Some end) = Some (Some (start, end))

-- An optional range: none where it isn't well formed, `Some None` where it is left out.
unfoldable pub range_of : Option Data → Option (Option ((ℕ × ℕ) × (ℕ × ℕ)))
range_of None = Some None
range_of (Some null) = Some None
range_of (Some (boolean b)) = None
range_of (Some (number n)) = None
range_of (Some (string s)) = None
range_of (Some (array ds)) = None
range_of (Some (object ms)) = range_from (range_position (get (codes "start") (object ms))) (range_position (get (codes "end") (object ms)))

unfoldable pub change_from : Option (List ℕ) → Option (Option ((ℕ × ℕ) × (ℕ × ℕ))) → Option ChangeForm
change_from None range = None
change_from (Some text) None = None
change_from (Some text) (Some range) = Some (record { range = range; text = text })

-- One change of a `didChange`, or none where it isn't well formed.
abbrev pub change_of : Data → Option ChangeForm
change_of d = change_from (text_of (get (codes "text") d)) (range_of (get (codes "range") d))

-- All changes, or none where one isn't well formed.
abbrev pub changes_of : Items → Option (List ChangeForm)
changes_of ds = each change_of ds

unfoldable pub changes_in : Option Data → Option (List ChangeForm)
changes_in None = None
changes_in (Some null) = None
changes_in (Some (boolean b)) = None
changes_in (Some (number n)) = None
changes_in (Some (string s)) = None
changes_in (Some (array ds)) = changes_of ds
changes_in (Some (object ms)) = None

-- `textDocument/didChange`: refused only without a URI.
unfoldable pub did_change_from : Option (List ℕ) → Option (List ChangeForm) → Result DidChange ParamFault
did_change_from None changes = Err (fault 1)
did_change_from (Some uri) changes = Ok (record { uri = uri; changes = changes })

abbrev pub did_change_of : Data → Result DidChange ParamFault
did_change_of d = did_change_from (uri_in d) (changes_in (get (codes "contentChanges") d))

-- An optional number: none where it is of another kind, `Some None` where it is left out.
unfoldable pub optional : Option Data → Option (Option Num)
optional None = Some None
optional (Some null) = Some None
optional (Some (boolean b)) = None
optional (Some (number n)) = Some (Some n)
optional (Some (string s)) = None
optional (Some (array ds)) = None
optional (Some (object ms)) = None

-- The number, or what stands in its place where it is left out.
unfoldable pub whole_or : Option Num → ℕ → ℕ → ℕ → Option ℕ
whole_or None low high default = Some default
whole_or (Some n) low high default = whole n low high

unfoldable pub options_in : Option ℕ → Option ℕ → Option ℕ → Result Initialize ParamFault
options_in None depth count = Err (fault 2)
options_in (Some limit) None count = Err (fault 2)
options_in (Some limit) (Some depth) None = Err (fault 2)
options_in (Some limit) (Some depth) (Some count) = Ok (record { limit = limit; depth = depth; count = count })

unfoldable pub options_from : Option (Option Num) → Option (Option Num) → Option (Option Num) → Result Initialize ParamFault
options_from None depth count = Err (fault 1)
options_from (Some limit) None count = Err (fault 1)
options_from (Some limit) (Some depth) None = Err (fault 1)
options_from (Some limit) (Some depth) (Some count) = options_in (whole_or limit 1 10000 4000) (whole_or depth 0 greatest_depth 1) (whole_or count 1 1000 20)

-- `initializationOptions`. An empty array counts as an object without members: an editor whose tables are empty writes it so.
unfoldable pub initialize_from : Option Data → Result Initialize ParamFault
initialize_from None = Ok (record { limit = 4000; depth = 1; count = 20 })
initialize_from (Some null) = Ok (record { limit = 4000; depth = 1; count = 20 })
initialize_from (Some (boolean b)) = Err (fault 1)
initialize_from (Some (number n)) = Err (fault 1)
initialize_from (Some (string s)) = Err (fault 1)
initialize_from (Some (array no_items)) = Ok (record { limit = 4000; depth = 1; count = 20 })
initialize_from (Some (array (item d ds))) = Err (fault 1)
initialize_from (Some (object ms)) = options_from (optional (get (codes "limit") (object ms))) (optional (get (codes "depth") (object ms))) (optional (get (codes "count") (object ms)))

-- `initialize`
abbrev pub initialize_of : Data → Result Initialize ParamFault
initialize_of d = initialize_from (get (codes "initializationOptions") d)
