-- The parameters of `workspace/executeCommand` (LSP 3.17): the command and its one argument, an object.
use Rattle.std.specs.Prelude.{ℕ, suc, List, codes, bytes_eq, Bool, true, ◌&&◌, is_some, Option, Some, None, option_map, Result, Ok, Err, if◌then◌else◌}
use Rattle.serde_json.specs.Data.{Data, Num, null, boolean, number, string, array, object, Items, no_items, item}
use Rattle.serde_json.specs.Find.{get, at, as_str}
use Rattle.type_names.specs.Names.{is_internal}
use Rattle.lsp_forms.specs.Forms.{optional}
use Rattle.lsp_forms.specs.Params.{member_of, text_of, number_of, whole, every, fault, numbered}
use Rattle.lsp_forms.specs.Paths.{path_of}
use Rattle.lsp_forms.specs.Keys.{is_key}
use Rattle.lsp_forms.specs.Weighing.{weights_of}
use Rattle.lsp_forms.specs.declared.forms.ParamFault.{ParamFault}
use Rattle.lsp_forms.specs.declared.forms.Command.{Command}
use Rattle.lsp_forms.specs.declared.forms.Command.TheVariants.{Page, Close, Explain, Publish, Withdraw}

-- The one item of a list of one object.
unfoldable pub object_alone : Option Data → Option Data → Option Data
object_alone None next = None
object_alone (Some null) next = None
object_alone (Some (boolean b)) next = None
object_alone (Some (number n)) next = None
object_alone (Some (string s)) next = None
object_alone (Some (array ds)) next = None
object_alone (Some (object ms)) None = Some (object ms)
object_alone (Some (object ms)) (Some d) = None

unfoldable pub only_object : Option Data → Option Data
only_object None = None
only_object (Some d) = object_alone (at 0 d) (at 1 d)

-- A cursor, a version or a count of uses: 32 bits.
abbrev pub word : Num → Option ℕ
word n = whole n 0 4294967295

-- `insynth.page`
unfoldable pub page_at : Option ℕ → Option ℕ → Result Command ParamFault
page_at None count = Err (fault 2)
page_at (Some cursor) None = Err (fault 2)
page_at (Some cursor) (Some count) = Ok (Page cursor count)

unfoldable pub page_from : Option Num → Option Num → Result Command ParamFault
page_from None count = Err (fault 1)
page_from (Some cursor) None = Err (fault 1)
page_from (Some cursor) (Some count) = page_at (word cursor) (whole count 1 1000)

abbrev pub page_of : Option Data → Result Command ParamFault
page_of o = page_from (number_of (member_of (codes "cursor") o)) (number_of (member_of (codes "count") o))

-- A command with one number.
unfoldable pub one_at : (ℕ → Command) → Option ℕ → Result Command ParamFault
one_at f None = Err (fault 2)
one_at f (Some n) = Ok (f n)

unfoldable pub one_from : (ℕ → Command) → Option Num → Result Command ParamFault
one_from f None = Err (fault 1)
one_from f (Some n) = one_at f (word n)

-- `insynth.close`
abbrev pub close_of : Option Data → Result Command ParamFault
close_of o = one_from Close (number_of (member_of (codes "cursor") o))

-- `insynth.withdraw`
abbrev pub withdraw_of : Option Data → Result Command ParamFault
withdraw_of o = one_from Withdraw (number_of (member_of (codes "through") o))

-- An optional number of 32 bits: none where it is out of the range, `Some None` where it is left out.
unfoldable pub word_if : Option Num → Option (Option ℕ)
word_if None = Some None
word_if (Some n) = option_map Some (word n)

-- `insynth.explain`: what is missing or of another kind comes before what is out of its range.
unfoldable pub explain_at : Option ℕ → Option (Option ℕ) → Result Command ParamFault
explain_at None i = Err (fault 2)
explain_at (Some cursor) None = Err (fault 2)
explain_at (Some cursor) (Some i) = Ok (Explain cursor i)

unfoldable pub explain_from : Option Num → Option (Option Num) → Result Command ParamFault
explain_from None i = Err (fault 1)
explain_from (Some cursor) None = Err (fault 1)
explain_from (Some cursor) (Some i) = explain_at (word cursor) (word_if i)

abbrev pub explain_of : Option Data → Result Command ParamFault
explain_of o = explain_from (number_of (member_of (codes "cursor") o)) (optional (member_of (codes "item") o))

-- An optional list, empty where it is left out.
unfoldable pub list_of : Option Data → Option Items
list_of None = Some no_items
list_of (Some null) = Some no_items
list_of (Some (boolean b)) = None
list_of (Some (number n)) = None
list_of (Some (string s)) = None
list_of (Some (array ds)) = Some ds
list_of (Some (object ms)) = None

-- A list of exactly a text and a number.
unfoldable pub pair_from : Option (List ℕ) → Option Num → Option Data → Option (List ℕ × Num)
pair_from None n next = None
pair_from (Some key) None next = None
pair_from (Some key) (Some n) (Some d) = None
pair_from (Some key) (Some n) None = Some (key, n)

abbrev pub pair_of : Data → Option (List ℕ × Num)
pair_of d = pair_from (text_of (at 0 d)) (number_of (at 1 d)) (at 2 d)

abbrev pub is_text : Data → Bool
is_text d = is_some (as_str d)

abbrev pub is_pair : Data → Bool
is_pair d = is_some (pair_of d)

-- Whether the number of a pair is a count of uses.
unfoldable pub counts : Option (List ℕ × Num) → Bool
counts None = true
counts (Some p) = is_some (word p.1)

-- An item of `put` or of `sources`: the path of a file URI.
unfoldable pub path_from_text : Option (List ℕ) → Option (List ℕ)
path_from_text None = None
path_from_text (Some text) = path_of text

-- An item of `remove` or of `known`: an internal name.
unfoldable pub name_from_text : Option (List ℕ) → Option (List ℕ)
name_from_text None = None
name_from_text (Some text) = if is_internal true text then Some text else None

-- An item of `counts`: a key and a count of uses.
unfoldable pub use_at : List ℕ → Option ℕ → Option (List ℕ × ℕ)
use_at key None = None
use_at key (Some n) = if is_key key then Some (key, n) else None

unfoldable pub use_from_pair : Option (List ℕ × Num) → Option (List ℕ × ℕ)
use_from_pair None = None
use_from_pair (Some p) = use_at p.0 (word p.1)

-- How many items a list has.
unfoldable pub size : Items → ℕ
size no_items = 0
size (item d ds) = suc (size ds)

-- The paths of file URIs, the first of which has the number n.
abbrev pub paths_at : ℕ → Items → Result (List (List ℕ)) ParamFault
paths_at n ds = numbered 8 (λ d. path_from_text (as_str d)) n ds

-- The internal names of a list, or the fault of this cause of the first item that is none.
abbrev pub names_at : ℕ → Items → Result (List (List ℕ)) ParamFault
names_at cause ds = numbered cause (λ d. name_from_text (as_str d)) 0 ds

-- The keys and counts of a list.
abbrev pub uses_at : Items → Result (List (List ℕ × ℕ)) ParamFault
uses_at ds = numbered 13 (λ d. use_from_pair (pair_of d)) 0 ds

-- `insynth.publish`, whose items are of the right kinds: the first fault of `put`, else of `sources`, of `remove`, of
-- `counts`, of `known`.
unfoldable pub published : Result (List (List ℕ)) ParamFault → Result (List (List ℕ)) ParamFault → Result (List (List ℕ)) ParamFault → Result (List (List ℕ × ℕ)) ParamFault → Result (List (List ℕ)) ParamFault → Result Command ParamFault
published (Err e) sources names uses known = Err e
published (Ok paths) (Err e) names uses known = Err e
published (Ok paths) (Ok sources) (Err e) uses known = Err e
published (Ok paths) (Ok sources) (Ok names) (Err e) known = Err e
published (Ok paths) (Ok sources) (Ok names) (Ok uses) (Err e) = Err e
published (Ok paths) (Ok sources) (Ok names) (Ok uses) (Ok known) = Ok (Publish paths names uses sources known)

-- The items of `sources` are numbered behind those of `put`.
unfoldable pub publish_at : Items → Items → Items → Items → Items → Result Command ParamFault
publish_at puts removes counted sources known =
    if every is_text puts && (every is_text removes && (every is_pair counted && (every is_text sources && every is_text known))) then
    (if every (λ d. counts (pair_of d)) counted then
    published (paths_at 0 puts) (paths_at (size puts) sources) (names_at 12 removes) (uses_at counted) (names_at 22 known)
    else Err (fault 2))
    else Err (fault 1)

unfoldable pub publish_from : Option Items → Option Items → Option Items → Option Items → Option Items → Result Command ParamFault
publish_from None removes counted sources known = Err (fault 1)
publish_from (Some puts) None counted sources known = Err (fault 1)
publish_from (Some puts) (Some removes) None sources known = Err (fault 1)
publish_from (Some puts) (Some removes) (Some counted) None known = Err (fault 1)
publish_from (Some puts) (Some removes) (Some counted) (Some sources) None = Err (fault 1)
publish_from (Some puts) (Some removes) (Some counted) (Some sources) (Some known) = publish_at puts removes counted sources known

unfoldable pub publish_of : Option Data → Result Command ParamFault
publish_of None = Err (fault 1)
publish_of (Some d) =
    publish_from (list_of (get (codes "put") d)) (list_of (get (codes "remove") d)) (list_of (get (codes "counts") d)) (list_of (get (codes "sources") d)) (list_of (get (codes "known") d))

-- A command by its name.
unfoldable pub named_command : List ℕ → Option Data → Result Command ParamFault
named_command name argument =
    if bytes_eq name (codes "insynth.page") then page_of argument
    else if bytes_eq name (codes "insynth.close") then close_of argument
    else if bytes_eq name (codes "insynth.explain") then explain_of argument
    else if bytes_eq name (codes "insynth.publish") then publish_of argument
    else if bytes_eq name (codes "insynth.weights") then weights_of argument
    else if bytes_eq name (codes "insynth.withdraw") then withdraw_of argument
    else Err (fault 7)

unfoldable pub command_from : Option (List ℕ) → Option Data → Result Command ParamFault
command_from None argument = Err (fault 1)
command_from (Some name) argument = named_command name argument

-- `workspace/executeCommand`
abbrev pub command_of : Data → Result Command ParamFault
command_of d = command_from (text_of (get (codes "command") d)) (only_object (get (codes "arguments") d))
