-- The results of the methods as JSON values (LSP 3.17, "Initialize Request", "Completion Request").
use Rattle.std.specs.Prelude.{ℕ, ◌+◌, ◌-◌, List, [], ◌∷◌, ◌++◌, length, replicate, codes, decimal, Bool, true, not, Option, option_and_then}
use Rattle.serde_json.specs.Data.{Data, number, unsigned, boolean, string, array, object, no_items, item, no_members, member}
use Rattle.serde_json.specs.Find.{get, at}
use Rattle.serde_json.specs.View.{items_of}
use Rattle.lsp_forms.specs.declared.forms.ItemForm.{ItemForm}

-- A whole number as a JSON value.
abbrev pub whole_number : ℕ → Data
whole_number n = number (unsigned n)

-- The commands of `workspace/executeCommand`.
abbrev pub commands : Data
commands =
    array (item (string (codes "insynth.close")) (item (string (codes "insynth.explain")) (item (string (codes "insynth.page"))
    (item (string (codes "insynth.publish")) (item (string (codes "insynth.weights")) (item (string (codes "insynth.withdraw")) no_items))))))

-- The answer to `initialize`.
abbrev pub capabilities : Data
capabilities =
    object (member (codes "capabilities") (object
    (member (codes "completionProvider") (object no_members)
    (member (codes "executeCommandProvider") (object (member (codes "commands") commands no_members))
    (member (codes "positionEncoding") (string (codes "utf-16"))
    (member (codes "textDocumentSync") (object
    (member (codes "change") (whole_number 2) (member (codes "openClose") (boolean true) no_members))) no_members)))))
    (member (codes "serverInfo") (object (member (codes "name") (string (codes "insynthd")) no_members)) no_members))

-- The number of a version.
abbrev pub version_answer : ℕ → Data
version_answer n = object (member (codes "version") (whole_number n) no_members)

-- A position: its line and its UTF-16 unit.
abbrev pub position : ℕ × ℕ → Data
position p = object (member (codes "character") (whole_number p.1) (member (codes "line") (whole_number p.0) no_members))

-- A range from its start to its end.
abbrev pub range : ℕ × ℕ → ℕ × ℕ → Data
range start end = object (member (codes "end") (position end) (member (codes "start") (position start) no_members))

-- A number in ten digits with zeros, or in more where it needs them.
unfoldable pub ten_digits : ℕ → List ℕ
ten_digits n = replicate (10 - length (decimal n)) 48 ++ decimal n

-- An item with its number in the whole list.
abbrev pub item_answer : ℕ → Data → ItemForm → Data
item_answer n range form =
    object (member (codes "detail") (string (decimal form.weight)) (member (codes "label") (string form.text)
    (member (codes "sortText") (string (ten_digits n))
    (member (codes "textEdit") (object (member (codes "newText") (string form.text) (member (codes "range") range no_members))) no_members))))

-- Items, the first of which has the number n.
unfoldable pub item_answers : ℕ → Data → List ItemForm → List Data
item_answers n range [] = []
item_answers n range (form ∷ forms) = item_answer n range form ∷ item_answers (n + 1) range forms

-- What a page says beside its items.
abbrev pub state_answer : ℕ → ℕ → ℕ → Bool → ℕ → Data
state_answer cursor from grown last version =
    object (member (codes "cursor") (whole_number cursor) (member (codes "from") (whole_number from) (member (codes "grown") (whole_number grown)
    (member (codes "last") (boolean last) (member (codes "version") (whole_number version) no_members)))))

abbrev pub page_answer : Data → Bool → Data → Data
page_answer state last items =
    object (member (codes "insynth") state (member (codes "isIncomplete") (boolean (not last)) (member (codes "items") items no_members)))

-- A page of a list.
abbrev pub list_answer : ℕ → ℕ → ℕ → Bool → ℕ → List ItemForm → ℕ × ℕ → ℕ × ℕ → Data
list_answer cursor from grown last version forms start end =
    page_answer (state_answer cursor from grown last version) last (array (items_of (item_answers from (range start end) forms)))

-- Item number i of a page, counted from 0.
abbrev pub item_at : ℕ → Data → Option Data
item_at i page = option_and_then (at i) (get (codes "items") page)
