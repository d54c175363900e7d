-- The word that a form shows of its own.
use Rattle.std.specs.Prelude.{ℕ, List, codes}
use Rattle.terms.specs.declared.parts.Form.{Form}
use Rattle.terms.specs.declared.parts.Form.TheVariants.{Name, This, Call, New, Method, Field, Lambda}

-- the text of a form, and `this`
abbrev pub key : Form → List ℕ
key (Name s) = s
key This = codes "this"
key (Call s) = s
key (New s) = s
key (Method s) = s
key (Field s hidden) = s
key (Lambda s) = s
