-- Which causes the violations of each pass have, and the place of want of memory.
use Rattle.std.proofs.Common.{◌≡◌, ◌≢◌, ℕ, zero, suc, ◌+◌, ◌-◌, true, eqb, List, [], ◌∷◌, length, Option, Some, None, Result, Ok, Err, subst}
use Rattle.std.specs.Prelude.{IfErr}
use Rattle.std.specs.Str.{bytes_eq}
use Rattle.class_pool.specs.declared.fault.ClassFault.{ClassFault}
use Rattle.class_pool.specs.declared.fault.ClassCause.{ClassCause}
use Rattle.class_pool.specs.declared.fault.ClassCause.TheVariants.{Extra, Descriptor, Name, OutOfMemory}
use Rattle.class_pool.specs.Causes.{IsPoolCause}
use Rattle.class_pool.specs.Spelling.{Entry, Head}
use Rattle.class_pool.specs.Reading.{Gives, need, number_at, block_at, head_at}
use Rattle.class_pool.specs.Index.{slot, start_in, class_index, text_in}
use Rattle.class_pool.specs.Units.{text_of}
use Rattle.class_pool.proofs.CauseLaws.{bind_causes, test_causes, need_causes, number_causes, block_causes, head_causes, pool_wants_none, no_place}
use Rattle.type_names.specs.Names.{is_internal}
use Rattle.class_shape.specs.declared.shapes.ClassShape.{ClassShape}
use Rattle.class_shape.specs.declared.shapes.MemberKind.{MemberKind}
use Rattle.class_shape.specs.declared.shapes.MemberKind.TheVariants.{Field, Method}
use Rattle.class_shape.specs.declared.parts.MemberAt.{MemberAt}
use Rattle.class_shape.specs.declared.parts.OwnAt.{OwnAt}
use Rattle.class_shape.specs.declared.parts.RowAt.{RowAt}
use Rattle.class_shape.specs.Shapes.{inner_classes}
use Rattle.class_shape.specs.Reading.{many_at, counted_at, index_at, attribute_at, AttributeSeen, member_at, own_at, row_at, ListsSeen, lists_at, BodySeen, body_at}
use Rattle.class_shape.specs.Meaning.{needed, text_use, class_use, internal, spelled, class_name, plain_name, given, or_none, is_descriptor, well_formed, member_shape, row_shape, each, joined, rows_to_end, rows_in, inner_rows, attribute_rows, own_names, index_name, list_shapes, shape_of}
use Rattle.class_shape.specs.Violations.{shape_read, IsLayoutCause, IsMeaningCause}

-- ---- the first pass, after the pool
abbrev pub OfLayout : ClassFault → Type 0
OfLayout d = IsLayoutCause d.cause

many_causes : {A : Type 0} (read : List ℕ → Result (A × List ℕ) ClassFault) → ((bytes : List ℕ) → IfErr (read bytes) OfLayout) → (n : ℕ) (bytes : List ℕ) → IfErr (many_at read n bytes) OfLayout
unfolding many_at
many_causes read one zero bytes = tt
many_causes read one (suc n) bytes = bind_causes OfLayout (read bytes) _ (one bytes) (λ x. bind_causes OfLayout (many_at read n x.1) _ (many_causes read one n x.1) (λ xs. tt))

counted_causes : {A : Type 0} (total : ℕ) (read : List ℕ → Result (A × List ℕ) ClassFault) → ((bytes : List ℕ) → IfErr (read bytes) OfLayout) → (bytes : List ℕ) → IfErr (counted_at total read bytes) OfLayout
unfolding counted_at
counted_causes total read one bytes = bind_causes OfLayout (number_at total 2 bytes) _ (number_causes OfLayout total 2 bytes tt) (λ count. many_causes read one count.0 count.1)

index_causes : (total : ℕ) (bytes : List ℕ) → IfErr (index_at total bytes) OfLayout
unfolding index_at
index_causes total bytes = bind_causes OfLayout (number_at total 2 bytes) _ (number_causes OfLayout total 2 bytes tt) (λ n. tt)

attribute_causes : (total : ℕ) (bytes : List ℕ) → IfErr (attribute_at total bytes) OfLayout
unfolding attribute_at
attribute_causes total bytes =
    bind_causes OfLayout (index_at total bytes) _ (index_causes total bytes) (λ name.
    bind_causes OfLayout (number_at total 4 name.1) _ (number_causes OfLayout total 4 name.1 tt) (λ len.
    bind_causes OfLayout (block_at total len.0 len.1) _ (block_causes OfLayout total len.0 len.1 tt) (λ body. tt)))

member_causes : (total : ℕ) (bytes : List ℕ) → IfErr (member_at total bytes) OfLayout
unfolding member_at
member_causes total bytes =
    bind_causes OfLayout (number_at total 2 bytes) _ (number_causes OfLayout total 2 bytes tt) (λ flags.
    bind_causes OfLayout (index_at total flags.1) _ (index_causes total flags.1) (λ name.
    bind_causes OfLayout (index_at total name.1) _ (index_causes total name.1) (λ descriptor.
    bind_causes OfLayout (counted_at total (attribute_at total) descriptor.1) _ (counted_causes total (attribute_at total) (attribute_causes total) descriptor.1) (λ attributes. tt))))

own_causes : (total : ℕ) (bytes : List ℕ) → IfErr (own_at total bytes) OfLayout
unfolding own_at
own_causes total bytes =
    bind_causes OfLayout (number_at total 2 bytes) _ (number_causes OfLayout total 2 bytes tt) (λ flags.
    bind_causes OfLayout (index_at total flags.1) _ (index_causes total flags.1) (λ this.
    bind_causes OfLayout (index_at total this.1) _ (index_causes total this.1) (λ parent. tt)))

lists_causes : (total : ℕ) (bytes : List ℕ) → IfErr (lists_at total bytes) OfLayout
unfolding lists_at
lists_causes total bytes =
    bind_causes OfLayout (counted_at total (index_at total) bytes) _ (counted_causes total (index_at total) (index_causes total) bytes) (λ interfaces.
    bind_causes OfLayout (counted_at total (member_at total) interfaces.1) _ (counted_causes total (member_at total) (member_causes total) interfaces.1) (λ fields.
    bind_causes OfLayout (counted_at total (member_at total) fields.1) _ (counted_causes total (member_at total) (member_causes total) fields.1) (λ methods.
    bind_causes OfLayout (counted_at total (attribute_at total) methods.1) _ (counted_causes total (attribute_at total) (attribute_causes total) methods.1) (λ attributes. tt))))

pub body_causes : (total : ℕ) (bytes : List ℕ) → IfErr (body_at total bytes) OfLayout
unfolding body_at
body_causes total bytes =
    bind_causes OfLayout (own_at total bytes) _ (own_causes total bytes) (λ o.
    bind_causes OfLayout (lists_at total o.1) _ (lists_causes total o.1) (λ l.
    bind_causes OfLayout (need (eqb (length l.1) 0) (record { at = total - length l.1; cause = Extra })) _ (need_causes OfLayout (eqb (length l.1) 0) _ tt) (λ all. tt)))

-- ---- the second pass
abbrev pub OfMeaning : ClassFault → Type 0
OfMeaning d = IsMeaningCause d.cause

needed_causes : {A : Type 0} (at : ℕ) (o : Option A) → IfErr (needed at o) OfMeaning
needed_causes at (Some x) = tt
needed_causes at None = tt

class_use_causes : (es : List Entry) (at n : ℕ) → IfErr (class_use es at n) OfMeaning
unfolding class_use
class_use_causes es at n = bind_causes OfMeaning (needed at (class_index (slot es n))) _ (needed_causes at (class_index (slot es n))) (λ name. needed_causes (start_in es n + 1) (text_in es name))

spelled_causes : (at : ℕ) (o : Option (List ℕ)) → IfErr (spelled at o) OfMeaning
spelled_causes at (Some text) = tt
spelled_causes at None = tt

internal_causes : (at : ℕ) (o : Option (List ℕ)) → IfErr (internal at o) OfMeaning
internal_causes at (Some text) = test_causes OfMeaning (is_internal true text) (Ok text) (Err (record { at = at; cause = Name })) tt tt
internal_causes at None = tt

class_name_causes : (es : List Entry) (at n : ℕ) → IfErr (class_name es at n) OfMeaning
unfolding class_name
class_name_causes es at n = bind_causes OfMeaning (class_use es at n) _ (class_use_causes es at n) (λ raw. internal_causes at (text_of raw))

plain_name_causes : (es : List Entry) (at n : ℕ) → IfErr (plain_name es at n) OfMeaning
unfolding plain_name
plain_name_causes es at n = bind_causes OfMeaning (text_use es at n) _ (needed_causes at (text_in es n)) (λ raw. spelled_causes at (text_of raw))

given_causes : (r : Result (List ℕ) ClassFault) → IfErr r OfMeaning → IfErr (given r) OfMeaning
given_causes (Ok text) h = tt
given_causes (Err d) h = h

or_none_causes : (name : ℕ → ℕ → Result (List ℕ) ClassFault) (at n : ℕ) → IfErr (name at n) OfMeaning → IfErr (or_none name at n) OfMeaning
or_none_causes name at n h = test_causes OfMeaning (eqb n 0) (Ok None) (given (name at n)) tt (given_causes (name at n) h)

well_formed_causes : (kind : MemberKind) (at : ℕ) (o : Option (List ℕ)) → IfErr (well_formed kind at o) OfMeaning
well_formed_causes kind at None = tt
well_formed_causes kind at (Some text) = test_causes OfMeaning (is_descriptor kind text) (Ok (Some text)) (Err (record { at = at; cause = Descriptor })) tt tt

member_shape_causes : (es : List Entry) (kind : MemberKind) (m : MemberAt) → IfErr (member_shape es kind m) OfMeaning
unfolding member_shape
member_shape_causes es kind m =
    bind_causes OfMeaning (text_use es m.name.at m.name.index) _ (needed_causes m.name.at (text_in es m.name.index)) (λ name.
    bind_causes OfMeaning (text_use es m.descriptor.at m.descriptor.index) _ (needed_causes m.descriptor.at (text_in es m.descriptor.index)) (λ raw.
    bind_causes OfMeaning (well_formed kind m.descriptor.at (text_of raw)) _ (well_formed_causes kind m.descriptor.at (text_of raw)) (λ descriptor. tt)))

row_shape_causes : (es : List Entry) (r : RowAt) → IfErr (row_shape es r) OfMeaning
unfolding row_shape
row_shape_causes es r =
    bind_causes OfMeaning (class_name es r.inner.at r.inner.index) _ (class_name_causes es r.inner.at r.inner.index) (λ inner.
    bind_causes OfMeaning (or_none (class_name es) r.outer.at r.outer.index) _ (or_none_causes (class_name es) r.outer.at r.outer.index (class_name_causes es r.outer.at r.outer.index)) (λ outer.
    bind_causes OfMeaning (or_none (plain_name es) r.name.at r.name.index) _ (or_none_causes (plain_name es) r.name.at r.name.index (plain_name_causes es r.name.at r.name.index)) (λ name. tt)))

each_causes : {A B : Type 0} (f : A → Result B ClassFault) → ((x : A) → IfErr (f x) OfMeaning) → (xs : List A) → IfErr (each f xs) OfMeaning
unfolding each
each_causes f one [] = tt
each_causes f one (x ∷ xs) = bind_causes OfMeaning (f x) _ (one x) (λ y. bind_causes OfMeaning (each f xs) _ (each_causes f one xs) (λ ys. tt))

joined_causes : {A B : Type 0} (f : A → Result (List B) ClassFault) → ((x : A) → IfErr (f x) OfMeaning) → (xs : List A) → IfErr (joined f xs) OfMeaning
unfolding joined
joined_causes f one [] = tt
joined_causes f one (x ∷ xs) = bind_causes OfMeaning (f x) _ (one x) (λ y. bind_causes OfMeaning (joined f xs) _ (joined_causes f one xs) (λ ys. tt))

rows_causes : (at : ℕ) (r : Result (List RowAt × List ℕ) ClassFault) → IfErr (rows_to_end at r) OfMeaning
rows_causes at (Ok (rows, [])) = tt
rows_causes at (Ok (rows, b ∷ more)) = tt
rows_causes at (Err d) = tt

inner_rows_causes : (es : List Entry) (a : AttributeSeen) → IfErr (inner_rows es a) OfMeaning
unfolding inner_rows
inner_rows_causes es a = bind_causes OfMeaning (rows_in a) _ (rows_causes a.len_at (counted_at a.end (row_at a.end) a.body)) (λ rows. each_causes (row_shape es) (row_shape_causes es) rows)

attribute_rows_causes : (es : List Entry) (a : AttributeSeen) → IfErr (attribute_rows es a) OfMeaning
unfolding attribute_rows
attribute_rows_causes es a =
    bind_causes OfMeaning (text_use es a.name.at a.name.index) _ (needed_causes a.name.at (text_in es a.name.index)) (λ raw.
    test_causes OfMeaning (bytes_eq raw inner_classes) (inner_rows es a) (Ok []) (inner_rows_causes es a) tt)

own_names_causes : (es : List Entry) (o : OwnAt) → IfErr (own_names es o) OfMeaning
unfolding own_names
own_names_causes es o =
    bind_causes OfMeaning (class_name es o.this.at o.this.index) _ (class_name_causes es o.this.at o.this.index) (λ name.
    bind_causes OfMeaning (or_none (class_name es) o.parent.at o.parent.index) _ (or_none_causes (class_name es) o.parent.at o.parent.index (class_name_causes es o.parent.at o.parent.index)) (λ parent. tt))

list_shapes_causes : (es : List Entry) (l : ListsSeen) → IfErr (list_shapes es l) OfMeaning
unfolding list_shapes
list_shapes_causes es l =
    bind_causes OfMeaning (each (index_name es) l.interfaces) _ (each_causes (index_name es) (λ i. class_name_causes es i.at i.index) l.interfaces) (λ interfaces.
    bind_causes OfMeaning (each (member_shape es Field) l.fields) _ (each_causes (member_shape es Field) (member_shape_causes es Field) l.fields) (λ fields.
    bind_causes OfMeaning (each (member_shape es Method) l.methods) _ (each_causes (member_shape es Method) (member_shape_causes es Method) l.methods) (λ methods.
    bind_causes OfMeaning (joined (attribute_rows es) l.attributes) _ (joined_causes (attribute_rows es) (attribute_rows_causes es) l.attributes) (λ inner. tt))))

pub shape_causes : (h : Head) (b : BodySeen) → IfErr (shape_of h b) OfMeaning
unfolding shape_of
shape_causes h b =
    bind_causes OfMeaning (own_names h.entries b.own) _ (own_names_causes h.entries b.own) (λ own.
    bind_causes OfMeaning (list_shapes h.entries b.lists) _ (list_shapes_causes h.entries b.lists) (λ l. tt))

-- ---- want of memory
layout_wants_none : (cause : ClassCause) → IsLayoutCause cause → cause ≢ OutOfMemory
layout_wants_none cause is want = subst IsLayoutCause want is

meaning_wants_none : (cause : ClassCause) → IsMeaningCause cause → cause ≢ OutOfMemory
meaning_wants_none cause is want = subst IsMeaningCause want is

abbrev NoWant : ClassFault → Type 0
NoWant d = d.cause ≢ OutOfMemory

none_then : {A : Type 0} (P : ClassCause → Type 0) → ((cause : ClassCause) → P cause → cause ≢ OutOfMemory) → (r : Result A ClassFault) → IfErr r (λ d. P d.cause) → IfErr r NoWant
none_then P none (Ok x) h = tt
none_then P none (Err d) h = none d.cause h

read_wants_none : (bytes : List ℕ) → IfErr (shape_read bytes) NoWant
unfolding shape_read
read_wants_none bytes =
    let total = length bytes in
    bind_causes NoWant (head_at total bytes) _ (none_then IsPoolCause pool_wants_none (head_at total bytes) (head_causes total bytes)) (λ h.
    bind_causes NoWant (body_at total h.1) _ (none_then IsLayoutCause layout_wants_none (body_at total h.1) (body_causes total h.1)) (λ b.
    none_then IsMeaningCause meaning_wants_none (shape_of h.0 b) (shape_causes h.0 b)))

pub want_has_no_place : (bytes : List ℕ) (r : Result ClassShape ClassFault) → Gives (λ s. s) r (shape_read bytes) → IfErr r (λ d. d.cause ≡ OutOfMemory → d.at ≡ 0)
want_has_no_place bytes r given = no_place (λ s. s) r (shape_read bytes) given (read_wants_none bytes)
