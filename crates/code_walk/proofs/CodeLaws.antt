-- The bytes of a `Code` attribute: what is read is spelled so, and what is spelled so is read.
use Rattle.std.proofs.Common.{◌≡◌, ℕ, ◌+◌, ◌-◌, ◌*◌, ◌^◌, ◌<◌, eqb, List, [], ◌++◌, length, Result, Ok, Err, refl, sym, ap, subst, ◌∙◌, append_assoc, arith}
use Rattle.std.proofs.lemmas.Bool.{eqb-true}
use Rattle.std.proofs.lemmas.List.{append-nil, nil_from_length}
use Rattle.byteorder.specs.Endian.{big_bytes}
use Rattle.class_pool.specs.declared.fault.ClassFault.{ClassFault}
use Rattle.class_pool.specs.Reading.{IsBytes, on_ok}
use Rattle.class_pool.proofs.Codec.{Takes, Takes-then, bind_ok, ok_is, need_ok, step, number_2, number_4, block_codec, block_again, block_takes}
use Rattle.class_shape.specs.Parts.{Attribute, attribute, IsAttribute, counted, Counted}
use Rattle.class_shape.specs.Reading.{AttributeSeen, attribute_at, counted_at, rest_of}
use Rattle.class_shape.proofs.FileLaws.{attributes_codec}
use Rattle.code_walk.specs.Code.{Code, front_bytes, table_bytes, code_bytes, IsCode, HasRange}
use Rattle.code_walk.specs.CodeReading.{front_at, tables_at, code_at}

abbrev range_to : ℕ → ℕ → ℕ × ℕ
range_to start n = (start, start + n)

pub record Front (bytes code rest : List ℕ) : Type 0 where
  pub stack : ℕ
  pub locals : ℕ
  pub takes : Takes bytes (front_bytes stack locals code) rest
  pub stack_fits : stack < 65536
  pub locals_fits : locals < 65536
  pub code_fits : length code < 2 ^ 32

front_takes : (total : ℕ) (bytes code rest : List ℕ) → IsBytes bytes → front_at total bytes ≡ Ok (code, rest) → Front bytes code rest
unfolding front_at
front_takes total bytes code rest fits e =
    let a = step (number_2 total) _ bytes (code, rest) fits e in
    let b = step (number_2 total) _ a.rest (code, rest) a.takes.rest_fits a.next in
    let c = step (number_4 total) _ b.rest (code, rest) b.takes.rest_fits b.next in
    let d = block_takes total c.value c.rest code rest c.takes.rest_fits c.next in
    let cd : Takes b.rest (big_bytes 4 (length code) ++ code) rest = subst (λ (k : ℕ). Takes b.rest (big_bytes 4 k ++ code) rest) (sym d.1) (Takes-then b.rest _ c.rest _ rest c.takes d.0) in
    let bd = Takes-then a.rest _ b.rest _ rest b.takes cd in
    record { stack = a.value; locals = b.value; takes = Takes-then bytes _ a.rest _ rest a.takes bd; stack_fits = a.fits; locals_fits = b.fits; code_fits = omega (arith, c.fits, d.1) }

abbrev passed : {C : Type 0} → C × List ℕ → Result (C × List ℕ) ClassFault
passed x = Ok x

passed_ok : {C : Type 0} (r : Result (C × List ℕ) ClassFault) (rest : List ℕ) → on_ok rest_of r ≡ Ok rest → (v : C) × (r ≡ Ok (v, rest))
passed_ok (Ok x) rest e = let k : x.1 ≡ rest = cc in (x.0, subst (λ (t : List ℕ). passed x ≡ passed (x.0, t)) k refl)
passed_ok (Err d) rest e = absurd cc

pub record Tables (bytes rest : List ℕ) : Type 0 where
  pub count : ℕ
  pub handlers : List ℕ
  pub attributes : List Attribute
  pub takes : Takes bytes (table_bytes count handlers attributes) rest
  pub count_fits : count < 65536
  pub handlers_fit : length handlers ≡ 8 * count
  pub attributes_fit : Counted IsAttribute attributes

tables_take : (total : ℕ) (bytes rest : List ℕ) → IsBytes bytes → tables_at total bytes ≡ Ok rest → Tables bytes rest
unfolding tables_at
tables_take total bytes rest fits e =
    let a = step (number_2 total) _ bytes rest fits e in
    let b = step (block_codec total (8 * a.value)) _ a.rest rest a.takes.rest_fits a.next in
    let p = passed_ok (counted_at total (attribute_at total) b.rest) rest b.next in
    let g = (attributes_codec total).takes b.rest p.0 rest b.takes.rest_fits p.1 in
    let bg = Takes-then a.rest _ b.rest _ rest b.takes g.takes in
    record { count = a.value; handlers = b.value; attributes = g.part; takes = Takes-then bytes _ a.rest _ rest a.takes bg; count_fits = a.fits; handlers_fit = b.fits; attributes_fit = g.fits }

-- the code that the bytes hold, and its length
pub record Held (body : List ℕ) (n : ℕ) : Type 0 where
  pub code : Code
  pub is : IsCode code
  pub parts : body ≡ code_bytes code
  pub len : n ≡ length code.code

pub code_takes : (total : ℕ) (body : List ℕ) (n : ℕ) → IsBytes body → code_at total body ≡ Ok n → Held body n
unfolding code_at
code_takes total body n fits e =
    let a = bind_ok (front_at total body) _ n e in
    let f = front_takes total body a.0.0 a.0.1 fits a.1 in
    let b = bind_ok (tables_at total a.0.1) _ n a.2 in
    let t = tables_take total a.0.1 b.0 f.takes.rest_fits b.1 in
    let w = need_ok (eqb (length b.0) 0) _ _ n b.2 in
    let nothing : b.0 ≡ [] = nil_from_length b.0 (eqb-true _ _ w.0) in
    let front = front_bytes f.stack f.locals a.0.0 in
    let tables = table_bytes t.count t.handlers t.attributes in
    let both : body ≡ (front ++ tables) ++ b.0 = (Takes-then body front a.0.1 tables b.0 f.takes t.takes).parts in
    record {
      code = record { stack = f.stack; locals = f.locals; code = a.0.0; handler_count = t.count; handlers = t.handlers; attributes = t.attributes };
      is = record { stack = f.stack_fits; locals = f.locals_fits; code = f.code_fits; handler_count = t.count_fits; handlers = t.handlers_fit; attributes = t.attributes_fit };
      parts = both ∙ ap (λ (r : List ℕ). (front ++ tables) ++ r) nothing ∙ append-nil (front ++ tables);
      len = sym (ok_is (length a.0.0) n w.1);
    }

front_again : (total stack locals : ℕ) (code rest : List ℕ) → stack < 65536 → locals < 65536 → length code < 2 ^ 32 → front_at total (front_bytes stack locals code ++ rest) ≡ Ok (code, rest)
unfolding front_at
front_again total stack locals code rest s l n =
    let a = big_bytes 2 stack in let b = big_bytes 2 locals in let c = big_bytes 4 (length code) in
    let regrouped : front_bytes stack locals code ++ rest ≡ a ++ (b ++ (c ++ (code ++ rest))) = append_assoc a (b ++ (c ++ code)) rest ∙ ap (λ (t : List ℕ). a ++ t) (append_assoc b (c ++ code) rest ∙ ap (λ (t : List ℕ). b ++ t) (append_assoc c code rest)) in
    ap (front_at total) regrouped ∙ rw ((number_2 total).again stack (b ++ (c ++ (code ++ rest))) s, (number_2 total).again locals (c ++ (code ++ rest)) l, (number_4 total).again (length code) (code ++ rest) n) (block_again total (length code) code rest refl)

tables_again : (total count : ℕ) (handlers : List ℕ) (attributes : List Attribute) → count < 65536 → length handlers ≡ 8 * count → Counted IsAttribute attributes → tables_at total (table_bytes count handlers attributes) ≡ Ok []
unfolding tables_at
tables_again total count handlers attributes c h fit =
    let as_bytes = counted attribute attributes in
    let g = (attributes_codec total).again attributes [] fit in
    let k : counted_at total (attribute_at total) as_bytes ≡ Ok (g.0, []) = ap (counted_at total (attribute_at total)) (sym (append-nil as_bytes)) ∙ g.1 in
    rw ((number_2 total).again count (handlers ++ as_bytes) c, block_again total (8 * count) handlers as_bytes h, k) refl

pub code_again : (total : ℕ) (c : Code) → IsCode c → code_at total (code_bytes c) ≡ Ok (length c.code)
unfolding code_at
code_again total c is =
    rw (front_again total c.stack c.locals c.code (table_bytes c.handler_count c.handlers c.attributes) is.stack is.locals is.code, tables_again total c.handler_count c.handlers c.attributes is.handler_count is.handlers is.attributes) refl

-- ---- the range of an attribute
abbrev pub start_of : AttributeSeen → ℕ
start_of a = a.end - length a.body + 8

pub range_found : (a : AttributeSeen) (n : ℕ) → IsBytes a.body → code_at a.end a.body ≡ Ok n → HasRange a (start_of a, start_of a + n)
range_found a n fits e =
    let h = code_takes a.end a.body n fits e in
    record { holds = h.code; is = h.is; parts = h.parts; range_is = ap (λ (k : ℕ). range_to (start_of a) k) h.len }

pub record Reads (a : AttributeSeen) (range : ℕ × ℕ) : Type 0 where
  pub len : ℕ
  pub read : code_at a.end a.body ≡ Ok len
  pub range_is : range ≡ (start_of a, start_of a + len)

pub range_only : (a : AttributeSeen) (range : ℕ × ℕ) → HasRange a range → Reads a range
range_only a range h = record { len = length h.holds.code; read = ap (code_at a.end) h.parts ∙ code_again a.end h.holds h.is; range_is = h.range_is }
