-- A header with its pool that is read is spelled so, and one that is spelled so is read.
use Rattle.std.proofs.Common.{◌≡◌, ℕ, ◌-◌, true, false, eqb, leb, List, ◌++◌, length, Result, Ok, Err, refl, ap, subst, ◌∙◌, append_assoc, arith, rules}
use Rattle.std.proofs.lemmas.Bool.{eqb-true}
use Rattle.std.specs.Prelude.{IfOk}
use Rattle.byteorder.specs.Endian.{big_bytes}
use Rattle.class_pool.specs.declared.fault.ClassFault.{ClassFault}
use Rattle.class_pool.specs.Spelling.{entries, magic, FileHeader, header_bytes, IsFileHeader, Head, head, IsHead, IsPoolOf}
use Rattle.class_pool.specs.Reading.{IsBytes, header_at, head_at, entries_at, head_read, Gives}
use Rattle.class_pool.proofs.Codec.{Takes, Takes-then, Codec, bind_ok, ok_is, need_ok, step, number_2, number_4}
use Rattle.class_pool.proofs.Entries.{entries_take, entries_again}

pub header_takes : (total : ℕ) (bytes : List ℕ) (x : FileHeader) (rest : List ℕ) → IsBytes bytes → header_at total bytes ≡ Ok (x, rest) → Takes bytes (header_bytes x) rest × IsFileHeader x
unfolding header_at
header_takes total bytes x rest fits e =
    let a = step (number_4 total) _ bytes (x, rest) fits e in
    let m = need_ok (eqb a.value magic) _ _ (x, rest) a.next in
    let b = step (number_2 total) _ a.rest (x, rest) a.takes.rest_fits m.1 in
    let c = step (number_2 total) _ b.rest (x, rest) b.takes.rest_fits b.next in
    let v = need_ok (leb 45 c.value) _ _ (x, rest) c.next in
    let d = step (number_2 total) _ c.rest (x, rest) c.takes.rest_fits v.1 in
    let cd = Takes-then b.rest _ c.rest _ d.rest c.takes d.takes in
    let bd = Takes-then a.rest _ b.rest _ d.rest b.takes cd in
    let all = Takes-then bytes _ a.rest _ d.rest a.takes bd in
    let whole : Takes bytes (header_bytes (record { minor = b.value; major = c.value; count = d.value })) d.rest = subst (λ (k : ℕ). Takes bytes (big_bytes 4 k ++ (big_bytes 2 b.value ++ (big_bytes 2 c.value ++ big_bytes 2 d.value))) d.rest) (eqb-true _ _ m.0) all in
    subst (λ (p : FileHeader × List ℕ). Takes bytes (header_bytes p.0) p.1 × IsFileHeader p.0) (ok_is (record { minor = b.value; major = c.value; count = d.value }, d.rest) (x, rest) d.next) (whole, record { minor = b.fits; major = c.fits; new = search (rules, v.0); count = d.fits })

pub header_again : (total : ℕ) (x : FileHeader) (rest : List ℕ) → IsFileHeader x → header_at total (header_bytes x ++ rest) ≡ Ok (x, rest)
unfolding header_at
header_again total x rest fits =
    let m = big_bytes 4 magic in let b = big_bytes 2 x.minor in let c = big_bytes 2 x.major in let d = big_bytes 2 x.count in
    let new : leb 45 x.major ≡ true = search (rules, fits.new) in
    let regrouped : header_bytes x ++ rest ≡ m ++ (b ++ (c ++ (d ++ rest))) = append_assoc m (b ++ (c ++ d)) rest ∙ ap (λ (t : List ℕ). m ++ t) (append_assoc b (c ++ d) rest ∙ ap (λ (t : List ℕ). b ++ t) (append_assoc c d rest)) in
    ap (header_at total) regrouped ∙ rw ((number_4 total).again magic (b ++ (c ++ (d ++ rest))) (omega arith), (number_2 total).again x.minor (c ++ (d ++ rest)) fits.minor, (number_2 total).again x.major (d ++ rest) fits.major, new, (number_2 total).again x.count rest fits.count) refl

pub head_takes : (total : ℕ) (bytes : List ℕ) (x : Head) (rest : List ℕ) → IsBytes bytes → head_at total bytes ≡ Ok (x, rest) → Takes bytes (head x) rest × IsHead x
unfolding head_at
head_takes total bytes x rest fits e =
    let a = bind_ok (header_at total bytes) _ (x, rest) e in
    let t = header_takes total bytes a.0.0 a.0.1 fits a.1 in
    let b = bind_ok (entries_at total false (a.0.0.count - 1) a.0.1) _ (x, rest) a.2 in
    let u = entries_take total false (a.0.0.count - 1) a.0.1 b.0.0 b.0.1 (omega arith) t.0.rest_fits b.1 in
    subst (λ (p : Head × List ℕ). Takes bytes (head p.0) p.1 × IsHead p.0) (ok_is (record { header = a.0.0; entries = b.0.0 }, b.0.1) (x, rest) b.2) (Takes-then bytes _ a.0.1 _ b.0.1 t.0 u.0, record { header = t.1; each = u.1.0; full = omega (arith, u.1.1) })

pub head_again : (total : ℕ) (x : Head) (rest : List ℕ) → IsHead x → head_at total (head x ++ rest) ≡ Ok (x, rest)
unfolding head_at
head_again total x rest fits =
    ap (head_at total) (append_assoc (header_bytes x.header) (entries x.entries) rest) ∙ rw (header_again total x.header (entries x.entries ++ rest) fits.header, entries_again total false (x.header.count - 1) x.entries rest (fits.each, omega (arith, fits.full))) refl

pub head_codec : (total : ℕ) → Codec head IsHead (head_at total)
head_codec total = record { takes = head_takes total; again = head_again total }

read_ok : (r : Result (Head × List ℕ) ClassFault) (h : Head) → head_read r ≡ Ok h → (x : Head × List ℕ) × (r ≡ Ok x) × (x.0 ≡ h)
read_ok (Ok x) h e = (x, refl, cc)
read_ok (Err d) h e = absurd cc

pub read_found : (bytes : List ℕ) (h : Head) → IsBytes bytes → head_read (head_at (length bytes) bytes) ≡ Ok h → IsPoolOf bytes h
read_found bytes h fits e =
    let a = read_ok _ h e in
    let t = head_takes (length bytes) bytes a.0.0 a.0.1 fits a.1 in
    subst (λ (x : Head). IsPoolOf bytes x) a.2 (record { rest = a.0.1; is = t.1; parts = t.0.parts })

pub read_only : (bytes : List ℕ) (h : Head) → IsPoolOf bytes h → head_read (head_at (length bytes) bytes) ≡ Ok h
read_only bytes h p = rw (ap (head_at (length bytes)) p.parts ∙ head_again (length bytes) h p.rest p.is) refl

pub is_found : {P : Type 0} (view : P → Head) (bytes : List ℕ) (r : Result P ClassFault) → IsBytes bytes → Gives view r (head_read (head_at (length bytes) bytes)) → IfOk r (λ p. IsPoolOf bytes (view p))
is_found view bytes (Ok p) fits given = read_found bytes _ fits given
is_found view bytes (Err e) fits given = tt

pub is_only : {P : Type 0} (view : P → Head) (bytes : List ℕ) (r : Result P ClassFault) (h : Head) → IsPoolOf bytes h → Gives view r (head_read (head_at (length bytes) bytes)) → Gives view r (Ok h)
is_only view bytes r h p given = subst (λ (x : Result Head ClassFault). Gives view r x) (read_only bytes h p) given
