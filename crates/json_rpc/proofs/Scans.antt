-- A header part, byte by byte, and what follows it.
use Rattle.std.proofs.Common.{◌≡◌, ℕ, ◌+◌, ◌<◌, ◌≤◌, ap, sym, ◌∙◌, get_or, drop, arith, List, [], ◌∷◌, ◌++◌, refl, true, false, length, nat_le, append_assoc, append-nil}
use Rattle.std.proofs.lemmas.List.{drop_more, drop_all, length-append, drop-append-le}
use Rattle.json_rpc.specs.Heads.{start, step, after, line_after, scan_from}
use Rattle.json_rpc.specs.Prefixes.{Leads, IsPartOf, IsPrefixOf}
use Rattle.json_rpc.proofs.Lines.{pick_false}
use Rattle.json_rpc.proofs.Tails.{Settles, scan-settles}
use Rattle.json_rpc.specs.declared.header.Head.{Head}
use Rattle.json_rpc.specs.declared.header.Scan.{Scan}
use Rattle.json_rpc.specs.declared.header.Prefix.{Prefix}
use Rattle.json_rpc.specs.declared.header.Prefix.TheVariants.{Part, Body}
use Rattle.json_rpc.specs.declared.header.Step.TheVariants.{On}
use Rattle.json_rpc.specs.declared.header.Reading.{Reading}
use Rattle.json_rpc.specs.declared.header.Reading.TheVariants.{More, Whole, Bad}

pub scan-end : (n line : ℕ) (h : Head) (bs : List ℕ) (i : ℕ) → length bs ≤ i → scan_from n line h (drop i bs) ≡ More
unfolding scan_from
scan-end n line h bs i l = rw (drop_all i bs l) refl

pub scan-long : (n line : ℕ) (h : Head) (bs : List ℕ) (i : ℕ) → i < length bs → 8192 ≤ n → scan_from n line h (drop i bs) ≡ Bad n
unfolding scan_from
scan-long n line h bs i l m = let e : nat_le 8192 n ≡ true = search (arith) in rw (drop_more bs i 0 l, e) refl

pub scan-byte : (n line : ℕ) (h : Head) (bs : List ℕ) (i : ℕ) → i < length bs → n < 8192 → scan_from n line h (drop i bs) ≡ after n line h (step h (get_or bs i 0)) (λ g. scan_from (n + 1) (line_after n line g.mode) g (drop (i + 1) bs))
unfolding scan_from
scan-byte n line h bs i l m = let e : nat_le 8192 n ≡ false = search (arith) in rw (drop_more bs i 0 l, e) refl

-- One byte more, whatever follows.
pub scan-one : (n line : ℕ) (h k : Head) (b : ℕ) (bs : List ℕ) → n < 8192 → step h b ≡ On k → scan_from n line h (b ∷ bs) ≡ scan_from (n + 1) (line_after n line k.mode) k bs
unfolding scan_from
scan-one n line h k b bs l q =
    let f : nat_le 8192 n ≡ false = grind (arith, l) in
    pick_false (nat_le 8192 n) (Bad n) _ f ∙ ap (λ s. after n line h s (λ g. scan_from (n + 1) (line_after n line g.mode) g bs)) q

pub leads-on : (bytes : List ℕ) (old : Scan) (g : Head) (end : ℕ) → old.read < length bytes → old.read < 8192 → step old.head (get_or bytes old.read 0) ≡ On g → end ≡ line_after old.read old.line g.mode → Leads bytes old (record { read = old.read + 1; line = end; head = g })
leads-on bytes old g end l m q is = record {
  goes = λ more.
      ap (λ t. scan_from old.read old.line old.head (t ++ more)) (drop_more bytes old.read 0 l)
      ∙ scan-one old.read old.line old.head g (get_or bytes old.read 0) (drop (old.read + 1) bytes ++ more) m q
      ∙ ap (λ v. scan_from (old.read + 1) v g (drop (old.read + 1) bytes ++ more)) (sym is);
}

pub leads-trans : (bytes : List ℕ) (old mid new : Scan) → Leads bytes old mid → Leads bytes mid new → Leads bytes old new
leads-trans bytes old mid new a b = record { goes = λ more. a.goes more ∙ b.goes more }

pub leads-refl : (bytes : List ℕ) (old : Scan) → Leads bytes old old
leads-refl bytes old = record { goes = λ more. refl }

-- without anything that follows
pub leads-same : (bytes : List ℕ) (old new : Scan) → Leads bytes old new → scan_from old.read old.line old.head (drop old.read bytes) ≡ scan_from new.read new.line new.head (drop new.read bytes)
leads-same bytes old new a = ap (scan_from old.read old.line old.head) (sym (append-nil (drop old.read bytes))) ∙ a.goes [] ∙ ap (scan_from new.read new.line new.head) (append-nil (drop new.read bytes))

-- A prefix of the held bytes, read so far.
pub part-start : (held : List ℕ) → IsPartOf held (record { read = 0; line = 0; head = start })
part-start held = record { within = omega arith; line = omega arith; goes = λ more. refl }

pub part-on : (held : List ℕ) (old new : Scan) → IsPartOf held old → Leads held old new → new.read ≡ length held → new.line ≤ new.read → IsPartOf held new
part-on held old new p a e l = record { within = omega (arith, e); line = l; goes = λ more. p.goes more ∙ a.goes more }

pub part-more : (held taken : List ℕ) (scan : Scan) → IsPartOf held scan → IsPartOf (held ++ taken) scan
part-more held taken scan p = record {
  within = omega (arith, p.within, length-append held taken);
  line = p.line;
  goes = λ more. ap (scan_from 0 0 start) (append_assoc held taken more) ∙ p.goes (taken ++ more) ∙ ap (scan_from scan.read scan.line scan.head) (sym (append_assoc (drop scan.read held) taken more) ∙ ap (λ t. t ++ more) (sym (drop-append-le scan.read held taken p.within)));
}

pub part-same : (held : List ℕ) (scan : Scan) → IsPartOf held scan → scan_from 0 0 start held ≡ scan_from scan.read scan.line scan.head (drop scan.read held)
part-same held scan p = ap (scan_from 0 0 start) (sym (append-nil held)) ∙ p.goes [] ∙ ap (scan_from scan.read scan.line scan.head) (append-nil (drop scan.read held))

part-all : (held : List ℕ) (scan : Scan) → IsPartOf held scan → scan.read ≡ length held → scan_from 0 0 start held ≡ More
part-all held scan p e = part-same held scan p ∙ scan-end scan.read scan.line scan.head held scan.read (omega (arith, e))

settled : (r s : Reading) (from : ℕ) (head : Head) → Settles r s → r ≡ Whole from head → s ≡ Whole from head
settled More s from head t e = absurd cc
settled (Whole n h) s from head t e = t ∙ e
settled (Bad n) s from head t e = absurd cc

pub prefix-more : (held taken : List ℕ) (prefix : Prefix) → IsPrefixOf held prefix → IsPrefixOf (held ++ taken) prefix
prefix-more held taken (Part scan) f = part-more held taken scan f
prefix-more held taken (Body from head) f = (omega (arith, f.0, length-append held taken), settled (scan_from 0 0 start held) (scan_from 0 0 start (held ++ taken)) from head (scan-settles 0 0 start held taken) f.1)

pub ruleset scans = (scan-end, scan-long, scan-byte)

pub ruleset prefixes = (part-start, part-on, part-more, part-same, prefix-more, leads-on, leads-trans, leads-refl, leads-same)
