-- How far a text was read.
use Rattle.std.proofs.Common.{◌≡◌, ◌∙◌, ap, sym, subst, refl, arith, ℕ, ◌+◌, ◌-◌, ◌<◌, ◌≤◌, true, List, [], ◌∷◌, ◌++◌, length, Option, Some, None, append_assoc, append-nil, chars, encode_utf8_all, IsUtf8}
use Rattle.std.proofs.lemmas.List.{length-append}
use Rattle.std.proofs.lemmas.Bool.{and_parts}
use Rattle.std.proofs.lemmas.Str.{chars-nil, cons_from_encodes, encodes-append, length-encode, len_utf8_bounds}
use lib.Utf8.{encode, scalar, scalars}
use Rattle.java_shapes.specs.Words.{spells_identifier}
use Rattle.java_shapes.specs.Shape.{Shape, shown}
use Rattle.java_shapes.specs.Grammar.{IsShape, IsBegun}
use Rattle.java_shapes.specs.Reader.{Part, top, start, step, run, on, ended}
use Rattle.java_shapes.proofs.Runs.{some_part}
use Rattle.java_shapes.proofs.RunWords.{step_runs}
use Rattle.java_shapes.proofs.Ends.{IsPart, nothing_runs}
use Rattle.java_shapes.proofs.Begun.{run_sound, start_part, start_shows, whole_right, begun, stuck, whole}
use Rattle.java_resolve.specs.declared.fault.ReadFault.{ReadFault}
use Rattle.java_resolve.specs.declared.fault.ReadFault.TheVariants.{Syntax}
use Rattle.java_resolve.specs.Places.{IsSyntaxPlace, IsReadTo, SyntaxAt}

pub start_read : (p text : List ℕ) → IsReadTo p text text (start top None)
start_read p text = record { read = []; is = refl; bytes = refl; runs = nothing_runs p (start top None) }

pub start_at : (p text : List ℕ) (q : Part) → q ≡ start top None → IsReadTo p text text q
start_at p text q e = subst (λ x. IsReadTo p text text x) (sym e) (start_read p text)

-- a fault at a place
pub syntax_by : (p text : List ℕ) (f : ReadFault) (at : ℕ) → f ≡ Syntax at → IsSyntaxPlace p text at → SyntaxAt p text f
syntax_by p text f at e h = subst (λ x. SyntaxAt p text x) (sym e) h

-- what follows a character of a text is a text
pub text_behind : (rest more : List ℕ) (c : ℕ) → IsUtf8 rest → rest ≡ encode c ++ more → IsUtf8 more
text_behind rest more c u e =
    let s = cons_from_encodes u.0 more c (u.1.1 ∙ e) in
    (s.0, ((and_parts (scalar c) (scalars s.0) (ap scalars (sym s.1) ∙ u.1.0)).1, s.2))

run_by : (p : List ℕ) (k : ℕ) (ks more : List ℕ) (q r : Part) (m : Option Part) → step p q k ≡ m → on m (λ x. run p x ks) ≡ Some r → ((x : Part) → run p x ks ≡ Some r → run p x (ks ++ more) ≡ run p r more) → on m (λ x. run p x (ks ++ more)) ≡ run p r more
run_by p k ks more q r None e h f = absurd (cc)
run_by p k ks more q r (Some x) e h f = f x h

-- what was read, and more
pub run_append : (p ks more : List ℕ) (q r : Part) → run p q ks ≡ Some r → run p q (ks ++ more) ≡ run p r more
unfolding run
run_append p [] more q r h = ap (λ x. run p x more) (some_part q r h)
run_append p (k ∷ ks) more q r h = run_by p k ks more q r (step p q k) refl h (λ x. run_append p ks more x r)

run_one : (p : List ℕ) (q : Part) (c : ℕ) (m : List ℕ) → step p q c ≡ None → run p q (c ∷ m) ≡ None
unfolding run
run_one p q c m e = ap (λ x. on x (λ r. run p r m)) e

pub more_read : (p text rest more : List ℕ) (q r : Part) (c : ℕ) → chars rest ≡ c ∷ chars more → rest ≡ encode c ++ more → step p q c ≡ Some r → IsReadTo p text rest q → IsReadTo p text more r
more_read p text rest more q r c e f s h = record {
  read = h.read ++ c ∷ [];
  is = h.is ∙ ap (λ x. h.read ++ x) e ∙ sym (append_assoc h.read (c ∷ []) (chars more));
  bytes =
      h.bytes ∙ ap (λ x. encode_utf8_all h.read ++ x) f
      ∙ sym (append_assoc (encode_utf8_all h.read) (encode c) more)
      ∙ ap (λ x. (encode_utf8_all h.read ++ x) ++ more) (sym (append-nil (encode c)))
      ∙ ap (λ x. x ++ more) (sym (encodes-append h.read (c ∷ [])));
  runs = run_append p h.read (c ∷ []) (start top None) q h.runs ∙ step_runs p q r c [] s ∙ nothing_runs p r;
}

pub read_part : (p text rest : List ℕ) (q : Part) → IsReadTo p text rest q → IsPart p q
read_part p text rest q h = (run_sound p h.read (start top None) [] (start_part p) start_shows q h.runs).0

-- a prefix that is longer than another one goes on with it
longer_prefix : (a r b m : List ℕ) (c : ℕ) → a ++ c ∷ r ≡ b ++ m → length a < length b → (t : List ℕ) × (b ≡ a ++ c ∷ t)
longer_prefix [] r [] m c e l = absurd (omega arith)
longer_prefix [] r (d ∷ b) m c e l = (b, ap (λ x. x ∷ b) (cc))
longer_prefix (x ∷ a) r [] m c e l = absurd (omega arith)
longer_prefix (x ∷ a) r (d ∷ b) m c e l =
    let tail : a ++ c ∷ r ≡ b ++ m = cc in
    let same : d ≡ x = cc in
    let h = longer_prefix a r b m c tail (omega arith) in
    (h.0, ap (λ y. y ∷ b) same ∙ ap (λ y. x ∷ y) h.1)

pub place_bytes : (text rest read : List ℕ) (at : ℕ) → text ≡ encode_utf8_all read ++ rest → at + length rest ≡ length text → at ≡ length (encode_utf8_all read)
place_bytes text rest read at e h = omega (arith, ap length e, length-append (encode_utf8_all read) rest)

stuck_at : (p : List ℕ) (read : List ℕ) (q : Part) (c : ℕ) (m : List ℕ) → run p (start top None) read ≡ Some q → step p q c ≡ None → run p (start top None) (read ++ c ∷ m) ≡ None
stuck_at p read q c m e s = run_append p read (c ∷ m) (start top None) q e ∙ run_one p q c m s

no_run : (x : Option Part) (q : Part) → x ≡ None → x ≡ Some q → ⊥
no_run x q e f = absurd (cc)

le_by : (a b : ℕ) → (a < b → ⊥) → b ≤ a
le_by a b h = omega (arith, h)

not_more : (p read longer r m : List ℕ) (q : Part) (c : ℕ) → spells_identifier p ≡ true → run p (start top None) read ≡ Some q → step p q c ≡ None → read ++ c ∷ r ≡ longer ++ m → IsBegun p longer → length longer ≤ length read
not_more p read longer r m q c id e s f b =
    le_by (length read) (length longer) (λ l. let t = longer_prefix read r longer m c f l in stuck p id longer (ap (run p (start top None)) t.1 ∙ stuck_at p read q c t.0 e s) b)

-- where no character more can be read
pub stuck_read : (p text rest more : List ℕ) (q : Part) (c at : ℕ) → spells_identifier p ≡ true → chars rest ≡ c ∷ chars more → step p q c ≡ None → at + length rest ≡ length text → IsReadTo p text rest q → IsSyntaxPlace p (chars text) at
stuck_read p text rest more q c at id e s l h =
    let is : chars text ≡ h.read ++ c ∷ chars more = h.is ∙ ap (λ x. h.read ++ x) e in
    record {
      no_text = λ t shape f. let w = whole p id t shape in no_run (run p (start top None) (shown t)) w.0 (ap (run p (start top None)) (f ∙ is) ∙ stuck_at p h.read q c (chars more) h.runs s) w.1.0;
      prefix = h.read;
      rest = chars rest;
      is = h.is;
      begins = begun p id h.read q h.runs;
      longest = λ longer m f b. not_more p h.read longer (chars more) m q c id h.runs s (sym is ∙ f) b;
      bytes = place_bytes text rest h.read at h.bytes l;
    }

some_same : (x : Option Part) (q r : Part) → x ≡ Some q → x ≡ Some r → q ≡ r
some_same x q r e f = some_part q r (sym e ∙ f)

no_shape : (x y : Option Shape) (s : Shape) → x ≡ None → x ≡ y → y ≡ Some s → ⊥
no_shape x y s e f g = absurd (cc)

-- where the whole text was read, and no expression ends there
pub end_stuck : (p text rest : List ℕ) (q : Part) (at : ℕ) → spells_identifier p ≡ true → rest ≡ [] → None ≡ ended q → at + length rest ≡ length text → IsReadTo p text rest q → IsSyntaxPlace p (chars text) at
end_stuck p text rest q at id e s l h =
    let none : chars rest ≡ [] = ap chars e ∙ chars-nil in
    let is : chars text ≡ h.read = h.is ∙ ap (λ x. h.read ++ x) none ∙ append-nil h.read in
    record {
      no_text = λ t shape f.
          let w = whole p id t shape in
          let same : q ≡ w.0 = some_same (run p (start top None) h.read) q w.0 h.runs (ap (run p (start top None)) (sym (f ∙ is)) ∙ w.1.0) in
          no_shape (ended q) (ended w.0) t (sym s) (ap ended same) w.1.1;
      prefix = h.read;
      rest = chars rest;
      is = h.is;
      begins = begun p id h.read q h.runs;
      longest = λ longer m f b. omega (arith, ap length (sym is ∙ f), length-append longer m);
      bytes = place_bytes text rest h.read at h.bytes l;
    }

-- where the whole text was read, and an expression ends there
pub end_read : (p text rest : List ℕ) (q : Part) (t : Shape) → rest ≡ [] → Some t ≡ ended q → IsReadTo p text rest q → IsShape p t × (shown t ≡ chars text)
end_read p text rest q t e s h =
    let none : chars rest ≡ [] = ap chars e ∙ chars-nil in
    let is : chars text ≡ h.read = h.is ∙ ap (λ x. h.read ++ x) none ∙ append-nil h.read in
    let w = whole_right p h.read q t h.runs (sym s) in
    (w.0, w.1 ∙ sym is)

-- the rest is no longer than the text
pub rest_within : (p text rest : List ℕ) (q : Part) → IsReadTo p text rest q → length rest ≤ length text
rest_within p text rest q h = omega (arith, ap length h.bytes, length-append (encode_utf8_all h.read) rest)

pub rest_place : (p text rest : List ℕ) (q : Part) → IsReadTo p text rest q → (length text - length rest) + length rest ≡ length text
rest_place p text rest q h = omega (arith, rest_within p text rest q h)

pub char_shorter : (rest more : List ℕ) (c : ℕ) → rest ≡ encode c ++ more → length more < length rest
char_shorter rest more c e = omega (arith, ap length e, length-append (encode c) more, length-encode c, (len_utf8_bounds c).0)
