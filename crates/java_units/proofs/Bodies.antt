-- The bodies that are still open, the innermost first, and what completes them.
use Rattle.std.proofs.Common.{◌≡◌, ◌≢◌, ℕ, suc, ◌+◌, true, false, List, [], ◌∷◌, ◌++◌, length, drop, refl, sym, ap, subst, ◌∙◌, append_assoc, append-nil, add-zero, arith, Option, Some, None, ◌==◌}
use denote.Ref.{Bor}
use Rattle.java_units.specs.declared.lexemes.Lexeme.{Lexeme}
use Rattle.java_units.proofs.Walks.{length-none, seen-nil}
use Rattle.std.specs.List.{flat_map}
use Rattle.std.proofs.lemmas.List.{length_push}
use Rattle.java_units.specs.declared.class.Around.{Around}
use Rattle.java_units.specs.declared.unit.Frame.{Frame}
use Rattle.java_units.specs.declared.types.SourceClass.{SourceClass}
use Rattle.java_units.specs.Signs.{Sign, seen}
use Rattle.java_units.specs.Pieces.{piece_len}
use Rattle.java_units.specs.Units.{Body, none, plain, class, IsBody, AreClasses, is_class, class_of, members_of, size, listed}

pub record Open : Type 0 where
  pub around : Option Around
  pub rest : List Sign

abbrev pub AreBodies : ℕ → ℕ → List Open → List Body → Type 0
AreBodies count next [] [] = Unit {0}
AreBodies count next [] (b ∷ bs) = ⊥
AreBodies count next (f ∷ fs) [] = ⊥
AreBodies count next (f ∷ fs) (b ∷ bs) = IsBody count f.around next f.rest b × AreBodies count (next + size b) fs bs

-- what completes the rest completes the whole
abbrev pub Goes : ℕ → List Sign → List SourceClass → List Open → Type 0
Goes count whole out fs = (bs : List Body) → AreBodies count (length out) fs bs → AreClasses count whole (out ++ flat_map listed bs)

pub goes_first : (count : ℕ) (whole : List Sign) → Goes count whole [] (record { around = None; rest = whole } ∷ [])
goes_first count whole [] are = absurd are
goes_first count whole (b ∷ []) are = record { body = b; is = are.0; are = append-nil (listed b) }
goes_first count whole (b ∷ c ∷ bs) are = absurd are.1

pub goes_none : (count : ℕ) (whole : List Sign) (out : List SourceClass) (f : Open) (fs : List Open) → f.rest ≡ [] → Goes count whole out (f ∷ fs) → Goes count whole out fs
unfolding IsBody size listed
goes_none count whole out f fs e goes bs are = goes (none ∷ bs) (e, subst (λ n. AreBodies count n fs bs) (sym (add-zero (length out))) are)

pub goes_plain : (count : ℕ) (whole : List Sign) (out : List SourceClass) (a : Option Around) (xs : List Sign) (fs : List Open) → xs ≢ [] → is_class xs ≡ false → Goes count whole out (record { around = a; rest = xs } ∷ fs) → Goes count whole out (record { around = a; rest = drop (piece_len xs) xs } ∷ fs)
unfolding IsBody size listed
goes_plain count whole out a xs fs z c goes [] are = absurd are
goes_plain count whole out a xs fs z c goes (b ∷ bs) are = goes (plain b ∷ bs) ((z, c, are.0), are.1)

shape : {A : Type 0} (out : List A) (x : A) (a b c : List A) → out ++ ((x ∷ (a ++ b)) ++ c) ≡ (out ++ x ∷ []) ++ (a ++ (b ++ c))
shape out x a b c = ap (λ t. out ++ (x ∷ t)) (append_assoc a b c) ∙ sym (append_assoc out (x ∷ []) (a ++ (b ++ c)))

pub goes_class : (count : ℕ) (whole : List Sign) (out : List SourceClass) (a : Option Around) (xs : List Sign) (fs : List Open) (c : SourceClass) → is_class xs ≡ true → c ≡ class_of a count xs → Goes count whole out (record { around = a; rest = xs } ∷ fs) → Goes count whole (out ++ c ∷ []) (record { around = Some (record { number = length out; kind = c.kind }); rest = members_of c.kind xs } ∷ record { around = a; rest = drop (piece_len xs) xs } ∷ fs)
unfolding IsBody size listed
goes_class count whole out a xs fs c t e goes [] are = absurd are
goes_class count whole out a xs fs c t e goes (i ∷ []) are = absurd are.1
goes_class count whole out a xs fs c t e goes (i ∷ b ∷ bs) are =
    let k : length (out ++ c ∷ []) ≡ suc (length out) = omega (arith, length_push out c) in
    let inner : Open = record { around = Some (record { number = length out; kind = c.kind }); rest = members_of c.kind xs } in
    let after : Open = record { around = a; rest = drop (piece_len xs) xs } in
    let all : AreBodies count (suc (length out)) (inner ∷ after ∷ fs) (i ∷ b ∷ bs) = subst (λ n. AreBodies count n (inner ∷ after ∷ fs) (i ∷ b ∷ bs)) k are in
    let n : (suc (length out) + size i) + size b ≡ length out + suc (size i + size b) = omega arith in
    let u = goes (class c i b ∷ bs) ((t, e, all.0, all.1.0), subst (λ m. AreBodies count m fs bs) n all.1.1) in
    subst (AreClasses count whole) (shape out c (listed i) (listed b) (flat_map listed bs)) u

pub goes_end : (count : ℕ) (whole : List Sign) (out : List SourceClass) → Goes count whole out [] → AreClasses count whole out
goes_end count whole out goes = subst (AreClasses count whole) (append-nil out) (goes [] tt)

-- the frames of the code, the last first
abbrev pub opened : Frame → Open
opened f = record { around = f.around; rest = seen f.rest.now }

abbrev pub tops : List Frame → List Open
tops [] = []
tops (f ∷ fs) = tops fs ++ opened f ∷ []

pub tops_push : (fs : List Frame) (f : Frame) → tops (fs ++ f ∷ []) ≡ opened f ∷ tops fs
tops_push [] f = refl
tops_push (g ∷ gs) f = ap (λ r. r ++ opened g ∷ []) (tops_push gs f)

pub step_end : (count : ℕ) (whole : List Sign) (out : List SourceClass) (old : List Frame) → old ≡ [] → Goes count whole out (tops old) → AreClasses count whole out
step_end count whole out old e goes = goes_end count whole out (subst (λ fs. Goes count whole out (tops fs)) e goes)

pub step_none : (count : ℕ) (whole : List Sign) (out : List SourceClass) (old new : List Frame) (f : Frame) → old ≡ new ++ f ∷ [] → seen f.rest.now ≡ [] → Goes count whole out (tops old) → Goes count whole out (tops new)
step_none count whole out old new f e z goes = goes_none count whole out (opened f) (tops new) z (subst (Goes count whole out) (ap tops e ∙ tops_push new f) goes)

pub step_plain : (count : ℕ) (whole : List Sign) (out : List SourceClass) (old new now : List Frame) (f g : Frame) → old ≡ new ++ f ∷ [] → now ≡ new ++ g ∷ [] → g.around ≡ f.around → seen g.rest.now ≡ drop (piece_len (seen f.rest.now)) (seen f.rest.now) → seen f.rest.now ≢ [] → is_class (seen f.rest.now) ≡ false → Goes count whole out (tops old) → Goes count whole out (tops now)
step_plain count whole out old new now f g e n a r z c goes =
    let h = goes_plain count whole out f.around (seen f.rest.now) (tops new) z c (subst (Goes count whole out) (ap tops e ∙ tops_push new f) goes) in
    let P : Option Around → List Sign → Type 0 = λ x y. Goes count whole out (record { around = x; rest = y } ∷ tops new) in
    subst (Goes count whole out) (sym (ap tops n ∙ tops_push new g)) (subst (P g.around) (sym r) (subst (λ x. P x (drop (piece_len (seen f.rest.now)) (seen f.rest.now))) (sym a) h))

pub step_class : (count : ℕ) (whole : List Sign) (out outs : List SourceClass) (old new now last : List Frame) (f g i : Frame) (c : SourceClass) (number : ℕ) → old ≡ new ++ f ∷ [] → now ≡ new ++ g ∷ [] → g.around ≡ f.around → seen g.rest.now ≡ drop (piece_len (seen f.rest.now)) (seen f.rest.now) → is_class (seen f.rest.now) ≡ true → c ≡ class_of f.around count (seen f.rest.now) → outs ≡ out ++ c ∷ [] → number ≡ length out → i.around ≡ Some (record { number = number; kind = c.kind }) → seen i.rest.now ≡ members_of c.kind (seen f.rest.now) → last ≡ now ++ i ∷ [] → Goes count whole out (tops old) → Goes count whole outs (tops last)
step_class count whole out outs old new now last f g i c number e n a r t v o k j m l goes =
    let h = goes_class count whole out f.around (seen f.rest.now) (tops new) c t v (subst (Goes count whole out) (ap tops e ∙ tops_push new f) goes) in
    let P : Option Around → List Sign → Option Around → List Sign → Type 0 = λ x y p q. Goes count whole (out ++ c ∷ []) (record { around = p; rest = q } ∷ record { around = x; rest = y } ∷ tops new) in
    let p : Some (record { number = length out; kind = c.kind }) ≡ i.around = sym (j ∙ ap (λ y. Some (record { number = y; kind = c.kind })) k) in
    let h1 = subst (λ x. P x (drop (piece_len (seen f.rest.now)) (seen f.rest.now)) (Some (record { number = length out; kind = c.kind })) (members_of c.kind (seen f.rest.now))) (sym a) h in
    let h2 = subst (λ y. P g.around y (Some (record { number = length out; kind = c.kind })) (members_of c.kind (seen f.rest.now))) (sym r) h1 in
    let h3 = subst (λ x. P g.around (seen g.rest.now) x (members_of c.kind (seen f.rest.now))) p h2 in
    let h4 = subst (λ y. P g.around (seen g.rest.now) i.around y) (sym m) h3 in
    let s : opened i ∷ opened g ∷ tops new ≡ tops last = sym (ap tops l ∙ (tops_push now i ∙ ap (λ r. opened i ∷ r) (ap tops n ∙ tops_push new g))) in
    subst (λ q. Goes count whole q (tops last)) (sym o) (subst (Goes count whole (out ++ c ∷ [])) s h4)

pub step_first : (count : ℕ) (lexemes : Bor (List Lexeme)) (out : List SourceClass) (old new : List Frame) → out ≡ [] → old ≡ [] → new ≡ old ++ record { around = None; rest = lexemes } ∷ [] → Goes count (seen lexemes.now) out (tops new)
step_first count lexemes out old new o z n =
    let f : Frame = record { around = None; rest = lexemes } in
    let t : opened f ∷ [] ≡ tops new = sym (ap tops n ∙ (tops_push old f ∙ ap (λ r. opened f ∷ tops r) z)) in
    subst (λ q. Goes count (seen lexemes.now) q (tops new)) (sym o) (subst (Goes count (seen lexemes.now) []) t (goes_first count (seen lexemes.now)))

pub seen_none : (ls : List Lexeme) → (length ls == 0) ≡ true → seen ls ≡ []
seen_none ls e = ap seen (length-none ls e) ∙ seen-nil

pub seen_some : (ls : List Lexeme) → (length ls == 0) ≡ false → seen ls ≢ []
unfolding seen
seen_some [] e h = absurd (cc)
seen_some (x ∷ xs) e h = absurd (cc)
