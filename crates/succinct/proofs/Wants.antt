-- The needs of sources while the tables grow.
use Rattle.std.proofs.Common.{◌≡◌, ◌⊎◌, inl, inr, ℕ, zero, suc, ◌+◌, ◌<◌, List, [], ◌∷◌, ◌++◌, length, map, take, get_or, slice_get, Some, refl, sym, ap, subst, ◌∙◌, arith, length-append, append_assoc, append-nil}
use Rattle.std.proofs.lemmas.List.{take_more, take_all, map-append}
use Rattle.std.proofs.lemmas.Option.{slice_get_within}
use Rattle.terms.specs.declared.parts.Decl.{Decl}
use Rattle.terms.specs.declared.parts.Parts.{Parts}
use Rattle.succinct.specs.declared.need.Need.{Need}
use Rattle.succinct.specs.Numbering.{IsGrown}
use Rattle.succinct.specs.Compression.{Source, need_of, AreNeedsOf, AreWants, AddsWants, of_decl, of_pair, sources}
use Rattle.succinct.proofs.Needs.{named-grown, get_push}

-- one source more
pub wants-more : (all : List Source) (source : Source) (old new : List Need) (wanted wanted' : List (List ℕ)) (numbers : List ℕ) → wanted' ≡ wanted ++ numbers ∷ [] → IsGrown old new → AreNeedsOf new source.args numbers
    → AreWants all old wanted → AreWants (all ++ source ∷ []) new wanted'
wants-more all source old new wanted wanted' numbers pushed grown named before = subst (λ w. AreWants (all ++ source ∷ []) new w) (sym pushed) (record {
  as_many = length-append wanted (numbers ∷ []) ∙ ap (λ n. n + 1) before.as_many ∙ sym (length-append all (source ∷ []));
  each = λ n s ns at at'. each n s ns (get_push all source s n at) (get_push wanted numbers ns n at');
})
  where
    each : (n : ℕ) (s : Source) (ns : List ℕ) → (slice_get all n ≡ Some s) ⊎ ((n ≡ length all) × (source ≡ s)) → (slice_get wanted n ≡ Some ns) ⊎ ((n ≡ length wanted) × (numbers ≡ ns)) → AreNeedsOf new s.args ns
    each n s ns (inl a) (inl b) = named-grown need_of old new ns s.args grown (before.each n s ns a b)
    each n s ns (inl a) (inr b) = (let w = slice_get_within all n s a in let m = before.as_many in absurd (omega (arith, w, b.0, m)))
    each n s ns (inr a) (inl b) = (let w = slice_get_within wanted n ns b in let m = before.as_many in absurd (omega (arith, w, a.0, m)))
    each n s ns (inr a) (inr b) = subst (λ (t : Source). AreNeedsOf new t.args ns) a.1 (subst (λ l. AreNeedsOf new source.args l) b.1 named)

pub adds_wants-none : (needs : List Need) (wanted : List (List ℕ)) → AddsWants [] needs wanted needs wanted
adds_wants-none needs wanted all before = subst (λ a. AreWants a needs wanted) (sym (append-nil all)) before

-- one more of a list of sources
pub adds_wants-more : {A : Type 0} (f : A → Source) (xs : List A) (i : ℕ) (x : A) (needs0 needs1 needs2 : List Need) (w0 w1 w2 : List (List ℕ)) → i < length xs → x ≡ get_or xs i x
    → AddsWants (map f (take i xs)) needs0 w0 needs1 w1 → AddsWants (f x ∷ []) needs1 w1 needs2 w2 → AddsWants (map f (take (i + 1) xs)) needs0 w0 needs2 w2
adds_wants-more f xs i x needs0 needs1 needs2 w0 w1 w2 low at p q all before =
    let one : map f (take i xs) ++ f x ∷ [] ≡ map f (take (i + 1) xs) = sym (ap (map f) (take_more xs i x low) ∙ map-append f (take i xs) (get_or xs i x ∷ []) ∙ ap (λ y. map f (take i xs) ++ f y ∷ []) (sym at)) in
    let joined : (all ++ map f (take i xs)) ++ f x ∷ [] ≡ all ++ map f (take (i + 1) xs) = append_assoc all (map f (take i xs)) (f x ∷ []) ∙ ap (λ l. all ++ l) one in
    subst (λ a. AreWants a needs2 w2) joined (q (all ++ map f (take i xs)) (p all before))

pub wants-none : (needs : List Need) (wanted : List (List ℕ)) → wanted ≡ [] → AreWants [] needs wanted
wants-none needs wanted e = record { as_many = ap length e; each = λ i s ns h h'. absurd (let w = slice_get_within [] i s h in omega (arith, w)) }

-- the declarations and then the pairs
pub wants-both : (g : Parts) (ds : List Decl) (ps : List (ℕ × ℕ)) (n0 n1 n2 : List Need) (w0 w1 w2 : List (List ℕ)) → ds ≡ g.decls → ps ≡ g.pairs
    → AreWants [] n0 w0 → AddsWants (map of_decl ds) n0 w0 n1 w1 → AddsWants (map of_pair ps) n1 w1 n2 w2 → AreWants (sources g) n2 w2
wants-both g ds ps n0 n1 n2 w0 w1 w2 d p start one two =
    let all : map of_decl ds ++ map of_pair ps ≡ sources g = ap (λ l. map of_decl l ++ map of_pair ps) d ∙ ap (λ l. map of_decl g.decls ++ map of_pair l) p in
    subst (λ a. AreWants a n2 w2) all (two (map of_decl ds) (one [] start))

pub wants-same : (g h : Parts) (needs : List Need) (wanted : List (List ℕ)) → g ≡ h → AreWants (sources g) needs wanted → AreWants (sources h) needs wanted
wants-same g h needs wanted e w = subst (λ (p : Parts). AreWants (sources p) needs wanted) e w
