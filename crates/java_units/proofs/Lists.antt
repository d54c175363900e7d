-- Lists that are read place by place.
use Rattle.std.proofs.Common.{◌≡◌, ◌∙◌, ap, sym, ℕ, zero, suc, ◌+◌, ◌<◌, ◌≤◌, slice_index_or, take_all, drop, take, map, arith, List, [], ◌∷◌, ◌++◌, refl, length, append_assoc, append-nil, add-one, Bool, true, false, ◌==◌}
use denote.Ref.{Bor}
use Rattle.java_units.specs.declared.lexemes.Lexeme.{Lexeme}
use Rattle.std.proofs.lemmas.List.{drop_all}
use Rattle.java_units.specs.declared.entries.Entry.{Entry}
use Rattle.java_units.specs.Signs.{Sign, sign, seen, seens}
use Rattle.std.specs.List.{flat_map, list_any}
use Rattle.java_units.specs.Forms.{starts, entries, entry_len, next_len}
use Rattle.java_units.specs.Values.{parts_of, takes, angled, first_text}
use Rattle.java_units.specs.Members.{number_of, held_len, closed}
use Rattle.java_units.proofs.Walks.{starts-more, starts-none, seen-at, seen-length, length-none, pick}

pub seens-nil : seens [] ≡ []
unfolding seens
seens-nil = refl

seens-snoc : (xs : List (Bor (List Lexeme))) (x : Bor (List Lexeme)) → seens (xs ++ x ∷ []) ≡ seens xs ++ seen x.now ∷ []
unfolding seens
seens-snoc [] x = refl
seens-snoc (y ∷ ys) x = ap (λ r. seen y.now ∷ r) (seens-snoc ys x)

pub seens-push : (xs ys : List (Bor (List Lexeme))) (x : Bor (List Lexeme)) → ys ≡ xs ++ x ∷ [] → seens ys ≡ seens xs ++ seen x.now ∷ []
unfolding seens
seens-push xs ys x e = ap seens e ∙ seens-snoc xs x

pub seens-length : (xs : List (Bor (List Lexeme))) → length (seens xs) ≡ length xs
unfolding seens
seens-length [] = refl
seens-length (x ∷ xs) = ap suc (seens-length xs)

next_place : (xs : List (Bor (List Lexeme))) (i : ℕ) (d : Bor (List Lexeme)) → i < length xs → take (suc i) (seens xs) ≡ take i (seens xs) ++ seen (slice_index_or xs i d).now ∷ []
unfolding seens
next_place [] i d l = absurd (omega arith)
next_place (x ∷ xs) zero d l = refl
next_place (x ∷ xs) (suc i) d l = ap (λ r. seen x.now ∷ r) (next_place xs i d (omega arith))

pub place_at : (xs : List (Bor (List Lexeme))) (i : ℕ) (d : Bor (List Lexeme)) → i < length xs → take (i + 1) (seens xs) ≡ take i (seens xs) ++ seen (slice_index_or xs i d).now ∷ []
place_at xs i d l = ap (λ k. take k (seens xs)) (add-one i) ∙ next_place xs i d l

map_snoc : {A B : Type 0} (f : A → B) (xs : List A) (x : A) → map f (xs ++ x ∷ []) ≡ map f xs ++ f x ∷ []
map_snoc f [] x = refl
map_snoc f (y ∷ ys) x = ap (λ r. f y ∷ r) (map_snoc f ys x)

flat_snoc : {A B : Type 0} (f : A → List B) (xs : List A) (x : A) → flat_map f (xs ++ x ∷ []) ≡ flat_map f xs ++ f x
flat_snoc f [] x = append-nil (f x)
flat_snoc f (y ∷ ys) x = ap (λ r. f y ++ r) (flat_snoc f ys x) ∙ sym (append_assoc (f y) (flat_map f ys) (f x))

-- a value for each place
pub map_on : {B : Type 0} (f : List Sign → B) (xs : List (Bor (List Lexeme))) (i : ℕ) (d : Bor (List Lexeme)) (old new : List B) (v : B) → i < length xs → v ≡ f (seen (slice_index_or xs i d).now) → new ≡ old ++ v ∷ [] → old ≡ map f (take i (seens xs)) → new ≡ map f (take (i + 1) (seens xs))
map_on f xs i d old new v l e n h =
    n ∙ (ap (λ r. r ++ v ∷ []) h ∙ (ap (λ y. map f (take i (seens xs)) ++ y ∷ []) e ∙ sym (ap (map f) (place_at xs i d l) ∙ map_snoc f (take i (seens xs)) (seen (slice_index_or xs i d).now))))

pub map_end : {B : Type 0} (f : List Sign → B) (xs : List (Bor (List Lexeme))) (i : ℕ) (all : List B) → length xs ≤ i → all ≡ map f (take i (seens xs)) → all ≡ map f (seens xs)
map_end f xs i all l h = h ∙ ap (map f) (take_all i (seens xs) (omega (arith, seens-length xs)))

-- some values for each place
pub flat_on : {B : Type 0} (f : List Sign → List B) (xs : List (Bor (List Lexeme))) (i : ℕ) (d : Bor (List Lexeme)) (old new : List B) → i < length xs → new ≡ old ++ f (seen (slice_index_or xs i d).now) → old ≡ flat_map f (take i (seens xs)) → new ≡ flat_map f (take (i + 1) (seens xs))
flat_on f xs i d old new l n h =
    n ∙ (ap (λ r. r ++ f (seen (slice_index_or xs i d).now)) h ∙ sym (ap (flat_map f) (place_at xs i d l) ∙ flat_snoc f (take i (seens xs)) (seen (slice_index_or xs i d).now)))

pub flat_end : {B : Type 0} (f : List Sign → List B) (xs : List (Bor (List Lexeme))) (i : ℕ) (all : List B) → length xs ≤ i → all ≡ flat_map f (take i (seens xs)) → all ≡ flat_map f (seens xs)
flat_end f xs i all l h = h ∙ ap (flat_map f) (take_all i (seens xs) (omega (arith, seens-length xs)))

-- the places so far, and those that follow
pub starts_on : (f : List Sign → ℕ) (old new : List (List Sign)) (rest now : List Sign) (n : ℕ) (all : List (List Sign)) → new ≡ old ++ rest ∷ [] → n ≡ f rest → (n ≡ 0 → ⊥) → 0 < length rest → now ≡ drop n rest → all ≡ old ++ starts f 0 rest → all ≡ new ++ starts f 0 now
starts_on f old new rest now n all e v z l t h =
    h ∙ (ap (λ r. old ++ r) (starts-more f rest n v z l) ∙ (sym (append_assoc old (rest ∷ []) (starts f 0 (drop n rest))) ∙ (ap (λ r. r ++ starts f 0 (drop n rest)) (sym e) ∙ ap (λ r. new ++ starts f 0 r) (sym t))))

pub starts_end : (f : List Sign → ℕ) (old : List (List Sign)) (rest : List Sign) (n : ℕ) (all : List (List Sign)) → n ≡ f rest → n ≡ 0 → all ≡ old ++ starts f 0 rest → old ≡ all
starts_end f old rest n all v z h = sym (h ∙ (ap (λ r. old ++ r) (starts-none f rest (sym v ∙ z)) ∙ append-nil old))

-- the entries of a list after the first
pub entries_on : (xs : List (Bor (List Lexeme))) (i : ℕ) (d x : Bor (List Lexeme)) (olds news : List (Bor (List Lexeme))) (first : List Sign) → i < length xs → seen x.now ≡ drop 1 (seen (slice_index_or xs i d).now) → news ≡ olds ++ x ∷ [] → seens olds ≡ first ∷ map (drop 1) (take i (seens xs)) → seens news ≡ first ∷ map (drop 1) (take (i + 1) (seens xs))
entries_on xs i d x olds news first l e n h =
    let a = seens-push olds news x n in
    a ∙ (ap (λ r. r ++ seen x.now ∷ []) h ∙ (ap (λ y. first ∷ (map (drop 1) (take i (seens xs)) ++ y ∷ [])) e ∙ sym (ap (λ r. first ∷ r) (ap (map (drop 1)) (place_at xs i d l) ∙ map_snoc (drop 1) (take i (seens xs)) (seen (slice_index_or xs i d).now)))))

pub entries_end : (xs : List (Bor (List Lexeme))) (i : ℕ) (olds : List (Bor (List Lexeme))) (first rest : List Sign) (e : Entry) (n : ℕ) → length xs ≤ i → seens olds ≡ first ∷ map (drop 1) (take i (seens xs)) → n ≡ entry_len e first → (n ≡ 0 → ⊥) → rest ≡ drop n first → seens xs ≡ starts (next_len e) 0 rest → seens olds ≡ entries e first
unfolding entries
entries_end xs i olds first rest e zero l h v z r s = absurd (z refl)
entries_end xs i olds first rest e (suc n) l h v z r s =
    (h ∙ ap (λ q. first ∷ map (drop 1) q) (take_all i (seens xs) (omega (arith, seens-length xs)) ∙ (s ∙ ap (starts (next_len e) 0) (r ∙ ap (λ k. drop k first) v)))) ∙ sym (pick (entry_len e first) n [] (first ∷ map (drop 1) (starts (next_len e) 0 (drop (entry_len e first) first))) v)

pub entries_none : (all : List (Bor (List Lexeme))) (ss : List Sign) (e : Entry) (n : ℕ) → all ≡ [] → n ≡ entry_len e ss → n ≡ 0 → seens all ≡ entries e ss
unfolding entries
entries_none all ss e n a v z = (ap seens a ∙ seens-nil) ∙ sym (rw (sym v ∙ z) refl)

-- the parts of a name
parts_cut : (d : ℕ) (s : Sign) (ss : List Sign) → takes d s ≡ true → parts_of d (s ∷ ss) ≡ s.text ∷ parts_of (angled d s) ss
unfolding parts_of
parts_cut d s ss e = rw (e) refl

parts_pass : (d : ℕ) (s : Sign) (ss : List Sign) → takes d s ≡ false → parts_of d (s ∷ ss) ≡ parts_of (angled d s) ss
unfolding parts_of
parts_pass d s ss e = rw (e) refl

pub parts_take : (ls : List Lexeme) (i d e : ℕ) (x : Lexeme) (old new all : List (List ℕ)) (w : List ℕ) → i < length ls → e ≡ angled d (sign (slice_index_or ls i x)) → takes d (sign (slice_index_or ls i x)) ≡ true → w ≡ (slice_index_or ls i x).word.now → new ≡ old ++ w ∷ [] → all ≡ old ++ parts_of d (drop i (seen ls)) → all ≡ new ++ parts_of e (drop (i + 1) (seen ls))
unfolding sign
parts_take ls i d e x old new all w l a t v n h =
    let s = sign (slice_index_or ls i x) in
    let q = ap (parts_of d) (seen-at ls i x l) ∙ parts_cut d s (drop (i + 1) (seen ls)) t in
    h ∙ (ap (λ r. old ++ r) q ∙ (sym (append_assoc old (s.text ∷ []) (parts_of (angled d s) (drop (i + 1) (seen ls)))) ∙ (ap (λ r. r ++ parts_of (angled d s) (drop (i + 1) (seen ls))) (sym (n ∙ ap (λ y. old ++ y ∷ []) v)) ∙ ap (λ y. new ++ parts_of y (drop (i + 1) (seen ls))) (sym a))))

pub parts_skip : (ls : List Lexeme) (i d e : ℕ) (x : Lexeme) (old all : List (List ℕ)) → i < length ls → e ≡ angled d (sign (slice_index_or ls i x)) → takes d (sign (slice_index_or ls i x)) ≡ false → all ≡ old ++ parts_of d (drop i (seen ls)) → all ≡ old ++ parts_of e (drop (i + 1) (seen ls))
parts_skip ls i d e x old all l a t h =
    h ∙ (ap (λ r. old ++ r) (ap (parts_of d) (seen-at ls i x l) ∙ parts_pass d (sign (slice_index_or ls i x)) (drop (i + 1) (seen ls)) t) ∙ ap (λ y. old ++ parts_of y (drop (i + 1) (seen ls))) (sym a))

pub parts_end : (ls : List Lexeme) (i d : ℕ) (old all : List (List ℕ)) → length ls ≤ i → all ≡ old ++ parts_of d (drop i (seen ls)) → old ≡ all
unfolding parts_of
parts_end ls i d old all l h = sym (h ∙ (ap (λ r. old ++ parts_of d r) (drop_all i (seen ls) (omega (arith, seen-length ls))) ∙ append-nil old))

pub first_none : (ls : List Lexeme) → (length ls == 0) ≡ true → [] ≡ first_text (seen ls)
unfolding first_text seen
first_none ls e = sym (ap (λ xs. first_text (seen xs)) (length-none ls e))

pub first_some : (ls : List Lexeme) (d : Lexeme) → 0 < length ls → (slice_index_or ls 0 d).word.now ≡ first_text (seen ls)
unfolding first_text seen sign
first_some [] d l = absurd (omega arith)
first_some (x ∷ xs) d l = refl

pub drop_place : (xs : List (Bor (List Lexeme))) (i : ℕ) (d : Bor (List Lexeme)) → i < length xs → drop i (seens xs) ≡ seen (slice_index_or xs i d).now ∷ drop (suc i) (seens xs)
unfolding seens
drop_place [] i d l = absurd (omega arith)
drop_place (x ∷ xs) zero d l = refl
drop_place (x ∷ xs) (suc i) d l = drop_place xs i d (omega arith)

any_first : (p : List Sign → Bool) (x : List Sign) (xs : List (List Sign)) → p x ≡ true → list_any p (x ∷ xs) ≡ true
any_first p x xs e = rw (e) refl

any_rest : (p : List Sign → Bool) (x : List Sign) (xs : List (List Sign)) → p x ≡ false → list_any p (x ∷ xs) ≡ list_any p xs
any_rest p x xs e = rw (e) refl

-- whether one of the places passes
pub any_hit : (p : List Sign → Bool) (xs : List (Bor (List Lexeme))) (i : ℕ) (d : Bor (List Lexeme)) (b : Bool) → i < length xs → p (seen (slice_index_or xs i d).now) ≡ true → b ≡ list_any p (drop i (seens xs)) → true ≡ b
any_hit p xs i d b l e h = sym (h ∙ (ap (list_any p) (drop_place xs i d l) ∙ any_first p (seen (slice_index_or xs i d).now) (drop (suc i) (seens xs)) e))

pub any_on : (p : List Sign → Bool) (xs : List (Bor (List Lexeme))) (i : ℕ) (d : Bor (List Lexeme)) (b : Bool) → i < length xs → p (seen (slice_index_or xs i d).now) ≡ false → b ≡ list_any p (drop i (seens xs)) → b ≡ list_any p (drop (i + 1) (seens xs))
any_on p xs i d b l e h = h ∙ ((ap (list_any p) (drop_place xs i d l) ∙ any_rest p (seen (slice_index_or xs i d).now) (drop (suc i) (seens xs)) e) ∙ ap (λ k. list_any p (drop k (seens xs))) (sym (add-one i)))

pub any_end : (p : List Sign → Bool) (xs : List (Bor (List Lexeme))) (i : ℕ) (b : Bool) → length xs ≤ i → b ≡ list_any p (drop i (seens xs)) → false ≡ b
any_end p xs i b l h = sym (h ∙ ap (list_any p) (drop_all i (seens xs) (omega (arith, seens-length xs))))

pub number_none : (ls : List Lexeme) → (length ls == 0) ≡ true → 0 ≡ number_of (seen ls)
unfolding number_of seen
number_none ls e = sym (ap (λ xs. number_of (seen xs)) (length-none ls e))

pub number_some : (ls : List Lexeme) (d : Lexeme) → 0 < length ls → (slice_index_or ls 0 d).number ≡ number_of (seen ls)
unfolding number_of seen sign
number_some [] d l = absurd (omega arith)
number_some (x ∷ xs) d l = refl

pub held_len_none : (ls : List Lexeme) → (length ls == 0) ≡ true → 0 ≡ held_len (seen ls)
unfolding held_len seen
held_len_none ls e = sym (ap (λ xs. held_len (seen xs)) (length-none ls e))

pub held_len_some : (ls : List Lexeme) (d : Lexeme) → 0 < length ls → (slice_index_or ls 0 d).holds ≡ held_len (seen ls)
unfolding held_len seen sign
held_len_some [] d l = absurd (omega arith)
held_len_some (x ∷ xs) d l = refl

pub closed_none : (n : ℕ) (ls : List Lexeme) → (length ls == 0) ≡ true → n ≡ closed n (seen ls)
unfolding closed seen
closed_none n ls e = sym (ap (λ xs. closed n (seen xs)) (length-none ls e))

pub closed_some : (n : ℕ) (ls : List Lexeme) (d : Lexeme) → 0 < length ls → (slice_index_or ls 0 d).number + 1 ≡ closed n (seen ls)
unfolding closed seen sign
closed_some n [] d l = absurd (omega arith)
closed_some n (x ∷ xs) d l = refl
