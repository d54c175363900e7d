-- Lists whose items are kept or dropped one by one.
use Rattle.std.proofs.Common.{◌≡◌, ◌∙◌, ap, sym, refl, ℕ, ◌+◌, ◌<◌, ◌≤◌, List, [], ◌∷◌, ◌++◌, length, take, take_all, get_or, Option, Some, None, append-nil, append_assoc, add-one, map, flat_map}
use Rattle.std.proofs.Math.Seq.{take-suc}
use Rattle.std.specs.List.{filter_map}
use Rattle.std.proofs.lemmas.List.Elements.{filter_map-append}
use Rattle.std.proofs.lemmas.List.{map-append}
use Rattle.std.proofs.lemmas.List.Concat.{flat_map-append}

one_kept : {A B : Type 0} (f : A → Option B) (x : A) (v : B) → f x ≡ Some v → filter_map f (x ∷ []) ≡ v ∷ []
one_kept f x v e = rw e refl

one_dropped : {A B : Type 0} (f : A → Option B) (x : A) → f x ≡ None → filter_map f (x ∷ []) ≡ []
one_dropped f x e = rw e refl

one_more : {A B : Type 0} (f : A → Option B) (xs : List A) (i : ℕ) (d : A) → i < length xs → filter_map f (take (i + 1) xs) ≡ filter_map f (take i xs) ++ filter_map f (get_or xs i d ∷ [])
one_more f xs i d l =
    ap (λ k. filter_map f (take k xs)) (add-one i) ∙ (ap (filter_map f) (take-suc xs i d l) ∙ filter_map-append f (take i xs) (get_or xs i d ∷ []))

-- the item at this place is kept
pub kept_on : {A B : Type 0} (f : A → Option B) (xs : List A) (i : ℕ) (x : A) (old new : List B) (v : B) → i < length xs → x ≡ get_or xs i x → f x ≡ Some v → new ≡ old ++ v ∷ [] → old ≡ filter_map f (take i xs) → new ≡ filter_map f (take (i + 1) xs)
kept_on f xs i x old new v l at e n h =
    n ∙ (ap (λ r. r ++ v ∷ []) h ∙ sym (one_more f xs i x l ∙ ap (λ r. filter_map f (take i xs) ++ r) (one_kept f (get_or xs i x) v (ap f (sym at) ∙ e))))

-- the item at this place is dropped
pub dropped_on : {A B : Type 0} (f : A → Option B) (xs : List A) (i : ℕ) (x : A) (old : List B) → i < length xs → x ≡ get_or xs i x → f x ≡ None → old ≡ filter_map f (take i xs) → old ≡ filter_map f (take (i + 1) xs)
dropped_on f xs i x old l at e h =
    h ∙ sym (one_more f xs i x l ∙ (ap (λ r. filter_map f (take i xs) ++ r) (one_dropped f (get_or xs i x) (ap f (sym at) ∙ e)) ∙ append-nil (filter_map f (take i xs))))

-- the place is the end
pub kept_end : {A B : Type 0} (f : A → Option B) (xs : List A) (i : ℕ) (old : List B) → length xs ≤ i → old ≡ filter_map f (take i xs) → old ≡ filter_map f xs
kept_end f xs i old l h = h ∙ ap (filter_map f) (take_all i xs l)

-- what the parts up to here give, with the next one
pub gathered_more : {A B : Type 0} (f : A → List B) (xs : List A) (i : ℕ) (d : A) → i < length xs → flat_map f (take (i + 1) xs) ≡ flat_map f (take i xs) ++ f (get_or xs i d)
gathered_more f xs i d l =
    ap (λ k. flat_map f (take k xs)) (add-one i) ∙ (ap (flat_map f) (take-suc xs i d l) ∙ (flat_map-append f (take i xs) (get_or xs i d ∷ []) ∙ ap (λ r. flat_map f (take i xs) ++ r) (append-nil (f (get_or xs i d)))))

pub followed_start : (sign : List ℕ) (ps : List (List ℕ)) (start : List ℕ) → start ≡ start ++ flat_map (λ p. sign ++ p) (take 0 ps)
followed_start sign ps start = sym (append-nil start)

-- one more part behind its separator
pub followed_on : (sign : List ℕ) (ps : List (List ℕ)) (i : ℕ) (p start old mid new : List ℕ) → i < length ps → p ≡ get_or ps i p → mid ≡ old ++ sign → new ≡ mid ++ p → old ≡ start ++ flat_map (λ q. sign ++ q) (take i ps) → new ≡ start ++ flat_map (λ q. sign ++ q) (take (i + 1) ps)
followed_on sign ps i p start old mid new l at m n h =
    n ∙ (ap (λ x. x ++ p) (m ∙ ap (λ x. x ++ sign) h) ∙ (append_assoc (start ++ flat_map (λ q. sign ++ q) (take i ps)) sign p ∙ (append_assoc start (flat_map (λ q. sign ++ q) (take i ps)) (sign ++ p) ∙ ap (λ r. start ++ r) (ap (λ q. flat_map (λ x. sign ++ x) (take i ps) ++ (sign ++ q)) at ∙ sym (gathered_more (λ q. sign ++ q) ps i p l)))))

pub followed_end : (sign : List ℕ) (ps : List (List ℕ)) (i : ℕ) (start old : List ℕ) → length ps ≤ i → old ≡ start ++ flat_map (λ q. sign ++ q) (take i ps) → old ≡ start ++ flat_map (λ q. sign ++ q) ps
followed_end sign ps i start old l h = h ∙ ap (λ q. start ++ flat_map (λ x. sign ++ x) q) (take_all i ps l)

pub mapped_start : {A B : Type 0} (f : A → B) (xs : List A) (start : List B) → start ≡ start ++ map f (take 0 xs)
mapped_start f xs start = sym (append-nil start)

-- the image of one more item
pub mapped_on : {A B : Type 0} (f : A → B) (xs : List A) (i : ℕ) (d : A) (start old new : List B) (v : B) → i < length xs → v ≡ f (get_or xs i d) → new ≡ old ++ v ∷ [] → old ≡ start ++ map f (take i xs) → new ≡ start ++ map f (take (i + 1) xs)
mapped_on f xs i d start old new v l e n h =
    n ∙ (ap (λ r. r ++ v ∷ []) h ∙ (append_assoc start (map f (take i xs)) (v ∷ []) ∙ ap (λ r. start ++ r) (ap (λ w. map f (take i xs) ++ w ∷ []) e ∙ sym (ap (λ k. map f (take k xs)) (add-one i) ∙ (ap (map f) (take-suc xs i d l) ∙ map-append f (take i xs) (get_or xs i d ∷ []))))))

pub mapped_end : {A B : Type 0} (f : A → B) (xs : List A) (i : ℕ) (start old : List B) → length xs ≤ i → old ≡ start ++ map f (take i xs) → old ≡ start ++ map f xs
mapped_end f xs i start old l h = h ∙ ap (λ q. start ++ map f q) (take_all i xs l)
