-- Names that are kept once each, and looked up by their hashes.
use Rattle.std.proofs.Common.{◌≡◌, ◌∙◌, ap, sym, refl, ℕ, suc, ◌+◌, Bool, true, false, ◌||◌, ◌&&◌, not, get_or, if◌then◌else◌, List, [], ◌∷◌, ◌++◌, take, bytes_eq, Option, Some, None}
use Rattle.std.specs.Prelude.{is_some, slice_get, option_map}
use Rattle.std.specs.List.{list_any, filter}
use Rattle.std.proofs.lemmas.List.{take_more}
use Rattle.std.proofs.lemmas.Option.{slice_get_within, get_or_from_slice_get}
use Rattle.std.proofs.lemmas.Slice.Eq.{bytes_eq-Decides}
use Rattle.name_places.specs.Places.{place_of}
use Rattle.offers.specs.declared.member.Member.{Member}
use Rattle.offers.specs.Scenes.{Scene, is_among}
use Rattle.offers.specs.Spellings.{parts}
use Rattle.offers.specs.Candidates.{is_static}
use Rattle.offers.specs.Omissions.{owner_text, prefixes, is_hidden}

still : (o : Option ℕ) → is_some (option_map suc o) ≡ is_some o
still None = refl
still (Some n) = refl

first-or : (b : Bool) (o : Option ℕ) → is_some (if b then Some 0 else option_map suc o) ≡ (b || is_some o)
first-or true o = refl
first-or false o = still o

-- a text has a place where it is among them
pub placed : (names : List (List ℕ)) (text : List ℕ) → is_some (place_of names text) ≡ is_among names text
unfolding place_of
placed [] text = refl
placed (x ∷ xs) text = first-or (bytes_eq x text) (place_of xs text) ∙ ap (λ (b : Bool). bytes_eq x text || b) (placed xs text)

or-nest : (a b c : Bool) → ((a || b) || c) ≡ (a || (b || c))
or-nest true b c = refl
or-nest false b c = refl

or-none : (a : Bool) → (a || false) ≡ a
or-none true = refl
or-none false = refl

more : (xs : List (List ℕ)) (x text : List ℕ) → is_among (xs ++ x ∷ []) text ≡ (is_among xs text || bytes_eq x text)
more [] x text = or-none (bytes_eq x text)
more (y ∷ ys) x text = ap (λ (b : Bool). bytes_eq y text || b) (more ys x text) ∙ sym (or-nest (bytes_eq y text) (is_among ys text) (bytes_eq x text))

again-by : (a b : Bool) → (b ≡ true → a ≡ true) → a ≡ (a || b)
again-by true b f = refl
again-by false true f = f refl
again-by false false f = refl

pub name-there : (names : List (List ℕ)) (name text : List ℕ) (out : Bool) → out ≡ is_among names name → out ≡ true → is_among names text ≡ (is_among names text || bytes_eq name text)
name-there names name text out e t = again-by (is_among names text) (bytes_eq name text) (λ q. ap (is_among names) (sym ((bytes_eq-Decides name text).0 q)) ∙ sym e ∙ t)

pub name-more : (names new : List (List ℕ)) (name text : List ℕ) → new ≡ names ++ name ∷ [] → is_among new text ≡ (is_among names text || bytes_eq name text)
name-more names new name text e = ap (λ (z : List (List ℕ)). is_among z text) e ∙ more names name text

pub not-placed : (names : List (List ℕ)) (name : List ℕ) (out : Bool) → out ≡ is_among names name → out ≡ false → place_of names name ≡ None
not-placed names name out e f = none-by (place_of names name) (placed names name ∙ sym e ∙ f)
  where
    none-by : (o : Option ℕ) → is_some o ≡ false → o ≡ None
    none-by None q = refl
    none-by (Some n) q = absurd (let h = q in cc)

-- of one text more
pub names-on : (texts : List (List ℕ)) (i : ℕ) (x : List ℕ) (old new : List (List ℕ)) → slice_get texts i ≡ Some x → ((text : List ℕ) → is_among old text ≡ is_among (take i texts) text) → ((text : List ℕ) → is_among new text ≡ (is_among old text || bytes_eq x text)) → (text : List ℕ) → is_among new text ≡ is_among (take (i + 1) texts) text
names-on texts i x old new s h f text =
    f text ∙ ap (λ (b : Bool). b || bytes_eq x text) (h text) ∙ sym (more (take i texts) x text)
    ∙ sym (ap (λ (z : List (List ℕ)). is_among z text) (take_more texts i x (slice_get_within texts i x s) ∙ ap (λ (y : List ℕ). take i texts ++ y ∷ []) (get_or_from_slice_get texts i x x s)))

-- names that tell the same texts
pub any-same : {A : Type 0} (p q : A → Bool) → ((x : A) → p x ≡ q x) → (xs : List A) → list_any p xs ≡ list_any q xs
any-same p q f [] = refl
any-same p q f (x ∷ xs) = ap (λ (b : Bool). b || list_any p xs) (f x) ∙ ap (λ (b : Bool). q x || b) (any-same p q f xs)

pub filter-same : {A : Type 0} (p q : A → Bool) → ((x : A) → p x ≡ q x) → (xs : List A) → filter p xs ≡ filter q xs
filter-same {A} p q f [] = refl
filter-same {A} p q f (x ∷ xs) = ap (λ (b : Bool). if b then x ∷ filter p xs else filter p xs) (f x) ∙ ap (λ (z : List A). if q x then x ∷ z else z) (filter-same p q f xs)

hidden-same : (v : Scene) (taken names known fields : List (List ℕ)) → ((text : List ℕ) → is_among taken text ≡ is_among names text) → ((text : List ℕ) → is_among known text ≡ is_among fields text) → (m : Member) → is_hidden v taken known m ≡ is_hidden v names fields m
unfolding is_hidden
hidden-same v taken names known fields f g m =
    ap (λ (b : Bool). is_static m && (b || list_any (is_among known) (prefixes (owner_text v m)))) (f (get_or (parts (owner_text v m)) 0 []))
    ∙ ap (λ (b : Bool). is_static m && (is_among names (get_or (parts (owner_text v m)) 0 []) || b)) (any-same (is_among known) (is_among fields) g (prefixes (owner_text v m)))

-- what is shown by names that tell the same texts
pub shown : (v : Scene) (taken names known fields : List (List ℕ)) (ms all : List Member) → ((text : List ℕ) → is_among taken text ≡ is_among names text) → ((text : List ℕ) → is_among known text ≡ is_among fields text) → all ≡ filter (λ m. not (is_hidden v taken known m)) ms → all ≡ filter (λ m. not (is_hidden v names fields m)) ms
shown v taken names known fields ms all f g h =
    h ∙ filter-same (λ (m : Member). not (is_hidden v taken known m)) (λ (m : Member). not (is_hidden v names fields m)) (λ m. ap not (hidden-same v taken names known fields f g m)) ms

pub same-names : (known listed fields : List (List ℕ)) → ((text : List ℕ) → is_among known text ≡ is_among listed text) → listed ≡ fields → (text : List ℕ) → is_among known text ≡ is_among fields text
same-names known listed fields f e text = f text ∙ ap (λ (z : List (List ℕ)). is_among z text) e
