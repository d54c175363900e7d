-- A member is crowded by one of its rivals, which stand among the members of its name and number of parameters.
use Rattle.std.proofs.Common.{◌≡◌, ◌∙◌, ap, sym, subst, refl, arith, ℕ, zero, suc, ◌+◌, ◌<◌, length, Option, Some, Bool, true, false, ◌&&◌, ◌||◌, ◌==◌, cond, List, [], ◌∷◌, ◌++◌, take, map, get_or}
use Rattle.std.proofs.lemmas.List.{take_more}
use Rattle.std.specs.Prelude.{slice_get}
use Rattle.std.specs.List.{list_any, filter}
use Rattle.std.proofs.lemmas.Option.{slice_get_within, get_or_from_slice_get}
use Rattle.type_names.specs.declared.kinds.Erased.{Erased}
use Rattle.type_names.specs.declared.kinds.Base.TheVariants.{Int}
use Rattle.offers.specs.declared.member.Member.{Member}
use Rattle.offers.specs.declared.placed.Placed.{Placed}
use Rattle.offers.specs.Scenes.{Scene, of_class, at_or_below}
use Rattle.offers.specs.Candidates.{same_kind, is_private}
use Rattle.offers.specs.Omissions.{is_kin, meet, crowds, is_crowded}
use Rattle.offers.specs.Functional.{of_base}
use Rattle.offers.specs.Types.{is_below_at}
use Rattle.offers.specs.Grouping.{IsRow, AreGroups, row_in, at_place}
use Rattle.offers.specs.Hashing.{count_hash}
use Rattle.offers.specs.Kept.{IsKeptIn, AreOwners}
use Rattle.offers.specs.Rivals.{is_rival, types_under, has_under, is_met}
use Rattle.offers.proofs.Lists.{first-true, second-true}
use Rattle.offers.proofs.Rows.{any-row}
use Rattle.offers.proofs.Alike.{one-count}

both : {A : Type 0} (b : Bool) (q : A → Bool) (x : A) (ys : List A) (more : Bool) → more ≡ list_any q ys → ((b && q x) || more) ≡ list_any q (cond b (x ∷ ys) ys)
both true q x ys more e = ap (λ t. q x || t) e
both false q x ys more e = e

-- one of these passes both tests where one of those that pass the first passes the second
any-both : {A : Type 0} (p q : A → Bool) (xs : List A) → list_any (λ x. p x && q x) xs ≡ list_any q (filter p xs)
any-both p q [] = refl
any-both p q (x ∷ xs) = both (p x) q x (filter p xs) (list_any (λ y. p y && q y) xs) (any-both p q xs)

meets : (v : Scene) (ts : List Erased) (m n : Member) → meet v ts m n ≡ has_under v (types_under v ts (of_class m.owner)) (of_class n.owner)
meets v ts m n = any-both (λ t. at_or_below v t (of_class m.owner)) (λ t. at_or_below v t (of_class n.owner)) ts

any-crowds : (v : Scene) (ts : List Erased) (m : Member) (ms : List Member) → list_any (is_met v (types_under v ts (of_class m.owner)) m) ms ≡ list_any (crowds v ts m) ms
any-crowds v ts m [] = refl
any-crowds v ts m (n ∷ ns) =
    ap (λ t. (is_rival m n && t) || list_any (is_met v (types_under v ts (of_class m.owner)) m) ns) (sym (meets v ts m n))
    ∙ ap (λ t. (is_rival m n && meet v ts m n) || t) (any-crowds v ts m ns)

mapped-at : {A B : Type 0} (f : A → B) (xs : List A) (i : ℕ) (x : A) → slice_get xs i ≡ Some x → slice_get (map f xs) i ≡ Some (f x)
mapped-at f [] i x s = absurd (let k = s in cc)
mapped-at f (y ∷ ys) zero x s = let k : y ≡ x = cc in ap (λ z. Some (f z)) k
mapped-at f (y ∷ ys) (suc i) x s = mapped-at f ys i x s

-- a member that isn't private, where these types are at or below its owner
pub crowded-by : (v : Scene) (ts : List Erased) (ms : List Member) (m : Member) (owner : List ℕ) (under : List Erased) (out : Bool) → is_private m ≡ false → under ≡ types_under v ts (of_class owner) → owner ≡ m.owner → out ≡ list_any (is_met v under m) ms → out ≡ is_crowded v ts ms m
unfolding is_crowded
crowded-by v ts ms m owner under out e f g h =
    h ∙ ap (λ (us : List Erased). list_any (is_met v us m) ms) (f ∙ ap (λ (o : List ℕ). types_under v ts (of_class o)) g)
    ∙ any-crowds v ts m ms ∙ sym (ap (λ t. t || list_any (crowds v ts m) ms) e)

pub crowded-same : (v : Scene) (old new : Placed) (ms ns : List Member) (m : Member) (out : Bool) → new ≡ old → ns ≡ ms → out ≡ is_crowded v new.types ns m → out ≡ is_crowded v old.types ms m
crowded-same v old new ms ns m out e f h = h ∙ ap (λ (p : Placed). is_crowded v p.types ns m) e ∙ ap (λ (z : List Member). is_crowded v old.types z m) f

-- the type of what stands at a place
pub typed-at : {A : Type 0} (f : A → Erased) (xs : List A) (ts : List Erased) (i : ℕ) (x : A) → ts ≡ map f xs → slice_get xs i ≡ Some x → slice_get ts i ≡ Some (f x)
typed-at f xs ts i x e s = ap (λ (us : List Erased). slice_get us i) e ∙ mapped-at f xs i x s

pub typed-within : {A : Type 0} (f : A → Erased) (xs : List A) (ts : List Erased) (i : ℕ) (x : A) → ts ≡ map f xs → slice_get xs i ≡ Some x → i < length ts
typed-within f xs ts i x e s = slice_get_within ts i (f x) (typed-at f xs ts i x e s)

-- the owners of members, each at the place of its type
same-head : {A : Type 0} (x y : A) (xs ys : List A) → x ∷ xs ≡ y ∷ ys → x ≡ y
same-head x y xs ys e = cc

same-tail : {A : Type 0} (x y : A) (xs ys : List A) → x ∷ xs ≡ y ∷ ys → xs ≡ ys
same-tail x y xs ys e = cc

same-cons : {A : Type 0} (x y : A) (xs ys : List A) → x ≡ y → xs ≡ ys → x ∷ xs ≡ y ∷ ys
same-cons x y xs ys e f = cc

abbrev owned : Member → Option Erased
owned m = Some (of_class m.owner)

kept-owners : (ms : List Member) (old new : List Erased) (at : List ℕ) → AreOwners ms old at → IsKeptIn old new → AreOwners ms new at
kept-owners [] old new [] e k = refl
kept-owners [] old new (a ∷ rest) e k = absurd (let h = e in cc)
kept-owners (m ∷ ms) old new [] e k = absurd (let h = e in cc)
kept-owners (m ∷ ms) old new (a ∷ rest) e k =
    same-cons (slice_get new a) (owned m) (map (slice_get new) rest) (map owned ms)
    (k a (of_class m.owner) (same-head (slice_get old a) (owned m) (map (slice_get old) rest) (map owned ms) e))
    (kept-owners ms old new rest (same-tail (slice_get old a) (owned m) (map (slice_get old) rest) (map owned ms) e) k)

map-push : {A B : Type 0} (f : A → B) (xs : List A) (x : A) → map f (xs ++ x ∷ []) ≡ map f xs ++ f x ∷ []
map-push f [] x = refl
map-push f (y ∷ ys) x = ap (λ l. f y ∷ l) (map-push f ys x)

pub owners-on : (ms : List Member) (i : ℕ) (m : Member) (old new : List Erased) (at grown : List ℕ) (a : ℕ) → AreOwners (take i ms) old at → IsKeptIn old new → slice_get new a ≡ owned m → grown ≡ at ++ a ∷ [] → i < length ms → m ≡ get_or ms i m → AreOwners (take (i + 1) ms) new grown
owners-on ms i m old new at grown a e k s g l h =
    ap (map (slice_get new)) g ∙ map-push (slice_get new) at a
    ∙ ap (λ (xs : List (Option Erased)). xs ++ slice_get new a ∷ []) (kept-owners (take i ms) old new at e k)
    ∙ ap (λ (x : Option Erased). map owned (take i ms) ++ x ∷ []) s
    ∙ sym (map-push owned (take i ms) m)
    ∙ ap (λ (x : Member). map owned (take i ms ++ x ∷ [])) h
    ∙ ap (map owned) (sym (take_more ms i m l))

pub kept-push : (old new : List Erased) (x : Erased) → new ≡ old ++ x ∷ [] → IsKeptIn old new
kept-push old new x e i kind h = ap (λ (ks : List Erased). slice_get ks i) e ∙ still old i h
  where
    still : (ks : List Erased) (j : ℕ) → slice_get ks j ≡ Some kind → slice_get (ks ++ x ∷ []) j ≡ Some kind
    still [] j s = absurd (let t = s in cc)
    still (y ∷ ys) zero s = s
    still (y ∷ ys) (suc j) s = still ys j s

pub pushed-at : (old new : List Erased) (x : Erased) → new ≡ old ++ x ∷ [] → slice_get new (length old) ≡ Some x
pushed-at old new x e = ap (λ (ks : List Erased). slice_get ks (length old)) e ∙ last old
  where
    last : (ks : List Erased) → slice_get (ks ++ x ∷ []) (length ks) ≡ Some x
    last [] = refl
    last (y ∷ ys) = last ys

pub owner-at : (ms : List Member) (ts : List Erased) (at : List ℕ) (i : ℕ) (n : Member) (x : ℕ) → AreOwners ms ts at → slice_get ms i ≡ Some n → x ≡ get_or at i x → slice_get ts x ≡ Some (of_class n.owner)
owner-at [] ts at i n x e s g = absurd (let h = s in cc)
owner-at (m ∷ ms) ts [] i n x e s g = absurd (let h = e in cc)
owner-at (m ∷ ms) ts (a ∷ rest) zero n x e s g =
    let k : m ≡ n = cc in
    ap (slice_get ts) g ∙ same-head (slice_get ts a) (owned m) (map (slice_get ts) rest) (map owned ms) e ∙ ap owned k
owner-at (m ∷ ms) ts (a ∷ rest) (suc i) n x e s g = owner-at ms ts rest i n x (same-tail (slice_get ts a) (owned m) (map (slice_get ts) rest) (map owned ms) e) s g

pub owner-within : (ms : List Member) (ts : List Erased) (at : List ℕ) (i : ℕ) (n : Member) (x : ℕ) → AreOwners ms ts at → slice_get ms i ≡ Some n → x ≡ get_or at i x → x < length ts
owner-within ms ts at i n x e s g = slice_get_within ts x (of_class n.owner) (owner-at ms ts at i n x e s g)

pub owner-listed : (ms : List Member) (ts : List Erased) (at : List ℕ) (i : ℕ) (n : Member) → AreOwners ms ts at → slice_get ms i ≡ Some n → i < length at
owner-listed [] ts at i n e s = absurd (let h = s in cc)
owner-listed (m ∷ ms) ts [] i n e s = absurd (let h = e in cc)
owner-listed (m ∷ ms) ts (a ∷ rest) zero n e s = omega arith
owner-listed (m ∷ ms) ts (a ∷ rest) (suc i) n e s = let l = owner-listed ms ts rest i n (same-tail (slice_get ts a) (owned m) (map (slice_get ts) rest) (map owned ms) e) s in omega (arith, l)

pub below-at : (v : Scene) (ms : List Member) (ts : List Erased) (at : List ℕ) (i j x y : ℕ) (m n : Member) (out : Bool) → AreOwners ms ts at → slice_get ms i ≡ Some m → slice_get ms j ≡ Some n → x ≡ get_or at i x → y ≡ get_or at j y → out ≡ is_below_at v ts x y → out ≡ v.below (of_class m.owner) (of_class n.owner)
below-at v ms ts at i j x y m n out e s t g h r =
    r ∙ ap (λ (a : Erased). v.below a (get_or ts y (of_base Int))) (get_or_from_slice_get ts x (of_class m.owner) (of_base Int) (owner-at ms ts at i m x e s g))
    ∙ ap (v.below (of_class m.owner)) (get_or_from_slice_get ts y (of_class n.owner) (of_base Int) (owner-at ms ts at j n y e t h))

rival-count : (m n : Member) → is_rival m n ≡ true → count_hash n ≡ count_hash m
rival-count m n e =
    let alike = first-true (is_kin m n && (length m.params == length n.params)) _ e in
    one-count m n (second-true (same_kind m.kind n.kind) _ (first-true (is_kin m n) _ alike)) (second-true (is_kin m n) _ alike)

pub met-found : (v : Scene) (under : List Erased) (m : Member) (ms : List Member) (rows : List (List ℕ)) (row : List ℕ) (hash : ℕ) (out : Bool) → out ≡ list_any (at_place (is_met v under m) ms) row → row ≡ row_in rows hash → hash ≡ count_hash m → AreGroups (map count_hash ms) rows → out ≡ list_any (is_met v under m) ms
met-found v under m ms rows row hash out h r e g =
    h ∙ any-row (is_met v under m) count_hash ms hash row (λ n t. rival-count m n (first-true (is_rival m n) _ t) ∙ sym e) (subst (λ (z : List ℕ). IsRow (map count_hash ms) hash z) (sym r) (g hash))
