-- How what is found is put together.
use Rattle.std.proofs.Common.{◌≡◌, ◌∙◌, ap, sym, ℕ, refl, Bool, true, false, subst, ◌⊎◌, inl, inr, [], ◌∷◌, ◌++◌, if◌then◌else◌}
use Rattle.java_resolve.specs.Found.{Found, none, one, two, IsFound, join, both, each, Row, pick, entry_in}
use Rattle.terms.specs.Expr.{Expr}

-- two predicates that nothing has both of
pub joined : {E : Type 0} (P Q R : E → Type 0) (x y : Found E) → ((e : E) → P e → R e) → ((e : E) → Q e → R e) → ((e : E) → R e → P e ⊎ Q e) → ((e : E) → P e → Q e → ⊥) → IsFound P x → IsFound Q y → IsFound R (join x y)
unfolding IsFound
joined P Q R none none pr qr cases apart f h = λ e r. elim (cases e r) [ inl a ↦ f e a | inr b ↦ h e b ]
joined P Q R none (one b) pr qr cases apart f h = (qr b h.0, λ e r. elim (cases e r) [ inl a ↦ absurd (f e a) | inr q ↦ h.1 e q ])
joined P Q R none two pr qr cases apart f h = record { first = h.first; second = h.second; is_first = qr _ h.is_first; is_second = qr _ h.is_second; differ = h.differ }
joined P Q R (one a) none pr qr cases apart f h = (pr a f.0, λ e r. elim (cases e r) [ inl p ↦ f.1 e p | inr q ↦ absurd (h e q) ])
joined P Q R (one a) (one b) pr qr cases apart f h = record { first = a; second = b; is_first = pr a f.0; is_second = qr b h.0; differ = λ e. apart a f.0 (subst Q (sym e) h.0) }
joined P Q R (one a) two pr qr cases apart f h = record { first = h.first; second = h.second; is_first = qr _ h.is_first; is_second = qr _ h.is_second; differ = h.differ }
joined P Q R two y pr qr cases apart f h = record { first = f.first; second = f.second; is_first = pr _ f.is_first; is_second = pr _ f.is_second; differ = f.differ }

-- a predicate that means the same
pub alike : {E : Type 0} (P Q : E → Type 0) (x : Found E) → ((e : E) → P e → Q e) → ((e : E) → Q e → P e) → IsFound P x → IsFound Q x
unfolding IsFound
alike P Q none pq qp h = λ e q. h e (qp e q)
alike P Q (one a) pq qp h = (pq a h.0, λ e q. h.1 e (qp e q))
alike P Q two pq qp h = record { first = h.first; second = h.second; is_first = pq _ h.is_first; is_second = pq _ h.is_second; differ = h.differ }

-- pairs: a value of R comes from just one pair
pub paired : {A B C : Type 0} (P : A → Type 0) (Q : B → Type 0) (R : C → Type 0) (f : A → B → C) (x : Found A) (y : Found B) → ((a : A) (b : B) → P a → Q b → R (f a b)) → ((c : C) → R c → (a : A) × (b : B) × (P a × Q b × (c ≡ f a b))) → ((a b : A) (c d : B) → f a c ≡ f b d → (a ≡ b) × (c ≡ d)) → IsFound P x → IsFound Q y → IsFound R (both f x y)
unfolding IsFound
paired P Q R f none y make split inj u v = λ c r. let h = split c r in u h.0 h.2.0
paired P Q R f (one a) none make split inj u v = λ c r. let h = split c r in v h.1 h.2.1
paired P Q R f (one a) (one b) make split inj u v = (make a b u.0 v.0, λ c r. let h = split c r in h.2.2 ∙ ap (λ z. f z h.1) (u.1 h.0 h.2.0) ∙ ap (f a) (v.1 h.1 h.2.1))
paired P Q R f (one a) two make split inj u v = record { first = f a v.first; second = f a v.second; is_first = make a _ u.0 v.is_first; is_second = make a _ u.0 v.is_second; differ = λ e. v.differ (inj a a _ _ e).1 }
paired P Q R f two none make split inj u v = λ c r. let h = split c r in v h.1 h.2.1
paired P Q R f two (one b) make split inj u v = record { first = f u.first b; second = f u.second b; is_first = make _ b u.is_first v.0; is_second = make _ b u.is_second v.0; differ = λ e. u.differ (inj _ _ b b e).0 }
paired P Q R f two two make split inj u v = record { first = f u.first v.first; second = f u.second v.first; is_first = make _ _ u.is_first v.is_first; is_second = make _ _ u.is_second v.is_first; differ = λ e. u.differ (inj _ _ _ _ e).0 }

-- values made of others, each from just one
pub eached : {A B : Type 0} (P : A → Type 0) (R : B → Type 0) (f : A → B) (x : Found A) → ((a : A) → P a → R (f a)) → ((b : B) → R b → (a : A) × (P a × (b ≡ f a))) → ((a b : A) → f a ≡ f b → a ≡ b) → IsFound P x → IsFound R (each f x)
unfolding IsFound
eached P R f none make split inj h = λ b r. let s = split b r in h s.0 s.1.0
eached P R f (one a) make split inj h = (make a h.0, λ b r. let s = split b r in s.1.1 ∙ ap f (h.1 s.0 s.1.0))
eached P R f two make split inj h = record { first = f h.first; second = f h.second; is_first = make _ h.is_first; is_second = make _ h.is_second; differ = λ e. h.differ (inj _ _ e) }

-- rows one after the other
pub join_assoc : {E : Type 0} (x y z : Found E) → join (join x y) z ≡ join x (join y z)
join_assoc none none none = refl
join_assoc none none (one c) = refl
join_assoc none none two = refl
join_assoc none (one b) none = refl
join_assoc none (one b) (one c) = refl
join_assoc none (one b) two = refl
join_assoc none two z = refl
join_assoc (one a) none none = refl
join_assoc (one a) none (one c) = refl
join_assoc (one a) none two = refl
join_assoc (one a) (one b) none = refl
join_assoc (one a) (one b) (one c) = refl
join_assoc (one a) (one b) two = refl
join_assoc (one a) two z = refl
join_assoc two y z = refl

pub join_left : {E : Type 0} (x : Found E) → join none x ≡ x
join_left none = refl
join_left (one a) = refl
join_left two = refl

pub join_right : {E : Type 0} (x : Found E) → join x none ≡ x
join_right none = refl
join_right (one a) = refl
join_right two = refl

pub pick_append : (p : ℕ → Bool) (xs ys : Row) → pick p (xs ++ ys) ≡ join (pick p xs) (pick p ys)
unfolding pick
pick_append p [] ys = sym (join_left (pick p ys))
pick_append p (x ∷ xs) ys = ap (join (if p x.0 then x.1 else none)) (pick_append p xs ys) ∙ sym (join_assoc (if p x.0 then x.1 else none) (pick p xs) (pick p ys))

if_same : (b : Bool) (x : Found Expr) → x ≡ (if b then x else x)
if_same true x = refl
if_same false x = refl

pub pick_entry : (p : ℕ → Bool) (a : ℕ) (f : Found Expr) → pick p (entry_in a f) ≡ (if p a then f else none)
unfolding pick
pick_entry p a none = if_same (p a) none
pick_entry p a (one e) = join_right (if p a then one e else none)
pick_entry p a two = join_right (if p a then two else none)

-- rows of terms that differ, one after the other
pub rows_joined : (P Q R : Expr → Type 0) (p : ℕ → Bool) (xs ys : Row) → ((e : Expr) → P e → R e) → ((e : Expr) → Q e → R e) → ((e : Expr) → R e → P e ⊎ Q e) → ((e : Expr) → P e → Q e → ⊥) → IsFound P (pick p xs) → IsFound Q (pick p ys) → IsFound R (pick p (xs ++ ys))
rows_joined P Q R p xs ys pr qr cases apart f h = subst (λ z. IsFound R z) (sym (pick_append p xs ys)) (joined P Q R (pick p xs) (pick p ys) pr qr cases apart f h)
