-- The loops of the reader: what was read so far, before what is still to be read.
use Rattle.std.proofs.Common.{◌≡◌, ◌≢◌, ℕ, suc, ◌+◌, ◌-◌, ◌<◌, ◌≤◌, List, [], ◌∷◌, ◌++◌, length, drop, get_or, Result, Ok, Err, refl, sym, ap, subst, ◌∙◌, append_assoc, arith}
use Rattle.std.proofs.lemmas.List.{append-nil, drop_all}
use Rattle.std.proofs.Math.Seq.{drop-cons}
use Rattle.class_pool.specs.declared.fault.ClassFault.{ClassFault}
use Rattle.class_pool.specs.Reading.{on_ok, ◌>>=◌, no_memory}
use Rattle.class_shape.specs.Reading.{many_at, rest_of}
use Rattle.class_shape.specs.Meaning.{each, joined}

-- what was read before stands at the front
abbrev pub prefixed : {B : Type 0} → List B → List B × List ℕ → List B × List ℕ
prefixed prefix r = (prefix ++ r.0, r.1)

abbrev pub joined_to : {B : Type 0} → List B → List B → List B
joined_to prefix ys = prefix ++ ys

-- what a reading gives depends on no more than the place where the bytes end
pub moved : {B : Type 0} (read : ℕ → List ℕ → Result (B × List ℕ) ClassFault) (place end : ℕ) (bytes : List ℕ) (r : Result (B × List ℕ) ClassFault) → place ≡ end → read place bytes ≡ r → read end bytes ≡ r
moved read place end bytes r e h = let P : ℕ → Type 0 = λ n. read n bytes ≡ r in subst P e h

-- ---- so many parts
module _ {B : Type 0} (read : List ℕ → Result (B × List ℕ) ClassFault) where
  -- what is read in all, seen from a point on the way
  abbrev pub SoFar : ℕ → List B → List ℕ → Result (List B × List ℕ) ClassFault → Type 0
  SoFar left prefix bytes whole = on_ok (prefixed prefix) (many_at read left bytes) ≡ on_ok (prefixed []) whole

  shift : (prefix : List B) (y : B) (r : Result (List B × List ℕ) ClassFault) → on_ok (prefixed prefix) (r >>= λ ys. Ok (y ∷ ys.0, ys.1)) ≡ on_ok (prefixed (prefix ++ (y ∷ []))) r
  shift prefix y (Ok r) = ap (λ (t : List B). Ok (t, r.1)) (sym (append_assoc prefix (y ∷ []) r.0))
  shift prefix y (Err d) = refl

  one_step : (n : ℕ) (prefix : List B) (bytes next : List ℕ) (y : B) → read bytes ≡ Ok (y, next) → on_ok (prefixed prefix) (many_at read (suc n) bytes) ≡ on_ok (prefixed (prefix ++ (y ∷ []))) (many_at read n next)
  unfolding many_at
  one_step n prefix bytes next y e = rw e (shift prefix y (many_at read n next))

  pub one_more : (count place : ℕ) (prefix : List B) (bytes next : List ℕ) (y : B) (whole : Result (List B × List ℕ) ClassFault) → place < count → SoFar (count - place) prefix bytes whole → read bytes ≡ Ok (y, next) → SoFar (count - (place + 1)) (prefix ++ (y ∷ [])) next whole
  one_more count place prefix bytes next y whole lt so_far e =
      let k : count - place ≡ suc (count - (place + 1)) = omega arith in
      sym (ap (λ (n : ℕ). on_ok (prefixed prefix) (many_at read n bytes)) k ∙ one_step (count - (place + 1)) prefix bytes next y e) ∙ so_far

  whole_err : (whole : Result (List B × List ℕ) ClassFault) (d : ClassFault) → Err d ≡ on_ok (prefixed []) whole → whole ≡ Err d
  whole_err (Ok r) d e = absurd cc
  whole_err (Err b) d e = cc

  whole_ok : (whole : Result (List B × List ℕ) ClassFault) (prefix : List B) (bytes : List ℕ) → Ok (prefix, bytes) ≡ on_ok (prefixed []) whole → whole ≡ Ok (prefix, bytes)
  whole_ok (Ok r) prefix bytes e = sym e
  whole_ok (Err b) prefix bytes e = absurd cc

  stopped : (n : ℕ) (prefix : List B) (bytes : List ℕ) (d : ClassFault) → read bytes ≡ Err d → on_ok (prefixed prefix) (many_at read (suc n) bytes) ≡ Err d
  unfolding many_at
  stopped n prefix bytes d e = rw e refl

  pub one_ends : (count place : ℕ) (prefix : List B) (bytes : List ℕ) (d : ClassFault) (whole : Result (List B × List ℕ) ClassFault) → place < count → SoFar (count - place) prefix bytes whole → (d ≢ no_memory → read bytes ≡ Err d) → d ≢ no_memory → whole ≡ Err d
  one_ends count place prefix bytes d whole lt so_far given some =
      let k : count - place ≡ suc (count - (place + 1)) = omega arith in
      whole_err whole d (sym (ap (λ (n : ℕ). on_ok (prefixed prefix) (many_at read n bytes)) k ∙ stopped (count - (place + 1)) prefix bytes d (given some)) ∙ so_far)

  ended : (prefix : List B) (bytes : List ℕ) → on_ok (prefixed prefix) (many_at read 0 bytes) ≡ Ok (prefix, bytes)
  unfolding many_at
  ended prefix bytes = ap (λ (t : List B). Ok (t, bytes)) (append-nil prefix)

  pub all_done : (count place : ℕ) (prefix : List B) (bytes : List ℕ) (whole : Result (List B × List ℕ) ClassFault) → count ≤ place → SoFar (count - place) prefix bytes whole → whole ≡ Ok (prefix, bytes)
  all_done count place prefix bytes whole le so_far =
      let k : count - place ≡ 0 = omega arith in
      whole_ok whole prefix bytes (sym (ap (λ (n : ℕ). on_ok (prefixed prefix) (many_at read n bytes)) k ∙ ended prefix bytes) ∙ so_far)

  -- ---- passed over
  drop_first : (y : B) (r : Result (List B × List ℕ) ClassFault) → on_ok rest_of (r >>= λ ys. Ok (y ∷ ys.0, ys.1)) ≡ on_ok rest_of r
  drop_first y (Ok r) = refl
  drop_first y (Err d) = refl

  pass_one : (n : ℕ) (bytes next : List ℕ) (y : B) → read bytes ≡ Ok (y, next) → on_ok rest_of (many_at read (suc n) bytes) ≡ on_ok rest_of (many_at read n next)
  unfolding many_at
  pass_one n bytes next y e = rw e (drop_first y (many_at read n next))

  pub pass_more : (count place : ℕ) (bytes next : List ℕ) (y : B) (whole : Result (List ℕ) ClassFault) → place < count → read bytes ≡ Ok (y, next) → on_ok rest_of (many_at read (count - place) bytes) ≡ whole → on_ok rest_of (many_at read (count - (place + 1)) next) ≡ whole
  pass_more count place bytes next y whole lt e so_far =
      let k : count - place ≡ suc (count - (place + 1)) = omega arith in
      sym (ap (λ (n : ℕ). on_ok rest_of (many_at read n bytes)) k ∙ pass_one (count - (place + 1)) bytes next y e) ∙ so_far

  pass_stopped : (n : ℕ) (bytes : List ℕ) (d : ClassFault) → read bytes ≡ Err d → on_ok rest_of (many_at read (suc n) bytes) ≡ Err d
  unfolding many_at
  pass_stopped n bytes d e = rw e refl

  pub pass_ends : (count place : ℕ) (bytes : List ℕ) (d : ClassFault) (whole : Result (List ℕ) ClassFault) → place < count → (d ≢ no_memory → read bytes ≡ Err d) → on_ok rest_of (many_at read (count - place) bytes) ≡ whole → d ≢ no_memory → whole ≡ Err d
  pass_ends count place bytes d whole lt given so_far some =
      let k : count - place ≡ suc (count - (place + 1)) = omega arith in
      sym so_far ∙ (ap (λ (n : ℕ). on_ok rest_of (many_at read n bytes)) k ∙ pass_stopped (count - (place + 1)) bytes d (given some))

  pass_ended : (bytes : List ℕ) → on_ok rest_of (many_at read 0 bytes) ≡ Ok bytes
  unfolding many_at
  pass_ended bytes = refl

  pub pass_done : (count place : ℕ) (bytes : List ℕ) (whole : Result (List ℕ) ClassFault) → count ≤ place → on_ok rest_of (many_at read (count - place) bytes) ≡ whole → whole ≡ Ok bytes
  pass_done count place bytes whole le so_far =
      let k : count - place ≡ 0 = omega arith in
      sym so_far ∙ (ap (λ (n : ℕ). on_ok rest_of (many_at read n bytes)) k ∙ pass_ended bytes)

drop_one : {A : Type 0} (xs : List A) (i : ℕ) (d : A) → i < length xs → drop i xs ≡ get_or xs i d ∷ drop (i + 1) xs
drop_one {A = A} xs i d lt = let k : suc i ≡ i + 1 = omega arith in drop-cons xs i d lt ∙ ap (λ (n : ℕ). get_or xs i d ∷ drop n xs) k

list_err : {B : Type 0} (whole : Result (List B) ClassFault) (d : ClassFault) → Err d ≡ on_ok (joined_to []) whole → whole ≡ Err d
list_err (Ok r) d e = absurd cc
list_err (Err b) d e = cc

list_ok : {B : Type 0} (whole : Result (List B) ClassFault) (ys : List B) → Ok ys ≡ on_ok (joined_to []) whole → whole ≡ Ok ys
list_ok (Ok r) ys e = sym e
list_ok (Err b) ys e = absurd cc

-- ---- each in order
module _ {A B : Type 0} (f : A → Result B ClassFault) where
  abbrev pub EachSoFar : ℕ → List B → List A → Type 0
  EachSoFar i prefix xs = on_ok (joined_to prefix) (each f (drop i xs)) ≡ on_ok (joined_to []) (each f xs)

  grown : (prefix : List B) (y : B) (r : Result (List B) ClassFault) → on_ok (joined_to prefix) (r >>= λ ys. Ok (y ∷ ys)) ≡ on_ok (joined_to (prefix ++ (y ∷ []))) r
  grown prefix y (Ok r) = ap (λ (t : List B). Ok t) (sym (append_assoc prefix (y ∷ []) r))
  grown prefix y (Err d) = refl

  each_step : (prefix : List B) (x : A) (xs : List A) (y : B) → f x ≡ Ok y → on_ok (joined_to prefix) (each f (x ∷ xs)) ≡ on_ok (joined_to (prefix ++ (y ∷ []))) (each f xs)
  unfolding each
  each_step prefix x xs y e = rw e (grown prefix y (each f xs))

  each_stopped : (prefix : List B) (x : A) (xs : List A) (d : ClassFault) → f x ≡ Err d → on_ok (joined_to prefix) (each f (x ∷ xs)) ≡ Err d
  unfolding each
  each_stopped prefix x xs d e = rw e refl

  each_ended : (prefix : List B) → on_ok (joined_to prefix) (each f []) ≡ Ok prefix
  unfolding each
  each_ended prefix = ap (λ (t : List B). Ok t) (append-nil prefix)

  pub each_more : (i : ℕ) (d : A) (prefix : List B) (xs : List A) (y : B) → i < length xs → f (get_or xs i d) ≡ Ok y → EachSoFar i prefix xs → EachSoFar (i + 1) (prefix ++ (y ∷ [])) xs
  each_more i d prefix xs y lt e so_far = sym (ap (λ (t : List A). on_ok (joined_to prefix) (each f t)) (drop_one xs i d lt) ∙ each_step prefix (get_or xs i d) (drop (i + 1) xs) y e) ∙ so_far

  pub each_ends : (i : ℕ) (d : A) (prefix : List B) (xs : List A) (fault : ClassFault) → i < length xs → (fault ≢ no_memory → f (get_or xs i d) ≡ Err fault) → EachSoFar i prefix xs → fault ≢ no_memory → each f xs ≡ Err fault
  each_ends i d prefix xs fault lt given so_far some = list_err (each f xs) fault (sym (ap (λ (t : List A). on_ok (joined_to prefix) (each f t)) (drop_one xs i d lt) ∙ each_stopped prefix (get_or xs i d) (drop (i + 1) xs) fault (given some)) ∙ so_far)

  pub each_done : (i : ℕ) (prefix : List B) (xs : List A) → length xs ≤ i → EachSoFar i prefix xs → each f xs ≡ Ok prefix
  each_done i prefix xs le so_far = list_ok (each f xs) prefix (sym (ap (λ (t : List A). on_ok (joined_to prefix) (each f t)) (drop_all i xs le) ∙ each_ended prefix) ∙ so_far)

-- ---- joined
module _ {A B : Type 0} (f : A → Result (List B) ClassFault) where
  abbrev pub JoinedSoFar : ℕ → List B → List A → Type 0
  JoinedSoFar i prefix xs = on_ok (joined_to prefix) (joined f (drop i xs)) ≡ on_ok (joined_to []) (joined f xs)

  added : (prefix ys : List B) (r : Result (List B) ClassFault) → on_ok (joined_to prefix) (r >>= λ more. Ok (ys ++ more)) ≡ on_ok (joined_to (prefix ++ ys)) r
  added prefix ys (Ok r) = ap (λ (t : List B). Ok t) (sym (append_assoc prefix ys r))
  added prefix ys (Err d) = refl

  joined_step : (prefix : List B) (x : A) (xs : List A) (ys : List B) → f x ≡ Ok ys → on_ok (joined_to prefix) (joined f (x ∷ xs)) ≡ on_ok (joined_to (prefix ++ ys)) (joined f xs)
  unfolding joined
  joined_step prefix x xs ys e = rw e (added prefix ys (joined f xs))

  joined_stopped : (prefix : List B) (x : A) (xs : List A) (d : ClassFault) → f x ≡ Err d → on_ok (joined_to prefix) (joined f (x ∷ xs)) ≡ Err d
  unfolding joined
  joined_stopped prefix x xs d e = rw e refl

  joined_ended : (prefix : List B) → on_ok (joined_to prefix) (joined f []) ≡ Ok prefix
  unfolding joined
  joined_ended prefix = ap (λ (t : List B). Ok t) (append-nil prefix)

  pub joined_more : (i : ℕ) (d : A) (prefix : List B) (xs : List A) (ys : List B) → i < length xs → f (get_or xs i d) ≡ Ok ys → JoinedSoFar i prefix xs → JoinedSoFar (i + 1) (prefix ++ ys) xs
  joined_more i d prefix xs ys lt e so_far = sym (ap (λ (t : List A). on_ok (joined_to prefix) (joined f t)) (drop_one xs i d lt) ∙ joined_step prefix (get_or xs i d) (drop (i + 1) xs) ys e) ∙ so_far

  pub joined_ends : (i : ℕ) (d : A) (prefix : List B) (xs : List A) (fault : ClassFault) → i < length xs → (fault ≢ no_memory → f (get_or xs i d) ≡ Err fault) → JoinedSoFar i prefix xs → fault ≢ no_memory → joined f xs ≡ Err fault
  joined_ends i d prefix xs fault lt given so_far some = list_err (joined f xs) fault (sym (ap (λ (t : List A). on_ok (joined_to prefix) (joined f t)) (drop_one xs i d lt) ∙ joined_stopped prefix (get_or xs i d) (drop (i + 1) xs) fault (given some)) ∙ so_far)

  pub joined_done : (i : ℕ) (prefix : List B) (xs : List A) → length xs ≤ i → JoinedSoFar i prefix xs → joined f xs ≡ Ok prefix
  joined_done i prefix xs le so_far = list_ok (joined f xs) prefix (sym (ap (λ (t : List A). on_ok (joined_to prefix) (joined f t)) (drop_all i xs le) ∙ joined_ended prefix) ∙ so_far)
