-- Reading parts that carry places: what is read is spelled so but for its places, and what is spelled so is read.
use Rattle.std.proofs.Common.{◌≡◌, ℕ, zero, suc, List, [], ◌∷◌, ◌++◌, length, Result, Ok, refl, sym, ap, subst, ◌∙◌, append_assoc, arith}
use Rattle.std.specs.List.{flat_map, AllByRecursion}
use Rattle.std.proofs.lemmas.List.Concat.{flat_map-cons}
use Rattle.byteorder.specs.Endian.{big_bytes}
use Rattle.class_pool.specs.declared.fault.ClassFault.{ClassFault}
use Rattle.class_pool.specs.Reading.{IsBytes, ◌>>=◌}
use Rattle.class_pool.proofs.Codec.{Takes, Takes-then, bind_ok, ok_is, step, number_2}
use Rattle.class_shape.specs.Parts.{counted, Counted}
use Rattle.class_shape.specs.Shapes.{Pairwise}
use Rattle.class_shape.specs.Reading.{many_at, counted_at}

-- the part x that a value v was read from
pub record Seen {A B : Type 0} (spell : A → List ℕ) (Fits : A → Type 0) (Same : B → A → Type 0) (Good : B → Type 0) (bytes : List ℕ) (v : B) (rest : List ℕ) : Type 0 where
  pub part : A
  pub takes : Takes bytes (spell part) rest
  pub fits : Fits part
  pub same : Same v part
  pub good : Good v

pub record SeenCodec {A B : Type 0} (spell : A → List ℕ) (Fits : A → Type 0) (Same : B → A → Type 0) (Good : B → Type 0) (read : List ℕ → Result (B × List ℕ) ClassFault) : Type 0 where
  pub takes : (bytes : List ℕ) (v : B) (rest : List ℕ) → IsBytes bytes → read bytes ≡ Ok (v, rest) → Seen spell Fits Same Good bytes v rest
  pub again : (x : A) (rest : List ℕ) → Fits x → (v : B) × (read (spell x ++ rest) ≡ Ok (v, rest)) × Same v x

-- a part that was read, and what came after it
pub record SeenStep {A B C : Type 0} (spell : A → List ℕ) (Fits : A → Type 0) (Same : B → A → Type 0) (Good : B → Type 0) (f : B × List ℕ → Result C ClassFault) (bytes : List ℕ) (y : C) : Type 0 where
  pub value : B
  pub rest : List ℕ
  pub seen : Seen spell Fits Same Good bytes value rest
  pub next : f (value, rest) ≡ Ok y

pub see : {A B C : Type 0} {spell : A → List ℕ} {Fits : A → Type 0} {Same : B → A → Type 0} {Good : B → Type 0} {read : List ℕ → Result (B × List ℕ) ClassFault} (codec : SeenCodec spell Fits Same Good read) (f : B × List ℕ → Result C ClassFault) (bytes : List ℕ) (y : C) → IsBytes bytes → (read bytes >>= f) ≡ Ok y → SeenStep spell Fits Same Good f bytes y
see codec f bytes y fits e =
    let b = bind_ok _ f y e in
    record { value = b.0.0; rest = b.0.1; seen = codec.takes bytes b.0.0 b.0.1 fits b.1; next = b.2 }

module _ {A B : Type 0} (spell : A → List ℕ) (Fits : A → Type 0) (Same : B → A → Type 0) (Good : B → Type 0) (read : List ℕ → Result (B × List ℕ) ClassFault) (codec : SeenCodec spell Fits Same Good read) where
  pub record SeenMany (n : ℕ) (bytes : List ℕ) (vs : List B) (rest : List ℕ) : Type 0 where
    pub parts : List A
    pub takes : Takes bytes (flat_map spell parts) rest
    pub count : length parts ≡ n
    pub fits : AllByRecursion Fits parts
    pub same : Pairwise Same vs parts
    pub good : AllByRecursion Good vs

  pub many_take : (n : ℕ) (bytes : List ℕ) (vs : List B) (rest : List ℕ) → IsBytes bytes → many_at read n bytes ≡ Ok (vs, rest) → SeenMany n bytes vs rest
  unfolding many_at
  many_take zero bytes vs rest fits e =
      subst (λ (p : List B × List ℕ). SeenMany 0 bytes p.0 p.1) (ok_is ([], bytes) (vs, rest) e) (record { parts = []; takes = record { parts = refl; rest_fits = fits }; count = refl; fits = tt; same = tt; good = tt })
  many_take (suc n) bytes vs rest fits e =
      let a = see codec _ bytes (vs, rest) fits e in
      let b = bind_ok (many_at read n a.rest) _ (vs, rest) a.next in
      let t = many_take n a.rest b.0.0 b.0.1 a.seen.takes.rest_fits b.1 in
      let both = Takes-then bytes (spell a.seen.part) a.rest (flat_map spell t.parts) b.0.1 a.seen.takes t.takes in
      subst (λ (p : List B × List ℕ). SeenMany (suc n) bytes p.0 p.1) (ok_is (a.value ∷ b.0.0, b.0.1) (vs, rest) b.2)
      (record { parts = a.seen.part ∷ t.parts; takes = rw flat_map-cons both; count = ap suc t.count; fits = (a.seen.fits, t.fits); same = (a.seen.same, t.same); good = (a.seen.good, t.good) })

  pub many_again : (xs : List A) (rest : List ℕ) → AllByRecursion Fits xs → (vs : List B) × (many_at read (length xs) (flat_map spell xs ++ rest) ≡ Ok (vs, rest)) × Pairwise Same vs xs
  unfolding many_at
  many_again [] rest fits = ([], refl, tt)
  many_again (x ∷ xs) rest fits =
      let regrouped : flat_map spell (x ∷ xs) ++ rest ≡ spell x ++ (flat_map spell xs ++ rest) = ap (λ (t : List ℕ). t ++ rest) (flat_map-cons spell x xs) ∙ append_assoc (spell x) (flat_map spell xs) rest in
      let first = codec.again x (flat_map spell xs ++ rest) fits.0 in
      let later = many_again xs rest fits.1 in
      (first.0 ∷ later.0, ap (many_at read (suc (length xs))) regrouped ∙ rw (first.1, later.1) refl, (first.2, later.2))

  counted_takes : (total : ℕ) (bytes : List ℕ) (vs : List B) (rest : List ℕ) → IsBytes bytes → counted_at total read bytes ≡ Ok (vs, rest) → Seen (counted spell) (Counted Fits) (Pairwise Same) (AllByRecursion Good) bytes vs rest
  unfolding counted_at
  counted_takes total bytes vs rest fits e =
      let a = step (number_2 total) _ bytes (vs, rest) fits e in
      let t = many_take a.value a.rest vs rest a.takes.rest_fits a.next in
      let both = Takes-then bytes (big_bytes 2 a.value) a.rest (flat_map spell t.parts) rest a.takes t.takes in
      record { part = t.parts; takes = subst (λ (k : ℕ). Takes bytes (big_bytes 2 k ++ flat_map spell t.parts) rest) (sym t.count) both; fits = (omega (arith, a.fits, t.count), t.fits); same = t.same; good = t.good }

  counted_again : (total : ℕ) (xs : List A) (rest : List ℕ) → Counted Fits xs → (vs : List B) × (counted_at total read (counted spell xs ++ rest) ≡ Ok (vs, rest)) × Pairwise Same vs xs
  unfolding counted_at
  counted_again total xs rest fits =
      let later = many_again xs rest fits.1 in
      (later.0, ap (counted_at total read) (append_assoc (big_bytes 2 (length xs)) (flat_map spell xs) rest) ∙ rw ((number_2 total).again (length xs) (flat_map spell xs ++ rest) fits.0) later.1, later.2)

  pub counted_codec : (total : ℕ) → SeenCodec (counted spell) (Counted Fits) (Pairwise Same) (AllByRecursion Good) (counted_at total read)
  counted_codec total = record { takes = counted_takes total; again = counted_again total }
