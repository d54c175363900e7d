-- Sessions that began after a start text was loaded from the shelf of the first end.
use Rattle.std.proofs.Common.{◌≡◌, ◌⊎◌, inl, inr, ⊎_elim, ℕ, zero, suc, ◌≤◌, ◌<◌, List, [], ◌∷◌, length, map, get_or, Option, Some, None, refl, sym, ap, subst, ◌∙◌, arith}
use Rattle.std.specs.Prelude.{slice_get, slice_set}
use Rattle.std.proofs.lemmas.Option.{slice_get_cases, slice_get-map}
use Rattle.std.proofs.lemmas.List.{length-map}
use Rattle.outside.specs.Causes.{Rose}
use Rattle.outside.specs.declared.end.End.{End}
use Rattle.outside.specs.declared.shelf.HeldFile.{HeldFile}
use Rattle.start_text.specs.declared.fault.StartFault.{StartFault}
use Rattle.start_text.specs.declared.fault.StartFault.TheVariants as start_fault
use Rattle.start_text.specs.Faults.{IsOutside, number_of}
use Rattle.version_board.specs.declared.snapshot.Snapshot.{Snapshot}
use Rattle.serving.specs.Services.{EndView, view_of, Lasts, AllLast, AreUntouched, history_of, IsFirst, IsStartFault, AreServedFrom, AreServed, ServesBy, Tells, first_held, first_loads, with_loads}
use Rattle.serving.specs.declared.status.Serving.{Serving}
use Rattle.serving.specs.declared.status.Serving.TheVariants.{Sessions, NotStarted, ShelfFault, OutOfMemory}

pub begun-served : (way : Serving) (start : Option (List ℕ)) (s : Snapshot) (es ms fs : List EndView) (loads : ℕ) → IsFirst start (first_held es) s → ms ≡ with_loads loads es → first_loads es ≤ loads
    → AreServed way (history_of s) ms fs → ServesBy way start es fs
begun-served (Sessions place ended) start s es ms fs loads first same later h = record {
  history = history_of s;
  first = first.first;
  sound = first.sound;
  loads = loads;
  later = later;
  served = subst (λ x. AreServedFrom (history_of s) x fs place ended) same h;
}
begun-served (NotStarted line cause) start s es ms fs loads first same later h = absurd h
begun-served ShelfFault start s es ms fs loads first same later h = absurd h
begun-served OutOfMemory start s es ms fs loads first same later h = tt

-- no session begins on a fault
numbered : (fault : StartFault) (cause : ℕ) → number_of fault ≡ Some cause → IsOutside fault → ⊥
numbered start_fault.NoText cause e o = o
numbered start_fault.LongText cause e o = o
numbered start_fault.NotUtf8 cause e o = o
numbered (start_fault.NoFile line) cause e o = o
numbered (start_fault.LongFile line) cause e o = o
numbered (start_fault.NotClass line why) cause e o = o
numbered (start_fault.Refused why) cause e o = o
numbered start_fault.Failed cause e o = absurd cc
numbered start_fault.OutOfMemory cause e o = absurd cc

pub fault-served : (way : Serving) (start : Option (List ℕ)) (fault : StartFault) (es fs : List EndView) → Tells fault way → IsOutside fault ⊎ IsStartFault start (first_held es) fault
    → (fault ≡ start_fault.Failed → Rose (first_loads es) (first_loads fs)) → ServesBy way start es fs
fault-served (Sessions place ended) start fault es fs told is rose = absurd told
fault-served (NotStarted line cause) start fault es fs told is rose = record {
  fault = fault;
  is = ⊎_elim (λ o. absurd (numbered fault cause told.1 o)) (λ h. h) is;
  line = told.0;
  cause = told.1;
}
fault-served ShelfFault start fault es fs told is rose = rose told
fault-served OutOfMemory start fault es fs told is rose = tt

-- what lasts
lasts-same : (e : EndView) → Lasts e e
lasts-same e = record { held = refl; reads = omega arith; writes = omega arith; loads = omega arith }

lasts-on : (e m f : EndView) → Lasts e m → Lasts m f → Lasts e f
lasts-on e m f a b = record {
  held = b.held ∙ a.held;
  reads = omega (arith, a.reads, b.reads);
  writes = omega (arith, a.writes, b.writes);
  loads = omega (arith, a.loads, b.loads);
}

pub some-within : {X : Type 0} (xs : List X) (i : ℕ) (x : X) → slice_get xs i ≡ Some x → i < length xs
some-within xs i x h = elim (slice_get_cases xs i).1 [
  | inl (y, within, at, is) ↦ within
  | inr (out, none) ↦ absurd cc
]

pub there : {X : Type 0} (xs : List X) (i : ℕ) → i < length xs → (x : X) × (slice_get xs i ≡ Some x)
there xs i l = elim (slice_get_cases xs i).1 [
  | inl (y, within, at, is) ↦ (y, at)
  | inr (out, none) ↦ absurd (omega (arith, l, out))
]

pub all-last-on : (es ms fs : List EndView) → AllLast es ms → AllLast ms fs → AllLast es fs
all-last-on es ms fs a b = record {
  count = b.count ∙ a.count;
  each = λ i e f at_e at_f.
      let m = there ms i (omega (arith, some-within es i e at_e, a.count)) in
      lasts-on e m.0 f (a.each i e m.0 at_e m.1) (b.each i m.0 f m.1 at_f);
}

-- the first end is another than before
first-lasts : (x y : EndView) (xs : List EndView) → Lasts x y → (i : ℕ) (e f : EndView) → slice_get (x ∷ xs) i ≡ Some e → slice_get (y ∷ xs) i ≡ Some f → Lasts e f
first-lasts x y xs h zero e f p q = let a : x ≡ e = cc in let b : y ≡ f = cc in subst (Lasts e) b (subst (λ z. Lasts z y) a h)
first-lasts x y xs h (suc i) e f p q = let a : e ≡ f = cc in subst (Lasts e) a (lasts-same e)

module _ {S K H : Type 0} (seen : End S K H → EndView) where
  pub set-last : (olds : List (End S K H)) (e f : End S K H) → 0 < length olds → e ≡ get_or olds 0 e → Lasts (seen e) (seen f) → AllLast (map seen olds) (map seen (slice_set olds 0 f))
  set-last [] e f l is h = absurd (omega (arith, l))
  set-last (x ∷ xs) e f l is h = record { count = refl; each = first-lasts (seen x) (seen f) (map seen xs) (subst (λ z. Lasts (seen z) (seen f)) is h) }

  pub set-loads : (olds : List (End S K H)) (e f : End S K H) → 0 < length olds → e ≡ get_or olds 0 e → seen f ≡ record (seen e) { load_faults = (seen f).load_faults }
      → map seen (slice_set olds 0 f) ≡ with_loads (seen f).load_faults (map seen olds)
  set-loads [] e f l is h = absurd (omega (arith, l))
  set-loads (x ∷ xs) e f l is h = ap (λ v. v ∷ map seen xs) (h ∙ ap (λ z. record (seen z) { load_faults = (seen f).load_faults }) is)

  pub held-first : (olds : List (End S K H)) (e : End S K H) → 0 < length olds → e ≡ get_or olds 0 e → first_held (map seen olds) ≡ (seen e).held
  held-first [] e l is = absurd (omega (arith, l))
  held-first (x ∷ xs) e l is = ap (λ z. (seen z).held) (sym is)

  pub loads-first : (olds : List (End S K H)) (e : End S K H) → 0 < length olds → e ≡ get_or olds 0 e → first_loads (map seen olds) ≡ (seen e).load_faults
  loads-first [] e l is = absurd (omega (arith, l))
  loads-first (x ∷ xs) e l is = ap (λ z. (seen z).load_faults) (sym is)

  pub loads-set : (olds : List (End S K H)) (f : End S K H) → 0 < length olds → first_loads (map seen (slice_set olds 0 f)) ≡ (seen f).load_faults
  loads-set [] f l = absurd (omega (arith, l))
  loads-set (x ∷ xs) f l = refl

module _ {S K H : Type 0} where
  pub set-untouched : (olds : List (End S K H)) (e f : End S K H) → 0 < length olds → e ≡ get_or olds 0 e → f.source ≡ e.source → f.sink ≡ e.sink → AreUntouched olds (slice_set olds 0 f)
  set-untouched [] e f l is s k = absurd (omega (arith, l))
  set-untouched (x ∷ xs) e f l is s k = record {
    sources = ap (λ z. z ∷ map (λ (y : End S K H). y.source) xs) (s ∙ ap (λ (y : End S K H). y.source) is);
    sinks = ap (λ z. z ∷ map (λ (y : End S K H). y.sink) xs) (k ∙ ap (λ (y : End S K H). y.sink) is);
  }

  pub same-view : (left : S → Option (List ℕ)) (written : K → Option (List ℕ)) (held : H → Option (List HeldFile)) (reads : S → ℕ) (writes : K → ℕ) (loads : H → ℕ) (e f : End S K H) → f.source ≡ e.source → f.sink ≡ e.sink → held f.shelf ≡ held e.shelf
      → view_of left written held reads writes loads f ≡ record (view_of left written held reads writes loads e) { load_faults = loads f.shelf }
  same-view left written held reads writes loads e f s k h = rw (s, k, h) refl
