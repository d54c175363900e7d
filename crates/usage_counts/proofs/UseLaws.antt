-- The uses of instructions and of codes: one more of them, and the one list or the one first fault.
use Rattle.std.proofs.Common.{arith, ◌≡◌, ◌≢◌, ℕ, ◌+◌, ◌-◌, ◌<◌, ◌≤◌, true, false, List, [], ◌∷◌, ◌++◌, length, get_or, take, drop, Result, Ok, Err, IfErr, inl, inr, refl, sym, ap, ◌∙◌, subst, append_assoc}
use Rattle.std.specs.List.{AllByRecursion, All, flat_map}
use Rattle.std.specs.Result.{OnOk}
use Rattle.std.proofs.lemmas.List.{append-nil, get_or_default, length-drop, length-take}
use Rattle.class_pool.specs.Spelling.{Entry}
use Rattle.code_walk.specs.declared.walk.Instr.{Instr}
use Rattle.code_walk.specs.declared.fault.WalkFault.{WalkFault}
use Rattle.code_walk.specs.declared.fault.WalkCause.{WalkCause}
use Rattle.code_walk.specs.declared.fault.WalkCause.TheVariants.{Attribute, Opcode, Cut, Switch, Place, OutOfMemory}
use Rattle.code_walk.specs.Faults.{no_memory}
use Rattle.code_walk.specs.Walk.{StandEndToEnd, AreInstructions}
use Rattle.usage_counts.specs.Counts.{Key}
use Rattle.usage_counts.specs.Uses.{is_named, used}
use Rattle.usage_counts.specs.Files.{code_in, AreNamed, UsesOfCode, UsesOfCodes, IsPlaceFault, IsFaultOfCode, IsFaultOfCodes, OneWalk}
use Rattle.usage_counts.proofs.ListLaws.{one-more, split-at, all-at}

-- The first of these instructions without a member.
place_after : (es : List Entry) (bytes : List ℕ) (before : List Instr) (i : Instr) (after : List Instr) (fault : WalkFault) → AreNamed es bytes before → is_named es bytes i ≡ false → fault ≡ record { at = i.at + 1; cause = Place } → IsPlaceFault es bytes (before ++ (i ∷ after)) fault
place_after es bytes [] i after fault h n e = inl (n, e)
place_after es bytes (b ∷ before) i after fault h n e = inr (h.0, place_after es bytes before i after fault h.1 n e)

pub place-at : (es : List Entry) (bytes : List ℕ) (list : List Instr) (k : ℕ) (i : Instr) (fault : WalkFault) → k < length list → i ≡ get_or list k i → AreNamed es bytes (take k list) → is_named es bytes i ≡ false → fault ≡ record { at = i.at + 1; cause = Place } → IsPlaceFault es bytes list fault
place-at es bytes list k i fault l e h n f = subst (λ is. IsPlaceFault es bytes is fault) (split-at list k i l e) (place_after es bytes (take k list) i (drop (k + 1) list) fault h n f)

-- The same at the element of a place, whatever the default.
pub place-here : (es : List Entry) (bytes : List ℕ) (list : List Instr) (k : ℕ) (d : Instr) (fault : WalkFault) → k < length list → AreNamed es bytes (take k list) → is_named es bytes (get_or list k d) ≡ false → fault ≡ record { at = (get_or list k d).at + 1; cause = Place } → IsPlaceFault es bytes list fault
place-here es bytes list k d fault l h n f = place-at es bytes list k (get_or list k d) fault l (get_or_default list k d (get_or list k d) l) h n f

named_or_not : (es : List Entry) (bytes : List ℕ) (list : List Instr) (fault : WalkFault) → AreNamed es bytes list → IsPlaceFault es bytes list fault → ⊥
named_or_not es bytes [] fault h f = f
named_or_not es bytes (i ∷ list) fault h (inl f) = let n : true ≡ false = sym h.0 ∙ f.0 in absurd cc
named_or_not es bytes (i ∷ list) fault h (inr f) = named_or_not es bytes list fault h.1 f.1

one_place : (es : List Entry) (bytes : List ℕ) (list : List Instr) (fault other : WalkFault) → IsPlaceFault es bytes list fault → IsPlaceFault es bytes list other → fault ≡ other
one_place es bytes [] fault other f g = absurd f
one_place es bytes (i ∷ list) fault other (inl f) (inl g) = f.1 ∙ sym g.1
one_place es bytes (i ∷ list) fault other (inl f) (inr g) = let n : true ≡ false = sym g.0 ∙ f.0 in absurd cc
one_place es bytes (i ∷ list) fault other (inr f) (inl g) = let n : true ≡ false = sym f.0 ∙ g.0 in absurd cc
one_place es bytes (i ∷ list) fault other (inr f) (inr g) = one_place es bytes list fault other f.1 g.1

-- One code more.
uses_then : (es : List Entry) (bytes : List ℕ) (ranges : List (ℕ × ℕ)) (range : ℕ × ℕ) (keys more : List Key) → UsesOfCodes es bytes ranges keys → UsesOfCode es bytes range more → UsesOfCodes es bytes (ranges ++ (range ∷ [])) (keys ++ more)
uses_then es bytes [] range keys more h u = (more, [], ap (λ k. k ++ more) h ∙ sym (append-nil more), u, refl)
uses_then es bytes (r ∷ ranges) range keys more (first, rest, e, one, all) u =
    (first, rest ++ more, ap (λ k. k ++ more) e ∙ append_assoc first rest more, one, uses_then es bytes ranges range rest more all u)

pub uses-more : (es : List Entry) (bytes : List ℕ) (ranges : List (ℕ × ℕ)) (k : ℕ) (range : ℕ × ℕ) (keys more new : List Key) → k < length ranges → range ≡ get_or ranges k range → UsesOfCodes es bytes (take k ranges) keys → UsesOfCode es bytes range more → new ≡ keys ++ more → UsesOfCodes es bytes (take (k + 1) ranges) new
uses-more es bytes ranges k range keys more new l e h u n =
    subst (λ rs. UsesOfCodes es bytes rs new) (sym (one-more ranges k range l e)) (subst (λ ks. UsesOfCodes es bytes (take k ranges ++ (range ∷ [])) ks) (sym n) (uses_then es bytes (take k ranges) range keys more h u))

fault_after : (es : List Entry) (bytes : List ℕ) (before : List (ℕ × ℕ)) (range : ℕ × ℕ) (after : List (ℕ × ℕ)) (keys : List Key) (fault : WalkFault) → UsesOfCodes es bytes before keys → IsFaultOfCode es bytes range fault → IsFaultOfCodes es bytes (before ++ (range ∷ after)) fault
fault_after es bytes [] range after keys fault h f = inl f
fault_after es bytes (r ∷ before) range after keys fault (first, rest, e, one, all) f = inr ((first, one), fault_after es bytes before range after rest fault all f)

pub fault-at : (es : List Entry) (bytes : List ℕ) (ranges : List (ℕ × ℕ)) (k : ℕ) (range : ℕ × ℕ) (keys : List Key) (fault : WalkFault) → k < length ranges → range ≡ get_or ranges k range → UsesOfCodes es bytes (take k ranges) keys → IsFaultOfCode es bytes range fault → IsFaultOfCodes es bytes ranges fault
fault-at es bytes ranges k range keys fault l e h f = subst (λ rs. IsFaultOfCodes es bytes rs fault) (split-at ranges k range l e) (fault_after es bytes (take k ranges) range (drop (k + 1) ranges) keys fault h f)

pub uses-here : (es : List Entry) (bytes : List ℕ) (ranges : List (ℕ × ℕ)) (k : ℕ) (d : ℕ × ℕ) (keys new : List Key) → k < length ranges → UsesOfCodes es bytes (take k ranges) keys → ((more : List Key) × UsesOfCode es bytes (get_or ranges k d) more × (new ≡ keys ++ more)) → UsesOfCodes es bytes (take (k + 1) ranges) new
uses-here es bytes ranges k d keys new l h (more, u, n) = uses-more es bytes ranges k (get_or ranges k d) keys more new l (get_or_default ranges k d (get_or ranges k d) l) h u n

pub fault-here : (es : List Entry) (bytes : List ℕ) (ranges : List (ℕ × ℕ)) (k : ℕ) (d : ℕ × ℕ) (keys : List Key) (fault : WalkFault) → k < length ranges → UsesOfCodes es bytes (take k ranges) keys → IsFaultOfCode es bytes (get_or ranges k d) fault → IsFaultOfCodes es bytes ranges fault
fault-here es bytes ranges k d keys fault l h f = fault-at es bytes ranges k (get_or ranges k d) keys fault l (get_or_default ranges k d (get_or ranges k d) l) h f

-- A code whose instructions are known.
pub code-found : {X : Type 0} (r : Result X WalkFault) (es : List Entry) (bytes : List ℕ) (range : ℕ × ℕ) (list : List Instr) (old new : List Key) → AreInstructions range.0 (code_in bytes range) list → OnOk r (AreNamed es bytes list) → OnOk r (new ≡ old ++ flat_map (used es bytes) list) → OnOk r ((more : List Key) × UsesOfCode es bytes range more × (new ≡ old ++ more))
code-found (Ok x) es bytes range list old new t n e = (flat_map (used es bytes) list, record { list = list; tiled = t; named = n; keys_are = refl }, e)
code-found (Err f) es bytes range list old new t n e = tt

pub code-first : {X : Type 0} (r : Result X WalkFault) (es : List Entry) (bytes : List ℕ) (range : ℕ × ℕ) (list : List Instr) → AreInstructions range.0 (code_in bytes range) list → IfErr r (λ f. f.cause ≢ OutOfMemory → IsPlaceFault es bytes list f) → IfErr r (λ f. f.cause ≢ OutOfMemory → IsFaultOfCode es bytes range f)
code-first (Ok x) es bytes range list t p = tt
code-first (Err f) es bytes range list t p = λ h. inr (record { list = list; tiled = t; place = p h })

-- Instructions begin within the bytes.
begin_in : (bound start at : ℕ) (bytes : List ℕ) (list : List Instr) (rest : List ℕ) → StandEndToEnd start at bytes list rest → start + (at + length bytes) ≤ bound → AllByRecursion (λ i. i.at ≤ bound) list
begin_in bound start at bytes [] rest h l = tt
begin_in bound start at bytes (i ∷ list) rest h l =
    (omega (arith, h.0.place, l), begin_in bound start (at + i.len) (drop i.len bytes) list rest h.1 (omega (arith, h.0.within, l, length-drop i.len bytes)))

pub places-small : (bytes : List ℕ) (range : ℕ × ℕ) (list : List Instr) → range.0 ≤ range.1 → range.1 ≤ 16777216 → AreInstructions range.0 (code_in bytes range) list → All (λ i. i.at ≤ 16777216) list
places-small bytes range list o l h = λ k d m. all-at (λ (i : Instr). i.at ≤ 16777216) list k d (begin_in 16777216 range.0 0 (code_in bytes range) list [] h (omega (arith, o, l, length-take (range.1 - range.0) (drop range.0 bytes)))) m

module _ (walk : OneWalk) (es : List Entry) (bytes : List ℕ) where
  same_keys : (range : ℕ × ℕ) (keys others : List Key) → UsesOfCode es bytes range keys → UsesOfCode es bytes range others → keys ≡ others
  same_keys range keys others u v = u.keys_are ∙ ap (flat_map (used es bytes)) (walk.one_list range.0 (code_in bytes range) u.list v.list u.tiled v.tiled) ∙ sym v.keys_are

  uses_or_fault : (range : ℕ × ℕ) (keys : List Key) (fault : WalkFault) → UsesOfCode es bytes range keys → IsFaultOfCode es bytes range fault → ⊥
  uses_or_fault range keys fault u (inl f) = walk.not_both range.0 (code_in bytes range) u.list fault u.tiled f
  uses_or_fault range keys fault u (inr f) = named_or_not es bytes f.list fault (subst (λ is. AreNamed es bytes is) (walk.one_list range.0 (code_in bytes range) u.list f.list u.tiled f.tiled) u.named) f.place

  same_fault : (range : ℕ × ℕ) (fault other : WalkFault) → IsFaultOfCode es bytes range fault → IsFaultOfCode es bytes range other → fault ≡ other
  same_fault range fault other (inl f) (inl g) = walk.one_fault range.0 (code_in bytes range) fault other f g
  same_fault range fault other (inl f) (inr g) = absurd (walk.not_both range.0 (code_in bytes range) g.list fault g.tiled f)
  same_fault range fault other (inr f) (inl g) = absurd (walk.not_both range.0 (code_in bytes range) f.list other f.tiled g)
  same_fault range fault other (inr f) (inr g) = one_place es bytes g.list fault other (subst (λ is. IsPlaceFault es bytes is fault) (walk.one_list range.0 (code_in bytes range) f.list g.list f.tiled g.tiled) f.place) g.place

  pub one-uses : (ranges : List (ℕ × ℕ)) (keys others : List Key) → UsesOfCodes es bytes ranges keys → UsesOfCodes es bytes ranges others → keys ≡ others
  one-uses [] keys others u v = u ∙ sym v
  one-uses (r ∷ ranges) keys others (first, rest, e, one, all) (first', rest', e', one', all') =
      e ∙ ap (λ k. k ++ rest) (same_keys r first first' one one') ∙ ap (λ k. first' ++ k) (one-uses ranges rest rest' all all') ∙ sym e'

  pub not-both : (ranges : List (ℕ × ℕ)) (keys : List Key) (fault : WalkFault) → UsesOfCodes es bytes ranges keys → IsFaultOfCodes es bytes ranges fault → ⊥
  not-both [] keys fault u f = f
  not-both (r ∷ ranges) keys fault (first, rest, e, one, all) (inl f) = uses_or_fault r first fault one f
  not-both (r ∷ ranges) keys fault (first, rest, e, one, all) (inr f) = not-both ranges rest fault all f.1

  pub one-fault : (ranges : List (ℕ × ℕ)) (fault other : WalkFault) → IsFaultOfCodes es bytes ranges fault → IsFaultOfCodes es bytes ranges other → fault ≡ other
  one-fault [] fault other f g = absurd f
  one-fault (r ∷ ranges) fault other (inl f) (inl g) = same_fault r fault other f g
  one-fault (r ∷ ranges) fault other (inl f) (inr ((keys, u), g)) = absurd (uses_or_fault r keys fault u f)
  one-fault (r ∷ ranges) fault other (inr ((keys, u), f)) (inl g) = absurd (uses_or_fault r keys other u g)
  one-fault (r ∷ ranges) fault other (inr (h, f)) (inr (k, g)) = one-fault ranges fault other f g

-- A fault that isn't one of the bytes.
abbrev told : ℕ → WalkCause → WalkFault
told at cause = record { at = at; cause = cause }

told_memory : (at : ℕ) (cause : WalkCause) → ((cause ≢ OutOfMemory) → ⊥) → (cause ≡ OutOfMemory → at ≡ 0) → told at cause ≡ no_memory
told_memory at OutOfMemory h z = ap (λ (n : ℕ). told n OutOfMemory) (z refl)
told_memory at Attribute h z = absurd (h (λ e. absurd cc))
told_memory at Opcode h z = absurd (h (λ e. absurd cc))
told_memory at Cut h z = absurd (h (λ e. absurd cc))
told_memory at Switch h z = absurd (h (λ e. absurd cc))
told_memory at Place h z = absurd (h (λ e. absurd cc))

pub is-memory : (fault : WalkFault) → (fault.cause ≢ OutOfMemory → ⊥) → (fault.cause ≡ OutOfMemory → fault.at ≡ 0) → fault ≡ no_memory
is-memory fault h z = told_memory fault.at fault.cause h z

-- A fault with a cause of the bytes, where it isn't want of memory.
pub of-bytes : (fault : WalkFault) → (fault.cause ≡ OutOfMemory → fault.at ≡ 0) → fault ≢ no_memory → fault.cause ≢ OutOfMemory
of-bytes fault z n e = n (ap (λ (m : ℕ). told m fault.cause) (z e) ∙ ap (λ (c : WalkCause). told 0 c) e)
