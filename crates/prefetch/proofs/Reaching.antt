-- What a pass knows after a push.
use Rattle.std.proofs.Common.{◌≡◌, ℕ, map, ◌∙◌, subst}
use Rattle.std.specs.Prelude.{Result, Ok, Err, MatchResult}
use Rattle.std.proofs.lemmas.List.{length-map}
use Rattle.atomic_table.specs.Seated.{TableId}
use Rattle.crossbeam_queue.specs.Fifo.{Held}
use Rattle.prefetch.specs.declared.known.Known.{Known}
use Rattle.prefetch.specs.Rule.{with_sent}
use Rattle.prefetch.specs.Starts.{Reach, WasAt}

was_held : {T : Type 0} (key : T → ℕ × ℕ) (n : ℕ) → Held {T = T} n (λ _. Unit {0}) → WasAt n
was_held key n held = (map key held.0, length-map held.0 key ∙ held.1, tt)

module _ {X T : Type 0} (key : T → ℕ × ℕ) where
  -- what is ensured of a push, where the pass reached so far before
  abbrev IsPushed : Result X T → T → Reach → Reach → Type 0
  IsPushed r task old new = MatchResult r (λ _. new ≡ record old { knows = with_sent old.knows (key task) }) (λ t. (t ≡ task) × (new ≡ old) × WasAt old.capacity)

  pushed_at : (r : Result X T) (task : T) (queue later : TableId) (capacity room : ℕ) (v w : Known) → later ≡ queue → room ≡ capacity
      → MatchResult r (λ _. w ≡ with_sent v (key task)) (λ t. (t ≡ task) × (w ≡ v) × Held {T = T} room (λ _. Unit {0}))
      → IsPushed r task (record { queue = queue; capacity = capacity; knows = v }) (record { queue = later; capacity = capacity; knows = w })
  pushed_at (Ok x) task queue later capacity room v w same size h = λ i. record { queue = same i; capacity = capacity; knows = h i }
  pushed_at (Err t) task queue later capacity room v w same size h = (h.0, (λ i. record { queue = same i; capacity = capacity; knows = h.1 i }), subst WasAt size (was_held key room h.2))

  pub pushed : (r : Result X T) (task : T) (queue later : TableId) (capacity room : ℕ) (v w : Known) (old : Reach) → record { queue = queue; capacity = capacity; knows = v } ≡ old → later ≡ queue → room ≡ capacity
      → MatchResult r (λ _. w ≡ with_sent v (key task)) (λ t. (t ≡ task) × (w ≡ v) × Held {T = T} room (λ _. Unit {0}))
      → IsPushed r task old (record { queue = later; capacity = capacity; knows = w })
  pushed r task queue later capacity room v w old view same size h = subst (λ (o : Reach). IsPushed r task o (record { queue = later; capacity = capacity; knows = w })) view (pushed_at r task queue later capacity room v w same size h)
