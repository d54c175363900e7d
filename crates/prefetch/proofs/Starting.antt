-- A new start is a start, whose senders and workers are all.
use Rattle.std.proofs.Common.{◌≡◌, ℕ, zero, suc, ◌+◌, ◌-◌, ◌≤◌, List, [], ◌∷◌, ◌++◌, length, All, sym, refl, ap, ◌∙◌, subst, arith}
use Rattle.std.proofs.lemmas.List.Elements.{All-nil, All-push}
use Rattle.atomic_table.specs.Seated.{TableId}
use Rattle.prefetch.specs.Starts.{Handing, Taking, parts_of, IsNumbered, new_senders, new_workers, sharing_workers, IsStart}
use Rattle.prefetch.proofs.Gathering.{parts_snoc}

length_snoc : {X : Type 0} (xs : List X) (x : X) → length (xs ++ x ∷ []) ≡ suc (length xs)
length_snoc [] x = refl
length_snoc (y ∷ xs) x = ap suc (length_snoc xs x)

numbered_snoc : (k : ℕ) (ss : List Handing) (s : Handing) → IsNumbered k ss → s.sender ≡ k + length ss → IsNumbered k (ss ++ s ∷ [])
numbered_snoc k [] s order e = (omega (arith, e), tt)
numbered_snoc k (r ∷ ss) s order e = (order.0, numbered_snoc (suc k) ss s order.1 (omega (arith, e)))

module _ (queue : TableId) (capacity : ℕ) where
  senders_count : (n : ℕ) → length (new_senders queue capacity n) ≡ n
  senders_count zero = refl
  senders_count (suc n) = length_snoc (new_senders queue capacity n) _ ∙ ap suc (senders_count n)

  senders_order : (n : ℕ) → IsNumbered 0 (new_senders queue capacity n)
  senders_order zero = tt
  senders_order (suc n) = numbered_snoc 0 (new_senders queue capacity n) _ (senders_order n) (let c = senders_count n in omega arith)

  senders_queue : (n : ℕ) → All (λ (s : Handing). s.queue ≡ queue) (new_senders queue capacity n)
  senders_queue zero = All-nil (λ (s : Handing). s.queue ≡ queue)
  senders_queue (suc n) = All-push (λ (s : Handing). s.queue ≡ queue) (new_senders queue capacity n) _ (senders_queue n) refl

  senders_fresh : (n : ℕ) → All (λ (s : Handing). (s.capacity ≡ capacity) × (s.handed ≡ 0)) (new_senders queue capacity n)
  senders_fresh zero = All-nil (λ (s : Handing). (s.capacity ≡ capacity) × (s.handed ≡ 0))
  senders_fresh (suc n) = All-push (λ (s : Handing). (s.capacity ≡ capacity) × (s.handed ≡ 0)) (new_senders queue capacity n) _ (senders_fresh n) (refl, refl)

  workers_count : (n : ℕ) → length (new_workers queue n) ≡ n
  workers_count zero = refl
  workers_count (suc n) = length_snoc (new_workers queue n) _ ∙ ap suc (workers_count n)

  workers_parts : (n : ℕ) → parts_of (new_workers queue n) ≡ n
  workers_parts zero = refl
  workers_parts (suc n) = let s = parts_snoc (new_workers queue n) (record { queue = queue; parts = 1; taken = [] }) in let rest = workers_parts n in omega arith

  workers_queue : (n : ℕ) → All (λ (w : Taking). w.queue ≡ queue) (new_workers queue n)
  workers_queue zero = All-nil (λ (w : Taking). w.queue ≡ queue)
  workers_queue (suc n) = All-push (λ (w : Taking). w.queue ≡ queue) (new_workers queue n) _ (workers_queue n) refl

  workers_idle : (n : ℕ) → All (λ (w : Taking). w.taken ≡ []) (new_workers queue n)
  workers_idle zero = All-nil (λ (w : Taking). w.taken ≡ [])
  workers_idle (suc n) = All-push (λ (w : Taking). w.taken ≡ []) (new_workers queue n) _ (workers_idle n) refl

  pub starts : (n m : ℕ) → n ≤ 64 → 1 ≤ m → m ≤ 8 → IsStart n m capacity (new_senders queue capacity n) (sharing_workers queue (72 - n) m)
  starts n m most some few =
      let others = new_workers queue (m - 1) in
      let last : Taking = record { queue = queue; parts = (72 - n) - (m - 1); taken = [] } in
      let count : length (others ++ last ∷ []) ≡ m = (let s = length_snoc others last in let c = workers_count (m - 1) in omega arith) in
      record {
        senders_count = senders_count n;
        workers_count = count;
        all = record {
          queue = queue;
          hand_to = senders_queue n;
          take_from = All-push (λ (w : Taking). w.queue ≡ queue) others last (workers_queue (m - 1)) refl;
          order = senders_order n;
          some = omega (arith, count, some);
          parts = let c = senders_count n in let s = parts_snoc others last in let p = workers_parts (m - 1) in omega arith;
        };
        handed = senders_fresh n;
        taken = All-push (λ (w : Taking). w.taken ≡ []) others last (workers_idle (m - 1)) refl;
      }

  pub starts_as : (n m most parts : ℕ) (other : TableId) (senders : List Handing) (workers : List Taking) → n ≤ 64 → 1 ≤ m → m ≤ 8 → capacity ≡ most
      → senders ≡ new_senders queue capacity n → other ≡ queue → parts ≡ 72 - n → workers ≡ sharing_workers other parts m → IsStart n m most senders workers
  starts_as n m most parts other senders workers few some at_most same these here rest those =
      let all : workers ≡ sharing_workers queue (72 - n) m = those ∙ ap (λ (q : TableId). sharing_workers q parts m) here ∙ ap (λ (k : ℕ). sharing_workers queue k m) rest in
      let start : IsStart n m capacity senders workers
      = subst (λ (ss : List Handing). IsStart n m capacity ss workers) (sym these) (subst (λ (ws : List Taking). IsStart n m capacity (new_senders queue capacity n) ws) (sym all) (starts n m few some at_most)) in
      subst (λ (k : ℕ). IsStart n m k senders workers) same start
