-- Two senders and two workers that are all of one start are so after they have handed and taken.
use Rattle.std.proofs.Common.{◌≡◌, ℕ, List, [], ◌∷◌, ap, ◌∙◌, subst, arith}
use Rattle.std.proofs.lemmas.List.Elements.{All-nil, All-cons, All-head, All-tail}
use Rattle.prefetch.specs.Starts.{Handing, Taking, AreAll}

pub still_all : (senders : List Handing) (workers : List Taking) (s r t u : Handing) (v w x y : Taking) → AreAll senders workers → senders ≡ s ∷ r ∷ [] → workers ≡ v ∷ w ∷ []
    → t ≡ record s { handed = t.handed } → u ≡ record r { handed = u.handed } → x ≡ record v { taken = x.taken } → y ≡ record w { taken = y.taken }
    → AreAll (t ∷ u ∷ []) (x ∷ y ∷ [])
still_all senders workers s r t u v w x y before two both same_t same_u same_x same_y =
    let all : AreAll (s ∷ r ∷ []) (v ∷ w ∷ []) = subst (λ (ss : List Handing). AreAll ss (v ∷ w ∷ [])) two (subst (λ (ws : List Taking). AreAll senders ws) both before) in
    let from : Handing → Type 0 = λ (h : Handing). h.queue ≡ all.queue in
    let to : Taking → Type 0 = λ (k : Taking). k.queue ≡ all.queue in
    let parts_x : x.parts ≡ v.parts = ap (λ (k : Taking). k.parts) same_x in
    let parts_y : y.parts ≡ w.parts = ap (λ (k : Taking). k.parts) same_y in
    record {
      queue = all.queue;
      hand_to = All-cons from t (u ∷ []) (ap (λ (h : Handing). h.queue) same_t ∙ All-head from s (r ∷ []) all.hand_to)
          (All-cons from u [] (ap (λ (h : Handing). h.queue) same_u ∙ All-head from r [] (All-tail from s (r ∷ []) all.hand_to)) (All-nil from));
      take_from = All-cons to x (y ∷ []) (ap (λ (k : Taking). k.queue) same_x ∙ All-head to v (w ∷ []) all.take_from)
          (All-cons to y [] (ap (λ (k : Taking). k.queue) same_y ∙ All-head to w [] (All-tail to v (w ∷ []) all.take_from)) (All-nil to));
      order = (ap (λ (h : Handing). h.sender) same_t ∙ all.order.0, (ap (λ (h : Handing). h.sender) same_u ∙ all.order.1.0, tt));
      some = omega arith;
      parts = omega (arith, all.parts, parts_x, parts_y);
    }
