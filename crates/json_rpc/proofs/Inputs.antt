-- One frame more of the whole input, and its end.
use Rattle.std.proofs.Common.{◌≡◌, ℕ, ◌+◌, ◌-◌, ◌≤◌, ap, sym, ◌∙◌, take, arith, List, [], ◌∷◌, refl, ◌++◌, length, subst, zero, suc, Option, Some, None, append-nil, append_assoc}
use Rattle.std.proofs.lemmas.List.{length-append}
use Rattle.json_rpc.specs.Streams.{whole, wrong, next_of, Progress, Gives, Ends, Fails, FailsAt, budget}
use Rattle.json_rpc.specs.Whole.{EndsBy, AreFirst, AreFrames, AreFramesOf, BeginFramesOf, SaysOf, Reads, Follows}
use Rattle.json_rpc.proofs.Tails.{next-more, next-wrong}
use Rattle.json_rpc.specs.declared.fault.FrameFault.{FrameFault}
use Rattle.json_rpc.specs.declared.fault.FrameFault.TheVariants.{Header, NoLength, TooLong, Cut, ReadFault, Budget, OutOfMemory}

abbrev nothing : List ℕ
nothing = []

take_none : (n : ℕ) → take n nothing ≡ nothing
take_none zero = refl
take_none (suc n) = refl

ends_cut : (at : ℕ) (xs ys : List ℕ) (k : ℕ) → xs ≡ ys → EndsBy at xs (Some (Cut k)) → EndsBy at ys (Some (Cut k))
ends_cut at xs ys k e h = let P : List ℕ → Type 0 = λ t. EndsBy at t (Some (Cut k)) in subst P e h

ends_budget : (at : ℕ) (xs ys : List ℕ) → xs ≡ ys → EndsBy at xs (Some Budget) → EndsBy at ys (Some Budget)
ends_budget at xs ys e h = let P : List ℕ → Type 0 = λ t. EndsBy at t (Some Budget) in subst P e h

-- What is taken of bytes and what follows them.
take_past : (n : ℕ) (xs ys : List ℕ) → length xs ≤ n → take n (xs ++ ys) ≡ xs ++ take (n - length xs) ys
take_past n [] ys l = ap (λ k. take k ys) (omega arith)
take_past zero (x ∷ xs) ys l = absurd (omega arith)
take_past (suc n) (x ∷ xs) ys l = let k : n - length xs ≡ suc n - suc (length xs) = omega arith in ap (λ t. x ∷ t) (take_past n xs ys (omega (arith, l)) ∙ ap (λ m. xs ++ take m ys) k)

place_is : (p q : Progress) (taken left : List ℕ) (n : ℕ) → q.place + length q.held ≡ p.place + length (p.held ++ taken) → p.place + length ((p.held ++ taken) ++ left) - length (q.held ++ left) ≡ q.place
place_is p q taken left n e = grind (arith, e, length-append (p.held ++ taken) left, length-append q.held left)

window : (p : Progress) (left taken rest : List ℕ) → left ≡ taken ++ rest → p.place + length (p.held ++ taken) ≤ budget → take (budget - p.place) (p.held ++ left) ≡ (p.held ++ taken) ++ take (budget - p.place - length (p.held ++ taken)) rest
window p left taken rest is b =
    ap (λ t. take (budget - p.place) (p.held ++ t)) is ∙ ap (take (budget - p.place)) (sym (append_assoc p.held taken rest)) ∙ take_past (budget - p.place) (p.held ++ taken) rest (omega (arith, b))

pub follows-more : (p q : Progress) (start before now : Option (List ℕ)) (bodies : List (List ℕ)) (body : List ℕ) → Follows p start before bodies → q.place + length q.held ≤ budget → Gives p q before now body → Follows q start now (bodies ++ body ∷ [])
follows-more p q None before now bodies body f b g = tt
follows-more p q (Some input) None now bodies body f b g = absurd f
follows-more p q (Some input) (Some left) None bodies body f b g = absurd g.from
follows-more p q (Some input) (Some left) (Some rest) bodies body f b g =
    let prefix : List ℕ = p.held ++ g.taken in
    let tail : List ℕ = take (budget - p.place - length prefix) rest in
    let open_is : take (budget - p.place) (p.held ++ left) ≡ prefix ++ tail = window p left g.taken rest g.from (omega (arith, b, g.place)) in
    let same : budget - p.place - length prefix ≡ budget - q.place - length q.held = omega (arith, g.place, b) in
    let left_is : take (budget - q.place) (q.held ++ rest) ≡ q.held ++ tail =
    take_past (budget - q.place) q.held rest (omega (arith, b)) ∙ ap (λ m. q.held ++ take m rest) (sym same) in
    let whole_is : next_of p.place (take (budget - p.place) (p.held ++ left)) ≡ whole body (take (budget - q.place) (q.held ++ rest)) =
    ap (next_of p.place) open_is ∙ next-more p.place prefix tail body q.held g.frame ∙ ap (whole body) (sym left_is) in
    let at : p.place + length (take (budget - p.place) (p.held ++ left)) - length (take (budget - q.place) (q.held ++ rest)) ≡ q.place =
    ap (λ t. p.place + length t - length (take (budget - q.place) (q.held ++ rest))) open_is ∙ ap (λ t. p.place + length (prefix ++ tail) - length t) left_is ∙ place_is p q g.taken tail 0 g.place in (
      λ more end are.
          let P : ℕ → Type 0 = λ n. AreFrames n (take (budget - q.place) (q.held ++ rest)) more end in
          let all : AreFramesOf input (bodies ++ (body ∷ more)) end = f.0 (body ∷ more) end (take (budget - q.place) (q.held ++ rest), whole_is, subst P (sym at) are) in
          let Q : List (List ℕ) → Type 0 = λ t. AreFramesOf input t end in
          subst Q (sym (append_assoc bodies (body ∷ []) more)) all,
      λ more are.
          let P : ℕ → Type 0 = λ n. AreFirst n (take (budget - q.place) (q.held ++ rest)) more in
          let all : BeginFramesOf input (bodies ++ (body ∷ more)) = f.1 (body ∷ more) (take (budget - q.place) (q.held ++ rest), whole_is, subst P (sym at) are) in
          let Q : List (List ℕ) → Type 0 = λ t. BeginFramesOf input t in
          subst Q (sym (append_assoc bodies (body ∷ []) more)) all,
    )

nothing_more : (p : Progress) (input left : List ℕ) (bodies : List (List ℕ)) (end : Option FrameFault) → Follows p (Some input) (Some left) bodies → EndsBy p.place (take (budget - p.place) (p.held ++ left)) end → AreFramesOf input bodies end
nothing_more p input left bodies end f e =
    let Q : List (List ℕ) → Type 0 = λ t. AreFramesOf input t end in
    subst Q (append-nil bodies) (f.0 [] end e)

begun : (p : Progress) (input left : List ℕ) (bodies : List (List ℕ)) → Follows p (Some input) (Some left) bodies → BeginFramesOf input bodies
begun p input left bodies f = let Q : List (List ℕ) → Type 0 = λ t. BeginFramesOf input t in subst Q (append-nil bodies) (f.1 [] tt)

-- Where the reader stops in between.
pub follows-first : (p : Progress) (start now : Option (List ℕ)) (bodies : List (List ℕ)) → Follows p start now bodies → Reads start bodies (Some OutOfMemory)
follows-first p None now bodies f = tt
follows-first p (Some input) None bodies f = absurd f
follows-first p (Some input) (Some left) bodies f = begun p input left bodies f

pub follows-end : (p q : Progress) (start before now : Option (List ℕ)) (bodies : List (List ℕ)) → Follows p start before bodies → Ends p q before now → Reads start bodies None
follows-end p q None before now bodies f e = tt
follows-end p q (Some input) None now bodies f e = absurd f
follows-end p q (Some input) (Some left) None bodies f e = absurd e.from
follows-end p q (Some input) (Some left) (Some rest) bodies f e =
    let none : take (budget - p.place) (p.held ++ left) ≡ [] = ap (λ t. take (budget - p.place) (t ++ left)) e.held ∙ ap (take (budget - p.place)) (e.from ∙ e.end) ∙ take_none (budget - p.place) in
    nothing_more p input left bodies None f (none, e.budget)

wrong_at : (p : Progress) (taken left rest : List ℕ) (k : FrameFault) → left ≡ taken ++ rest → p.place + length (p.held ++ taken) ≤ budget → next_of p.place (p.held ++ taken) ≡ wrong k → next_of p.place (take (budget - p.place) (p.held ++ left)) ≡ wrong k
wrong_at p taken left rest k is b e = ap (next_of p.place) (window p left taken rest is b) ∙ next-wrong p.place (p.held ++ taken) (take (budget - p.place - length (p.held ++ taken)) rest) k e

fails_at : (p q : Progress) (input left taken rest : List ℕ) (bodies : List (List ℕ)) (k : FrameFault) → Follows p (Some input) (Some left) bodies → left ≡ taken ++ rest → q.place + length q.held ≤ budget → FailsAt p q (p.held ++ taken) (Some rest) k → SaysOf input bodies (Some k)
fails_at p q input left taken rest bodies (Header k) f is b e = nothing_more p input left bodies (Some (Header k)) f (wrong_at p taken left rest (Header k) is (subst (λ x. x.place + length x.held ≤ budget) e.1 b) e.0)
fails_at p q input left taken rest bodies (NoLength k) f is b e = nothing_more p input left bodies (Some (NoLength k)) f (wrong_at p taken left rest (NoLength k) is (subst (λ x. x.place + length x.held ≤ budget) e.1 b) e.0)
fails_at p q input left taken rest bodies (TooLong k) f is b e = nothing_more p input left bodies (Some (TooLong k)) f (wrong_at p taken left rest (TooLong k) is (subst (λ x. x.place + length x.held ≤ budget) e.1 b) e.0)
fails_at p q input left taken rest bodies (Cut k) f is b e =
    let same : take (budget - p.place) (p.held ++ left) ≡ p.held ++ taken =
    window p left taken rest is (omega (arith, e.2, e.3)) ∙ ap (λ t. (p.held ++ taken) ++ take (budget - p.place - length (p.held ++ taken)) t) e.4 ∙ ap (λ t. (p.held ++ taken) ++ t) (take_none (budget - p.place - length (p.held ++ taken))) ∙ append-nil (p.held ++ taken) in
    nothing_more p input left bodies (Some (Cut k)) f (ends_cut p.place (p.held ++ taken) (take (budget - p.place) (p.held ++ left)) k (sym same) (e.0, e.1, e.2, e.3))
fails_at p q input left taken rest bodies Budget f is b e =
    let none : budget - p.place - length (p.held ++ taken) ≡ 0 = omega (arith, e.1) in
    let same : take (budget - p.place) (p.held ++ left) ≡ p.held ++ taken =
    window p left taken rest is (omega (arith, e.1)) ∙ ap (λ n. (p.held ++ taken) ++ take n rest) none ∙ append-nil (p.held ++ taken) in
    nothing_more p input left bodies (Some Budget) f (ends_budget p.place (p.held ++ taken) (take (budget - p.place) (p.held ++ left)) (sym same) (e.0, e.1))
fails_at p q input left taken rest bodies ReadFault f is b e = begun p input left bodies f
fails_at p q input left taken rest bodies OutOfMemory f is b e = begun p input left bodies f

pub follows-fail : (p q : Progress) (start before now : Option (List ℕ)) (bodies : List (List ℕ)) (k : FrameFault) → Follows p start before bodies → q.place + length q.held ≤ budget → Fails p q before now k → Reads start bodies (Some k)
follows-fail p q None before now bodies k f b e = tt
follows-fail p q (Some input) None now bodies k f b e = absurd f
follows-fail p q (Some input) (Some left) None bodies k f b e = absurd e.from
follows-fail p q (Some input) (Some left) (Some rest) bodies k f b e = fails_at p q input left e.taken rest bodies k f e.from b e.at

pub follows-start : (start : Option (List ℕ)) → Follows (record { place = 0; held = []; fault = None }) start start []
follows-start None = tt
follows-start (Some input) = (λ more end are. are, λ more are. are)

pub ruleset inputs = (follows-more, follows-end, follows-fail, follows-start, follows-first)
