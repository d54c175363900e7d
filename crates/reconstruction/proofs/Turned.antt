-- The edges of a state are turns at each of its numbered places.
use Rattle.std.proofs.Common.{◌≡◌, ◌⊎◌, inl, inr, ℕ, suc, ◌+◌, ◌*◌, ◌<◌, ◌≤◌, true, ◌&&◌, ◌==◌, List, [], ◌∷◌, ◌++◌, length, get_or, slice_get, Some, refl, sym, ap, subst, ◌∙◌, arith}
use Rattle.std.proofs.lemmas.Bool.{and_from, false≢true, or_right}
use Rattle.std.proofs.lemmas.List.Elements.{All-nil, All-cons}
use Rattle.std.proofs.lemmas.Option.{slice_get_within}
use Rattle.terms.specs.Count.{total}
use Rattle.terms.specs.Faults.{IsValid, HasLengths, are_plain}
use Rattle.terms.specs.Place.{Place}
use Rattle.terms.specs.Reading.{has_room, places, binders, some_when, declared_at, turn_by, turn}
use Rattle.terms.specs.Typing.{args_wanted, is_below, is_pair}
use Rattle.terms.specs.Weights.{binders_weight, coercion_weight, step_in}
use Rattle.terms.specs.declared.parts.Arg.{Arg}
use Rattle.terms.specs.declared.parts.Arg.TheVariants.{Plain, Fun}
use Rattle.terms.specs.declared.parts.Decl.{Decl}
use Rattle.terms.specs.declared.parts.Parts.{Parts}
use Rattle.terms.proofs.Halves.{symbol-odd}
use Rattle.terms.proofs.Valid.{valid-decl, valid-limit, valid-pair, below-itself}
use Rattle.succinct.specs.Compression.{Compression, need_of}
use Rattle.patterns.specs.Patterned.{Patterned, ArePatterns, state_sought, sought_from}
use Rattle.patterns.specs.States.{left_at, place_in, place_sought, state_place}
use Rattle.patterns.specs.declared.state.State.{State}
use Rattle.patterns.proofs.Meaning.{plain-sought}
use Rattle.patterns.proofs.Mets.{state_place-get}
use Rattle.edges.specs.Edges.{Edge, IsTail, AreTails}
use Rattle.least_weights.specs.LeastWeight.{AreLeastWeights, place_at}
use Rattle.patterns.proofs.Meaning.{pair-get}
use Rattle.least_weights.proofs.Lows.{split-tails, no-tails, step-same, step-apart}
use Rattle.least_weights.proofs.Sought.{IsAt, plain-at, fun-at}
use Rattle.reconstruction.specs.NumberedPlaces.{row_of_args, row_of_decl, rows_at, with_lambda, at_state, IsNumbered}
use Rattle.reconstruction.specs.Tabled as tabled
use Rattle.reconstruction.specs.Tabled.{places_of, least_of, AreNumbered, IsTurn, numbered_under}
use Rattle.reconstruction.specs.Totals.{IsCapped, AreTotals, number_of, least_total, lambdas_by, lambdas_under}
use Rattle.reconstruction.specs.Ways.{Turns, IsHeadBy, IsHeadOf, IsWayBy, IsWayOf}
use Rattle.reconstruction.specs.declared.numbered_place.Lambdas.{Lambdas}
use Rattle.reconstruction.specs.declared.numbered_place.NumberedPlace.{NumberedPlace}
use Rattle.reconstruction.specs.declared.tables.Tables.{Tables}
use Rattle.reconstruction.proofs.Contexts.{valid-rows, rows-more}
use Rattle.reconstruction.proofs.Evens.{args-shape}
use Rattle.reconstruction.proofs.Weights.{least-is}
use Rattle.reconstruction.proofs.Edged.{AtDecl, EdgeCase}

-- places by their numbers, with their least weights together
pub record Opened (t : Tables) (ps : List Place) (numbered : List NumberedPlace) (sum : ℕ) : Type 0 where
  pub places : ps ≡ places_of t numbered
  pub opened : AreNumbered t numbered
  pub least : total (least_of t) ps ≡ sum

-- a place by its numbers, with its least weight
pub record IsNumberedAs (t : Tables) (q : Place) (p : NumberedPlace) (n : ℕ) : Type 0 where
  pub place : IsNumbered t.env t.patterns p
  pub is : q ≡ tabled.place_by_numbers t p
  pub least : least_of t q ≡ n

pub opened-none : (t : Tables) → Opened t [] [] 0
opened-none t = record { places = refl; opened = All-nil (IsNumbered t.env t.patterns); least = refl }

pub opened-more : (t : Tables) (q : Place) (p : NumberedPlace) (n : ℕ) (qs : List Place) (ps : List NumberedPlace) (sum : ℕ) → IsNumberedAs t q p n → Opened t qs ps sum → Opened t (q ∷ qs) (p ∷ ps) (n + sum)
opened-more t q p n qs ps sum first rest = record {
  places = ap (λ x. x ∷ qs) first.is ∙ ap (λ l. tabled.place_by_numbers t p ∷ l) rest.places;
  opened = All-cons (IsNumbered t.env t.patterns) p ps first.place rest.opened;
  least = (let a = first.least in let b = rest.least in omega (arith, a, b));
}

pub plain-room : (left : ℕ) (args : List Arg) → are_plain args ≡ true → has_room left args ≡ true
unfolding has_room
plain-room left [] h = refl
plain-room left (Plain b ∷ args) h = plain-room left args h
plain-room left (Fun ps r ∷ args) h = absurd (false≢true h)

pub fun-room : (left : ℕ) (ps : List ℕ) (r : ℕ) → has_room (suc left) (Fun ps r ∷ []) ≡ true
unfolding has_room
fun-room left ps r = refl

pub places-fun : (ctx : List (List ℕ)) (left : ℕ) (ps : List ℕ) (r : ℕ) → places ctx (suc left) (Fun ps r ∷ []) ≡ record { ctx = ctx ++ ps ∷ []; left = left; wanted = r } ∷ []
unfolding places
places-fun ctx left ps r = refl

-- a state at which a value is sought from another one
pub value-state : (g : Parts) (c : Compression) (d : Patterned) → ArePatterns c g.goal g.depth d → (i : ℕ) (s : State) (b t : ℕ) → slice_get d.states i ≡ Some s → IsTail c d i (Plain b) t → slice_get d.states t ≡ Some (record { set = s.set; goal = b })
value-state g c d made i s b t is tail =
    let w = made.wanted tail.need (need_of (Plain b)) tail.is in
    let chain : state_sought d i tail.need ≡ state_place d.states (record { set = s.set; goal = w.0.goal }) =
    ap (λ o. sought_from d o tail.need) is ∙ ap (λ o. place_sought d.space d.states s o) w.1 ∙ ap (λ o. place_in d.states w.0.goal o) (plain-sought d.space s.set w.0 w.2.lambda) in
    let found = state_place-get d.states (record { set = s.set; goal = w.0.goal }) t (sym chain ∙ tail.to) in
    subst (λ x. slice_get d.states t ≡ Some (record { set = s.set; goal = x })) w.2.goal found

single : (ts : List ℕ) → length ts ≡ 1 → (b : ℕ) × (ts ≡ b ∷ [])
single [] h = absurd (omega (arith, h))
single (b ∷ []) h = (b, refl)
single (b ∷ x ∷ ts) h = absurd (omega (arith, h))

-- values leave the lambdas as they are
plain-row : (args : List Arg) (around : Lambdas) (k : ℕ) → are_plain args ≡ true → lambdas_by args around k ≡ around
plain-row [] around k h = refl
plain-row (Plain b ∷ []) around k h = refl
plain-row (Plain b ∷ a ∷ more) around k h = refl
plain-row (Fun ps r ∷ more) around k h = absurd (false≢true h)

more_capped : (limit w real extra both : ℕ) → IsCapped limit w real → both ≡ real + extra → IsCapped limit (w + extra) both
more_capped limit w real extra both (inl same) sum = inl (omega (arith, same, sum))
more_capped limit w real extra both (inr past) sum = (let a = past.0 in let b = past.1 in inr (omega (arith, a), omega (arith, b, sum)))

-- the place of a lambda's body, and that there is room for it
pub record BodyOpened (t : Tables) (inner : Lambdas) (left : ℕ) (ctx : List (List ℕ)) (args : List Arg) (body : ℕ) : Type 0 where
  pub room : has_room left args ≡ true
  pub opened : Opened t (places ctx left args) (numbered_under inner (body ∷ [])) (least_total t.env.limit t.least (body ∷ []))

module _ (t : Tables) (c : Compression) (valid : IsValid t.env) (lengths : HasLengths t.env) (made : ArePatterns c t.env.goal t.env.depth t.patterns) (right : AreLeastWeights t.env t.patterns t.least) where
  -- a place that stands at a state is that of its numbers
  pub numbered-is : (i : ℕ) (around : Lambdas) (left b : ℕ) → IsAt t.patterns t.env.depth i (rows_at t.env around) left b → IsNumberedAs t (record { ctx = rows_at t.env around; left = left; wanted = b }) (record { lambdas = around; state = i }) (number_of t.env.limit t.least i)
  numbered-is i around left b at =
      let d = t.patterns in
      let s = at.state in
      let ctx = rows_at t.env around in
      let rows = at.rows in
      let l = at.left_is in
      let depth : length ctx + left_at d.space s.set ≡ t.env.depth = omega (arith, rows, l) in
      let here : Place = record { ctx = ctx; left = left; wanted = b } in
      let place : here ≡ place_at d s ctx = ap (λ n. record { ctx = ctx; left = n; wanted = b }) l ∙ ap (λ n. record { ctx = ctx; left = left_at d.space s.set; wanted = n }) at.goal in
      record {
        place = record { state = s; is = at.is; types = at.types; depth = depth };
        is = place ∙ sym (ap (λ o. at_state d o ctx) at.is);
        least = ap (least_of t) place ∙ least-is t.env d t.least right i s ctx at.is at.types depth;
      }

  -- the places of values
  pub plain-opened : (i : ℕ) (around : Lambdas) (left b : ℕ) → IsAt t.patterns t.env.depth i (rows_at t.env around) left b → (args : List Arg) (ts : List ℕ) → are_plain args ≡ true → AreTails c t.patterns i args ts → Opened t (places (rows_at t.env around) left args) (numbered_under around ts) (least_total t.env.limit t.least ts)
  unfolding places
  plain-opened i around left b at [] ts plain tails = subst (λ l. Opened t [] (numbered_under around l) (least_total t.env.limit t.least l)) (sym (no-tails c t.patterns i ts tails)) (opened-none t)
  plain-opened i around left b at (Plain a ∷ args) ts plain tails =
      let s = split-tails c t.patterns i (Plain a) args ts tails in
      let inner = plain-at c t.patterns t.env.depth made.wanted made.steps i s.first (rows_at t.env around) left b a at s.tail in
      let rest = plain-opened i around left b at args s.rest plain s.others in
      let qs = places (rows_at t.env around) left args in
      let q : Place = record { ctx = rows_at t.env around; left = left; wanted = a } in
      let p : NumberedPlace = record { lambdas = around; state = s.first } in
      subst (λ l. Opened t (q ∷ qs) (numbered_under around l) (least_total t.env.limit t.least l)) (sym s.is)
      (opened-more t q p (number_of t.env.limit t.least s.first) qs (numbered_under around s.rest) (least_total t.env.limit t.least s.rest) (numbered-is s.first around left a inner) rest)
  plain-opened i around left b at (Fun ps r ∷ args) ts plain tails = absurd (false≢true plain)

  pub lambda-opened : (i : ℕ) (around : Lambdas) (left b k body : ℕ) (decl : Decl) (ps : List ℕ) (r : ℕ) → IsAt t.patterns t.env.depth i (rows_at t.env around) left b → slice_get t.env.decls k ≡ Some decl → decl.args ≡ Fun ps r ∷ [] → AreTails c t.patterns i decl.args (body ∷ []) → BodyOpened t (with_lambda around k) left (rows_at t.env around) decl.args body
  lambda-opened i around left b k body decl ps r at is wants tails =
      let d = t.patterns in
      let ctx = rows_at t.env around in
      let tail : IsTail c d i (Fun ps r) body = tails.each 0 (Fun ps r) body (ap (λ l. slice_get l 0) wants) refl in
      let u = fun-at c d t.env.depth made.wanted made.steps i body ctx left b ps r at tail in
      let deep = valid-rows t.env valid in
      let rows = at.rows in
      let some = u.left_is in
      let room : length ctx ≤ 2 = omega (arith, deep, rows, some) in
      let under : Lambdas = with_lambda around k in
      let same : ctx ++ ps ∷ [] ≡ rows_at t.env under = ap (λ (x : List ℕ). ctx ++ x ∷ []) (sym (ap row_of_decl is ∙ ap row_of_args wants)) ∙ sym (rows-more t.env around k room) in
      let inner : IsAt d t.env.depth body (rows_at t.env under) u.inner r = subst (λ x. IsAt d t.env.depth body x u.inner r) same u.at in
      let q : Place = record { ctx = rows_at t.env under; left = u.inner; wanted = r } in
      let p : NumberedPlace = record { lambdas = under; state = body } in
      let one : Opened t (q ∷ []) (p ∷ []) (least_total t.env.limit t.least (body ∷ [])) = opened-more t q p (number_of t.env.limit t.least body) [] [] 0 (numbered-is body under u.inner r inner) (opened-none t) in
      let shown : places ctx left decl.args ≡ q ∷ [] = ap (places ctx left) wants ∙ ap (λ n. places ctx n (Fun ps r ∷ [])) u.left_is ∙ places-fun ctx u.inner ps r ∙ ap (λ x. record { ctx = x; left = u.inner; wanted = r } ∷ []) same in
      record {
        room = ap (has_room left) wants ∙ ap (λ n. has_room n (Fun ps r ∷ [])) u.left_is ∙ fun-room u.inner ps r;
        opened = subst (λ l. Opened t l (p ∷ []) (least_total t.env.limit t.least (body ∷ []))) (sym shown) one;
      }

  -- a head whose wants are numbered places is a turn
  opened-turn : (i : ℕ) (around : Lambdas) (left b goal k w extra : ℕ) (ts : List ℕ) (numbered : List NumberedPlace) (decl : Decl) → slice_get t.env.decls k ≡ Some decl → decl.result ≡ goal → IsCapped t.env.limit w (decl.weight + binders_weight t.env (binders decl.args) + least_total t.env.limit t.least ts) → has_room left decl.args ≡ true → Opened t (places (rows_at t.env around) left decl.args) numbered (least_total t.env.limit t.least ts) → is_below t.env goal b ≡ true → step_in t.env (Some goal) b ≡ extra → IsTurn t (record { ctx = rows_at t.env around; left = left; wanted = b }) (2 * k + 1) (w + extra) numbered
  unfolding turn
  opened-turn i around left b goal k w extra ts numbered decl found gives total_is room o below weighs =
      let ctx = rows_at t.env around in
      let q : Place = record { ctx = ctx; left = left; wanted = b } in
      let weight = decl.weight + binders_weight t.env (binders decl.args) + step_in t.env (Some decl.result) b in
      let tests : is_below t.env decl.result b && has_room left decl.args ≡ true = and_from (is_below t.env decl.result b) (has_room left decl.args) (ap (λ x. is_below t.env x b) gives ∙ below) room in
      let more : step_in t.env (Some decl.result) b ≡ extra = ap (λ x. step_in t.env (Some x) b) gives ∙ weighs in
      let all : total (least_of t) (places_of t numbered) ≡ least_total t.env.limit t.least ts = ap (total (least_of t)) (sym o.places) ∙ o.least in
      record {
        weight = weight;
        is = ap (turn_by t.env q) (symbol-odd k) ∙ ap (declared_at t.env q) found ∙ ap (λ x. some_when x (record { weight = weight; open_places = places ctx left decl.args })) tests ∙ ap (λ l. Some (record { weight = weight; open_places = l })) o.places;
        opened = o.opened;
        capped = more_capped t.env.limit w (decl.weight + binders_weight t.env (binders decl.args) + least_total t.env.limit t.least ts) extra (weight + total (least_of t) (places_of t numbered)) total_is (omega (arith, more, all));
      }

  small-number : (k : ℕ) (decl : Decl) → slice_get t.env.decls k ≡ Some decl → k < 2147483648
  small-number k decl is = (let low = slice_get_within t.env.decls k decl is in let few = lengths.decls in omega (arith, low, few))

  small-weight : (w : ℕ) → w ≤ t.env.limit + 1 → w ≤ 10001
  small-weight w h = (let l = valid-limit t.env valid in let top = l.1 in omega (arith, h, top))

  -- the place of the numbers, written out
  pub numbered-place : (p : NumberedPlace) (s : IsNumbered t.env t.patterns p) → tabled.place_by_numbers t p ≡ place_at t.patterns s.state (rows_at t.env p.lambdas)
  numbered-place p s = ap (λ o. at_state t.patterns o (rows_at t.env p.lambdas)) s.is

  pub numbered-at : (p : NumberedPlace) (s : IsNumbered t.env t.patterns p) → IsAt t.patterns t.env.depth p.state (rows_at t.env p.lambdas) (left_at t.patterns.space s.state.set) s.state.goal
  numbered-at p s = record { state = s.state; is = s.is; types = s.types; left_is = refl; goal = refl; rows = s.depth }

  -- a declaration's edge that gives just a type is a turn where that type may stand
  decl-turn : (totals : AreTotals t.env.limit t.least t.edges t.totals) (p : NumberedPlace) (s : IsNumbered t.env t.patterns p) (i goal extra m : ℕ) (e : Edge) (x : State) → slice_get t.edges m ≡ Some e → IsAt t.patterns t.env.depth i (rows_at t.env p.lambdas) (left_at t.patterns.space s.state.set) goal → is_below t.env goal s.state.goal ≡ true → step_in t.env (Some goal) s.state.goal ≡ extra → x.goal ≡ goal → (q : AtDecl t.env c t.patterns i x e) → Turns t p extra q.number (get_or t.totals m 0) (numbered_under (lambdas_under t.env p.lambdas q.number) e.tails)
  decl-turn totals p s i goal extra m e x there at below weighs same q = go (args-shape q.decl.form q.decl.args (valid-decl t.env valid q.number q.decl q.is).formed)
    where
      left : ℕ
      left = left_at t.patterns.space s.state.set

      w : ℕ
      w = get_or t.totals m 0

      sum : IsCapped t.env.limit w (q.decl.weight + binders_weight t.env (binders q.decl.args) + least_total t.env.limit t.least e.tails)
      sum = subst (λ n. IsCapped t.env.limit w (n + least_total t.env.limit t.least e.tails)) q.weighs (totals.each m e there).capped

      turned : (around : Lambdas) → lambdas_under t.env p.lambdas q.number ≡ around → has_room left q.decl.args ≡ true → Opened t (places (rows_at t.env p.lambdas) left q.decl.args) (numbered_under around e.tails) (least_total t.env.limit t.least e.tails) → Turns t p extra q.number w (numbered_under (lambdas_under t.env p.lambdas q.number) e.tails)
      turned around is room o = record {
        number = small-number q.number q.decl q.is;
        small = small-weight w (totals.each m e there).small;
        head = subst (λ r. IsTurn t (tabled.place_by_numbers t p) (2 * q.number + 1) (w + extra) (numbered_under r e.tails)) (sym is) (subst (λ y. IsTurn t y (2 * q.number + 1) (w + extra) (numbered_under around e.tails)) (sym (numbered-place p s))
            (opened-turn i p.lambdas left s.state.goal goal q.number w extra e.tails (numbered_under around e.tails) q.decl q.is (q.gives ∙ same) sum room o below weighs));
      }

      go : (are_plain q.decl.args ≡ true) ⊎ ((ps : List ℕ) × (r : ℕ) × (q.decl.args ≡ Fun ps r ∷ [])) → Turns t p extra q.number w (numbered_under (lambdas_under t.env p.lambdas q.number) e.tails)
      go (inl plain) = turned p.lambdas (ap (λ o. lambdas_by (args_wanted o) p.lambdas q.number) q.is ∙ plain-row q.decl.args p.lambdas q.number plain) (plain-room left q.decl.args plain) (plain-opened i p.lambdas left goal at q.decl.args e.tails plain q.tails)
      go (inr fun) =
          let one = single e.tails (q.tails.as_many ∙ ap length fun.2) in
          let tails : AreTails c t.patterns i q.decl.args (one.0 ∷ []) = subst (AreTails c t.patterns i q.decl.args) one.1 q.tails in
          let o = lambda-opened i p.lambdas left goal q.number one.0 q.decl fun.0 fun.1 at q.is fun.2 tails in
          turned (with_lambda p.lambdas q.number) (ap (λ o. lambdas_by (args_wanted o) p.lambdas q.number) q.is ∙ ap (λ l. lambdas_by l p.lambdas q.number) fun.2) o.room (subst (λ l. Opened t (places (rows_at t.env p.lambdas) left q.decl.args) (numbered_under (with_lambda p.lambdas q.number) l) (least_total t.env.limit t.least l)) (sym one.1) o.opened)

  -- the edge of a state is a head where its type may stand
  pub head-of : (totals : AreTotals t.env.limit t.least t.edges t.totals) (p : NumberedPlace) (s : IsNumbered t.env t.patterns p) (i goal extra m : ℕ) (e : Edge) (x : State) → slice_get t.edges m ≡ Some e → IsAt t.patterns t.env.depth i (rows_at t.env p.lambdas) (left_at t.patterns.space s.state.set) goal → is_below t.env goal s.state.goal ≡ true → step_in t.env (Some goal) s.state.goal ≡ extra → x.goal ≡ goal → EdgeCase t.env c t.patterns i x e → IsHeadOf t p extra m e
  head-of totals p s i goal extra m e x there at below weighs same (inl v) = subst (λ o. IsHeadBy t p extra o (get_or t.totals m 0) e.tails) (sym v.declared) tt
  head-of totals p s i goal extra m e x there at below weighs same (inr (inl q)) = subst (λ o. IsHeadBy t p extra o (get_or t.totals m 0) e.tails) (sym q.declared) (decl-turn totals p s i goal extra m e x there at below weighs same q)
  head-of totals p s i goal extra m e x there at below weighs same (inr (inr q)) = subst (λ o. IsHeadBy t p extra o (get_or t.totals m 0) e.tails) (sym q.declared) tt

  pub pair-below : (a b : ℕ) → is_pair t.env.pairs a b ≡ true → is_below t.env a b ≡ true
  unfolding is_below
  pair-below a b h = or_right (a == b) (is_pair t.env.pairs a b) h

  -- the edges of a state are ways at its numbered places: under a coercion those of the lower state are heads
  pub way-of : (cases : (i m : ℕ) (x : State) (e : Edge) → slice_get t.patterns.states i ≡ Some x → slice_get t.edges m ≡ Some e → e.state ≡ i → EdgeCase t.env c t.patterns i x e) (totals : AreTotals t.env.limit t.least t.edges t.totals) (p : NumberedPlace) (s : IsNumbered t.env t.patterns p) (m : ℕ) (e : Edge) → slice_get t.edges m ≡ Some e → e.state ≡ p.state → IsWayOf t p m e
  way-of cases totals p s m e there here = go (cases p.state m s.state e s.is there here)
    where
      own : EdgeCase t.env c t.patterns p.state s.state e → IsHeadOf t p 0 m e
      own q = head-of totals p s p.state s.state.goal 0 m e s.state there (numbered-at p s) (below-itself t.env s.state.goal) (step-same t.env s.state.goal s.state.goal refl) refl q

      go : EdgeCase t.env c t.patterns p.state s.state e → IsWayOf t p m e
      go (inl v) = subst (IsWayBy t p m e) (sym v.lower) (own (inl v))
      go (inr (inl q)) = subst (IsWayBy t p m e) (sym q.lower) (own (inr (inl q)))
      go (inr (inr q)) =
          let left = left_at t.patterns.space s.state.set in
          let at = plain-at c t.patterns t.env.depth made.wanted made.steps p.state q.below (rows_at t.env p.lambdas) left s.state.goal q.low (numbered-at p s) q.tail in
          let x = value-state t.env c t.patterns made p.state s.state q.low q.below s.is q.tail in
          let pair : is_pair t.env.pairs q.low s.state.goal ≡ true = pair-get t.env.pairs q.place (q.low, s.state.goal) q.is in
          let apart = (valid-pair t.env valid q.low s.state.goal pair).2 in
          subst (IsWayBy t p m e) (sym q.lower) (λ n f at_f here_f. head-of totals p s q.below q.low (coercion_weight t.env) n f (record { set = s.state.set; goal = q.low }) at_f at (pair-below q.low s.state.goal pair) (step-apart t.env q.low s.state.goal apart) refl (cases q.below n (record { set = s.state.set; goal = q.low }) f x at_f here_f))
