-- The prefix of a hole lies at whole characters.
use Rattle.std.proofs.Common.{◌≡◌, ◌∙◌, ap, sym, subst, ℕ, List, [], ◌∷◌, refl, Bool, true, false, length, find, slice_get, Option, Some, None, if◌then◌else◌, ◌==◌, ◌&&◌}
use Rattle.std.specs.Str.{IsCharBoundary}
use Rattle.java_tokens.specs.declared.token.Token.{Token}
use Rattle.java_tokens.specs.Tokens.{IsWithin, AreWithin}
use Rattle.java_units.specs.Signs.{Sign, is_word, signs_of}
use Rattle.java_units.specs.declared.types.SourceClass.{SourceClass}
use Rattle.java_units.specs.declared.types.Unit as unit
use Rattle.java_bodies.specs.Places.{touches, touched, is_free, prefix_start, passed}
use Rattle.java_bodies.specs.Methods.{method_at}
use Rattle.java_bodies.specs.Sites.{sight_in, body_signs, is_static, site_by, in_body, in_method, in_class, in_classes, hole_behind, hole_of}
use Rattle.java_bodies.specs.declared.site.HoleSite.{HoleSite}
use Rattle.sessions.specs.Spots.{IsSpot}
use Rattle.sessions.proofs.Cases.{by_test}

-- A site that comes of this has the prefix.
abbrev AllAt : ℕ × ℕ → Option HoleSite → Type 0
AllAt prefix o = (s : HoleSite) → o ≡ Some s → s.prefix ≡ prefix

same_site : (r s : HoleSite) → Some r ≡ Some s → r ≡ s
same_site r s e = cc

no_site : {P : Type 0} (s : HoleSite) → None ≡ Some s → P
no_site s e = absurd cc

behind_prefix : (n count : ℕ) (ss : List Sign) (prefix : ℕ × ℕ) (cs : List SourceClass) → AllAt prefix (hole_behind n count ss prefix cs)
unfolding hole_behind
behind_prefix n count ss prefix cs s e =
    elim (method_at n count ss cs) as (λ o. in_classes n ss prefix cs o ≡ Some s → s.prefix ≡ prefix) [
      | None ↦ λ e. no_site s e
      | Some at ↦ λ e. elim (slice_get cs at.class) as (λ o. in_class n ss prefix at o ≡ Some s → s.prefix ≡ prefix) [
        | None ↦ λ e. no_site s e
        | Some c ↦ λ e. elim (slice_get c.methods at.method) as (λ o. in_method n ss prefix at c o ≡ Some s → s.prefix ≡ prefix) [
          | None ↦ λ e. no_site s e
          | Some m ↦ λ e. elim m.body as (λ o. in_body n ss prefix at c m o ≡ Some s → s.prefix ≡ prefix) [
            | None ↦ λ e. no_site s e
            | Some r ↦ λ e. elim (sight_in c m (body_signs n ss r.0)) as (λ o. site_by at (is_static m.flags) prefix o ≡ Some s → s.prefix ≡ prefix) [
              | None ↦ λ e. no_site s e
              | Some x ↦ λ e.
                  let y : HoleSite = record { wanted = x.wanted; class = at.class; method = at.method; is_static = is_static m.flags; locals = x.names.locals; hidden = x.names.hidden; prefix = prefix } in
                  sym (ap (λ (z : HoleSite). z.prefix) (same_site y s e))
            ] e
          ] e
        ] e
      ] e
    ] e

picked_prefix : (prefix : ℕ × ℕ) (b : Bool) (o : Option HoleSite) → AllAt prefix o → AllAt prefix (if b then o else None)
picked_prefix prefix true o h = h
picked_prefix prefix false o h = λ s e. no_site s e

hole_prefix : (text : List ℕ) (tokens : List Token) (u : unit.Unit) (place : ℕ) → AllAt (prefix_start place (touched tokens place), place) (hole_of text tokens u place)
unfolding hole_of
hole_prefix text tokens u place =
    let start = prefix_start place (touched tokens place) in
    picked_prefix (start, place) (is_free text place (touched tokens place)) _ (behind_prefix (passed tokens start) (length tokens) (signs_of text tokens) (start, place) u.classes)

no_token : {P : Type 0} (t : Token) → None ≡ Some t → P
no_token t e = absurd cc

same_token : (x t : Token) → Some x ≡ Some t → x ≡ t
same_token x t e = cc

found_within : (text : List ℕ) (p : Token → Bool) (ts : List Token) (t : Token) → AreWithin text ts → find p ts ≡ Some t → IsWithin text t
found_within text p [] t h e = no_token t e
found_within text p (x ∷ xs) t h e = by_test (p x)
    (λ is. subst (λ y. IsWithin text y) (same_token x t (rw is at e)) h.0)
    (λ is. found_within text p xs t h.1 (rw is at e))

picked_boundary : (text : List ℕ) (b : Bool) (n m : ℕ) → IsCharBoundary text n → IsCharBoundary text m → IsCharBoundary text (if b then n else m)
picked_boundary text true n m k l = k
picked_boundary text false n m k l = l

start_boundary : (text : List ℕ) (place : ℕ) (o : Option Token) → ((t : Token) → o ≡ Some t → IsWithin text t) → IsCharBoundary text place → IsCharBoundary text (prefix_start place o)
unfolding prefix_start
start_boundary text place None h b = b
start_boundary text place (Some t) h b = picked_boundary text (t.end == place && is_word t.kind) t.start place (h t refl).start b

touched_within : (text : List ℕ) (tokens : List Token) (place : ℕ) (t : Token) → AreWithin text tokens → touched tokens place ≡ Some t → IsWithin text t
unfolding touched
touched_within text tokens place t h e = found_within text (touches place) tokens t h e

-- Where the prefix of a spot's hole begins, and where it ends.
pub prefix_starts : (text : List ℕ) (place : ℕ) (u : unit.Unit) (o : Option HoleSite) (s : HoleSite) → IsSpot text place u o → o ≡ Some s → IsCharBoundary text place → IsCharBoundary text s.prefix.0
prefix_starts text place u o s h some b =
    let is : s.prefix ≡ (prefix_start place (touched h.tokens place), place) = hole_prefix text h.tokens u place s (sym h.is ∙ some) in
    subst (λ n. IsCharBoundary text n) (sym (ap (λ (q : ℕ × ℕ). q.0) is)) (start_boundary text place (touched h.tokens place) (λ t e. touched_within text h.tokens place t h.whole e) b)

pub prefix_ends : (text : List ℕ) (place : ℕ) (u : unit.Unit) (o : Option HoleSite) (s : HoleSite) → IsSpot text place u o → o ≡ Some s → IsCharBoundary text place → IsCharBoundary text s.prefix.1
prefix_ends text place u o s h some b =
    let is : s.prefix ≡ (prefix_start place (touched h.tokens place), place) = hole_prefix text h.tokens u place s (sym h.is ∙ some) in
    subst (λ n. IsCharBoundary text n) (sym (ap (λ (q : ℕ × ℕ). q.1) is)) b
