-- Places before and behind an expression, and how the reader goes through names up to them.
use Rattle.std.proofs.Common.{◌≡◌, ◌∙◌, inl, inr, ap, sym, subst, refl, ℕ, not, Bool, true, false, List, [], ◌∷◌, ◌++◌, Option, Some, None, codes, append_assoc, append-nil, if◌then◌else◌}
use Rattle.std.specs.List.{list_all}
use Rattle.std.proofs.lemmas.Bool.{false≢true, and_parts}
use Rattle.std.proofs.lemmas.List.{append_cancel_right}
use Rattle.java_units.specs.Signs.{has}
use Rattle.java_shapes.specs.Words.{spells_identifier, begins_name, dotted, is_binder, IsQualified, IsNamePath, IsCallPath, may_call}
use Rattle.java_shapes.specs.Shape.{Shape, named, called, lambda, Before, nothing, Shapes, no_shapes}
use Rattle.java_shapes.specs.Reader.{Around, in_call, in_body, in_group, Part, first, later, opened, either, either_opened, call_opened, call_closed, start, is_barred, close, is_fresh, is_this_dot, when, first_step, step, run, unwrapped, ended}
use Rattle.java_shapes.proofs.WordFacts.{and_both, cut_same, identifier_word, has_cases, has_none}
use Rattle.java_shapes.proofs.RunWords.{step_runs, later_word, last_of, front_of, front_last, last_spells, later_path, StartsWords, first_runs, begins_dotless, no_empty_word}
use Rattle.java_shapes.proofs.RunForms.{head_rest, lambda_opened, cast_lambda, path_whole}

-- a place before an expression: how it goes on
pub record Starts (p : List ℕ) (q : Part) (a : Around) (c : Option (List ℕ)) : Type 0 where
  pub words : StartsWords p q a c
  pub group : is_barred a c ≡ false → (ks : List ℕ) → run p q (40 ∷ 40 ∷ ks) ≡ run p (opened (in_group a c) None) ks
  pub to_lambda : (n : List ℕ) (bs : List (List ℕ)) (ks : List ℕ) → IsQualified n → list_all (is_binder p) bs ≡ true → run p q (40 ∷ head_rest n bs ks) ≡ run p (start (in_body a c n bs) None) ks

-- the same where a cast may stand
pub record Begins (p : List ℕ) (q : Part) (a : Around) : Type 0 where
  pub words : StartsWords p q a None
  pub left : step p q 40 ≡ Some (opened a None)

pub group_opened : (p : List ℕ) (a : Around) (c : Option (List ℕ)) → is_barred a c ≡ false → step p (opened a c) 40 ≡ Some (opened (in_group a c) None)
unfolding step
group_opened p a c h = ap (λ x. when (not x) (opened (in_group a c) None)) h

pub start_left : (p : List ℕ) (a : Around) (c : Option (List ℕ)) → step p (start a c) 40 ≡ Some (opened a c)
unfolding step
start_left p a c = refl

pub starts_by : (p : List ℕ) → spells_identifier p ≡ true → (q : Part) (a : Around) (c : Option (List ℕ)) → StartsWords p q a c → step p q 40 ≡ Some (opened a c) → Starts p q a c
starts_by p id q a c words left = record {
  words = words;
  group = λ h ks. step_runs p q (opened a c) 40 (40 ∷ ks) left ∙ step_runs p (opened a c) (opened (in_group a c) None) 40 ks (group_opened p a c h);
  to_lambda = λ n bs ks s all. step_runs p q (opened a c) 40 (head_rest n bs ks) left ∙ lambda_opened p id a c n bs ks s all;
}

pub plain_words : (p : List ℕ) (a : Around) (c : Option (List ℕ)) → StartsWords p (start a c) a c
plain_words p a c = record { words = λ k n m. refl }

pub plain_starts : (p : List ℕ) → spells_identifier p ≡ true → (a : Around) (c : Option (List ℕ)) → Starts p (start a c) a c
plain_starts p id a c = starts_by p id (start a c) a c (plain_words p a c) (start_left p a c)

pub begins_starts : (p : List ℕ) → spells_identifier p ≡ true → (q : Part) (a : Around) → Begins p q a → Starts p q a None
begins_starts p id q a b = starts_by p id q a None b.words b.left

pub plain_begins : (p : List ℕ) (a : Around) → Begins p (start a None) a
plain_begins p a = record { words = plain_words p a None; left = start_left p a None }

pub call_begins : (p : List ℕ) (a : Around) (c : Option (List ℕ)) (b : Before) (t : List ℕ) → Begins p (call_opened a c b t) (in_call a c b t no_shapes)
unfolding step
call_begins p a c b t = record {
  words = record { words = λ k n m. ap (λ x. if x then Some (call_closed a c b t no_shapes) else first_step (in_call a c b t no_shapes) None [] k) m };
  left = refl;
}

pub either_words : (p : List ℕ) (a : Around) (s : List ℕ) → StartsWords p (either a s) a (Some s)
unfolding step
either_words p a s = record { words = λ k n m. ap (λ x. if x then Some (either_opened a s) else first_step a (Some s) [] k) n }

pub either_group : (p : List ℕ) (a : Around) (s ks : List ℕ) → run p (either a s) (40 ∷ 40 ∷ ks) ≡ run p (opened (in_group a (Some s)) None) ks
unfolding step
either_group p a s ks = step_runs p (either a s) (either_opened a s) 40 (40 ∷ ks) refl ∙ step_runs p (either_opened a s) (opened (in_group a (Some s)) None) 40 ks refl

pub either_starts : (p : List ℕ) → spells_identifier p ≡ true → (a : Around) (s : List ℕ) → Starts p (either a s) a (Some s)
either_starts p id a s = record { words = either_words p a s; group = λ h ks. either_group p a s ks; to_lambda = λ n bs ks q all. cast_lambda p id a s n bs ks q all }

-- a place behind a whole expression
pub record Behind (p : List ℕ) (r : Part) (a : Around) (c : Option (List ℕ)) (e : Shape) : Type 0 where
  pub right : step p r 41 ≡ close a c e 41
  pub comma : step p r 44 ≡ close a c e 44
  pub over : ended r ≡ unwrapped a c e

-- a text that is read to such a place
pub record Read (p : List ℕ) (q : Part) (a : Around) (c : Option (List ℕ)) (text : List ℕ) (e : Shape) : Type 0 where
  pub state : Part
  pub runs : (ks : List ℕ) → run p q (text ++ ks) ≡ run p state ks
  pub behind : Behind p state a c e

pub first_behind : (p : List ℕ) (a : Around) (c : Option (List ℕ)) (w : List ℕ) → begins_name w ≡ true → Behind p (first a c w) a c (named nothing w)
unfolding step
first_behind p a c w h = record {
  right = ap (λ x. if x then close a c (named nothing w) 41 else None) h;
  comma = ap (λ x. if x then close a c (named nothing w) 44 else None) h;
  over = ap (λ x. if x then unwrapped a c (named nothing w) else None) h;
}

pub later_behind : (p : List ℕ) (a : Around) (c : Option (List ℕ)) (b : Before) (done w : List ℕ) → spells_identifier w ≡ true → is_fresh b ≡ false → Behind p (later a c b done w) a c (named b (done ++ w))
unfolding step
later_behind p a c b done w h f =
    let both = and_both (spells_identifier w) (not (is_fresh b)) h (ap not f) in
    record {
      right = ap (λ x. if x then close a c (named b (done ++ w)) 41 else None) both;
      comma = ap (λ x. if x then close a c (named b (done ++ w)) 44 else None) both;
      over = ap (λ x. if x then unwrapped a c (named b (done ++ w)) else None) both;
    }

pub closed_behind : (p : List ℕ) (a : Around) (c : Option (List ℕ)) (b : Before) (t : List ℕ) (args : Shapes) → Behind p (call_closed a c b t args) a c (called b t args)
unfolding step
closed_behind p a c b t args = record { right = refl; comma = refl; over = refl }

pub body_behind : (p : List ℕ) (r : Part) (a : Around) (c d : Option (List ℕ)) (s : List ℕ) (bs : List (List ℕ)) (e : Shape) → Behind p r (in_body a c s bs) d e → Behind p r a c (lambda s bs d e)
unfolding close unwrapped
body_behind p r a c d s bs e h = record { right = h.right; comma = h.comma; over = h.over }

-- names
pub first_dot : (p : List ℕ) (a : Around) (c : Option (List ℕ)) (w : List ℕ) → begins_name w ≡ true → step p (first a c w) 46 ≡ Some (later a c nothing (w ++ 46 ∷ []) [])
unfolding step
first_dot p a c w h = ap (λ x. when x (later a c nothing (w ++ 46 ∷ []) [])) h

pub later_full : (p : List ℕ) (a : Around) (c : Option (List ℕ)) (b : Before) (done m : List ℕ) (rest : List (List ℕ)) (ks : List ℕ) → spells_identifier m ≡ true → list_all spells_identifier rest ≡ true → run p (later a c b done []) ((m ++ dotted rest) ++ ks) ≡ run p (later a c b (front_of done m rest) (last_of m rest)) ks
later_full p a c b done m rest ks h k =
    ap (run p (later a c b done [])) (append_assoc m (dotted rest) ks) ∙ later_word p a c b done m [] (dotted rest ++ ks) (identifier_word m h) ∙ later_path p a c b done m rest ks h k

pub dotted_runs : (p : List ℕ) (q : Part) (a : Around) (c : Option (List ℕ)) → StartsWords p q a c → is_barred a c ≡ false → (w m : List ℕ) (ms : List (List ℕ)) (ks : List ℕ) → begins_name w ≡ true → list_all spells_identifier (m ∷ ms) ≡ true
    → run p q ((w ++ dotted (m ∷ ms)) ++ ks) ≡ run p (later a c nothing (front_of (w ++ 46 ∷ []) m ms) (last_of m ms)) ks
unfolding dotted
dotted_runs p q a c s bar w m ms ks h all =
    let r = and_parts (spells_identifier m) (list_all spells_identifier ms) all in
    ap (run p q) (append_assoc w (46 ∷ (m ++ dotted ms)) ks)
    ∙ first_runs p q a c s bar w (46 ∷ ((m ++ dotted ms) ++ ks)) h
    ∙ step_runs p (first a c w) (later a c nothing (w ++ 46 ∷ []) []) 46 ((m ++ dotted ms) ++ ks) (first_dot p a c w h)
    ∙ later_full p a c nothing (w ++ 46 ∷ []) m ms ks r.0 r.1

pub dotted_whole : (w m : List ℕ) (ms : List (List ℕ)) → front_of (w ++ 46 ∷ []) m ms ++ last_of m ms ≡ w ++ dotted (m ∷ ms)
unfolding dotted
dotted_whole w m ms = front_last (w ++ 46 ∷ []) m ms ∙ append_assoc w (46 ∷ []) (m ++ dotted ms)

pub name_by : (p : List ℕ) (q : Part) (a : Around) (c : Option (List ℕ)) → StartsWords p q a c → is_barred a c ≡ false → (w : List ℕ) (rest : List (List ℕ)) → begins_name w ≡ true → list_all spells_identifier rest ≡ true → Read p q a c (w ++ dotted rest) (named nothing (w ++ dotted rest))
unfolding dotted
name_by p q a c s bar w [] h all = record {
  state = first a c w;
  runs = λ ks. ap (λ x. run p q (x ++ ks)) (append-nil w) ∙ first_runs p q a c s bar w ks h;
  behind = subst (λ x. Behind p (first a c w) a c (named nothing x)) (sym (append-nil w)) (first_behind p a c w h);
}
name_by p q a c s bar w (m ∷ ms) h all =
    let r = and_parts (spells_identifier m) (list_all spells_identifier ms) all in
    record {
      state = later a c nothing (front_of (w ++ 46 ∷ []) m ms) (last_of m ms);
      runs = λ ks. dotted_runs p q a c s bar w m ms ks h all;
      behind = subst (λ x. Behind p (later a c nothing (front_of (w ++ 46 ∷ []) m ms) (last_of m ms)) a c (named nothing x)) (dotted_whole w m ms)
          (later_behind p a c nothing (front_of (w ++ 46 ∷ []) m ms) (last_of m ms) (last_spells m ms r.0 r.1) refl);
    }

pub name_first : (p : List ℕ) (q : Part) (a : Around) (c : Option (List ℕ)) → StartsWords p q a c → is_barred a c ≡ false → (t : List ℕ) → IsNamePath t → Read p q a c t (named nothing t)
name_first p q a c s bar t n = subst (λ x. Read p q a c x (named nothing x)) (sym n.is) (name_by p q a c s bar n.first n.rest n.first_is n.rest_are)

pub name_after : (p : List ℕ) (a : Around) (c : Option (List ℕ)) (b : Before) → is_fresh b ≡ false → (t : List ℕ) → IsQualified t → Read p (later a c b [] []) a c t (named b t)
name_after p a c b f t n = record {
  state = later a c b (front_of [] n.first n.rest) (last_of n.first n.rest);
  runs = λ ks. ap (λ x. run p (later a c b [] []) (x ++ ks)) n.is ∙ later_full p a c b [] n.first n.rest ks n.first_is n.rest_are;
  behind = subst (λ x. Behind p (later a c b (front_of [] n.first n.rest) (last_of n.first n.rest)) a c (named b x)) (path_whole t n)
      (later_behind p a c b (front_of [] n.first n.rest) (last_of n.first n.rest) (last_spells n.first n.rest n.first_is n.rest_are) f);
}

-- the name of a call, up to its `(`
pub record CallNamed (p : List ℕ) (q : Part) (a : Around) (c : Option (List ℕ)) (b : Before) (text t : List ℕ) : Type 0 where
  pub state : Part
  pub runs : (ks : List ℕ) → run p q (text ++ ks) ≡ run p state ks
  pub opens : step p state 40 ≡ Some (call_opened a c b t)

pub first_call : (p : List ℕ) (a : Around) (c : Option (List ℕ)) (w : List ℕ) → spells_identifier w ≡ true → step p (first a c w) 40 ≡ Some (call_opened a c nothing w)
unfolding step
first_call p a c [] h = absurd (no_empty_word (identifier_word [] h))
first_call p a c (k ∷ w) h = ap (λ x. when x (call_opened a c nothing (k ∷ w))) h

pub later_call : (p : List ℕ) (a : Around) (c : Option (List ℕ)) (b : Before) (done w : List ℕ) → spells_identifier w ≡ true → is_this_dot b done ≡ false → step p (later a c b done w) 40 ≡ Some (call_opened a c b (done ++ w))
unfolding step
later_call p a c b done w h d = ap (λ x. when x (call_opened a c b (done ++ w))) (and_both (spells_identifier w) (not (is_this_dot b done)) h (ap not d))

pub no_has : (k w : List ℕ) → (k ≡ w → ⊥) → has (k ∷ []) w ≡ false
no_has k w h = no_has_by k w h (has (k ∷ []) w) refl
  where
    no_has_by : (k w : List ℕ) → (k ≡ w → ⊥) → (x : Bool) → has (k ∷ []) w ≡ x → x ≡ false
    no_has_by k w h true e = elim (has_cases k [] w e) [ inl same ↦ absurd (h same) | inr none ↦ absurd (has_none w none) ]
    no_has_by k w h false e = refl

pub front_begins : (done m : List ℕ) (rest : List (List ℕ)) → (x : List ℕ) × (front_of done m rest ≡ done ++ x)
unfolding front_of
front_begins done m [] = ([], sym (append-nil done))
front_begins done m (n ∷ rest) = let h = front_begins (done ++ (m ++ 46 ∷ [])) n rest in ((m ++ 46 ∷ []) ++ h.0, h.1 ∙ append_assoc done (m ++ 46 ∷ []) h.0)

pub has_this : has (codes "this" ∷ []) (codes "this") ≡ true
unfolding has
has_this = refl

pub not_empty : (m x : List ℕ) → [] ≡ (m ++ 46 ∷ []) ++ x → ⊥
not_empty [] x e = cc
not_empty (c ∷ m) x e = cc

pub no_this_dot : (w m : List ℕ) (ms : List (List ℕ)) → begins_name w ≡ true → may_call w (m ∷ ms) ≡ true → codes "this." ≡ front_of (w ++ 46 ∷ []) m ms → ⊥
unfolding front_of
no_this_dot w m [] h may e =
    let same : codes "this" ≡ w = append_cancel_right (codes "this") w (46 ∷ []) e in
    false≢true (sym (ap (λ x. not (has (codes "this" ∷ []) x)) (sym same) ∙ ap not has_this) ∙ may)
no_this_dot w m (n ∷ ms) h may e =
    let f = front_begins ((w ++ 46 ∷ []) ++ (m ++ 46 ∷ [])) n ms in
    let is = e ∙ f.1 ∙ append_assoc (w ++ 46 ∷ []) (m ++ 46 ∷ []) f.0 ∙ append_assoc w (46 ∷ []) ((m ++ 46 ∷ []) ++ f.0) in
    not_empty m f.0 (cut_same 46 (codes "this") w [] ((m ++ 46 ∷ []) ++ f.0) refl (begins_dotless w h) is).1

pub call_by_path : (p : List ℕ) (q : Part) (a : Around) (c : Option (List ℕ)) → StartsWords p q a c → is_barred a c ≡ false → (w : List ℕ) (rest : List (List ℕ)) → begins_name w ≡ true → list_all spells_identifier rest ≡ true → may_call w rest ≡ true → CallNamed p q a c nothing (w ++ dotted rest) (w ++ dotted rest)
unfolding dotted
call_by_path p q a c s bar w [] h all may = record {
  state = first a c w;
  runs = λ ks. ap (λ x. run p q (x ++ ks)) (append-nil w) ∙ first_runs p q a c s bar w ks h;
  opens = first_call p a c w may ∙ ap (λ x. Some (call_opened a c nothing x)) (sym (append-nil w));
}
call_by_path p q a c s bar w (m ∷ ms) h all may =
    let r = and_parts (spells_identifier m) (list_all spells_identifier ms) all in
    record {
      state = later a c nothing (front_of (w ++ 46 ∷ []) m ms) (last_of m ms);
      runs = λ ks. dotted_runs p q a c s bar w m ms ks h all;
      opens = later_call p a c nothing (front_of (w ++ 46 ∷ []) m ms) (last_of m ms) (last_spells m ms r.0 r.1) (no_has (codes "this.") (front_of (w ++ 46 ∷ []) m ms) (no_this_dot w m ms h may))
          ∙ ap (λ x. Some (call_opened a c nothing x)) (dotted_whole w m ms);
    }

pub call_first : (p : List ℕ) (q : Part) (a : Around) (c : Option (List ℕ)) → StartsWords p q a c → is_barred a c ≡ false → (t : List ℕ) → IsCallPath t → CallNamed p q a c nothing t t
call_first p q a c s bar t n = subst (λ x. CallNamed p q a c nothing x x) (sym n.path.is) (call_by_path p q a c s bar n.path.first n.path.rest n.path.first_is n.path.rest_are n.last)

pub call_after : (p : List ℕ) (a : Around) (c : Option (List ℕ)) (b : Before) → ((done : List ℕ) → is_this_dot b done ≡ false) → (t : List ℕ) → IsQualified t → CallNamed p (later a c b [] []) a c b t t
call_after p a c b d t n = record {
  state = later a c b (front_of [] n.first n.rest) (last_of n.first n.rest);
  runs = λ ks. ap (λ x. run p (later a c b [] []) (x ++ ks)) n.is ∙ later_full p a c b [] n.first n.rest ks n.first_is n.rest_are;
  opens = later_call p a c b (front_of [] n.first n.rest) (last_of n.first n.rest) (last_spells n.first n.rest n.first_is n.rest_are) (d (front_of [] n.first n.rest))
      ∙ ap (λ x. Some (call_opened a c b x)) (path_whole t n);
}
