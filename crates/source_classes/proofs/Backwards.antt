-- Lists that are read from the last item to the first.
use Rattle.std.proofs.Common.{◌≡◌, ◌∙◌, ap, sym, Bool, true, false, cond, List, [], ◌∷◌, ◌++◌, append-nil, append_assoc, filter}
use Rattle.std.specs.Prelude.{reverse}
use Rattle.std.proofs.lemmas.List.{reverse-append}

-- what the items read so far give, the last first
pub record IsReadBack {A B : Type 0} (f : List A → List B) (whole left : List A) (kept : List B) : Type 0 where
  pub done : List A
  pub split : whole ≡ left ++ done
  pub is : reverse kept ≡ f done

abbrev pub back_first : {A B : Type 0} (f : List A → List B) (whole left : List A) (kept : List B) → f [] ≡ [] → left ≡ whole → kept ≡ [] → IsReadBack f whole left kept
back_first f whole left kept z e k = record { done = []; split = sym e ∙ sym (append-nil left); is = ap reverse k ∙ sym z }

-- an item that gives nothing
abbrev pub back_skip : {A B : Type 0} (f : List A → List B) (whole left more : List A) (kept : List B) (x : A) (h : IsReadBack f whole left kept) → left ≡ more ++ x ∷ [] → f (x ∷ h.done) ≡ f h.done → IsReadBack f whole more kept
back_skip f whole left more kept x h e g = record {
  done = x ∷ h.done;
  split = h.split ∙ ap (λ r. r ++ h.done) e ∙ append_assoc more (x ∷ []) h.done;
  is = h.is ∙ sym g;
}

-- an item that gives one
abbrev pub back_keep : {A B : Type 0} (f : List A → List B) (whole left more : List A) (kept new : List B) (x : A) (y : B) (h : IsReadBack f whole left kept) → left ≡ more ++ x ∷ [] → new ≡ kept ++ y ∷ [] → f (x ∷ h.done) ≡ y ∷ f h.done → IsReadBack f whole more new
back_keep f whole left more kept new x y h e n g = record {
  done = x ∷ h.done;
  split = h.split ∙ ap (λ r. r ++ h.done) e ∙ append_assoc more (x ∷ []) h.done;
  is = ap reverse n ∙ reverse-append kept (y ∷ []) ∙ ap (λ r. y ∷ r) h.is ∙ sym g;
}

-- all items were read
pub back_end : {A B : Type 0} (f : List A → List B) (whole left : List A) (kept : List B) → left ≡ [] → IsReadBack f whole left kept → reverse kept ≡ f whole
back_end f whole left kept e h = h.is ∙ ap f (sym (h.split ∙ ap (λ r. r ++ h.done) e))

pub filter_skip : {A : Type 0} (test : A → Bool) (x : A) (xs : List A) → test x ≡ false → filter test (x ∷ xs) ≡ filter test xs
filter_skip test x xs e = ap (λ b. cond b (x ∷ filter test xs) (filter test xs)) e

pub filter_keep : {A : Type 0} (test : A → Bool) (x : A) (xs : List A) → test x ≡ true → filter test (x ∷ xs) ≡ x ∷ filter test xs
filter_keep test x xs e = ap (λ b. cond b (x ∷ filter test xs) (filter test xs)) e

-- an item that the test drops, and one that it keeps
pub filtered_skip : {A : Type 0} (test : A → Bool) (whole left more kept : List A) (x : A) → left ≡ more ++ x ∷ [] → test x ≡ false → IsReadBack (filter test) whole left kept → IsReadBack (filter test) whole more kept
filtered_skip test whole left more kept x e t h = back_skip (filter test) whole left more kept x h e (filter_skip test x h.done t)

pub filtered_keep : {A : Type 0} (test : A → Bool) (whole left more kept new : List A) (x : A) → left ≡ more ++ x ∷ [] → test x ≡ true → new ≡ kept ++ x ∷ [] → IsReadBack (filter test) whole left kept → IsReadBack (filter test) whole more new
filtered_keep test whole left more kept new x e t n h = back_keep (filter test) whole left more kept new x x h e n (filter_keep test x h.done t)
