-- What a result says, from what it said before.
use Rattle.std.proofs.Common.{◌≡◌, ◌⊎◌, inl, inr, subst}
use Rattle.std.specs.Prelude.{Result, Ok, Err, IfOk, IfErr, Option, Some, None, MatchOption}

pub ok_then : {A E : Type 0} (P Q : A → Type 0) (r : Result A E) → IfOk r P → ((x : A) → P x → Q x) → IfOk r Q
ok_then P Q (Ok x) h f = f x h
ok_then P Q (Err e) h f = h

pub err_then : {A E : Type 0} (P Q : E → Type 0) (r : Result A E) → IfErr r P → ((e : E) → P e → Q e) → IfErr r Q
err_then P Q (Ok x) h f = h
err_then P Q (Err e) h f = f e h

pub or_then : {A B C : Type 0} → A ⊎ B → (B → C) → A ⊎ C
or_then (inl a) f = inl a
or_then (inr b) f = inr (f b)

pub some_of : {A : Type 0} (P : Type 0) (Q : A → Type 0) (r : Option A) (x : A) → MatchOption r P Q → r ≡ Some x → Q x
some_of P Q (Some y) x h e = let s : y ≡ x = cc in subst Q s h
some_of P Q None x h e = absurd cc

pub none_of : {A : Type 0} (P : Type 0) (Q : A → Type 0) (r : Option A) → MatchOption r P Q → r ≡ None → P
none_of P Q (Some y) h e = absurd cc
none_of P Q None h e = h
