-- The lines of a sample, from what they were made of.
use Rattle.std.proofs.Common.{◌≡◌, ◌∙◌, ◌++◌, ℕ, List, length, sym, ap, ap₂, subst, Result, Ok, Err}
use Rattle.std.specs.Prelude.{codes, decimal, IfOk}
use Rattle.class_shape.specs.declared.shapes.ClassShape.{ClassShape}
use Rattle.terms.specs.declared.parts.Parts.{Parts}
use Rattle.workload.specs.Samples.{sample_of}
use Rattle.workload.specs.declared.sample.Sample.{Sample}
use Rattle.samples.specs.Samples.{publication_of, history_of, hole_of, goal_of, IsLawful, HasEnvironment}
use Rattle.samples.specs.Lines.{ArePageLines, AreLinesOf}

abbrev joined : ℕ → List ℕ → List ℕ → List ℕ
joined classes goal page = codes "classes " ++ (decimal classes ++ (codes "\ngoal C" ++ (goal ++ (codes "\n" ++ page))))

abbrev Tells : ℕ → List ℕ → Sample → Type 0
Tells n lines s = (env : Parts) (goal page : List ℕ) → IsLawful (publication_of s.classes) → HasEnvironment (history_of s.classes) (hole_of s) env
    → ArePageLines env page → goal ≡ decimal (goal_of n) → lines ≡ joined (length s.classes) goal page → AreLinesOf n lines

of_sample : (n : ℕ) (lines : List ℕ) → Tells n lines (sample_of n)
of_sample n lines env goal page lawful place first digits e = record {
  env = env;
  page = first.page;
  lawful = lawful;
  place = place;
  first = first.first;
  told = e ∙ ap₂ (λ g p. joined (length (sample_of n).classes) g p) digits first.told;
}

lines_are : (n : ℕ) (s : Sample) (lines : List ℕ) → s ≡ sample_of n → Tells n lines s
lines_are n s lines e = subst (Tells n lines) (sym e) (of_sample n lines)

-- The same, where the classes and the text are told by what borrows them.
pub lines_from : (n : ℕ) (s : Sample) (classes : List ClassShape) (text : List ℕ) (count : ℕ) (env : Parts) (goal page lines : List ℕ)
    → s ≡ sample_of n → classes ≡ s.classes → text ≡ s.source → count ≡ length s.classes
    → IsLawful (publication_of classes) → HasEnvironment (history_of classes) (record { text = text; place = s.place; limit = 4000; depth = 1 }) env
    → ArePageLines env page → goal ≡ decimal (goal_of n) → lines ≡ joined count goal page → AreLinesOf n lines
lines_from n s classes text count env goal page lines drawn_is same read counted lawful place first digits e =
    lines_are n s lines drawn_is env goal page
    (subst (λ cs. IsLawful (publication_of cs)) same lawful)
    (subst (λ t. HasEnvironment (history_of s.classes) (record { text = t; place = s.place; limit = 4000; depth = 1 }) env) read
    (subst (λ cs. HasEnvironment (history_of cs) (record { text = text; place = s.place; limit = 4000; depth = 1 }) env) same place))
    first digits (e ∙ ap (λ n. joined n goal page) counted)

-- What holds of an answer, from what else holds of it.
pub on_ok : {T E : Type 0} (r : Result T E) {P Q : T → Type 0} → IfOk r P → ((x : T) → P x → Q x) → IfOk r Q
on_ok (Ok x) p f = f x p
on_ok (Err e) p f = tt
