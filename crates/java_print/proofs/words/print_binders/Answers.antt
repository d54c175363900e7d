use Rattle.std.proofs.Common.{◌≡◌, ◌++◌, ◌∷◌, [], ℕ, List, suc, ◌+◌, ◌-◌, ◌==◌, Bool, false, true, map, ap, sym, ◌∙◌, arith, refl, rules, append_assoc, append-nil, add-one}
use Rattle.std.specs.List.{range_with_len}
use Rattle.std.proofs.lemmas.Bool.{ne_eqb}
use Rattle.terms.specs.Text.{variable_text, binders_text, listed}
use Rattle.java_print.specs.Pieces.{separator, rest_text}
use Rattle.java_print.proofs.Lists.{rest-more, rest-first, rest-none, written}
use Rattle.java_print.proofs.words.print_binders.Goals as goal

-- the next number of a range and the others
range-next : (f : ℕ → List ℕ) (a k n m : ℕ) → n ≡ suc m → map f (range_with_len (a + k) n) ≡ f (a + k) ∷ map f (range_with_len (a + (k + 1)) m)
range-next f a k n m e = rw e (ap (λ b. f (a + k) ∷ map f (range_with_len b m)) (omega arith))

pub loop-k-init : goal.loop-k-init
loop-k-init c =
    let start : c.args.from + 0 ≡ c.args.from = omega arith in
    let all : c.args.count - 0 ≡ c.args.count = omega arith in
    rw (start, all) (ap (λ t. c.args.out.now ++ t) (rest-first _))

pub loop-k-preserved : goal.loop-k-preserved
loop-k-preserved c =
    let k = c.loop-k.k in
    let left = c.args.count - (k + 1) in
    let v = variable_text c.args.parts.now in
    let later : (k + 1 == 0) ≡ false = ne_eqb (k + 1) 0 (λ e. omega arith) in
    let more = map v (range_with_len (c.args.from + (k + 1)) left) in
    let next : map v (range_with_len (c.args.from + k) (c.args.count - k)) ≡ v (c.args.from + k) ∷ more = range-next v c.args.from k (c.args.count - k) left (omega arith) in
    let piece : rest_text (k == 0) (map v (range_with_len (c.args.from + k) (c.args.count - k))) ≡ separator (k == 0) ++ (v (c.args.from + k) ++ rest_text false more)
    = ap (rest_text (k == 0)) next ∙ rest-more (k == 0) (v (c.args.from + k)) more in
    let o1 : c.push_str.new.self ≡ c.loop-k.out ++ separator (k == 0) = search rules in
    rw later (written c.loop-k.out c.push_str.new.self c.print_variable.new.out (separator (k == 0)) (v (c.args.from + k)) (rest_text false more) o1 (search rules)
    ∙ ap (λ t. c.loop-k.out ++ t) (sym piece) ∙ c.loop-k.invariant)

pub returns : goal.returns
returns c =
    let none : c.args.count - c.loop-k.k ≡ 0 = omega arith in
    let over : rest_text (c.loop-k.k == 0) (map (variable_text c.args.parts.now) (range_with_len (c.args.from + c.loop-k.k) (c.args.count - c.loop-k.k))) ≡ [] = rw none (rest-none (c.loop-k.k == 0)) in
    sym (append-nil c.loop-k.out) ∙ ap (λ t. c.loop-k.out ++ t) (sym over) ∙ c.loop-k.invariant
