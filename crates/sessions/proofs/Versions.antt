-- The reply that tells a version, up to the version.
use Rattle.std.proofs.Common.{◌≡◌, ◌∙◌, ◌≤◌, ◌-◌, arith, ap, sym, ℕ, List, [], ◌∷◌, ◌++◌, length, length-append, take, append_assoc, Some}
use Rattle.std.specs.Prelude.{codes, decimal}
use Rattle.std.proofs.Math.Seq.{take-append_seam}
use Rattle.std.proofs.lemmas.Fmt.{decimal_digit}
use Rattle.json.specs.Print.{quoted}
use Rattle.serde_json.specs.Written.{compact_text}
use Rattle.json_rpc.specs.declared.message.Id.{Id}
use Rattle.answers.specs.Replies.{id_data}
use Rattle.sessions.specs.Texts.{version_text}
use Rattle.sessions.specs.Changed.{OpensVersion}

-- Pieces of an object with what follows them.
abbrev piece : (a b c d e v more : List ℕ) → List ℕ
piece a b c d e v more = a ++ 58 ∷ (b ++ 44 ∷ (c ++ 58 ∷ (d ++ 44 ∷ (e ++ 58 ∷ 123 ∷ (v ++ 58 ∷ more)))))

carried : (a b c d e v more : List ℕ) → piece a b c d e v [] ++ more ≡ piece a b c d e v more
carried a b c d e v more =
    append_assoc a _ more ∙ ap (λ t. a ++ 58 ∷ t) (append_assoc b _ more ∙ ap (λ t. b ++ 44 ∷ t) (append_assoc c _ more ∙ ap (λ t. c ++ 58 ∷ t)
    (append_assoc d _ more ∙ ap (λ t. d ++ 44 ∷ t) (append_assoc e _ more ∙ ap (λ t. e ++ 58 ∷ 123 ∷ t) (append_assoc v (58 ∷ []) more)))))

closed : (v d : List ℕ) → (v ++ 58 ∷ (d ++ 125 ∷ [])) ++ 125 ∷ [] ≡ v ++ 58 ∷ (d ++ codes "}}")
closed v d = append_assoc v (58 ∷ (d ++ 125 ∷ [])) (125 ∷ []) ∙ ap (λ x. v ++ 58 ∷ x) (append_assoc d (125 ∷ []) (125 ∷ []))

abbrev opening : Id → List ℕ
opening id = 123 ∷ piece (quoted (codes "id")) (compact_text (id_data (Some id))) (quoted (codes "jsonrpc")) (quoted (codes "2.0")) (quoted (codes "result")) (quoted (codes "version")) []

-- The reply is its opening, the version and two brackets.
opened : (id : Id) (n : ℕ) → version_text id n ≡ opening id ++ (decimal n ++ codes "}}")
opened id n =
    let a : List ℕ = quoted (codes "id") in
    let b : List ℕ = compact_text (id_data (Some id)) in
    let c : List ℕ = quoted (codes "jsonrpc") in
    let d : List ℕ = quoted (codes "2.0") in
    let e : List ℕ = quoted (codes "result") in
    let v : List ℕ = quoted (codes "version") in
    ap (λ x. 123 ∷ (a ++ 58 ∷ (b ++ 44 ∷ (c ++ 58 ∷ (d ++ 44 ∷ (e ++ 58 ∷ 123 ∷ x)))))) (closed v (decimal n)) ∙ ap (λ x. 123 ∷ x) (sym (carried a b c d e v (decimal n ++ codes "}}")))

zero : (id : Id) → version_text id 0 ≡ opening id ++ codes "0}}"
zero id = opened id 0 ∙ ap (λ d. opening id ++ (d ++ codes "}}")) (decimal_digit 0 (omega arith))

-- The text of the version 0 is longer than what it is cut by.
pub long : (id : Id) (body : List ℕ) → body ≡ version_text id 0 → 3 ≤ length body
long id body is = rw (is ∙ zero id) (omega (arith, length-append (opening id) (codes "0}}")))

cut : (p body : List ℕ) → body ≡ p ++ codes "0}}" → take (length body - 3) body ≡ p
cut p body is =
    let n : length body - 3 ≡ length p = rw is (omega (arith, length-append p (codes "0}}"))) in
    ap (λ k. take k body) n ∙ ap (take (length p)) is ∙ take-append_seam p (codes "0}}")

-- Cut by the version and the brackets it is an opening.
pub opens : (id : Id) (body left : List ℕ) → body ≡ version_text id 0 → left ≡ take (length body - 3) body → OpensVersion id left
opens id body left is to = λ n. opened id n ∙ ap (λ p. p ++ (decimal n ++ codes "}}")) (sym (to ∙ cut (opening id) body (is ∙ zero id)))
